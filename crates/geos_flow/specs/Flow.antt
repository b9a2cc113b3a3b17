-- Where ways lead along edges that count.
use Rattle.std.specs.Prelude.{◌≡◌, ◌↔◌, ℕ, Bool, true, if◌then◌else◌, List, [], ◌∷◌, Option, Some, None}
use Rattle.geos_image.specs.Parts.{Parts}
use Rattle.geos_flow.specs.declared.edge.Edge.{Edge}
use Rattle.geos_flow.specs.declared.search.Heading.{Heading}
use Rattle.geos_flow.specs.declared.search.Heading.TheVariants.{Ahead, Back}
use Rattle.geos_flow.specs.Edges.{end_in}
use Rattle.geos_flow.specs.Marks.{is_marked}

-- a step from one pc to another
pub record Step : Type 0 where
  pub from : ℕ
  pub to : ℕ

-- the step along an edge from one pc to another: ahead, or back from its end
abbrev pub step_along : Heading → ℕ → ℕ → Step
step_along Ahead from end = record { from = from; to = end }
step_along Back from end = record { from = end; to = from }

-- the step along an edge of an image, if it counts
abbrev pub step_by : Parts → Heading → (Edge → ℕ → Bool) → Edge → Option Step
step_by image heading counts edge = elim (end_in image edge) [
  | None ↦ None
  | Some end ↦ if counts edge end then Some (step_along heading edge.from end) else None
]

-- steps along edges, the last first, lead from one pc to another
abbrev pub Lead : (Edge → Option Step) → ℕ → List Edge → ℕ → Type 0
Lead steps start [] pc = pc ≡ start
Lead steps start (edge ∷ edges) pc = (before : ℕ) × Lead steps start edges before × (steps edge ≡ Some (record { from = before; to = pc }))

-- steps lead from one pc to another
abbrev pub Leads : (Edge → Option Step) → ℕ → ℕ → Type 0
Leads steps start pc = (edges : List Edge) × Lead steps start edges pc

-- steps lead to a pc from one that is marked
pub record IsLed (steps : Edge → Option Step) (marks : List Bool) (pc : ℕ) : Type 0 where
  pub start : ℕ
  pub begins : is_marked marks start ≡ true
  pub edges : List Edge
  pub lead : Lead steps start edges pc

-- of marks those are that steps lead to from what was marked
abbrev pub MarksWhatIsLed : (Edge → Option Step) → List Bool → List Bool → Type 0
MarksWhatIsLed steps marks new = (pc : ℕ) → (is_marked new pc ≡ true) ↔ IsLed steps marks pc
