-- What is marked at the end of a search is what steps lead to.
use Rattle.std.proofs.Common.{◌≡◌, ℕ, Bool, true, List, [], ◌∷◌, length, Option, Some, refl, sym, subst, arith}
use Rattle.geos_flow.specs.declared.edge.Edge.{Edge}
use Rattle.geos_flow.specs.Flow.{Step, Lead, IsLed, MarksWhatIsLed}
use Rattle.geos_flow.specs.Marks.{is_marked}
use Rattle.geos_flow.specs.Waiting.{Has}
use Rattle.geos_flow.proofs.Marked.{has-marked, has-within, is-marked}

module _ (steps : Edge → Option Step) (begun : List Bool) where
  -- a path with one more edge
  pub led-on : (from to : ℕ) (edge : Edge) → IsLed steps begun from → steps edge ≡ Some (record { from = from; to = to }) → IsLed steps begun to
  led-on from to edge led is = record { start = led.start; begins = led.begins; edges = edge ∷ led.edges; lead = (from, led.lead, is) }

  pub led-first : (pc : ℕ) → is_marked begun pc ≡ true → IsLed steps begun pc
  led-first pc is = record { start = pc; begins = is; edges = []; lead = refl }

  abbrev pub AllLed : List Bool → Type 0
  AllLed marks = (k : ℕ) → Has marks k → IsLed steps begun k

  -- steps from what is marked lead to what is marked
  abbrev pub IsClosed : List Bool → Type 0
  IsClosed marks = (edge : Edge) (from to : ℕ) → steps edge ≡ Some (record { from = from; to = to }) → Has marks from → Has marks to

  -- what is led to is marked where all that was is, and steps from there lead to what is marked
  lead-marked : (marks : List Bool) → ((k : ℕ) → Has begun k → Has marks k) → IsClosed marks → (start : ℕ) → Has begun start
      → (edges : List Edge) (pc : ℕ) → Lead steps start edges pc → Has marks pc
  lead-marked marks keeps closed start first [] pc lead = subst (λ k. Has marks k) (sym lead) (keeps start first)
  lead-marked marks keeps closed start first (edge ∷ edges) pc lead =
      closed edge lead.0 pc lead.2 (lead-marked marks keeps closed start first edges lead.0 lead.1)

  pub marks-led : (marks : List Bool) → length marks ≡ 4096 → ((k : ℕ) → Has begun k → Has marks k) → AllLed marks → IsClosed marks
      → MarksWhatIsLed steps begun marks
  marks-led marks len keeps led closed pc = (
    λ is. led pc (has-marked marks pc is),
    λ is. (let has = lead-marked marks keeps closed is.start (has-marked begun is.start is.begins) is.edges pc is.lead in
        is-marked marks pc (let low = has-within marks pc has in omega arith) has),
  )
