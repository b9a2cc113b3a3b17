-- The rows at the ends of edges.
use Rattle.std.proofs.Common.{◌≡◌, ℕ, Bool, true, false, List, length, Some, None, slice_get, refl, sym, ap, ◌∙◌, arith, zero, suc, ◌+◌, [], ◌∷◌, map, add-one}
use Rattle.std.specs.Prelude.{option_map}
use Rattle.std.proofs.lemmas.List.{length-map}
use Rattle.std.proofs.lemmas.Option.{slice_get-map, slice_get_within, same_Some}
use Rattle.geos_opcodes.specs.declared.opcode.Opcode.{Opcode}
use Rattle.geos_opcodes.specs.declared.opcode.Opcode.TheVariants.{Call}
use Rattle.geos_image.specs.declared.instr.Instr.{Instr}
use Rattle.geos_image.specs.declared.row.Row.{Row}
use Rattle.geos_image.specs.declared.routine.Routine.{Routine}
use Rattle.geos_image.specs.declared.point.Point.{Point}
use Rattle.geos_image.specs.Parts.{Parts, start_of}
use Rattle.geos_verify.specs.declared.place.Place.{Place}
use Rattle.geos_verify.specs.Places.{places}
use Rattle.geos_verify.specs.Rows.{exit_row, row_along, fits, after}
use Rattle.geos_verify.specs.Touched.{calls}
use Rattle.geos_verify.proofs.Along.{row_along-used}
use Rattle.geos_verify.proofs.Places.{item_at, places-length, point-of}
use Rattle.geos_code.specs.Code.{instr_of, instrs_of, edge_row, edge_end}
use Rattle.geos_verify.proofs.RowsAfter.{along-mono, branching-mono, is-call}
use Rattle.geos_image.proofs.Starts.{start_of-next}
use Rattle.geos_code.specs.Edges.{LeadsTo}

-- the row at the end of an edge
pub after-edge : (image : Parts) (pc : ℕ) (branch : Bool) (point : Point) (row : Row) → slice_get image.points pc ≡ Some point
    → after image pc row branch ≡ edge_row image point.instr branch row
after-edge image pc true point row e = rw (e, after) refl
after-edge image pc false point row e = rw (e, after) refl

pub edge-mono : (image : Parts) (i : Instr) (branch : Bool) (r s : Row) → fits r s ≡ true
    → fits (edge_row image i branch r) (edge_row image i branch s) ≡ true
edge-mono image i true r s h = branching-mono i i.opcode r s h
edge-mono image i false r s h = along-mono image i i.opcode r s h

-- what a call leaves is the same in images with the same routines
pub same-along : (image other : Parts) → other.routines ≡ image.routines → (i : Instr) (opcode : Opcode) (row : Row)
    → row_along other i opcode row ≡ row_along image i opcode row
same-along image other same i opcode row = by_test (calls opcode) refl
  where
    by_test : (b : Bool) → calls opcode ≡ b → row_along other i opcode row ≡ row_along image i opcode row
    by_test true e =
        let exits : exit_row other i.imm row ≡ exit_row image i.imm row =
        ap (λ (routines : List Routine). elim (slice_get routines i.imm) [ None ↦ row | Some routine ↦ routine.exit ]) same in
        rw (is-call opcode e) exits
    by_test false e =
        let no_call : opcode ≡ Call → ⊥ = (λ is. absurd (called is e)) in
        row_along-used other i opcode row no_call ∙ sym (row_along-used image i opcode row no_call)
      where
        called : opcode ≡ Call → calls opcode ≡ false → ⊥
        called is e = (let at_call : calls Call ≡ false = rw is at e in absurd cc)

pub same-edge : (image other : Parts) → other.routines ≡ image.routines → (i : Instr) (branch : Bool) (row : Row)
    → edge_row other i branch row ≡ edge_row image i branch row
same-edge image other same i true row = refl
same-edge image other same i false row = same-along image other same i i.opcode row

pub code-at : (image : Parts) (pc : ℕ) (point : Point) → slice_get image.points pc ≡ Some point → slice_get (instrs_of image) pc ≡ Some point.instr
code-at image pc point e = slice_get-map instr_of image.points pc ∙ ap (option_map instr_of) e

pub code-length : (image : Parts) → length (instrs_of image) ≡ length image.points
code-length image = length-map image.points instr_of

-- the instruction at a place
pub place-code-at : (image : Parts) (pc : ℕ) (place : Place) → slice_get (places image) pc ≡ Some place
    → slice_get (instrs_of image) pc ≡ Some place.instr
place-code-at image pc place e =
    let found = point-of image pc place e in
    code-at image pc found.0 found.1 ∙ ap (λ (i : Instr). Some i) (sym found.2.instr)

-- the place of an instruction
pub code-place : (image : Parts) (pc : ℕ) (i : Instr) → slice_get (instrs_of image) pc ≡ Some i → (place : Place)
    × (slice_get (places image) pc ≡ Some place) × (place.instr ≡ i)
code-place image pc i e =
    let found = item_at (places image) pc (omega (arith, slice_get_within (instrs_of image) pc i e, code-length image, places-length image)) in
    (found.0, found.1, same_Some found.0.instr i (sym (place-code-at image pc found.0 found.1) ∙ e))

-- an edge of an instruction leads to one place
pub leads-one : (image : Parts) (pc : ℕ) (branch : Bool) (a b : ℕ) → LeadsTo image pc branch a → LeadsTo image pc branch b → a ≡ b
leads-one image pc branch a b x y =
    let same : x.point ≡ y.point = same_Some x.point y.point (sym x.there ∙ y.there) in
    sym x.leads ∙ ap (λ (point : Point). edge_end pc point.instr branch) same ∙ y.leads

-- what was mapped
pub map-get : {X Y : Type 0} (f : X → Y) (xs : List X) (k : ℕ) (y : Y) → slice_get (map f xs) k ≡ Some y → (x : X)
    × (slice_get xs k ≡ Some x) × (f x ≡ y)
map-get f [] k y e = absurd cc
map-get f (x ∷ xs) zero y e = (x, refl, same_Some (f x) y e)
map-get f (x ∷ xs) (suc k) y e = map-get f xs k y e

-- a routine ends where the next one begins
pub ends-at : (routines : List Routine) (r : ℕ) (routine : Routine) → slice_get routines r ≡ Some routine
    → start_of routines (r + 1) ≡ start_of routines r + routine.count
ends-at routines r routine there = ap (start_of routines) (add-one r) ∙ start_of-next routines r routine there
