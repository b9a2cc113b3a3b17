-- What is legal without borrowed slots is legal with them.
use Rattle.std.proofs.Common.{◌≡◌, Bool, true, false, List, [], ◌∷◌, ◌++◌}
use Rattle.std.specs.Prelude.{◌&&◌, not, nat_lt}
use Rattle.std.specs.List.{list_all}
use Rattle.std.proofs.lemmas.Bool.{and_parts}
use Rattle.geos_image.specs.declared.row.Row.{Row}
use Rattle.geos_image.specs.declared.routine.Routine.{Routine}
use Rattle.geos_image.specs.Legal.{is_name, is_named, is_own, is_pointer, is_shaped, is_row, is_routine, are_routines}
use Rattle.geos_verify.proofs.Pairwise.{both}

row-too : (borrows : Bool) (row : Row) → is_row borrows row ≡ true → is_row true row ≡ true
row-too true row h = h
row-too false row h =
    let p = and_parts (list_all is_own row.slots && is_shaped row) (list_all is_pointer row.pointers) h in
    both (is_shaped row) (list_all is_pointer row.pointers) (and_parts (list_all is_own row.slots) (is_shaped row) p.0).1 p.1

routine-too : (borrows : Bool) (earlier : List Routine) (r : Routine) → is_routine borrows earlier r ≡ true → is_routine true earlier r ≡ true
routine-too borrows earlier r h =
    let front = is_name r.name && not (is_named r.name earlier) && nat_lt 0 r.count in
    let p = and_parts (front && is_row borrows r.entry) (is_row borrows r.exit) h in
    let q = and_parts front (is_row borrows r.entry) p.0 in
    both (front && is_row true r.entry) (is_row true r.exit) (both front (is_row true r.entry) q.0 (row-too borrows r.entry q.1))
    (row-too borrows r.exit p.1)

pub routines-too : (borrows : Bool) (earlier routines : List Routine) → are_routines borrows earlier routines ≡ true
    → are_routines true earlier routines ≡ true
routines-too borrows earlier [] h = h
routines-too borrows earlier (r ∷ routines) h =
    let p = and_parts (is_routine borrows earlier r) (are_routines borrows (earlier ++ r ∷ []) routines) h in
    both (is_routine true earlier r) (are_routines true (earlier ++ r ∷ []) routines) (routine-too borrows earlier r p.0)
    (routines-too borrows (earlier ++ r ∷ []) routines p.1)
