-- The slot state that a byte encodes, found by tests of the byte.
use Rattle.std.proofs.Common.{◌≡◌, ℕ, ◌<◌, Bool, true, false, Option, Some, None, refl, sym, ap, ◌∙◌}
use Rattle.std.specs.Prelude.{◌==◌, ◌||◌, ◌&&◌, nat_lt, if◌then◌else◌}
use Rattle.std.proofs.lemmas.Bool.{eqb-true, agree_below_at}
use Rattle.geos_image.specs.declared.row.SlotState.{SlotState}
use Rattle.geos_image.specs.declared.row.SlotState.TheVariants.{Empty, Mem, Vm, Db}
use Rattle.geos_image.specs.Legal.{is_own}
use Rattle.geos_image.specs.Spelling.{slot_code}
use Rattle.geos_image.specs.Reading.{slot_of}

-- the state of a byte is that one, where it may be borrowed or is not
pub slot_of_again : (borrows : Bool) (s : SlotState) → (borrows || is_own s) ≡ true → slot_of borrows (slot_code s) ≡ Some s
slot_of_again true Empty h = refl
slot_of_again true Mem h = refl
slot_of_again true (Vm false false) h = refl
slot_of_again true (Vm true false) h = refl
slot_of_again true (Db false) h = refl
slot_of_again true (Db true) h = refl
slot_of_again true (Vm false true) h = refl
slot_of_again true (Vm true true) h = refl
slot_of_again false Empty h = refl
slot_of_again false Mem h = refl
slot_of_again false (Vm false false) h = refl
slot_of_again false (Vm true false) h = refl
slot_of_again false (Db false) h = refl
slot_of_again false (Db true) h = refl
slot_of_again false (Vm marked true) h = absurd cc

-- the state that a byte names
abbrev pub named_slot : Bool → ℕ → Option SlotState
named_slot borrows code =
    if code == 0 then Some Empty else if code == 1 then Some Mem
    else if nat_lt code 4 then Some (Vm (code == 3) false)
    else if nat_lt code 6 then Some (Db (code == 5))
    else if borrows && nat_lt code 8 then Some (Vm (code == 7) true) else None

-- whether there are two states with one byte, or none
abbrev same : Option SlotState → Option SlotState → Bool
same (Some s) (Some t) = slot_code s == slot_code t
same None None = true
same (Some s) None = false
same None (Some t) = false

same_is : (p q : Option SlotState) → same p q ≡ true → p ≡ q
same_is (Some s) (Some t) h =
    sym (slot_of_again true s refl) ∙ (ap (slot_of true) (eqb-true (slot_code s) (slot_code t) h) ∙ slot_of_again true t refl)
same_is None None h = refl
same_is (Some s) None h = absurd cc
same_is None (Some t) h = absurd cc

-- the tests find the state that a byte encodes
pub slot_is_named : (borrows : Bool) (code : ℕ) → code < 256 → slot_of borrows code ≡ named_slot borrows code
slot_is_named true code lt =
    same_is _ _ (agree_below_at (λ k. same (slot_of true k) (named_slot true k)) (λ _. true) 256 code refl lt)
slot_is_named false code lt =
    same_is _ _ (agree_below_at (λ k. same (slot_of false k) (named_slot false k)) (λ _. true) 256 code refl lt)
