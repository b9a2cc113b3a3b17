-- CALLs that are named for slots that they leave empty.
use Rattle.std.proofs.Common.{◌≡◌, ℕ, zero, suc, ◌+◌, Bool, true, false, [], ◌∷◌, Option, Some, None, sym, ap, ◌∙◌, subst}
use Rattle.std.specs.Prelude.{IfSome}
use Rattle.std.proofs.lemmas.Bool.{false≢true}
use Rattle.geos_image.specs.declared.row.Row.{Row}
use Rattle.geos_image.specs.Parts.{Parts}
use Rattle.geos_verify.specs.Rows.{after, is_empty, slot_state}
use Rattle.geos_code.specs.Code.{IsPcOf}
use Rattle.geos_flow.specs.declared.apart.Emptied.{Emptied}
use Rattle.geos_code.specs.Edges.{LeadsTo}
use Rattle.geos_rows.specs.Why.{ComesFromStart, CallsBeside, IsEmptied, AllEmptied}

-- none is named
pub named-none : (image : Parts) (r to : ℕ) (row : Row) → AllEmptied image r to row (None ∷ None ∷ None ∷ None ∷ [])
named-none image r to row zero = tt
named-none image r to row (suc zero) = tt
named-none image r to row (suc (suc zero)) = tt
named-none image r to row (suc (suc (suc zero))) = tt
named-none image r to row (suc (suc (suc (suc a)))) = tt

-- a slot that a CALL has emptied stays so along an edge after which it is empty
stays-emptied : (image : Parts) (r a pc to : ℕ) (branch : Bool) (before row : Row) (emptied : Emptied)
    → IsEmptied image r a pc before emptied → LeadsTo image pc branch to → IsPcOf image r to → row ≡ after image pc before branch
    → is_empty (slot_state row a) ≡ true → IsEmptied image r a to row emptied
stays-emptied image r a pc to branch before row emptied past leads stays row_is empty = record {
  before = past.before;
  comes = past.comes;
  calls = past.calls;
  edges = (pc, branch) ∷ past.edges;
  way = (before, past.way, leads, stays, row_is, empty);
}

-- a CALL leaves a slot empty
call-empties : (image : Parts) (r a pc to : ℕ) (before row : Row) (emptied : Emptied) → emptied.at ≡ pc
    → ComesFromStart image r pc before → CallsBeside image r a before emptied → LeadsTo image pc false to → row ≡ after image pc before false
    → is_empty (slot_state row a) ≡ true → IsEmptied image r a to row emptied
call-empties image r a pc to before row emptied at comes calls leads row_is empty = record {
  before = before;
  comes = subst (λ (n : ℕ). ComesFromStart image r n before) (sym at) comes;
  calls = calls;
  edges = [];
  way = (
    sym leads.leads ∙ ap (λ (n : ℕ). n + 1) (sym at),
    row_is ∙ ap (λ (n : ℕ). after image n before false) (sym at),
    empty,
  );
}

-- the same of the CALL that is named, if one is
pub stays-named : (image : Parts) (r a pc to : ℕ) (branch : Bool) (before row : Row) (named : Option Emptied)
    → IfSome named (IsEmptied image r a pc before) → LeadsTo image pc branch to → IsPcOf image r to → row ≡ after image pc before branch
    → is_empty (slot_state row a) ≡ true → IfSome named (IsEmptied image r a to row)
stays-named image r a pc to branch before row None past leads stays row_is empty = tt
stays-named image r a pc to branch before row (Some emptied) past leads stays row_is empty =
    stays-emptied image r a pc to branch before row emptied past leads stays row_is empty

-- the named CALL leaves the slot empty
pub call-named : (image : Parts) (r a pc to : ℕ) (branch : Bool) (before row : Row) (named : Option Emptied)
    → IfSome named (λ (emptied : Emptied). emptied.at ≡ pc) → IfSome named (CallsBeside image r a before) → ComesFromStart image r pc before
    → branch ≡ false → LeadsTo image pc branch to → IsPcOf image r to → row ≡ after image pc before branch
    → is_empty (slot_state row a) ≡ true → IfSome named (IsEmptied image r a to row)
call-named image r a pc to true before row named at calls comes along leads stays row_is empty = absurd (false≢true (sym along))
call-named image r a pc to false before row None at calls comes along leads stays row_is empty = tt
call-named image r a pc to false before row (Some emptied) at calls comes along leads stays row_is empty =
    call-empties image r a pc to before row emptied at comes calls leads row_is empty
