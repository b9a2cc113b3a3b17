-- What the line that begins a routine makes.
use Rattle.std.proofs.Common.{◌≡◌, ℕ, Bool, true, false, cond, List, [], ◌∷◌, Option, Some, None, Result, Ok, Err, codes, bytes_eq, refl, ap, subst}
use Rattle.geos_image.specs.declared.routine.Routine.{Routine}
use Rattle.geos_image.specs.Legal.{is_name, is_row}
use Rattle.geos_image.specs.Open.{open_row}
use Rattle.geos_source.specs.declared.fault.Why.{Why}
use Rattle.geos_source.specs.declared.fault.Why.TheVariants.{WrongOperands}
use Rattle.geos_source.specs.Names.{name_of}
use Rattle.geos_source.specs.Operands.{numbered}
use Rattle.geos_source.specs.Headers.{with_budget, named, budgeted, published, header}
use Rattle.geos_source.specs.Declarations.{name_in_front}
use Rattle.geos_source.proofs.ReadLaws.{ok_is}
use Rattle.geos_source.proofs.NamesRead.{name_of-legal}

-- what an image asks of a routine, but that it has instructions
pub record LegalHead (r : Routine) : Type 0 where
  pub name : is_name r.name ≡ true
  pub entry : is_row true r.entry ≡ true
  pub exit : is_row true r.exit ≡ true

-- a routine of this name that has no instruction yet
record Begun (name : Option (List ℕ)) (r : Routine) : Type 0 where
  named : name ≡ Some r.name
  empty : r.count ≡ 0
  entry : r.entry ≡ open_row
  exit : r.exit ≡ open_row

-- what reading answers is such a routine, if it is one
abbrev BegunIfRead : Option (List ℕ) → Result Routine Why → Type 0
BegunIfRead name read = (r : Routine) → read ≡ Ok r → Begun name r

not_read : (name : Option (List ℕ)) (why : Why) → BegunIfRead name (Err why)
not_read name why r e = absurd cc

either_read : (name : Option (List ℕ)) (b : Bool) (x y : Result Routine Why) → BegunIfRead name x → BegunIfRead name y → BegunIfRead name (cond b x y)
either_read name true x y p q = p
either_read name false x y p q = q

with_budget-made : (name : List ℕ) (public : Bool) (budget : Result ℕ Why) → BegunIfRead (Some name) (with_budget name public budget)
with_budget-made name public (Ok budget) r e =
    let made : Routine = record { name = name; public = public; count = 0; budget = budget; entry = open_row; exit = open_row } in
    subst (Begun (Some name)) (ok_is made r e) (record { named = refl; empty = refl; entry = refl; exit = refl })
with_budget-made name public (Err why) r e = absurd cc

named-made : (name : Option (List ℕ)) (public : Bool) (number : List ℕ) → BegunIfRead name (named name public number)
named-made None public number = not_read None WrongOperands
named-made (Some name) public number = with_budget-made name public (numbered 4294967295 number)

budgeted-made : (name : Option (List ℕ)) (public : Bool) (words : List (List ℕ)) → BegunIfRead name (budgeted name public words)
budgeted-made name public [] = not_read name WrongOperands
budgeted-made name public (word ∷ []) = not_read name WrongOperands
budgeted-made name public (word ∷ number ∷ []) =
    either_read name (bytes_eq word (codes "budget")) (named name public number) (Err WrongOperands)
    (named-made name public number) (not_read name WrongOperands)
budgeted-made name public (word ∷ number ∷ other ∷ words) = not_read name WrongOperands

published-made : (name : Option (List ℕ)) (words : List (List ℕ)) → BegunIfRead name (published name words)
published-made name [] = not_read name WrongOperands
published-made name (word ∷ words) =
    either_read name (bytes_eq word (codes "public")) (budgeted name true words) (budgeted name false (word ∷ words))
    (budgeted-made name true words) (budgeted-made name false (word ∷ words))

header_begun : (words : List (List ℕ)) → BegunIfRead (name_in_front words) (header words)
unfolding header
header_begun [] = not_read None WrongOperands
header_begun (word ∷ words) = published-made (name_of word) words

legal_name : (words : List (List ℕ)) (name : List ℕ) → name_in_front words ≡ Some name → is_name name ≡ true
legal_name [] name e = absurd cc
legal_name (word ∷ words) name e = (name_of-legal word name e).0

-- a routine that is read has the name in front, no instruction so far, and is otherwise one that an image may have
pub header-made : (words : List (List ℕ)) (r : Routine) → header words ≡ Ok r → (name_in_front words ≡ Some r.name) × (r.count ≡ 0) × LegalHead r
header-made words r e =
    let begun = header_begun words r e in
    let legal : LegalHead r = record {
      name = legal_name words r.name begun.named;
      entry = ap (is_row true) begun.entry;
      exit =
          ap (is_row true) begun.exit;
    } in
    (begun.named, begun.empty, legal)
