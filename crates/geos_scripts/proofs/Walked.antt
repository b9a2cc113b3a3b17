-- Words of a call that are passed one after another, and what is found of them.
use Rattle.std.proofs.Common.{◌≡◌, ◌∙◌, ◌+◌, ◌<◌, ◌≤◌, ℕ, true, false, List, [], ◌∷◌, ◌++◌, length, length-append, append_assoc, append-nil, Option, Some, None, refl, sym, ap, subst, inl, inr, arith}
use Rattle.std.specs.Prelude.{◌⊎◌, All, not, slice_get, codes}
use Rattle.std.specs.List.{count_by}
use Rattle.std.proofs.lemmas.List.Elements.{All-append, All-cons, All-head, All-nil, All-tail}
use Rattle.geos_image.specs.Legal.{is_own}
use Rattle.geos_image.specs.Parts.{Parts}
use Rattle.geos_image.specs.declared.routine.Routine.{Routine}
use Rattle.geos_lines.specs.declared.words.Word.{Word}
use Rattle.script_commands.specs.CallWords.{borrowed}
use Rattle.script_commands.specs.Lines.{before_blocks, from_blocks, names_block, routine_named}
use Rattle.script_commands.proofs.CallWords.{entry-of}
use Rattle.script_commands.proofs.Registers.{before-block, before-number, from-block, from-number}
use Rattle.geos_scripts.specs.declared.names.NameUse.{NameUse}
use Rattle.geos_scripts.specs.declared.calls.Passed.{Passed}
use Rattle.geos_scripts.specs.declared.fault.Fault.{Fault}
use Rattle.geos_scripts.specs.declared.fault.Fault.TheVariants.{NoCommand, Behind, NoName, NoRoutine, NotPublic, Ninth, NoNumber, TooHigh, PastBound, NumberBehind, NoHandle, HighHandle, Lent, NotAllowed, NotKept, ArrowAlone, NothingKept, BadName, SecondName, NameTooMany}
use Rattle.std.proofs.lemmas.Slice.Eq.{bytes_eq-Decides}
use Rattle.geos_scripts.specs.declared.names.NameUse.TheVariants.{Allowed}
use Rattle.script_commands.specs.Names.{is_arrow}
use Rattle.geos_scripts.specs.Faults.{FitCommand, FitNumbers, FitsCall, FitsNumber, IsFound, IsLent, IsNinth, IsSecond, IsSo, IsSoOfWord, LendsOthers, command_words}
use Rattle.geos_scripts.specs.Walks.{HasArrow, IsFoundBehindArrow, IsFoundBehindCall, IsFoundOfCall, IsFoundOfCommand, IsFoundOfKeeping, IsSoOfCall, IsWalked, begins_as_call}

-- one number more fits
fit-more : (uses : NameUse) (routine : Routine) (i : ℕ) (ws : List (List ℕ)) (w : List ℕ) → FitNumbers uses routine i ws
    → FitsNumber uses routine (i + length ws) w → FitNumbers uses routine i (ws ++ w ∷ [])
fit-more uses routine i [] w fit this = (subst (λ k. FitsNumber uses routine k w) (omega arith) this, tt)
fit-more uses routine i (x ∷ ws) w (first, rest) this =
    let next : i + length (x ∷ ws) ≡ i + 1 + length ws = omega arith in
    (first, fit-more uses routine (i + 1) ws w rest (subst (λ k. FitsNumber uses routine k w) next this))

-- what is lent names a block
lent-names : (uses : NameUse) (w : List ℕ) → IsLent uses w → names_block w ≡ true
lent-names uses w (handle, is, fits) = ap names_block is

none-of : (ws : List (List ℕ)) → length ws ≡ 0 → ws ≡ []
none-of [] e = refl
none-of (w ∷ ws) e = absurd (omega (arith, e))

module _ (uses : NameUse) (routine : Routine) (all left : List (List ℕ)) (w : List ℕ) (passed next : Passed)
    (walked : IsWalked uses routine all (w ∷ left) passed) where
  -- one block more
  pub block-more : next.numbers ≡ passed.numbers → next.blocks ≡ passed.blocks + 1 → IsLent uses w → IsWalked uses routine all left next
  block-more same more lent = record {
    numbers = walked.numbers;
    blocks = walked.blocks ++ w ∷ [];
    in_order = walked.in_order ∙ ap (λ ws. walked.numbers ++ ws) (sym (append_assoc walked.blocks (w ∷ []) left));
    so_many = walked.so_many ∙ sym same;
    so_many_blocks = omega (arith, length-append walked.blocks (w ∷ []), walked.so_many_blocks, more);
    few = omega (arith, walked.few, same);
    no_blocks = walked.no_blocks;
    fit = walked.fit;
    lent = All-append (IsLent uses) walked.blocks (w ∷ []) walked.lent (All-cons (IsLent uses) w [] lent (All-nil (IsLent uses)));
  }

  module _ (none : passed.blocks ≡ 0) (number : names_block w ≡ false) where
    in_front : all ≡ walked.numbers ++ (w ∷ left)
    in_front = walked.in_order ∙ ap (λ bs. walked.numbers ++ (bs ++ (w ∷ left))) (none-of walked.blocks (walked.so_many_blocks ∙ none))

    from_0 : length walked.numbers ≡ passed.numbers → passed.numbers ≡ 0 + length walked.numbers
    from_0 e = omega (arith, e)

    -- one number more
    pub number-more : next.numbers ≡ passed.numbers + 1 → next.blocks ≡ passed.blocks → passed.numbers < 8
        → FitsNumber uses routine passed.numbers w → IsWalked uses routine all left next
    number-more more same less fits = record {
      numbers = walked.numbers ++ w ∷ [];
      blocks = [];
      in_order = in_front ∙ sym (append_assoc walked.numbers (w ∷ []) left);
      so_many = omega (arith, length-append walked.numbers (w ∷ []), walked.so_many, more);
      so_many_blocks = sym (same ∙ none);
      few = omega (arith, less, more);
      no_blocks = All-append (λ v. names_block v ≡ false) walked.numbers (w ∷ []) walked.no_blocks (All-cons (λ v. names_block v ≡ false) w [] number (All-nil (λ v. names_block v ≡ false)));
      fit = fit-more uses routine 0 walked.numbers w walked.fit (subst (λ k. FitsNumber uses routine k w) (from_0 walked.so_many) fits);
      lent = All-nil (IsLent uses);
    }

    -- or it is the ninth
    pub ninth : 8 ≤ passed.numbers → IsNinth all w
    ninth many = record {
      eight = walked.numbers;
      others = left;
      in_order = in_front;
      so_many = omega (arith, walked.so_many, walked.few, many);
      no_blocks = walked.no_blocks;
      no_block = number;
    }

-- what is found of a number is so of the call
pub number-so : (uses : NameUse) (routine : Routine) (all left : List (List ℕ)) (passed : Passed) (image : Parts) (word : Word) (fault : Fault)
    → IsWalked uses routine all (word.bytes.now ∷ left) passed → passed.blocks ≡ 0 → names_block word.bytes.now ≡ false
    → IsSoOfWord image fault ⊎ ((fault ≡ Ninth word) × (8 ≤ passed.numbers)) → IsSoOfCall image all fault
number-so uses routine all left passed image word fault walked none number (inl so) = inl so
number-so uses routine all left passed image word fault walked none number (inr (is, many)) =
    inr (word, is, ninth uses routine all left word.bytes.now passed passed walked none number many)

-- none are passed yet
pub none-walked : (uses : NameUse) (routine : Routine) (all : List (List ℕ))
    → IsWalked uses routine all all (record { numbers = 0; blocks = 0 })
none-walked uses routine all = record {
  numbers = [];
  blocks = [];
  in_order = refl;
  so_many = refl;
  so_many_blocks = refl;
  few = omega arith;
  no_blocks = All-nil (λ w. names_block w ≡ false);
  fit = tt;
  lent = All-nil (IsLent uses);
}

-- in a call's words the numbers come before the blocks, and the numbers contain no block
split : (uses : NameUse) (numbers blocks : List (List ℕ)) → All (λ w. names_block w ≡ false) numbers → All (IsLent uses) blocks
    → (before_blocks (numbers ++ blocks) ≡ numbers) × (from_blocks (numbers ++ blocks) ≡ blocks)
split uses [] [] none lent = (refl, refl)
split uses [] (b ∷ blocks) none lent =
    let names = lent-names uses b (All-head (IsLent uses) b blocks lent) in
    (before-block b blocks names, from-block b blocks names)
split uses (n ∷ numbers) blocks none lent =
    let number = All-head (λ w. names_block w ≡ false) n numbers none in
    let others = split uses numbers blocks (All-tail (λ w. names_block w ≡ false) n numbers none) lent in (
      before-number n (numbers ++ blocks) number ∙ ap (λ ws. n ∷ ws) others.0,
      from-number n (numbers ++ blocks) number ∙ others.1,
    )

module _ (uses : NameUse) (image : Parts) (name : List ℕ) (all : List (List ℕ)) (passed : Passed) (r : ℕ) (routine : Routine)
    (walked : IsWalked uses routine all [] passed) (named : routine_named image name ≡ Some r) (there : slice_get image.routines r ≡ Some routine)
    (wanted : ℕ) (borrows : wanted ≡ count_by (λ state. not (is_own state)) routine.entry.slots) where
  parts : (before_blocks all ≡ walked.numbers) × (from_blocks all ≡ walked.blocks)
  parts =
      let order : all ≡ walked.numbers ++ walked.blocks = walked.in_order ∙ ap (λ ws. walked.numbers ++ ws) (append-nil walked.blocks) in
      let halves = split uses walked.numbers walked.blocks walked.no_blocks walked.lent in
      (ap before_blocks order ∙ halves.0, ap from_blocks order ∙ halves.1)

  -- so many blocks does the routine borrow
  so_many : wanted ≡ borrowed image name
  so_many = rw named (borrows ∙ ap (count_by (λ state. not (is_own state))) (entry-of image r routine there))

  -- all words fit
  pub call-fits : routine.public ≡ true → passed.blocks ≡ wanted → FitsCall uses image name all
  call-fits public same = record {
    r = r;
    routine = routine;
    named = named;
    there = there;
    public = public;
    few = omega (arith, ap length parts.0, walked.so_many, walked.few);
    fit = subst (FitNumbers uses routine 0) (sym parts.0) walked.fit;
    lent = subst (All (IsLent uses)) (sym parts.1) walked.lent;
    as_borrowed = ap length parts.1 ∙ walked.so_many_blocks ∙ same ∙ so_many;
  }

  -- or other blocks are lent than it borrows
  pub lends-others : (passed.blocks ≡ wanted → ⊥) → LendsOthers image name all passed.blocks wanted
  lends-others differ = record {
    lends = sym (ap length parts.1 ∙ walked.so_many_blocks);
    borrows = so_many;
    differ = differ;
  }

-- what is so of a word is so of its line
pub word-so : (uses : NameUse) (image : Parts) (ws : List (List ℕ)) (fault : Fault) → IsSoOfWord image fault → IsSo uses image ws fault
word-so uses image ws (NoCommand word) so = so
word-so uses image ws (Behind word) so = absurd so
word-so uses image ws NoName so = absurd so
word-so uses image ws (NoRoutine word) so = so
word-so uses image ws (NotPublic word) so = so
word-so uses image ws (Ninth word) so = absurd so
word-so uses image ws (NoNumber word) so = so
word-so uses image ws (TooHigh word) so = so
word-so uses image ws (PastBound word bound index) so = so
word-so uses image ws (NumberBehind word) so = so
word-so uses image ws (NoHandle word) so = so
word-so uses image ws (HighHandle word) so = so
word-so uses image ws (Lent given wanted) so = absurd so
word-so uses image ws (NotAllowed word) so = so
word-so uses image ws (NotKept word) so = so
word-so uses image ws (ArrowAlone word) so = so
word-so uses image ws (NothingKept word) so = so
word-so uses image ws (BadName word) so = so
word-so uses image ws (SecondName word) so = absurd so
word-so uses image ws (NameTooMany word) so = so

-- so is what is found of a call
call-so : (uses : NameUse) (image : Parts) (ws : List (List ℕ)) (name : List ℕ) (numbers : List (List ℕ)) (fault : Fault)
    → command_words uses ws ≡ codes "call" ∷ name ∷ numbers → IsFoundOfCall uses image name numbers (Some fault) → IsSo uses image ws fault
call-so uses image ws name numbers fault order (inl (inl so)) = word-so uses image ws fault so
call-so uses image ws name numbers fault order (inl (inr (word, is, ninth))) =
    subst (IsSo uses image ws) (sym is) (name, numbers, order, ninth)
call-so uses image ws name numbers fault order (inr (given, wanted, is, lends)) =
    subst (IsSo uses image ws) (sym is) (name, numbers, order, lends)

-- the result for the words after `call` is the result for the command
pub command-found : (uses : NameUse) (image : Parts) (ws rest : List (List ℕ)) (result : Option Fault)
    → command_words uses ws ≡ codes "call" ∷ rest → IsFoundBehindCall uses image rest result → IsFoundOfCommand uses image ws result
command-found uses image ws rest None order (name, numbers, is, fits) = inr (inr (name, numbers, order ∙ ap (λ r. codes "call" ∷ r) is, fits))
command-found uses image ws rest (Some fault) order (inl (is, none)) =
    subst (IsSo uses image ws) (sym is) (order ∙ ap (λ r. codes "call" ∷ r) none)
command-found uses image ws rest (Some fault) order (inr (inl so)) = word-so uses image ws fault so
command-found uses image ws rest (Some fault) order (inr (inr (name, numbers, is, found))) =
    call-so uses image ws name numbers fault (order ∙ ap (λ r. codes "call" ∷ r) is) found

-- a line that begins with `call` is `call` and the words after it
pub call-begins : (ws : List (List ℕ)) → begins_as_call ws ≡ true → (others : List (List ℕ)) × (ws ≡ codes "call" ∷ others)
call-begins [] e = absurd cc
call-begins (w ∷ ws) e = (ws, ap (λ v. v ∷ ws) ((bytes_eq-Decides w (codes "call")).0 e))

module _ (image : Parts) (ws : List (List ℕ)) (arrow : Word) (behind : List (List ℕ)) (has : HasArrow ws arrow.bytes.now behind) where
  -- the result for the words after `->` is the result for the line
  pub behind-found : begins_as_call ws ≡ true → (result : Option Fault) → IsFoundBehindArrow image behind result
      → IsFoundOfKeeping Allowed image ws result
  behind-found call None (name, is, names) =
      inr (has.1.0, arrow.bytes.now, name, has.1.1 ∙ ap (λ b. has.1.0 ++ arrow.bytes.now ∷ b) is, has.0, names, call-begins ws call)
  behind-found call (Some fault) (inl so) = word-so Allowed image ws fault so
  behind-found call (Some fault) (inr (word, name, others, is, order)) =
      let second : IsSecond ws word.bytes.now = record {
        command = has.1.0;
        arrow = arrow.bytes.now;
        name = name;
        others = others;
        in_order = has.1.1 ∙ ap (λ b. has.1.0 ++ arrow.bytes.now ∷ b) order;
        is_arrow = has.0;
      } in
      subst (IsSo Allowed image ws) (sym is) second

-- the result for the words after a routine's name is the result for the words after `call`
pub name-found : (uses : NameUse) (image : Parts) (name : List ℕ) (numbers ws : List (List ℕ)) (result : Option Fault) → ws ≡ name ∷ numbers
    → IsFoundOfCall uses image name numbers result → IsFoundBehindCall uses image ws result
name-found uses image name numbers ws None order found = (name, numbers, order, found)
name-found uses image name numbers ws (Some fault) order found = inr (inr (name, numbers, order, found))

-- one word more is no `->`
pub none-more : {P : Type 0} (all rest behind : List (List ℕ)) (w : List ℕ) → rest ≡ w ∷ behind → is_arrow w ≡ false
    → P × ((passed : List (List ℕ)) × (all ≡ passed ++ rest) × All (λ v. is_arrow v ≡ false) passed)
    → (passed : List (List ℕ)) × (all ≡ passed ++ behind) × All (λ v. is_arrow v ≡ false) passed
none-more {P} all rest behind w is none (bound, (passed, order, so_far)) = (
  passed ++ w ∷ [],
  order ∙ ap (λ b. passed ++ b) is ∙ sym (append_assoc passed (w ∷ []) behind),
  All-append (λ v. is_arrow v ≡ false) passed (w ∷ []) so_far (All-cons (λ v. is_arrow v ≡ false) w [] none (All-nil (λ v. is_arrow v ≡ false))),
)

-- what is found of a line whose command fits
pub keeping-found : (uses : NameUse) (image : Parts) (ws : List (List ℕ)) (result : Option Fault) → FitCommand uses image (command_words uses ws)
    → IsFoundOfKeeping uses image ws result → IsFound uses image ws result
keeping-found uses image ws None command keeping = record { command = command; keeping = keeping }
keeping-found uses image ws (Some fault) command so = so
