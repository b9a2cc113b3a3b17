-- General lemmas about the table of calls.
use Rattle.std.proofs.Common.{◌≡◌, ◌≢◌, ℕ, zero, suc, ◌<◌, ◌≤◌, Bool, true, false, List, [], ◌∷◌, ◌++◌, length, Option, Some, None, refl, sym, ap, ◌∙◌, arith}
use Rattle.std.specs.Prelude.{nat_lt, ◌&&◌, Ok, Err}
use Rattle.std.proofs.lemmas.Option.{none-some}
use Rattle.std.proofs.lemmas.List.{get_or-set_same, get_or-set_other}
use Rattle.geos_terms.specs.declared.name.Name.{Name}
use Rattle.geos_terms.specs.declared.refusal.Refusal.{Refusal}
use Rattle.geos_terms.specs.declared.refusal.Refusal.TheVariants.{TooBig, NoRoom}
use Rattle.geos_terms.specs.Chunks.{need}
use Rattle.geos_terms.specs.Refusals.{first_refusal}
use Rattle.geos_calls.specs.Memory.{Memory, at_handle, with_entry_at, size_of, chunks_at, with_chunks}
use Rattle.geos_calls.specs.Tight.{is_tight}
use Rattle.geos_calls.specs.declared.call.Change.{Change}
use Rattle.geos_calls.specs.ChunkCalls.{change_edit, change_row, may_grow, row_in}
use Rattle.geos_calls.specs.Effects.{Choice, InBlock, outcome, effect_of, growing}
use Rattle.geos_terms.specs.Edits.{Edit, Part}
use Rattle.geos_calls.specs.Calls.{changes, enlarges, reads, refers, in_block}

-- nothing is refused from outside, and nothing given
abbrev pub willing : Choice
willing = record { first_room = false; last_room = false; device = false; unsure = false; memory = false; given = [] }

-- from outside only room is refused, at both points where it can be
abbrev pub cramped : Choice
cramped = record { first_room = true; last_room = true; device = false; unsure = false; memory = false; given = [] }

-- what is written under a handle is read there
pub entry-same : {X : Type 0} (none x : X) (xs : List X) (h : ℕ) → 1 ≤ h → h ≤ length xs → at_handle none (with_entry_at xs h x) h ≡ x
entry-same none x xs zero some most = absurd (omega (arith, some))
entry-same none x xs (suc h) some most = get_or-set_same xs h x none (omega (arith, most))

-- and under no other
pub entry-other : {X : Type 0} (none x : X) (xs : List X) (h k : ℕ) → k ≢ h → at_handle none (with_entry_at xs h x) k ≡ at_handle none xs k
entry-other none x xs zero k ne = refl
entry-other none x xs (suc h) zero ne = refl
entry-other none x xs (suc h) (suc k) ne = get_or-set_other xs h k x none (λ e. ne (ap suc e))

-- if none of some refusals applies, the refusals after them are tried
pub first_refusal-passed : (xs ys : List (Bool × Refusal)) → first_refusal xs ≡ None → first_refusal (xs ++ ys) ≡ first_refusal ys
first_refusal-passed [] ys none = refl
first_refusal-passed ((true, why) ∷ xs) ys none = absurd (none-some why (sym none))
first_refusal-passed ((false, why) ∷ xs) ys none = first_refusal-passed xs ys none

-- if one of some refusals applies, the refusals after them are not tried
pub first_refusal-came : (xs ys : List (Bool × Refusal)) (why : Refusal) → first_refusal xs ≡ Some why → first_refusal (xs ++ ys) ≡ Some why
first_refusal-came [] ys why some = absurd (none-some why some)
first_refusal-came ((true, w) ∷ xs) ys why some = some
first_refusal-came ((false, w) ∷ xs) ys why some = first_refusal-came xs ys why some

fits : (n : ℕ) → n ≤ 65520 → nat_lt 65520 n ≡ false
fits n le = grind (arith, le)

over : (n m : ℕ) → n < m → nat_lt n m ≡ true
over n m lt = grind (arith, lt)

module _ {A : Type 0} (edit : List (Option (List ℕ)) → Edit A) (name : Name) (before : Memory) where
  -- what the call makes of the block's chunks
  abbrev pub made : Edit A
  made = edit (chunks_at before name)

  -- a call that may make a block larger succeeds where its own tests pass and the block is not
  -- too big
  pub enlarges-ok : first_refusal made.refusals ≡ None → need made.chunks ≤ 65520
      → outcome (effect_of (enlarges edit name) willing before) ≡ (Ok made.answer, with_chunks before name made.chunks)
  enlarges-ok passed small = rw none refl
    where
      grows : (b : Bool) → first_refusal ((false, TooBig) ∷ ((◌&&◌ (◌&&◌ b false) (is_tight before name (need made.chunks))), NoRoom) ∷ []) ≡ None
      grows true = refl
      grows false = refl

      none : first_refusal (made.refusals ++ growing willing before name made.chunks) ≡ None
      none = first_refusal-passed made.refusals (growing willing before name made.chunks) passed
          ∙ rw (fits (need made.chunks) small) (grows (nat_lt (size_of before name) (need made.chunks)))

  -- it refuses by its own tests first
  pub enlarges-refused : (why : Refusal) → first_refusal made.refusals ≡ Some why
      → outcome (effect_of (enlarges edit name) willing before) ≡ (Err why, before)
  enlarges-refused why came = rw (first_refusal-came made.refusals (growing willing before name made.chunks) why came) refl

  -- then where the block would be too big
  pub enlarges-big : first_refusal made.refusals ≡ None → 65520 < need made.chunks
      → outcome (effect_of (enlarges edit name) willing before) ≡ (Err TooBig, before)
  enlarges-big passed big = rw came refl
    where
      came : first_refusal (made.refusals ++ growing willing before name made.chunks) ≡ Some TooBig
      came = first_refusal-passed made.refusals (growing willing before name made.chunks) passed ∙ rw (over 65520 (need made.chunks) big) refl

  -- the call may be refused with NoRoom if the block would grow and memory is tight
  pub enlarges-tight : first_refusal made.refusals ≡ None → need made.chunks ≤ 65520 → size_of before name < need made.chunks
      → is_tight before name (need made.chunks) ≡ true → outcome (effect_of (enlarges edit name) cramped before) ≡ (Err NoRoom, before)
  enlarges-tight passed small grows tight = rw came refl
    where
      came : first_refusal (made.refusals ++ growing cramped before name made.chunks) ≡ Some NoRoom
      came = first_refusal-passed made.refusals (growing cramped before name made.chunks) passed
          ∙ rw (fits (need made.chunks) small, over (size_of before name) (need made.chunks) grows, tight) refl

  -- a call that changes chunks, or returns something about them, depends only on its own tests
  pub changes-ok : first_refusal made.refusals ≡ None
      → outcome (effect_of (changes edit name) willing before) ≡ (Ok made.answer, with_chunks before name made.chunks)
  changes-ok passed = rw passed refl

  pub changes-refused : (why : Refusal) → first_refusal made.refusals ≡ Some why
      → outcome (effect_of (changes edit name) willing before) ≡ (Err why, before)
  changes-refused why came = rw came refl

  pub reads-ok : first_refusal made.refusals ≡ None → outcome (effect_of (reads edit name) willing before) ≡ (Ok made.answer, before)
  reads-ok passed = rw passed refl

  pub reads-refused : (why : Refusal) → first_refusal made.refusals ≡ Some why
      → outcome (effect_of (reads edit name) willing before) ≡ (Err why, before)
  reads-refused why came = rw came refl

module _ (edit : List (Option (List ℕ)) → Edit Part) (name : Name) (before : Memory) where
  pub refers-ok : first_refusal (edit (chunks_at before name)).refusals ≡ None
      → outcome (effect_of (refers edit name) willing before) ≡ (Ok (in_block name (edit (chunks_at before name)).answer), before)
  refers-ok passed = rw passed refl

  pub refers-refused : (why : Refusal) → first_refusal (edit (chunks_at before name)).refusals ≡ Some why
      → outcome (effect_of (refers edit name) willing before) ≡ (Err why, before)
  refers-refused why came = rw came refl

-- a change gives the block the edit's chunks, makes stale what leads into it, and changes nothing
-- where it is refused
pub change-shape : (name : Name) (change : Change) (memory : Memory) (choice : Choice)
    → ((change_row name change choice memory).after ≡ with_chunks memory name (change_edit change (chunks_at memory name)).chunks)
    × ((change_row name change choice memory).stale ≡ InBlock name)
    × ((r : Refusal) → (change_row name change choice memory).left r ≡ memory)
change-shape name change memory choice = shape (may_grow change)
  where
    shape : (b : Bool) → ((row_in b (change_edit change) name choice memory).after ≡ with_chunks memory name
        (change_edit change (chunks_at memory name)).chunks)
        × ((row_in b (change_edit change) name choice memory).stale ≡ InBlock name)
        × ((r : Refusal) → (row_in b (change_edit change) name choice memory).left r ≡ memory)
    shape true = (refl, refl, λ r. refl)
    shape false = (refl, refl, λ r. refl)
