-- What the kernel tells of one handle.
use Rattle.std.proofs.Common.{◌≡◌, ◌∙◌, ℕ, ◌+◌, ◌<◌, Bool, true, false, [], ◌∷◌, Some, None, Result, Ok, Err, refl, ap, sym, subst, inl, arith}
use Rattle.std.specs.Prelude.{◌==◌, is_none, is_ok, not, if◌then◌else◌, IfSome}
use Rattle.std.proofs.lemmas.Bool.{eqb-true, false≢true}
use Rattle.block_handles.specs.Names.{slot_of}
use Rattle.block_handles.specs.Store as store
use Rattle.geos_terms.specs.declared.name.Name.{Name}
use Rattle.geos_terms.specs.declared.refusal.Refusal.{Refusal}
use Rattle.geos_terms.specs.declared.refusal.Refusal.TheVariants.{BadHandle, BadChunk}
use Rattle.geos_terms.specs.Refusals.{first_refusal}
use Rattle.geos_terms.specs.Chunks.{chunk_of}
use Rattle.geos_terms.specs.Edits.{length_of}
use Rattle.geos_calls.specs.Directories.{uid_in}
use Rattle.geos_calls.specs.Calls.{lsize}
use Rattle.geos_calls.specs.Effects.{Call, Choice, Nothing, OfLock, Reference, come_to, effect_of, outcome, unchanged}
use Rattle.geos_calls.specs.Given.{given_memory}
use Rattle.geos_calls.specs.Memory.{Memory, chunks_at, listed_at, locks_of}
use Rattle.geos_calls.specs.VmCalls.{vuid}
use Rattle.geos_calls.specs.VmFile.{VmFile}
use Rattle.geos_kernel.specs.Kernel.{AnswersWith, Calls, IsChosen, NeverFell}
use Rattle.geos_kernel.specs.Spans.{IsFresh, SpansStay}
use Rattle.geos_kernel.specs.View.{IsFileOf, KernelState, memory_of}
use Rattle.geos_kernel.proofs.Chosen.{chosen-after, lasts-on}
use Rattle.takhvoi.specs.Lists.{is_chunk, is_listed, looks}

-- an honest device gives nothing, so a row is read on memory as it is
pub plainly : {A : Type 0} (row : Call A) (r : Result A Refusal) (old new : KernelState) (f : VmFile) (a : AnswersWith (Unit {0}) row r old new f)
    → outcome (row a.choice (memory_of old f)) ≡ (r, memory_of new a.file)
plainly row r old new f a =
    subst (λ given. outcome (row a.choice (given_memory given (memory_of old f))) ≡ (r, memory_of new a.file)) (a.chosen.given tt) a.comes

-- whether a row answered
abbrev pub went : {A B : Type 0} → Result A Refusal × B → Bool
went x = elim x.0 [ Ok a ↦ true | Err why ↦ false ]

-- a row with one test answers where that is not true
by-test : {A : Type 0} (test : Bool) (why : Refusal) (left : Refusal → Memory) (answer : A) (after n : Memory) (r : Result A Refusal)
    → come_to (first_refusal ((test, why) ∷ [])) left answer after ≡ (r, n) → is_ok r ≡ not test
by-test true why left answer after n r e = sym (ap (λ x. is_ok x.0) e)
by-test false why left answer after n r e = sym (ap (λ x. is_ok x.0) e)

module _ (s : KernelState) (f : VmFile) where
  pub listed-told : (h : ℕ) (r : Result ℕ Refusal) → AnswersWith (Unit {0}) (vuid h) r s s f → is_ok r ≡ is_listed (memory_of s f) h
  listed-told h r a =
      let m = memory_of s f in
      by-test (is_none (listed_at m h)) BadHandle (unchanged m) (uid_in (listed_at m h)) m (memory_of s a.file) r (plainly (vuid h) r s s f a)

  pub chunk-told : (name : Name) (c : ℕ) (r : Result ℕ Refusal) → AnswersWith (Unit {0}) (lsize name c) r s s f
      → is_ok r ≡ is_chunk name (memory_of s f) c
  chunk-told name c r a =
      let m = memory_of s f in
      by-test (is_none (chunk_of (chunks_at m name) c)) BadChunk (unchanged m) (length_of (chunks_at m name) c) m (memory_of s a.file) r
      (plainly (lsize name c) r s s f a)

-- nothing comes from outside
abbrev pub quiet : Choice
quiet = record { first_room = false; last_room = false; device = false; unsure = false; memory = false; given = [] }

quiet-chosen : (old new : KernelState) → IsChosen (Unit {0}) old new quiet
quiet-chosen old new = record { given = λ _. refl; device = λ _ so. absurd (false≢true so) }

-- a kernel whose memory is as it was, whatever file the model knows
pub record StaysWith (old new : KernelState) (f : VmFile) : Type 0 where
  pub file : VmFile
  pub tied : IsFileOf (Unit {0}) new file
  pub same : memory_of new file ≡ memory_of old f
  pub lasts : NeverFell (Unit {0}) old new

pub looking : (old new : KernelState) → ((f : VmFile) → IsFileOf (Unit {0}) old f → StaysWith old new f)
    → ((f : VmFile) → IsFileOf (Unit {0}) old f → SpansStay old new f Nothing) → Calls (Unit {0}) looks (Ok tt) old new
looking old new files spans = record {
  answers = λ f is.
      let stays = files f is in
      record {
        choice = quiet;
        chosen = quiet-chosen old new;
        lasts = stays.lasts;
        file = stays.file;
        tied = stays.tied;
        comes = ap (λ m. (Ok tt, m)) (sym stays.same);
      };
  spans = λ f is choice. spans f is;
}

stays-with : (old new : KernelState) → Calls (Unit {0}) looks (Ok tt) old new → (f : VmFile) → IsFileOf (Unit {0}) old f → StaysWith old new f
stays-with old new calls f is =
    let a = calls.answers f is in
    record { file = a.file; tied = a.tied; same = sym (ap (λ x. x.1) (plainly looks (Ok tt) old new f a)); lasts = a.lasts }

pub looks-here : (s : KernelState) → Calls (Unit {0}) looks (Ok tt) s s
looks-here s = looking s s (λ f is. record { file = f; tied = is; same = refl; lasts = λ _. inl refl }) (λ f is span ref stands fresh. stands)

-- a call after one that changes nothing is that call
pub stays-then : {A : Type 0} (row : Call A) (r : Result A Refusal) (a b c : KernelState) → ((f : VmFile) → IsFileOf (Unit {0}) a f → StaysWith a b f)
    → ((f : VmFile) → IsFileOf (Unit {0}) a f → SpansStay a b f Nothing) → Calls (Unit {0}) row r b c → Calls (Unit {0}) row r a c
stays-then row r a b c stays spans later = record {
  answers = λ f is.
      let one = stays f is in
      let two = later.answers one.file one.tied in
      record {
        choice = two.choice;
        chosen = chosen-after (Unit {0}) a b c two.choice one.lasts two.chosen;
        lasts = lasts-on (Unit {0}) a b c one.lasts two.lasts;
        file = two.file;
        tied = two.tied;
        comes = subst (λ m. outcome (effect_of row two.choice m) ≡ (r, memory_of c two.file)) one.same two.comes;
      };
  spans = λ f is choice span ref stands fresh.
      let one = stays f is in
      later.spans one.file one.tied choice span ref (spans f is span ref stands tt)
      (subst (λ m. IsFresh m (effect_of row choice m).stale ref) (sym one.same) fresh);
}

-- what was found of a kernel that stays is found of the one before
pub stays-found : (test : Memory → ℕ → Bool) (n : ℕ) (b : Bool) (old new : KernelState) → ((f : VmFile) → IsFileOf (Unit {0}) old f → StaysWith old new f)
    → ((f : VmFile) → IsFileOf (Unit {0}) new f → b ≡ test (memory_of new f) n) → (f : VmFile) → IsFileOf (Unit {0}) old f
    → b ≡ test (memory_of old f) n
stays-found test n b old new stays found f is =
    let one = stays f is in
    found one.file one.tied ∙ ap (λ m. test m n) one.same

module _ (a b : KernelState) (first : Calls (Unit {0}) looks (Ok tt) a b) where
  pub looks-then : {A : Type 0} (row : Call A) (r : Result A Refusal) (c : KernelState) → Calls (Unit {0}) row r b c → Calls (Unit {0}) row r a c
  looks-then row r c later = stays-then row r a b c (stays-with a b first) (λ f is. first.spans f is quiet) later

  pub looks-found : (test : Memory → ℕ → Bool) (n : ℕ) (t : Bool) → ((f : VmFile) → IsFileOf (Unit {0}) b f → t ≡ test (memory_of b f) n)
      → (f : VmFile) → IsFileOf (Unit {0}) a f → t ≡ test (memory_of a f) n
  looks-found test n t found = stays-found test n t a b (stays-with a b first) found

-- a block with a valid span is locked. So if it is locked once more and then unlocked, the unlock does not release
-- its last lock
pub fresh-still : (old : KernelState) (before after : Memory) (name : Name) → locks_of after name ≡ locks_of before name + 1
    → locks_of before name ≡ store.locks_of old.blocks (slot_of name) → (ref : Reference) → 0 < store.locks_of old.blocks (slot_of ref.name)
    → IsFresh after (OfLock name) ref
fresh-still old before after name more known ref locked = by (locks_of after name == 1) refl
  where
    by : (b : Bool) → (locks_of after name == 1) ≡ b → IfSome (if b then Some name else None) (λ it. ref.name ≡ it → ⊥)
    by false _ = tt
    by true one = λ same.
        let last = eqb-true _ _ one in
        let some : 0 < store.locks_of old.blocks (slot_of name) = subst (λ it. 0 < store.locks_of old.blocks (slot_of it)) same locked in
        absurd (omega (arith, last, more, known, some))
