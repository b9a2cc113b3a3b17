-- What a run of a routine leaves as it was.
use Rattle.std.proofs.Common.{◌≡◌, ℕ, zero, suc, ◌≤◌, Bool, true, false, None, Some, List, [], ◌∷◌, refl, sym, ap, subst, ◌∙◌, true≢false, arith}
use Rattle.std.specs.Prelude.{slice_index_or}
use Rattle.geos_terms.specs.declared.name.Name.{Name}
use Rattle.geos_terms.specs.declared.name.Owner.TheVariants as owner
use Rattle.geos_terms.specs.Names.{mem, vm}
use Rattle.geos_calls.specs.Effects.{Choice}
use Rattle.geos_calls.specs.Legal.{IsMemory}
use Rattle.geos_calls.specs.Memory.{Memory, at_handle}
use Rattle.geos_calls.specs.VmFile.{Kept, VmFile}
use Rattle.vm_file.specs.Device.{Medium}
use Rattle.block_handles.specs.Store.{most_of}
use Rattle.block_handles.specs.Stretch.{all_sizes}
use Rattle.vm_blocks.specs.Found.{OpensAsKept}
use Rattle.geos_image.specs.declared.row.SlotState.{SlotState}
use Rattle.geos_image.specs.declared.row.SlotState.TheVariants.{Empty, Mem, Vm, Db}
use Rattle.geos_image.specs.Parts.{Parts}
use Rattle.geos_verify.specs.Rules.{IsChecked}
use Rattle.geos_verify.specs.Entry.{admits, entry_slots}
use Rattle.geos_kernel.specs.Kernel.{IsChosen}
use Rattle.geos_kernel.specs.View.{KernelState, memory_of}
use Rattle.geos_semantics.specs.Lists.{Each}
use Rattle.geos_semantics.specs.State.{State}
use Rattle.geos_semantics.specs.Meets.{Base, name_held}
use Rattle.geos_semantics.specs.Lending.{given, given_slots, AreLent, base_of}
use Rattle.geos_semantics.proofs.Ends.{begins-good}
use Rattle.geos_machine.specs.declared.outcome.Outcome.{Outcome}
use Rattle.geos_machine.specs.Runs.{Ran, RanWith, Throughout, OpensAsOneOf, begin, kept_along}
use Rattle.geos_machine.proofs.Beginning.{begins, called}
use Rattle.geos_grants.specs.declared.effect.Effect.{Effect}
use Rattle.geos_grants.specs.declared.effect.Effect.TheVariants as effect
use Rattle.geos_grants.specs.declared.effects.Effects.{Effects}
use Rattle.geos_grants.specs.Grants.{DoesOnly}
use Rattle.geos_grants.specs.Routines.{has_effect}
use Rattle.geos_grants.specs.Sets.{has}
use Rattle.granted_runs.specs.Keeps.{GivesNothing, IsDenied, Keeps, RanWithin, others_of}
use Rattle.granted_runs.proofs.Steps.{keeps-more}
use Rattle.granted_runs.proofs.Runs.{EndKeeps, run-keeps, opens-kept, throughout-more}

-- a routine that does only what is granted lacks what is not
denied-lacks : (image : Parts) (grants : Effects) (r : ℕ) → DoesOnly image grants r → (of : Effect) → IsDenied grants of
    → has_effect image of r ≡ false
denied-lacks image grants r only of denied = by (has_effect image of r) (only of)
  where
    by : (b : Bool) → (b ≡ true → has grants of ≡ true) → b ≡ false
    by false has_it = refl
    by true has_it = absurd (true≢false (sym (has_it refl) ∙ denied))

-- at the beginning slots have only blocks of the VM file
given-vm : (state : SlotState) (h k : ℕ) → name_held (given state h) ≡ Some (mem k) → ⊥
given-vm (Vm marked true) h k e =
    (let same : vm h ≡ mem k = cc in let never : owner.Vm ≡ owner.Mem = ap (λ (n : Name). n.owner) same in absurd cc)
given-vm (Vm marked false) h k e = absurd cc
given-vm Empty h k e = absurd cc
given-vm Mem h k e = absurd cc
given-vm (Db marked) h k e = absurd cc

none-taken : (states : List SlotState) (handles : List ℕ) (h a : ℕ)
    → name_held (slice_index_or (given_slots states handles) a None) ≡ Some (mem h) → ⊥
none-taken [] handles h a e = absurd cc
none-taken (state ∷ states) [] h a e = absurd cc
none-taken (state ∷ states) (k ∷ handles) h zero e = given-vm state k h e
none-taken (state ∷ states) (k ∷ handles) h (suc a) e = none-taken states handles h a e

-- what holds of all holds of each, from the same premise
each-from : {X : Type 0} (P : X → Type 0) (H : Type 0) (xs : List X) → (H → Each P xs) → Each (λ x. H → P x) xs
each-from P H [] all = tt
each-from P H (x ∷ xs) all = ((λ h. (all h).0), each-from P H xs (λ h. (all h).1))

-- a run leaves unchanged what its routine can't change, and the committed pair if it makes no commit
ran-keeps : (image : Parts) (checked : IsChecked image) (r : ℕ) (words handles : List ℕ) (memory after : Memory) (outcome : Outcome)
    (allowed : Choice → Type 0)
    → IsMemory memory → AreLent (entry_slots image r) handles memory → Each (λ n. n ≤ 65535) words → admits image r words ≡ true
    → (R : Ran allowed image r words handles memory after outcome)
    → Keeps (λ of. has_effect image of r ≡ false) (GivesNothing R.choices) (others_of image r handles memory)
    (begin image r words handles memory) R.last
    × (has_effect image effect.Commits r ≡ false
    → Each (λ (kept : Kept). kept ≡ memory.file.kept) (kept_along image R.choices (begin image r words handles memory)))
ran-keeps image checked r words handles memory after outcome allowed legal lends small admitted R =
    let start : State = begin image r words handles memory in
    let base : Base = base_of memory (given_slots (entry_slots image r) handles) in
    let found = called image r words admitted in
    let honest = GivesNothing R.choices in
    let B = begins image checked.0 checked.1 r words handles memory legal lends small found.0 found.1 found.2 in
    let G = begins-good image checked.0 checked.1 base r found.0 start B in
    let given = each-from (λ (choice : Choice). choice.given ≡ []) honest R.choices (λ h. h) in
    let K = run-keeps image checked base r found.0 found.1 B.room honest R.choices 0 start G.0
    (record { runs = λ of h. h; waits = tt; untaken = λ without h out a e. none-taken (entry_slots image r) handles h a e }) given in
    (subst (EndKeeps image checked base r found.0 found.1 B.room honest start) R.ran K.0, K.1)

pub ran-within : {D : Type 0} (medium : Medium D) (first last : D) (image : Parts) (checked : IsChecked image)
    (r : ℕ) (words handles : List ℕ) (old new : KernelState) (outcome : Outcome) (f : VmFile) (honest : Type 0)
    → IsMemory (memory_of old f) → AreLent (entry_slots image r) handles (memory_of old f) → Each (λ n. n ≤ 65535) words
    → admits image r words ≡ true → all_sizes new.blocks ≤ most_of new.blocks
    → RanWith honest (Throughout medium first last) image r words handles old new outcome f
    → RanWithin honest (Throughout medium first last) image r words handles old new outcome f
ran-within medium first last image checked r words handles old new outcome f honest legal lends small admitted taken R =
    let start : State = begin image r words handles (memory_of old f) in
    let kept = ran-keeps image checked r words handles (memory_of old f) (memory_of new R.file) outcome (IsChosen honest old new) legal lends
    small admitted R.ran in
    let lacks = denied-lacks image in
    let limit : most_of new.blocks ≡ most_of old.blocks = ap (λ (m : Memory). m.region) R.ran.memory ∙ kept.0.limit in
    record {
      ran = R;
      spares = λ grants only. record {
        keeps = keeps-more (λ of. has_effect image of r ≡ false) (IsDenied grants) (GivesNothing R.ran.choices)
            (others_of image r handles (memory_of old f)) start R.ran.last (lacks grants r only) kept.0;
        kept = λ without. kept.1 (lacks grants r only effect.Commits without);
      };
      stops = λ grants only without good.
          throughout-more medium first last (OpensAsOneOf (kept_along image R.ran.choices start)) (OpensAsKept f.kept)
          (λ c opens. opens-kept f.kept (kept_along image R.ran.choices start) c (kept.1 (lacks grants r only effect.Commits without)) opens)
          (R.stops good);
      limit = limit;
      taken = omega (arith, taken, limit);
      highest = ap (λ (m : Memory). m.handles) R.ran.memory ∙ kept.0.handles;
      above = λ h over none. ap (λ (m : Memory). at_handle None m.blocks h) R.ran.memory ∙ kept.0.above h over none;
    }
