-- The machine's theorem and that of placed routines, one after the other.
use Rattle.std.proofs.Common.{◌≡◌, ◌⊎◌, ℕ, zero, suc, Bool, true, false, cond, Option, List, [], ◌∷◌, length, refl, sym, ap, ◌∙◌, subst, arith, inl, inr}
use Rattle.std.specs.Prelude.{nat_lt, Contains}
use Rattle.std.proofs.lemmas.Bool.{ltb-true}
use Rattle.geos_calls.specs.VmFile.{Kept}
use Rattle.geos_calls.specs.Effects.{Choice}
use Rattle.geos_image.specs.Parts.{Parts, start_of}
use Rattle.vm_file.specs.Device.{Medium, Passes}
use Rattle.vm_blocks.specs.Found.{OpensAsKept}
use Rattle.geos_kernel.specs.View.{KernelState, memory_of}
use Rattle.geos_kernel.specs.Kernel.{IsChosen}
use Rattle.geos_calls.specs.Given.{given_memory}
use Rattle.geos_calls.specs.Memory.{Memory, locks_of}
use Rattle.geos_semantics.specs.Lists.{Each}
use Rattle.geos_semantics.specs.State.{State}
use Rattle.geos_semantics.specs.Model.{Outcome, Fault, Next, Done, step}
use Rattle.geos_machine.specs.Runs.{begin, kept_along, OpensAsOneOf, Throughout, RanWith}
use Rattle.tkv_meaning.specs.Meaning.{Scope, scope, drifted}
use Rattle.tkv_meaning.specs.Written.{kept_in, HasDone}
use Rattle.tkv_meaning.proofs.Runs.{routines_do_under}
use Rattle.tkv_checks.specs.Checked.{IsCodeOf}
use Rattle.tkv_theorem.specs.Theorem.{CompiledRunsAsWritten, HonestDriftsStay}

-- What the file keeps along a run

none_below : (n : ℕ) → nat_lt n 0 ≡ false
none_below n = go (nat_lt n 0) refl
  where
    go : (b : Bool) → nat_lt n 0 ≡ b → b ≡ false
    go true e = absurd (let p = ltb-true n 0 e in omega (arith, p))
    go false e = refl

-- the machine's list is that of the meaning
along-in : (image : Parts) (choices : List Choice) (s : State) → kept_along image choices s ≡ kept_in image 0 choices s
along-in image [] s = refl
along-in image (c ∷ cs) s = go (λ t. along-in image cs t) (step image c s)
  where
    next : ((t : State) → kept_along image cs t ≡ kept_in image 0 cs t) → (t : State)
        → kept_along image cs t ≡ cond (nat_lt (length t.stack) 0) (t.memory.file.kept ∷ []) (kept_in image 0 cs t)
    next rest t = rest t ∙ ap (λ (b : Bool). cond b (t.memory.file.kept ∷ []) (kept_in image 0 cs t)) (sym (none_below (length t.stack)))

    go : ((t : State) → kept_along image cs t ≡ kept_in image 0 cs t) → (o : Outcome) → s.memory.file.kept ∷ elim o [
      | Fault ↦ []
      | Next t ↦ kept_along image cs t
      | Done t ↦ t.memory.file.kept ∷ []
    ] ≡ s.memory.file.kept ∷ elim o [
      | Fault ↦ []
      | Next t ↦ cond (nat_lt (length t.stack) 0) (t.memory.file.kept ∷ []) (kept_in image 0 cs t)
      | Done t ↦ t.memory.file.kept ∷ []
    ]
    go rest Fault = refl
    go rest (Next t) = ap (λ (ks : List Kept). s.memory.file.kept ∷ ks) (next rest t)
    go rest (Done t) = refl

-- an image opens as one of a list, and so as one of each list that contains the same
opens-by : (keeps : List Kept) (k : Kept) (c : List ℕ) → Contains keeps k → OpensAsKept k c → OpensAsOneOf keeps c
opens-by [] k c h o = absurd (let less = h.1 in omega (arith, less))
opens-by (x ∷ keeps) k c (zero, less, is) o = inl (subst (λ (y : Kept). OpensAsKept y c) (sym is) o)
opens-by (x ∷ keeps) k c (suc j, less, is) o = inr (opens-by keeps k c (j, omega (arith, less), is) o)

opens-more : (keeps others : List Kept) (c : List ℕ) → ((k : Kept) → Contains keeps k → Contains others k) → OpensAsOneOf keeps c
    → OpensAsOneOf others c
opens-more [] others c more o = absurd o
opens-more (x ∷ keeps) others c more (inl o) = opens-by others x c (more x (zero, omega arith, refl)) o
opens-more (x ∷ keeps) others c more (inr o) =
    opens-more keeps others c (λ k h. more k (suc h.0, (let less = h.1 in omega (arith, less)), h.2)) o

-- An honest device

still : (good : Type 0) (old new : KernelState) → good → (cs : List Choice) → Each (IsChosen good old new) cs → (x : Scope) → x ≡ drifted cs x
still good old new is [] each x = refl
still good old new is (c ∷ cs) each x =
    ap (λ (given : List (Option (List (Option (List ℕ))))). record x { memory = given_memory given x.memory }) (sym (each.0.given is))
    ∙ still good old new is cs each.1 (drifted (c ∷ []) x)

pub honest_drifts : {D : Type 0} (medium : Medium D) → HonestDriftsStay medium
honest_drifts medium old new is x y (cs, each, e) = still (medium.honest old.device) old.core new.core is cs each x ∙ sym e

-- The theorem

pub compiled_runs : {D : Type 0} (medium : Medium D) → CompiledRunsAsWritten medium
compiled_runs {D} medium image placed written r items there words handles old new outcome gave f is = record {
  body = coded.body;
  spells = coded.spells;
  last = scope done.kept ran_with.ran.last;
  does = done.does;
  file = ran_with.file;
  tied = ran_with.tied;
  memory = ran_with.ran.memory;
  words = ran_with.ran.words_out;
  output = ran_with.ran.output;
  locks = λ name. sym (ap (λ (m : Memory). locks_of m name) ran_with.ran.memory) ∙ ran_with.locks name;
  stops = λ honest. (
    (λ s c left. later (ran_with.stops honest).0 s c left),
    (λ c left. wider c ((ran_with.stops honest).1 c left)),
  );
}
  where
    first : State
    first = begin image r words handles (memory_of old.core f)

    ran_with : RanWith (medium.honest old.device) (Throughout medium old.device new.device) image r words handles old.core new.core outcome f
    ran_with = gave.ran f is

    coded : IsCodeOf image (start_of image.routines r) items.items
    coded = written.coded r items there

    done : HasDone (IsChosen (medium.honest old.device) old.core new.core) coded.body first (kept_in image 0 ran_with.ran.choices first) ran_with.ran.last
    done = routines_do_under (IsChosen (medium.honest old.device) old.core new.core) image coded.body coded.formed ran_with.ran.choices 0
        outcome.steps first ran_with.ran.last ran_with.ran.chosen coded.code ran_with.ran.ran

    wider : (c : List ℕ) → OpensAsOneOf (kept_along image ran_with.ran.choices first) c → OpensAsOneOf done.kept c
    wider c o = opens-more (kept_in image 0 ran_with.ran.choices first) done.kept c done.keeps
        (subst (λ (ks : List Kept). OpensAsOneOf ks c) (along-in image ran_with.ran.choices first) o)

    later : Passes medium.may_have_left old.device new.device (OpensAsOneOf (kept_along image ran_with.ran.choices first))
        → Passes medium.may_have_left old.device new.device (OpensAsOneOf done.kept)
    later passes s c left = by (passes s c left)
      where
        by : medium.may_have_left s old.device c ⊎ OpensAsOneOf (kept_along image ran_with.ran.choices first) c
            → medium.may_have_left s old.device c ⊎ OpensAsOneOf done.kept c
        by (inl h) = inl h
        by (inr h) = inr (wider c h)
