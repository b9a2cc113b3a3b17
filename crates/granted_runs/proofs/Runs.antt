-- What a whole run leaves as it was.
use Rattle.std.proofs.Common.{◌≡◌, ℕ, ◌+◌, ◌≤◌, Bool, true, false, cond, Some, List, [], ◌∷◌, length, slice_get, refl, sym, subst, ◌∙◌, inl, inr, true≢false, arith}
use Rattle.std.specs.Prelude.{nat_lt}
use Rattle.std.proofs.lemmas.Bool.{le-ltb}
use Rattle.geos_calls.specs.VmFile.{Kept}
use Rattle.geos_calls.specs.Effects.{Choice}
use Rattle.vm_file.specs.Device.{Medium}
use Rattle.vm_blocks.specs.Found.{OpensAsKept}
use Rattle.geos_image.specs.declared.routine.Routine.{Routine}
use Rattle.geos_image.specs.Parts.{Parts}
use Rattle.geos_verify.specs.Rules.{IsChecked}
use Rattle.geos_semantics.specs.Lists.{Each}
use Rattle.geos_semantics.specs.State.{State}
use Rattle.geos_semantics.specs.Model.{Outcome, Fault, Next, Done, Ending, Faulted, Running, Returned, step, run}
use Rattle.geos_semantics.specs.Meets.{Base}
use Rattle.geos_semantics.specs.Theorem.{owed, Good, GoesWell, IsNext}
use Rattle.geos_semantics.proofs.Moments.{Moment}
use Rattle.geos_semantics.proofs.Steps.{step-well}
use Rattle.geos_machine.specs.Runs.{Throughout, OpensAsOneOf, kept_along}
use Rattle.geos_grants.specs.declared.effect.Effect.{Effect}
use Rattle.geos_grants.specs.declared.effect.Effect.TheVariants as effect
use Rattle.geos_grants.specs.Effects.{does}
use Rattle.geos_grants.specs.Routines.{has_effect}
use Rattle.geos_grants.proofs.Closed.{GoDown, go-down, effect-own, effect-called}
use Rattle.granted_runs.specs.Keeps.{Keeps}
use Rattle.granted_runs.proofs.Executed.{OfNext}
use Rattle.granted_runs.proofs.Steps.{Goes, Stands, keeps-same, keeps-then, step-goes}

pub each-as : {X : Type 0} (P R : X → Type 0) → ((x : X) → P x → R x) → (xs : List X) → Each P xs → Each R xs
each-as P R more [] h = tt
each-as P R more (x ∷ xs) h = (more x h.0, each-as P R more xs h.1)

module _ (image : Parts) (checked : IsChecked image) (base : Base) (root : ℕ) (outer : Routine)
    (there : slice_get image.routines root ≡ Some outer) (room : 0 + root ≤ 32) (honest : Type 0) where
  -- what a routine does, the root does
  abbrev pub IsOfRoot : ℕ → Type 0
  IsOfRoot q = (of : Effect) → has_effect image of q ≡ true → has_effect image of root ≡ true

  -- the root lacks an effect
  abbrev pub Lacks : Effect → Type 0
  Lacks of = has_effect image of root ≡ false

  -- each routine that runs is one of the root's, and no slot holds what others have locked, unless the root locks by handles
  abbrev pub AreOfRoot : State → Type 0
  AreOfRoot t = Stands IsOfRoot Lacks base t

  -- what holds at the end of a run
  abbrev pub EndKeeps : State → Ending → Type 0
  EndKeeps s Faulted = Unit {0}
  EndKeeps s (Running t) = Keeps Lacks honest base s t
  EndKeeps s (Returned n t) = Keeps Lacks honest base s t

  -- the committed pair does not change
  abbrev pub SameKept : State → List Kept → Type 0
  SameKept s keeps = Lacks effect.Commits → Each (λ (kept : Kept). kept ≡ s.memory.file.kept) keeps

  down : GoDown image
  down = go-down image checked

  abbrev moment_of : (s : State) → Good image base root [] s → Moment
  moment_of s G = record {
    image = image;
    legal = checked.0;
    accepted = checked.1;
    base = base;
    root = root;
    outer = outer;
    below = [];
    there = there;
    room = room;
    state = s;
    good = G;
  }

  end-then : (a b : State) → Keeps Lacks honest base a b → (e : Ending) → EndKeeps b e → EndKeeps a e
  end-then a b x Faulted y = tt
  end-then a b x (Running t) y = keeps-then Lacks honest base a b t x y
  end-then a b x (Returned n t) y = keeps-then Lacks honest base a b t x y

  kept-then : (a b : State) → Keeps Lacks honest base a b → (keeps : List Kept) → SameKept b keeps → SameKept a keeps
  kept-then a b x keeps y without =
      each-as (λ (kept : Kept). kept ≡ b.memory.file.kept) (λ (kept : Kept). kept ≡ a.memory.file.kept) (λ kept same. same ∙ x.kept without) keeps (y without)

  -- a step of a routine that is one of the root's
  step-of-root : (s : State) (G : Good image base root [] s) (choice : Choice) → (honest → choice.given ≡ []) → AreOfRoot s
      → OfNext (Goes IsOfRoot Lacks honest base s) (step image choice s)
  step-of-root s G choice given ours =
      step-goes (moment_of s G) choice Lacks (λ of without. lacks-here of without (does of G.point.instr G.point.row) refl) IsOfRoot honest given ours
      (λ is of has. ours.runs of (effect-called image down of s.routine s.pc G.routine G.point G.has is has))
    where
      lacks-here : (of : Effect) → Lacks of → (b : Bool) → does of G.point.instr G.point.row ≡ b → does of G.point.instr G.point.row ≡ false
      lacks-here of without true e =
          absurd (true≢false (sym (ours.runs of (effect-own image down of s.routine s.pc G.routine G.point G.has e)) ∙ without))
      lacks-here of without false e = e

  pub run-keeps : (choices : List Choice) (n : ℕ) (s : State) → Good image base root [] s → AreOfRoot s
      → Each (λ (choice : Choice). honest → choice.given ≡ []) choices
      → EndKeeps s (run image 0 choices n s) × SameKept s (kept_along image choices s)
  run-keeps [] n s G ours given = (keeps-same Lacks honest base s, λ without. (refl, tt))
  run-keeps (choice ∷ choices) n s G ours given =
      let both = go (λ t H mine. run-keeps choices (n + 1) t H mine given.1) (step image choice s) (step-well (moment_of s G) choice)
      (step-of-root s G choice given.0 ours) in
      (both.0, λ without. (refl, both.1 without))
    where
      go : ((t : State) → Good image base root [] t → AreOfRoot t
          → EndKeeps t (run image 0 choices (n + 1) t) × SameKept t (kept_along image choices t))
          → (o : Outcome) → GoesWell image base root outer [] (owed image G.frames s) o
          → OfNext (Goes IsOfRoot Lacks honest base s) o
          → EndKeeps s (elim o [
            | Fault ↦ Faulted
            | Next t ↦ cond (nat_lt (length t.stack) 0) (Returned (n + 1) t) (run image 0 choices (n + 1) t)
            | Done t ↦ Returned (n + 1) t
          ])
          × SameKept s (elim o [ Fault ↦ [] | Next t ↦ kept_along image choices t | Done t ↦ t.memory.file.kept ∷ [] ])
      go ih Fault h x = absurd h
      go ih (Next t) h x =
          let none : nat_lt (length t.stack) 0 ≡ false = le-ltb (length t.stack) 0 (omega arith) in
          let on = subst (λ b. IsNext b image base root outer [] (owed image G.frames s) t) none h in
          let rest = ih t on.good (record { runs = x.runs; waits = x.waits; untaken = x.untaken }) in (
            subst (λ b. EndKeeps s (cond b (Returned (n + 1) t) (run image 0 choices (n + 1) t))) (sym none)
                (end-then s t x.keeps (run image 0 choices (n + 1) t) rest.0),
            kept-then s t x.keeps (kept_along image choices t) rest.1,
          )
      go ih (Done t) h x = (x.keeps, λ without. (x.keeps.kept without, tt))

-- Stops

-- `open` finds the first committed pair if there was no other
pub opens-kept : (kept : Kept) (keeps : List Kept) (c : List ℕ) → Each (λ (other : Kept). other ≡ kept) keeps → OpensAsOneOf keeps c → OpensAsKept kept c
opens-kept kept [] c same opens = absurd opens
opens-kept kept (other ∷ keeps) c same (inl opens) = subst (λ (k : Kept). OpensAsKept k c) same.0 opens
opens-kept kept (other ∷ keeps) c same (inr opens) = opens-kept kept keeps c same.1 opens

-- what holds of all images that a stop leaves may be weaker
pub throughout-more : {D : Type 0} (medium : Medium D) (old new : D) (P R : List ℕ → Type 0) → ((c : List ℕ) → P c → R c)
    → Throughout medium old new P → Throughout medium old new R
throughout-more medium old new P R more h = (
  λ s c left. (elim (h.0 s c left) [ inl before ↦ inl before | inr now ↦ inr (more c now) ]),
  λ c left. more c (h.1 c left),
)
