-- One step of a run that returns: of a plain instruction, a jump, a loop's test, a return.
use Rattle.std.proofs.Common.{◌≡◌, ℕ, ◌+◌, ◌-◌, ◌<◌, Bool, true, false, cond, Some, List, [], ◌∷◌, ◌++◌, length, refl, sym, ap, ◌∙◌, subst, arith, inl, inr, ◌⊎◌, zero, suc}
use Rattle.std.specs.Prelude.{nat_lt, Contains}
use Rattle.std.proofs.lemmas.Bool.{ltb-false}
use Rattle.geos_image.specs.declared.instr.Instr.{Instr}
use Rattle.geos_image.specs.Parts.{Parts}
use Rattle.geos_opcodes.specs.declared.opcode.Opcode.TheVariants as op
use Rattle.geos_opcodes.specs.Facts.{uses_of}
use Rattle.geos_calls.specs.Effects.{Choice}
use Rattle.geos_calls.specs.VmFile.{Kept}
use Rattle.geos_semantics.specs.Lists.{Each}
use Rattle.geos_semantics.specs.State.{State, Frame, counter, with_counter, goto, along}
use Rattle.geos_semantics.specs.Faults.{is_fault}
use Rattle.geos_semantics.specs.Model.{Outcome, Fault, Next, Done, Ending, Faulted, Returned, run, step, step_at, tried, begun, in_routine, return_to}
use Rattle.tkv_meaning.specs.Written.{kept_in}
use Rattle.tkv_meaning.specs.Code.{jump, turn, ret, At}
use Rattle.tkv_meaning.specs.Meaning.{Scope, scope, drifted, Drifts}
use Rattle.tkv_meaning.proofs.Keeps.{Uniform}

-- What a list contains

pub contained-first : {X : Type 0} (x : X) (xs : List X) → Contains (x ∷ xs) x
contained-first x xs = (0, omega arith, refl)

pub contained-more : {X : Type 0} (x : X) (xs : List X) (y : X) → Contains xs y → Contains (x ∷ xs) y
contained-more x xs y h = (suc h.0, (let less = h.1 in omega (arith, less)), h.2)

pub contained-cases : {X : Type 0} (x : X) (xs : List X) (y : X) → Contains (x ∷ xs) y → (x ≡ y) ⊎ Contains xs y
contained-cases x xs y (zero, less, is) = inl is
contained-cases x xs y (suc k, less, is) = inr (k, omega (arith, less), is)

-- Steps

-- what a step makes of a run
abbrev pub ended : Parts → ℕ → List Choice → ℕ → Outcome → Ending
ended image depth cs n Fault = Faulted
ended image depth cs n (Next t) = cond (nat_lt (length t.stack) depth) (Returned (n + 1) t) (run image depth cs (n + 1) t)
ended image depth cs n (Done t) = Returned (n + 1) t

run_is : (image : Parts) (depth : ℕ) (c : Choice) (cs : List Choice) (n : ℕ) (s : State)
    → run image depth (c ∷ cs) n s ≡ ended image depth cs n (step image c s)
run_is image depth c cs n s = go (step image c s)
  where
    go : (o : Outcome) → elim o [
      | Fault ↦ Faulted
      | Next t ↦ cond (nat_lt (length t.stack) depth) (Returned (n + 1) t) (run image depth cs (n + 1) t)
      | Done t ↦ Returned (n + 1) t
    ] ≡ ended image depth cs n o
    go Fault = refl
    go (Next t) = refl
    go (Done t) = refl

-- a run under choices that are allowed comes to an ending
abbrev pub Comes : (Choice → Type 0) → Parts → ℕ → Ending → List Choice → ℕ → State → Type 0
Comes allowed image depth ending choices n s = Each allowed choices × (run image depth choices n s ≡ ending)

-- what a step makes of what the file keeps in a run
abbrev pub kept_by : Parts → ℕ → List Choice → Outcome → List Kept
kept_by image depth cs Fault = []
kept_by image depth cs (Next t) = cond (nat_lt (length t.stack) depth) (t.memory.file.kept ∷ []) (kept_in image depth cs t)
kept_by image depth cs (Done t) = t.memory.file.kept ∷ []

kept_in_is : (image : Parts) (depth : ℕ) (c : Choice) (cs : List Choice) (s : State)
    → kept_in image depth (c ∷ cs) s ≡ s.memory.file.kept ∷ kept_by image depth cs (step image c s)
kept_in_is image depth c cs s = go (step image c s)
  where
    go : (o : Outcome) → s.memory.file.kept ∷ elim o [
      | Fault ↦ []
      | Next t ↦ cond (nat_lt (length t.stack) depth) (t.memory.file.kept ∷ []) (kept_in image depth cs t)
      | Done t ↦ t.memory.file.kept ∷ []
    ] ≡ s.memory.file.kept ∷ kept_by image depth cs o
    go Fault = refl
    go (Next t) = refl
    go (Done t) = refl

-- a run that returns takes the step of the instruction at its pc
pub record Tried (allowed : Choice → Type 0) (image : Parts) (depth : ℕ) (ending : Ending) (i : Instr) (choices : List Choice) (n : ℕ)
    (s : State) : Type 0 where
  pub choice : Choice
  pub chosen : allowed choice
  pub rest : List Choice
  pub others : Each allowed rest
  pub parts : choices ≡ choice ∷ rest
  pub is : ended image depth rest n (tried image choice i (begun choice s)) ≡ ending
  pub keeps : kept_in image depth choices s ≡ s.memory.file.kept ∷ kept_by image depth rest (tried image choice i (begun choice s))

pub one_try : (allowed : Choice → Type 0) (image : Parts) (depth m : ℕ) (last : State) (choices : List Choice) (n : ℕ) (s : State) (i : Instr)
    → At image s.pc i → Comes allowed image depth (Returned m last) choices n s → Tried allowed image depth (Returned m last) i choices n s
one_try allowed image depth m last [] n s i at (each, h) = absurd cc
one_try allowed image depth m last (c ∷ cs) n s i at (each, h) = go (in_routine image s.routine s.pc) all kept
  where
    here : step image c s ≡ step_at image c (begun c s) (Some at.0)
    here = ap (step_at image c (begun c s)) at.1

    there : step_at image c (begun c s) (Some at.0) ≡ cond (in_routine image s.routine s.pc) (tried image c i (begun c s)) Fault
    there = ap (λ (j : Instr). cond (in_routine image s.routine s.pc) (tried image c j (begun c s)) Fault) at.2

    kept : kept_in image depth (c ∷ cs) s
        ≡ s.memory.file.kept ∷ kept_by image depth cs (cond (in_routine image s.routine s.pc) (tried image c i (begun c s)) Fault)
    kept = kept_in_is image depth c cs s ∙ ap (λ (o : Outcome). s.memory.file.kept ∷ kept_by image depth cs o) (here ∙ there)

    all : ended image depth cs n (cond (in_routine image s.routine s.pc) (tried image c i (begun c s)) Fault) ≡ Returned m last
    all = sym (ap (ended image depth cs n) (here ∙ there)) ∙ (sym (run_is image depth c cs n s) ∙ h)

    go : (b : Bool) → ended image depth cs n (cond b (tried image c i (begun c s)) Fault) ≡ Returned m last
        → kept_in image depth (c ∷ cs) s ≡ s.memory.file.kept ∷ kept_by image depth cs (cond b (tried image c i (begun c s)) Fault)
        → Tried allowed image depth (Returned m last) i (c ∷ cs) n s
    go true q k = record { choice = c; chosen = each.0; rest = cs; others = each.1; parts = refl; is = q; keeps = k }
    go false q k = absurd cc

-- the stack stays
abbrev pub Stays : State → Outcome → Type 0
Stays s Fault = Unit {0}
Stays s (Next t) = t.stack ≡ s.stack
Stays s (Done t) = ⊥

pub uniform-stays : (s : State) (f : ℕ → Outcome) → Uniform s f → (to : ℕ) → Stays s (f to)
uniform-stays s f (inl u) to = subst (Stays s) (sym (u to)) tt
uniform-stays s f (inr (inl u)) to = subst (Stays s) (sym (u.2 to)) u.1
uniform-stays s f (inr (inr u)) to = subst (Stays s) (sym (u.2 to)) u.1

-- a run that returns takes a step that does not change the stack, and continues
pub record Stepped (allowed : Choice → Type 0) (image : Parts) (depth : ℕ) (ending : Ending) (i : Instr) (s : State)
    (choices : List Choice) (bound : ℕ) : Type 0 where
  pub choice : Choice
  pub chosen : allowed choice
  pub after : State
  pub rest : List Choice
  pub steps : ℕ
  pub goes_on : Comes allowed image depth ending rest steps after
  pub done : tried image choice i (begun choice s) ≡ Next after
  pub stack : after.stack ≡ s.stack
  pub fewer : length rest < bound
  pub keeps : kept_in image depth choices s ≡ s.memory.file.kept ∷ kept_in image depth rest after

pub one_step : (allowed : Choice → Type 0) (image : Parts) (depth m : ℕ) (last : State) (choices : List Choice) (n : ℕ) (s : State) (i : Instr)
    → At image s.pc i → ((c : Choice) → Stays s (tried image c i (begun c s))) → nat_lt (length s.stack) depth ≡ false
    → Comes allowed image depth (Returned m last) choices n s → Stepped allowed image depth (Returned m last) i s choices (length choices)
one_step allowed image depth m last choices n s i at stays deep h =
    went (tried image t.choice i (begun t.choice s)) refl (stays t.choice) t.is t.keeps
  where
    t : Tried allowed image depth (Returned m last) i choices n s
    t = one_try allowed image depth m last choices n s i at h

    went : (o : Outcome) → tried image t.choice i (begun t.choice s) ≡ o → Stays s o → ended image depth t.rest n o ≡ Returned m last
        → kept_in image depth choices s ≡ s.memory.file.kept ∷ kept_by image depth t.rest o
        → Stepped allowed image depth (Returned m last) i s choices (length choices)
    went Fault e k q w = absurd cc
    went (Next u) e k q w =
        let d : nat_lt (length u.stack) depth ≡ false = subst (λ (st : List Frame). nat_lt (length st) depth ≡ false) (sym k) deep in
        record {
          choice = t.choice;
          chosen = t.chosen;
          after = u;
          rest = t.rest;
          steps = n + 1;
          goes_on = (t.others, subst (λ (b : Bool). cond b (Returned (n + 1) u) (run image depth t.rest (n + 1) u) ≡ Returned m last) d q);
          done = e;
          stack = k;
          fewer = (let p = ap (λ (cs : List Choice). length cs) t.parts in omega (arith, p));
          keeps = w ∙ ap (λ (b : Bool). s.memory.file.kept ∷ cond b (u.memory.file.kept ∷ []) (kept_in image depth t.rest u)) d;
        }
    went (Done u) e k q w = absurd k

next_is : (b : Bool) (t u : State) → cond b Fault (Next t) ≡ Next u → u ≡ t
next_is true t u e = absurd cc
next_is false t u e = cc

stays_next : (b : Bool) (s t : State) → t.stack ≡ s.stack → Stays s (cond b Fault (Next t))
stays_next true s t e = tt
stays_next false s t e = e

-- Jumps

pub jump_stays : (image : Parts) (c : Choice) (to : ℕ) (s : State) → Stays s (tried image c (jump to) (begun c s))
jump_stays image c to s = stays_next (is_fault (jump to) (uses_of op.Jmp) (begun c s)) s (goto to (begun c s)) refl

pub jump_done : (image : Parts) (c : Choice) (to : ℕ) (s t : State) → tried image c (jump to) (begun c s) ≡ Next t → t ≡ goto to (begun c s)
jump_done image c to s t e = next_is (is_fault (jump to) (uses_of op.Jmp) (begun c s)) (goto to (begun c s)) t e

-- The test of a loop

-- what the test makes of a counter's value
abbrev pub turned : ℕ → ℕ → State → ℕ → Outcome
turned k to s v = cond (nat_lt 0 v) (Next (goto to (with_counter k (v - 1) s))) (Next (along s))

pub turn_stays : (image : Parts) (c : Choice) (k to : ℕ) (s : State) → Stays s (tried image c (turn k to) (begun c s))
turn_stays image c k to s = go (is_fault (turn k to) (uses_of op.Loop) (begun c s)) (nat_lt 0 (counter s k))
  where
    go : (b d : Bool) → Stays s (cond b Fault (cond d (Next (goto to (with_counter k (counter s k - 1) (begun c s)))) (Next (along (begun c s)))))
    go true d = tt
    go false true = refl
    go false false = refl

pub turn_done : (image : Parts) (c : Choice) (k to : ℕ) (s t : State) → tried image c (turn k to) (begun c s) ≡ Next t
    → turned k to (begun c s) (counter s k) ≡ Next t
turn_done image c k to s t h = go (is_fault (turn k to) (uses_of op.Loop) (begun c s)) h
  where
    go : (b : Bool) → cond b Fault (turned k to (begun c s) (counter s k)) ≡ Next t → turned k to (begun c s) (counter s k) ≡ Next t
    go true q = absurd cc
    go false q = q

pub next_state : (t u : State) → Next t ≡ Next u → u ≡ t
next_state t u e = cc

pub turn_keeps : (image : Parts) (c : Choice) (k to : ℕ) (s t : State) → tried image c (turn k to) (begun c s) ≡ Next t
    → t.memory.file.kept ≡ s.memory.file.kept
turn_keeps image c k to s t h = go (nat_lt 0 (counter s k)) (turn_done image c k to s t h)
  where
    kept : (u : State) → Next u ≡ Next t → t.memory.file.kept ≡ u.memory.file.kept
    kept u e = ap (λ (v : State). v.memory.file.kept) (next_state u t e)

    go : (b : Bool) → cond b (Next (goto to (with_counter k (counter s k - 1) (begun c s)))) (Next (along (begun c s))) ≡ Next t
        → t.memory.file.kept ≡ s.memory.file.kept
    go true e = kept (goto to (with_counter k (counter s k - 1) (begun c s))) e
    go false e = kept (along (begun c s)) e

-- A return

pub return_done : (kept : List Kept) (image : Parts) (depth m n : ℕ) (last : State) (c : Choice) (cs : List Choice) (s : State) → depth ≡ length s.stack
    → ended image depth cs n (tried image c ret (begun c s)) ≡ Returned m last → scope kept last ≡ scope kept (begun c s)
return_done kept image depth m n last c cs s deep h = go (is_fault ret (uses_of op.Ret) (begun c s)) s.stack deep h
  where
    back : (b : Bool) (t : State) → b ≡ true → cond b (Returned (n + 1) t) (run image depth cs (n + 1) t) ≡ Returned m last → last ≡ t
    back true t e q = cc
    back false t e q = absurd cc

    go : (b : Bool) (st : List Frame) → depth ≡ length st → ended image depth cs n (cond b Fault (return_to (begun c s) st)) ≡ Returned m last
        → scope kept last ≡ scope kept (begun c s)
    go true st d q = absurd cc
    go false [] d q = ap (scope kept) (done q)
      where
        done : Returned (n + 1) (begun c s) ≡ Returned m last → last ≡ begun c s
        done p = cc
    go false (frame ∷ st) d q = ap (scope kept) (back (nat_lt (length st) depth)
        (record (begun c s) { routine = frame.routine; pc = frame.pc; stack = st }) (is_less (nat_lt (length st) depth) refl) q)
      where
        is_less : (b : Bool) → nat_lt (length st) depth ≡ b → b ≡ true
        is_less true e = refl
        is_less false e = absurd (omega (arith, ltb-false (length st) depth e, d))

-- after a return the file has committed what it had committed before
pub return_keeps : (image : Parts) (depth m n : ℕ) (last : State) (c : Choice) (cs : List Choice) (s : State) → depth ≡ length s.stack
    → ended image depth cs n (tried image c ret (begun c s)) ≡ Returned m last → (kept : Kept)
    → Contains (kept_by image depth cs (tried image c ret (begun c s))) kept → s.memory.file.kept ≡ kept
return_keeps image depth m n last c cs s deep h kept = go (is_fault ret (uses_of op.Ret) (begun c s)) s.stack deep h
  where
    only : Contains (s.memory.file.kept ∷ []) kept → s.memory.file.kept ≡ kept
    only k = first (contained-cases s.memory.file.kept [] kept k)
      where
        first : (s.memory.file.kept ≡ kept) ⊎ Contains [] kept → s.memory.file.kept ≡ kept
        first (inl e) = e
        first (inr none_is) = absurd (let less = none_is.1 in omega (arith, less))

    is_less : (n : ℕ) → depth ≡ suc n → (b : Bool) → nat_lt n depth ≡ b → b ≡ true
    is_less n d true e = refl
    is_less n d false e = absurd (omega (arith, ltb-false n depth e, d))

    go : (b : Bool) (st : List Frame) → depth ≡ length st → ended image depth cs n (cond b Fault (return_to (begun c s) st)) ≡ Returned m last
        → Contains (kept_by image depth cs (cond b Fault (return_to (begun c s) st))) kept → s.memory.file.kept ≡ kept
    go true st d q k = absurd cc
    go false [] d q k = only k
    go false (frame ∷ st) d q k = only (subst
        (λ (b : Bool). Contains (cond b (s.memory.file.kept ∷ []) (kept_in image depth cs
        (record (begun c s) { routine = frame.routine; pc = frame.pc; stack = st }))) kept)
        (is_less (length st) d (nat_lt (length st) depth) refl) k)

-- Drifts

-- steps of control do not change what the file has committed
pub drifted-kept : (cs : List Choice) (x : Scope) → (drifted cs x).kept ≡ x.kept
drifted-kept [] x = refl
drifted-kept (c ∷ cs) x = drifted-kept cs (drifted (c ∷ []) x)

-- what a scope is after a step of control
pub drift : (allowed : Choice → Type 0) (c : Choice) → allowed c → (kept : List Kept) (s t u : State) → u ≡ t
    → scope kept t ≡ drifted (c ∷ []) (scope kept s) → Drifts allowed (scope kept s) (scope kept u)
drift allowed c chosen kept s t u e h = (c ∷ [], (chosen, tt), ap (scope kept) e ∙ h)

drifted-append : (cs ds : List Choice) (x : Scope) → drifted (cs ++ ds) x ≡ drifted ds (drifted cs x)
drifted-append [] ds x = refl
drifted-append (c ∷ cs) ds x = drifted-append cs ds (drifted (c ∷ []) x)

each-append : (allowed : Choice → Type 0) (cs ds : List Choice) → Each allowed cs → Each allowed ds → Each allowed (cs ++ ds)
each-append allowed [] ds p q = q
each-append allowed (c ∷ cs) ds p q = (p.0, each-append allowed cs ds p.1 q)

-- one drift after another
pub both : (allowed : Choice → Type 0) (x y z : Scope) → Drifts allowed x y → Drifts allowed y z → Drifts allowed x z
both allowed x y z (cs, p, d) (ds, q, e) = (cs ++ ds, each-append allowed cs ds p q, e ∙ (ap (drifted ds) d ∙ sym (drifted-append cs ds x)))

pub none : (allowed : Choice → Type 0) (x : Scope) → Drifts allowed x x
none allowed x = ([], tt, refl)
