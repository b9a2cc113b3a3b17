-- A run that is at the code of a statement carries the statement out.
use Rattle.std.proofs.Common.{◌≡◌, ℕ, zero, suc, ◌+◌, ◌-◌, ◌<◌, ◌≤◌, Bool, true, false, cond, List, [], ◌∷◌, length, refl, sym, ap, ◌∙◌, subst, arith, inl, inr, ◌⊎◌}
use Rattle.std.specs.Prelude.{nat_lt, ◌==◌, Contains}
use Rattle.std.proofs.lemmas.Bool.{ltb-false, ltb-true}
use Rattle.geos_image.specs.declared.instr.Instr.{Instr}
use Rattle.geos_image.specs.Parts.{Parts}
use Rattle.geos_calls.specs.Effects.{Choice}
use Rattle.geos_calls.specs.VmFile.{Kept}
use Rattle.geos_semantics.specs.Lists.{Each}
use Rattle.geos_semantics.specs.State.{State, Frame, counter, with_counter, goto, along}
use Rattle.geos_semantics.specs.Model.{Outcome, Fault, Next, Returned, run, tried, begun}
use Rattle.tkv_meaning.specs.Statements.{Stmt, Skip, Act, Try, Leave, Then, Block, Loop, Count, Closing, is_plain, Continues, IsFormed}
use Rattle.tkv_meaning.specs.Code.{aimed, jump, turn, ret, At, Jumps, Comes, chosen, with_label, Has, HasTest, HasCode, Returns, Nowhere, IsRoutineCode}
use Rattle.tkv_meaning.specs.Meaning.{Scope, scope, Way, On, Out, Drifts, pc_after, no_code, Acts, Again, Spent, Turns, Does}
use Rattle.tkv_meaning.specs.Written.{kept_in, HasDone, RoutinesDoWhatIsWritten}
use Rattle.tkv_meaning.proofs.Keeps.{Uniform, tried_uniform, tried_alike, GoesOn, tried_goes}
use Rattle.tkv_meaning.proofs.Control.{Comes as ComesTo, Tried, one_try, uniform-stays, Stepped, one_step, jump_stays, jump_done, turned, turn_stays, turn_done, turn_keeps, kept_by, return_keeps, drifted-kept, next_state, return_done, drift, both, none, contained-first, contained-more, contained-cases}

-- the pc is where control continues, or where the exit leads
abbrev IsThere : (ℕ → Type 0) → (ℕ → ℕ → Type 0) → Way → ℕ → Type 0
IsThere next exits On pc = next pc
IsThere next exits (Out j) pc = exits j pc

-- an outcome is not both a fault and a state
no_fault : (o : Outcome) (t : State) → o ≡ Fault → o ≡ Next t → ⊥
no_fault o t e f = absurd (apart (sym e ∙ f))
  where
    apart : Fault ≡ Next t → ⊥
    apart p = cc

-- a state of a run, and what the file has committed so far
record Now : Type 0 where
  state : State
  kept : List Kept
  has : Contains kept state.memory.file.kept

-- the scope then
abbrev seen : Now → Scope
seen t = scope t.kept t.state

-- after a step of control
abbrev moved : (s : Now) (t : State) → t.memory.file.kept ≡ s.state.memory.file.kept → Now
moved s t e = record { state = t; kept = s.kept; has = subst (Contains s.kept) (sym e) s.has }

-- after an instruction that acts
abbrev acted_to : Now → State → Now
acted_to s t = record { state = t; kept = t.memory.file.kept ∷ s.kept; has = contained-first t.memory.file.kept s.kept }

module _ (allowed : Choice → Type 0) (image : Parts) (depth m : ℕ) (last : State) where
  abbrev IsDeep : Now → Type 0
  IsDeep s = nat_lt (length s.state.stack) depth ≡ false

  abbrev Returning : List Choice → ℕ → Now → Type 0
  Returning choices n s = ComesTo allowed image depth (Returned m last) choices n s.state

  -- a run from s reaches a state of a kind, with at most as many
  -- choices left; it has recorded what the file committed on the path
  record Reached (kind : Now → Type 0) (s : Now) (choices : List Choice) (bound : ℕ) : Type 0 where
    after : Now
    rest : List Choice
    steps : ℕ
    goes_on : Returning rest steps after
    stack : after.state.stack ≡ s.state.stack
    few : length rest ≤ bound
    older : (kept : Kept) → Contains s.kept kept → Contains after.kept kept
    along : (kept : Kept) → Contains (kept_in image depth choices s.state) kept
        → Contains after.kept kept ⊎ Contains (kept_in image depth rest after.state) kept
    is : kind after

  deeper : (s t : Now) → t.state.stack ≡ s.state.stack → IsDeep s → IsDeep t
  deeper s t e deep = subst (λ (st : List Frame). nat_lt (length st) depth ≡ false) (sym e) deep

  -- a run that is in a state of a kind comes to one of another kind
  abbrev Leads : (Now → Type 0) → (Now → Type 0) → ℕ → Type 0
  Leads kind other bound = (t : Now) → kind t → IsDeep t → (choices : List Choice) (n : ℕ) → Returning choices n t → length choices ≤ bound
      → Reached other t choices (length choices)

  onward : (kind other : Now → Type 0) (s : Now) (choices : List Choice) (bound : ℕ) → IsDeep s → Reached kind s choices bound
      → Leads kind other bound → Reached other s choices bound
  onward kind other s choices bound deep r leads = joined (leads r.after r.is (deeper s r.after r.stack deep) r.rest r.steps r.goes_on r.few)
    where
      joined : Reached other r.after r.rest (length r.rest) → Reached other s choices bound
      joined g = record {
        after = g.after;
        rest = g.rest;
        steps = g.steps;
        goes_on = g.goes_on;
        stack = g.stack ∙ r.stack;
        few = (let a = r.few in let b = g.few in omega (arith, a, b));
        older = λ kept h. g.older kept (r.older kept h);
        along = λ kept h. join kept (r.along kept h);
        is = g.is;
      }
        where
          join : (kept : Kept) → Contains r.after.kept kept ⊎ Contains (kept_in image depth r.rest r.after.state) kept
              → Contains g.after.kept kept ⊎ Contains (kept_in image depth g.rest g.after.state) kept
          join kept (inl h) = inl (g.older kept h)
          join kept (inr h) = g.along kept h

  weaken : (kind : Now → Type 0) (s : Now) (choices : List Choice) (few more : ℕ) → few ≤ more → Reached kind s choices few
      → Reached kind s choices more
  weaken kind s choices few more le r = record {
    after = r.after;
    rest = r.rest;
    steps = r.steps;
    goes_on = r.goes_on;
    stack = r.stack;
    few = (let a = r.few in omega (arith, a, le));
    older = r.older;
    along = r.along;
    is = r.is;
  }

  here : (kind : Now → Type 0) (s : Now) (choices : List Choice) (n : ℕ) → Returning choices n s → kind s
      → Reached kind s choices (length choices)
  here kind s choices n h k = record {
    after = s;
    rest = choices;
    steps = n;
    goes_on = h;
    stack = refl;
    few = omega arith;
    older = λ kept c. c;
    along = λ kept c. inr c;
    is = k;
  }

  -- one step, after which the file has committed these contents
  stepped : (kind : Now → Type 0) (i : Instr) (s : Now) (choices : List Choice) (bound : ℕ)
      (st : Stepped allowed image depth (Returned m last) i s.state choices bound) (now : List Kept)
      → ((kept : Kept) → Contains s.kept kept → Contains now kept) → (has : Contains now st.after.memory.file.kept)
      → kind (record { state = st.after; kept = now; has = has }) → Reached kind s choices bound
  stepped kind i s choices bound st now older has k = record {
    after = record { state = st.after; kept = now; has = has };
    rest = st.rest;
    steps = st.steps;
    goes_on = st.goes_on;
    stack = st.stack;
    few = (let a = st.fewer in omega (arith, a));
    older = older;
    along = λ kept c. by kept
        (contained-cases s.state.memory.file.kept (kept_in image depth st.rest st.after) kept (subst (λ (ks : List Kept). Contains ks kept) st.keeps c));
    is = k;
  }
    where
      by : (kept : Kept) → (s.state.memory.file.kept ≡ kept) ⊎ Contains (kept_in image depth st.rest st.after) kept
          → Contains now kept ⊎ Contains (kept_in image depth st.rest st.after) kept
      by kept (inl e) = inl (older kept (subst (Contains s.kept) e s.has))
      by kept (inr c) = inr c

  -- a step of control
  stepped_over : (kind : Now → Type 0) (i : Instr) (s : Now) (choices : List Choice) (bound : ℕ)
      (st : Stepped allowed image depth (Returned m last) i s.state choices bound) (e : st.after.memory.file.kept ≡ s.state.memory.file.kept)
      → kind (moved s st.after e) → Reached kind s choices bound
  stepped_over kind i s choices bound st e k =
      stepped kind i s choices bound st s.kept (λ kept c. c) (subst (Contains s.kept) (sym e) s.has) k

  -- a step that acts
  stepped_acting : (kind : Now → Type 0) (i : Instr) (s : Now) (choices : List Choice) (bound : ℕ)
      (st : Stepped allowed image depth (Returned m last) i s.state choices bound) → kind (acted_to s st.after) → Reached kind s choices bound
  stepped_acting kind i s choices bound st k =
      stepped kind i s choices bound st (st.after.memory.file.kept ∷ s.kept) (contained-more st.after.memory.file.kept s.kept)
      (contained-first st.after.memory.file.kept s.kept) k

  -- Jumps

  -- control has come there, and nothing else is changed
  abbrev Came : Scope → (ℕ → Type 0) → Now → Type 0
  Came x there t = Drifts allowed x (seen t) × there t.state.pc

  jumps_go : (k q : ℕ) (there : ℕ → Type 0) (choices : List Choice) (n : ℕ) (s : Now) → Jumps image k s.state.pc q → there q → IsDeep s
      → Returning choices n s → Reached (Came (seen s) there) s choices (length choices)
  jumps_go zero q there choices n s e it deep h = here (Came (seen s) there) s choices n h (none allowed (seen s), subst there (sym e) it)
  jumps_go (suc k) q there choices n s (to, at, more) it deep h =
      onward (λ t. Drifts allowed (seen s) (seen t) × Jumps image k t.state.pc q) (Came (seen s) there) s choices (length choices) deep
      (stepped_over (λ t. Drifts allowed (seen s) (seen t) × Jumps image k t.state.pc q) (jump to) s choices (length choices) st
      (ap (λ (t : State). t.memory.file.kept) is)
      (drift allowed st.choice st.chosen s.kept s.state (goto to (begun st.choice s.state)) st.after is refl, subst (λ (p : ℕ). Jumps image k p q) (sym (ap (λ (t : State). t.pc) is)) more))
      (λ t k_t d cs steps r few. further t k_t (jumps_go k q there cs steps t k_t.1 it d r))
    where
      st : Stepped allowed image depth (Returned m last) (jump to) s.state choices (length choices)
      st = one_step allowed image depth m last choices n s.state (jump to) at (λ c. jump_stays image c to s.state) deep h

      is : st.after ≡ goto to (begun st.choice s.state)
      is = jump_done image st.choice to s.state st.after st.done

      further : (t : Now) {choices : List Choice} {bound : ℕ} → Drifts allowed (seen s) (seen t) × Jumps image k t.state.pc q
          → Reached (Came (seen t) there) t choices bound → Reached (Came (seen s) there) t choices bound
      further t k_t r = record {
        after = r.after;
        rest = r.rest;
        steps = r.steps;
        goes_on = r.goes_on;
        stack = r.stack;
        few = r.few;
        older = r.older;
        along = r.along;
        is = (both allowed (seen s) (seen t) (seen r.after) k_t.0 r.is.0, r.is.1);
      }

  comes : (there : ℕ → Type 0) (choices : List Choice) (n : ℕ) (s : Now) → Comes image there s.state.pc → IsDeep s → Returning choices n s
      → Reached (Came (seen s) there) s choices (length choices)
  comes there choices n s (k, q, jumps, it) deep h = jumps_go k q there choices n s jumps it deep h

  -- Statements

  -- the statement has been carried out, from a scope
  abbrev Carried : Stmt → (ℕ → Type 0) → (ℕ → ℕ → Type 0) → Scope → Now → Type 0
  Carried a next exits x t = (way : Way) × Does allowed a x way (seen t) × IsThere next exits way t.state.pc

  abbrev Carries : Stmt → (ℕ → Type 0) → (ℕ → ℕ → Type 0) → Type 0
  Carries a next exits = (choices : List Choice) (n : ℕ) (s : Now) → IsDeep s → HasCode image a next exits s.state.pc → Returning choices n s
      → Reached (Carried a next exits (seen s)) s choices (length choices)

  skip_goes : (next : ℕ → Type 0) (exits : ℕ → ℕ → Type 0) → Carries Skip next exits
  skip_goes next exits choices n s deep code h =
      onward (Came (seen s) next) (Carried Skip next exits (seen s)) s choices (length choices) deep (comes next choices n s code deep h)
      (λ t c d cs steps r few. here (Carried Skip next exits (seen s)) t cs steps r (On, (c.0, refl), c.1))

  leave_goes : (j : ℕ) (next : ℕ → Type 0) (exits : ℕ → ℕ → Type 0) → Carries (Leave j) next exits
  leave_goes j next exits choices n s deep code h =
      onward (Came (seen s) (exits j)) (Carried (Leave j) next exits (seen s)) s choices (length choices) deep (comes (exits j) choices n s code deep h)
      (λ t c d cs steps r few. here (Carried (Leave j) next exits (seen s)) t cs steps r (Out j, (c.0, refl), c.1))

  -- the instruction is there, with what comes after it and at its target
  abbrev TryAt : Instr → (ℕ → Type 0) → (ℕ → Type 0) → ℕ → Type 0
  TryAt i next target q = (to : ℕ) × At image q (aimed i to) × next (q + 1) × target to

  -- a plain instruction has acted
  abbrev Acted : Instr → (ℕ → Type 0) → (ℕ → Type 0) → Scope → Now → Type 0
  Acted i next target x t = (Acts allowed i x false (seen t) × next t.state.pc) ⊎ (Acts allowed i x true (seen t) × target t.state.pc)

  uniform : (i : Instr) → is_plain i.opcode ≡ true → (c : Choice) (s : State) → Uniform (begun c s) (λ to. tried image c (aimed i to) (begun c s))
  uniform i plain c s = tried_uniform image c i (begun c s) plain

  acts : (i : Instr) (next target : ℕ → Type 0) → is_plain i.opcode ≡ true → (s : Now) → TryAt i next target s.state.pc → IsDeep s
      → (choices : List Choice) (n : ℕ) → Returning choices n s → Reached (Acted i next target (seen s)) s choices (length choices)
  acts i next target plain s (to, at, it, leads) deep choices n h =
      stepped_acting (Acted i next target (seen s)) (aimed i to) s choices (length choices) st (went (uniform i plain st.choice s.state))
    where
      st : Stepped allowed image depth (Returned m last) (aimed i to) s.state choices (length choices)
      st = one_step allowed image depth m last choices n s.state (aimed i to) at
          (λ c. uniform-stays (begun c s.state) (λ q. tried image c (aimed i q) (begun c s.state)) (uniform i plain c s.state) to) deep h

      acted : (leaves : Bool) (t : State)
          → ((q : ℕ) → tried image st.choice (aimed i q) (begun st.choice s.state) ≡ Next (goto (pc_after leaves (s.state.pc + 1) q) t))
          → Acts allowed i (seen s) leaves (seen (acted_to s st.after)) × (st.after.pc ≡ pc_after leaves (s.state.pc + 1) to)
      acted leaves t all =
          let e : st.after ≡ goto (pc_after leaves (s.state.pc + 1) to) t =
          next_state (goto (pc_after leaves (s.state.pc + 1) to) t) st.after (sym (all to) ∙ st.done) in (
            record {
              choice = st.choice;
              chosen = st.chosen;
              before = s.state;
              from_x = refl;
              after = t;
              to_y = sym (ap (λ (v : State). scope (v.memory.file.kept ∷ s.kept) v) e);
              step = λ q. sym (tried_alike image no_code st.choice (aimed i q) (begun st.choice s.state) plain) ∙ all q;
            },
            ap (λ (u : State). u.pc) e,
          )

      went : Uniform (begun st.choice s.state) (λ q. tried image st.choice (aimed i q) (begun st.choice s.state)) → Acted i next target (seen s) (acted_to s st.after)
      went (inl fault) = absurd (no_fault (tried image st.choice (aimed i to) (begun st.choice s.state)) st.after (fault to) st.done)
      went (inr (inl (t, same, all))) = let a = acted false t all in inl (a.0, subst next (sym a.1) it)
      went (inr (inr (t, same, all))) = let a = acted true t all in inr (a.0, subst target (sym a.1) leads)

  try_goes : (i : Instr) (j : ℕ) (next : ℕ → Type 0) (exits : ℕ → ℕ → Type 0) → is_plain i.opcode ≡ true → Carries (Try i j) next exits
  try_goes i j next exits plain choices n s deep code h =
      onward (Came (seen s) (TryAt i next (exits j))) (Carried (Try i j) next exits (seen s)) s choices (length choices) deep
      (comes (TryAt i next (exits j)) choices n s code deep h)
      (λ t c d cs steps r few. onward (Acted i next (exits j) (seen t)) (Carried (Try i j) next exits (seen s)) t cs (length cs) d
      (acts i next (exits j) plain t c.1 d cs steps r)
      (λ u a d2 cs2 steps2 r2 few2. here (Carried (Try i j) next exits (seen s)) u cs2 steps2 r2 (done t u c.0 a)))
    where
      done : (t u : Now) → Drifts allowed (seen s) (seen t) → Acted i next (exits j) (seen t) u → Carried (Try i j) next exits (seen s) u
      done t u d (inl a) = (On, (seen t, d, inl (a.0, refl)), a.1)
      done t u d (inr a) = (Out j, (seen t, d, inr (a.0, refl)), a.1)

  then_goes : (a b : Stmt) (next : ℕ → Type 0) (exits : ℕ → ℕ → Type 0) → Carries a (HasCode image b next exits) exits → Carries b next exits
      → Carries (Then a b) next exits
  then_goes a b next exits fa fb choices n s deep code h =
      onward (Carried a (HasCode image b next exits) exits (seen s)) (Carried (Then a b) next exits (seen s)) s choices (length choices) deep
      (fa choices n s deep code h) second
    where
      second : Leads (Carried a (HasCode image b next exits) exits (seen s)) (Carried (Then a b) next exits (seen s)) (length choices)
      second t (On, does, it) d cs steps r few =
          onward (Carried b next exits (seen t)) (Carried (Then a b) next exits (seen s)) t cs (length cs) d (fb cs steps t d it r)
          (λ u c d2 cs2 steps2 r2 few2. here (Carried (Then a b) next exits (seen s)) u cs2 steps2 r2 (c.0, inl (seen t, does, c.1), c.2))
      second t (Out j, does, it) d cs steps r few = here (Carried (Then a b) next exits (seen s)) t cs steps r (Out j, inr (j, does, refl), it)

  block_goes : (l : ℕ) (a : Stmt) (next : ℕ → Type 0) (exits : ℕ → ℕ → Type 0) → Carries a next (with_label l next exits)
      → Carries (Block l a) next exits
  block_goes l a next exits fa choices n s deep code h =
      onward (Carried a next (with_label l next exits) (seen s)) (Carried (Block l a) next exits (seen s)) s choices (length choices) deep
      (fa choices n s deep code h) (λ t c d cs steps r few. here (Carried (Block l a) next exits (seen s)) t cs steps r (ends t c))
    where
      -- an exit of the body, to the end of this block or of another
      exit : (t : Now) (j : ℕ) (b : Bool) → chosen b next (exits j) t.state.pc → (way : Way) × ((way ≡ cond b On (Out j)) × IsThere next exits way t.state.pc)
      exit t j true it = (On, (refl, it))
      exit t j false it = (Out j, (refl, it))

      ends : (t : Now) → Carried a next (with_label l next exits) (seen s) t → Carried (Block l a) next exits (seen s) t
      ends t (On, does, it) = (On, (On, does, refl), it)
      ends t (Out j, does, it) = let e = exit t j (j == l) it in (e.0, (Out j, does, e.1.0), e.1.1)

  -- an instruction after which control continues has acted, and control has come there
  abbrev Closed : Instr → (ℕ → Type 0) → Scope → Now → Type 0
  Closed i there x t = (y : Scope) × Drifts allowed x y × Acts allowed i y false (seen t) × there t.state.pc

  act_goes : (i : Instr) (there : ℕ → Type 0) → Continues i.opcode → (choices : List Choice) (n : ℕ) (s : Now) → IsDeep s
      → Has image i there s.state.pc → Returning choices n s → Reached (Closed i there (seen s)) s choices (length choices)
  act_goes i there is choices n s deep code h =
      onward (Came (seen s) (λ q. At image q i × there (q + 1))) (Closed i there (seen s)) s choices (length choices) deep
      (comes (λ q. At image q i × there (q + 1)) choices n s code deep h) acts_then
    where
      acts_then : Leads (Came (seen s) (λ q. At image q i × there (q + 1))) (Closed i there (seen s)) (length choices)
      acts_then t c d cs steps r few = stepped_acting (Closed i there (seen s)) i t cs (length cs) st (went (uniform i is.0 st.choice t.state))
        where
          st : Stepped allowed image depth (Returned m last) i t.state cs (length cs)
          st = one_step allowed image depth m last cs steps t.state i c.1.0
              (λ c2. uniform-stays (begun c2 t.state) (λ q. tried image c2 (aimed i q) (begun c2 t.state)) (uniform i is.0 c2 t.state) i.target) d r

          went : Uniform (begun st.choice t.state) (λ q. tried image st.choice (aimed i q) (begun st.choice t.state)) → Closed i there (seen s) (acted_to t st.after)
          went (inl fault) = absurd (no_fault (tried image st.choice i (begun st.choice t.state)) st.after (fault i.target) st.done)
          went (inr (inl (u, same, all))) =
              let e : st.after ≡ goto (t.state.pc + 1) u = next_state (goto (t.state.pc + 1) u) st.after (sym (all i.target) ∙ st.done) in (
                seen t,
                c.0,
                record {
                  choice = st.choice;
                  chosen = st.chosen;
                  before = t.state;
                  from_x = refl;
                  after = u;
                  to_y = sym (ap (λ (v : State). scope (v.memory.file.kept ∷ t.kept) v) e);
                  step = λ q. sym (tried_alike image no_code st.choice (aimed i q) (begun st.choice t.state) is.0) ∙ all q;
                },
                subst there (sym (ap (λ (v : State). v.pc) e)) c.1.1,
              )
          went (inr (inr (u, same, all))) = absurd (let p : t.state.pc + 2 ≡ t.state.pc + 1 = subst (GoesOn (begun st.choice t.state)) (all (t.state.pc + 2))
              (tried_goes image st.choice (aimed i (t.state.pc + 2)) (begun st.choice t.state) is) in omega (arith, p))

  act_statement_goes : (i : Instr) (next : ℕ → Type 0) (exits : ℕ → ℕ → Type 0) → Continues i.opcode → Carries (Act i) next exits
  act_statement_goes i next exits is choices n s deep code h =
      onward (Closed i next (seen s)) (Carried (Act i) next exits (seen s)) s choices (length choices) deep (act_goes i next is choices n s deep code h)
      (λ t c d cs steps r few. here (Carried (Act i) next exits (seen s)) t cs steps r (On, (c.0, c.1, c.2, refl), c.3))

  closing_goes : (a : Stmt) (i : Instr) (next : ℕ → Type 0) (exits : ℕ → ℕ → Type 0) → Continues i.opcode
      → Carries a (Has image i next) (λ j. Has image i (exits j)) → Carries (Closing a i) next exits
  closing_goes a i next exits is fa choices n s deep code h =
      onward (Carried a (Has image i next) (λ j. Has image i (exits j)) (seen s)) (Carried (Closing a i) next exits (seen s)) s choices
      (length choices) deep (fa choices n s deep code h) closes
    where
      closed : (t u : Now) (way : Way) → Does allowed a (seen s) way (seen t) → Closed i (IsThere next exits way) (seen t) u
          → Carried (Closing a i) next exits (seen s) u
      closed t u way does (y, drifts, acted, it) = (way, (seen t, y, does, drifts, acted), it)

      closes : Leads (Carried a (Has image i next) (λ j. Has image i (exits j)) (seen s)) (Carried (Closing a i) next exits (seen s)) (length choices)
      closes t (On, does, it) d cs steps r few =
          onward (Closed i next (seen t)) (Carried (Closing a i) next exits (seen s)) t cs (length cs) d (act_goes i next is cs steps t d it r)
          (λ u c d2 cs2 steps2 r2 few2. here (Carried (Closing a i) next exits (seen s)) u cs2 steps2 r2 (closed t u On does c))
      closes t (Out j, does, it) d cs steps r few =
          onward (Closed i (exits j) (seen t)) (Carried (Closing a i) next exits (seen s)) t cs (length cs) d (act_goes i (exits j) is cs steps t d it r)
          (λ u c d2 cs2 steps2 r2 few2. here (Carried (Closing a i) next exits (seen s)) u cs2 steps2 r2 (closed t u (Out j) does c))

  -- Loops

  -- the turns of a loop have been made, from its test on
  abbrev Turned : ℕ → Stmt → (ℕ → Type 0) → (ℕ → ℕ → Type 0) → Scope → Now → Type 0
  Turned k a next exits x t = (way : Way) × ((n : ℕ) × Turns allowed k (Does allowed a) n x way (seen t)) × IsThere next exits way t.state.pc

  -- the test of a loop has found its counter at 0, or above 0
  abbrev Tested : ℕ → ℕ → (ℕ → Type 0) → Scope → Now → Type 0
  Tested k head next x t = (Spent allowed k x (seen t) × next t.state.pc) ⊎ (Again allowed k x (seen t) × (t.state.pc ≡ head))

  module _ (k head test : ℕ) (a : Stmt) (next : ℕ → Type 0) (exits : ℕ → ℕ → Type 0) (at : At image test (turn k head)) (it : next (test + 1))
      (code : HasCode image a (Comes image (λ q. q ≡ test)) exits head) (fa : Carries a (Comes image (λ q. q ≡ test)) exits) where
    -- the test, and fewer choices after it
    tests : (x : Scope) (s : Now) → Drifts allowed x (seen s) → s.state.pc ≡ test → IsDeep s → (choices : List Choice) (n : ℕ) → Returning choices n s
        → (r : Reached (Tested k head next x) s choices (length choices)) × (length r.rest < length choices)
    unfolding stepped stepped_over
    tests x s drifts there deep choices n h = (
      stepped_over (Tested k head next x) (turn k head) s choices (length choices) st same
          (found (counter s.state k) refl (turn_done image st.choice k head s.state st.after st.done)),
      st.fewer,
    )
      where
        st : Stepped allowed image depth (Returned m last) (turn k head) s.state choices (length choices)
        st = one_step allowed image depth m last choices n s.state (turn k head) (subst (λ (p : ℕ). At image p (turn k head)) (sym there) at)
            (λ c. turn_stays image c k head s.state) deep h

        same : st.after.memory.file.kept ≡ s.state.memory.file.kept
        same = turn_keeps image st.choice k head s.state st.after st.done

        found : (v : ℕ) → counter s.state k ≡ v → turned k head (begun st.choice s.state) v ≡ Next st.after
            → Tested k head next x (moved s st.after same)
        found v e is = by (nat_lt 0 v) refl is
          where
            by : (b : Bool) → nat_lt 0 v ≡ b
                → cond b (Next (goto head (with_counter k (v - 1) (begun st.choice s.state)))) (Next (along (begun st.choice s.state))) ≡ Next st.after
                → Tested k head next x (moved s st.after same)
            by true above q = let eq : st.after ≡ goto head (with_counter k (v - 1) (begun st.choice s.state)) =
                next_state (goto head (with_counter k (v - 1) (begun st.choice s.state))) st.after q in
                inr (
                  (
                    seen s,
                    drifts,
                    subst (λ (w : ℕ). 0 < w) (sym e) (ltb-true 0 v above),
                    (st.choice ∷ [], (st.chosen, tt), ap (scope s.kept) eq ∙ ap (λ (w : ℕ). scope s.kept (goto head (with_counter k (w - 1) (begun st.choice s.state)))) (sym e)),
                  ),
                  ap (λ (t : State). t.pc) eq,
                )
            by false low q = let eq : st.after ≡ along (begun st.choice s.state) = next_state (along (begun st.choice s.state)) st.after q in
                inl (
                  (
                    seen s,
                    drifts,
                    (let z = ltb-false 0 v low in e ∙ omega (arith, z)),
                    drift allowed st.choice st.chosen s.kept s.state (along (begun st.choice s.state)) st.after eq refl,
                  ),
                  subst next (sym (ap (λ (t : State). t.pc) eq ∙ ap (λ (p : ℕ). p + 1) there)) it,
                )

    -- a run with at most so many choices left, at the test, makes the turns
    abbrev TurnsGo : ℕ → Type 0
    TurnsGo fuel = (choices : List Choice) → length choices ≤ fuel → (n : ℕ) (x : Scope) (s : Now) → Drifts allowed x (seen s) → s.state.pc ≡ test
        → IsDeep s → Returning choices n s → Reached (Turned k a next exits x) s choices (length choices)

    -- each iteration consumes a choice
    turns_go : (fuel : ℕ) → TurnsGo fuel
    turns_go zero choices few n x s drifts there deep h = absurd (let t = tests x s drifts there deep choices n h in let p = t.1 in omega (arith, p, few))
    turns_go (suc fuel) choices few n x s drifts there deep h =
        first (λ cs less steps y u d e f q. turns_go fuel cs less steps y u d e f q) (tests x s drifts there deep choices n h)
      where
        first : TurnsGo fuel → (r : Reached (Tested k head next x) s choices (length choices)) × (length r.rest < length choices)
            → Reached (Turned k a next exits x) s choices (length choices)
        first more (r, fewer) = weaken (Turned k a next exits x) s choices (length r.rest) (length choices) (omega (arith, fewer))
            (onward (Tested k head next x) (Turned k a next exits x) s choices (length r.rest) deep
            (record { after = r.after; rest = r.rest; steps = r.steps; goes_on = r.goes_on; stack = r.stack; few = omega arith; older = r.older; along = r.along; is = r.is }) body)
          where
            body : Leads (Tested k head next x) (Turned k a next exits x) (length r.rest)
            body t (inl (spent, on)) d cs steps q less = here (Turned k a next exits x) t cs steps q (On, (zero, inl (spent, refl)), on)
            body t (inr (again, at_head)) d cs steps q less =
                onward (Carried a (Comes image (λ p. p ≡ test)) exits (seen t)) (Turned k a next exits x) t cs (length cs) d
                (fa cs steps t d (subst (HasCode image a (Comes image (λ p. p ≡ test)) exits) (sym at_head) code) q) next_turn
              where
                next_turn : Leads (Carried a (Comes image (λ p. p ≡ test)) exits (seen t)) (Turned k a next exits x) (length cs)
                next_turn u (Out j, does, it2) d2 cs2 steps2 q2 less2 =
                    here (Turned k a next exits x) u cs2 steps2 q2 (Out j, (zero, inr (seen t, j, again, does, refl)), it2)
                next_turn u (On, does, it2) d2 cs2 steps2 q2 less2 =
                    onward (Came (seen u) (λ p. p ≡ test)) (Turned k a next exits x) u cs2 (length cs2) d2 (comes (λ p. p ≡ test) cs2 steps2 u it2 d2 q2)
                    (λ w c d3 cs3 steps3 q3 less3. onward (Turned k a next exits (seen u)) (Turned k a next exits x) w cs3 (length cs3) d3
                    (more cs3 (omega (arith, few, fewer, less, less2, less3)) steps3 (seen u) w c.0 c.1 d3 q3)
                    (λ v e d4 cs4 steps4 q4 less4. here (Turned k a next exits x) v cs4 steps4 q4
                    (e.0, (suc e.1.0, (seen t, seen u, again, does, e.1.1)), e.2)))

  test_goes : (k : ℕ) (a : Stmt) (next : ℕ → Type 0) (exits : ℕ → ℕ → Type 0) → ((test : ℕ) → Carries a (Comes image (λ q. q ≡ test)) exits)
      → (choices : List Choice) (n : ℕ) (s : Now) → IsDeep s → HasTest image k (λ after. HasCode image a after exits) next s.state.pc
      → Returning choices n s → Reached (Turned k a next exits (seen s)) s choices (length choices)
  test_goes k a next exits fa choices n s deep (head, test, to_test, code, at, it) h =
      onward (Came (seen s) (λ q. q ≡ test)) (Turned k a next exits (seen s)) s choices (length choices) deep
      (comes (λ q. q ≡ test) choices n s to_test deep h)
      (λ t c d cs steps r few. turns_go k head test a next exits at it code (fa test) (length cs) cs (omega arith) steps (seen s) t c.0 c.1 d r)

  loop_goes : (k : ℕ) (a : Stmt) (next : ℕ → Type 0) (exits : ℕ → ℕ → Type 0) → ((after : ℕ → Type 0) → Carries a after exits)
      → Carries (Loop k a) next exits
  loop_goes k a next exits fa choices n s deep code h =
      onward (Carried a tested exits (seen s)) (Carried (Loop k a) next exits (seen s)) s choices (length choices) deep (fa tested choices n s deep code h) turns
    where
      tested : ℕ → Type 0
      tested = HasTest image k (λ after. HasCode image a after exits) next

      turns : Leads (Carried a tested exits (seen s)) (Carried (Loop k a) next exits (seen s)) (length choices)
      turns t (On, does, it) d cs steps r few =
          onward (Turned k a next exits (seen t)) (Carried (Loop k a) next exits (seen s)) t cs (length cs) d
          (test_goes k a next exits (λ test. fa (Comes image (λ q. q ≡ test))) cs steps t d it r)
          (λ u c d2 cs2 steps2 r2 few2. here (Carried (Loop k a) next exits (seen s)) u cs2 steps2 r2 (c.0, inl (seen t, does, c.1), c.2))
      turns t (Out j, does, it) d cs steps r few = here (Carried (Loop k a) next exits (seen s)) t cs steps r (Out j, inr (j, does, refl), it)

  -- All statements

  all_go : (a : Stmt) → IsFormed a → (next : ℕ → Type 0) (exits : ℕ → ℕ → Type 0) → Carries a next exits
  all_go Skip formed next exits = skip_goes next exits
  all_go (Act i) formed next exits = act_statement_goes i next exits formed
  all_go (Try i l) formed next exits = try_goes i l next exits formed
  all_go (Leave l) formed next exits = leave_goes l next exits
  all_go (Then a b) formed next exits =
      then_goes a b next exits (all_go a formed.0 (HasCode image b next exits) exits) (all_go b formed.1 next exits)
  all_go (Block l a) formed next exits = block_goes l a next exits (all_go a formed next (with_label l next exits))
  all_go (Loop k a) formed next exits = loop_goes k a next exits (λ after. all_go a formed after exits)
  all_go (Count k a) formed next exits = test_goes k a next exits (λ test. all_go a formed (Comes image (λ q. q ≡ test)) exits)
  all_go (Closing a i) formed next exits =
      closing_goes a i next exits formed.1 (all_go a formed.0 (Has image i next) (λ l. Has image i (exits l)))

-- a stack has no fewer returns than itself
no_fewer : (n : ℕ) → nat_lt n n ≡ false
no_fewer n = go (nat_lt n n) refl
  where
    go : (b : Bool) → nat_lt n n ≡ b → b ≡ false
    go true e = absurd (let p = ltb-true n n e in omega (arith, p))
    go false e = refl

-- the same under any choices that are allowed
pub routines_do_under : (allowed : Choice → Type 0) (image : Parts) (body : Stmt) → IsFormed body → (choices : List Choice) (n m : ℕ)
    (s last : State) → Each allowed choices → IsRoutineCode image body s.pc → run image (length s.stack) choices n s ≡ Returned m last
    → HasDone allowed body s (kept_in image (length s.stack) choices s) last
routines_do_under allowed image body formed choices n m s last each code h = ends r.is
  where
    depth : ℕ
    depth = length s.stack

    start : Now
    start = record { state = s; kept = s.memory.file.kept ∷ []; has = contained-first s.memory.file.kept [] }

    r : Reached allowed image depth m last (Carried allowed image depth m last body (Returns image) (λ l. Nowhere) (seen start)) start choices
        (length choices)
    r = all_go allowed image depth m last body formed (Returns image) (λ l. Nowhere) choices n start (no_fewer (length s.stack)) code (each, h)

    returns : Does allowed body (seen start) On (seen r.after) → Returns image r.after.state.pc
        → HasDone allowed body s (kept_in image depth choices s) last
    returns does there = go (comes allowed image depth m last (λ q. At image q ret) r.rest r.steps r.after there
        (deeper allowed image depth m last start r.after r.stack (no_fewer (length s.stack))) r.goes_on)
      where
        go : Reached allowed image depth m last (Came allowed image depth m last (seen r.after) (λ q. At image q ret)) r.after r.rest (length r.rest)
            → HasDone allowed body s (kept_in image depth choices s) last
        go c = record {
          kept = r.after.kept;
          does = inl (seen r.after, does, (drifts, refl));
          keeps = λ kept h. on_the_way kept (r.along kept h);
        }
          where
            t : Tried allowed image depth (Returned m last) ret c.rest c.steps c.after.state
            t = one_try allowed image depth m last c.rest c.steps c.after.state ret c.is.1 c.goes_on

            deep : depth ≡ length c.after.state.stack
            deep = ap (λ (st : List Frame). length st) (sym (c.stack ∙ r.stack))

            e : scope c.after.kept last ≡ scope c.after.kept (begun t.choice c.after.state)
            e = return_done c.after.kept image depth m c.steps last t.choice t.rest c.after.state deep t.is

            same : c.after.kept ≡ r.after.kept
            same = ap (λ (x : Scope). x.kept) c.is.0.2 ∙ drifted-kept c.is.0.0 (seen r.after)

            drifts : Drifts allowed (seen r.after) (scope r.after.kept last)
            drifts = subst (λ (ks : List Kept). Drifts allowed (seen r.after) (scope ks last)) same
                (both allowed (seen r.after) (seen c.after) (scope c.after.kept last) c.is.0 (t.choice ∷ [], (t.chosen, tt), e))

            at_end : (kept : Kept)
                → (c.after.state.memory.file.kept ≡ kept)
                ⊎ Contains (kept_by image depth t.rest (tried image t.choice ret (begun t.choice c.after.state))) kept
                → Contains c.after.kept kept
            at_end kept (inl is) = subst (Contains c.after.kept) is c.after.has
            at_end kept (inr h) = subst (Contains c.after.kept)
                (return_keeps image depth m c.steps last t.choice t.rest c.after.state deep t.is kept h) c.after.has

            to_return : (kept : Kept) → Contains c.after.kept kept ⊎ Contains (kept_in image depth c.rest c.after.state) kept
                → Contains r.after.kept kept
            to_return kept (inl h) = subst (λ (ks : List Kept). Contains ks kept) same h
            to_return kept (inr h) = subst (λ (ks : List Kept). Contains ks kept) same (at_end kept
                (contained-cases c.after.state.memory.file.kept
                (kept_by image depth t.rest (tried image t.choice ret (begun t.choice c.after.state))) kept
                (subst (λ (ks : List Kept). Contains ks kept) t.keeps h)))

            on_the_way : (kept : Kept) → Contains r.after.kept kept ⊎ Contains (kept_in image depth r.rest r.after.state) kept
                → Contains r.after.kept kept
            on_the_way kept (inl h) = h
            on_the_way kept (inr h) = to_return kept (c.along kept h)

    ends : Carried allowed image depth m last body (Returns image) (λ l. Nowhere) (seen start) r.after
        → HasDone allowed body s (kept_in image depth choices s) last
    ends (On, does, it) = returns does it
    ends (Out j, does, it) = absurd it

each-more : (P Q : Choice → Type 0) → ((c : Choice) → P c → Q c) → (cs : List Choice) → Each P cs → Each Q cs
each-more P Q more [] each = tt
each-more P Q more (c ∷ cs) each = (more c each.0, each-more P Q more cs each.1)

-- a list contains each of its elements
each-contained : (cs : List Choice) → Each (Contains cs) cs
each-contained [] = tt
each-contained (c ∷ cs) = (
  (zero, omega arith, refl),
  each-more (Contains cs) (Contains (c ∷ cs)) (λ x h. (suc h.0, (let less = h.1 in omega (arith, less)), h.2)) cs (each-contained cs),
)

pub routines_do : RoutinesDoWhatIsWritten
routines_do image body formed choices n m s last = routines_do_under (Contains choices) image body formed choices n m s last (each-contained choices)
