-- Comparisons, and the instructions that test words.
use Rattle.std.proofs.Common.{◌≡◌, ℕ, suc, Bool, true, false, Some, Option, List, refl, sym, ap, ◌∙◌, subst, arith, inl, inr}
use Rattle.std.specs.Prelude.{◌==◌, not, nat_lt, slice_index}
use Rattle.std.proofs.lemmas.Bool.{ltb-true, ltb-false, eqb-true, eqb-false}
use Rattle.geos_image.specs.declared.instr.Instr.{Instr}
use Rattle.geos_opcodes.specs.declared.opcode.Opcode.{Opcode}
use Rattle.geos_opcodes.specs.declared.opcode.Opcode.TheVariants as op
use Rattle.tkv_names.specs.declared.seen.Known.TheVariants as known
use Rattle.tkv_names.specs.declared.seen.Seen.{Seen}
use Rattle.tkv_names.specs.Named.{holds}
use Rattle.tkv_names.specs.Seen.{Decides, Compares, Limits, IsBranch, leaves_if, agreed}
use Rattle.tkv_names.proofs.Leads.{constant_is, register_is}

twice : (b : Bool) → b ≡ not (not b)
twice true = refl
twice false = refl

-- Two words

equal_words : (instr : Instr) (words : List ℕ) (a b : ℕ) → instr.a ≡ a → instr.b ≡ b
    → leaves_if op.Beq instr words ≡ (slice_index words a == slice_index words b)
equal_words instr words a b e f = ap (λ (q : ℕ). slice_index words q == slice_index words instr.b) e
    ∙ ap (λ (q : ℕ). slice_index words a == slice_index words q) f

less_words : (instr : Instr) (words : List ℕ) (a b : ℕ) → instr.a ≡ a → instr.b ≡ b
    → leaves_if op.Blt instr words ≡ nat_lt (slice_index words a) (slice_index words b)
less_words instr words a b e f = ap (λ (q : ℕ). nat_lt (slice_index words q) (slice_index words instr.b)) e
    ∙ ap (λ (q : ℕ). nat_lt (slice_index words a) (slice_index words q)) f

module _ (test left right : ℕ) where
  pub equal : test ≡ 0 → Compares test left right op.Beq left right true
  equal e = subst (λ (t : ℕ). Compares t left right op.Beq left right true) (sym e) (inr (inl refl), λ i ws p q. equal_words i ws left right p q)

  pub unequal : test ≡ 1 → Compares test left right op.Beq left right false
  unequal e = subst (λ (t : ℕ). Compares t left right op.Beq left right false) (sym e)
      (inr (inl refl), λ i ws p q. equal_words i ws left right p q ∙ twice (slice_index ws left == slice_index ws right))

  pub less : test ≡ 2 → Compares test left right op.Blt left right true
  less e = subst (λ (t : ℕ). Compares t left right op.Blt left right true) (sym e) (inr (inr refl), λ i ws p q. less_words i ws left right p q)

  pub not_less : test ≡ 3 → Compares test left right op.Blt left right false
  not_less e = subst (λ (t : ℕ). Compares t left right op.Blt left right false) (sym e)
      (inr (inr refl), λ i ws p q. less_words i ws left right p q ∙ twice (nat_lt (slice_index ws left) (slice_index ws right)))

  pub more : test ≡ 4 → Compares test left right op.Blt right left true
  more e = subst (λ (t : ℕ). Compares t left right op.Blt right left true) (sym e) (inr (inr refl), λ i ws p q. less_words i ws right left p q)

  pub not_more : test ≡ 5 → Compares test left right op.Blt right left false
  not_more e = subst (λ (t : ℕ). Compares t left right op.Blt right left false) (sym e)
      (inr (inr refl), λ i ws p q. less_words i ws right left p q ∙ twice (nat_lt (slice_index ws right) (slice_index ws left)))

-- A word and a number

opposite : (m w : ℕ) → nat_lt m w ≡ not (nat_lt w (suc m))
opposite m w = by (nat_lt m w) (nat_lt w (suc m)) refl refl
  where
    by : (b c : Bool) → nat_lt m w ≡ b → nat_lt w (suc m) ≡ c → b ≡ not c
    by true true e f = absurd (let p = ltb-true m w e in let q = ltb-true w (suc m) f in omega (arith, p, q))
    by true false e f = refl
    by false true e f = refl
    by false false e f = absurd (let p = ltb-false m w e in let q = ltb-false w (suc m) f in omega (arith, p, q))

above_nil : (w : ℕ) → nat_lt 0 w ≡ not (w == 0)
above_nil w = by (nat_lt 0 w) (w == 0) refl refl
  where
    by : (b c : Bool) → nat_lt 0 w ≡ b → (w == 0) ≡ c → b ≡ not c
    by true true e f = absurd (let p = ltb-true 0 w e in let q = eqb-true w 0 f in omega (arith, p, q))
    by true false e f = refl
    by false true e f = refl
    by false false e f = absurd (eqb-false w 0 f (let p = ltb-false 0 w e in omega (arith, p)))

module _ (test number : ℕ) where
  pub limit_more : test ≡ 4 → Limits test number number true
  limit_more e = subst (λ (t : ℕ). Limits t number number true) (sym e) (λ w. refl)

  pub limit_not_more : test ≡ 5 → Limits test number number false
  limit_not_more e = subst (λ (t : ℕ). Limits t number number false) (sym e) (λ w. twice (nat_lt number w))

  pub limit_less : (most : ℕ) → test ≡ 2 → number ≡ suc most → Limits test number most false
  limit_less most e f = subst (λ (t : ℕ). Limits t number most false) (sym e)
      (subst (λ (n : ℕ). Limits 2 n most false) (sym f) (λ w. opposite most w))

  pub limit_not_less : (most : ℕ) → test ≡ 3 → number ≡ suc most → Limits test number most true
  limit_not_less most e f = subst (λ (t : ℕ). Limits t number most true) (sym e)
      (subst (λ (n : ℕ). Limits 3 n most true) (sym f) (λ w. opposite most w))

pub limit_nil : (test : ℕ) → test ≡ 0 → Limits test 0 0 false
limit_nil test e = subst (λ (t : ℕ). Limits t 0 0 false) (sym e) above_nil

pub limit_not_nil : (test : ℕ) → test ≡ 1 → Limits test 0 0 true
limit_not_nil test e = subst (λ (t : ℕ). Limits t 0 0 true) (sym e) above_nil

-- Sides turned round

turn_equal : (x y : ℕ) → (x == y) ≡ (y == x)
turn_equal x y = by (x == y) (y == x) refl refl
  where
    by : (b c : Bool) → (x == y) ≡ b → (y == x) ≡ c → b ≡ c
    by true true e f = refl
    by true false e f = absurd (eqb-false y x f (sym (eqb-true x y e)))
    by false true e f = absurd (eqb-false x y e (sym (eqb-true y x f)))
    by false false e f = refl

-- the comparisons are the same, with the sides turned round
abbrev pub Turned : ℕ → ℕ → Type 0
Turned one other = (x y : ℕ) → holds one x y ≡ holds other y x

pub turned_as : (k other test : ℕ) → Turned k other → test ≡ k → Turned test other
turned_as k other test turned e = subst (λ (t : ℕ). Turned t other) (sym e) turned

pub turned_0 : Turned 0 0
turned_0 x y = turn_equal x y

pub turned_1 : Turned 1 1
turned_1 x y = ap not (turn_equal x y)

pub turned_2 : Turned 2 4
turned_2 x y = refl

pub turned_3 : Turned 3 5
turned_3 x y = refl

pub turned_4 : Turned 4 2
turned_4 x y = refl

pub turned_5 : Turned 5 3
turned_5 x y = refl

-- What a test decides

module _ (test : ℕ) (seen : Seen) (instr : Instr) (same : Bool) where
  pub on_registers : (l r : ℕ) → seen.second ≡ known.Register l → seen.first ≡ known.Register r
      → IsBranch instr.opcode × ((ws : List ℕ) → leaves_if instr.opcode instr ws ≡ agreed same (holds test (slice_index ws l) (slice_index ws r)))
      → Decides test seen instr same
  on_registers l r second first (branch, decides) = record {
    left = λ ws. slice_index ws l;
    right = λ ws. slice_index ws r;
    is_left = register_is seen.second l second;
    is_right = register_is seen.first r first;
    branch = branch;
    decides = decides;
  }

  bounded : (r most : ℕ) → instr.opcode ≡ op.Chk → instr.a ≡ r → instr.imm ≡ most → (ws : List ℕ)
      → leaves_if instr.opcode instr ws ≡ nat_lt most (slice_index ws r)
  bounded r most is e f ws = ap (λ (o : Opcode). leaves_if o instr ws) is
      ∙ (ap (λ (q : ℕ). nat_lt instr.imm (slice_index ws q)) e ∙ ap (λ (q : ℕ). nat_lt q (slice_index ws r)) f)

  pub on_left : (r n most : ℕ) (b : Bool) → seen.second ≡ known.Register r → seen.first ≡ known.Constant n → Limits test n most b
      → (instr.opcode ≡ op.Chk) × (instr.a ≡ r) × (instr.imm ≡ most) × (same ≡ b) → Decides test seen instr same
  on_left r n most b second first limits (is, e, f, g) = record {
    left = λ ws. slice_index ws r;
    right = λ ws. n;
    is_left = register_is seen.second r second;
    is_right = constant_is seen.first n first;
    branch = inl is;
    decides = λ ws. bounded r most is e f ws ∙ (limits (slice_index ws r) ∙ ap (λ (c : Bool). agreed c (holds test (slice_index ws r) n)) (sym g));
  }

  pub on_right : (r n most other : ℕ) (b : Bool) → seen.second ≡ known.Constant n → seen.first ≡ known.Register r → Turned test other
      → Limits other n most b → (instr.opcode ≡ op.Chk) × (instr.a ≡ r) × (instr.imm ≡ most) × (same ≡ b) → Decides test seen instr same
  on_right r n most other b second first turned limits (is, e, f, g) = record {
    left = λ ws. n;
    right = λ ws. slice_index ws r;
    is_left = constant_is seen.second n second;
    is_right = register_is seen.first r first;
    branch = inl is;
    decides = λ ws. bounded r most is e f ws ∙ (limits (slice_index ws r)
        ∙ (ap (λ (c : Bool). agreed c (holds other (slice_index ws r) n)) (sym g)
        ∙ ap (agreed same) (sym (turned n (slice_index ws r)))));
  }
