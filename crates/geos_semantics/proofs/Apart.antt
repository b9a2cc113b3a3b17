-- Slots that are known to hold different blocks.
use Rattle.std.proofs.Common.{◌≡◌, ◌≢◌, ℕ, zero, suc, Bool, true, false, Option, Some, None, List, [], ◌∷◌, get_or, set, refl, sym, ap, ap₂, ◌∙◌, subst, arith, inl, inr, ◌⊎◌}
use Rattle.std.specs.Prelude.{◌==◌, ◌&&◌, ◌||◌, not, option_map}
use Rattle.std.proofs.lemmas.Bool.{and_parts, or_parts, eqb-true, eqb-false, not-true, not-false}
use Rattle.std.proofs.lemmas.List.{get_or-set_other}
use Rattle.geos_terms.specs.declared.name.Name.{Name}
use Rattle.geos_terms.specs.declared.name.Owner.TheVariants.{Mem, Vm}
use Rattle.geos_terms.specs.Names.{named}
use Rattle.geos_calls.specs.Memory.{Memory, is_group}
use Rattle.geos_image.specs.declared.row.Row.{Row}
use Rattle.geos_opcodes.specs.declared.uses.Kind.{Kind}
use Rattle.geos_opcodes.specs.declared.uses.Kind.TheVariants.{MemBlock, VmBlock, DbGroup}
use Rattle.geos_verify.specs.Pairs.{slot_pairs, is_pair, has_slot, each_pair, without_slot, with_pair, with_pairs, has_pair, are_apart}
use Rattle.geos_verify.specs.Rows.{slot_state, alike, are_alike, may_be_same}
use Rattle.geos_verify.specs.Uses.{same_kind}
use Rattle.geos_semantics.specs.Lists.{Each, Each2}
use Rattle.geos_semantics.specs.State.{Held, owner_of, name_of, State, slot, same_name}
use Rattle.geos_semantics.specs.Meets.{Base, Meets, Sound, name_held, Differ, PairMeets, SlotIsSound, IsOfKind}
use Rattle.geos_semantics.proofs.Memories.{same_name-true}
use Rattle.geos_semantics.proofs.NoFaults.{kind-known, slot-sound}

-- the first of two that fails, or both hold
or-cases : (a b : Bool) → (a || b) ≡ true → (a ≡ true) ⊎ (b ≡ true)
or-cases true b h = inl refl
or-cases false b h = inr h

and-cases : (a b : Bool) → (a && b) ≡ false → (a ≡ false) ⊎ (b ≡ false)
and-cases true b h = inr h
and-cases false b h = inl refl

-- what is known of pairs, as it is changed
each-pair : (slots new : List (Option Held)) (change : Bool → ℕ × ℕ → Bool)
    → ((known : Bool) (pair : ℕ × ℕ) → pair.0 ≢ pair.1 → PairMeets slots known pair → PairMeets new (change known pair) pair)
    → (flags : List Bool) (pairs : List (ℕ × ℕ)) → Each (λ (pair : ℕ × ℕ). pair.0 ≢ pair.1) pairs
    → Each2 (PairMeets slots) flags pairs → Each2 (PairMeets new) (each_pair change flags pairs) pairs
each-pair slots new change k [] [] d h = tt
each-pair slots new change k [] (p ∷ pairs) d h = absurd h
each-pair slots new change k (f ∷ flags) [] d h = absurd h
each-pair slots new change k (f ∷ flags) (p ∷ pairs) d h = (k f p d.0 h.0, each-pair slots new change k flags pairs d.1 h.1)

distinct : Each (λ (pair : ℕ × ℕ). pair.0 ≢ pair.1) slot_pairs
distinct = (
  (λ e. absurd (omega (arith, e))),
  (
    (λ e. absurd (omega (arith, e))),
    (
      (λ e. absurd (omega (arith, e))),
      ((λ e. absurd (omega (arith, e))), ((λ e. absurd (omega (arith, e))), ((λ e. absurd (omega (arith, e))), tt))),
    ),
  ),
)

-- another slot is as it was
other-slot : (slots : List (Option Held)) (a k : ℕ) (x : Option Held) → (k == a) ≡ false
    → name_held (get_or (set slots a x) k None) ≡ name_held (get_or slots k None)
other-slot slots a k x ne = ap name_held (get_or-set_other slots a k x None (eqb-false k a ne))

-- whatever a slot holds now, pairs without it are as they were
pub pairs-without : (slots : List (Option Held)) (a : ℕ) (x : Option Held) (flags : List Bool)
    → Each2 (PairMeets slots) flags slot_pairs → Each2 (PairMeets (set slots a x)) (without_slot a flags) slot_pairs
pairs-without slots a x flags h = each-pair slots (set slots a x) (λ known pair. known && not (has_slot a pair)) one flags slot_pairs distinct h
  where
    one : (known : Bool) (pair : ℕ × ℕ) → pair.0 ≢ pair.1 → PairMeets slots known pair
        → PairMeets (set slots a x) (known && not (has_slot a pair)) pair
    one known pair ne m is name e f =
        let p = and_parts known (not (has_slot a pair)) is in
        let apart = or_parts (pair.0 == a) (pair.1 == a) (not-true (has_slot a pair) p.1) in
        m p.0 name (sym (other-slot slots a pair.0 x apart.0) ∙ e) (sym (other-slot slots a pair.1 x apart.1) ∙ f)

-- a slot that was empty gets a block that no slot had, so it differs from each other slot
pub pairs-new : (slots : List (Option Held)) (a : ℕ) (new : Held) (test : ℕ → Bool) (flags : List Bool)
    → get_or slots a None ≡ None → ((k : ℕ) → name_held (get_or slots k None) ≡ Some (name_of new) → ⊥)
    → Each2 (PairMeets slots) flags slot_pairs → Each2 (PairMeets (set slots a (Some new))) (with_pairs a test flags) slot_pairs
pairs-new slots a new test flags empty fresh h =
    each-pair slots (set slots a (Some new)) (λ known pair. known || (pair.0 == a && test pair.1) || (pair.1 == a && test pair.0))
    one flags slot_pairs distinct h
  where
    -- the new block is in the slot, and in no other
    by_slot : (k : ℕ) (name : Name) → name_held (get_or (set slots a (Some new)) k None) ≡ Some name → (b : Bool)
        → (k == a) ≡ b → (k ≡ a) ⊎ (name_held (get_or slots k None) ≡ Some name)
    by_slot k name e true is = inl (eqb-true k a is)
    by_slot k name e false is = inr (sym (other-slot slots a k (Some new) is) ∙ e)

    is_new : (name : Name) → name_held (get_or (set slots a (Some new)) a None) ≡ Some name → (j : ℕ)
        → name_held (get_or slots j None) ≡ Some name → ⊥
    is_new name e j f = go (get_or (set slots a (Some new)) a None) (set-get slots a (Some new)) e
      where
        set-get : (xs : List (Option Held)) (i : ℕ) (x : Option Held) → (get_or (set xs i x) i None ≡ x) ⊎ (get_or (set xs i x) i None ≡ None)
        set-get [] i x = inr refl
        set-get (y ∷ ys) zero x = inl refl
        set-get (y ∷ ys) (suc i) x = set-get ys i x

        go : (o : Option Held) → (o ≡ Some new) ⊎ (o ≡ None) → name_held o ≡ Some name → ⊥
        go o (inl is) e = (let same : name_of new ≡ name = (let s = sym (ap name_held is) ∙ e in cc) in fresh j (f ∙ ap Some (sym same)))
        go o (inr none) e = (let s : None ≡ Some name = sym (ap name_held none) ∙ e in absurd cc)

    differ : (pair : ℕ × ℕ) → pair.0 ≢ pair.1 → Differ slots pair.0 pair.1 → Differ (set slots a (Some new)) pair.0 pair.1
    differ pair ne d name e f = elim (by_slot pair.0 name e (pair.0 == a) refl) [
      | inl first ↦ elim (by_slot pair.1 name f (pair.1 == a) refl) [
        | inl second ↦ ne (first ∙ sym second)
        | inr old ↦ is_new name (subst (λ k. name_held (get_or (set slots a (Some new)) k None) ≡ Some name) first e) pair.1 old
      ]
      | inr old ↦ elim (by_slot pair.1 name f (pair.1 == a) refl) [
        | inl second ↦ is_new name (subst (λ k. name_held (get_or (set slots a (Some new)) k None) ≡ Some name) second f) pair.0 old
        | inr other ↦ d name old other
      ]
    ]

    -- a pair with the slot differed before, since the slot was empty
    with_empty : (pair : ℕ × ℕ) → (pair.0 ≡ a) ⊎ (pair.1 ≡ a) → Differ slots pair.0 pair.1
    with_empty pair (inl first) name e f = (let none : name_held (get_or slots pair.0 None) ≡ None = rw first (ap name_held empty) in
        let s : None ≡ Some name = sym none ∙ e in absurd cc)
    with_empty pair (inr second) name e f = (let none : name_held (get_or slots pair.1 None) ≡ None = rw second (ap name_held empty) in
        let s : None ≡ Some name = sym none ∙ f in absurd cc)

    one : (known : Bool) (pair : ℕ × ℕ) → pair.0 ≢ pair.1 → PairMeets slots known pair
        → PairMeets (set slots a (Some new)) (known || (pair.0 == a && test pair.1) || (pair.1 == a && test pair.0)) pair
    one known pair ne m is =
        differ pair ne (elim (or-cases (known || (pair.0 == a && test pair.1)) (pair.1 == a && test pair.0) is) [
          | inl some ↦ elim (or-cases known (pair.0 == a && test pair.1) some) [
            | inl old ↦ m old
            | inr first ↦ with_empty pair (inl (eqb-true pair.0 a ((and_parts (pair.0 == a) (test pair.1) first).0)))
          ]
          | inr second ↦ with_empty pair (inr (eqb-true pair.1 a ((and_parts (pair.1 == a) (test pair.0) second).0)))
        ])

-- of a pair that is of two slots, what is known of them in either order
of-pair : (slots : List (Option Held)) (a b : ℕ) (pair : ℕ × ℕ) → is_pair a b pair ≡ true → Differ slots pair.0 pair.1 → Differ slots a b
of-pair slots a b pair is d = elim (or-cases (pair.0 == a && pair.1 == b) (pair.0 == b && pair.1 == a) is) [
  | inl same ↦ (
      let p = and_parts (pair.0 == a) (pair.1 == b) same in
      let first = eqb-true pair.0 a p.0 in
      let second = eqb-true pair.1 b p.1 in
      λ name e f. d name (rw first e) (rw second f)
      )
  | inr turned ↦ (
      let p = and_parts (pair.0 == b) (pair.1 == a) turned in
      let first = eqb-true pair.0 b p.0 in
      let second = eqb-true pair.1 a p.1 in
      λ name e f. d name (rw first f) (rw second e)
      )
]

to-pair : (slots : List (Option Held)) (a b : ℕ) (pair : ℕ × ℕ) → is_pair a b pair ≡ true → Differ slots a b → Differ slots pair.0 pair.1
to-pair slots a b pair is d = elim (or-cases (pair.0 == a && pair.1 == b) (pair.0 == b && pair.1 == a) is) [
  | inl same ↦ (
      let p = and_parts (pair.0 == a) (pair.1 == b) same in
      let first = eqb-true pair.0 a p.0 in
      let second = eqb-true pair.1 b p.1 in
      λ name e f. d name (rw (← first) e) (rw (← second) f)
      )
  | inr turned ↦ (
      let p = and_parts (pair.0 == b) (pair.1 == a) turned in
      let first = eqb-true pair.0 b p.0 in
      let second = eqb-true pair.1 a p.1 in
      λ name e f. d name (rw (← second) f) (rw (← first) e)
      )
]

-- two slots were found to differ
pub pairs-found : (slots : List (Option Held)) (a b : ℕ) (flags : List Bool) → Differ slots a b
    → Each2 (PairMeets slots) flags slot_pairs → Each2 (PairMeets slots) (with_pair a b flags) slot_pairs
pairs-found slots a b flags d h = each-pair slots slots (λ known pair. known || is_pair a b pair) one flags slot_pairs distinct h
  where
    one : (known : Bool) (pair : ℕ × ℕ) → pair.0 ≢ pair.1 → PairMeets slots known pair → PairMeets slots (known || is_pair a b pair) pair
    one known pair ne m is = elim (or-cases known (is_pair a b pair) is) [
      | inl old ↦ m old
      | inr new ↦ to-pair slots a b pair new d
    ]

-- slots that are known to differ do
pub apart-differ : (slots : List (Option Held)) (a b : ℕ) (flags : List Bool) → Each2 (PairMeets slots) flags slot_pairs
    → are_apart a b flags ≡ true → Differ slots a b
apart-differ slots a b flags h is = go flags slot_pairs h is
  where
    go : (flags : List Bool) (pairs : List (ℕ × ℕ)) → Each2 (PairMeets slots) flags pairs → has_pair a b flags pairs ≡ true → Differ slots a b
    go [] pairs h is = absurd cc
    go (f ∷ flags) [] h is = absurd h
    go (f ∷ flags) (p ∷ pairs) h is = elim (or-cases (f && is_pair a b p) (has_pair a b flags pairs) is) [
      | inl here ↦ (let q = and_parts f (is_pair a b p) here in of-pair slots a b p q.1 (h.0 q.0))
      | inr later ↦ go flags pairs h.1 later
    ]

-- A slot that may not hold the block of another one does not

-- blocks of two kinds have two names
kinds-apart : (m : Memory) (kind other : Kind) (h k : ℕ) → IsOfKind m kind (named (owner_of kind) h)
    → IsOfKind m other (named (owner_of other) k) → named (owner_of other) k ≡ named (owner_of kind) h → same_kind other kind ≡ false → ⊥
kinds-apart m MemBlock MemBlock h k is also same unlike = absurd cc
kinds-apart m VmBlock VmBlock h k is also same unlike = absurd cc
kinds-apart m DbGroup DbGroup h k is also same unlike = absurd cc
kinds-apart m MemBlock VmBlock h k is also same unlike = (let o : Vm ≡ Mem = ap (λ (n : Name). n.owner) same in absurd cc)
kinds-apart m MemBlock DbGroup h k is also same unlike = (let o : Vm ≡ Mem = ap (λ (n : Name). n.owner) same in absurd cc)
kinds-apart m VmBlock MemBlock h k is also same unlike = (let o : Mem ≡ Vm = ap (λ (n : Name). n.owner) same in absurd cc)
kinds-apart m DbGroup MemBlock h k is also same unlike = (let o : Mem ≡ Vm = ap (λ (n : Name). n.owner) same in absurd cc)
kinds-apart m VmBlock DbGroup h k is also same unlike = (let both : false ≡ true = sym is.1
    ∙ ap (is_group m) (ap (λ (n : Name). n.h) (sym same)) ∙ also.1 in absurd cc)
kinds-apart m DbGroup VmBlock h k is also same unlike = (let both : true ≡ false = sym is.1
    ∙ ap (is_group m) (ap (λ (n : Name). n.h) (sym same)) ∙ also.1 in absurd cc)

pub held-apart : (m : Memory) (o q : Option Held) (name other : Name) → SlotIsSound m o → SlotIsSound m q
    → name_held o ≡ Some name → name_held q ≡ Some other → other ≡ name
    → alike (option_map (λ (held : Held). held.kind) q) (option_map (λ (held : Held). held.kind) o) ≡ false → ⊥
held-apart m None q name other is also held_o held_q same unlike = absurd cc
held-apart m (Some x) None name other is also held_o held_q same unlike = absurd cc
held-apart m (Some x) (Some y) name other is also held_o held_q same unlike =
    let first : name_of x ≡ name = cc in
    let second : name_of y ≡ other = cc in
    kinds-apart m x.kind y.kind x.handle y.handle is also (second ∙ same ∙ sym first) unlike

pub not-same : (base : Base) (s : State) (row : Row) (a b : ℕ) (name other : Name) → Sound base s → Meets s row
    → name_held (slot s a) ≡ Some name → name_held (slot s b) ≡ Some other
    → may_be_same row a b ≡ false → same_name other name ≡ false
not-same base s row a b name other S M held_a held_b may = go (same_name other name) refl
  where
    differ : other ≡ name → ⊥
    differ same = elim (and-cases (are_alike (slot_state row b) (slot_state row a)) (not (are_apart a b row.pairs)) may) [
      | inl unlike ↦ held-apart s.memory (slot s a) (slot s b) name other (slot-sound base s a S) (slot-sound base s b S)
          held_a held_b same (ap₂ alike (kind-known s row b M) (kind-known s row a M) ∙ unlike)
      | inr known ↦ apart-differ s.slots a b row.pairs M.pairs (not-false (are_apart a b row.pairs) known) name held_a (held_b ∙ ap Some same)
    ]

    go : (c : Bool) → same_name other name ≡ c → c ≡ false
    go false e = refl
    go true e = absurd (differ (same_name-true other name e))
