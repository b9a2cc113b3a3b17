-- Soundness over locks, unlocks, new blocks and freed ones.
use Rattle.std.proofs.Common.{◌≡◌, ℕ, zero, suc, ◌+◌, ◌-◌, ◌%◌, ◌≤◌, ◌<◌, ◌≢◌, Bool, true, false, Option, Some, None, List, [], ◌∷◌, length, get_or, set, refl, sym, ap, ◌∙◌, subst, arith, inl, inr}
use Rattle.std.specs.Prelude.{◌==◌, ◌&&◌, nat_le, cond, IsSome, is_none}
use Rattle.std.proofs.lemmas.Bool.{eqb-false}
use Rattle.std.proofs.lemmas.List.{get_or-set_other, length-set}
use Rattle.std.proofs.lemmas.List.Sums.{sum_by-set, sum_by-cons}
use Rattle.geos_terms.specs.declared.name.Name.{Name}
use Rattle.geos_terms.specs.Chunks.{chunk_of}
use Rattle.geos_calls.specs.Memory.{Block, Memory, block_of, locks_in, chunks_in, locks_of}
use Rattle.geos_calls.specs.Legal.{IsMemory}
use Rattle.geos_calls.specs.Effects.{Reference, Nothing, OfLock}
use Rattle.geos_calls.specs.Leaving.{OneBlock, LeavesOthers}
use Rattle.geos_semantics.specs.Lists.{Each}
use Rattle.geos_semantics.specs.State.{is_borrowed, Held, name_of, SlotReference, State, slot, same_name, kept_pointer, kept_pointers}
use Rattle.geos_semantics.specs.Meets.{lent_in, lent, Base, name_held, IsOfKind, SlotIsSound, IsInChunk, PointerIsSound, holds_once, holds, Sound}
use Rattle.geos_semantics.proofs.Memories.{same_name-true, same_name-is, names}
use Rattle.geos_semantics.proofs.Stays.{Stays, HeldStay, block_of-beside, stays-beside, slots-sound}
use Rattle.geos_semantics.proofs.Kept.{each-map}

pub each-set : {X : Type 0} (P : X → Type 0) (xs : List X) (k : ℕ) (x : X) → Each P xs → P x → Each P (set xs k x)
each-set P [] k x h new = tt
each-set P (y ∷ ys) zero x h new = (new, h.1)
each-set P (y ∷ ys) (suc k) x h new = (h.0, each-set P ys k x h.1 new)

-- what is borrowed, once a slot has another content of which the same is borrowed
pub lent-set : (slots : List (Option Held)) (a : ℕ) (new : Option Held) → lent_in new ≡ lent_in (get_or slots a None)
    → lent (set slots a new) ≡ lent slots
lent-set [] a new e = refl
lent-set (x ∷ xs) zero new e = ap (λ (o : Option Name). o ∷ lent xs) e
lent-set (x ∷ xs) (suc a) new e = ap (λ (os : List (Option Name)). lent_in x ∷ os) (lent-set xs a new e)

-- nothing is borrowed in a slot that is not
pub lent-none : (held : Option Held) → is_borrowed held ≡ false → lent_in held ≡ None
lent-none None e = refl
lent-none (Some held) e = ap (λ b. cond b (Some (name_of held)) None) e

-- how many slots hold a block, once a slot has another content
pub holds-set : (slots : List (Option Held)) (a : ℕ) (new : Option Held) (name : Name) → a < length slots
    → holds (set slots a new) name + holds_once name (get_or slots a None) ≡ holds slots name + holds_once name new
holds-set slots a new name lt = sum_by-set (holds_once name) slots a new None lt

-- a slot that holds a block counts
pub held-counts : (slots : List (Option Held)) (a : ℕ) (name : Name) → holds_once name (get_or slots a None) ≤ holds slots name
held-counts [] a name = omega arith
held-counts (x ∷ xs) zero name = omega (arith, sum_by-cons (holds_once name) x xs)
held-counts (x ∷ xs) (suc a) name = omega (arith, sum_by-cons (holds_once name) x xs, held-counts xs a name)

pub holds-once-is : (name : Name) (held : Option Held) → name_held held ≡ Some name → holds_once name held ≡ 1
holds-once-is name None e = absurd cc
holds-once-is name (Some held) e = (let same : name_of held ≡ name = cc in ap (λ b. cond b 1 0) (same_name-is (name_of held) name same))

neither : (b : Bool) (bytes : List ℕ) → cond b None None ≡ Some bytes → ⊥
neither true bytes e = absurd cc
neither false bytes e = absurd cc

no-chunk : (c : ℕ) (bytes : List ℕ) → chunk_of [] c ≡ Some bytes → ⊥
no-chunk c bytes e = neither (nat_le 16 c && (c % 2 == 0)) bytes e

-- what a sound pointer leads into is a block that is there
pub leads-there : (m : Memory) (ref : Reference) → IsInChunk m ref → is_none (block_of m ref.name) ≡ false
leads-there m ref h = go (block_of m ref.name) refl
  where
    go : (o : Option Block) → block_of m ref.name ≡ o → is_none o ≡ false
    go None e = absurd (let none : chunk_of (chunks_in None) ref.chunk ≡ Some h.bytes =
        subst (λ b. chunk_of (chunks_in b) ref.chunk ≡ Some h.bytes) e h.there in no-chunk ref.chunk h.bytes none)
    go (Some b) e = refl

-- A block that is locked once more into an empty slot, or made and locked

pub record LocksInto (base : Base) (s : State) (locked : Held) (new : Memory) : Type 0 where
  pub own : locked.borrowed ≡ false
  pub legal : IsMemory new
  pub is : IsOfKind new locked.kind (name_of locked)
  pub once : locks_of new (name_of locked) ≡ locks_of s.memory (name_of locked) + 1
  pub locks : (other : Name) → same_name (name_of locked) other ≡ false → locks_of new other ≡ locks_of s.memory other
  pub held : (held : Held) → Stays s.memory new held
  pub chunks : (ref : Reference) → IsInChunk s.memory ref → IsInChunk new ref

pub there-some : {X : Type 0} (o : Option X) → is_none o ≡ false → IsSome o
there-some None h = absurd cc
there-some (Some x) h = refl

module _ (base : Base) (s : State) (a : ℕ) (locked : Held) (new : Memory) (S : Sound base s) (within : a < 4)
    (empty : slot s a ≡ None) (L : LocksInto base s locked new) where
  pointer-locked : (p : Option SlotReference) → PointerIsSound s.memory s.slots p
      → PointerIsSound new (set s.slots a (Some locked)) (kept_pointer a Nothing p)
  pointer-locked None k = tt
  pointer-locked (Some target) k = (
    ap name_held (get_or-set_other s.slots a target.slot (Some locked) None apart)
        ∙ k.0,
    L.chunks target.reference k.1,
  )
    where
      apart : target.slot ≢ a
      apart e = (let none : name_held (get_or s.slots target.slot None) ≡ None = rw e (ap name_held empty) in
          let both : None ≡ Some target.reference.name = sym none ∙ k.0 in absurd cc)

  locks-locked : (name : Name) → locks_of new name ≡ base.locks name + holds (set s.slots a (Some locked)) name
  locks-locked name =
      let more = holds-set s.slots a (Some locked) name (omega (arith, S.four, within)) in
      let none : holds_once name (get_or s.slots a None) ≡ 0 = ap (holds_once name) empty in
      elim (names (name_of locked) name) [
        | inl is ↦ (
            let same = same_name-true (name_of locked) name is in
            let one : holds_once name (Some locked) ≡ 1 = ap (λ b. cond b 1 0) is in
            let lock = subst (λ n. locks_of new n ≡ locks_of s.memory n + 1) same L.once in
            omega (arith, more, none, one, lock, S.locks name)
            )
        | inr ne ↦ (
            let zero_more : holds_once name (Some locked) ≡ 0 = ap (λ b. cond b 1 0) ne in
            let lock = L.locks name ne in
            omega (arith, more, none, zero_more, lock, S.locks name)
            )
      ]

  pub sound-locked : Sound base (record s { memory = new; slots = set s.slots a (Some locked); pointers = kept_pointers a Nothing s.pointers })
  sound-locked = record {
    memory = L.legal;
    none = S.none;
    words = S.words;
    four = length-set s.slots a (Some locked) ∙ S.four;
    lends = lent-set s.slots a (Some locked) (lent-none (Some locked) L.own ∙ sym (ap lent_in empty)) ∙ S.lends;
    slots = each-set (SlotIsSound new) s.slots a (Some locked) (slots-sound s.memory new s.slots (λ k held e. L.held held) S.slots) L.is;
    locks = locks-locked;
    pointers = each-map (PointerIsSound s.memory s.slots) (PointerIsSound new (set s.slots a (Some locked)))
        (kept_pointer a Nothing) pointer-locked s.pointers S.pointers;
  }

-- An unlock: the slot becomes empty, and the pointers through it become stale

pub record GivesBack (s : State) (name : Name) (new : Memory) : Type 0 where
  pub legal : IsMemory new
  pub once : locks_of new name ≡ locks_of s.memory name - 1
  pub locks : (other : Name) → same_name name other ≡ false → locks_of new other ≡ locks_of s.memory other
  pub held : (held : Held) → Stays s.memory new held
  pub chunks : (ref : Reference) → IsInChunk s.memory ref → IsInChunk new ref

module _ (base : Base) (s : State) (a : ℕ) (name : Name) (new : Memory) (S : Sound base s) (within : a < 4)
    (full : name_held (slot s a) ≡ Some name) (own : is_borrowed (slot s a) ≡ false) (U : GivesBack s name new) where
  -- the block is locked, by this slot at least
  pub is-locked : 1 ≤ locks_of s.memory name
  is-locked = omega (arith, S.locks name, held-counts s.slots a name, holds-once-is name (get_or s.slots a None) full)

  pointer-unlocked : (p : Option SlotReference) → PointerIsSound s.memory s.slots p
      → PointerIsSound new (set s.slots a None) (kept_pointer a (OfLock name) p)
  pointer-unlocked None k = tt
  pointer-unlocked (Some target) k = go (target.slot == a) refl
    where
      go : (b : Bool) → (target.slot == a) ≡ b → PointerIsSound new (set s.slots a None) (cond b None (Some target))
      go true e = tt
      go false e = (ap name_held (get_or-set_other s.slots a target.slot None None (eqb-false target.slot a e)) ∙ k.0, U.chunks target.reference k.1)

  locks-unlocked : (other : Name) → locks_of new other ≡ base.locks other + holds (set s.slots a None) other
  locks-unlocked other =
      let less = holds-set s.slots a None other (omega (arith, S.four, within)) in
      elim (names name other) [
        | inl is ↦ (
            let same = same_name-true name other is in
            let one : holds_once other (get_or s.slots a None) ≡ 1 = subst (λ n. holds_once n (get_or s.slots a None) ≡ 1) same
            (holds-once-is name (get_or s.slots a None) full) in
            let lock = subst (λ n. locks_of new n ≡ locks_of s.memory n - 1) same U.once in
            omega (arith, less, one, lock, S.locks other)
            )
        | inr ne ↦ (
            let zero_less : holds_once other (get_or s.slots a None) ≡ 0 = not-held (get_or s.slots a None) full ne in
            let lock = U.locks other ne in
            omega (arith, less, zero_less, lock, S.locks other)
            )
      ]
    where
      not-held : (held : Option Held) → name_held held ≡ Some name → same_name name other ≡ false → holds_once other held ≡ 0
      not-held None e ne = refl
      not-held (Some held) e ne = (let same : name_of held ≡ name = cc in ap (λ b. cond b 1 0) (subst (λ n. same_name n other ≡ false) (sym same) ne))

  pub sound-unlocked : Sound base (record s { memory = new; slots = set s.slots a None; pointers = kept_pointers a (OfLock name) s.pointers })
  sound-unlocked = record {
    memory = U.legal;
    none = S.none;
    words = S.words;
    four = length-set s.slots a None ∙ S.four;
    lends = lent-set s.slots a None (sym (lent-none (slot s a) own)) ∙ S.lends;
    slots = each-set (SlotIsSound new) s.slots a None (slots-sound s.memory new s.slots (λ k held e. U.held held) S.slots) tt;
    locks = locks-unlocked;
    pointers = each-map (PointerIsSound s.memory s.slots) (PointerIsSound new (set s.slots a None))
        (kept_pointer a (OfLock name)) pointer-unlocked s.pointers S.pointers;
  }

-- No slot has a block that is freed

module _ (base : Base) (s : State) (a : ℕ) (name : Name) (new : Memory) (S : Sound base s) (free : locks_of s.memory name ≡ 0)
    (legal : IsMemory new) (L : LeavesOthers (OneBlock name) s.memory new) (gone : locks_of new name ≡ 0) where
  -- no slot holds it
  none-holds : (k : ℕ) → name_held (get_or s.slots k None) ≡ Some name → ⊥
  none-holds k e = (let one = holds-once-is name (get_or s.slots k None) e in let most = held-counts s.slots k name in
      absurd (omega (arith, one, most, S.locks name, free)))

  -- so what slots hold stays what it was
  pub held-stay : HeldStay s.memory new s.slots
  held-stay k held e = stays-beside name s.memory new L held (λ same. none-holds k (ap name_held e ∙ ap Some (sym same)))

  pointer-freed : (p : Option SlotReference) → PointerIsSound s.memory s.slots p → PointerIsSound new s.slots (kept_pointer a Nothing p)
  pointer-freed None k = tt
  pointer-freed (Some target) k =
      let same = block_of-beside name s.memory new L target.reference.name (λ e. none-holds target.slot (k.0 ∙ ap Some (sym e))) in
      (k.0, record { bytes = k.1.bytes; there = rw (ap chunks_in same) k.1.there; fits = k.1.fits })

  locks-freed : (other : Name) → locks_of new other ≡ base.locks other + holds s.slots other
  locks-freed other = elim (names name other) [
    | inl is ↦ (
        let same = same_name-true name other is in
        let now : locks_of new other ≡ 0 = subst (λ n. locks_of new n ≡ 0) same gone in
        let was = subst (λ n. locks_of s.memory n ≡ 0) same free in
        omega (arith, now, was, S.locks other)
        )
    | inr ne ↦ ap locks_in (block_of-beside name s.memory new L other (λ e. let both : false ≡ true = sym ne
        ∙ same_name-is name other e in absurd cc)) ∙ S.locks other
  ]

  pub sound-freed : Sound base (record s { memory = new; pointers = kept_pointers a Nothing s.pointers })
  sound-freed = record {
    memory = legal;
    none = S.none;
    words = S.words;
    four = S.four;
    lends = S.lends;
    slots = slots-sound s.memory new s.slots held-stay S.slots;
    locks = locks-freed;
    pointers = each-map (PointerIsSound s.memory s.slots) (PointerIsSound new s.slots) (kept_pointer a Nothing) pointer-freed s.pointers S.pointers;
  }
