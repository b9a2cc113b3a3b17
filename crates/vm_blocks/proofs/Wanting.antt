-- Blocks are evicted only if room is lacking.
use Rattle.std.proofs.Common.{◌≡◌, ◌≢◌, ℕ, ◌≤◌, ◌<◌, Option, Some, None, true, false, sym, ap, ◌∙◌, arith, subst, inl, inr}
use Rattle.std.specs.Prelude.{◌↔◌, IfSome, Result, Err, is_some}
use Rattle.std.proofs.lemmas.Bool.{cases_lt}
use Rattle.block_handles.specs.declared.error.RoomError.{RoomError}
use Rattle.block_handles.specs.declared.error.RoomError.TheVariants.{NoRoom, TooBig}
use Rattle.block_handles.specs.Change.{with_locks}
use Rattle.block_handles.specs.Names.{IsHandle, slot_of}
use Rattle.block_handles.specs.Store.{Store, IsBlock, IsThere, block_at}
use Rattle.block_handles.specs.Stretch.{HasNoRoom}
use Rattle.block_handles.proofs.Laws.{with_locks-other}
use Rattle.geos_terms.specs.Heap.{most_block_bytes}
use Rattle.geos_terms.specs.Names.{vm}
use Rattle.geos_terms.specs.declared.name.Name.{Name}
use Rattle.vm_blocks.specs.Room.{DiscardsForRoom, DiscardsOne, DiscardsAndMakes, LacksRoom, NoneIdle, RemainOrNoRoom, Thins, own_handle}
use Rattle.vm_blocks.specs.Blocks.{AllListed, IsLowestUnlisted}
use Rattle.vm_blocks.specs.View.{VmState, held_at, vm_slot}
use Rattle.vm_blocks.proofs.Brings.{made-other}
use Rattle.vm_blocks.proofs.Slots.{slot-one}

-- a request of a legal size fails only for lack of room
pub refused-for-room : (size : ℕ) (why : RoomError) (r : Result (Unit {0}) RoomError) (P : Type 0) → r ≡ Err why
    → size ≤ most_block_bytes → (r ≡ Err NoRoom → P) → ((r ≡ Err TooBig) ↔ (most_block_bytes < size)) → P
refused-for-room size NoRoom r P is fits no_room too_big = no_room is
refused-for-room size TooBig r P is fits no_room too_big = absurd (omega (arith, fits, too_big.0 is))

-- one more was discarded where there was no room
pub discards-more : {D : Type 0} (v : VmState D) (a b c : Store) (but slot size : ℕ) → Thins v a b but
    → DiscardsForRoom v a b but slot size → HasNoRoom b slot size → DiscardsOne v b c but → DiscardsForRoom v a c but slot size
discards-more {D} v a b c but slot size thins before no_room one =
    inr (record { first = first before; last = b; before = thins; wanted = no_room; one = one })
  where
    first : DiscardsForRoom v a b but slot size → HasNoRoom a slot size
    first (inl same) = subst (λ s. HasNoRoom s slot size) same no_room
    first (inr went) = went.first

-- none is left that may be discarded, and there is no room
pub lacks-room : {D : Type 0} (v : VmState D) (old now last new : Store) (name : Name) (size but : ℕ) → but ≡ own_handle name
    → last ≡ now → Thins v old now (own_handle name) → HasNoRoom now (slot_of name) size
    → (new ≡ last) × NoneIdle v last but → LacksRoom v old new name size
lacks-room v old now last new name size but own same thins no_room none =
    let is : new ≡ now = none.0 ∙ same in
    record {
      thins = subst (λ s. Thins v old s (own_handle name)) (sym is) thins;
      none = subst (λ s. NoneIdle v s (own_handle name)) (sym none.0) (subst (NoneIdle v last) own none.1);
      no_room = subst (λ s. HasNoRoom s (slot_of name) size) (sym is) no_room;
    }

module _ (s t : Store) (h size : ℕ) where
  pub same-remain : t ≡ s → RemainOrNoRoom s t h size
  same-remain same = inl (λ k p ne there. subst (λ u. IsThere u (vm_slot k)) (sym same) there)

  -- the same if only this block changed afterwards
  pub remain-more : (u : Store) → IsHandle h → ((slot : ℕ) → slot ≢ vm_slot h → block_at u slot ≡ block_at t slot)
      → RemainOrNoRoom s t h size → RemainOrNoRoom s u h size
  remain-more u q others (inl there) = inl (λ k p ne was. subst IsBlock (sym (others (vm_slot k) (λ e. ne (slot-one k h p q e)))) (there k p ne was))
  remain-more u q others (inr no_room) = inr no_room

  pub discards-remain : {D : Type 0} (v : VmState D) → DiscardsForRoom v s t h (vm_slot h) size → RemainOrNoRoom s t h size
  discards-remain v (inl same) = same-remain same
  discards-remain v (inr went) = inr went.first

-- another count of locks of the one
pub locked-remain : (s t u : Store) (h size n : ℕ) → IsHandle h → u ≡ with_locks t (vm_slot h) n → RemainOrNoRoom s t h size
    → RemainOrNoRoom s u h size
locked-remain s t u h size n q is = remain-more s t h size u q (λ slot ne. ap (λ x. block_at x slot) is ∙ with_locks-other t (vm_slot h) n slot ne)

-- what holds of whatever is listed
pub always-listed : {E : Type 0} (P : E → Type 0) (o : Option E) → ((e : E) → P e) → IfSome o P
always-listed P None each = tt
always-listed P (Some e) each = each e

pub listed-more : {E : Type 0} (P Q : E → Type 0) (o : Option E) → ((e : E) → P e → Q e) → IfSome o P → IfSome o Q
listed-more P Q None step h = tt
listed-more P Q (Some e) step h = step e h

-- room was made for a block
pub made-remain : {D : Type 0} (v : VmState D) (s t : Store) (h size : ℕ) → IsHandle h → DiscardsAndMakes v s t (vm h) size
    → RemainOrNoRoom s t h size
made-remain v s t h size q made = remain-more s made.mid h size t q (made-other v s t h size q made) (discards-remain s made.mid h size v made.wanted)

-- where a handle is not listed, not all are
pub not-all : {D : Type 0} (v : VmState D) (h : ℕ) → IsLowestUnlisted v h → AllListed v → ⊥
not-all v h low all = (let some = all h low.handle in let none : is_some (held_at v h) ≡ false = ap is_some low.free in absurd cc)

-- there is only one handle for a new block
pub lowest-one : {D : Type 0} (v : VmState D) (h k : ℕ) → IsLowestUnlisted v h → IsLowestUnlisted v k → h ≡ k
lowest-one v h k one other = elim (cases_lt h k) as (λ _. h ≡ k) [
  | inl less ↦ absurd (listed h one (other.lower h one.handle less))
  | inr least ↦ elim (cases_lt k h) as (λ _. h ≡ k) [
    | inl less ↦ absurd (listed k other (one.lower k other.handle less))
    | inr most ↦ omega (arith, least, most)
  ]
]
  where
    listed : (j : ℕ) → IsLowestUnlisted v j → is_some (held_at v j) ≡ true → ⊥
    listed j low some = (let none : is_some (held_at v j) ≡ false = ap is_some low.free in absurd cc)
