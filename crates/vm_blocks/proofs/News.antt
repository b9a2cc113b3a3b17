-- New blocks of the file.
use Rattle.std.proofs.Common.{◌≡◌, ◌≢◌, ◌∙◌, ℕ, ◌<◌, length, replicate, Option, Some, None, refl, sym, ap, subst, arith, inl, inr}
use Rattle.std.specs.Prelude.{IsSomeAnd}
use Rattle.std.proofs.lemmas.Bool.{cases_eq}
use Rattle.std.proofs.lemmas.List.{length-replicate}
use Rattle.geos_terms.specs.Names.{vm, group_uid}
use Rattle.block_handles.specs.Change.{with_locks}
use Rattle.block_handles.specs.Layout.{IsLaidOut}
use Rattle.block_handles.specs.Names.{IsHandle}
use Rattle.block_handles.specs.Store.{Block, Store, block_at, bytes_in, IsBlock, IsThere, locks_in, locks_of, place_of, size_of}
use Rattle.block_handles.proofs.Laws.{laid-with_bytes, with_locks-same}
use Rattle.block_handles.proofs.Layouts.{there_small}
use Rattle.vm_file.specs.Device.{Medium}
use Rattle.vm_file.specs.State.{FileState}
use Rattle.vm_blocks.specs.declared.entries.Held.{Held}
use Rattle.vm_blocks.specs.View.{VmState, held_at, vm_slot, with_held}
use Rattle.vm_blocks.specs.Tied.{AreMapped, IsTied, TiedAt}
use Rattle.vm_blocks.specs.Room.{DiscardsAndMakes}
use Rattle.vm_blocks.specs.Bring.{Keeps}
use Rattle.vm_blocks.specs.Blocks.{Adds, BecomesHeap, IsNew, new_held}
use Rattle.vm_blocks.proofs.Slots.{slot-one}
use Rattle.vm_blocks.proofs.Table.{held-other, held-same, length-with}
use Rattle.vm_blocks.proofs.Brings.{filled-at, fills-others, keeps-more, kept-tied, made-block, made-keeps}
use Rattle.vm_blocks.proofs.Counts.{keeps-locked}

-- nothing is in memory under a handle that is not listed
none-in : {D : Type 0} (medium : Medium D) (f : FileState D) (h : ℕ) (o : Option Held) (b : Option Block) → o ≡ None
    → TiedAt medium f h o b → IsBlock b → ⊥
none-in medium f h None None e t there = there
none-in medium f h None (Some b) e t there = t
none-in medium f h (Some x) b e t there = absurd cc

pub none-there : {D : Type 0} (medium : Medium D) (v : VmState D) (s : Store) (h : ℕ) → IsHandle h → IsTied medium v s
    → held_at v h ≡ None → IsThere s (vm_slot h) → ⊥
none-there medium v s h q tied free = none-in medium v.file h (held_at v h) (block_at s (vm_slot h)) free (tied.each h q)

-- room was made for a block, and it is a heap
module _ {D : Type 0} (v : VmState D) (s m t : Store) (h : ℕ) (q : IsHandle h) (made : DiscardsAndMakes v s m (vm h) 64) where
  pub new-size : size_of m (vm_slot h) ≡ 64
  new-size = ap (λ o. length (bytes_in o)) (made-block v s m h 64 q made) ∙ length-replicate {A = ℕ} 64 0

  module _ (begins : BecomesHeap m t h) where
    pub begun-new : IsNew t h 0
    begun-new = record {
      block = record { locks = 0; bytes = begins.fills.bytes };
      at = filled-at m t (vm_slot h) begins.fills.bytes (record { locks = 0; bytes = replicate 64 0 })
          (made-block v s m h 64 q made) begins.fills.long begins.fills.is;
      locks = refl;
      long = begins.fills.long ∙ new-size;
      heap = begins.fills.heap;
      handle = begins.fills.handle;
      chunks = begins.chunks;
    }

    pub begun-keeps : Keeps v s t h
    begun-keeps = keeps-more v s m t h (made-keeps v s m h 64 q made)
        (fills-others m t h begins.fills)
        (λ slot ne. ap (λ u. place_of u slot) begins.fills.is)
        (subst IsLaidOut (sym begins.fills.is) (laid-with_bytes m made.makes.laid (vm_slot h) begins.fills.bytes))
        (ap (λ (u : Store). u.len) begins.fills.is)

-- what is mapped is another block than one that was not listed
maps-more : {D : Type 0} (v : VmState D) (h : ℕ) (x : Option Held) → held_at v h ≡ None → AreMapped v → AreMapped (with_held v h x)
maps-more {D} v h x free maps = record {
  block = λ some. other (λ e. e.uid ≢ group_uid) v.map_block (maps.block some);
  group = λ some. other (λ e. e.uid ≡ group_uid) v.map_item.0 (maps.group some);
  no_item = maps.no_item;
}
  where
    other : (P : Held → Type 0) (k : ℕ) → IsSomeAnd (held_at v k) P → IsSomeAnd (held_at (with_held v h x) k) P
    other P k some = elim (cases_eq k h) [
      | inl same ↦ absurd (subst (λ o. IsSomeAnd o P) free (subst (λ j. IsSomeAnd (held_at v j) P) same some))
      | inr ne ↦ subst (λ o. IsSomeAnd o P) (sym (held-other v.entries h k x ne)) some
    ]

-- a new block is listed
module _ {D : Type 0} (medium : Medium D) (v : VmState D) (s t : Store) (h uid : ℕ) (q : IsHandle h) (tied : IsTied medium v s)
    (free : held_at v h ≡ None) (keeps : Keeps v s t h) (new : IsNew t h 0) where
  abbrev w : VmState D
  w = with_held v h (Some (new_held uid))

  own-tied : TiedAt medium v.file h (Some (new_held uid)) (Some new.block)
  own-tied = record { size = (omega arith, omega arith, refl); heap = new.heap; handle = new.handle; kept = λ m. absurd cc; clean = λ m. absurd cc }

  pub added-tied : IsTied medium w t
  added-tied = record {
    laid = keeps.laid;
    long = length-with v.entries h (Some (new_held uid)) ∙ tied.long;
    maps = maps-more v h (Some (new_held uid)) free tied.maps;
    each = λ k p. elim (cases_eq k h) [
      | inl same ↦ subst (λ j. TiedAt medium v.file j (held_at w j) (block_at t (vm_slot j))) (sym same)
          (subst (TiedAt medium v.file h (held_at w h)) (sym new.at)
          (subst (λ o. TiedAt medium v.file h o (Some new.block)) (sym (held-same v.entries h (Some (new_held uid)) q tied.long)) own-tied))
      | inr other ↦ subst (λ o. TiedAt medium v.file k o (block_at t (vm_slot k))) (sym (held-other v.entries h k (Some (new_held uid)) other))
          (kept-tied medium v s t h k p tied (keeps.each (vm_slot k) (λ e. other (slot-one k h p q e))))
    ];
  }

-- a new block is there, and not locked
pub there-new : (t : Store) (h n : ℕ) → IsNew t h n → IsThere t (vm_slot h)
there-new t h n new = subst IsBlock (sym new.at) tt

pub locks-new : (t : Store) (h n : ℕ) → IsNew t h n → locks_of t (vm_slot h) ≡ n
locks-new t h n new = ap locks_in new.at ∙ new.locks

-- and is locked then
pub locked-adds : {D : Type 0} (v w : VmState D) (s t u : Store) (uid h : ℕ) → Adds v w s t uid 0 h
    → u ≡ with_locks t (vm_slot h) 1 → Adds v w s u uid 1 h
locked-adds v w s t u uid h adds is =
    let there = there-new t h 0 adds.is in
    let small : vm_slot h < length t.blocks = omega (arith, there_small t (vm_slot h) adds.keeps.laid there, adds.keeps.laid.slots) in
    record {
      lowest = adds.lowest;
      state = adds.state;
      keeps = keeps-locked v s t u h 1 adds.keeps there is;
      is = record {
        block = record { locks = 1; bytes = adds.is.block.bytes };
        at = ap (λ x. block_at x (vm_slot h)) is ∙ with_locks-same t (vm_slot h) 1 small
            ∙ ap (λ o. Some (record { locks = 1; bytes = bytes_in o })) adds.is.at;
        locks = refl;
        long = adds.is.long;
        heap = adds.is.heap;
        handle = adds.is.handle;
        chunks = adds.is.chunks;
      };
    }
