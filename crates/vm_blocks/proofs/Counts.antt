-- Locks and marks.
use Rattle.std.proofs.Common.{◌≡◌, ◌≢◌, ℕ, ◌+◌, ◌<◌, length, Option, Some, None, refl, sym, ap, ◌∙◌, arith, subst, inl, inr}
use Rattle.std.specs.Prelude.{◌↔◌, Result, Ok, Err, OnOk, option_map}
use Rattle.block_handles.specs.declared.error.HandleError.{HandleError}
use Rattle.block_handles.specs.declared.error.HandleError.TheVariants.{BadHandle, Locked}
use Rattle.std.proofs.lemmas.Bool.{cases_eq}
use Rattle.block_handles.specs.Change.{with_locks, with_lock_more}
use Rattle.block_handles.specs.Layout.{IsLaidOut}
use Rattle.block_handles.specs.Names.{IsHandle}
use Rattle.block_handles.specs.Store.{Block, Store, block_at, bytes_in, bytes_of, IsBlock, IsThere, locks_in, locks_of, place_of}
use Rattle.block_handles.proofs.Laws.{laid-with_locks, with_locks-same, with_locks-other}
use Rattle.block_handles.proofs.Layouts.{there_small}
use Rattle.vm_file.specs.Device.{Medium}
use Rattle.vm_blocks.specs.declared.entries.Held.{Held}
use Rattle.vm_blocks.specs.View.{VmState, held_at, vm_slot, with_held}
use Rattle.vm_blocks.specs.Tied.{IsTied, IsResident, TiedAt}
use Rattle.vm_blocks.specs.Blocks.{marked}
use Rattle.vm_blocks.specs.Bring.{Keeps, LockedMore, Brought}
use Rattle.vm_blocks.proofs.Slots.{slot-one, some-block}
use Rattle.vm_blocks.proofs.Table.{maps-alike, length-with, held-other, held-same}
use Rattle.vm_blocks.proofs.Brings.{keeps-more}

-- another count of locks of a block that is there
module _ {D : Type 0} (medium : Medium D) (v : VmState D) (s t : Store) (h n : ℕ) (q : IsHandle h) (tied : IsTied medium v s)
    (there : IsThere s (vm_slot h)) (is : t ≡ with_locks s (vm_slot h) n) where
  small : vm_slot h < length s.blocks
  small = omega (arith, there_small s (vm_slot h) tied.laid there, tied.laid.slots)

  own-is : (b : Block) → block_at s (vm_slot h) ≡ Some b → block_at t (vm_slot h) ≡ Some (record { locks = n; bytes = b.bytes })
  own-is b e = ap (λ u. block_at u (vm_slot h)) is ∙ with_locks-same s (vm_slot h) n small
      ∙ ap (λ o. Some (record { locks = n; bytes = bytes_in o })) e

  other-is : (k : ℕ) → IsHandle k → k ≢ h → block_at t (vm_slot k) ≡ block_at s (vm_slot k)
  other-is k p ne = ap (λ u. block_at u (vm_slot k)) is ∙ with_locks-other s (vm_slot h) n (vm_slot k) (λ e. ne (slot-one k h p q e))

  one-tied : (e : Option Held) (b c : Block) → c.bytes ≡ b.bytes → TiedAt medium v.file h e (Some b) → TiedAt medium v.file h e (Some c)
  one-tied None b c x u = u
  one-tied (Some e) b c x u = subst (IsResident medium v.file h e) (sym x) u

  pub locked-tied : IsTied medium v t
  locked-tied = record {
    laid = subst IsLaidOut (sym is) (laid-with_locks s tied.laid (vm_slot h) there n);
    long = tied.long;
    maps = tied.maps;
    each = λ k p. elim (cases_eq k h) [
      | inl same ↦ subst (λ j. TiedAt medium v.file j (held_at v j) (block_at t (vm_slot j))) (sym same) here
      | inr other ↦ subst (TiedAt medium v.file k (held_at v k)) (sym (other-is k p other)) (tied.each k p)
    ];
  }
    where
      here : TiedAt medium v.file h (held_at v h) (block_at t (vm_slot h))
      here =
          let b = some-block (block_at s (vm_slot h)) there in
          let c : Block = record { locks = n; bytes = b.0.bytes } in
          subst (TiedAt medium v.file h (held_at v h)) (sym (own-is b.0 b.1))
          (one-tied (held_at v h) b.0 c refl (subst (TiedAt medium v.file h (held_at v h)) b.1 (tied.each h q)))

-- a mark on a block that is there
module _ {D : Type 0} (medium : Medium D) (v : VmState D) (s : Store) (h : ℕ) (e : Held) (q : IsHandle h)
    (tied : IsTied medium v s) (there : IsThere s (vm_slot h)) (listed : held_at v h ≡ Some e) where
  abbrev w : VmState D
  w = with_held v h (Some (marked e))

  with-mark : (k : ℕ) (b : Option Block) → IsBlock b → TiedAt medium v.file k (Some e) b → TiedAt medium v.file k (Some (marked e)) b
  with-mark k None x t = absurd x
  with-mark k (Some b) x t = record { size = t.size; heap = t.heap; handle = t.handle; kept = λ m. absurd cc; clean = λ m. absurd cc }

  own : held_at w h ≡ Some (marked e)
  own = held-same v.entries h (Some (marked e)) q tied.long

  uids : (k : ℕ) → option_map (λ (x : Held). x.uid) (held_at w k) ≡ option_map (λ (x : Held). x.uid) (held_at v k)
  uids k = elim (cases_eq k h) [
    | inl same ↦ subst (λ j. option_map (λ (x : Held). x.uid) (held_at w j) ≡ option_map (λ (x : Held). x.uid) (held_at v j)) (sym same)
        (ap (option_map (λ (x : Held). x.uid)) own ∙ sym (ap (option_map (λ (x : Held). x.uid)) listed))
    | inr other ↦ ap (option_map (λ (x : Held). x.uid)) (held-other v.entries h k (Some (marked e)) other)
  ]

  pub marked-tied : IsTied medium w s
  marked-tied = record {
    laid = tied.laid;
    long = length-with v.entries h (Some (marked e)) ∙ tied.long;
    maps = maps-alike v w uids refl refl tied.maps;
    each = λ k p. elim (cases_eq k h) [
      | inl same ↦ subst (λ j. TiedAt medium v.file j (held_at w j) (block_at s (vm_slot j))) (sym same)
          (subst (λ o. TiedAt medium v.file h o (block_at s (vm_slot h))) (sym own)
          (with-mark h (block_at s (vm_slot h)) there (subst (λ o. TiedAt medium v.file h o (block_at s (vm_slot h))) listed (tied.each h q))))
      | inr other ↦ subst (λ o. TiedAt medium v.file k o (block_at s (vm_slot k))) (sym (held-other v.entries h k (Some (marked e)) other))
          (tied.each k p)
    ];
  }

-- a block that was brought and is locked then is locked once more
pub locks-more : (old mid new : Store) (h : ℕ) → IsLaidOut mid → Brought old mid h
    → new ≡ with_locks mid (vm_slot h) (locks_of mid (vm_slot h) + 1) → LockedMore old new h
locks-more old mid new h laid brought is =
    let small : vm_slot h < length mid.blocks = omega (arith, there_small mid (vm_slot h) laid brought.there, laid.slots) in
    let b = some-block (block_at mid (vm_slot h)) brought.there in
    let n : ℕ = locks_of mid (vm_slot h) + 1 in
    let at_h : block_at new (vm_slot h) ≡ Some (record { locks = n; bytes = bytes_of mid (vm_slot h) }) = ap (λ u. block_at u (vm_slot h)) is
    ∙ with_locks-same mid (vm_slot h) n small in
    record {
      there = subst IsBlock (sym at_h) tt;
      locks = ap locks_in at_h ∙ ap (λ k. k + 1) brought.locks;
      bytes = λ was. ap bytes_in at_h ∙ ap (λ u. bytes_of u (vm_slot h)) (brought.stays was);
      place = λ was. ap (λ u. place_of u (vm_slot h)) is ∙ ap (λ u. place_of u (vm_slot h)) (brought.stays was);
    }

-- a block whose count is not full is locked once more
pub locked-more : (old new : Store) (slot : ℕ) (r : Result (Unit {0}) HandleError) → OnOk r (new ≡ with_lock_more old slot)
    → ((r ≡ Err BadHandle) ↔ (IsThere old slot → ⊥)) → ((r ≡ Err Locked) ↔ (locks_of old slot ≡ 65535))
    → IsThere old slot → locks_of old slot ≢ 65535 → new ≡ with_locks old slot (locks_of old slot + 1)
locked-more old new slot (Ok done) ok bad full there some = ok
locked-more old new slot (Err BadHandle) ok bad full there some = absurd (bad.0 refl there)
locked-more old new slot (Err Locked) ok bad full there some = absurd (some (full.0 refl))

-- another count keeps the others
pub keeps-locked : {D : Type 0} (v : VmState D) (a b c : Store) (h n : ℕ) → Keeps v a b h → IsThere b (vm_slot h)
    → c ≡ with_locks b (vm_slot h) n → Keeps v a c h
keeps-locked {D} v a b c h n keeps there is =
    keeps-more v a b c h keeps (λ slot ne. ap (λ u. block_at u slot) is ∙ with_locks-other b (vm_slot h) n slot ne)
    (λ slot ne. ap (λ u. place_of u slot) is) (subst IsLaidOut (sym is) (laid-with_locks b keeps.laid (vm_slot h) there n))
    (ap (λ (u : Store). u.len) is)
