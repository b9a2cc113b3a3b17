-- If all idle blocks were evicted, and no stretch of the region has room, the model says that room may be lacking.
use Rattle.std.proofs.Common.{◌≡◌, ◌≢◌, ℕ, zero, suc, ◌+◌, ◌-◌, ◌*◌, ◌<◌, ◌≤◌, List, [], ◌∷◌, ◌++◌, length, length-take, length-append, map, take, get_or, Option, Some, None, Bool, true, false, refl, sym, ap, ◌∙◌, arith, inl, inr}
use Rattle.std.specs.Prelude.{◌||◌, ◌&&◌, ◌==◌, not, sum_by, count_by, nat_lt, nat_eq, cond, if◌then◌else◌}
use Rattle.std.proofs.lemmas.Bool.{cases_eq, cases_lt}
use Rattle.std.proofs.lemmas.Bool.Decides.{nat_tests}
use Rattle.std.proofs.lemmas.List.{length-map, take_more, take_all, get_or-map, get_or-take, get_or_append_left, get_or-append-add}
use Rattle.std.proofs.lemmas.List.Sums.{sum_by_push}
use Rattle.geos_terms.specs.Names.{mem, vm}
use Rattle.geos_calls.specs.Blocks as model
use Rattle.geos_calls.specs.Directories.{VmBlock, is_held}
use Rattle.geos_calls.specs.Handles.{at_handle, with_entry_at}
use Rattle.geos_calls.specs.Memory.{Memory}
use Rattle.geos_calls.specs.Tight.{is_locked, is_tight, others, staying}
use Rattle.geos_calls.proofs.HandleLists.{length-with_entry_at}
use Rattle.geos_calls.proofs.Laws.{entry-other}
use Rattle.block_handles.specs.Names.{IsHandle}
use Rattle.block_handles.specs.Store.{Block, Store, block_at, bytes_in, locks_in, slot_count}
use Rattle.block_handles.specs.Stretch.{total, other_size, locked_one, other_locked, other_sizes, IsCrowded}
use Rattle.vm_file.specs.Device.{Medium}
use Rattle.vm_file.specs.State.{FileState}
use Rattle.vm_blocks.specs.declared.entries.Held.{Held}
use Rattle.vm_blocks.specs.View.{VmState, bytes_read, held_at, vm_slot}
use Rattle.vm_blocks.specs.Tied.{IsTied, TiedAt}
use Rattle.vm_blocks.specs.Room.{NoneIdle, is_idle_in}
use Rattle.vm_blocks.specs.Spelled.{block_in, spelled}
use Rattle.vm_blocks.specs.Matches.{IsListedAs}
use Rattle.vm_blocks.specs.FileOf.{IsMemoryOf}
use Rattle.vm_blocks.proofs.Slots.{slot-is}
use Rattle.vm_blocks.proofs.Tables.{table-own}

-- Sums

-- a sum over numbers that stands for one over a list
pub total_sum : {A : Type 0} (g : A → ℕ) (xs : List A) (d : A) (f : ℕ → ℕ) (n : ℕ) → n ≤ length xs
    → ((i : ℕ) → i < n → f i ≡ g (get_or xs i d)) → total n f ≡ sum_by g (take n xs)
total_sum g xs d f zero le same = refl
total_sum g xs d f (suc n) le same =
    let next : suc n ≡ n + 1 = omega arith in
    let more : take (suc n) xs ≡ take n xs ++ get_or xs n d ∷ [] = ap (λ k. take k xs) next ∙ take_more xs n d (omega arith) in
    let rest = total_sum g xs d f n (omega arith) (λ i lt. same i (omega arith)) in
    let here = same n (omega arith) in
    let pushed = sum_by_push g (take n xs) (get_or xs n d) in
    let sum : f n + total n f ≡ sum_by g (take n xs ++ get_or xs n d ∷ []) = omega (arith, rest, here, pushed) in
    sum ∙ sym (ap (sum_by g) more)

less-test : (a b : ℕ) → a < b → nat_lt a b ≡ true
less-test a b l = grind (arith, l)

-- A value of a block, and the value of the model's block

module _ (f : Option Block → ℕ) (g : Option model.Block → ℕ) (same : (o : Option Block) → f o ≡ g (block_in o)) where
  -- a block of the file that may not be discarded stays in memory
  staying-told : (good : Type 0) (read : List ℕ) (e : Option Held) (b : Option Block) (listed : Option VmBlock) → is_idle_in e b ≡ false
      → (e ≡ None → b ≡ None) → IsListedAs good read e b listed → f b ≡ g (staying listed)
  staying-told good read None b listed i t is = ap f (t refl) ∙ same None ∙ sym (ap (λ o. g (staying o)) is)
  staying-told good read (Some e) None None i t is = absurd is
  staying-told good read (Some e) None (Some l) i t is =
      let away : is_held l ≡ false = rw (is.marked, is.locks) refl in same None ∙ sym (ap (λ h. g (if h then Some l.block else None)) away)
  staying-told good read (Some e) (Some b) listed i t is =
      let own : VmBlock = record { uid = e.uid; marked = e.marked; block = spelled b.locks b.bytes } in
      let stays : is_held own ≡ true = held e.marked b.locks i in
      same (Some b) ∙ sym (ap (λ h. g (if h then Some own.block else None)) stays) ∙ sym (ap (λ o. g (staying o)) is)
    where
      held : (m : Bool) (n : ℕ) → (not m && (n == 0)) ≡ false → (m || nat_lt 0 n) ≡ true
      held true n x = refl
      held false zero x = absurd cc
      held false (suc n) x = grind (arith, nat_tests)

  -- of each block but that in a slot
  abbrev other_told : Store → ℕ → ℕ → ℕ
  other_told s but slot = if nat_eq slot but then 0 else f (block_at s slot)

  -- the sum of the values of slots is the sum of the values of two tables
  pub crowd : (s : Store) (but : ℕ) (xs : List (Option model.Block)) (ys : List (Option VmBlock)) → length xs ≡ 1024 → length ys ≡ 1024
      → ((k : ℕ) → IsHandle k → other_told s but (k - 1) ≡ g (at_handle None xs k))
      → ((k : ℕ) → IsHandle k → other_told s but (1023 + k) ≡ g (staying (at_handle None ys k)))
      → total 2048 (other_told s but) ≡ sum_by g (xs ++ map staying ys)
  crowd s but xs ys one two first second =
      let all = xs ++ map staying ys in
      let long : length all ≡ 2048 = omega (arith, length-append xs (map staying ys), length-map ys staying, one, two) in
      total_sum g all None (other_told s but) 2048 (omega (arith, long)) at ∙ ap (sum_by g) (take_all 2048 all (omega (arith, long)))
    where
      at : (i : ℕ) → i < 2048 → other_told s but i ≡ g (get_or (xs ++ map staying ys) i None)
      at i l = elim (cases_lt i 1024) [
        | inl low ↦ (
            let k : suc i - 1 ≡ i = omega arith in
            ap (other_told s but) (sym k) ∙ first (suc i) (omega arith, omega (arith, low))
            ∙ sym (ap g (get_or_append_left xs (map staying ys) None i (omega (arith, low, one))))
            )
        | inr high ↦ (
            let j : ℕ = i - 1024 in
            let k : 1023 + suc j ≡ i = omega (arith, high) in
            let n : length xs + j ≡ i = omega (arith, high, one) in
            ap (other_told s but) (sym k) ∙ second (suc j) (omega arith, omega (arith, l, high))
            ∙ sym (ap g (ap (λ m. get_or (xs ++ map staying ys) m None) (sym n) ∙ get_or-append-add xs (map staying ys) j None
            ∙ get_or-map staying ys j None None (omega (arith, l, high, two))))
            )
      ]

-- what is not listed is not in memory
unlisted-absent : {D : Type 0} (medium : Medium D) (x : FileState D) (h : ℕ) (e : Option Held) (b : Option Block)
    → TiedAt medium x h e b → e ≡ None → b ≡ None
unlisted-absent medium x h None None t none = refl
unlisted-absent medium x h None (Some b) t none = absurd t
unlisted-absent medium x h (Some e) b t none = absurd cc

-- One lookup more that is not that of a slot

other-not : (s : Store) (f : Option Block → ℕ) (but slot : ℕ) → slot ≢ but
    → (if nat_eq slot but then 0 else f (block_at s slot)) ≡ f (block_at s slot)
other-not s f but slot ne = let is : nat_eq slot but ≡ false = grind (arith, nat_tests, ne) in rw is refl

other-own : (s : Store) (f : Option Block → ℕ) (but slot : ℕ) → slot ≡ but → (if nat_eq slot but then 0 else f (block_at s slot)) ≡ 0
other-own s f but slot same = let is : nat_eq slot but ≡ true = grind (arith, nat_tests, same) in rw is refl

module _ {D : Type 0} (medium : Medium D) (v : VmState D) (s : Store) (m : Memory) (tied : IsTied medium v s) (is : IsMemoryOf medium v s m) where
  mem-long : length m.blocks ≡ 1024
  mem-long = ap length is.blocks ∙ omega (arith, length-map (take 1024 s.blocks) block_in, length-take 1024 s.blocks, tied.laid.slots)

  -- a slot of global memory encodes what the model has
  mem-spelled : (k : ℕ) → IsHandle k → at_handle None m.blocks k ≡ block_in (block_at s (k - 1))
  mem-spelled zero p = absurd (omega (arith, p.0))
  mem-spelled (suc k) p =
      let i : suc k - 1 ≡ k = omega arith in
      let less : k < length (take 1024 s.blocks) = omega (arith, p.1, length-take 1024 s.blocks, tied.laid.slots) in
      ap (λ bs. get_or bs k None) is.blocks ∙ get_or-map block_in (take 1024 s.blocks) k None None less
      ∙ ap block_in (get_or-take 1024 s.blocks k None (omega (arith, p.1))) ∙ sym (ap (λ j. block_in (block_at s j)) i)

  module _ (f : Option Block → ℕ) (g : Option model.Block → ℕ) (same : (o : Option Block) → f o ≡ g (block_in o)) (zero_none : g None ≡ 0) where
    mem-told : (but k : ℕ) → IsHandle k → k - 1 ≢ but → other_told f g same s but (k - 1) ≡ g (at_handle None m.blocks k)
    mem-told but k p ne = other-not s f but (k - 1) ne ∙ same (block_at s (k - 1)) ∙ sym (ap g (mem-spelled k p))

    vm-told : (but own k : ℕ) → IsHandle k → NoneIdle v s own → k ≢ own → 1023 + k ≢ but
        → other_told f g same s but (1023 + k) ≡ g (staying (at_handle None m.file.cur.blocks k))
    vm-told but own k p none other ne =
        other-not s f but (1023 + k) ne ∙ ap (λ j. f (block_at s j)) (sym (slot-is k p))
        ∙ staying-told f g same (medium.honest v.file.device) (bytes_read medium.image v.file k) (held_at v k)
        (block_at s (vm_slot k)) (at_handle None m.file.cur.blocks k) (none k p other)
        (unlisted-absent medium v.file k (held_at v k) (block_at s (vm_slot k)) (tied.each k p)) (is.file.cur.each k p)

    -- the other blocks, but one of the file
    vm-crowd : (h : ℕ) → IsHandle h → NoneIdle v s h → total 2048 (other_told f g same s (vm_slot h)) ≡ sum_by g (others m (vm h))
    vm-crowd h q none = crowd f g same s (vm_slot h) m.blocks (with_entry_at m.file.cur.blocks h None) mem-long
        (length-with_entry_at m.file.cur.blocks h None ∙ is.file.cur.handles)
        (λ k p. mem-told (vm_slot h) k p (λ e. omega (arith, e, slot-is h q, q.0, p.1)))
        (λ k p. elim (cases_eq k h) [
          | inl e ↦ (
              let here : at_handle None (with_entry_at m.file.cur.blocks h None) k ≡ None =
              ap (at_handle None (with_entry_at m.file.cur.blocks h None)) e ∙ table-own None None m.file.cur.blocks h is.file.cur.handles q in
              other-own s f (vm_slot h) (1023 + k) (omega (arith, e, slot-is h q)) ∙ sym zero_none ∙ sym (ap (λ o. g (staying o)) here)
              )
          | inr ne ↦ vm-told (vm_slot h) h k p none ne (λ e. ne (omega (arith, e, slot-is h q)))
              ∙ sym (ap (λ o. g (staying o)) (entry-other None None m.file.cur.blocks h k ne))
        ])

    -- the other blocks, but one of global memory
    mem-crowd : (h : ℕ) → IsHandle h → NoneIdle v s 0 → total 2048 (other_told f g same s (h - 1)) ≡ sum_by g (others m (mem h))
    mem-crowd h q none = crowd f g same s (h - 1) (with_entry_at m.blocks h None) m.file.cur.blocks
        (length-with_entry_at m.blocks h None ∙ mem-long) is.file.cur.handles
        (λ k p. elim (cases_eq k h) [
          | inl e ↦ (
              let here : at_handle None (with_entry_at m.blocks h None) k ≡ None = ap (at_handle None (with_entry_at m.blocks h None)) e
              ∙ table-own None None m.blocks h mem-long q in
              other-own s f (h - 1) (k - 1) (ap (λ j. j - 1) e) ∙ sym zero_none ∙ sym (ap g here)
              )
          | inr ne ↦ mem-told (h - 1) k p (λ e. ne (omega (arith, e, p.0, q.0))) ∙ sym (ap g (entry-other None None m.blocks h k ne))
        ])
        (λ k p. vm-told (h - 1) 0 k p none (λ e. omega (arith, e, p.0)) (λ e. omega (arith, e, p.0, q.1)))

  -- what is added up: sizes, and one for each block that is locked
  abbrev size : Option Block → ℕ
  size b = length (bytes_in b)

  abbrev one : Option Block → ℕ
  one b = if nat_eq (locks_in b) 0 then 0 else 1

  abbrev one_if_locked : Option model.Block → ℕ
  one_if_locked b = cond (nat_lt 0 (model.locks_in b)) 1 0

  size-same : (o : Option Block) → size o ≡ model.size_in (block_in o)
  size-same None = refl
  size-same (Some b) = refl

  flag : (n : ℕ) → cond {A = ℕ} (nat_eq n 0) 0 1 ≡ cond (nat_lt 0 n) 1 0
  flag zero = refl
  flag (suc n) = grind (arith, nat_tests)

  one-same : (o : Option Block) → one o ≡ one_if_locked (block_in o)
  one-same None = refl
  one-same (Some b) = flag b.locks

  slots-two : (f : ℕ → ℕ) → total (slot_count s) f ≡ total 2048 f
  slots-two f = ap (λ n. total n f) tied.laid.slots

  -- no room for a block of the file
  pub tight-vm : (h need : ℕ) → IsHandle h → NoneIdle v s h → IsCrowded s (vm_slot h) need → is_tight m (vm h) need ≡ true
  tight-vm h need q none crowded =
      let sizes : other_sizes s (vm_slot h) ≡ sum_by model.size_in (others m (vm h)) = slots-two (other_size s (vm_slot h))
      ∙ vm-crowd size model.size_in size-same refl h q none in
      let locked : other_locked s (vm_slot h) ≡ count_by is_locked (others m (vm h)) = slots-two (locked_one s (vm_slot h))
      ∙ vm-crowd one one_if_locked one-same refl h q none in
      let region : m.region ≡ s.len.most = is.region in
      let more : m.region < (count_by is_locked (others m (vm h)) + 1) * need + sum_by model.size_in (others m (vm h)) =
      rw (region, sym sizes, sym locked) crowded in
      less-test m.region ((count_by is_locked (others m (vm h)) + 1) * need + sum_by model.size_in (others m (vm h))) more

  -- no room for a block of global memory
  pub tight-mem : (h need : ℕ) → IsHandle h → NoneIdle v s 0 → IsCrowded s (h - 1) need → is_tight m (mem h) need ≡ true
  tight-mem h need q none crowded =
      let sizes : other_sizes s (h - 1) ≡ sum_by model.size_in (others m (mem h)) = slots-two (other_size s (h - 1))
      ∙ mem-crowd size model.size_in size-same refl h q none in
      let locked : other_locked s (h - 1) ≡ count_by is_locked (others m (mem h)) = slots-two (locked_one s (h - 1))
      ∙ mem-crowd one one_if_locked one-same refl h q none in
      let region : m.region ≡ s.len.most = is.region in
      let more : m.region < (count_by is_locked (others m (mem h)) + 1) * need + sum_by model.size_in (others m (mem h)) =
      rw (region, sym sizes, sym locked) crowded in
      less-test m.region ((count_by is_locked (others m (mem h)) + 1) * need + sum_by model.size_in (others m (mem h))) more
