-- The current directory is legal, and lists what the table has.
use Rattle.std.proofs.Common.{◌≡◌, ◌≢◌, ◌∙◌, ℕ, zero, suc, ◌+◌, ◌%◌, ◌≤◌, ◌<◌, Bool, true, false, not, ◌&&◌, ◌||◌, List, ◌++◌, length, map, Option, Some, None, refl, sym, ap, subst, arith, inl, inr}
use Rattle.std.specs.Prelude.{IsSomeAnd, option_map, unwrap_or}
use Rattle.std.specs.List.{find, flat_map, list_any, range_with_len}
use Rattle.std.proofs.Math.Dec.{eqb, leb, ltb}
use Rattle.std.proofs.lemmas.Bool.{cases_eq, cases_lt, eq-eqb, le-leb, lt-ltb, ne_eqb}
use Rattle.std.proofs.lemmas.List.{get_or_past}
use Rattle.geos_calls.specs.Handles.{at_handle}
use Rattle.geos_terms.specs.Heap.{IsBlockSize, is_block_size}
use Rattle.block_handles.specs.Names.{IsHandle}
use Rattle.block_handles.specs.Store.{Block, Store, block_at, bytes_in, IsBlock}
use Rattle.vm_file.specs.Device.{Medium}
use Rattle.vm_file.specs.declared.directory.Entry.{Entry}
use Rattle.vm_file.specs.Contents as file
use Rattle.vm_file.specs.Committing.{block_from}
use Rattle.vm_file.specs.Directories.{are_entries, has_block, has_group, is_directory, is_entry}
use Rattle.vm_file.specs.State.{HasBlock, bytes_of_block}
use Rattle.vm_file.proofs.DirectoryLaws.{bytes_found, legal_to}
use Rattle.geos_terms.proofs.HeapTests.{and-true}
use Rattle.vm_blocks.specs.declared.entries.Held.{Held}
use Rattle.vm_blocks.specs.View.{VmState, held_at, vm_slot}
use Rattle.vm_blocks.specs.Tied.{IsTied, TiedAt}
use Rattle.vm_blocks.specs.Listed.{resident_of, len_now, entries_in, entries_of, entries_to, directory_of, as_held, cleaned, held_in}
use Rattle.vm_blocks.proofs.Mapping.{find-any, or-true}

is-size : (n : ℕ) → IsBlockSize n → is_block_size n ≡ true
is-size n s = and-true (leb 64 n && leb n 65520) (eqb (n % 16) 0) (and-true (leb 64 n) (leb n 65520) (le-leb 64 n s.0) (le-leb n 65520 s.1))
    (eq-eqb (n % 16) 0 s.2)

-- a number under which the table has an entry is a handle
pub some-held : (es : List (Option Held)) (h : ℕ) (P : Held → Type 0) → length es ≡ 1024 → IsSomeAnd (at_handle None es h) P → IsHandle h
some-held es zero P long some = absurd some
some-held es (suc h) P long some = elim (cases_lt h 1024) [
  | inl small ↦ (omega arith, omega (arith, small))
  | inr past ↦ absurd (subst (λ o. IsSomeAnd o P) (get_or_past es h None (omega (arith, past, long))) some)
]

module _ {D : Type 0} (v : VmState D) (s : Store) where
  found-front : (k h : ℕ) (o : Option Held) (b : Option Block) (rest : List Entry) → k ≢ h
      → find (λ e. eqb e.h h) (entries_in k o b ++ rest) ≡ find (λ e. eqb e.h h) rest
  found-front k h None b rest ne = refl
  found-front k h (Some e) b rest ne = rw (ne_eqb k h ne) refl

  found-here : (h : ℕ) (e : Held) (b : Option Block) (rest : List Entry)
      → find (λ x. eqb x.h h) (entries_in h (Some e) b ++ rest) ≡ Some (record { h = h; uid = e.uid; len = len_now e b })
  found-here h e b rest = rw (eq-eqb h h refl) refl

  -- the directory entry for an entry of the table
  abbrev entry_for : ℕ → Option Held → Option Block → Option Entry
  entry_for h None b = None
  entry_for h (Some e) b = Some (record { h = h; uid = e.uid; len = len_now e b })

  found-none : (a n h : ℕ) → h < a → find (λ x. eqb x.h h) (flat_map (entries_of v s) (range_with_len a n)) ≡ None
  found-none a zero h low = refl
  found-none a (suc n) h low = found-front a h (held_at v a) (block_at s (vm_slot a)) (flat_map (entries_of v s) (range_with_len (a + 1) n))
      (λ e. omega (arith, e, low)) ∙ found-none (a + 1) n h (omega (arith, low))

  found-at : (a n h : ℕ) (o : Option Held) → held_at v a ≡ o → a ≡ h
      → find (λ x. eqb x.h h) (entries_in a o (block_at s (vm_slot a)) ++ flat_map (entries_of v s) (range_with_len (a + 1) n)) ≡ entry_for h o
      (block_at s (vm_slot h))
  found-at a n h None is same = found-none (a + 1) n h (omega (arith, same))
  found-at a n h (Some e) is same =
      subst (λ k. find (λ x. eqb x.h k) (entries_in a (Some e) (block_at s (vm_slot a)) ++ flat_map (entries_of v s)
      (range_with_len (a + 1) n)) ≡ entry_for k (Some e) (block_at s (vm_slot k))) same
      (found-here a e (block_at s (vm_slot a)) (flat_map (entries_of v s) (range_with_len (a + 1) n)))

  found-from : (a n h : ℕ) → a ≤ h → h < a + n → find (λ x. eqb x.h h) (flat_map (entries_of v s) (range_with_len a n)) ≡ entry_for h
      (held_at v h) (block_at s (vm_slot h))
  found-from a zero h low high = absurd (omega (arith, low, high))
  found-from a (suc n) h low high = elim (cases_eq a h) [
    | inl same ↦ found-at a n h (held_at v a) refl same ∙ ap (λ k. entry_for h (held_at v k) (block_at s (vm_slot h))) same
    | inr ne ↦ found-front a h (held_at v a) (block_at s (vm_slot a)) (flat_map (entries_of v s) (range_with_len (a + 1) n)) ne
        ∙ found-from (a + 1) n h (omega (arith, low, ne)) (omega (arith, high))
  ]

  pub found : (h : ℕ) → IsHandle h → find (λ x. eqb x.h h) (entries_to v s 1024) ≡ entry_for h (held_at v h) (block_at s (vm_slot h))
  found h p = found-from 1 1024 h p.0 (omega (arith, p.1))

  pub found-some : (h : ℕ) (e : Held) → IsHandle h → held_at v h ≡ Some e
      → find (λ x. eqb x.h h) (entries_to v s 1024) ≡ Some (record { h = h; uid = e.uid; len = len_now e (block_at s (vm_slot h)) })
  found-some h e p is = found h p ∙ ap (λ o. entry_for h o (block_at s (vm_slot h))) is

  -- what the current directory lists under a handle becomes the table's entry after a commit
  pub listed-held : (h : ℕ) → IsHandle h → held_in (directory_of v s) h ≡ option_map (λ e. cleaned (len_now e (block_at s (vm_slot h))) e)
      (held_at v h)
  listed-held h p = ap (option_map as_held) (found h p) ∙ on (held_at v h) (block_at s (vm_slot h))
    where
      on : (o : Option Held) (b : Option Block) → option_map as_held (entry_for h o b) ≡ option_map (λ e. cleaned (len_now e b) e) o
      on None b = refl
      on (Some e) b = refl

  -- a block in the table is in the directory
  pub has-held : (h : ℕ) (e : Held) → IsHandle h → held_at v h ≡ Some e → HasBlock (directory_of v s) h (len_now e (block_at s (vm_slot h)))
  has-held h e p is = rw (found-some h e p is) refl

  -- the block's bytes are those in memory if it is there, otherwise the committed ones
  pub bytes-held : (kept : List file.Block) (h : ℕ) (e : Held) → IsHandle h → held_at v h ≡ Some e
      → bytes_of_block (map (block_from (resident_of s) kept) (entries_to v s 1024)) h ≡ unwrap_or (resident_of s h) (bytes_of_block kept h)
  bytes-held kept h e p is = bytes_found (resident_of s) kept (entries_to v s 1024) h
      (record { h = h; uid = e.uid; len = len_now e (block_at s (vm_slot h)) }) (found-some h e p is)

  module _ (medium : Medium D) (tied : IsTied medium v s) where
    sized : (h : ℕ) (e : Held) (b : Option Block) → block_at s (vm_slot h) ≡ b → TiedAt medium v.file h (Some e) b → IsBlockSize (len_now e b)
    sized h e None at t = t.size
    sized h e (Some b) at t = subst (λ o. IsBlockSize (length (bytes_in o))) at (tied.laid.sized (vm_slot h) (subst IsBlock (sym at) tt))

    ascend : (a n last : ℕ) → last < a → 1 ≤ a → a + n ≤ 1025 → are_entries last (flat_map (entries_of v s) (range_with_len a n)) ≡ true
    ascend a zero last low some high = refl
    ascend a (suc n) last low some high = on (held_at v a) (tied.each a (some, omega (arith, high)))
        (ascend (a + 1) n a (omega arith) (omega arith) (omega (arith, high)))
        (ascend (a + 1) n last (omega (arith, low)) (omega arith) (omega (arith, high)))
      where
        on : (o : Option Held) → TiedAt medium v.file a o (block_at s (vm_slot a))
            → are_entries a (flat_map (entries_of v s) (range_with_len (a + 1) n)) ≡ true
            → are_entries last (flat_map (entries_of v s) (range_with_len (a + 1) n)) ≡ true
            → are_entries last (entries_in a o (block_at s (vm_slot a)) ++ flat_map (entries_of v s) (range_with_len (a + 1) n)) ≡ true
        on None t behind more = more
        on (Some e) t behind more =
            and-true (is_entry last (record { h = a; uid = e.uid; len = len_now e (block_at s (vm_slot a)) }))
            (are_entries a (flat_map (entries_of v s) (range_with_len (a + 1) n)))
            (and-true (ltb last a && leb a 1024) (is_block_size (len_now e (block_at s (vm_slot a))))
            (and-true (ltb last a) (leb a 1024) (lt-ltb last a low) (le-leb a 1024 (omega (arith, high))))
            (is-size _ (sized a e (block_at s (vm_slot a)) refl t))) behind

    any-held : (p : Entry → Bool) (P : Held → Type 0) (h : ℕ) → ((e : Held) (len : ℕ) → P e → p (record { h = h; uid = e.uid; len = len }) ≡ true)
        → IsSomeAnd (held_at v h) P → list_any (λ e. eqb e.h h && p e) (entries_to v s 1024) ≡ true
    any-held p P h f some = on (held_at v h) refl some
      where
        on : (o : Option Held) → held_at v h ≡ o → IsSomeAnd o P → list_any (λ e. eqb e.h h && p e) (entries_to v s 1024) ≡ true
        on None is x = absurd x
        on (Some e) is x = find-any p (entries_to v s 1024) h (record { h = h; uid = e.uid; len = len_now e (block_at s (vm_slot h)) })
            (found-some h e (some-held v.entries h P tied.long some) is) (f e (len_now e (block_at s (vm_slot h))) x)

    or-first : (a b : Bool) → a ≡ true → (a || b) ≡ true
    or-first true b t = refl
    or-first false b t = absurd cc

    pub listed-legal : is_directory (directory_of v s) ≡ true
    listed-legal = legal_to (directory_of v s) (record {
      entries = ascend 1 1024 0 (omega arith) (omega arith) (omega arith);
      maps = (
        elim (cases_eq v.map_block 0) [
          | inl z ↦ or-first (eqb v.map_block 0) (has_block (entries_to v s 1024) v.map_block) (eq-eqb v.map_block 0 z)
          | inr some ↦ or-true (eqb v.map_block 0) (has_block (entries_to v s 1024) v.map_block)
              (any-held (λ e. not (eqb e.uid 65280)) (λ e. e.uid ≢ 65280) v.map_block (λ e len ne. ap not (ne_eqb e.uid 65280 ne))
              (tied.maps.block some))
        ],
        elim (cases_eq v.map_item.0 0) [
          | inl z ↦ or-first (eqb v.map_item.0 0) (has_group (entries_to v s 1024) v.map_item.0) (eq-eqb v.map_item.0 0 z)
          | inr some ↦ or-true (eqb v.map_item.0 0) (has_group (entries_to v s 1024) v.map_item.0)
              (any-held (λ e. eqb e.uid 65280) (λ e. e.uid ≡ 65280) v.map_item.0 (λ e len same. eq-eqb e.uid 65280 same) (tied.maps.group some))
        ],
        elim (cases_eq v.map_item.0 0) [
          | inl z ↦ or-true (not (eqb v.map_item.0 0)) (eqb v.map_item.1 0) (eq-eqb v.map_item.1 0 (tied.maps.no_item z))
          | inr some ↦ or-first (not (eqb v.map_item.0 0)) (eqb v.map_item.1 0) (ap not (ne_eqb v.map_item.0 0 some))
        ],
      );
    })
