-- The current directory as a commit takes it.
use Rattle.std.proofs.Common.{◌≡◌, ℕ, zero, suc, ◌+◌, ◌≤◌, ◌<◌, List, [], ◌∷◌, ◌++◌, append_assoc, append-nil, length, Option, Some, None, true, refl, sym, ap, ◌∙◌, arith, All}
use Rattle.std.proofs.lemmas.List.Elements.{All-nil, All-cons, All-append}
use Rattle.std.specs.List.{flat_map, range_with_len}
use Rattle.block_handles.specs.Store.{Block, Store, block_at}
use Rattle.vm_file.specs.Device.{Medium}
use Rattle.vm_file.specs.declared.directory.Entry.{Entry}
use Rattle.vm_file.specs.Committing.{IsThere, MayCommit}
use Rattle.vm_file.specs.Directories.{is_directory}
use Rattle.vm_blocks.specs.declared.entries.Held.{Held}
use Rattle.vm_blocks.specs.View.{VmState, held_at, vm_slot}
use Rattle.vm_blocks.specs.Tied.{IsTied, TiedAt}
use Rattle.vm_blocks.specs.Listed.{resident_of, len_now, entries_in, entries_of, entries_to, directory_of}

pub flat-more : {A : Type 0} (f : ℕ → List A) (a n : ℕ) → flat_map f (range_with_len a (suc n)) ≡ flat_map f (range_with_len a n) ++ f (a + n)
flat-more f a zero = let e : a ≡ a + 0 = omega arith in append-nil (f a) ∙ ap f e
flat-more f a (suc n) = let e : a + 1 + n ≡ a + suc n = omega arith in ap (λ l. f a ++ l) (flat-more f (a + 1) n)
    ∙ sym (append_assoc (f a) (flat_map f (range_with_len (a + 1) n)) (f (a + 1 + n)))
    ∙ ap (λ k. (f a ++ flat_map f (range_with_len (a + 1) n)) ++ f k) e

pub entries-more : {D : Type 0} (v : VmState D) (s : Store) (n : ℕ) → entries_to v s (n + 1) ≡ entries_to v s n ++ entries_of v s (n + 1)
entries-more v s n = let e : n + 1 ≡ suc n = omega arith in let k : 1 + n ≡ n + 1 = omega arith in ap (entries_to v s) e
    ∙ flat-more (entries_of v s) 1 n ∙ ap (λ j. entries_to v s n ++ entries_of v s j) k

all-flat : {A : Type 0} (P : A → Type 0) (f : ℕ → List A) (a n : ℕ) → ((h : ℕ) → a ≤ h → h < a + n → All P (f h))
    → All P (flat_map f (range_with_len a n))
all-flat P f a zero each = All-nil P
all-flat P f a (suc n) each = All-append P (f a) (flat_map f (range_with_len (a + 1) n)) (each a (omega arith) (omega arith))
    (all-flat P f (a + 1) n (λ h low high. each h (omega (arith, low)) (omega (arith, high))))

-- what is tied may be committed
pub may-commit : {D : Type 0} (medium : Medium D) (v : VmState D) (s : Store) → IsTied medium v s
    → is_directory (directory_of v s) ≡ true → MayCommit (resident_of s) v.file.current (directory_of v s)
may-commit medium v s tied legal = record {
  legal = legal;
  there = all-flat (IsThere (resident_of s) v.file.current)
      (entries_of v s) 1 1024 (λ h low high. on h (held_at v h) (block_at s (vm_slot h)) refl (tied.each h (low, omega (arith, high))));
}
  where
    one : (e : Entry) → IsThere (resident_of s) v.file.current e → All (IsThere (resident_of s) v.file.current) (e ∷ [])
    one e there = All-cons (IsThere (resident_of s) v.file.current) e [] there (All-nil (IsThere (resident_of s) v.file.current))

    on : (h : ℕ) (e : Option Held) (b : Option Block) → block_at s (vm_slot h) ≡ b → TiedAt medium v.file h e b
        → All (IsThere (resident_of s) v.file.current) (entries_in h e b)
    on h None b is t = All-nil (IsThere (resident_of s) v.file.current)
    on h (Some e) None is t = one (record { h = h; uid = e.uid; len = e.len }) (rw is t.kept)
    on h (Some e) (Some b) is t = one (record { h = h; uid = e.uid; len = length b.bytes }) (rw is (t.heap, t.handle, refl))

-- one handle further
pub listed_next : {D : Type 0} (v : VmState D) (s : Store) (i : ℕ) (xs : List Entry) (e : Held) → held_at v (i + 1) ≡ Some e → xs ≡ entries_to v s i
    → xs ++ (let x : Entry = record { h = i + 1; uid = e.uid; len = len_now e (block_at s (vm_slot (i + 1))) } in x) ∷ [] ≡ entries_to v s (i + 1)
listed_next v s i xs e listed same =
    ap (λ l. l ++ (let x : Entry = record { h = i + 1; uid = e.uid; len = len_now e (block_at s (vm_slot (i + 1))) } in x) ∷ []) same
    ∙ sym (ap (λ o. entries_to v s i ++ entries_in (i + 1) o (block_at s (vm_slot (i + 1)))) listed) ∙ sym (entries-more v s i)

pub listed_skip : {D : Type 0} (v : VmState D) (s : Store) (i : ℕ) (xs : List Entry) → held_at v (i + 1) ≡ None
    → xs ≡ entries_to v s i → xs ≡ entries_to v s (i + 1)
listed_skip v s i xs none same = same ∙ sym (append-nil (entries_to v s i))
    ∙ sym (ap (λ o. entries_to v s i ++ entries_in (i + 1) o (block_at s (vm_slot (i + 1)))) none) ∙ sym (entries-more v s i)
