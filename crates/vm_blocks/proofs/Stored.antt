-- The model's directory of the device's bytes, and that it is the only one where these tell.
use Rattle.std.proofs.Common.{◌≡◌, ◌≢◌, ℕ, suc, zero, ◌+◌, ◌-◌, ◌<◌, ◌≤◌, List, [], ◌∷◌, length, map, get_or, take, Option, Some, None, true, false, refl, sym, ap, ◌∙◌, subst, arith, inl, inr}
use Rattle.std.specs.Prelude.{◌==◌, find, option_map, sum_by}
use Rattle.std.specs.List.{range_with_len}
use Rattle.std.proofs.lemmas.Bool.{cases_eq}
use Rattle.std.proofs.lemmas.Bool.Decides.{nat_tests}
use Rattle.std.proofs.lemmas.List.{take_all}
use Rattle.std.proofs.lemmas.List.FromFn.{length-map-range_with_len}
use Rattle.geos_calls.specs.Directories.{KeptBlock}
use Rattle.geos_calls.specs.Directories as model
use Rattle.geos_calls.specs.Handles.{at_handle}
use Rattle.geos_calls.specs.VmFile as model_file
use Rattle.block_handles.specs.Names.{IsHandle}
use Rattle.block_handles.specs.Stretch.{total}
use Rattle.vm_file.specs.declared.directory.Directory.{Directory}
use Rattle.vm_file.specs.declared.directory.Entry.{Entry}
use Rattle.vm_file.specs.Contents.{Block, Pair, listed}
use Rattle.vm_file.specs.Directories.{is_directory, directory_length, entries_length, are_entries, is_entry}
use Rattle.vm_file.specs.State.{bytes_of_block}
use Rattle.vm_file.proofs.DirectoryLaws.{behind_from, legal_from, none_below, HasNone}
use Rattle.geos_terms.proofs.HeapTests.{both}
use Rattle.vm_blocks.specs.Matches.{IsStoredBlock, IsStoredAs, IsDirectoryOf, IsPairOf, entry_at, stored_block, stored_directory, stored, stored_pair}
use Rattle.vm_blocks.proofs.HeapsRead.{read-size}
use Rattle.vm_blocks.proofs.Tables.{table-made, table-same}
use Rattle.vm_blocks.proofs.Tightness.{total_sum}

-- Where the bytes tell

stored-block : (read : List ℕ) (e : Entry) (k : KeptBlock) → IsStoredBlock (Unit {0}) read e k → k ≡ stored_block read e
stored-block read e k is = let uid = is.uid in let heap = is.heap.same tt in λ i. record { uid = uid i; heap = heap i }

stored-one : (read : List ℕ) (e : Option Entry) (k : Option KeptBlock) → IsStoredAs (Unit {0}) read e k → k ≡ option_map (stored_block read) e
stored-one read None k is = is
stored-one read (Some e) None is = absurd is
stored-one read (Some e) (Some k) is = ap Some (stored-block read e k is)

pub directory-one : (d : Directory) (blocks : List Block) (x : model.Directory KeptBlock) → IsDirectoryOf (Unit {0}) d blocks x
    → x ≡ stored_directory d blocks
directory-one d blocks x is =
    let f : ℕ → Option KeptBlock = λ h. option_map (stored_block (bytes_of_block blocks h)) (entry_at d h) in
    let same : x.blocks ≡ map f (range_with_len 1 1024) =
    table-same None x.blocks (map f (range_with_len 1 1024)) is.handles (length-map-range_with_len f 1 1024)
    (λ h p. stored-one (bytes_of_block blocks h) (entry_at d h) (at_handle None x.blocks h) (is.each h p) ∙ sym (table-made None f h p)) in
    let b = is.map_block in
    let g = is.map_group in
    let i = is.map_item in
    λ k. record { blocks = same k; map_block = b k; map_group = g k; map_item = i k }

pub pair-one : (c d : Directory) (from : Pair) (p : model_file.Pair) → listed from.cur ≡ c → listed from.saved ≡ d
    → IsPairOf (Unit {0}) c d from p → p ≡ stored_pair from
pair-one c d from p cur saved is =
    let one : p.cur ≡ stored from.cur = directory-one c from.cur.blocks p.cur is.cur ∙ ap (λ x. stored_directory x from.cur.blocks) (sym cur) in
    let two : p.saved ≡ stored from.saved = directory-one d from.saved.blocks p.saved is.saved
    ∙ ap (λ x. stored_directory x from.saved.blocks) (sym saved) in
    λ k. record { cur = one k; saved = two k }

-- It is one

stored-is : (good : Type 0) (read : List ℕ) (e : Option Entry) → IsStoredAs good read e (option_map (stored_block read) e)
stored-is good read None = refl
stored-is good read (Some e) = record { uid = refl; heap = record { size = read-size e.len read; same = λ g. refl } }

pub directory-is : (good : Type 0) (d : Directory) (blocks : List Block) → IsDirectoryOf good d blocks (stored_directory d blocks)
directory-is good d blocks =
    let f : ℕ → Option KeptBlock = λ h. option_map (stored_block (bytes_of_block blocks h)) (entry_at d h) in
    record {
      handles = length-map-range_with_len f 1 1024;
      each = λ h p. subst (IsStoredAs good (bytes_of_block blocks h) (entry_at d h)) (sym (table-made None f h p))
          (stored-is good (bytes_of_block blocks h) (entry_at d h));
      map_block = refl;
      map_group = refl;
      map_item = refl;
    }

-- What it takes on the device

-- what an entry takes, where there is one
abbrev taken : Option Entry → ℕ
taken None = 0
taken (Some e) = 6 + e.len

-- two sums that differ in one number
total-more : (f g : ℕ → ℕ) (j x n : ℕ) → j < n → f j ≡ x → g j ≡ 0 → ((i : ℕ) → i ≢ j → f i ≡ g i) → total n f ≡ x + total n g
total-more f g j x zero less own none same = absurd (omega (arith, less))
total-more f g j x (suc n) less own none same = elim (cases_eq n j) [
  | inl here ↦ (
      let rest : total n f ≡ total n g = total-same n n (omega arith) here in
      let f_n : f n ≡ x = ap f here ∙ own in
      let g_n : g n ≡ 0 = ap g here ∙ none in
      omega (arith, rest, f_n, g_n)
      )
  | inr ne ↦ (let rest = total-more f g j x n (omega (arith, less, ne)) own none same in let f_n = same n ne in omega (arith, rest, f_n))
]
  where
    total-same : (m k : ℕ) → m ≤ k → k ≡ j → total m f ≡ total m g
    total-same zero k le at = refl
    total-same (suc m) k le at = let rest = total-same m k (omega (arith, le)) at in let f_m = same m (λ e. omega (arith, le, at, e)) in
        omega (arith, rest, f_m)

-- what is not there is not found
pub not-found : (es : List Entry) (h : ℕ) → HasNone h es → find (λ e. e.h == h) es ≡ None
not-found [] h none = refl
not-found (e ∷ es) h none = let other : (e.h == h) ≡ false = grind (arith, nat_tests, none.0) in rw other (not-found es h none.1)

total-none : (n : ℕ) → total n (λ i. 0) ≡ 0
total-none zero = refl
total-none (suc n) = let rest = total-none n in omega (arith, rest)

before : (h last : ℕ) → last < h → h - 1 + 1 ≡ h
before h last l = omega (arith, l)

within : (h last n : ℕ) → last < h → h ≤ 1024 → 1024 ≤ n → h - 1 < n
within h last n l m k = omega (arith, l, m, k)

apart : (h i j : ℕ) → j + 1 ≡ h → i ≢ j → (h == (i + 1)) ≡ false
apart h i j e ne = let other : h ≢ i + 1 = (λ x. ne (omega (arith, x, e))) in differs h i other
  where
    differs : (a i : ℕ) → a ≢ i + 1 → (a == (i + 1)) ≡ false
    differs a i ne = grind (arith, nat_tests, ne)

same-test : (a b : ℕ) → b ≡ a → (a == b) ≡ true
same-test a b e = grind (arith, nat_tests, e)

same-least : (n : ℕ) → n ≤ n
same-least n = omega arith

entries-sum : (n : ℕ) → 1024 ≤ n → (es : List Entry) (last : ℕ) → are_entries last es ≡ true
    → total n (λ i. taken (find (λ e. e.h == (i + 1)) es)) ≡ entries_length es
entries-sum n most [] last legal = total-none n
entries-sum n most (e ∷ es) last legal =
    let s = both (is_entry last e) (are_entries e.h es) legal in
    let b = behind_from last e s.0 in
    let j : ℕ = e.h - 1 in
    let j_is : j + 1 ≡ e.h = before e.h last b.above in
    let own : taken (find (λ x. x.h == (j + 1)) (e ∷ es)) ≡ 6 + e.len =
    (let same : (e.h == (j + 1)) ≡ true = same-test e.h (j + 1) j_is in rw same refl) in
    let none : taken (find (λ x. x.h == (j + 1)) es) ≡ 0 = ap taken (ap (λ h. find (λ x. x.h == h) es) j_is
    ∙ not-found es e.h (none_below es e.h e.h s.1 (same-least e.h))) in
    let more = total-more (λ i. taken (find (λ x. x.h == (i + 1)) (e ∷ es))) (λ i. taken (find (λ x. x.h == (i + 1)) es)) j
    (6 + e.len) n (within e.h last n b.above b.most most) own none
    (λ i ne. (let other : (e.h == (i + 1)) ≡ false = apart e.h i j j_is ne in rw other refl)) in
    more ∙ ap (λ k. (6 + e.len) + k) (entries-sum n most es e.h s.1)

taken-as : (good : Type 0) (read : List ℕ) (e : Option Entry) (k : Option KeptBlock) → IsStoredAs good read e k → taken e ≡ model.entry_length k
taken-as good read None k is = sym (ap model.entry_length is)
taken-as good read (Some e) None is = absurd is
taken-as good read (Some e) (Some k) is = ap (λ n. 6 + n) (sym is.heap.size)

-- a table takes what entries do
entries-taken : (n : ℕ) → 1024 ≤ n → (xs : List (Option KeptBlock)) (es : List Entry) → length xs ≡ n → are_entries 0 es ≡ true
    → ((i : ℕ) → i < n → taken (find (λ e. e.h == (i + 1)) es) ≡ model.entry_length (get_or xs i None))
    → sum_by model.entry_length xs ≡ entries_length es
entries-taken n most xs es long legal at =
    let some : n ≤ length xs = subst (λ k. n ≤ k) (sym long) (same-least n) in
    let all : take n xs ≡ xs = take_all n xs (subst (λ k. k ≤ n) (sym long) (same-least n)) in
    ap (sum_by model.entry_length) (sym all) ∙ sym (total_sum model.entry_length xs None (λ i. taken (find (λ e. e.h == (i + 1)) es)) n some at)
    ∙ entries-sum n most es 0 legal

next : (i : ℕ) → i + 1 ≡ suc i
next i = omega arith

handle-of : (i : ℕ) → i < 1024 → IsHandle (suc i)
handle-of i l = (omega arith, omega (arith, l))

-- a directory of the model takes what that of the device does
pub length-same : (good : Type 0) (d : Directory) (blocks : List Block) (x : model.Directory KeptBlock)
    → is_directory d ≡ true → IsDirectoryOf good d blocks x → model.directory_length x ≡ directory_length d
length-same good d blocks x legal is =
    ap (λ n. 8 + n) (entries-taken 1024 (same-least 1024) x.blocks d.entries.items is.handles (legal_from d legal).entries at)
  where
    at : (i : ℕ) → i < 1024 → taken (find (λ e. e.h == (i + 1)) d.entries.items) ≡ model.entry_length (get_or x.blocks i None)
    at i less = ap (λ h. taken (entry_at d h)) (next i) ∙ taken-as good (bytes_of_block blocks (suc i)) (entry_at d (suc i))
        (at_handle None x.blocks (suc i)) (is.each (suc i) (handle-of i less))
