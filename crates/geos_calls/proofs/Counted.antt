-- What each row of the table leaves of lock counts and marks, and what a commit writes.
use Rattle.std.proofs.Common.{◌≡◌, ℕ, suc, ◌+◌, ◌-◌, Bool, true, false, ◌==◌, if◌then◌else◌, List, [], ◌∷◌, Option, Some, None, ◌⊎◌, refl, sym, ap, ◌∙◌, subst, inl, inr, arith}
use Rattle.std.specs.Prelude.{is_none, option_map, unwrap_or, position, not, IsSomeAnd}
use Rattle.std.proofs.lemmas.Bool.{ne_eqb}
use Rattle.std.proofs.lemmas.Option.{none-some}
use Rattle.std.proofs.lemmas.List.{get_or-set_same}
use Rattle.std.proofs.lemmas.List.Quantifiers.{position-Some}
use Rattle.geos_terms.specs.declared.name.Name.{Name}
use Rattle.geos_terms.specs.declared.name.Owner.{Owner}
use Rattle.geos_terms.specs.declared.name.Owner.TheVariants.{Mem, Vm}
use Rattle.geos_terms.specs.declared.refusal.Refusal.{Refusal}
use Rattle.geos_terms.specs.declared.refusal.Refusal.TheVariants as refusal
use Rattle.geos_terms.specs.Names.{named, mem, vm, group_uid}
use Rattle.geos_terms.specs.Refusals.{first_refusal}
use Rattle.geos_calls.specs.Directories.{VmBlock, KeptBlock, Directory, uid_in, is_marked_in, marked_block, kept_block, idle_block}
use Rattle.geos_calls.specs.VmFile.{Pair}
use Rattle.geos_calls.specs.Memory.{Block, Memory, at_handle, with_entry_at, lowest_of, new_heap, listed_at, with_listed, with_mark, is_marked, with_owned_block, block_of, with_block, locks_in, locks_of, lowest_handle, locked_block, rechunked_block, with_locks, with_chunks, chunks_at}
use Rattle.geos_calls.specs.Given.{given_memory}
use Rattle.geos_calls.specs.Effects.{Choice, come_to, outcome, effect_of}
use Rattle.geos_calls.specs.ChunkCalls.{change_edit, make_edit}
use Rattle.geos_calls.specs.VmCalls.{Keeper, new_listed, bring, written_directory, without_listed, committed, in_doubt, left_by_commit, keep_current, keep_saved, keep_reverted, pair_to_keep}
use Rattle.geos_calls.specs.Table.{KernelCall, Mnew, Mlock, Mfree, Unlock, Changes, Makes, Store, Copy, Vnew, LockListed, Vlock, Vdirty, FreeListed, Vfree, Vsetmap, Vupdate, Vsave, Vrevert, Gnew, Gfree, ChangesItem, MakesItem, Ilock, Isetmap, row}
use Rattle.geos_calls.specs.Leaving.{Scope, NoBlock, OneBlock, WholeFile, new_mem, new_vm, scope_of, LeavesOthers, stale_of, counts_of, marks_of, HasCounts, HasMarks, NoneLocked, IsAskable, keeper_of, MapsBlock, MapsItem, Writes, LeavesFile, SameFile, IsLeft, RowsLeave}
use Rattle.geos_calls.proofs.Laws.{entry-other, change-shape}
use Rattle.geos_calls.proofs.Passing.{none-here}
use Rattle.geos_calls.proofs.HandleLists.{allowed-is, entry-each}
use Rattle.geos_calls.proofs.LegalGiven.{locks_of-given, is_marked-given, block_of-given}
use Rattle.geos_calls.proofs.NamedBlocks.{entry-gone, block_in_file, block_of-mapped, block_of-gone, locks_of-chunks, locks_of-set, marks-mapped, locks_of-mark, marked-set, still-listed}

-- Counts

lock-less : (b : Option Block) → locks_in (option_map (locked_block (locks_in b - 1)) b) ≡ locks_in b - 1
lock-less None = omega arith
lock-less (Some b) = refl

-- one lock is released
unlocked : (m : Memory) (name : Name) → locks_of (with_locks m name (locks_of m name - 1)) name ≡ locks_of m name - 1
unlocked m name = ap locks_in (block_of-mapped m (locked_block (locks_of m name - 1)) name) ∙ lock-less (block_of m name)

-- what is put under the lowest handle for which there is nothing is there
lowest-put : {X : Type 0} (xs : List (Option X)) (x : X) → is_none (lowest_of xs) ≡ false
    → at_handle None (with_entry_at xs (unwrap_or (lowest_of xs) 0) (Some x)) (unwrap_or (lowest_of xs) 0) ≡ Some x
lowest-put xs x some = go (position is_none xs) refl some
  where
    go : (o : Option ℕ) → position is_none xs ≡ o → is_none (option_map suc o) ≡ false
        → at_handle None (with_entry_at xs (unwrap_or (option_map suc o) 0) (Some x)) (unwrap_or (option_map suc o) 0) ≡ Some x
    go None p h = absurd (let y : true ≡ false = h in cc)
    go (Some k) p h = get_or-set_same xs k (Some x) None (position-Some is_none xs k None p).0

-- a group is listed
group-listed : (listed : Option VmBlock) → not (uid_in listed == group_uid) ≡ false → is_none listed ≡ false
group-listed None h = absurd (let y : true ≡ false = h in cc)
group-listed (Some l) h = refl

-- its block is there
listed-there : (listed : Option VmBlock) → is_none listed ≡ false → is_none (option_map block_in_file listed) ≡ false
listed-there None h = absurd (let y : true ≡ false = h in cc)
listed-there (Some l) h = refl

item-counts : (m : Memory) (g : ℕ) (chunks : List (Option (List ℕ))) (name : Name)
    → locks_of (with_mark (with_chunks m (vm g) chunks) g true) name ≡ locks_of m name
item-counts m g chunks name = locks_of-mark (with_chunks m (vm g) chunks) g true name ∙ locks_of-chunks m (vm g) name chunks

idle-count : (m : Memory) (pair : Pair) (h : ℕ) → locks_of (committed m pair) (vm h) ≡ 0
idle-count m pair h = ap (λ e. locks_in (option_map block_in_file e)) (entry-each idle_block pair.cur.blocks h)
    ∙ idle (at_handle None pair.cur.blocks h)
  where
    idle : (kept : Option KeptBlock) → locks_in (option_map block_in_file (option_map idle_block kept)) ≡ 0
    idle None = refl
    idle (Some kept) = refl

-- a commit leaves the counts of a file of which no block is locked
pub commit-counts : (m : Memory) (pair : Pair) → NoneLocked m → (name : Name) → locks_of (committed m pair) name ≡ locks_of m name
commit-counts m pair none name = by name.owner name.h
  where
    by : (owner : Owner) (h : ℕ) → locks_of (committed m pair) (named owner h) ≡ locks_of m (named owner h)
    by Mem h = refl
    by Vm h = idle-count m pair h ∙ sym (none h)

-- no test of these holds
abbrev AllFail : List (Bool × Refusal) → Type 0
AllFail [] = Unit {0}
AllFail (test ∷ tests) = (test.0 ≡ false) × AllFail tests

-- where no refusal comes
passed : (tests : List (Bool × Refusal)) → first_refusal tests ≡ None → AllFail tests
passed [] fine = tt
passed (test ∷ tests) fine = let here = none-here test.0 test.1 (first_refusal tests) fine in (here.0, passed tests here.1)

pub counts : (call : KernelCall) (choice : Choice) (memory : Memory) → IsAskable call memory
    → first_refusal (row call choice memory).refusals ≡ None → HasCounts (counts_of call memory) memory (row call choice memory).after
counts Mnew choice m asked fine =
    let low = (passed (row Mnew choice m).refusals fine).0 in
    let is = allowed-is m.handles (lowest_of m.blocks) low in
    let own : Option Block = Some (record { locks = 1; heap = new_heap }) in
    subst (λ o. locks_in (at_handle None (with_entry_at m.blocks (unwrap_or o 0) own) (unwrap_or o 0)) ≡ 1) (sym is)
    (ap locks_in (lowest-put m.blocks (record { locks = 1; heap = new_heap }) (subst (λ o. is_none o ≡ false) is low)))
counts (Mlock h) choice m asked fine = locks_of-set m (mem h) (locks_of m (mem h) + 1) (passed (row (Mlock h) choice m).refusals fine).0
counts (Mfree h) choice m asked fine = ap locks_in (block_of-gone m (mem h))
counts (Unlock name) choice m asked fine = unlocked m name
counts (Changes name change) choice m asked fine = λ other.
    ap (λ n. locks_of n other) (change-shape name change m choice).0 ∙ locks_of-chunks m name other (change_edit change (chunks_at m name)).chunks
counts (Makes name make) choice m asked fine = λ other. locks_of-chunks m name other (make_edit make (chunks_at m name)).chunks
counts (Store ref i bytes) choice m asked fine = λ other. locks_of-chunks m ref.name other _
counts (Copy to from n) choice m asked fine = λ other. locks_of-chunks m to.name other _
counts (Vnew uid) choice m asked fine = made (passed (row (Vnew uid) choice m).refusals fine).1.0
  where
    made : is_none (lowest_handle m Vm) ≡ false → locks_of (with_listed m (new_vm m).h (Some (new_listed uid 1))) (new_vm m) ≡ 1
    made some = ap (λ e. locks_in (option_map block_in_file e)) (lowest-put m.file.cur.blocks (new_listed uid 1) some)
counts (LockListed h) choice m asked fine = locks_of-set m (vm h) (locks_of m (vm h) + 1)
    (listed-there (listed_at m h) (passed (row (LockListed h) choice m).refusals fine).0)
counts (Vlock h) choice m asked fine = locks_of-set m (vm h) (locks_of m (vm h) + 1)
    (listed-there (listed_at m h) (passed (row (Vlock h) choice m).refusals fine).0)
counts (Vdirty h) choice m asked fine = λ name. locks_of-mark m h true name
counts (FreeListed h) choice m asked fine = ap (λ e. locks_in (option_map block_in_file e)) (entry-gone m.file.cur.blocks h)
counts (Vfree h) choice m asked fine = ap (λ e. locks_in (option_map block_in_file e)) (entry-gone m.file.cur.blocks h)
counts Vupdate choice m asked fine = commit-counts m (pair_to_keep keep_current m) asked
counts Vsave choice m asked fine = commit-counts m (pair_to_keep keep_saved m) asked
counts Vrevert choice m asked fine = commit-counts m (pair_to_keep keep_reverted m) asked
counts Gnew choice m asked fine = made (passed (row Gnew choice m).refusals fine).0
  where
    made : is_none (lowest_handle m Vm) ≡ false → locks_of (with_listed m (new_vm m).h (Some (new_listed group_uid 0))) (new_vm m) ≡ 0
    made some = ap (λ e. locks_in (option_map block_in_file e)) (lowest-put m.file.cur.blocks (new_listed group_uid 0) some)
counts (Gfree g) choice m asked fine = ap (λ e. locks_in (option_map block_in_file e)) (entry-gone m.file.cur.blocks g)
counts (ChangesItem g change) choice m asked fine = λ name.
    ap (λ n. locks_of (with_mark n g true) name) (change-shape (vm g) change m choice).0
    ∙ item-counts m g (change_edit change (chunks_at m (vm g))).chunks name
counts (MakesItem g make) choice m asked fine = λ name. item-counts m g (make_edit make (chunks_at m (vm g))).chunks name
counts (Ilock g i n) choice m asked fine = locks_of-set m (vm g) (locks_of m (vm g) + 1)
    (listed-there (listed_at m g) (group-listed (listed_at m g) (passed (row (Ilock g i n) choice m).refusals fine).0))
counts call choice m asked fine = λ name. refl

-- Marks

-- chunks of a group are changed, and it is marked
item-marked : (m : Memory) (g : ℕ) (chunks : List (Option (List ℕ))) → is_none (listed_at m g) ≡ false
    → is_marked (with_mark (with_chunks m (vm g) chunks) g true) g ≡ true
item-marked m g chunks there = marked-set (with_chunks m (vm g) chunks) g true (still-listed m g (rechunked_block chunks) there)

idle-mark : (m : Memory) (pair : Pair) (h : ℕ) → is_marked (committed m pair) h ≡ false
idle-mark m pair h = ap is_marked_in (entry-each idle_block pair.cur.blocks h) ∙ idle (at_handle None pair.cur.blocks h)
  where
    idle : (kept : Option KeptBlock) → is_marked_in (option_map idle_block kept) ≡ false
    idle None = refl
    idle (Some kept) = refl

pub marks : (call : KernelCall) (choice : Choice) (memory : Memory) → IsAskable call memory
    → first_refusal (row call choice memory).refusals ≡ None → HasMarks (marks_of call memory) memory (row call choice memory).after
marks (Mlock h) choice m asked fine = λ k. marks-mapped m (locked_block (locks_of m (mem h) + 1)) (mem h) k
marks (Unlock name) choice m asked fine = λ k. marks-mapped m (locked_block (locks_of m name - 1)) name k
marks (Changes name change) choice m asked fine = λ k.
    ap (λ n. is_marked n k) (change-shape name change m choice).0
    ∙ marks-mapped m (rechunked_block (change_edit change (chunks_at m name)).chunks) name k
marks (Makes name make) choice m asked fine = λ k. marks-mapped m (rechunked_block (make_edit make (chunks_at m name)).chunks) name k
marks (Store ref i bytes) choice m asked fine = λ k. marks-mapped m (rechunked_block _) ref.name k
marks (Copy to from n) choice m asked fine = λ k. marks-mapped m (rechunked_block _) to.name k
marks (Vnew uid) choice m asked fine =
    ap is_marked_in (lowest-put m.file.cur.blocks (new_listed uid 1) (passed (row (Vnew uid) choice m).refusals fine).1.0)
marks (LockListed h) choice m asked fine = λ k. marks-mapped m (locked_block (locks_of m (vm h) + 1)) (vm h) k
marks (Vlock h) choice m asked fine = λ k. marks-mapped m (locked_block (locks_of m (vm h) + 1)) (vm h) k
marks (Vdirty h) choice m asked fine = marked-set m h true asked
marks (FreeListed h) choice m asked fine = ap is_marked_in (entry-gone m.file.cur.blocks h)
marks (Vfree h) choice m asked fine = ap is_marked_in (entry-gone m.file.cur.blocks h)
marks Vupdate choice m asked fine = idle-mark m (pair_to_keep keep_current m)
marks Vsave choice m asked fine = idle-mark m (pair_to_keep keep_saved m)
marks Vrevert choice m asked fine = idle-mark m (pair_to_keep keep_reverted m)
marks Gnew choice m asked fine = ap is_marked_in (lowest-put m.file.cur.blocks (new_listed group_uid 0) (passed (row Gnew choice m).refusals fine).0)
marks (Gfree g) choice m asked fine = ap is_marked_in (entry-gone m.file.cur.blocks g)
marks (ChangesItem g change) choice m asked fine =
    ap (λ n. is_marked (with_mark n g true) g) (change-shape (vm g) change m choice).0
    ∙ item-marked m g (change_edit change (chunks_at m (vm g))).chunks
    (group-listed (listed_at m g) (passed (row (ChangesItem g change) choice m).refusals fine).0)
marks (MakesItem g make) choice m asked fine = item-marked m g (make_edit make (chunks_at m (vm g))).chunks
    (group-listed (listed_at m g) (passed (row (MakesItem g make) choice m).refusals fine).0)
marks (Ilock g i n) choice m asked fine = λ k. marks-mapped m (locked_block (locks_of m (vm g) + 1)) (vm g) k
marks call choice m asked fine = λ k. refl

-- What is written

-- a block that is written and not locked is as it was, but its mark
clean : (listed : Option VmBlock) → locks_in (option_map block_in_file listed) ≡ 0
    → option_map idle_block (option_map kept_block listed) ≡ option_map (marked_block false) listed
clean None none = refl
clean (Some l) none = ap as_counted (sym none)
  where
    as_counted : ℕ → Option VmBlock
    as_counted n = Some (record { uid = l.uid; marked = false; block = record { locks = n; heap = l.block.heap } })

written-clean : (m : Memory) (saved : Directory KeptBlock) (h : ℕ) → NoneLocked m
    → listed_at (committed m (record { cur = written_directory m; saved = saved })) h ≡ option_map (marked_block false) (listed_at m h)
written-clean m saved h none =
    let entries = m.file.cur.blocks in
    entry-each idle_block (written_directory m).blocks h ∙ ap (option_map idle_block) (entry-each kept_block entries h)
    ∙ clean (listed_at m h) (none h)

pub written : (call : KernelCall) (choice : Choice) (memory : Memory) → Writes call → IsAskable call memory → (h : ℕ)
    → listed_at (row call choice memory).after h ≡ option_map (marked_block false) (listed_at memory h)
written Vupdate choice m is asked h = written-clean m m.file.saved h asked
written Vsave choice m is asked h = written-clean m (written_directory m) h asked
written call choice m is asked h = absurd is

-- A bring

came-back : (o : Option Refusal) (m : Memory) → (come_to {A = Unit {0}} o (λ why. m) tt m).1 ≡ m
came-back None m = refl
came-back (Some why) m = refl

pub brought : (h : ℕ) (choice : Choice) (memory : Memory) → choice.given ≡ [] → (outcome (effect_of (bring h) choice memory)).1 ≡ memory
brought h choice m nothing = came-back (first_refusal (effect_of (bring h) choice m).refusals) (given_memory choice.given m)
    ∙ ap (λ given. given_memory given m) nothing
