-- The rows of the calls on the VM file, on groups and on items keep memory legal.
use Rattle.std.proofs.Common.{◌≡◌, ◌≢◌, ℕ, ◌+◌, ◌≤◌, ◌<◌, Bool, true, false, ◌&&◌, ◌==◌, if◌then◌else◌, List, [], ◌∷◌, ◌++◌, Option, Some, None, refl, sym, subst, arith}
use Rattle.std.specs.Prelude.{not, is_none, unwrap_or, option_map, IfSome, IsSomeAnd}
use Rattle.std.proofs.lemmas.Bool.{eq-eqb, ne_eqb, eqb-true, eqb-false}
use Rattle.geos_terms.specs.declared.name.Owner.TheVariants.{Vm}
use Rattle.geos_terms.specs.declared.refusal.Refusal.{Refusal}
use Rattle.geos_terms.specs.declared.refusal.Refusal.TheVariants as refusal
use Rattle.geos_terms.specs.Names.{vm, group_uid}
use Rattle.geos_terms.specs.Refusals.{first_refusal}
use Rattle.geos_calls.specs.Directories.{VmBlock, KeptBlock, Directory, uid_in, marked_block, without_block}
use Rattle.geos_calls.specs.VmFile.{Pair, doubted}
use Rattle.geos_calls.specs.Memory.{Memory, listed_at, with_cur, is_group, with_mark, locks_of, with_locks, lowest_handle}
use Rattle.geos_calls.specs.Effects.{Choice, Call, outcome, most_locks, bringing}
use Rattle.geos_calls.specs.Calls.{locks_full, is_in_use, deref}
use Rattle.geos_calls.specs.VmCalls.{no_listed, names_group, is_reserved, does, new_listed, makes_listed, vnew, locks_listed, lock_listed, vlock, bring, vdirty, without_listed, frees_listed, free_listed, vfree, vsetmap, written_directory, committed, left_by_commit, Keeper, keep_current, keep_saved, keep_reverted, pair_to_keep, commit, vupdate, vsave, vrevert}
use Rattle.geos_calls.specs.ItemCalls.{no_group, on_group, gnew, gfree, ilock, isetmap}
use Rattle.geos_calls.specs.Legal.{IsLegalListed, IsStored, IsPair, IsMemory}
use Rattle.geos_calls.specs.Keeping.{Keeps}
use Rattle.geos_calls.proofs.Passing.{none-here, none-behind}
use Rattle.geos_calls.proofs.Outcomes.{outcome-kept, after-kept, locks-rise}
use Rattle.geos_calls.proofs.HandleLists.{lowest-none}
use Rattle.geos_calls.proofs.LegalDirectories.{removed-legal, written-legal, loaded-legal, doubted-legal}
use Rattle.geos_calls.proofs.LegalBlocks.{new_heap-legal, cur-legal, listed-legal, added_listed-legal, with_locks-legal, locks-most}

does-kept : (memory : Memory) (refusals : List (Bool × Refusal)) (after : Memory) → IsMemory memory
    → (first_refusal refusals ≡ None → IsMemory after) → IsMemory (outcome (does memory refusals after)).1
does-kept memory refusals after legal done = outcome-kept (does memory refusals after) (λ r. legal) done

-- Blocks and groups

makes-kept : (front : List (Bool × Refusal)) (uid n : ℕ) → uid < 65536 → n ≤ most_locks → Keeps (makes_listed front uid n)
makes-kept front uid n word few choice memory legal =
    outcome-kept (makes_listed front uid n choice memory) (λ r. legal) (λ fine.
    added_listed-legal memory (unwrap_or (lowest_handle memory Vm) 0) (new_listed uid n)
    (record { uid = word; block = record { heap = new_heap-legal; few = few } })
    (lowest-none memory.file.cur.blocks) legal)

pub vnew-kept : (uid : ℕ) → uid < 65536 → Keeps (vnew uid)
vnew-kept uid word = makes-kept (is_reserved uid ∷ []) uid 1 word (omega arith)

pub gnew-kept : Keeps gnew
gnew-kept = makes-kept [] group_uid 0 (omega arith) (omega arith)

-- a count that is not full rises
risen-legal : (memory : Memory) (h : ℕ) → (locks_of memory (vm h) == most_locks) ≡ false → IsMemory memory
    → IsMemory (with_locks memory (vm h) (locks_of memory (vm h) + 1))
risen-legal memory h few legal = with_locks-legal memory (vm h) (locks_of memory (vm h) + 1)
    (locks-rise (locks_of memory (vm h)) few (locks-most memory (vm h) legal)) legal

-- a lock, with some refusals in front
locks-kept : (front : List (Bool × Refusal)) (h : ℕ) → Keeps (locks_listed front h)
locks-kept front h choice memory legal =
    let rest = bringing choice memory h in
    does-kept memory (front ++ (locks_full memory (vm h) ∷ rest)) (with_locks memory (vm h) (locks_of memory (vm h) + 1)) legal (λ fine.
    let behind = none-behind front (locks_full memory (vm h) ∷ rest) fine in
    risen-legal memory h (none-here (locks_of memory (vm h) == most_locks) refusal.Locked (first_refusal rest) behind).0 legal)

pub lock_listed-kept : (h : ℕ) → Keeps (lock_listed h)
lock_listed-kept h choice memory legal = locks-kept (no_listed memory h ∷ []) h choice memory legal

pub vlock-kept : (h : ℕ) → Keeps (vlock h)
vlock-kept h choice memory legal = locks-kept (no_listed memory h ∷ names_group memory h ∷ []) h choice memory legal

pub bring-kept : (h : ℕ) → Keeps (bring h)
bring-kept h choice memory legal = does-kept memory (no_listed memory h ∷ bringing choice memory h) memory legal (λ fine. legal)

-- a mark is set, or not
pub mark-legal : (memory : Memory) (h : ℕ) (marked : Bool) → IsMemory memory → IsMemory (with_mark memory h marked)
mark-legal memory h marked legal = listed-legal memory h (option_map (marked_block marked) (listed_at memory h))
    (new (listed_at memory h) (legal.file.cur.blocks h)) (same (listed_at memory h)) legal
  where
    new : (listed : Option VmBlock) → IfSome listed IsLegalListed → IfSome (option_map (marked_block marked) listed) IsLegalListed
    new None is = tt
    new (Some l) is = record { uid = is.uid; block = is.block }

    same : (listed : Option VmBlock) → option_map (λ (l : VmBlock). l.uid) (option_map (marked_block marked) listed) ≡ option_map
        (λ (l : VmBlock). l.uid) listed
    same None = refl
    same (Some l) = refl

pub vdirty-kept : (h : ℕ) → Keeps (vdirty h)
vdirty-kept h choice memory legal = does-kept memory [] (with_mark memory h true) legal (λ fine. mark-legal memory h true legal)

without-legal : (memory : Memory) (h : ℕ) → IsMemory memory → IsMemory (without_listed memory h)
without-legal memory h legal = cur-legal memory (without_block memory.file.cur h)
    (removed-legal IsLegalListed (λ (l : VmBlock). l.uid) memory.file.cur legal.file.cur h) legal

-- a block or group goes, with some refusals in front
frees-kept : (front : List (Bool × Refusal)) (h : ℕ) → Keeps (frees_listed front h)
frees-kept front h choice memory legal = does-kept memory (front ++ (is_in_use memory (vm h) ∷ []))
    (without_listed memory h) legal (λ fine. without-legal memory h legal)

pub free_listed-kept : (h : ℕ) → Keeps (free_listed h)
free_listed-kept h choice memory legal = frees-kept (no_listed memory h ∷ []) h choice memory legal

pub vfree-kept : (h : ℕ) → Keeps (vfree h)
vfree-kept h choice memory legal = frees-kept (no_listed memory h ∷ names_group memory h ∷ []) h choice memory legal

pub gfree-kept : (g : ℕ) → Keeps (gfree g)
gfree-kept g choice memory legal = frees-kept (no_group memory g ∷ []) g choice memory legal

-- Maps

not-left : (b c : Bool) → (not b && c) ≡ false → b ≡ false → c ≡ false
not-left true c h none = absurd (let x : true ≡ false = none in cc)
not-left false c h none = h

-- a handle is 0, or names a block that is no group
a-block : (listed : Option VmBlock) → is_none listed ≡ false → (uid_in listed == group_uid) ≡ false
    → IsSomeAnd (option_map (λ (l : VmBlock). l.uid) listed) (λ u. u ≢ group_uid)
a-block None there apart = absurd (let x : true ≡ false = there in cc)
a-block (Some l) there apart = eqb-false l.uid group_uid apart

-- or names a group
a-group : (listed : Option VmBlock) → (uid_in listed == group_uid) ≡ true
    → IsSomeAnd (option_map (λ (l : VmBlock). l.uid) listed) (λ u. u ≡ group_uid)
a-group None is = absurd (let x : false ≡ true = is in cc)
a-group (Some l) is = eqb-true l.uid group_uid is

pub vsetmap-kept : (h : ℕ) → Keeps (vsetmap h)
vsetmap-kept h choice memory legal =
    let cur = memory.file.cur in
    let maps = legal.file.cur.maps in
    does-kept memory ((not (h == 0) && is_none (listed_at memory h), refusal.BadHandle) ∷ names_group memory h ∷ [])
    (with_cur memory (record cur { map_block = h })) legal (λ fine.
    let first = none-here (not (h == 0) && is_none (listed_at memory h)) refusal.BadHandle (first_refusal (names_group memory h ∷ [])) fine in
    let second = none-here (is_group memory h) refusal.Reserved None first.1 in
    cur-legal memory (record cur { map_block = h }) (record {
      handles = legal.file.cur.handles;
      blocks = legal.file.cur.blocks;
      maps = record {
        map_block = λ some. a-block (listed_at memory h) (not-left (h == 0) (is_none (listed_at memory h)) first.0 (ne_eqb h 0 some)) second.0;
        map_group = maps.map_group;
        no_item = maps.no_item;
        word = maps.word;
      };
    }) legal)

pub isetmap-kept : (g i : ℕ) → i < 65536 → Keeps (isetmap g i)
isetmap-kept g i small choice memory legal =
    let cur = memory.file.cur in
    let maps = legal.file.cur.maps in
    does-kept memory ((not (g == 0) && not (is_group memory g), refusal.BadHandle) ∷ ((g == 0) && not (i == 0), refusal.Range) ∷ [])
    (with_cur memory (record cur { map_group = g; map_item = i })) legal (λ fine.
    let first = none-here (not (g == 0) && not (is_group memory g)) refusal.BadHandle
    (first_refusal (((g == 0) && not (i == 0), refusal.Range) ∷ [])) fine in
    let second = none-here ((g == 0) && not (i == 0)) refusal.Range None first.1 in
    cur-legal memory (record cur { map_group = g; map_item = i }) (record {
      handles = legal.file.cur.handles;
      blocks = legal.file.cur.blocks;
      maps = record {
        map_block = maps.map_block;
        map_group = λ some. a-group (listed_at memory g)
            (un-not (is_group memory g) (not-left (g == 0) (not (is_group memory g)) first.0 (ne_eqb g 0 some)));
        no_item = λ none. eqb-true i 0 (zero-item (g == 0) (i == 0) second.0 (eq-eqb g 0 none));
        word = small;
      };
    }) legal)
  where
    un-not : (b : Bool) → not b ≡ false → b ≡ true
    un-not true h = refl
    un-not false h = absurd (let x : true ≡ false = h in cc)

    zero-item : (b c : Bool) → (b && not c) ≡ false → b ≡ true → c ≡ true
    zero-item true c h is = un-not c h
    zero-item false c h is = absurd (let x : false ≡ true = is in cc)

-- The file

pub pair-legal : (keeper : Keeper) (memory : Memory) → ((cur saved : Directory KeptBlock) → IsStored cur → IsStored saved → IsPair (keeper cur saved))
    → IsMemory memory → IsPair (pair_to_keep keeper memory)
pair-legal keeper memory keeps legal = keeps (written_directory memory) memory.file.saved
    (written-legal memory.file.cur legal.file.cur) legal.file.saved

committed-legal : (memory : Memory) (pair : Pair) → IsPair pair → IsMemory memory → IsMemory (committed memory pair)
committed-legal memory pair new legal = record {
  handles = legal.handles;
  blocks = legal.blocks;
  file = record { cur = loaded-legal pair.cur new.0; saved = new.1; kept = new };
}

faulted-legal : (unsure : Bool) (memory : Memory) (pair : Pair) → IsPair pair → IsMemory memory
    → IsMemory (if unsure then record memory { file = record memory.file { kept = doubted memory.file.kept pair } } else memory)
faulted-legal false memory pair new legal = legal
faulted-legal true memory pair new legal = record {
  handles = legal.handles;
  blocks = legal.blocks;
  file = record { cur = legal.file.cur; saved = legal.file.saved; kept = doubted-legal memory.file.kept pair legal.file.kept new };
}

pub left-legal : (choice : Choice) (memory : Memory) (pair : Pair) (why : Refusal) → IsPair pair → IsMemory memory
    → IsMemory (left_by_commit choice memory pair why)
left-legal choice memory pair refusal.Disk new legal = faulted-legal choice.unsure memory pair new legal
left-legal choice memory pair why new legal = legal

pub commit-kept : (keeper : Keeper) → ((cur saved : Directory KeptBlock) → IsStored cur → IsStored saved → IsPair (keeper cur saved))
    → Keeps (commit keeper)
commit-kept keeper keeps choice memory legal =
    let pair = pair_to_keep keeper memory in
    let new = pair-legal keeper memory keeps legal in
    outcome-kept (commit keeper choice memory) (λ r. left-legal choice memory pair r new legal) (λ fine. committed-legal memory pair new legal)

pub vupdate-kept : Keeps vupdate
vupdate-kept = commit-kept keep_current (λ cur saved c s. (c, s))

pub vsave-kept : Keeps vsave
vsave-kept = commit-kept keep_saved (λ cur saved c s. (c, c))

pub vrevert-kept : Keeps vrevert
vrevert-kept = commit-kept keep_reverted (λ cur saved c s. (s, s))

-- Items

-- a call on the items of a group, whose refusals leave memory as it was
pub on_group-kept : {A : Type 0} (g : ℕ) (call : Call A) → ((choice : Choice) (memory : Memory) (why : Refusal)
    → (call choice memory).left why ≡ memory) → Keeps call → Keeps (on_group g call)
on_group-kept g call same keeps choice memory legal =
    let row = call choice memory in
    outcome-kept (on_group g call choice memory) (λ r. subst IsMemory (sym (same choice memory r)) legal) (λ fine.
    let behind = none-behind (no_group memory g ∷ bringing choice memory g) row.refusals fine in
    mark-legal row.after g true (after behind))
  where
    after : first_refusal (call choice memory).refusals ≡ None → IsMemory (call choice memory).after
    after passed = after-kept (call choice memory) (keeps choice memory legal) passed

pub ilock-kept : (g i n : ℕ) → Keeps (ilock g i n)
ilock-kept g i n choice memory legal =
    let rest = bringing choice memory g ++ (deref (vm g) i n choice memory).refusals in
    outcome-kept (ilock g i n choice memory) (λ r. legal) (λ fine.
    let behind = none-behind (no_group memory g ∷ []) (locks_full memory (vm g) ∷ rest) fine in
    risen-legal memory g (none-here (locks_of memory (vm g) == most_locks) refusal.Locked (first_refusal rest) behind).0 legal)
