-- What each row of the table leaves.
use Rattle.std.proofs.Common.{◌≡◌, ℕ, suc, ◌+◌, ◌-◌, Bool, true, false, ◌==◌, if◌then◌else◌, List, [], ◌∷◌, Option, Some, None, ◌⊎◌, refl, sym, ap, ◌∙◌, subst, inl, inr, arith}
use Rattle.std.specs.Prelude.{is_none, option_map, unwrap_or, position, not, IsSomeAnd}
use Rattle.std.proofs.lemmas.Bool.{ne_eqb}
use Rattle.std.proofs.lemmas.Option.{none-some}
use Rattle.std.proofs.lemmas.List.{get_or-set_same}
use Rattle.std.proofs.lemmas.List.Quantifiers.{position-Some}
use Rattle.geos_terms.specs.declared.name.Name.{Name}
use Rattle.geos_terms.specs.declared.name.Owner.{Owner}
use Rattle.geos_terms.specs.declared.name.Owner.TheVariants.{Mem, Vm}
use Rattle.geos_terms.specs.declared.refusal.Refusal.{Refusal}
use Rattle.geos_terms.specs.declared.refusal.Refusal.TheVariants as refusal
use Rattle.geos_terms.specs.Names.{named, mem, vm, group_uid}
use Rattle.geos_terms.specs.Refusals.{first_refusal}
use Rattle.geos_calls.specs.Directories.{VmBlock, KeptBlock, Directory, uid_in, is_marked_in, marked_block, kept_block, idle_block}
use Rattle.geos_calls.specs.VmFile.{Pair}
use Rattle.geos_calls.specs.Memory.{Block, Memory, at_handle, with_entry_at, lowest_of, new_heap, listed_at, with_listed, with_mark, is_marked, with_owned_block, block_of, with_block, locks_in, locks_of, lowest_handle, locked_block, rechunked_block, with_locks, with_chunks, chunks_at}
use Rattle.geos_calls.specs.Given.{given_memory}
use Rattle.geos_calls.specs.Effects.{Choice, come_to, outcome, effect_of}
use Rattle.geos_calls.specs.ChunkCalls.{change_edit, make_edit}
use Rattle.geos_calls.specs.VmCalls.{Keeper, new_listed, bring, written_directory, without_listed, committed, in_doubt, left_by_commit, keep_current, keep_saved, keep_reverted, pair_to_keep}
use Rattle.geos_calls.specs.Table.{KernelCall, Mnew, Mlock, Mfree, Unlock, Changes, Makes, Store, Copy, Vnew, LockListed, Vlock, Vdirty, FreeListed, Vfree, Vsetmap, Vupdate, Vsave, Vrevert, Gnew, Gfree, ChangesItem, MakesItem, Ilock, Isetmap, row}
use Rattle.geos_calls.specs.Leaving.{Scope, NoBlock, OneBlock, WholeFile, new_mem, new_vm, scope_of, LeavesOthers, stale_of, counts_of, marks_of, HasCounts, HasMarks, NoneLocked, IsAskable, keeper_of, MapsBlock, MapsItem, Writes, LeavesFile, SameFile, IsLeft, RowsLeave}
use Rattle.geos_calls.proofs.Laws.{entry-other, change-shape}
use Rattle.geos_calls.proofs.Passing.{none-here}
use Rattle.geos_calls.proofs.HandleLists.{entry-each}
use Rattle.geos_calls.proofs.LegalGiven.{locks_of-given, is_marked-given, block_of-given}
use Rattle.geos_calls.proofs.NamedBlocks.{entry-gone, block_in_file, block_of-mapped, block_of-gone, locks_of-chunks, locks_of-set, marks-mapped, locks_of-mark, marked-set, still-listed}
use Rattle.geos_calls.proofs.Counted.{counts, marks, written, brought}

-- What refusals leave

-- of a commit that keeps a pair
commit-left : (call : KernelCall) (keeper : Keeper) → keeper_of call ≡ Some keeper → (choice : Choice) (memory : Memory) (why : Refusal)
    → IsLeft call choice why memory (left_by_commit choice memory (pair_to_keep keeper memory) why)
commit-left call keeper is choice memory refusal.Disk = by choice.unsure refl
  where
    new : Memory
    new = in_doubt memory (pair_to_keep keeper memory)

    doubt : IsSomeAnd (keeper_of call) (λ k. new ≡ in_doubt memory (pair_to_keep k memory))
    doubt = subst (λ o. IsSomeAnd o (λ k. new ≡ in_doubt memory (pair_to_keep k memory))) (sym is) refl

    by : (unsure : Bool) → choice.unsure ≡ unsure → IsLeft call choice refusal.Disk memory (if unsure then new else memory)
    by true late = inr (refl, late, doubt)
    by false late = inl refl
commit-left call keeper is choice memory why = inl refl

refused : (call : KernelCall) (choice : Choice) (memory : Memory) (why : Refusal) → IsLeft call choice why memory ((row call choice memory).left why)
refused (Changes name change) choice memory why = inl ((change-shape name change memory choice).2 why)
refused (ChangesItem g change) choice memory why = inl ((change-shape (vm g) change memory choice).2 why)
refused Vupdate choice memory why = commit-left Vupdate keep_current refl choice memory why
refused Vsave choice memory why = commit-left Vsave keep_saved refl choice memory why
refused Vrevert choice memory why = commit-left Vrevert keep_reverted refl choice memory why
refused call choice memory why = inl refl

-- that is memory as it was, or memory in doubt of a commit's pair
left-as : (call : KernelCall) (choice : Choice) (memory : Memory) (why : Refusal) (new : Memory) → IsLeft call choice why memory new
    → (new ≡ memory) ⊎ ((keeper : Keeper) × (keeper_of call ≡ Some keeper) × (new ≡ in_doubt memory (pair_to_keep keeper memory)))
left-as call choice memory why new (inl same) = inl same
left-as call choice memory why new (inr (device, late, is)) = inr (by (keeper_of call) is)
  where
    by : (o : Option Keeper) → IsSomeAnd o (λ k. new ≡ in_doubt memory (pair_to_keep k memory)) → (keeper : Keeper)
        × (o ≡ Some keeper) × (new ≡ in_doubt memory (pair_to_keep keeper memory))
    by None h = absurd h
    by (Some keeper) h = (keeper, refl, h)

-- What is made stale

stale : (call : KernelCall) (choice : Choice) (memory : Memory) → (row call choice memory).stale ≡ stale_of call memory
stale (Changes name change) choice memory = (change-shape name change memory choice).1
stale call choice memory = refl

-- What a call leaves of blocks that it is not on

same-others : (scope : Scope) (m : Memory) → LeavesOthers scope m m
same-others scope m = record { blocks = λ h out. refl; listed = λ h out. refl; region = refl; handles = refl }

then-others : (scope : Scope) (a b c : Memory) → LeavesOthers scope a b → LeavesOthers scope b c → LeavesOthers scope a c
then-others scope a b c x y = record {
  blocks = λ h out. y.blocks h out ∙ x.blocks h out;
  listed = λ h out. y.listed h out
      ∙ x.listed h out;
  region = y.region ∙ x.region;
  handles = y.handles ∙ x.handles;
}

owned-others : (m : Memory) (owner : Owner) (h : ℕ) (block : Option Block) → LeavesOthers (OneBlock (named owner h)) m
    (with_owned_block m owner h block)
owned-others m Mem h block = record {
  blocks = λ k out. entry-other None block m.blocks h k (λ e. out (ap mem (sym e)));
  listed =
      λ k out. refl;
  region = refl;
  handles = refl;
}
owned-others m Vm h block = record {
  blocks = λ k out. refl;
  listed = λ k out. entry-other None _ m.file.cur.blocks h k (λ e. out (ap vm (sym e)));
  region = refl;
  handles = refl;
}

-- a named block is written
block-others : (m : Memory) (name : Name) (block : Option Block) → LeavesOthers (OneBlock name) m (with_block m name block)
block-others m name block = owned-others m name.owner name.h block

-- what is listed under a handle is
listed-others : (m : Memory) (h : ℕ) (listed : Option VmBlock) → LeavesOthers (OneBlock (vm h)) m (with_listed m h listed)
listed-others m h listed = record {
  blocks = λ k out. refl;
  listed = λ k out. entry-other None listed m.file.cur.blocks h k
      (λ e. out (ap vm (sym e)));
  region = refl;
  handles = refl;
}

without-others : (m : Memory) (h : ℕ) → LeavesOthers (OneBlock (vm h)) m (without_listed m h)
without-others m h = record {
  blocks = λ k out. refl;
  listed = λ k out. entry-other None None m.file.cur.blocks h k
      (λ e. out (ap vm (sym e)));
  region = refl;
  handles = refl;
}

chunks-others : (m : Memory) (name : Name) (chunks : List (Option (List ℕ))) → LeavesOthers (OneBlock name) m (with_chunks m name chunks)
chunks-others m name chunks = block-others m name (option_map (rechunked_block chunks) (block_of m name))

locks-others : (m : Memory) (name : Name) (n : ℕ) → LeavesOthers (OneBlock name) m (with_locks m name n)
locks-others m name n = block-others m name (option_map (locked_block n) (block_of m name))

-- chunks of a group are changed, and it is marked
item-others : (m : Memory) (g : ℕ) (chunks : List (Option (List ℕ)))
    → LeavesOthers (OneBlock (vm g)) m (with_mark (with_chunks m (vm g) chunks) g true)
item-others m g chunks =
    let n = with_chunks m (vm g) chunks in
    then-others (OneBlock (vm g)) m n (with_mark n g true) (chunks-others m (vm g) chunks)
    (listed-others n g (option_map (marked_block true) (listed_at n g)))

commit-others : (m : Memory) (pair : Pair) → LeavesOthers WholeFile m (committed m pair)
commit-others m pair = record { blocks = λ h out. refl; listed = λ h out. absurd (out refl); region = refl; handles = refl }

done-others : (call : KernelCall) (choice : Choice) (memory : Memory) → LeavesOthers (scope_of call memory) memory (row call choice memory).after
done-others Mnew choice m = block-others m (new_mem m) (Some (record { locks = 1; heap = new_heap }))
done-others (Mlock h) choice m = locks-others m (mem h) (locks_of m (mem h) + 1)
done-others (Mfree h) choice m = block-others m (mem h) None
done-others (Unlock name) choice m = locks-others m name (locks_of m name - 1)
done-others (Changes name change) choice m =
    subst (LeavesOthers (OneBlock name) m) (sym (change-shape name change m choice).0)
    (chunks-others m name (change_edit change (chunks_at m name)).chunks)
done-others (Makes name make) choice m = chunks-others m name (make_edit make (chunks_at m name)).chunks
done-others (Store ref i bytes) choice m = chunks-others m ref.name _
done-others (Copy to from n) choice m = chunks-others m to.name _
done-others (Vnew uid) choice m = listed-others m (new_vm m).h (Some (new_listed uid 1))
done-others (LockListed h) choice m = locks-others m (vm h) (locks_of m (vm h) + 1)
done-others (Vlock h) choice m = locks-others m (vm h) (locks_of m (vm h) + 1)
done-others (Vdirty h) choice m = listed-others m h (option_map (marked_block true) (listed_at m h))
done-others (FreeListed h) choice m = without-others m h
done-others (Vfree h) choice m = without-others m h
done-others (Vsetmap h) choice m = record { blocks = λ k out. refl; listed = λ k out. refl; region = refl; handles = refl }
done-others Vupdate choice m = commit-others m (pair_to_keep keep_current m)
done-others Vsave choice m = commit-others m (pair_to_keep keep_saved m)
done-others Vrevert choice m = commit-others m (pair_to_keep keep_reverted m)
done-others Gnew choice m = listed-others m (new_vm m).h (Some (new_listed group_uid 0))
done-others (Gfree g) choice m = without-others m g
done-others (ChangesItem g change) choice m =
    subst (λ n. LeavesOthers (OneBlock (vm g)) m (with_mark n g true)) (sym (change-shape (vm g) change m choice).0)
    (item-others m g (change_edit change (chunks_at m (vm g))).chunks)
done-others (MakesItem g make) choice m = item-others m g (make_edit make (chunks_at m (vm g))).chunks
done-others (Ilock g i n) choice m = locks-others m (vm g) (locks_of m (vm g) + 1)
done-others (Isetmap g i) choice m = record { blocks = λ k out. refl; listed = λ k out. refl; region = refl; handles = refl }
done-others call choice m = same-others NoBlock m

left-others : (call : KernelCall) (choice : Choice) (why : Refusal) (old new : Memory) → IsLeft call choice why old new
    → LeavesOthers (scope_of call old) old new
left-others call choice why old new is = elim (left-as call choice old why new is) [
  | inl same ↦ subst (LeavesOthers (scope_of call old) old) (sym same) (same-others (scope_of call old) old)
  | inr (keeper, of, doubt) ↦ subst (LeavesOthers (scope_of call old) old) (sym doubt)
      (record { blocks = λ h out. refl; listed = λ h out. refl; region = refl; handles = refl })
]

others : (call : KernelCall) (choice : Choice) (memory : Memory) → LeavesOthers (scope_of call memory) memory (outcome (row call choice memory)).1
others call choice m = by (first_refusal (row call choice m).refusals)
  where
    by : (o : Option Refusal) → LeavesOthers (scope_of call m) m
        (come_to o (row call choice m).left (row call choice m).answer (row call choice m).after).1
    by None = done-others call choice m
    by (Some why) = left-others call choice why m ((row call choice m).left why) (refused call choice m why)

-- What a call leaves of the file beside its blocks

-- all of it
same-leaves : (call : KernelCall) (old new : Memory) → SameFile old new → LeavesFile call old new
same-leaves call old new same = record {
  map_block = λ no. same.map_block;
  map_group = λ no. same.map_group;
  map_item = λ no. same.map_item;
  saved = λ no. same.saved;
  kept = λ no. same.kept;
  area = same.area;
}

same-file : (m : Memory) → SameFile m m
same-file m = record { map_block = refl; map_group = refl; map_item = refl; saved = refl; kept = refl; area = refl }

owned-file : (m : Memory) (owner : Owner) (h : ℕ) (block : Option Block) → SameFile m (with_owned_block m owner h block)
owned-file m Mem h block = record { map_block = refl; map_group = refl; map_item = refl; saved = refl; kept = refl; area = refl }
owned-file m Vm h block = record { map_block = refl; map_group = refl; map_item = refl; saved = refl; kept = refl; area = refl }

block-file : (m : Memory) (name : Name) (block : Option Block) → SameFile m (with_block m name block)
block-file m name block = owned-file m name.owner name.h block

chunks-file : (m : Memory) (name : Name) (chunks : List (Option (List ℕ))) → SameFile m (with_chunks m name chunks)
chunks-file m name chunks = block-file m name (option_map (rechunked_block chunks) (block_of m name))

locks-file : (m : Memory) (name : Name) (n : ℕ) → SameFile m (with_locks m name n)
locks-file m name n = block-file m name (option_map (locked_block n) (block_of m name))

item-file : (m : Memory) (g : ℕ) (chunks : List (Option (List ℕ))) → SameFile m (with_mark (with_chunks m (vm g) chunks) g true)
item-file m g chunks = record { map_block = refl; map_group = refl; map_item = refl; saved = refl; kept = refl; area = refl }

-- a handle that does not go stays mapped
stays-mapped : (n h k : ℕ) → (n ≡ h → ⊥) → (if n == h then 0 else k) ≡ k
stays-mapped n h k other = rw (ne_eqb n h other) refl

freed-file : (call : KernelCall) (m : Memory) (h : ℕ) → ((MapsBlock call m → ⊥) → m.file.cur.map_block ≡ h → ⊥)
    → ((MapsItem call m → ⊥) → m.file.cur.map_group ≡ h → ⊥)
    → LeavesFile call m (without_listed m h)
freed-file call m h block item = record {
  map_block = λ no. stays-mapped m.file.cur.map_block h m.file.cur.map_block (block no);
  map_group = λ no. stays-mapped m.file.cur.map_group h m.file.cur.map_group (item no);
  map_item = λ no. stays-mapped m.file.cur.map_group h m.file.cur.map_item (item no);
  saved = λ no. refl;
  kept = λ no. refl;
  area = refl;
}

no-keeper : {keeper : Keeper} {X : Type 0} → Some keeper ≡ None → X
no-keeper {keeper} h = absurd (none-some keeper (sym h))

done-file : (call : KernelCall) (choice : Choice) (memory : Memory) → LeavesFile call memory (row call choice memory).after
done-file (Unlock name) choice m = same-leaves (Unlock name) m (with_locks m name (locks_of m name - 1)) (locks-file m name (locks_of m name - 1))
done-file (Changes name change) choice m =
    same-leaves (Changes name change) m (row (Changes name change) choice m).after
    (subst (SameFile m) (sym (change-shape name change m choice).0) (chunks-file m name (change_edit change (chunks_at m name)).chunks))
done-file (Makes name make) choice m = same-leaves (Makes name make) m _ (chunks-file m name (make_edit make (chunks_at m name)).chunks)
done-file (Store ref i bytes) choice m = same-leaves (Store ref i bytes) m _ (chunks-file m ref.name _)
done-file (Copy to from n) choice m = same-leaves (Copy to from n) m _ (chunks-file m to.name _)
done-file (FreeListed h) choice m = freed-file (FreeListed h) m h (λ no. no) (λ no. no)
done-file (Vfree h) choice m = freed-file (Vfree h) m h (λ no. no) (λ no. no)
done-file (Gfree g) choice m = freed-file (Gfree g) m g (λ no. no) (λ no. no)
done-file (Vsetmap h) choice m = record {
  map_block = λ no. absurd (no tt);
  map_group = λ no. refl;
  map_item =
      λ no. refl;
  saved = λ no. refl;
  kept = λ no. refl;
  area = refl;
}
done-file (Isetmap g i) choice m = record {
  map_block = λ no. refl;
  map_group = λ no. absurd (no tt);
  map_item =
      λ no. absurd (no tt);
  saved = λ no. refl;
  kept = λ no. refl;
  area = refl;
}
done-file Vupdate choice m = record {
  map_block = λ no. refl;
  map_group = λ no. refl;
  map_item = λ no. refl;
  saved =
      λ no. refl;
  kept = no-keeper;
  area = refl;
}
done-file Vsave choice m = record {
  map_block = λ no. refl;
  map_group = λ no. refl;
  map_item = λ no. refl;
  saved =
      λ no. absurd (no tt);
  kept = no-keeper;
  area = refl;
}
done-file Vrevert choice m = record {
  map_block = λ no. absurd (no tt);
  map_group = λ no. absurd (no tt);
  map_item =
      λ no. absurd (no tt);
  saved = λ no. refl;
  kept = no-keeper;
  area = refl;
}
done-file (ChangesItem g change) choice m =
    same-leaves (ChangesItem g change) m (row (ChangesItem g change) choice m).after
    (subst (λ n. SameFile m (with_mark n g true)) (sym (change-shape (vm g) change m choice).0)
    (item-file m g (change_edit change (chunks_at m (vm g))).chunks))
done-file call choice m = record {
  map_block = λ no. refl;
  map_group = λ no. refl;
  map_item = λ no. refl;
  saved =
      λ no. refl;
  kept = λ no. refl;
  area = refl;
}

left-file : (call : KernelCall) (choice : Choice) (why : Refusal) (old new : Memory) → IsLeft call choice why old new → LeavesFile call old new
left-file call choice why old new is = elim (left-as call choice old why new is) [
  | inl same ↦ subst (LeavesFile call old) (sym same) (same-leaves call old old (same-file old))
  | inr (keeper, of, doubt) ↦ subst (LeavesFile call old) (sym doubt) (record {
    map_block = λ no. refl;
    map_group = λ no. refl;
    map_item = λ no. refl;
    saved = λ no. refl;
    kept = λ none. no-keeper (sym of ∙ none);
    area = refl;
  })
]

file : (call : KernelCall) (choice : Choice) (memory : Memory) → LeavesFile call memory (outcome (row call choice memory)).1
file call choice m = by (first_refusal (row call choice m).refusals)
  where
    by : (o : Option Refusal) → LeavesFile call m (come_to o (row call choice m).left (row call choice m).answer (row call choice m).after).1
    by None = done-file call choice m
    by (Some why) = left-file call choice why m ((row call choice m).left why) (refused call choice m why)

pub rows_leave : RowsLeave
rows_leave = record {
  refused = refused;
  stale = stale;
  others = others;
  file = file;
  counts = counts;
  marks = marks;
  written = written;
  brought = brought;
  given_counts = locks_of-given;
  given_marks = is_marked-given;
  given_locked = block_of-given;
  given_file = λ given memory. record { map_block = refl; map_group = refl; map_item = refl; saved = refl; kept = refl; area = refl };
}
