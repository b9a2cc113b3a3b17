-- What calls on items of a group do to a state that is sound and as a row says.
use Rattle.std.proofs.Common.{◌≡◌, ℕ, Bool, true, false, Option, Some, None, List, get_or, refl, sym, ap, ◌∙◌, subst}
use Rattle.std.specs.Prelude.{◌==◌, cond, not, is_none, IsSome, option_map}
use Rattle.geos_terms.specs.declared.name.Name.{Name}
use Rattle.geos_terms.specs.declared.name.Owner.{Owner}
use Rattle.geos_terms.specs.declared.name.Owner.TheVariants.{Mem, Vm}
use Rattle.geos_terms.specs.Names.{vm, group_uid}
use Rattle.geos_calls.specs.Directories.{VmBlock, uid_in, is_marked_in, marked_block}
use Rattle.geos_calls.specs.Memory.{Memory, listed_at, with_listed, is_group, is_marked, with_mark, owned_block, block_of, chunks_in, rechunked_block, with_chunks}
use Rattle.geos_calls.specs.Legal.{IsMemory}
use Rattle.geos_calls.specs.Effects.{Nothing, InBlock}
use Rattle.geos_calls.specs.ItemCalls.{in_group}
use Rattle.geos_calls.proofs.HandleLists.{entry-told, entry-kept}
use Rattle.geos_calls.proofs.NamedBlocks.{block_in_file, locks_of-mark}
use Rattle.geos_image.specs.declared.instr.Instr.{Instr}
use Rattle.geos_image.specs.declared.row.Row.{Row}
use Rattle.geos_image.specs.declared.row.Pointer.{Pointer}
use Rattle.geos_opcodes.specs.declared.uses.Kind.TheVariants.{DbGroup}
use Rattle.geos_opcodes.specs.declared.uses.SlotUse.TheVariants.{MovesGroup}
use Rattle.geos_verify.specs.Rows.{alike, slot_state, holds_kind, pointers_kept, stale_where}
use Rattle.geos_semantics.specs.Lists.{Each2}
use Rattle.geos_semantics.specs.State.{Held, owner_of, name_of, SlotReference, State, slot, same_name, is_made_stale, kept_pointer, kept_pointers}
use Rattle.geos_semantics.specs.Faults.{is_unmarked_block}
use Rattle.geos_semantics.specs.Meets.{Base, Meets, Sound, PointerMeets, name_held, SlotIsSound, PointerIsSound}
use Rattle.geos_semantics.proofs.Memories.{same_name-true, chunks_at-other, locks_of-chunks, names-apart}
use Rattle.geos_semantics.proofs.Stays.{Stays, kind-from, stays-mapped, slots-left}
use Rattle.geos_semantics.proofs.Kept.{Leaves, sound-left, pointer-kept, each2-map}
use Rattle.geos_semantics.proofs.NoFaults.{kind-known, slot-sound}
use Rattle.geos_semantics.proofs.Apart.{held-apart}
use Rattle.geos_semantics.proofs.Fine.{Fine}

-- A block is marked

block-marked : (marked : Bool) (listed : Option VmBlock)
    → option_map block_in_file (option_map (marked_block marked) listed) ≡ option_map block_in_file listed
block-marked marked None = refl
block-marked marked (Some l) = refl

uid-marked : (marked : Bool) (listed : Option VmBlock) → uid_in (option_map (marked_block marked) listed) ≡ uid_in listed
uid-marked marked None = refl
uid-marked marked (Some l) = refl

module _ (m : Memory) (h : ℕ) (marked : Bool) where
  owned-mark : (o : Owner) (k : ℕ) → owned_block (with_mark m h marked) o k ≡ owned_block m o k
  owned-mark Mem k = refl
  owned-mark Vm k = entry-told (option_map block_in_file) m.file.cur.blocks h k (option_map (marked_block marked) (listed_at m h)) None
      (block-marked marked (listed_at m h))

  -- each block is as it was, except for its mark
  pub block_of-mark : (name : Name) → block_of (with_mark m h marked) name ≡ block_of m name
  block_of-mark name = owned-mark name.owner name.h

  pub groups-mark : (k : ℕ) → is_group (with_mark m h marked) k ≡ is_group m k
  groups-mark k = ap (λ u. u == group_uid)
      (entry-told uid_in m.file.cur.blocks h k (option_map (marked_block marked) (listed_at m h)) None (uid-marked marked (listed_at m h)))

-- one that was marked still is
marks-more : (m : Memory) (h k : ℕ) → not (is_marked m k) ≡ false → not (is_marked (with_mark m h true) k) ≡ false
marks-more m h k e = go (listed_at m h) refl
  where
    go : (listed : Option VmBlock) → listed_at m h ≡ listed → not (is_marked (with_listed m h (option_map (marked_block true) listed)) k) ≡ false
    go None is = ap not (entry-told is_marked_in m.file.cur.blocks h k None None (ap is_marked_in (sym is))) ∙ e
    go (Some l) is = entry-kept (λ x. not (is_marked_in x) ≡ false) m.file.cur.blocks h k (Some (marked_block true l)) None refl e

-- what slots know stays so where a block is marked
pub stays-marked : (m : Memory) (h : ℕ) (held : Held) → Stays m (with_mark m h true) held
stays-marked m h held = record {
  is = λ is. kind-from m (with_mark m h true) held.kind (name_of held) (λ there. ap is_none (block_of-mark m h true (name_of held)) ∙ there)
      (groups-mark m h true held.handle) is;
  mark = λ marked. of (owner_of held.kind) held.handle marked;
}
  where
    of : (o : Owner) (k : ℕ) → is_unmarked_block m o k ≡ false → is_unmarked_block (with_mark m h true) o k ≡ false
    of Mem k e = refl
    of Vm k e = marks-more m h k e

-- Items of a group are changed, and the group is marked

-- memory after that
abbrev pub with_items : Memory → ℕ → List (Option (List ℕ)) → Memory
with_items m g chunks = with_mark (with_chunks m (vm g) chunks) g true

stays-items : (m : Memory) (g : ℕ) (chunks : List (Option (List ℕ))) (held : Held) → Stays m (with_items m g chunks) held
stays-items m g chunks held =
    let first = stays-mapped m (rechunked_block chunks) (vm g) held in
    let second = stays-marked (with_chunks m (vm g) chunks) g held in
    record { is = λ h. second.is (first.is h); mark = λ h. second.mark (first.mark h) }

-- other items in a group leave what is not made stale
pub leaves-items : (a : ℕ) (m : Memory) (g : ℕ) (chunks : List (Option (List ℕ))) → is_group m g ≡ true
    → IsMemory (with_items m g chunks) → Leaves a (in_group m g) m (with_items m g chunks)
leaves-items a m g chunks group legal = record {
  legal = legal;
  locks = λ other. locks_of-mark (with_chunks m (vm g) chunks) g true other ∙ locks_of-chunks m (vm g) other chunks;
  held = λ held. stays-items m g chunks held;
  chunks = λ target fresh h.
      let other = target.reference.name in
      let apart : same_name other (vm g) ≡ false = subst (λ b. is_made_stale a (cond b (InBlock (vm g)) Nothing) target ≡ false) group fresh in
      let same = ap chunks_in (block_of-mark (with_chunks m (vm g) chunks) g true other)
      ∙ chunks_at-other m (vm g) other chunks (names-apart other (vm g) apart) in
      record { bytes = h.bytes; there = rw same h.there; fits = h.fits };
}

-- a group is a block
pub group-some : (listed : Option VmBlock) → (uid_in listed == group_uid) ≡ true → IsSome (option_map block_in_file listed)
group-some None h = absurd cc
group-some (Some l) h = refl

-- where a slot holds no group, what leads into its block leads into no group
not-in-group : (a : ℕ) (m : Memory) (g : ℕ) (o : Option Held) (target : SlotReference) → SlotIsSound m o → name_held o ≡ Some target.reference.name
    → alike (option_map (λ (held : Held). held.kind) o) (Some DbGroup) ≡ false → is_made_stale a (in_group m g) target ≡ false
not-in-group a m g o target is held unlike = by (is_group m g) refl
  where
    name : Name
    name = target.reference.name

    apart : is_group m g ≡ true → (b : Bool) → same_name name (vm g) ≡ b → b ≡ false
    apart group false e = refl
    apart group true e = absurd (held-apart m (Some (record { kind = DbGroup; handle = g; borrowed = false })) o
        (vm g) name (group-some (listed_at m g) group, group) is refl held (same_name-true name (vm g) e) unlike)

    by : (b : Bool) → is_group m g ≡ b → is_made_stale a (cond b (InBlock (vm g)) Nothing) target ≡ false
    by false group = refl
    by true group = apart group (same_name name (vm g)) refl

module _ (base : Base) (s : State) (row : Row) (S : Sound base s) (M : Meets s row) (i : Instr) (g : ℕ) where
  -- what is known of pointers after items of a group may have moved
  regrouped-pointers : Each2 PointerMeets (kept_pointers i.a (in_group s.memory g) s.pointers) (pointers_kept i MovesGroup row)
  regrouped-pointers = each2-map (PointerIsSound s.memory s.slots) PointerMeets PointerMeets (kept_pointer i.a (in_group s.memory g))
      (stale_where (λ b. holds_kind DbGroup (slot_state row b))) one s.pointers row.pointers S.pointers M.pointers
    where
      one : (p : Option SlotReference) (q : Option Pointer) → PointerIsSound s.memory s.slots p → PointerMeets p q
          → PointerMeets (kept_pointer i.a (in_group s.memory g) p) (stale_where (λ b. holds_kind DbGroup (slot_state row b)) q)
      one p q sound m =
          pointer-kept i.a (in_group s.memory g) (λ b. holds_kind DbGroup (slot_state row b)) p q
          (λ target is r known slot_is test.
          let here = subst (PointerIsSound s.memory s.slots) is sound in
          let held : name_held (slot s r.slot) ≡ Some target.reference.name =
          subst (λ k. name_held (get_or s.slots k None) ≡ Some target.reference.name) slot_is here.0 in
          not-in-group i.a s.memory g (slot s r.slot) target (slot-sound base s r.slot S) held
          (ap (λ kind. alike kind (Some DbGroup)) (kind-known s row r.slot M) ∙ test))
          m

  -- after a call that may have moved items of a group
  pub fine-regrouped : (new : Memory) → Leaves i.a (in_group s.memory g) s.memory new
      → Fine base s (record s { memory = new; pointers = kept_pointers i.a (in_group s.memory g) s.pointers })
      (record row { pointers = pointers_kept i MovesGroup row })
  fine-regrouped new L = record {
    sound = sound-left base s i.a (in_group s.memory g) new S L;
    meets = record {
      words = M.words;
      slots = slots-left s.memory new s.slots row.slots (λ k held e. L.held held) M.slots;
      pointers =
          regrouped-pointers;
      pairs = M.pairs;
    };
    routine = refl;
    stack = refl;
    counters = refl;
  }
