-- What slots know of blocks stays true, whatever changes in the rest of memory.
use Rattle.std.proofs.Common.{◌≡◌, ℕ, suc, true, false, Option, Some, None, List, [], ◌∷◌, get_or, refl, sym, ap, ◌∙◌, subst}
use Rattle.std.specs.Prelude.{◌==◌, not, IsSome, is_none, option_map}
use Rattle.geos_terms.specs.declared.name.Name.{Name}
use Rattle.geos_terms.specs.declared.name.Owner.{Owner}
use Rattle.geos_terms.specs.declared.name.Owner.TheVariants as owner
use Rattle.geos_terms.specs.Names.{named, mem, vm, group_uid}
use Rattle.geos_calls.specs.Directories.{VmBlock, uid_in, is_marked_in, relisted}
use Rattle.geos_calls.specs.Handles.{at_handle}
use Rattle.geos_calls.specs.Memory.{Block, Memory, listed_at, is_group, is_marked, owned_block, with_owned_block, block_of, with_block}
use Rattle.geos_calls.specs.Given.{given_memory}
use Rattle.geos_calls.specs.Leaving.{OneBlock, LeavesOthers}
use Rattle.geos_calls.proofs.HandleLists.{entry-told}
use Rattle.geos_calls.proofs.Laws.{entry-other}
use Rattle.geos_calls.proofs.LegalGiven.{listed-given, entry-told_given, there-given, is_marked-given}
use Rattle.geos_calls.proofs.NamedBlocks.{changed_in, relisted-changed, marks-mapped, told-mapped}
use Rattle.geos_image.specs.declared.row.SlotState.{SlotState}
use Rattle.geos_image.specs.declared.row.SlotState.TheVariants.{Vm, Db}
use Rattle.geos_opcodes.specs.declared.uses.Kind.{Kind}
use Rattle.geos_opcodes.specs.declared.uses.Kind.TheVariants as block
use Rattle.geos_verify.specs.Rows.{held_state}
use Rattle.geos_semantics.specs.Lists.{Each, Each2}
use Rattle.geos_semantics.specs.State.{Held, owner_of, name_of}
use Rattle.geos_semantics.specs.Faults.{is_unmarked_block, lacks_mark}
use Rattle.geos_semantics.specs.Meets.{SlotMeets, IsOfKind, SlotIsSound}
use Rattle.geos_semantics.proofs.Memories.{some-of}

-- a block that is there of a kind is still, and has its mark still, if it needs one
pub record Stays (old new : Memory) (held : Held) : Type 0 where
  pub is : IsOfKind old held.kind (name_of held) → IsOfKind new held.kind (name_of held)
  pub mark : lacks_mark old (name_of held) ≡ false → lacks_mark new (name_of held) ≡ false

-- nothing is done
pub stays-same : (m : Memory) (held : Held) → Stays m m held
stays-same m held = record { is = λ h. h; mark = λ h. h }

-- a block of whatever kind is a block
pub kind-some : (m : Memory) (kind : Kind) (name : Name) → IsOfKind m kind name → IsSome (block_of m name)
kind-some m block.MemBlock name h = h
kind-some m block.VmBlock name h = h.0
kind-some m block.DbGroup name h = h.0

some-there : {X : Type 0} (o : Option X) → IsSome o → is_none o ≡ false
some-there None h = absurd cc
some-there (Some x) h = refl

pub kind-there : (m : Memory) (kind : Kind) (name : Name) → IsOfKind m kind name → is_none (block_of m name) ≡ false
kind-there m kind name h = some-there (block_of m name) (kind-some m kind name h)

-- The block is there, a group where it was one, and marked where it was

pub kind-from : (old new : Memory) (kind : Kind) (name : Name) → (is_none (block_of old name) ≡ false → is_none (block_of new name) ≡ false)
    → is_group new name.h ≡ is_group old name.h
    → IsOfKind old kind name → IsOfKind new kind name
kind-from old new block.MemBlock name there group h = some-of (block_of old name) (block_of new name) there h
kind-from old new block.VmBlock name there group h = (some-of (block_of old name) (block_of new name) there h.0, group ∙ h.1)
kind-from old new block.DbGroup name there group h = (some-of (block_of old name) (block_of new name) there h.0, group ∙ h.1)

mark-from : (old new : Memory) (o : Owner) (h : ℕ) → is_marked new h ≡ is_marked old h → is_unmarked_block old o h ≡ false
    → is_unmarked_block new o h ≡ false
mark-from old new owner.Mem h same e = refl
mark-from old new owner.Vm h same e = ap not same ∙ e

pub stays-from : (old new : Memory) (held : Held) → (is_none (block_of old (name_of held)) ≡ false → is_none (block_of new (name_of held)) ≡ false)
    → is_group new held.handle ≡ is_group old held.handle → is_marked new held.handle ≡ is_marked old held.handle → Stays old new held
stays-from old new held there group mark = record {
  is = λ h. kind-from old new held.kind (name_of held) there group h;
  mark = λ h. mark-from old new (owner_of held.kind) held.handle mark h;
}

-- A block was changed in place

uid-changed : (f : Block → Block) (listed : Option VmBlock) → uid_in (option_map (changed_in f) listed) ≡ uid_in listed
uid-changed f None = refl
uid-changed f (Some l) = refl

owned-groups : (m : Memory) (f : Block → Block) (o : Owner) (h k : ℕ)
    → is_group (with_owned_block m o h (option_map f (owned_block m o h))) k ≡ is_group m k
owned-groups m f owner.Mem h k = refl
owned-groups m f owner.Vm h k =
    ap (λ u. u == group_uid)
    (entry-told uid_in m.file.cur.blocks h k (option_map (relisted (listed_at m h)) (option_map f (owned_block m owner.Vm h))) None
    (ap uid_in (relisted-changed f (listed_at m h)) ∙ uid-changed f (listed_at m h)))

some-mapped : (f : Block → Block) (b : Option Block) → is_none (option_map f b) ≡ is_none b
some-mapped f None = refl
some-mapped f (Some b) = refl

-- it and all others stay what they were
pub stays-mapped : (m : Memory) (f : Block → Block) (name : Name) (held : Held) → Stays m (with_block m name (option_map f (block_of m name))) held
stays-mapped m f name held =
    let new = with_block m name (option_map f (block_of m name)) in
    stays-from m new held (λ there. told-mapped is_none m f (some-mapped f) name (name_of held) ∙ there)
    (owned-groups m f name.owner name.h held.handle) (marks-mapped m f name held.handle)

-- What a device gives

uid-told : (x y : Option VmBlock) → option_map (λ (l : VmBlock). l.uid) x ≡ option_map (λ (l : VmBlock). l.uid) y → uid_in x ≡ uid_in y
uid-told None None same = refl
uid-told None (Some l) same = absurd cc
uid-told (Some k) None same = absurd cc
uid-told (Some k) (Some l) same = (let e : k.uid ≡ l.uid = cc in e)

is_group-given : (given : List (Option (List (Option (List ℕ))))) (m : Memory) (h : ℕ) → is_group (given_memory given m) h ≡ is_group m h
is_group-given given m h =
    ap (λ u. u == group_uid)
    (uid-told (listed_at (given_memory given m) h) (listed_at m h)
    (ap (option_map (λ (l : VmBlock). l.uid)) (listed-given given m.file.cur.blocks h)
    ∙ entry-told_given (λ (l : VmBlock). l.uid) (λ chunks listed. refl) (at_handle None given h) (at_handle None m.file.cur.blocks h)))

pub stays-given : (given : List (Option (List (Option (List ℕ))))) (m : Memory) (held : Held) → Stays m (given_memory given m) held
stays-given given m held =
    stays-from m (given_memory given m) held (λ there. there-given given m (name_of held) ∙ there)
    (is_group-given given m held.handle) (is_marked-given given m held.handle)

-- Blocks beside the one that a call is on

owned-others : (m : Memory) (o : Owner) (h : ℕ) (block : Option Block) → LeavesOthers (OneBlock (named o h)) m (with_owned_block m o h block)
owned-others m owner.Mem h block = record {
  blocks = λ k out. entry-other None block m.blocks h k (λ e. out (ap mem (sym e)));
  listed =
      λ k out. refl;
  region = refl;
  handles = refl;
}
owned-others m owner.Vm h block = record {
  blocks = λ k out. refl;
  listed = λ k out. entry-other None (option_map (relisted (listed_at m h)) block) m.file.cur.blocks h k (λ e. out (ap vm (sym e)));
  region = refl;
  handles = refl;
}

-- a named block is written
pub written-others : (m : Memory) (name : Name) (block : Option Block) → LeavesOthers (OneBlock name) m (with_block m name block)
written-others m name block = owned-others m name.owner name.h block

module _ (name : Name) (old new : Memory) (L : LeavesOthers (OneBlock name) old new) where
  owned-beside : (o : Owner) (h : ℕ) → (name ≡ named o h → ⊥) → owned_block new o h ≡ owned_block old o h
  owned-beside owner.Mem h out = L.blocks h out
  owned-beside owner.Vm h out = ap (option_map (λ (l : VmBlock). l.block)) (L.listed h out)

  -- another block is as it was
  pub block_of-beside : (other : Name) → (name ≡ other → ⊥) → block_of new other ≡ block_of old other
  block_of-beside other out = owned-beside other.owner other.h out

  group-beside : (h : ℕ) → (name ≡ vm h → ⊥) → is_group new h ≡ is_group old h
  group-beside h out = ap (λ l. uid_in l == group_uid) (L.listed h out)

  is-beside : (kind : Kind) (h : ℕ) → (name ≡ named (owner_of kind) h → ⊥) → IsOfKind old kind (named (owner_of kind) h)
      → IsOfKind new kind (named (owner_of kind) h)
  is-beside block.MemBlock h out k = subst (λ o. IsSome o) (sym (block_of-beside (mem h) out)) k
  is-beside block.VmBlock h out k = (subst (λ o. IsSome o) (sym (block_of-beside (vm h) out)) k.0, group-beside h out ∙ k.1)
  is-beside block.DbGroup h out k = (subst (λ o. IsSome o) (sym (block_of-beside (vm h) out)) k.0, group-beside h out ∙ k.1)

  mark-beside : (o : Owner) (h : ℕ) → (name ≡ named o h → ⊥) → is_unmarked_block old o h ≡ false → is_unmarked_block new o h ≡ false
  mark-beside owner.Mem h out e = refl
  mark-beside owner.Vm h out e = ap (λ l. not (is_marked_in l)) (L.listed h out) ∙ e

  pub stays-beside : (held : Held) → (name ≡ name_of held → ⊥) → Stays old new held
  stays-beside held out = record { is = λ h. is-beside held.kind held.handle out h; mark = λ h. mark-beside (owner_of held.kind) held.handle out h }

-- What slots hold, and what a row says of them

-- each block that a slot holds stays what it was
abbrev pub HeldStay : Memory → Memory → List (Option Held) → Type 0
HeldStay old new slots = (k : ℕ) (held : Held) → get_or slots k None ≡ Some held → Stays old new held

pub slots-sound : (old new : Memory) (slots : List (Option Held)) → HeldStay old new slots → Each (SlotIsSound old) slots
    → Each (SlotIsSound new) slots
slots-sound old new [] stay h = tt
slots-sound old new (None ∷ slots) stay h = (tt, slots-sound old new slots (λ k held e. stay (suc k) held e) h.1)
slots-sound old new (Some held ∷ slots) stay h = ((stay 0 held refl).is h.0, slots-sound old new slots (λ k other e. stay (suc k) other e) h.1)

slot-left : (old new : Memory) (o : Option Held) (x : SlotState) → ((held : Held) → o ≡ Some held → Stays old new held)
    → SlotMeets old o x → SlotMeets new o x
slot-left old new (Some held) (Vm marked borrowed) stay k = (k.0, k.1, λ is. (stay held refl).mark (k.2 is))
slot-left old new (Some held) (Db marked) stay k = (k.0, k.1, λ is. (stay held refl).mark (k.2 is))
slot-left old new _ _ stay k = k

pub slots-left : (old new : Memory) (slots : List (Option Held)) (states : List SlotState) → HeldStay old new slots
    → Each2 (SlotMeets old) slots states → Each2 (SlotMeets new) slots states
slots-left old new [] [] stay h = tt
slots-left old new [] (y ∷ ys) stay h = absurd h
slots-left old new (x ∷ xs) [] stay h = absurd h
slots-left old new (x ∷ xs) (y ∷ ys) stay h =
    (slot-left old new x y (λ held e. stay 0 held e) h.0, slots-left old new xs ys (λ k held e. stay (suc k) held e) h.1)

-- a block of a kind that is not borrowed is what a row says of a slot that holds one, of which no mark is known
pub meets-held : (m : Memory) (held : Held) → held.borrowed ≡ false → SlotMeets m (Some held) (held_state held.kind false)
meets-held m held own = by held.kind refl
  where
    by : (kind : Kind) → held.kind ≡ kind → SlotMeets m (Some held) (held_state kind false)
    by block.MemBlock e = (e, own)
    by block.VmBlock e = (e, own, λ is. absurd (let x : false ≡ true = is in cc))
    by block.DbGroup e = (e, own, λ is. absurd (let x : false ≡ true = is in cc))
