-- Named blocks after one was written, changed or marked.
use Rattle.std.proofs.Common.{◌≡◌, ℕ, zero, suc, Bool, true, false, Option, Some, None, List, length, get_or, set, refl, sym, ap, ◌∙◌, arith, inl, inr, length-set}
use Rattle.std.specs.Prelude.{is_none, option_map}
use Rattle.std.proofs.lemmas.Bool.{cases_lt}
use Rattle.std.proofs.lemmas.List.{get_or-set_same, get_or_past}
use Rattle.geos_terms.specs.declared.name.Owner.{Owner}
use Rattle.geos_terms.specs.declared.name.Owner.TheVariants.{Mem, Vm}
use Rattle.geos_terms.specs.declared.name.Name.{Name}
use Rattle.geos_terms.specs.Names.{vm}
use Rattle.geos_calls.specs.Directories.{VmBlock, is_marked_in, relisted, marked_block}
use Rattle.geos_calls.specs.Memory.{Block, Memory, at_handle, with_entry_at, listed_at, with_mark, is_marked, owned_block, with_owned_block, block_of, with_block, locks_in, locks_of, locked_block, rechunked_block, with_locks, with_chunks}
use Rattle.geos_calls.proofs.HandleLists.{entry-told}

-- Entries

-- an entry that was changed, where there is one
pub entry-mapped : {X : Type 0} (f : X → X) (xs : List (Option X)) (h : ℕ)
    → at_handle None (with_entry_at xs h (option_map f (at_handle None xs h))) h ≡ option_map f (at_handle None xs h)
entry-mapped f xs zero = refl
entry-mapped f xs (suc h) = elim (cases_lt h (length xs)) [
  | inl l ↦ get_or-set_same xs h (option_map f (get_or xs h None)) None l
  | inr l ↦ (
      let past : get_or (set xs h (option_map f (get_or xs h None))) h None ≡ None =
      get_or_past (set xs h (option_map f (get_or xs h None))) h None (let long = length-set xs h (option_map f (get_or xs h None)) in
      omega (arith, l, long)) in
      let none : option_map f (get_or xs h None) ≡ None = rw (get_or_past xs h None l) refl in
      past ∙ sym none
      )
]

-- one that was taken away
pub entry-gone : {X : Type 0} (xs : List (Option X)) (h : ℕ) → at_handle None (with_entry_at xs h None) h ≡ None
entry-gone xs zero = refl
entry-gone xs (suc h) = elim (cases_lt h (length xs)) [
  | inl l ↦ get_or-set_same xs h None None l
  | inr l ↦ get_or_past (set xs h None) h None (let long = length-set xs h None in omega (arith, l, long))
]

-- the block of a listed one
abbrev pub block_in_file : VmBlock → Block
block_in_file listed = listed.block

-- a listed block whose block was changed
abbrev pub changed_in : (Block → Block) → VmBlock → VmBlock
changed_in f listed = record listed { block = f listed.block }

pub relisted-changed : (f : Block → Block) (listed : Option VmBlock)
    → option_map (relisted listed) (option_map f (option_map block_in_file listed)) ≡ option_map (changed_in f) listed
relisted-changed f None = refl
relisted-changed f (Some l) = refl

block-changed : (f : Block → Block) (listed : Option VmBlock)
    → option_map block_in_file (option_map (changed_in f) listed) ≡ option_map f (option_map block_in_file listed)
block-changed f None = refl
block-changed f (Some l) = refl

-- Blocks of names

owned-mapped : (m : Memory) (f : Block → Block) (o : Owner) (h : ℕ)
    → owned_block (with_owned_block m o h (option_map f (owned_block m o h))) o h ≡ option_map f (owned_block m o h)
owned-mapped m f Mem h = entry-mapped f m.blocks h
owned-mapped m f Vm h =
    let entries = m.file.cur.blocks in
    ap (λ e. option_map block_in_file (at_handle None (with_entry_at entries h e) h)) (relisted-changed f (listed_at m h))
    ∙ ap (option_map block_in_file) (entry-mapped (changed_in f) entries h)
    ∙ block-changed f (listed_at m h)

-- a block that was changed, where there is one
pub block_of-mapped : (m : Memory) (f : Block → Block) (name : Name)
    → block_of (with_block m name (option_map f (block_of m name))) name ≡ option_map f (block_of m name)
block_of-mapped m f name = owned-mapped m f name.owner name.h

owned-gone : (m : Memory) (o : Owner) (h : ℕ) → owned_block (with_owned_block m o h None) o h ≡ None
owned-gone m Mem h = entry-gone m.blocks h
owned-gone m Vm h = ap (option_map block_in_file) (entry-gone m.file.cur.blocks h)

-- a block that was taken away
pub block_of-gone : (m : Memory) (name : Name) → block_of (with_block m name None) name ≡ None
block_of-gone m name = owned-gone m name.owner name.h

-- a function of blocks that a change preserves has the same value for every block after it
module _ {X : Type 0} (g : Option Block → X) (m : Memory) (f : Block → Block) (same : (b : Option Block) → g (option_map f b) ≡ g b) where
  listed-told : (listed : Option VmBlock)
      → g (option_map block_in_file (option_map (relisted listed) (option_map f (option_map block_in_file listed)))) ≡ g
      (option_map block_in_file listed)
  listed-told listed = ap (λ e. g (option_map block_in_file e)) (relisted-changed f listed) ∙ ap g (block-changed f listed)
      ∙ same (option_map block_in_file listed)

  owned-told : (o q : Owner) (h k : ℕ) → g (owned_block (with_owned_block m o h (option_map f (owned_block m o h))) q k) ≡ g (owned_block m q k)
  owned-told Mem Mem h k = entry-told g m.blocks h k (option_map f (at_handle None m.blocks h)) None (same (at_handle None m.blocks h))
  owned-told Mem Vm h k = refl
  owned-told Vm Mem h k = refl
  owned-told Vm Vm h k = entry-told (λ e. g (option_map block_in_file e)) m.file.cur.blocks h k
      (option_map (relisted (listed_at m h)) (option_map f (owned_block m Vm h))) None (listed-told (listed_at m h))

  pub told-mapped : (name other : Name) → g (block_of (with_block m name (option_map f (block_of m name))) other) ≡ g (block_of m other)
  told-mapped name other = owned-told name.owner other.owner name.h other.h

-- Counts and marks

locks-rechunked : (cs : List (Option (List ℕ))) (b : Option Block) → locks_in (option_map (rechunked_block cs) b) ≡ locks_in b
locks-rechunked cs None = refl
locks-rechunked cs (Some b) = refl

pub locks_of-chunks : (m : Memory) (name other : Name) (cs : List (Option (List ℕ))) → locks_of (with_chunks m name cs) other ≡ locks_of m other
locks_of-chunks m name other cs = told-mapped locks_in m (rechunked_block cs) (locks-rechunked cs) name other

locks-set : (n : ℕ) (b : Option Block) → is_none b ≡ false → locks_in (option_map (locked_block n) b) ≡ n
locks-set n None h = absurd (let x : true ≡ false = h in cc)
locks-set n (Some b) h = refl

-- the count of a block that is there
pub locks_of-set : (m : Memory) (name : Name) (n : ℕ) → is_none (block_of m name) ≡ false → locks_of (with_locks m name n) name ≡ n
locks_of-set m name n there = ap locks_in (block_of-mapped m (locked_block n) name) ∙ locks-set n (block_of m name) there

marked-relisted : (f : Block → Block) (listed : Option VmBlock) → is_marked_in (option_map (changed_in f) listed) ≡ is_marked_in listed
marked-relisted f None = refl
marked-relisted f (Some l) = refl

owned-marks : (m : Memory) (f : Block → Block) (o : Owner) (h k : ℕ)
    → is_marked (with_owned_block m o h (option_map f (owned_block m o h))) k ≡ is_marked m k
owned-marks m f Mem h k = refl
owned-marks m f Vm h k =
    entry-told is_marked_in m.file.cur.blocks h k (option_map (relisted (listed_at m h)) (option_map f (owned_block m Vm h))) None
    (ap is_marked_in (relisted-changed f (listed_at m h)) ∙ marked-relisted f (listed_at m h))

-- a block that is changed keeps its mark
pub marks-mapped : (m : Memory) (f : Block → Block) (name : Name) (k : ℕ)
    → is_marked (with_block m name (option_map f (block_of m name))) k ≡ is_marked m k
marks-mapped m f name k = owned-marks m f name.owner name.h k

locks-marked : (marked : Bool) (listed : Option VmBlock)
    → locks_in (option_map block_in_file (option_map (marked_block marked) listed)) ≡ locks_in (option_map block_in_file listed)
locks-marked marked None = refl
locks-marked marked (Some l) = refl

-- one that is marked keeps its count
pub locks_of-mark : (m : Memory) (h : ℕ) (marked : Bool) (other : Name) → locks_of (with_mark m h marked) other ≡ locks_of m other
locks_of-mark m h marked other = owned other.owner other.h
  where
    owned : (q : Owner) (k : ℕ) → locks_in (owned_block (with_mark m h marked) q k) ≡ locks_in (owned_block m q k)
    owned Mem k = refl
    owned Vm k = entry-told (λ e. locks_in (option_map block_in_file e)) m.file.cur.blocks h k
        (option_map (marked_block marked) (listed_at m h)) None (locks-marked marked (listed_at m h))

is-marked : (marked : Bool) (listed : Option VmBlock) → is_none listed ≡ false → is_marked_in (option_map (marked_block marked) listed) ≡ marked
is-marked marked None h = absurd (let x : true ≡ false = h in cc)
is-marked marked (Some l) h = refl

-- the mark of a block that is listed
pub marked-set : (m : Memory) (h : ℕ) (marked : Bool) → is_none (listed_at m h) ≡ false → is_marked (with_mark m h marked) h ≡ marked
marked-set m h marked there = ap is_marked_in (entry-mapped (marked_block marked) m.file.cur.blocks h) ∙ is-marked marked (listed_at m h) there

-- a block that is changed is listed where it was
some-relisted : (f : Block → Block) (listed : Option VmBlock) → is_none (option_map (changed_in f) listed) ≡ is_none listed
some-relisted f None = refl
some-relisted f (Some l) = refl

pub still-listed : (m : Memory) (h : ℕ) (f : Block → Block) → is_none (listed_at m h) ≡ false
    → is_none (listed_at (with_block m (vm h) (option_map f (block_of m (vm h)))) h) ≡ false
still-listed m h f there =
    let entries = m.file.cur.blocks in
    entry-told is_none entries h h (option_map (relisted (listed_at m h)) (option_map f (option_map block_in_file (listed_at m h)))) None
    (ap is_none (relisted-changed f (listed_at m h)) ∙ some-relisted f (listed_at m h)) ∙ there
