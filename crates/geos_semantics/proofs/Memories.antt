-- What is in memory after blocks were locked, changed, made and freed.
use Rattle.std.proofs.Common.{◌≡◌, ℕ, zero, suc, ◌%◌, ◌≤◌, Bool, true, false, Option, Some, None, List, [], ◌∷◌, length, get_or, set, refl, sym, ap, ◌∙◌, subst, arith, inl, inr, ◌⊎◌}
use Rattle.std.specs.Prelude.{◌==◌, ◌&&◌, nat_le, cond, IsSome, is_none, option_map, position, sum_by, unwrap_or}
use Rattle.std.proofs.lemmas.Bool.{and_parts, eqb-true, eqb-false, eq-eqb}
use Rattle.std.proofs.lemmas.List.{get_or-set_same}
use Rattle.std.proofs.lemmas.List.Quantifiers.{position-Some}
use Rattle.std.proofs.lemmas.List.Sums.{sum_by-cons}
use Rattle.geos_terms.specs.declared.name.Name.{Name}
use Rattle.geos_terms.specs.declared.name.Owner.{Owner}
use Rattle.geos_terms.specs.declared.name.Owner.TheVariants.{Mem, Vm}
use Rattle.geos_terms.specs.Names.{mem}
use Rattle.geos_terms.specs.Chunks.{cost, cost_of, entry_of, chunk_of, with_bytes}
use Rattle.geos_calls.specs.Directories.{VmBlock, relisted}
use Rattle.geos_calls.specs.Handles.{lowest_of}
use Rattle.geos_calls.specs.Memory.{Block, Memory, listed_at, owned_block, with_owned_block, block_of, with_block, locks_in, chunks_in, locks_of, chunks_at, lowest_handle, locked_block, rechunked_block, with_locks, with_chunks}
use Rattle.geos_calls.specs.Legal.{IsMemory}
use Rattle.geos_terms.proofs.Costs.{cost-over}
use Rattle.geos_calls.proofs.Laws.{entry-other}
use Rattle.geos_calls.proofs.LegalBlocks.{chunks-need}
use Rattle.geos_calls.proofs.HandleLists.{allowed-some, none-is}
use Rattle.geos_calls.proofs.NamedBlocks.{told-mapped}
pub use Rattle.geos_calls.proofs.NamedBlocks.{block_of-mapped, block_of-gone, locks_of-chunks, locks_of-set}
use Rattle.geos_semantics.specs.State.{same_owner, same_name}

-- Names

same_owner-true : (o q : Owner) → same_owner o q ≡ true → o ≡ q
same_owner-true Mem Mem h = refl
same_owner-true Vm Vm h = refl
same_owner-true Mem Vm h = absurd cc
same_owner-true Vm Mem h = absurd cc

same_owner-refl : (o : Owner) → same_owner o o ≡ true
same_owner-refl Mem = refl
same_owner-refl Vm = refl

pub same_name-true : (name other : Name) → same_name name other ≡ true → name ≡ other
same_name-true name other h =
    let p = and_parts (same_owner name.owner other.owner) (name.h == other.h) h in
    rw (same_owner-true name.owner other.owner p.0, eqb-true name.h other.h p.1) refl

pub same_name-refl : (name : Name) → same_name name name ≡ true
same_name-refl name = rw (same_owner-refl name.owner, eq-eqb name.h name.h refl) refl

pub same_name-is : (name other : Name) → name ≡ other → same_name name other ≡ true
same_name-is name other e = rw e (same_name-refl other)

-- two names are one, or not
pub names : (name other : Name) → (same_name name other ≡ true) ⊎ (same_name name other ≡ false)
names name other = go (same_name name other)
  where
    go : (b : Bool) → (b ≡ true) ⊎ (b ≡ false)
    go true = inl refl
    go false = inr refl

-- Blocks under names

owned-other : (m : Memory) (o q : Owner) (h k : ℕ) (b : Option Block) → (same_owner o q && h == k) ≡ false
    → owned_block (with_owned_block m o h b) q k ≡ owned_block m q k
owned-other m Mem Mem h k b ne = entry-other None b m.blocks h k (λ e. eqb-false h k ne (sym e))
owned-other m Mem Vm h k b ne = refl
owned-other m Vm Mem h k b ne = refl
owned-other m Vm Vm h k b ne = ap (option_map (λ (l : VmBlock). l.block))
    (entry-other None (option_map (relisted (listed_at m h)) b) m.file.cur.blocks h k (λ e. eqb-false h k ne (sym e)))

-- a block under another name is as it was
pub block_of-other : (m : Memory) (name other : Name) (b : Option Block) → same_name name other ≡ false
    → block_of (with_block m name b) other ≡ block_of m other
block_of-other m name other b ne = owned-other m name.owner other.owner name.h other.h b ne

chunks-locked : (n : ℕ) (b : Option Block) → chunks_in (option_map (locked_block n) b) ≡ chunks_in b
chunks-locked n None = refl
chunks-locked n (Some b) = refl

-- Locking leaves the chunks of each block
pub chunks_at-locked : (m : Memory) (name other : Name) (n : ℕ) → chunks_at (with_locks m name n) other ≡ chunks_at m other
chunks_at-locked m name other n = told-mapped chunks_in m (locked_block n) (chunks-locked n) name other

pub chunks_at-other : (m : Memory) (name other : Name) (cs : List (Option (List ℕ))) → same_name name other ≡ false
    → chunks_at (with_chunks m name cs) other ≡ chunks_at m other
chunks_at-other m name other cs ne = ap chunks_in (block_of-other m name other (option_map (rechunked_block cs) (block_of m name)) ne)

chunks-set : (cs : List (Option (List ℕ))) (b : Option Block) → is_none b ≡ false → chunks_in (option_map (rechunked_block cs) b) ≡ cs
chunks-set cs None h = absurd cc
chunks-set cs (Some b) h = refl

pub chunks_at-same : (m : Memory) (name : Name) (cs : List (Option (List ℕ))) → is_none (block_of m name) ≡ false
    → chunks_at (with_chunks m name cs) name ≡ cs
chunks_at-same m name cs there = ap chunks_in (block_of-mapped m (rechunked_block cs) name) ∙ chunks-set cs (block_of m name) there

pub locks_of-other : (m : Memory) (name other : Name) (n : ℕ) → same_name name other ≡ false → locks_of (with_locks m name n) other ≡ locks_of m other
locks_of-other m name other n ne = ap locks_in (block_of-other m name other (option_map (locked_block n) (block_of m name)) ne)

-- The lowest free handle

-- it names no block, and a block that is put there is there
pub lowest-free : (m : Memory) (h : ℕ) (b : Option Block) → lowest_handle m Mem ≡ Some h → (block_of m (mem h) ≡ None)
    × (block_of (with_block m (mem h) b) (mem h) ≡ b)
lowest-free m h b e = go (position is_none m.blocks) refl (allowed-some m.handles (lowest_of m.blocks) h e)
  where
    go : (o : Option ℕ) → position is_none m.blocks ≡ o → option_map suc o ≡ Some h → (block_of m (mem h) ≡ None)
        × (block_of (with_block m (mem h) b) (mem h) ≡ b)
    go None p e = absurd cc
    go (Some k) p e =
        let found = position-Some is_none m.blocks k None p in
        let is : suc k ≡ h = cc in
        subst (λ n. (block_of m (mem n) ≡ None) × (block_of (with_block m (mem n) b) (mem n) ≡ b)) is
        (none-is (get_or m.blocks k None) found.1, get_or-set_same m.blocks k b None found.0)

-- it is within the list, or 0
pub lowest-within : {X : Type 0} (xs : List (Option X)) → unwrap_or (lowest_of xs) 0 ≤ length xs
lowest-within xs = go (position is_none xs) refl
  where
    go : (o : Option ℕ) → position is_none xs ≡ o → unwrap_or (option_map suc o) 0 ≤ length xs
    go None p = omega arith
    go (Some k) p = let found = position-Some is_none xs k None p in omega (arith, found.0)

pub lowest-small : (m : Memory) (h : ℕ) → lowest_handle m Mem ≡ Some h → h ≤ length m.blocks
lowest-small m h e =
    let is : unwrap_or (lowest_of m.blocks) 0 ≡ h = ap (λ o. unwrap_or o 0) (allowed-some m.handles (lowest_of m.blocks) h e) in
    omega (arith, lowest-within m.blocks, is)

-- Chunks

-- a chunk is shorter than its block can be
cost-in : (cs : List (Option (List ℕ))) (k : ℕ) → cost_of (get_or cs k None) ≤ sum_by cost_of cs
cost-in [] k = omega arith
cost-in (c ∷ cs) zero = omega (arith, sum_by-cons cost_of c cs)
cost-in (c ∷ cs) (suc k) = omega (arith, sum_by-cons cost_of c cs, cost-in cs k)

chunk-is : (b : Bool) (x : Option (List ℕ)) (bytes : List ℕ) → cond b x None ≡ Some bytes → x ≡ Some bytes
chunk-is true x bytes e = e
chunk-is false x bytes e = absurd cc

pub chunk-entry-is : (cs : List (Option (List ℕ))) (c : ℕ) (bytes : List ℕ) → chunk_of cs c ≡ Some bytes → get_or cs (entry_of c) None ≡ Some bytes
chunk-entry-is cs c bytes e = chunk-is (nat_le 16 c && (c % 2 == 0)) (get_or cs (entry_of c) None) bytes e

pub chunk-short : (m : Memory) (name : Name) (c : ℕ) (bytes : List ℕ) → IsMemory m → chunk_of (chunks_at m name) c ≡ Some bytes → length bytes ≤ 65520
chunk-short m name c bytes legal e =
    let cs = chunks_at m name in
    let entry = chunk-entry-is cs c bytes e in
    let whole = cost-in cs (entry_of c) in
    let same : cost_of (get_or cs (entry_of c) None) ≡ cost (length bytes) = ap cost_of entry in
    let fits = chunks-need m name legal in
    omega (arith, whole, same, cost-over (length bytes), fits)

-- an entry, after another chunk of the same length was put into an entry
set-found : (cs : List (Option (List ℕ))) (k j : ℕ) (new old bytes : List ℕ) → get_or cs k None ≡ Some old
    → length new ≡ length old → get_or cs j None ≡ Some bytes
    → (found : List ℕ) × (get_or (set cs k (Some new)) j None ≡ Some found) × (length found ≡ length bytes)
set-found [] k j new old bytes e same there = absurd cc
set-found (c ∷ cs) zero zero new old bytes e same there = (new, refl, same ∙ ap (λ (xs : List ℕ). length xs) (let s : old ≡ bytes = cc in s))
set-found (c ∷ cs) zero (suc j) new old bytes e same there = (bytes, there, refl)
set-found (c ∷ cs) (suc k) zero new old bytes e same there = (bytes, there, refl)
set-found (c ∷ cs) (suc k) (suc j) new old bytes e same there = set-found cs k j new old bytes e same there

chunk-if : (b : Bool) (x y : Option (List ℕ)) (bytes found : List ℕ) → cond b x None ≡ Some bytes → y ≡ Some found → cond b y None ≡ Some found
chunk-if true x y bytes found e f = f
chunk-if false x y bytes found e f = absurd cc

-- each chunk is there, and as long as it was, after another of the same length was put in place of one
pub chunk-kept : (cs : List (Option (List ℕ))) (c d : ℕ) (new old bytes : List ℕ) → chunk_of cs c ≡ Some old
    → length new ≡ length old → chunk_of cs d ≡ Some bytes
    → (found : List ℕ) × (chunk_of (with_bytes cs c new) d ≡ Some found) × (length found ≡ length bytes)
chunk-kept cs c d new old bytes e same there =
    let f = set-found cs (entry_of c) (entry_of d) new old bytes (chunk-entry-is cs c old e) same (chunk-entry-is cs d bytes there) in (
      f.0,
      chunk-if (nat_le 16 d && (d % 2 == 0)) (get_or cs (entry_of d) None) (get_or (set cs (entry_of c) (Some new)) (entry_of d) None)
          bytes f.0 there f.1,
      f.2,
    )

-- where one is there, the other is
pub some-of : {X : Type 0} (o q : Option X) → (is_none o ≡ false → is_none q ≡ false) → IsSome o → IsSome q
some-of None q k h = absurd cc
some-of (Some x) None k h = (let none = k refl in absurd cc)
some-of (Some x) (Some y) k h = refl

-- where one name is not the other, the other is not the one
pub names-apart : (name other : Name) → same_name name other ≡ false → same_name other name ≡ false
names-apart name other ne = elim (names other name) [
  | inl is ↦ (let back = same_name-is name other (sym (same_name-true other name is)) in let both : false ≡ true = sym ne ∙ back in absurd cc)
  | inr ne2 ↦ ne2
]
