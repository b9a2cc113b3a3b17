-- Laws of directories: what is found under a handle, and which entries may follow one another.
use Rattle.std.proofs.Common.{◌≡◌, ◌≢◌, ◌∙◌, ℕ, ◌%◌, ◌<◌, ◌≤◌, Bool, true, false, ◌&&◌, cond, List, [], ◌∷◌, ◌++◌, map, Option, Some, None, refl, ap, subst, arith}
use Rattle.std.specs.Prelude.{IsSomeAnd, unwrap_or}
use Rattle.std.specs.List.{find}
use Rattle.std.proofs.Math.Dec.{eqb, leb, ltb}
use Rattle.std.proofs.lemmas.Bool.{eqb-true, eq-eqb, ne_eqb}
use borrow.Author.Tests.{ltb-true}
use Rattle.geos_terms.specs.Heap.{IsBlockSize, is_block_size}
use Rattle.vm_file.specs.declared.directory.Directory.{Directory}
use Rattle.vm_file.specs.declared.directory.Entry.{Entry}
use Rattle.vm_file.specs.declared.error.CommitError.{CommitError}
use Rattle.vm_file.specs.declared.error.CommitError.TheVariants.{Unsure, TooBig, Memory, Disk}
use Rattle.vm_file.specs.Committing.{IsAfter, block_from}
use Rattle.vm_file.specs.Contents.{Block}
use Rattle.vm_file.specs.Directories.{AreMaps, are_entries, is_directory, is_entry, may_be_map_block, may_be_map_group, may_be_map_item}
use Rattle.vm_file.specs.State.{FileState, HasBlock, bytes_of_block}
use Rattle.geos_terms.proofs.HeapTests.{and-true, both}
use Rattle.vm_file.proofs.ReadLaws.{leb-le}

pub block_size : (size : ℕ) → is_block_size size ≡ true → IsBlockSize size
block_size size legal =
    let a = both (leb 64 size && leb size 65520) (eqb (size % 16) 0) legal in
    let b = both (leb 64 size) (leb size 65520) a.0 in
    (leb-le 64 size b.0, leb-le size 65520 b.1, eqb-true (size % 16) 0 a.1)

-- a directory is legal where its entries ascend and its maps are legal
pub record IsLegal (d : Directory) : Type 0 where
  pub entries : are_entries 0 d.entries.items ≡ true
  pub maps : AreMaps d.entries.items d.map_block d.map_item.0 d.map_item.1

pub legal_from : (d : Directory) → is_directory d ≡ true → IsLegal d
legal_from d legal =
    let es = d.entries.items in
    let a = both (are_entries 0 es && may_be_map_block es d.map_block && may_be_map_group es d.map_item.0)
    (may_be_map_item d.map_item.0 d.map_item.1) legal in
    let b = both (are_entries 0 es && may_be_map_block es d.map_block) (may_be_map_group es d.map_item.0) a.0 in
    let c = both (are_entries 0 es) (may_be_map_block es d.map_block) b.0 in
    record { entries = c.0; maps = (c.1, b.1, a.1) }

pub legal_to : (d : Directory) → IsLegal d → is_directory d ≡ true
legal_to d legal = and-true _ _ (and-true _ _ (and-true _ _ legal.entries legal.maps.0) legal.maps.1) legal.maps.2

-- an entry after an entry with this handle
pub record IsBehind (last : ℕ) (e : Entry) : Type 0 where
  pub above : last < e.h
  pub most : e.h ≤ 1024
  pub size : IsBlockSize e.len

pub behind_from : (last : ℕ) (e : Entry) → is_entry last e ≡ true → IsBehind last e
behind_from last e legal =
    let a = both (ltb last e.h && leb e.h 1024) (is_block_size e.len) legal in
    let b = both (ltb last e.h) (leb e.h 1024) a.0 in
    record { above = ltb-true last e.h b.0; most = leb-le e.h 1024 b.1; size = block_size e.len a.1 }

-- what is found under a handle is an entry with this handle
pub found_entry : (es : List Entry) (last h : ℕ) (e : Entry) → are_entries last es ≡ true → find (λ x. eqb x.h h) es ≡ Some e
    → (e.h ≡ h) × IsBehind last e
found_entry [] last h e legal found = absurd cc
found_entry (x ∷ es) last h e legal found =
    let s = both (is_entry last x) (are_entries x.h es) legal in
    let here = behind_from last x s.0 in
    on (eqb x.h h) refl here (λ rest. further here (found_entry es x.h h e s.1 rest)) found
  where
    further : IsBehind last x → (e.h ≡ h) × IsBehind x.h e → (e.h ≡ h) × IsBehind last e
    further here there = (let a = here.above in let b = there.1.above in
        (there.0, record { above = omega (arith, a, b); most = there.1.most; size = there.1.size }))

    on : (b : Bool) → eqb x.h h ≡ b → IsBehind last x → (find (λ y. eqb y.h h) es ≡ Some e → (e.h ≡ h) × IsBehind last e)
        → cond b (Some x) (find (λ y. eqb y.h h) es) ≡ Some e → (e.h ≡ h) × IsBehind last e
    on true is here more same = (let q : x ≡ e = cc in subst (λ y. (y.h ≡ h) × IsBehind last y) q (eqb-true x.h h is, here))
    on false is here more rest = more rest

-- a block that a legal directory has is of a legal size
pub has_size : (d : Directory) (h len : ℕ) → is_directory d ≡ true → HasBlock d h len → IsBlockSize len
has_size d h len legal has = by (find (λ x. eqb x.h h) d.entries.items) refl has
  where
    by : (o : Option Entry) → find (λ x. eqb x.h h) d.entries.items ≡ o → IsSomeAnd o (λ x. x.len ≡ len) → IsBlockSize len
    by None is has = absurd has
    by (Some e) is has = subst IsBlockSize has (found_entry d.entries.items 0 h e (legal_from d legal).entries is).1.size

-- entries with other handles do not count for what is found
abbrev pub HasNone : ℕ → List Entry → Type 0
HasNone h [] = Unit {0}
HasNone h (e ∷ entries) = (e.h ≢ h) × HasNone h entries

pub find_behind : (h : ℕ) (front es : List Entry) → HasNone h front → find (λ x. eqb x.h h) (front ++ es) ≡ find (λ x. eqb x.h h) es
find_behind h [] es none = refl
find_behind h (e ∷ front) es none = ap (λ b. cond b (Some e) (find (λ x. eqb x.h h) (front ++ es))) (ne_eqb e.h h none.0)
    ∙ find_behind h front es none.1

pub find_here : (e : Entry) (es : List Entry) → find (λ x. eqb x.h e.h) (e ∷ es) ≡ Some e
find_here e es = ap (λ b. cond b (Some e) (find (λ x. eqb x.h e.h) es)) (eq-eqb e.h e.h refl)

-- entries after an entry with a higher handle have other handles
pub none_below : (es : List Entry) (last h : ℕ) → are_entries last es ≡ true → h ≤ last → HasNone h es
none_below [] last h legal low = tt
none_below (e ∷ es) last h legal low =
    let s = both (is_entry last e) (are_entries e.h es) legal in
    let above = (behind_from last e s.0).above in
    ((λ q. omega (arith, above, low, q)), none_below es e.h h s.1 (omega (arith, above, low)))

-- the bytes of a listed block: the resident bytes if there are any, otherwise the committed ones
pub bytes_found : (resident : ℕ → Option (List ℕ)) (kept : List Block) (es : List Entry) (h : ℕ) (e : Entry) → find (λ x. eqb x.h h) es ≡ Some e →
    bytes_of_block (map (block_from resident kept) es) h ≡ unwrap_or (resident h) (bytes_of_block kept h)
bytes_found resident kept [] h e found = absurd cc
bytes_found resident kept (x ∷ es) h e found = on (eqb x.h h) refl (bytes_found resident kept es h e) found
  where
    on : (b : Bool) → eqb x.h h ≡ b
        → (find (λ y. eqb y.h h) es ≡ Some e → bytes_of_block (map (block_from resident kept) es) h ≡ unwrap_or (resident h) (bytes_of_block kept h))
        →
        cond b (Some x) (find (λ y. eqb y.h h) es) ≡ Some e → cond (eqb x.h h) (unwrap_or (resident x.h) (bytes_of_block kept x.h))
        (bytes_of_block (map (block_from resident kept) es) h) ≡ unwrap_or (resident h) (bytes_of_block kept h)
    on true is more same = ap (λ b. cond b (unwrap_or (resident x.h) (bytes_of_block kept x.h))
        (bytes_of_block (map (block_from resident kept) es) h)) is ∙ ap (λ k. unwrap_or (resident k) (bytes_of_block kept k)) (eqb-true x.h h is)
    on false is more behind = ap (λ b. cond b (unwrap_or (resident x.h) (bytes_of_block kept x.h))
        (bytes_of_block (map (block_from resident kept) es) h)) is ∙ more behind

-- the handle of the last of these entries, or the one before them
abbrev pub last_handle : ℕ → List Entry → ℕ
last_handle last [] = last
last_handle last (e ∷ entries) = last_handle e.h entries

-- further entries after the last one
pub entries_append : (es more : List Entry) (last : ℕ) → are_entries last es ≡ true → are_entries (last_handle last es) more ≡ true
    → are_entries last (es ++ more) ≡ true
entries_append [] more last legal behind = behind
entries_append (e ∷ es) more last legal behind = (let s = both (is_entry last e) (are_entries e.h es) legal in
    and-true _ _ s.0 (entries_append es more e.h s.1 behind))

-- a commit that is refused leaves both directories
pub after_current : {D : Type 0} (e : CommitError) (old new : FileState D) → IsAfter e old new → new.current ≡ old.current
after_current Unsure old new is = ap (λ f. f.current) is
after_current TooBig old new is = ap (λ f. f.current) is
after_current Memory old new is = ap (λ f. f.current) is
after_current Disk old new is = ap (λ f. f.current) is
