-- Blocks read one after the other, and a directory.
use Rattle.std.proofs.Common.{◌≡◌, ℕ, suc, ◌+◌, ◌-◌, ◌<◌, ◌≤◌, List, [], ◌∷◌, ◌++◌, length, drop, map, Result, Ok, Err, refl, ap, sym, ◌∙◌, subst, arith}
use Rattle.std.specs.Prelude.{IsOkAnd}
use Rattle.vm_file.specs.declared.directory.Entry.{Entry}
use Rattle.vm_file.specs.declared.directory.Directory.{Directory}
use Rattle.vm_file.specs.declared.error.OpenError.{OpenError}
use Rattle.vm_file.specs.declared.error.OpenError.TheVariants.{BadFile, Disk, Memory}
use Rattle.vm_file.specs.Directories.{entries_length}
use Rattle.vm_file.specs.Contents.{Block, Contents, entry_of, listed}
use Rattle.vm_file.specs.Outcomes.{Tells}
use Rattle.vm_file.specs.Reading.{◌>>=◌, block_at, blocks_at, count_at, maps_at, contents_at}
use Rattle.vm_file.proofs.Lengths.{stretch, drop-stretch}
use Rattle.vm_file.proofs.SpellLaws.{goes}
use Rattle.vm_file.proofs.ReadSteps.{with_front, blocks_more, blocks_stop, stops}

-- reading all entries returns what was read so far, followed by what is read from here on
abbrev pub Told : List ℕ → ℕ → ℕ → ℕ → ℕ → ℕ → ℕ → List Entry → Type 0
Told image at end count counter last from items =
    (front : List Block) × (map entry_of front ≡ items)
    × (blocks_at count 0 at (stretch image at end) ≡ with_front front (blocks_at (count - counter) last from (stretch image from end)))

map-push : (xs : List Block) (b : Block) → map entry_of (xs ++ b ∷ []) ≡ map entry_of xs ++ entry_of b ∷ []
map-push [] b = refl
map-push (x ∷ xs) b = ap (λ ys. entry_of x ∷ ys) (map-push xs b)

pub told_more : (image : List ℕ) (at end count counter last from : ℕ) (items : List Entry) (e : Entry) → counter < count
    → from + (6 + e.len) ≤ end → Told image at end count counter last from items →
    IsOkAnd (block_at last from (stretch image from end)) (λ b. entry_of b ≡ e)
    → Told image at end count (counter + 1) e.h (from + (6 + e.len)) (items ++ e ∷ [])
told_more image at end count counter last from items e more fits told read = by (block_at last from (stretch image from end)) refl read
  where
    by : (r : Result Block ℕ) → block_at last from (stretch image from end) ≡ r → IsOkAnd r (λ b. entry_of b ≡ e)
        → Told image at end count (counter + 1) e.h (from + (6 + e.len)) (items ++ e ∷ [])
    by (Err f) is h = absurd h
    by (Ok b) is h =
        let left : count - counter ≡ suc (count - (counter + 1)) = omega arith in
        let s = stretch image from end in
        let handle : b.h ≡ e.h = ap (λ x. x.h) h in
        let len : length b.bytes ≡ e.len = ap (λ x. x.len) h in
        let front = told.0 in (
          front ++ b ∷ [],
          map-push front b ∙ ap (λ x. map entry_of front ++ x ∷ []) h ∙ ap (λ xs. xs ++ e ∷ []) told.1,
          told.2 ∙ ap (λ n. with_front front (blocks_at n last from s)) left ∙ blocks_more (count - (counter + 1)) last from s front b is
              ∙ ap (λ x. with_front (front ++ b ∷ []) (blocks_at (count - (counter + 1)) x (from + (6 + length b.bytes))
              (drop (6 + length b.bytes) s))) handle
              ∙ ap (λ x. with_front (front ++ b ∷ []) (blocks_at (count - (counter + 1)) e.h (from + (6 + x)) (drop (6 + x) s))) len
              ∙ ap (λ x. with_front (front ++ b ∷ []) (blocks_at (count - (counter + 1)) e.h (from + (6 + e.len)) x))
              (drop-stretch image from end (6 + e.len) fits),
        )

pub told_stop : (image : List ℕ) (at end count counter last from : ℕ) (items : List Entry) (error : OpenError)
    → counter < count → Told image at end count counter last from items →
    Tells entry_of (let r : Result Entry OpenError = Err error in r) (block_at last from (stretch image from end)) →
    Tells (map entry_of) (let r : Result (List Entry) OpenError = Err error in r) (blocks_at count 0 at (stretch image at end))
told_stop image at end count counter last from items (BadFile f) more told is =
    let left : count - counter ≡ suc (count - (counter + 1)) = omega arith in
    told.2 ∙ ap (λ n. with_front told.0 (blocks_at n last from (stretch image from end))) left
    ∙ blocks_stop (count - (counter + 1)) last from f (stretch image from end) told.0 is
told_stop image at end count counter last from items Disk more told is = tt
told_stop image at end count counter last from items Memory more told is = tt

-- a directory of which the count, the blocks or the maps were not read
pub contents_stop : (at f : ℕ) (xs : List ℕ) → count_at at xs ≡ Err f → contents_at at xs ≡ Err f
unfolding contents_at
contents_stop at f xs is = stops _ _ f is

pub contents_stop_any : (at : ℕ) (xs : List ℕ) (error : OpenError) → Tells (λ n. n) (let r : Result ℕ OpenError = Err error in r) (count_at at xs)
    → Tells listed (let r : Result Directory OpenError = Err error in r) (contents_at at xs)
contents_stop_any at xs (BadFile f) is = contents_stop at f xs is
contents_stop_any at xs Disk is = tt
contents_stop_any at xs Memory is = tt

-- what was read, and nothing else
pub ok_only : {A : Type 0} (r : Result A ℕ) (x : A) → IsOkAnd r (λ y. y ≡ x) → r ≡ Ok x
ok_only (Ok y) x e = ap (λ z. let w : Result _ ℕ = Ok z in w) e
ok_only (Err at) x e = absurd e

pub contents_stop_blocks : (at n : ℕ) (xs : List ℕ) (error : OpenError) → count_at at xs ≡ Ok n →
    Tells (map entry_of) (let r : Result (List Entry) OpenError = Err error in r) (blocks_at n 0 (at + 2) (drop 2 xs)) →
    Tells listed (let r : Result Directory OpenError = Err error in r) (contents_at at xs)
unfolding contents_at
contents_stop_blocks at n xs (BadFile f) is stop = goes _ n _ _ is (stops _ _ f stop)
contents_stop_blocks at n xs Disk is stop = tt
contents_stop_blocks at n xs Memory is stop = tt

pub contents_stop_maps : (at n f : ℕ) (xs : List ℕ) (items : List Entry) → count_at at xs ≡ Ok n
    → IsOkAnd (blocks_at n 0 (at + 2) (drop 2 xs)) (λ bs. map entry_of bs ≡ items) →
    maps_at items (at + 2 + entries_length items) (drop (2 + entries_length items) xs) ≡ Err f → contents_at at xs ≡ Err f
unfolding contents_at
contents_stop_maps at n f xs items is read stop = goes _ n _ _ is (by (blocks_at n 0 (at + 2) (drop 2 xs)) read)
  where
    by : (r : Result (List Block) ℕ) → IsOkAnd r (λ bs. map entry_of bs ≡ items)
        → (r >>= λ blocks. maps_at (map entry_of blocks) (at + 2 + entries_length (map entry_of blocks))
        (drop (2 + entries_length (map entry_of blocks)) xs) >>= λ maps. Ok
        (let c : Contents = record { blocks = blocks; map_block = maps.0; map_item = maps.1 } in c)) ≡ Err f
    by (Err g) h = absurd h
    by (Ok bs) h = stops _ _ f (ap (λ es. maps_at es (at + 2 + entries_length es) (drop (2 + entries_length es) xs)) h ∙ stop)

pub contents_stop_maps_any : (at n : ℕ) (xs : List ℕ) (items : List Entry) (error : OpenError) → count_at at xs ≡ Ok n
    → IsOkAnd (blocks_at n 0 (at + 2) (drop 2 xs)) (λ bs. map entry_of bs ≡ items) →
    (r : Result (ℕ × (ℕ × ℕ)) ℕ) → Tells (λ m. m) (let e : Result (ℕ × (ℕ × ℕ)) OpenError = Err error in e) r
    → maps_at items (at + 2 + entries_length items) (drop (2 + entries_length items) xs) ≡ r →
    Tells listed (let e : Result Directory OpenError = Err error in e) (contents_at at xs)
contents_stop_maps_any at n xs items (BadFile f) is read r told maps = contents_stop_maps at n f xs items is read (maps ∙ told)
contents_stop_maps_any at n xs items Disk is read r told maps = tt
contents_stop_maps_any at n xs items Memory is read r told maps = tt

pub contents_read : (at n : ℕ) (xs : List ℕ) (items : List Entry) (m : ℕ × (ℕ × ℕ)) → count_at at xs ≡ Ok n
    → IsOkAnd (blocks_at n 0 (at + 2) (drop 2 xs)) (λ bs. map entry_of bs ≡ items) →
    maps_at items (at + 2 + entries_length items) (drop (2 + entries_length items) xs) ≡ Ok m →
    IsOkAnd (contents_at at xs)
    (λ c. listed c ≡ (let d : Directory = record { entries = record { items = items }; map_block = m.0; map_item = m.1 } in d))
unfolding contents_at
contents_read at n xs items m is read maps =
    let P : Result Contents ℕ → Type 0 =
    λ r. IsOkAnd r (λ c. listed c ≡ (let d : Directory = record { entries = record { items = items }; map_block = m.0; map_item = m.1 } in d)) in
    subst P (sym (goes _ n _ _ is refl)) (by (blocks_at n 0 (at + 2) (drop 2 xs)) read)
  where
    by : (r : Result (List Block) ℕ) → IsOkAnd r (λ bs. map entry_of bs ≡ items) →
        IsOkAnd (r >>= λ blocks. maps_at (map entry_of blocks) (at + 2 + entries_length (map entry_of blocks))
        (drop (2 + entries_length (map entry_of blocks)) xs) >>= λ maps. Ok
        (let c : Contents = record { blocks = blocks; map_block = maps.0; map_item = maps.1 } in c))
        (λ c. listed c ≡ (let d : Directory = record { entries = record { items = items }; map_block = m.0; map_item = m.1 } in d))
    by (Err g) h = absurd h
    by (Ok bs) h =
        let Q : Result Contents ℕ → Type 0 =
        λ r. IsOkAnd r (λ c. listed c ≡ (let d : Directory = record { entries = record { items = items }; map_block = m.0; map_item = m.1 } in
        d)) in
        let found = ap (λ es. maps_at es (at + 2 + entries_length es) (drop (2 + entries_length es) xs)) h ∙ maps in
        subst Q (sym (goes _ m _ _ found refl))
        (ap (λ es. let d : Directory = record { entries = record { items = es }; map_block = m.0; map_item = m.1 } in d) h)
