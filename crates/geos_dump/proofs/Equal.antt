-- Files whose parts are the same.
use Rattle.std.proofs.Common.{◌≡◌, ◌∙◌, ℕ, ◌<◌, List, length, get_or, Ok, Result, ap, sym, subst}
use Rattle.std.proofs.lemmas.List.{ext_get_or}
use Rattle.vm_file.specs.declared.directory.Entry.{Entry}
use Rattle.vm_file.specs.Contents.{Block, Contents, Pair}
use Rattle.vm_file.specs.Device.{Medium, Only}
use Rattle.vm_file.specs.Outcomes.{ReadsOnly}
use Rattle.vm_file.specs.Reading.{◌>>=◌, File, file_at, found}
use Rattle.vm_file.specs.State.{bytes_of_block}
use Rattle.geos_dump.specs.Sides.{block_of, no_block}

-- two blocks whose entries and bytes are the same
pub block_same : (h uid : ℕ) (k m : ℕ) (a b : List ℕ) → h ≡ k → uid ≡ m → a ≡ b
    → (let x : Block = record { h = h; uid = uid; bytes = a } in x) ≡ (let y : Block = record { h = k; uid = m; bytes = b } in y)
block_same h uid k m a b hs us bs =
    ap (λ (n : ℕ). let x : Block = record { h = n; uid = uid; bytes = a } in x) hs
    ∙ ap (λ (n : ℕ). let x : Block = record { h = k; uid = n; bytes = a } in x) us
    ∙ ap (λ (l : List ℕ). let x : Block = record { h = k; uid = m; bytes = l } in x) bs

-- two directories whose blocks and maps are the same
pub contents_same : (c d : Contents) → length c.blocks ≡ length d.blocks
    → ((j : ℕ) → j < length c.blocks → get_or c.blocks j no_block ≡ get_or d.blocks j no_block)
    → c.map_block ≡ d.map_block → c.map_item ≡ d.map_item → c ≡ d
contents_same c d long each block item =
    ap (λ (bs : List Block). let x : Contents = record { blocks = bs; map_block = c.map_block; map_item = c.map_item } in x)
    (ext_get_or no_block c.blocks d.blocks long each)
    ∙ ap (λ (h : ℕ). let x : Contents = record { blocks = d.blocks; map_block = h; map_item = c.map_item } in x) block
    ∙ ap (λ (i : ℕ × ℕ). let x : Contents = record { blocks = d.blocks; map_block = d.map_block; map_item = i } in x) item

-- two pairs whose directories are the same
pub pair_same : (a b c d : Contents) → a ≡ c → b ≡ d
    → (let x : Pair = record { cur = a; saved = b } in x) ≡ (let y : Pair = record { cur = c; saved = d } in y)
pair_same a b c d cur saved =
    ap (λ (k : Contents). let x : Pair = record { cur = k; saved = b } in x) cur
    ∙ ap (λ (k : Contents). let x : Pair = record { cur = c; saved = k } in x) saved

-- the bytes encode a file with this pair
pub found_same : (old new : List ℕ) (f : File) (p : Pair) → file_at old ≡ Ok f → new ≡ old → f.pair ≡ p → found new ≡ Ok p
found_same old new f p opened same pair =
    let F : File → Result Pair ℕ = λ g. Ok g.pair in
    let here : found old ≡ Ok f.pair = ap (λ r. r >>= F) opened in
    ap (λ c. found c) same ∙ here ∙ ap (λ (q : Pair). let r : Result Pair ℕ = Ok q in r) pair

-- what lasts still lasts after reads
pub only_then : {D : Type 0} (medium : Medium D) (a b : D) → medium.honest a → ReadsOnly medium a b
    → Only (medium.image a) (medium.may_leave a) → Only (medium.image b) (medium.may_leave b)
only_then medium a b honest reads only = λ c left. only c (reads.stop honest c left) ∙ sym reads.same
