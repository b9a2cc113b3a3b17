-- What a write to the region makes of the blocks, and what is read from it.
use Rattle.std.proofs.Common.{◌≡◌, ◌≢◌, ℕ, zero, suc, map, ◌+◌, ◌-◌, ◌≤◌, ◌<◌, ◌⊎◌, List, [], ◌∷◌, length, take, drop, Option, Some, None, slice_index_or, slice_index, slice_set, refl, ap, sym, subst, ◌∙◌, arith, inl, inr, length-take}
use Rattle.std.proofs.lemmas.List.{set-get_or, drop-drop, drop-take, take-take, get_or-take, get_or-drop}
use Rattle.lmem_raw.specs.Bytes.{part, with_part}
use Rattle.lmem_raw.proofs.Parts.{length-with_part}
use Rattle.block_handles.specs.declared.table.Entry.{Entry}
use Rattle.block_handles.specs.Store.{Block, Store, bytes_in, bytes_of, IsBlock, place_of, end_of}
use Rattle.block_handles.specs.declared.arena.Limits.{Limits}
use Rattle.block_handles.specs.Change.{with_block, blocks_with_bytes, with_bytes, block_after_write, blocks_after_write, after_write, with_limits}
use Rattle.block_handles.specs.Layout.{IsLaidOut}
use Rattle.block_handles.specs.Offsets.{Covers, ReadsAs}
use Rattle.block_handles.specs.View.{block_in, store_in, place_in, Lies, IsSound, IsIndexed}
use Rattle.block_handles.proofs.Views.{store-set, block_there, bytes_there, place_there, lies_there, length-part, same_lies, OffEntry, off_slot, off_same, off_less, at_slot, place_slot}
use Rattle.block_handles.proofs.Layouts.{SameShape, laid-same, indexed-same}
use Rattle.block_handles.proofs.Steps.{Step, Stands, limited}

no_bytes : (p n : ℕ) → part [] p n ≡ []
no_bytes zero zero = refl
no_bytes zero (suc n) = refl
no_bytes (suc p) zero = refl
no_bytes (suc p) (suc n) = refl

with_nothing : (bs : List ℕ) → with_part bs 0 [] ≡ bs
with_nothing [] = refl
with_nothing (b ∷ bs) = refl

drop_none : (n : ℕ) → drop {A = ℕ} n [] ≡ []
drop_none zero = refl
drop_none (suc n) = refl

-- a part of what was written to
pub part-with_part : (bs : List ℕ) (at : ℕ) (ws : List ℕ) (p n : ℕ) → part (with_part bs at ws) p n ≡ with_part
    (part bs p n) (at - p) (drop (p - at) ws)
part-with_part [] at ws p n = no_bytes p n ∙ ap (λ xs. with_part xs (at - p) (drop (p - at) ws)) (sym (no_bytes p n))
part-with_part (b ∷ bs) at ws p zero = refl
part-with_part (b ∷ bs) zero [] zero (suc n) = refl
part-with_part (b ∷ bs) zero (w ∷ ws) zero (suc n) = ap (λ xs. w ∷ xs) (part-with_part bs zero ws zero n)
part-with_part (b ∷ bs) (suc at) ws zero (suc n) =
    let low : suc at - 0 ≡ suc (at - 0) = omega arith in
    let none : 0 - suc at ≡ 0 - at = omega arith in
    ap (λ xs. b ∷ xs) (part-with_part bs at ws zero n) ∙ (λ k. with_part (b ∷ take n bs) (sym low k) (drop (sym none k) ws))
part-with_part (b ∷ bs) zero [] (suc p) (suc n) =
    let none : 0 - suc p ≡ 0 = omega arith in
    sym (with_nothing (part bs p (suc n))) ∙ (λ k. with_part (part bs p (suc n)) (sym none k) (sym (drop_none (suc p - 0)) k))
part-with_part (b ∷ bs) zero (w ∷ ws) (suc p) (suc n) =
    let none : 0 - suc p ≡ 0 - p = omega arith in
    let high : suc p - 0 ≡ suc (p - 0) = omega arith in
    part-with_part bs zero ws p (suc n) ∙ (λ k. with_part (part bs p (suc n)) (sym none k) (drop (sym high k) (w ∷ ws)))
part-with_part (b ∷ bs) (suc at) ws (suc p) (suc n) =
    let low : suc at - suc p ≡ at - p = omega arith in
    let high : suc p - suc at ≡ p - at = omega arith in
    part-with_part bs at ws p (suc n) ∙ (λ k. with_part (part bs p (suc n)) (sym low k) (drop (sym high k) ws))

one_landed : (region : List ℕ) (at : ℕ) (ws : List ℕ) (o : Option Entry)
    → block_in (with_part region at ws) o ≡ block_after_write (block_in region o) (place_in o) at ws
one_landed region at ws None = refl
one_landed region at ws (Some e) = ap (λ bs. Some (record { locks = e.locks; bytes = bs })) (part-with_part region at ws e.place e.size)

each_landed : (region : List ℕ) (at : ℕ) (ws : List ℕ) (table : List (Option Entry))
    → map (block_in (with_part region at ws)) table ≡ blocks_after_write (map (block_in region) table) (map place_in table) at ws
each_landed region at ws [] = refl
each_landed region at ws (o ∷ table) = λ k. one_landed region at ws o k ∷ each_landed region at ws table k

pub store-after_write : (region : List ℕ) (at : ℕ) (ws : List ℕ) (table : List (Option Entry))
    → store_in (with_part region at ws) table ≡ after_write (store_in region table) at ws
store-after_write region at ws table = λ k. record {
  blocks = each_landed region at ws table k;
  places =
      map place_in table;
  len = let n = length-with_part region at ws k in record { region = n; most = n; handles = 1024 };
}

block_after_write-size : (b : Option Block) (place at : ℕ) (ws : List ℕ) → length (bytes_in (block_after_write b place at ws)) ≡ length (bytes_in b)
block_after_write-size None place at ws = refl
block_after_write-size (Some b) place at ws = length-with_part b.bytes (at - place) (drop (place - at) ws)

block_after_write-block : (b : Option Block) (place at : ℕ) (ws : List ℕ) → IsBlock (block_after_write b place at ws) → IsBlock b
block_after_write-block None place at ws h = h
block_after_write-block (Some b) place at ws h = tt

module _ (at : ℕ) (ws : List ℕ) where
  all-size : (bs : List (Option Block)) (ps : List ℕ) (j : ℕ)
      → length (bytes_in (slice_index_or (blocks_after_write bs ps at ws) j None)) ≡ length (bytes_in (slice_index_or bs j None))
  all-size [] ps j = refl
  all-size (b ∷ bs) [] j = refl
  all-size (b ∷ bs) (p ∷ ps) zero = block_after_write-size b p at ws
  all-size (b ∷ bs) (p ∷ ps) (suc j) = all-size bs ps j

  all-there : (bs : List (Option Block)) (ps : List ℕ) (j : ℕ) → IsBlock (slice_index_or (blocks_after_write bs ps at ws) j None)
      → IsBlock (slice_index_or bs j None)
  all-there [] ps j h = h
  all-there (b ∷ bs) [] j h = h
  all-there (b ∷ bs) (p ∷ ps) zero h = block_after_write-block b p at ws h
  all-there (b ∷ bs) (p ∷ ps) (suc j) h = all-there bs ps j h

  all-length : (bs : List (Option Block)) (ps : List ℕ) → length (blocks_after_write bs ps at ws) ≡ length bs
  all-length [] ps = refl
  all-length (b ∷ bs) [] = refl
  all-length (b ∷ bs) (p ∷ ps) = ap suc (all-length bs ps)

  pub after_write-shape : (S : Store) → SameShape S (after_write S at ws)
  after_write-shape S = record {
    sizes = all-size S.blocks S.places;
    places = refl;
    there = all-there S.blocks S.places;
    slots =
        all-length S.blocks S.places;
    len = refl;
  }

blocks_with_bytes-size : (bs : List (Option Block)) (i : ℕ) (ws : List ℕ) (j : ℕ)
    → length (bytes_in (slice_index_or (blocks_with_bytes bs i ws) j None)) ≡ length (bytes_in (slice_index_or bs j None))
blocks_with_bytes-size [] i ws j = refl
blocks_with_bytes-size (None ∷ bs) zero ws j = refl
blocks_with_bytes-size (Some b ∷ bs) zero ws zero = length-with_part b.bytes zero ws
blocks_with_bytes-size (Some b ∷ bs) zero ws (suc j) = refl
blocks_with_bytes-size (None ∷ bs) (suc i) ws zero = refl
blocks_with_bytes-size (Some b ∷ bs) (suc i) ws zero = refl
blocks_with_bytes-size (None ∷ bs) (suc i) ws (suc j) = blocks_with_bytes-size bs i ws j
blocks_with_bytes-size (Some b ∷ bs) (suc i) ws (suc j) = blocks_with_bytes-size bs i ws j

blocks_with_bytes-there : (bs : List (Option Block)) (i : ℕ) (ws : List ℕ) (j : ℕ) → IsBlock (slice_index_or (blocks_with_bytes bs i ws) j None)
    → IsBlock (slice_index_or bs j None)
blocks_with_bytes-there [] i ws j h = h
blocks_with_bytes-there (None ∷ bs) zero ws j h = h
blocks_with_bytes-there (Some b ∷ bs) zero ws zero h = tt
blocks_with_bytes-there (Some b ∷ bs) zero ws (suc j) h = h
blocks_with_bytes-there (None ∷ bs) (suc i) ws zero h = h
blocks_with_bytes-there (Some b ∷ bs) (suc i) ws zero h = tt
blocks_with_bytes-there (None ∷ bs) (suc i) ws (suc j) h = blocks_with_bytes-there bs i ws j h
blocks_with_bytes-there (Some b ∷ bs) (suc i) ws (suc j) h = blocks_with_bytes-there bs i ws j h

blocks_with_bytes-length : (bs : List (Option Block)) (i : ℕ) (ws : List ℕ) → length (blocks_with_bytes bs i ws) ≡ length bs
blocks_with_bytes-length [] i ws = refl
blocks_with_bytes-length (None ∷ bs) zero ws = refl
blocks_with_bytes-length (Some b ∷ bs) zero ws = refl
blocks_with_bytes-length (None ∷ bs) (suc i) ws = ap suc (blocks_with_bytes-length bs i ws)
blocks_with_bytes-length (Some b ∷ bs) (suc i) ws = ap suc (blocks_with_bytes-length bs i ws)

pub with_bytes-shape : (S : Store) (i : ℕ) (ws : List ℕ) → SameShape S (with_bytes S i ws)
with_bytes-shape S i ws = record {
  sizes = blocks_with_bytes-size S.blocks i ws;
  places = refl;
  there =
      blocks_with_bytes-there S.blocks i ws;
  slots = blocks_with_bytes-length S.blocks i ws;
  len = refl;
}

-- bytes written over those of a block are a block that is set
pub blocks_with_bytes-set : (bs : List (Option Block)) (i : ℕ) (ws : List ℕ) (b : Block) → slice_index_or bs i None ≡ Some b
    → blocks_with_bytes bs i ws ≡ slice_set bs i (Some (record b { bytes = with_part b.bytes zero ws }))
blocks_with_bytes-set [] i ws b is = refl
blocks_with_bytes-set (None ∷ bs) zero ws b is = absurd (none_some is)
  where
    none_some : None ≡ Some b → ⊥
    none_some e = cc
blocks_with_bytes-set (Some x ∷ bs) zero ws b is = let same : x ≡ b = cc in let f : Block → List (Option Block) =
    λ y. Some (record y { bytes = with_part y.bytes zero ws }) ∷ bs in ap f same
blocks_with_bytes-set (None ∷ bs) (suc i) ws b is = ap (λ l. None ∷ l) (blocks_with_bytes-set bs i ws b is)
blocks_with_bytes-set (Some x ∷ bs) (suc i) ws b is = ap (λ l. Some x ∷ l) (blocks_with_bytes-set bs i ws b is)

-- a part that is written over whole
pub part-after_write : (bs : List ℕ) (at n : ℕ) (ws : List ℕ) → at + n ≤ length bs
    → part (with_part bs at (take n ws)) at n ≡ with_part (part bs at n) zero ws
part-after_write [] at zero ws h = refl
part-after_write [] at (suc n) ws h = absurd (omega arith)
part-after_write (b ∷ bs) zero zero ws h = refl
part-after_write (b ∷ bs) zero (suc n) [] h = refl
part-after_write (b ∷ bs) zero (suc n) (w ∷ ws) h = ap (λ xs. w ∷ xs) (part-after_write bs zero n ws (omega arith))
part-after_write (b ∷ bs) (suc at) n ws h = part-after_write bs at n ws (omega arith)

module _ (region : List ℕ) (table : List (Option Entry)) (index : List (Option ℕ)) (sound : IsSound region table index) where
  -- a write changes no place and no size
  pub same-step : (region' : List ℕ) (S' : Store) → length region' ≡ length region → store_in region' table ≡ S'
      → SameShape (store_in region table) S' → Step region' table index S'
  same-step region' S' len is shape = record {
    sound = record {
      lies = λ j. same_lies region region' (slice_index_or table j None) len (sound.lies j);
      laid = subst IsLaidOut (sym is) (laid-same (store_in region table) S' shape sound.laid);
      indexed = subst (λ s. IsIndexed s index) (sym is) (indexed-same (store_in region table) S' index shape sound.indexed);
      short = omega (arith, len, sound.short);
    };
    is = is;
  }

  pub after_write-step : (at : ℕ) (ws : List ℕ) (region' : List ℕ) → region' ≡ with_part region at ws
      → Step region' table index (after_write (store_in region table) at ws)
  after_write-step at ws region' e = same-step region' (after_write (store_in region table) at ws)
      (ap length e ∙ length-with_part region at ws) (ap (λ r. store_in r table) e ∙ store-after_write region at ws table)
      (after_write-shape at ws (store_in region table))

  module _ (i : ℕ) (e : Entry) (is : slice_index_or table i None ≡ Some e) (ws : List ℕ) where
    abbrev S : Store
    S = store_in region table

    abbrev after : List ℕ
    after = with_part region e.place (take e.size ws)

    inside : e.place + e.size ≤ length region
    inside = lies_there region table i e is (sound.lies i)

    place : place_of S i ≡ e.place
    place = place_there region table i e is

    ends : end_of S i ≡ e.place + e.size
    ends = (λ k. place k + length (bytes_there region table i e is k)) ∙ ap (λ n. e.place + n) (length-part region e.place e.size inside)

    beside : (j : ℕ) → (end_of S j ≤ place_of S i) ⊎ (end_of S i ≤ place_of S j) → (end_of S j ≤ e.place) ⊎ (e.place + e.size ≤ place_of S j)
    beside j (inl h) = inl (omega (arith, h, place))
    beside j (inr h) = inr (omega (arith, h, ends))

    others : (j : ℕ) → j ≢ i → block_in after (slice_index_or table j None) ≡ block_in region (slice_index_or table j None)
    others j ne =
        let off : OffEntry (slice_index_or table j None) e.place (e.place + e.size) = off_slot region table e.place
        (e.place + e.size) j (sound.lies j) (beside j (sound.laid.apart j i ne)) in
        off_same region e.place (take e.size ws) (slice_index_or table j None)
        (off_less (slice_index_or table j None) e.place (e.place + e.size) e.place (e.place + length (take e.size ws))
        (omega arith) (omega (arith, length-take e.size ws)) off)

    own : slice_set table i (Some e) ≡ table
    own = ap (λ o. slice_set table i o) (sym is) ∙ set-get_or table i None

    spot : slice_set S.places i e.place ≡ S.places
    spot = ap (λ p. slice_set S.places i p) (sym place) ∙ set-get_or S.places i 0

    whole : store_in after table ≡ with_bytes S i ws
    whole = ap (λ t. store_in after t) (sym own) ∙ store-set region after table i (Some e) (length-with_part region e.place (take e.size ws)) others
        ∙ (λ k. with_block S i (Some (record { locks = e.locks; bytes = part-after_write region e.place e.size ws inside k })) e.place)
        ∙ (λ k. record {
          blocks = sym (blocks_with_bytes-set S.blocks i ws (record { locks = e.locks; bytes = part region e.place e.size })
              (block_there region table i e is)) k;
          places = spot k;
          len = record { region = length region; most = length region; handles = 1024 };
        })

    pub bytes-step : Step after table index (with_bytes S i ws)
    bytes-step = same-step after (with_bytes S i ws) (length-with_part region e.place (take e.size ws)) whole (with_bytes-shape S i ws)

-- a part of a part
pub part-part : (bs : List ℕ) (p s k n : ℕ) → k + n ≤ s → part (part bs p s) k n ≡ part bs (p + k) n
part-part bs p s k n h =
    let split : s ≡ k + (s - k) = omega arith in
    ap (λ m. take n (drop k (take m (drop p bs)))) split ∙ ap (λ l. take n l) (drop-take k (s - k) (drop p bs))
    ∙ take-take n (s - k) (drop k (drop p bs)) (omega arith) ∙ ap (λ l. take n l) (drop-drop k p bs)

byte_of_entry : (region : List ℕ) (o : Option Entry) → Lies region o → (at : ℕ) → place_in o ≤ at
    → at < place_in o + length (bytes_in (block_in region o)) → slice_index region at ≡ slice_index (bytes_in (block_in region o)) (at - place_in o)
byte_of_entry region None l at low high = absurd (omega arith)
byte_of_entry region (Some e) l at low high =
    let same : e.place + (at - e.place) ≡ at = omega arith in
    sym (get_or-take e.size (drop e.place region) (at - e.place) 0 (omega (arith, high, length-part region e.place e.size l))
    ∙ get_or-drop e.place region (at - e.place) 0 ∙ ap (λ k. slice_index region k) same)

module _ (region : List ℕ) (table : List (Option Entry)) (lies : (j : ℕ) → Lies region (slice_index_or table j None)) (j : ℕ) where
  covered-byte : (at : ℕ) → Covers (store_in region table) j at → slice_index region at ≡ slice_index
      (bytes_of (store_in region table) j) (at - place_of (store_in region table) j)
  covered-byte at h =
      let o : Option Entry = slice_index_or table j None in
      let q : (place_in o ≤ at) × (at < place_in o + length (bytes_in (block_in region o))) =
      (subst (λ p. (p ≤ at) × (at < p + length (bytes_in (block_in region (slice_index_or table j None)))))
      (place_slot region table j)
      (subst (λ b. (place_of (store_in region table) j ≤ at) × (at < place_of (store_in region table) j + length (bytes_in b)))
      (at_slot region table j) h)) in
      byte_of_entry region o (lies j) at q.0 q.1
      ∙ (λ k. slice_index (bytes_in (sym (at_slot region table j) k)) (at - sym (place_slot region table j) k))

-- over the store that callers see
module _ (limits : Limits) (region : List ℕ) (table : List (Option Entry)) (index : List (Option ℕ)) (seen : Store)
    (view : with_limits (store_in region table) limits ≡ seen) (sound : IsSound region table index) where
  pub written_seen : (at : ℕ) (ws : List ℕ) (region' : List ℕ) → region' ≡ with_part region at ws → Stands limits region' table index (after_write seen at ws)
  written_seen at ws region' e = subst (λ s. Stands limits region' table index (after_write s at ws)) view
      (limited limits region' table index _ (after_write-step region table index sound at ws region' e))

  pub bytes_seen : (i : ℕ) (e : Entry) → slice_index_or table i None ≡ Some e → (ws : List ℕ)
      → Stands limits (with_part region e.place (take e.size ws)) table index (with_bytes seen i ws)
  bytes_seen i e is ws = subst (λ s. Stands limits (with_part region e.place (take e.size ws)) table index (with_bytes s i ws)) view
      (limited limits _ table index _ (bytes-step region table index sound i e is ws))

  pub byte_seen : (j at : ℕ) → Covers seen j at → slice_index region at ≡ slice_index (bytes_of seen j) (at - place_of seen j)
  byte_seen j at = subst (λ s. Covers s j at → slice_index region at ≡ slice_index (bytes_of s j) (at - place_of s j)) view
      (covered-byte region table sound.lies j at)

  -- a part of the region reads as the blocks' bytes
  pub reads_seen : (at n : ℕ) → at + n ≤ length region → ReadsAs seen at (part region at n)
  reads_seen at n room j k small covers =
      let long : length (part region at n) ≡ n = length-part region at n room in
      get_or-take n (drop at region) k 0 (omega (arith, small, long)) ∙ get_or-drop at region k 0 ∙ byte_seen j (at + k) covers
