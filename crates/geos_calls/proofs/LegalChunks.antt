-- What edits do to legal chunks: they stay legal.
use Rattle.std.proofs.Common.{◌≡◌, ℕ, ◌+◌, ◌%◌, ◌<◌, ◌≤◌, Bool, true, false, ◌&&◌, ◌==◌, if◌then◌else◌, List, [], ◌∷◌, ◌++◌, Option, Some, None, length, get_or, set, replicate, unwrap_or, sym, subst, inl, inr, arith, length-append, length-set}
use Rattle.std.specs.Prelude.{All, nat_le}
use Rattle.std.proofs.lemmas.Bool.{cases_lt}
use Rattle.std.proofs.lemmas.List.{get_or_past}
use Rattle.std.proofs.lemmas.List.Elements.{All-nil, All-cons, All-append, All-set}
use Rattle.lmem_raw.specs.Bytes.{with_part}
use Rattle.geos_terms.specs.Chunks.{need, entry_of, chunk_of, bytes_of, lowest_entry, with_entry, with_new, with_bytes, without, resized, with_zeros, without_part, with_resized, with_inserted, with_deleted}
use Rattle.geos_terms.specs.Refusals.{first_refusal}
use Rattle.geos_terms.specs.Edits.{Edit}
use Rattle.geos_calls.specs.Legal.{AreBytes, IsChunk, AreChunks}
use Rattle.geos_calls.proofs.LegalBytes.{bytes-zeros, bytes-with_part, bytes-resized, bytes-with_zeros, bytes-without_part}

-- Legal chunks

chunk-if : (b : Bool) (x : Option (List ℕ)) → IsChunk x → IsChunk (if b then x else None)
chunk-if true x h = h
chunk-if false x h = tt

chunk-bytes : (x : Option (List ℕ)) → IsChunk x → AreBytes (unwrap_or x [])
chunk-bytes None h = All-nil (λ b. b < 256)
chunk-bytes (Some bytes) h = h

entry-legal : (cs : List (Option (List ℕ))) (i : ℕ) → All IsChunk cs → IsChunk (get_or cs i None)
entry-legal cs i h = elim (cases_lt i (length cs)) [
  | inl l ↦ h i None l
  | inr l ↦ subst IsChunk (sym (get_or_past cs i None l)) tt
]

-- the chunk of a handle has bytes
pub bytes_of-legal : (cs : List (Option (List ℕ))) (c : ℕ) → All IsChunk cs → AreBytes (bytes_of cs c)
bytes_of-legal cs c h = chunk-bytes (chunk_of cs c) (chunk-if (nat_le 16 c && (c % 2 == 0)) (get_or cs (entry_of c) None)
    (entry-legal cs (entry_of c) h))

-- two entries more
more-legal : (cs : List (Option (List ℕ))) → AreChunks cs → AreChunks (cs ++ (None ∷ (None ∷ [])))
more-legal cs h =
    let two : All IsChunk (None ∷ (None ∷ [])) = All-cons IsChunk None (None ∷ []) tt (All-cons IsChunk None [] tt (All-nil IsChunk)) in
    let pairs = h.pairs in
    let some = h.some in
    let len : length (cs ++ (None ∷ (None ∷ []))) ≡ length cs + 2 = length-append cs (None ∷ (None ∷ [])) in
    record { bytes = All-append IsChunk cs (None ∷ (None ∷ [])) h.bytes two; pairs = omega arith; some = omega arith }

-- something else in an entry
set-legal : (cs : List (Option (List ℕ))) (i : ℕ) (x : Option (List ℕ)) → IsChunk x → AreChunks cs → AreChunks (set cs i x)
set-legal cs i x is h =
    let pairs = h.pairs in
    let some = h.some in
    let len = length-set cs i x in
    record { bytes = All-set IsChunk cs i x is h.bytes; pairs = omega arith; some = omega arith }

legal-if : (b : Bool) (cs ds : List (Option (List ℕ))) → AreChunks cs → AreChunks ds → AreChunks (if b then cs else ds)
legal-if true cs ds h k = h
legal-if false cs ds h k = k

pub with_entry-legal : (cs : List (Option (List ℕ))) → AreChunks cs → AreChunks (with_entry cs)
with_entry-legal cs h = legal-if (lowest_entry cs == length cs) (cs ++ (None ∷ (None ∷ []))) cs (more-legal cs h) h

pub with_new-legal : (cs : List (Option (List ℕ))) (n : ℕ) → AreChunks cs → AreChunks (with_new cs n)
with_new-legal cs n h = set-legal (with_entry cs) (lowest_entry cs) (Some (replicate n 0)) (bytes-zeros n) (with_entry-legal cs h)

pub without-legal : (cs : List (Option (List ℕ))) (c : ℕ) → AreChunks cs → AreChunks (without cs c)
without-legal cs c h = set-legal cs (entry_of c) None tt h

pub with_bytes-legal : (cs : List (Option (List ℕ))) (c : ℕ) (bytes : List ℕ) → AreBytes bytes → AreChunks cs → AreChunks (with_bytes cs c bytes)
with_bytes-legal cs c bytes are h = set-legal cs (entry_of c) (Some bytes) are h

pub with_resized-legal : (cs : List (Option (List ℕ))) (c n : ℕ) → AreChunks cs → AreChunks (with_resized cs c n)
with_resized-legal cs c n h = with_bytes-legal cs c (resized (bytes_of cs c) n) (bytes-resized (bytes_of cs c) n (bytes_of-legal cs c h.bytes)) h

pub with_inserted-legal : (cs : List (Option (List ℕ))) (c at n : ℕ) → AreChunks cs → AreChunks (with_inserted cs c at n)
with_inserted-legal cs c at n h = with_bytes-legal cs c (with_zeros (bytes_of cs c) at n)
    (bytes-with_zeros (bytes_of cs c) at n (bytes_of-legal cs c h.bytes)) h

pub with_deleted-legal : (cs : List (Option (List ℕ))) (c at n : ℕ) → AreChunks cs → AreChunks (with_deleted cs c at n)
with_deleted-legal cs c at n h = with_bytes-legal cs c (without_part (bytes_of cs c) at n)
    (bytes-without_part (bytes_of cs c) at n (bytes_of-legal cs c h.bytes)) h

pub with_written-legal : (cs : List (Option (List ℕ))) (c at : ℕ) (ws : List ℕ) → AreBytes ws → AreChunks cs
    → AreChunks (with_bytes cs c (with_part (bytes_of cs c) at ws))
with_written-legal cs c at ws are h = with_bytes-legal cs c (with_part (bytes_of cs c) at ws)
    (bytes-with_part (bytes_of cs c) at ws (bytes_of-legal cs c h.bytes) are) h

-- Edits of chunks

-- an edit that is not refused gives legal chunks, where a block can have room for them
abbrev pub KeepsChunks : {A : Type 0} → (List (Option (List ℕ)) → Edit A) → Type 0
KeepsChunks edit = (cs : List (Option (List ℕ))) → AreChunks cs → first_refusal (edit cs).refusals ≡ None
    → need (edit cs).chunks ≤ 65520 → AreChunks (edit cs).chunks

-- and it needs no more
abbrev pub NeedsNoMore : {A : Type 0} → (List (Option (List ℕ)) → Edit A) → Type 0
NeedsNoMore edit = (cs : List (Option (List ℕ))) → All IsChunk cs → first_refusal (edit cs).refusals ≡ None → need (edit cs).chunks ≤ need cs
