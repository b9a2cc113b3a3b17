-- What the calls on chunks answer: words, and parts of chunks.
use Rattle.std.proofs.Common.{◌≡◌, ℕ, ◌+◌, ◌≤◌, false, Option, Some, None, [], length, refl, arith}
use Rattle.std.specs.Prelude.{is_none, unwrap_or}
use Rattle.std.proofs.lemmas.Bool.{ltb-false, leb-false}
use Rattle.std.proofs.lemmas.List.{length-set}
use Rattle.geos_terms.specs.declared.name.Name.{Name}
use Rattle.geos_terms.specs.Refusals.{first_refusal}
use Rattle.geos_terms.specs.Chunks.{entry_of, chunk_of, bytes_of, with_new, new_handle}
use Rattle.geos_calls.specs.Memory.{Memory, chunks_at}
use Rattle.geos_terms.specs.Arrays.{arr, spelled, empty}
use Rattle.geos_terms.specs.ArrayEdits.{array_of, count_of, element_of, create_array}
use Rattle.geos_calls.specs.declared.call.Make.{Make}
use Rattle.geos_calls.specs.declared.call.Make.TheVariants.{Lalloc, Canew}
use Rattle.geos_calls.specs.declared.call.Ask.{Ask}
use Rattle.geos_calls.specs.declared.call.Ask.TheVariants.{Lsize, Cacount}
use Rattle.geos_calls.specs.declared.call.Refer.{Refer}
use Rattle.geos_calls.specs.declared.call.Refer.TheVariants.{Deref, Caelt}
use Rattle.geos_calls.specs.ChunkCalls.{make_row, ask_row, refer_row, least}
use Rattle.geos_calls.specs.Legal.{IsMemory}
use Rattle.geos_calls.specs.Effects.{Choice}
use Rattle.geos_calls.proofs.Keeps.{grown-small}
use Rattle.geos_calls.proofs.LegalChunks.{bytes_of-legal}
use Rattle.geos_calls.proofs.LegalBlocks.{chunks-bytes}
use Rattle.geos_terms.proofs.ArrayReads.{Reads, reads}
use Rattle.geos_terms.proofs.ArrayPlaces.{element-bounds, element-ends}
use Rattle.geos_verify.proofs.Passed.{passed}
use Rattle.geos_semantics.specs.Meets.{IsInChunk}
use Rattle.geos_semantics.proofs.Bounds.{byte-most, word-most, handle-fits, length-most}

some-is : {X : Type 0} (o : Option X) (d : X) → is_none o ≡ false → o ≡ Some (unwrap_or o d)
some-is None d h = absurd cc
some-is (Some x) d h = refl

-- the bytes of a chunk encode its array
array-read : (m : Memory) (name : Name) (c : ℕ) → IsMemory m → is_none (arr (bytes_of (chunks_at m name) c)) ≡ false
    → Reads (bytes_of (chunks_at m name) c) (array_of (chunks_at m name) c)
array-read m name c legal is =
    let bytes = bytes_of (chunks_at m name) c in
    let are = bytes_of-legal (chunks_at m name) c (chunks-bytes m name legal) in
    reads bytes (array_of (chunks_at m name) c) (λ k. (let b = byte-most bytes k are in omega (arith, b))) (some-is (arr bytes) (empty 0) is)

-- a chunk that is referred to whole
in-chunk : (m : Memory) (name : Name) (c : ℕ) → is_none (chunk_of (chunks_at m name) c) ≡ false
    → IsInChunk m (record { name = name; chunk = c; start = 0; len = length (bytes_of (chunks_at m name) c) })
in-chunk m name c h = record { bytes = bytes_of (chunks_at m name) c; there = some-is (chunk_of (chunks_at m name) c) [] h; fits = omega arith }

-- the handle of a new chunk is a word, where its block has room for it
pub make-most : (choice : Choice) (m : Memory) (name : Name) (make : Make) → first_refusal (make_row name make choice m).refusals ≡ None
    → (make_row name make choice m).answer ≤ 65535
make-most choice m name (Lalloc n) fine = let cs = chunks_at m name in
    handle-fits cs (with_new cs n) n refl (grown-small choice m name [] (with_new cs n) fine)
make-most choice m name (Canew k) fine =
    let cs = chunks_at m name in
    let new = (create_array k cs).chunks in
    handle-fits cs new 8 (length-set (with_new cs 8) (entry_of (new_handle cs)) (Some (spelled (empty k)))) (grown-small choice m name [] new fine)

-- a number that a call returns is a word
pub ask-most : (choice : Choice) (m : Memory) (name : Name) (ask : Ask) → IsMemory m → first_refusal (ask_row name ask choice m).refusals ≡ None
    → (ask_row name ask choice m).answer ≤ 65535
ask-most choice m name (Lsize c) legal fine = length-most m name c legal
ask-most choice m name (Cacount c) legal fine =
    let read = array-read m name c legal (passed (ask_row name (Cacount c) choice m).refusals fine).1.0 in
    let counted = read.spells.count in
    let word = word-most (bytes_of (chunks_at m name) c) 0 (bytes_of-legal (chunks_at m name) c (chunks-bytes m name legal)) in
    omega (arith, counted, word)

-- a reference that a call returns is part of its chunk, and at least as long as the call requires
pub refer-led : (choice : Choice) (m : Memory) (name : Name) (refer : Refer) → IsMemory m
    → first_refusal (refer_row name refer choice m).refusals ≡ None
    → IsInChunk m (refer_row name refer choice m).answer × (least refer ≤ (refer_row name refer choice m).answer.len)
refer-led choice m name (Deref c n) legal fine =
    let pass = passed (refer_row name (Deref c n) choice m).refusals fine in
    (in-chunk m name c pass.0, ltb-false (length (bytes_of (chunks_at m name) c)) n pass.1.0)
refer-led choice m name (Caelt c i n) legal fine =
    let cs = chunks_at m name in
    let pass = passed (refer_row name (Caelt c i n) choice m).refusals fine in
    let read = array-read m name c legal pass.1.0 in
    let ends = element-ends (array_of cs c) i (leb-false (count_of cs c) i pass.1.1.0) in
    let bounds = element-bounds (bytes_of cs c) (array_of cs c) (i + 1) read in (
      record { bytes = bytes_of cs c; there = some-is (chunk_of cs c) [] pass.0; fits = omega (arith, ends, bounds.1) },
      ltb-false (length (element_of cs c i)) n pass.1.1.1.0,
    )
