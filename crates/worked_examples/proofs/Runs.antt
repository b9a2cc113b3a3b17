-- What the model's runs of the worked examples come to.
use Rattle.std.proofs.Common.{◌≡◌, refl, ℕ, List, [], ◌∷◌, replicate, Option, Some, None}
use Rattle.geos_terms.specs.Bytes.{word}
use Rattle.geos_terms.specs.Chunks.{cost}
use Rattle.geos_calls.specs.VmFile.{empty_file}
use Rattle.geos_calls.specs.Memory.{Block}
use Rattle.geos_calls.specs.Effects.{Choice}
use Rattle.geos_opcodes.specs.declared.opcode.Opcode.TheVariants.{Plen}
use Rattle.geos_image.specs.Parts.{Parts}
use Rattle.geos_semantics.specs.Model.{Ending, Faulted, Running, Returned, run}
use Rattle.geos_machine.specs.Runs.{begin}
use Rattle.worked_examples.proofs.Images.{instr, add, outputs, two_and_main, loop_by_k1}
use Rattle.worked_examples.proofs.BlockImages.{no_bytes, read_after_deref, read_where_apart, deref_after_refusal}
use Rattle.worked_examples.proofs.States.{willing, unwilling, no_blocks, block}

-- the ending of a run of at most n steps of routine r, on words that are 0 and no block
abbrev pub ending : Parts → ℕ → ℕ → Ending
ending image r n = run image 0 (replicate n willing) 0 (begin image r (replicate 8 0) (replicate 4 0) no_blocks)

-- the same of the first routine, in a region of 128 bytes with one handle, all of which may be
-- refused or nothing
abbrev pub ending_in_128 : Choice → Parts → ℕ → Ending
ending_in_128 choice image n =
    run image 0 (replicate n choice) 0
    (begin image 0 (replicate 8 0) (replicate 4 0) (record { blocks = None ∷ []; file = empty_file 0; region = 128; handles = 1024 }))

-- the blocks that are left
abbrev pub left : Ending → List (Option Block)
left Faulted = []
left (Running s) = []
left (Returned steps s) = s.memory.blocks

-- the steps, the words and the output of a run that has returned
abbrev pub returned : Ending → List (ℕ × List ℕ × List ℕ)
returned Faulted = []
returned (Running s) = []
returned (Returned steps s) = (steps, s.words, s.output) ∷ []

pub add-runs : returned (ending (add 5) 0 5) ≡ (5, 5 ∷ 3 ∷ 0 ∷ 0 ∷ 0 ∷ 0 ∷ 0 ∷ 0 ∷ [], 5 ∷ []) ∷ []
add-runs = refl

-- 1,024 words are out, and the next is refused
pub outputs-runs : returned (ending (outputs 2052 2 2) 0 2051) ≡ (2051, 0 ∷ 0 ∷ 0 ∷ 0 ∷ 0 ∷ 0 ∷ 0 ∷ 10 ∷ [], replicate 1024 0) ∷ []
outputs-runs = refl

pub call-runs : returned (ending (two_and_main 2 5) 1 5) ≡ (5, 2 ∷ 0 ∷ 0 ∷ 0 ∷ 0 ∷ 0 ∷ 0 ∷ 0 ∷ [], 2 ∷ []) ∷ []
call-runs = refl

-- four turns of six steps, between the SETK and the RET
pub loop-of-calls-runs : returned (ending loop_by_k1 2 26) ≡ (26, 0 ∷ 0 ∷ 0 ∷ 0 ∷ 0 ∷ 0 ∷ 0 ∷ 0 ∷ [], []) ∷ []
loop-of-calls-runs = refl

-- the first chunk lies elsewhere, maybe, and has its bytes
pub read-after-deref-runs : returned (ending_in_128 willing read_after_deref 10) ≡ (10, 1 ∷ 8 ∷ 16 ∷ 18 ∷ 0 ∷ 0 ∷ 0 ∷ 0 ∷ [], 0 ∷ []) ∷ []
unfolding cost word
read-after-deref-runs = refl

-- the block is there, and locked no more
pub read-after-deref-leaves : left (ending_in_128 willing read_after_deref 10)
    ≡ block 0 (Some (replicate 8 0) ∷ Some (replicate 8 0) ∷ []) ∷ []
unfolding cost word
read-after-deref-leaves = refl

-- the slots hold one block, so that SNE goes to its label
pub read-where-apart-runs : returned (ending_in_128 willing read_where_apart 13) ≡ (11, 1 ∷ 8 ∷ 16 ∷ 0 ∷ 0 ∷ 1 ∷ 0 ∷ 0 ∷ [], 1 ∷ []) ∷ []
unfolding cost
read-where-apart-runs = refl

-- 640 bytes are more than the region
pub deref-after-refusal-runs : returned (ending_in_128 unwilling deref_after_refusal 12)
    ≡ (11, 1 ∷ 600 ∷ 16 ∷ 0 ∷ 0 ∷ 0 ∷ 0 ∷ 4 ∷ [], 4 ∷ []) ∷ []
unfolding cost word
deref-after-refusal-runs = refl

-- a chunk of no bytes is long enough for a pointer that requires none
pub no-bytes-runs : returned (ending_in_128 willing (no_bytes 0 (instr Plen 3 0 0 0 0)) 8)
    ≡ (8, 1 ∷ 0 ∷ 16 ∷ 0 ∷ 0 ∷ 0 ∷ 0 ∷ 0 ∷ [], 0 ∷ []) ∷ []
unfolding cost
no-bytes-runs = refl

-- and too short for one byte
pub one-byte-runs : returned (ending_in_128 willing (no_bytes 1 (instr Plen 3 0 0 0 0)) 8)
    ≡ (6, 1 ∷ 0 ∷ 16 ∷ 0 ∷ 0 ∷ 0 ∷ 0 ∷ 3 ∷ [], []) ∷ []
unfolding cost
one-byte-runs = refl
