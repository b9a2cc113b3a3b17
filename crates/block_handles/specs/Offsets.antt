-- Offsets of the region, as the blocks that cover them have them.
use Rattle.std.specs.Prelude.{◌≡◌, ℕ, ◌+◌, ◌*◌, ◌-◌, ◌<◌, ◌≤◌, List, length, slice_index}
use Rattle.lmem_raw.specs.Bytes.{part, with_part}
use Rattle.block_handles.specs.Change.{after_write, with_bytes}
use Rattle.block_handles.specs.Store.{Store, bytes_of, place_of, end_of}

-- a block covers an offset of the region
abbrev pub Covers : Store → ℕ → ℕ → Type 0
Covers store slot at = (place_of store slot ≤ at) × (at < end_of store slot)

-- a block covers n bytes from an offset on
abbrev pub CoversRange : Store → ℕ → ℕ → ℕ → Type 0
CoversRange store slot at n = (place_of store slot ≤ at) × (at + n ≤ end_of store slot)

-- each of the bytes ws, from an offset on, that a block covers is the byte of this block
abbrev pub ReadsAs : Store → ℕ → List ℕ → Type 0
ReadsAs store at ws =
    (slot k : ℕ) → k < length ws → Covers store slot (at + k) → slice_index ws k ≡ slice_index (bytes_of store slot) (at + k - place_of store slot)

-- if a block covers the range that is written, this part of the block is written, and nothing else
abbrev pub WritesCovered : Store → Store → ℕ → List ℕ → Type 0
WritesCovered old new at ws =
    (slot : ℕ) → 0 < length ws → CoversRange old slot at (length ws)
    → new ≡ with_bytes old slot (with_part (bytes_of old slot) (at - place_of old slot) ws)

-- the n bytes from one offset on are written at another offset, with their old values
pub record Copies (old new : Store) (from to n : ℕ) : Type 0 where
  pub bytes : List ℕ
  pub long : length bytes ≡ n
  pub read : ReadsAs old from bytes
  pub wrote : new ≡ after_write old to bytes

-- the byte of the region at an offset, as a block that covers it has it
abbrev pub byte_of : Store → ℕ → ℕ → ℕ
byte_of store slot at = slice_index (bytes_of store slot) (at - place_of store slot)

-- if a block covers the offset, this is its byte there
abbrev pub ReadsByte : Store → ℕ → ℕ → Type 0
ReadsByte store at byte = (slot : ℕ) → Covers store slot at → byte ≡ byte_of store slot at

-- if blocks cover the offset and the next, this is the word of both bytes, the low byte first
abbrev pub ReadsWord : Store → ℕ → ℕ → Type 0
ReadsWord store at word = (low high : ℕ) → Covers store low at → Covers store high (at + 1)
    → word ≡ byte_of store low at + 256 * byte_of store high (at + 1)

-- if one block covers the bytes that are copied, and one covers the target, this part of the target is written
abbrev pub CopiesCovered : Store → Store → ℕ → ℕ → ℕ → Type 0
CopiesCovered old new from to n = (slot : ℕ) → CoversRange old slot from n
    → WritesCovered old new to (part (bytes_of old slot) (from - place_of old slot) n)
