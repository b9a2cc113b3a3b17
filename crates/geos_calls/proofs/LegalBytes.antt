-- Lists of bytes that stay lists of bytes.
use Rattle.std.proofs.Common.{ℕ, zero, suc, ◌+◌, ◌-◌, ◌<◌, List, [], ◌∷◌, ◌++◌, length, take, drop, replicate, arith}
use Rattle.std.proofs.lemmas.List.Elements.{All-cons, All-head, All-tail, All-replicate, All-append, All-take, All-drop}
use Rattle.lmem_raw.specs.Bytes.{part, with_part}
use Rattle.geos_terms.specs.Chunks.{resized, with_zeros, without_part}
use Rattle.geos_calls.specs.Legal.{AreBytes}

-- a number is a byte
abbrev IsByte : ℕ → Type 0
IsByte b = b < 256

pub bytes-zeros : (n : ℕ) → AreBytes (replicate n 0)
bytes-zeros n = All-replicate IsByte n 0 (omega arith)

pub bytes-part : (bs : List ℕ) (at n : ℕ) → AreBytes bs → AreBytes (part bs at n)
bytes-part bs at n h = All-take IsByte n (drop at bs) (All-drop IsByte at bs h)

pub bytes-with_part : (bs : List ℕ) (at : ℕ) (ws : List ℕ) → AreBytes bs → AreBytes ws → AreBytes (with_part bs at ws)
bytes-with_part [] at ws h w = h
bytes-with_part (b ∷ bs) zero [] h w = h
bytes-with_part (b ∷ bs) zero (x ∷ ws) h w =
    All-cons IsByte x (with_part bs zero ws) (All-head IsByte x ws w) (bytes-with_part bs zero ws (All-tail IsByte b bs h) (All-tail IsByte x ws w))
bytes-with_part (b ∷ bs) (suc at) ws h w = All-cons IsByte b (with_part bs at ws) (All-head IsByte b bs h)
    (bytes-with_part bs at ws (All-tail IsByte b bs h) w)

pub bytes-resized : (bs : List ℕ) (n : ℕ) → AreBytes bs → AreBytes (resized bs n)
bytes-resized bs n h = All-append IsByte (take n bs) (replicate (n - length bs) 0) (All-take IsByte n bs h) (bytes-zeros (n - length bs))

pub bytes-with_zeros : (bs : List ℕ) (at n : ℕ) → AreBytes bs → AreBytes (with_zeros bs at n)
bytes-with_zeros bs at n h =
    All-append IsByte (take at bs) (replicate n 0 ++ drop at bs) (All-take IsByte at bs h)
    (All-append IsByte (replicate n 0) (drop at bs) (bytes-zeros n) (All-drop IsByte at bs h))

pub bytes-without_part : (bs : List ℕ) (at n : ℕ) → AreBytes bs → AreBytes (without_part bs at n)
bytes-without_part bs at n h = All-append IsByte (take at bs) (drop (at + n) bs) (All-take IsByte at bs h) (All-drop IsByte (at + n) bs h)
