-- Reading and encoding numbers are inverse.
use Rattle.std.proofs.Common.{◌≡◌, ℕ, zero, suc, ◌+◌, ◌^◌, ◌<◌, List, [], ◌∷◌, ◌++◌, length, get_or, Result, Ok, Err, refl, sym, subst, ap, arith}
use Rattle.std.specs.Prelude.{nat_lt}
use Rattle.std.proofs.lemmas.Bool.{ltb-true, lt-ltb}
use Rattle.std.proofs.lemmas.Nat.{le_bytes_2, le_bytes_4, from_le_bytes-to_le_bytes_2, from_le_bytes-to_le_bytes_4}
use Rattle.geos_image.specs.Spelling.{word, long}
use Rattle.geos_image.specs.Reading.{guard, byte_at, word_at, long_at, below, byte_below, word_below}
use Rattle.geos_image.proofs.Steps.{ok_is, after, guard_ok, cond_ok}
use Rattle.geos_image.proofs.Places.{IsBytes, Takes, Takes-then, Takes-byte, Left, Left-byte}

are_none : IsBytes []
are_none i = omega arith

are_more : (b : ℕ) (bytes : List ℕ) → b < 256 → IsBytes bytes → IsBytes (b ∷ bytes)
are_more b bytes lt fits zero = lt
are_more b bytes lt fits (suc i) = fits i

-- the byte that was read is at this offset
pub byte_found : (bytes : List ℕ) (at next n : ℕ) → next ≡ at + 1 → byte_at bytes at ≡ Ok n → Takes bytes at (n ∷ []) next
byte_found bytes at next n e h =
    let g = cond_ok _ _ _ n h in
    subst (λ (m : ℕ). Takes bytes at (m ∷ []) next) g.1 (Takes-byte bytes at next e (ltb-true _ _ g.0))

-- the bytes of a word that was read are its encoding
pub word_found : (bytes : List ℕ) → IsBytes bytes → (at next n : ℕ) → next ≡ at + 2 → word_at bytes at ≡ Ok n → Takes bytes at (word n) next
word_found bytes fits at next n e h =
    let g = cond_ok _ _ _ n h in
    let lt : at + 1 < length bytes = ltb-true _ _ g.0 in
    let b0 = get_or bytes at 0 in
    let b1 = get_or bytes (at + 1) 0 in
    let cells : Takes bytes at (b0 ∷ b1 ∷ []) next = Takes-then (Takes-byte bytes at (at + 1) refl (omega arith))
    (Takes-byte bytes (at + 1) next (omega arith) lt) in
    let same : word n ≡ b0 ∷ b1 ∷ [] = le_bytes_2 (b0 ∷ b1 ∷ []) n refl (are_more b0 (b1 ∷ []) (fits at) (are_more b1 [] (fits (at + 1)) are_none))
    (sym g.1) in
    subst (λ (t : List ℕ). Takes bytes at t next) (sym same) cells

-- the bytes of a long that was read are its encoding
pub long_found : (bytes : List ℕ) → IsBytes bytes → (at next n : ℕ) → next ≡ at + 4 → long_at bytes at ≡ Ok n → Takes bytes at (long n) next
long_found bytes fits at next n e h =
    let g = cond_ok _ _ _ n h in
    let lt : at + 3 < length bytes = ltb-true _ _ g.0 in
    let b0 = get_or bytes at 0 in
    let b1 = get_or bytes (at + 1) 0 in
    let b2 = get_or bytes (at + 2) 0 in
    let b3 = get_or bytes (at + 3) 0 in
    let low : Takes bytes at (b0 ∷ b1 ∷ []) (at + 2) = Takes-then (Takes-byte bytes at (at + 1) refl (omega arith))
    (Takes-byte bytes (at + 1) (at + 2) (omega arith) (omega arith)) in
    let high : Takes bytes (at + 2) (b2 ∷ b3 ∷ []) next = Takes-then (Takes-byte bytes (at + 2) (at + 3) (omega arith) (omega arith))
    (Takes-byte bytes (at + 3) next (omega arith) lt) in
    let cells : Takes bytes at (b0 ∷ b1 ∷ b2 ∷ b3 ∷ []) next = Takes-then low high in
    let are : IsBytes (b0 ∷ b1 ∷ b2 ∷ b3 ∷ []) = are_more b0 (b1 ∷ b2 ∷ b3 ∷ []) (fits at)
    (are_more b1 (b2 ∷ b3 ∷ []) (fits (at + 1)) (are_more b2 (b3 ∷ []) (fits (at + 2)) (are_more b3 [] (fits (at + 3)) are_none))) in
    let same : long n ≡ b0 ∷ b1 ∷ b2 ∷ b3 ∷ [] = le_bytes_4 (b0 ∷ b1 ∷ b2 ∷ b3 ∷ []) n refl are (sym g.1) in
    subst (λ (t : List ℕ). Takes bytes at t next) (sym same) cells

-- a number that was read under a limit
pub below_ok : (limit at : ℕ) (number : Result ℕ ℕ) (n : ℕ) → below limit at number ≡ Ok n → (number ≡ Ok n) × (n < limit)
below_ok limit at (Ok m) n h =
    after (guard at (nat_lt m limit)) _ n h (λ test tested h.
    let same = ok_is m n h in
    (ap Ok same, subst (λ (k : ℕ). k < limit) same (ltb-true _ _ (guard_ok at _ test tested))))
below_ok limit at (Err fault) n h = absurd cc

-- the byte below its limit that was read is at this offset
pub byte_below_found : (limit : ℕ) (bytes : List ℕ) (at next n : ℕ) → next ≡ at + 1 → byte_below limit bytes at ≡ Ok n → Takes bytes at (n ∷ []) next
byte_below_found limit bytes at next n e h = byte_found bytes at next n e (below_ok limit at (byte_at bytes at) n h).0

-- the bytes of a word below its limit that was read are its encoding
pub word_below_found : (limit : ℕ) (bytes : List ℕ) → IsBytes bytes → (at next n : ℕ) → next ≡ at + 2
    → word_below limit bytes at ≡ Ok n → Takes bytes at (word n) next
word_below_found limit bytes fits at next n e h = word_found bytes fits at next n e (below_ok limit at (word_at bytes at) n h).0

-- a field that is not used holds 0
pub unused_found : (bytes : List ℕ) (at next n : ℕ) → next ≡ at + 1 → byte_below 1 bytes at ≡ Ok n → Takes bytes at (0 ∷ []) next
unused_found bytes at next n e h =
    let b = below_ok 1 at (byte_at bytes at) n h in
    let none : n ≡ 0 = omega (arith, b.1) in
    subst (λ (m : ℕ). Takes bytes at (m ∷ []) next) none (byte_found bytes at next n e b.0)

-- the byte at this offset is read
pub byte_again : (bytes : List ℕ) (at next b : ℕ) (rest : List ℕ) → next ≡ at + 1 → Left bytes at (b ∷ rest)
    → (byte_at bytes at ≡ Ok b) × Left bytes next rest
byte_again bytes at next b rest e l =
    let p = Left-byte next e l in
    (rw (lt-ltb at (length bytes) p.0, p.1) refl, p.2)

-- the encoding of a word is read as the word
pub word_again : (bytes : List ℕ) (at next n : ℕ) (rest : List ℕ) → next ≡ at + 2 → n < 2 ^ 16 → Left bytes at (word n ++ rest)
    → (word_at bytes at ≡ Ok n) × Left bytes next rest
word_again bytes at next n rest e lt l =
    let p = Left-byte (at + 1) refl l in
    let q = Left-byte next (omega arith) p.2 in
    (rw (lt-ltb (at + 1) (length bytes) q.0, p.1, q.1) (ap Ok (from_le_bytes-to_le_bytes_2 n lt)), q.2)

-- the encoding of a long is read as the long
pub long_again : (bytes : List ℕ) (at next n : ℕ) (rest : List ℕ) → next ≡ at + 4 → n < 2 ^ 32 → Left bytes at (long n ++ rest)
    → (long_at bytes at ≡ Ok n) × Left bytes next rest
long_again bytes at next n rest e lt l =
    let p = Left-byte (at + 1) refl l in
    let q = Left-byte (at + 2) (omega arith) p.2 in
    let r = Left-byte (at + 3) (omega arith) q.2 in
    let s = Left-byte next (omega arith) r.2 in
    (rw (lt-ltb (at + 3) (length bytes) s.0, p.1, q.1, r.1, s.1) (ap Ok (from_le_bytes-to_le_bytes_4 n lt)), s.2)

-- the byte below its limit at this offset is read
pub byte_below_again : (limit : ℕ) (bytes : List ℕ) (at next b : ℕ) (rest : List ℕ) → next ≡ at + 1 → b < limit
    → Left bytes at (b ∷ rest) → (byte_below limit bytes at ≡ Ok b) × Left bytes next rest
byte_below_again limit bytes at next b rest e lt l =
    let p = byte_again bytes at next b rest e l in
    (rw (p.0, lt-ltb b limit lt) refl, p.1)

-- the encoding of a word below its limit is read as the word
pub word_below_again : (limit : ℕ) (bytes : List ℕ) (at next n : ℕ) (rest : List ℕ) → next ≡ at + 2 → n < 2 ^ 16
    → n < limit → Left bytes at (word n ++ rest) → (word_below limit bytes at ≡ Ok n) × Left bytes next rest
word_below_again limit bytes at next n rest e fits lt l =
    let p = word_again bytes at next n rest e fits l in
    (rw (p.0, lt-ltb n limit lt) refl, p.1)
