-- The bytes at an offset, and the bytes that are left to be read there.
use Rattle.std.proofs.Common.{◌≡◌, ℕ, suc, ◌+◌, ◌*◌, ◌<◌, ◌≤◌, List, [], ◌∷◌, ◌++◌, length, get_or, drop, refl, sym, ap, ◌∙◌, append_assoc, arith}
use Rattle.std.proofs.lemmas.List.{drop_more, length-drop}

-- an offset by way of another
pub plus : (at j k : ℕ) → at + (j + k) ≡ at + j + k
plus at j k = omega arith

-- the end of items of one width, counted from the end of the first item
pub behind_first : (at width n next : ℕ) → next ≡ at + width * suc n → next ≡ at + width + width * n
behind_first at width n next e = omega arith

-- no things end where they begin
pub no_more : (at width next : ℕ) → next ≡ at + width * 0 → at ≡ next
no_more at width next e = omega arith

-- each of them is below 256
abbrev pub IsBytes : List ℕ → Type 0
IsBytes bytes = (i : ℕ) → get_or bytes i 0 < 256

-- a text lies from one offset to the other
pub record Takes (bytes : List ℕ) (at : ℕ) (text : List ℕ) (next : ℕ) : Type 0 where
  pub parts : drop at bytes ≡ text ++ drop next bytes

-- no text
pub Takes-none : (bytes : List ℕ) (at : ℕ) → Takes bytes at [] at
Takes-none bytes at = record { parts = refl }

-- two texts side by side are one
pub Takes-then : {bytes x y : List ℕ} {at mid next : ℕ} → Takes bytes at x mid → Takes bytes mid y next → Takes bytes at (x ++ y) next
Takes-then {bytes} {x} {y} {at} {mid} {next} p q = record {
  parts = p.parts ∙ ap (λ (t : List ℕ). x ++ t) q.parts
      ∙ sym (append_assoc x y (drop next bytes));
}

-- one byte
pub Takes-byte : (bytes : List ℕ) (at next : ℕ) → next ≡ at + 1 → at < length bytes → Takes bytes at (get_or bytes at 0 ∷ []) next
Takes-byte bytes at next e lt = record { parts = drop_more bytes at 0 lt ∙ ap (λ (k : ℕ). get_or bytes at 0 ∷ drop k bytes) (sym e) }

-- from the offset on, these bytes are left
pub record Left (bytes : List ℕ) (at : ℕ) (rest : List ℕ) : Type 0 where
  pub within : at ≤ length bytes
  pub parts : drop at bytes ≡ rest

-- the same bytes in other words
pub Left-as : {bytes x y : List ℕ} {at : ℕ} → x ≡ y → Left bytes at x → Left bytes at y
Left-as e l = record { within = l.within; parts = l.parts ∙ e }

-- four texts and a rest, one after the other
pub four_texts : (a b c d rest : List ℕ) → a ++ b ++ c ++ d ++ rest ≡ a ++ (b ++ (c ++ (d ++ rest)))
four_texts a b c d rest = simp append_assoc

-- six texts and a rest, one after the other
pub six_texts : (a b c d e f rest : List ℕ) → a ++ b ++ c ++ d ++ e ++ f ++ rest ≡ a ++ (b ++ (c ++ (d ++ (e ++ (f ++ rest)))))
six_texts a b c d e f rest = simp append_assoc

-- one byte is left before others
pub Left-byte : {bytes rest : List ℕ} {at b : ℕ} (next : ℕ) → next ≡ at + 1 → Left bytes at (b ∷ rest) → (at < length bytes)
    × (get_or bytes at 0 ≡ b) × Left bytes next rest
Left-byte {bytes} {rest} {at} {b} next e l =
    let lt : at < length bytes = omega (arith, length-drop at bytes, ap length l.parts) in
    let both : get_or bytes at 0 ∷ drop (at + 1) bytes ≡ b ∷ rest = sym (drop_more bytes at 0 lt) ∙ l.parts in
    (lt, cc, record { within = omega arith; parts = cc })
