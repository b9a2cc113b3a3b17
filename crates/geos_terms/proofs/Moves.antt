-- Pieces whose bytes stay, or are shifted.
use Rattle.std.proofs.Common.{◌≡◌, ℕ, ◌+◌, ◌-◌, ◌<◌, ◌≤◌, List, [], ◌∷◌, Some, length, refl, ap, sym, ◌∙◌, subst, arith}
use Rattle.lmem_raw.specs.Bytes.{part}
use Rattle.geos_terms.specs.Bytes.{word, IsShifted}
use Rattle.geos_terms.specs.Chunks.{cost}
use Rattle.geos_terms.specs.Block.{entry, entries, chunk_at}
use Rattle.geos_terms.specs.Heap.{Piece, Used, Free, Tiles, AreUsed, IsOffset}
use Rattle.geos_terms.proofs.Words.{word-shifted, part-shifted, shifted-within}
use Rattle.geos_terms.proofs.Costs.{cost-four, cost-least}
use Rattle.geos_terms.proofs.Pieces.{LiesWithin, tiles-le}
use Rattle.geos_terms.proofs.Entries.{chunk-told}

-- pieces whose bytes and entries stay
pub tiles-kept : (b c : List ℕ) (at f : ℕ) (ps : List Piece) (end next : ℕ) → Tiles b at f ps end next
    → IsShifted b c 0 0 at end → entries b ≤ entries c →
    ((i : ℕ) → i < entries b → at + 2 ≤ entry b i → entry b i < end → entry c i ≡ entry b i) → Tiles c at f ps end next
tiles-kept b c at f [] end next s kept n same = s
tiles-kept b c at f (Used i m ∷ ps) end next s kept n same =
    let le = tiles-le b (at + cost m) f ps end next s.4 in
    let wide = cost-four m s.0 in
    let w = word-shifted b c 0 0 at end at at kept (omega arith) (omega arith) (omega arith) in
    let e = same i s.1 (omega (arith, s.2)) (omega (arith, s.2)) in (
      s.0,
      omega (arith, s.1, n),
      e ∙ s.2,
      w ∙ s.3,
      tiles-kept b c (at + cost m) f ps end next s.4 (shifted-within b c 0 0 at end (at + cost m) end kept (omega arith) (omega arith)) n
          (λ j l low high. same j l (omega arith) high),
    )
tiles-kept b c at f (Free m ∷ ps) end next s kept n same =
    let le = tiles-le b (at + m) (word b (at + 2)) ps end next s.5 in
    let four : 4 ≤ m = omega (arith, s.0, s.1) in
    let w = word-shifted b c 0 0 at end at at kept (omega arith) (omega arith) (omega arith) in
    let v = word-shifted b c 0 0 at end (at + 2) (at + 2) kept (omega arith) (omega arith) (omega arith) in (
      s.0,
      s.1,
      s.2,
      w ∙ s.3,
      (λ e. s.4 (sym v ∙ e)),
      subst (λ (g : ℕ). Tiles c (at + m) g ps end next) (sym v)
          (tiles-kept b c (at + m) (word b (at + 2)) ps end next s.5 (shifted-within b c 0 0 at end (at + m) end kept (omega arith) (omega arith)) n
          (λ j l low high. same j l (omega arith) high)),
    )

-- chunks whose bytes are shifted, and their entries with them
pub tiles-shifted : (b c : List ℕ) (down up at f : ℕ) (ps : List Piece) (end next at' f' end' : ℕ) → AreUsed ps
    → Tiles b at f ps end next → at' + down ≡ at + up → end' + down ≡ end + up → IsShifted b c down up at end → entries b ≤ entries c →
    ((i : ℕ) → i < entries b → at + 2 ≤ entry b i → entry b i < end → entry c i + down ≡ entry b i + up) → Tiles c at' f' ps end' f'
tiles-shifted b c down up at f [] end next at' f' end' used s e g shifted n same = (omega (arith, s.0), refl)
tiles-shifted b c down up at f (Free m ∷ ps) end next at' f' end' used s e g shifted n same = absurd used
tiles-shifted b c down up at f (Used i m ∷ ps) end next at' f' end' used s e g shifted n same =
    let le = tiles-le b (at + cost m) f ps end next s.4 in
    let wide = cost-four m s.0 in
    let w = word-shifted b c down up at end at' at shifted e (omega arith) (omega arith) in
    let d = same i s.1 (omega (arith, s.2)) (omega (arith, s.2)) in (
      s.0,
      omega (arith, s.1, n),
      omega (arith, d, s.2),
      w ∙ s.3,
      tiles-shifted b c down up (at + cost m) f ps end next (at' + cost m) f' end' used s.4 (omega arith) g
          (shifted-within b c down up at end (at + cost m) end shifted (omega arith) (omega arith)) n (λ j l low high. same j l (omega arith) high),
    )

-- the chunk of an entry, shifted with it
pub chunk-shifted : (b c : List ℕ) (down up lo hi hi' e d : ℕ) → LiesWithin b e lo hi → IsShifted b c down up lo hi
    → d + down ≡ e + up → hi' + down ≡ hi + up → 2 ≤ d → hi ≤ length b → hi' ≤ length c → IsOffset e → IsOffset d → chunk_at c d ≡ chunk_at b e
chunk-shifted b c down up lo hi hi' e d l shifted is end low fits_b fits_c told_e told_d =
    let wide = cost-least l.n l.some in
    let w : word c (d - 2) ≡ word b (e - 2) = word-shifted b c down up lo hi (d - 2) (e - 2) shifted (omega arith) (omega arith) (omega arith) in
    let n : word b (e - 2) - 2 ≡ l.n = omega (arith, l.says) in
    let p : part c d l.n ≡ part b e l.n = part-shifted b c down up lo hi d e l.n shifted is (omega arith) (omega arith) (omega arith) (omega arith) in
    chunk-told c d told_d ∙ ap (λ m. Some (part c d (m - 2))) w ∙ ap (λ m. Some (part c d m)) n ∙ ap (λ x. Some x) p
    ∙ ap (λ m. Some (part b e m)) (sym n) ∙ sym (chunk-told b e told_e)

-- a chunk whose entry and bytes stay
pub chunk-stays : (b c : List ℕ) (lo hi e d : ℕ) → LiesWithin b e lo hi → IsShifted b c 0 0 lo hi → d ≡ e → hi ≤ length b
    → hi ≤ length c → IsOffset e → chunk_at c d ≡ chunk_at b e
chunk-stays b c lo hi e d l kept same fits_b fits_c t =
    chunk-shifted b c 0 0 lo hi hi e d l kept (omega (arith, same)) (omega arith) (omega (arith, same, l.from)) fits_b
    fits_c t ((λ z. t.0 (sym same ∙ z)), (λ z. t.1 (sym same ∙ z)))
