-- Headers whose words stay.
use Rattle.std.proofs.Common.{◌≡◌, ℕ, ◌+◌, ◌%◌, ◌<◌, ◌≤◌, List, length, get_or, ap, sym, ◌∙◌, arith}
use Rattle.geos_terms.specs.Bytes.{word}
use Rattle.geos_terms.specs.Block.{entries}
use Rattle.geos_terms.specs.Heap.{IsHeader}
use Rattle.geos_terms.proofs.Words.{word-bytes}

-- the first n bytes of two blocks are the same
abbrev pub SameHead : List ℕ → List ℕ → ℕ → Type 0
SameHead old new n = (k : ℕ) → k < n → get_or new k 0 ≡ get_or old k 0

pub head-word : (b c : List ℕ) (n k : ℕ) → SameHead b c n → k + 2 ≤ n → word c k ≡ word b k
head-word b c n k same h = word-bytes b c k k (same k (omega arith)) (same (k + 1) (omega arith))

pub same-header : (b c : List ℕ) → IsHeader b → length c ≡ length b → SameHead b c 12 → IsHeader c
same-header b c h long head =
    let w : (j : ℕ) → j + 2 ≤ 12 → word c j ≡ word b j = (λ j l. head-word b c 12 j head l) in
    let n : entries c ≡ entries b = w 10 (omega arith) in
    record {
      table = w 2 (omega arith) ∙ h.table;
      flags = w 4 (omega arith) ∙ h.flags;
      kind = w 6 (omega arith) ∙ h.kind;
      size = w 8 (omega arith) ∙ h.size ∙ sym long;
      least = omega (arith, long, h.least);
      most = omega (arith, long, h.most);
      sixteens = ap (λ x. x % 16) long ∙ h.sixteens;
      pairs = ap (λ x. x % 2) n ∙ h.pairs;
      some = omega (arith, n, h.some);
      fits = omega (arith, n, long, h.fits);
    }
