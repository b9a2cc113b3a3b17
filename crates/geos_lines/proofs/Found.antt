-- The faults that are found, as lines are taken one by one.
use Rattle.std.proofs.Common.{◌≡◌, ◌∙◌, ◌+◌, ◌<◌, ℕ, List, [], ◌++◌, length, map, Option, refl, sym, ap, suc, drop, get_or, drop-cons, arith}
use Rattle.std.proofs.Common.{append_assoc}
use Rattle.geos_source.specs.declared.fault.Why.{Why}
use Rattle.geos_source.specs.declared.fault.BadLine.{BadLine}
use Rattle.geos_source.specs.Faults.{at_line}
use Rattle.geos_lines.specs.Faulty.{IsFound, faults_from, listed}
use Rattle.geos_lines.specs.declared.faulty.FaultyLine.{FaultyLine}

-- no fault is found among none
pub none-found : (lines : List FaultyLine) → lines ≡ [] → IsFound [] lines 0
none-found lines none =
    let empty : length lines ≡ 0 = ap length none in
    record {
      others = [];
      in_order = ap (λ ls. map (λ (line : FaultyLine). line.fault) ls ++ []) (sym none);
      so_many = refl;
      few = omega (arith, empty);
      full = λ some. absurd (omega (arith, some));
    }

-- the next line of a table
pub next-line : (whys : List (Option Why)) (i : ℕ) (why : Option Why) (earlier : List BadLine) → i < length whys → why ≡ get_or whys i why
    → earlier ++ faults_from (i + 1) (drop i whys) ≡ (earlier ++ listed (at_line (i + 1) why)) ++ faults_from ((i + 1) + 1) (drop (i + 1) whys)
next-line whys i why earlier within same =
    let next : suc i ≡ i + 1 = omega arith in
    ap (λ d. earlier ++ faults_from (i + 1) d) (drop-cons whys i why within)
    ∙ ap (λ k. earlier ++ (listed (at_line (i + 1) (get_or whys i why)) ++ faults_from ((i + 1) + 1) (drop k whys))) next
    ∙ ap (λ w. earlier ++ (listed (at_line (i + 1) w) ++ faults_from ((i + 1) + 1) (drop (i + 1) whys))) (sym same)
    ∙ sym (append_assoc earlier (listed (at_line (i + 1) why)) (faults_from ((i + 1) + 1) (drop (i + 1) whys)))
