-- Numbers that grow, and how far they still can.
use Rattle.std.proofs.Common.{◌≡◌, ◌≤◌, ◌<◌, ℕ, zero, suc, ◌+◌, ◌*◌, Bool, true, false, not, List, [], ◌∷◌, length, Option, Some, refl, sym, ap, ◌∙◌, subst, arith, inl, inr}
use lib.Pointwise.{pointwise}
use Rattle.std.specs.Prelude.{nat_eq, max, slice_index, slice_index_or, slice_set}
use Rattle.std.proofs.lemmas.Bool.{cases_eq, cases_lt, eq-eqb, false≢true}
use Rattle.std.proofs.lemmas.Nat.{mul-le}
use Rattle.geos_verify.specs.Lists.{zip2}
use Rattle.geos_image.specs.declared.instr.Instr.{Instr}
use Rattle.geos_image.specs.declared.row.Row.{Row}
use Rattle.geos_image.specs.Parts.{Parts}
use Rattle.geos_opcodes.specs.declared.opcode.Opcode.{Opcode}
use Rattle.geos_opcodes.specs.declared.opcode.Opcode.TheVariants.{Setk, Setkw, Loop, Call}
use Rattle.control_graph.specs.declared.arcs.Arc.{Arc}
use Rattle.control_graph.specs.declared.arcs.Counting.{Counting}
use Rattle.control_graph.specs.declared.arcs.Counting.TheVariants.{Sets, Takes}
use Rattle.control_graph.specs.declared.jumps.Jump.{Jump}
use Rattle.control_graph.specs.declared.jumps.Jump.TheVariants.{Plain}
use Rattle.geos_potentials.specs.declared.lengths.Link.{Link}
use Rattle.control_graph.specs.Arcs.{arc_at, taken_from}
use Rattle.geos_potentials.specs.Arcs.{unit_at, price_of, paid_by, counting_of, AreArcs}
use Rattle.geos_potentials.specs.Demands.{left_at, left_in, AreRaised, HaveGrown}
use Rattle.geos_code.specs.Known.{row_of, known_at}
use Rattle.geos_potentials.specs.Least.{is_free, IsLookedAt, AreLookedAt, AskNoMore, StayAtLoops}
use Rattle.geos_potentials.proofs.Demand.{is-arc}

-- How far numbers can grow

left-max : (xs ys : List ℕ) → length xs ≡ length ys → left_at (zip2 max xs ys) ≤ left_at xs
left-max [] [] same = omega arith
left-max [] (y ∷ ys) same = absurd (omega arith)
left-max (x ∷ xs) [] same = absurd (omega arith)
left-max (x ∷ xs) (y ∷ ys) same = let rest = left-max xs ys (omega arith) in omega (arith, rest)

left-less : (xs ys : List ℕ) → length xs ≡ length ys → ((k : ℕ) → slice_index ys k ≤ 4294967295) → (zip2 max xs ys ≡ xs → ⊥)
    → left_at (zip2 max xs ys) < left_at xs
left-less [] [] same few ne = absurd (ne refl)
left-less [] (y ∷ ys) same few ne = absurd (omega arith)
left-less (x ∷ xs) [] same few ne = absurd (omega arith)
left-less (x ∷ xs) (y ∷ ys) same few ne = elim (cases_lt x y) [
  | inl less ↦
      let rest = left-max xs ys (omega arith) in
      let small : y ≤ 4294967295 = few 0 in
      omega (arith, rest, small, less)
  | inr more ↦
      let head : max x y ≡ x = omega (arith, more) in
      let rest = left-less xs ys (omega arith) (λ k. few (suc k))
      (λ e. ne (ap (λ (n : ℕ). n ∷ zip2 max xs ys) head ∙ ap (λ (zs : List ℕ). x ∷ zs) e)) in
      omega (arith, rest, head)
]

self-same : (xs : List ℕ) → pointwise nat_eq xs xs ≡ true
self-same [] = refl
self-same (x ∷ xs) = rw (eq-eqb x x refl) (self-same xs)

-- lists that a test finds to differ do
pub differ : (xs ys : List ℕ) (test : Bool) → test ≡ not (pointwise nat_eq xs ys) → test ≡ true → xs ≡ ys → ⊥
differ xs ys test is e same = false≢true (sym (ap not (self-same xs)) ∙ ap (λ (zs : List ℕ). not (pointwise nat_eq xs zs)) same ∙ sym is ∙ e)

left-set : (places : List (List ℕ)) (p : ℕ) (here numbers : List ℕ) → here ≡ slice_index_or places p [] → p < length places
    → left_in (slice_set places p numbers) + left_at here ≡ left_in places + left_at numbers
left-set [] p here numbers is room = absurd (omega arith)
left-set (x ∷ places) zero here numbers is room = (let same = ap left_at is in omega (arith, same))
left-set (x ∷ places) (suc p) here numbers is room = (let rest = left-set places p here numbers is (omega arith) in omega (arith, rest))

-- a place waits once more at most where some number has grown
pub less-work : (places next : List (List ℕ)) (p : ℕ) (here numbers more : List ℕ) (count after : ℕ) → here ≡ slice_index_or places p []
    → more ≡ zip2 max here numbers → length here ≡ length numbers → p < length places → ((k : ℕ) → slice_index numbers k ≤ 4294967295)
    → (more ≡ here → ⊥) → next ≡ slice_set places p more → after ≤ count + 1 → 2 * left_in next + after ≤ 2 * left_in places + count
less-work places next p here numbers more count after is greatest same room few grown set_is once =
    let less : left_at (zip2 max here numbers) < left_at here = left-less here numbers same few (λ e. grown (greatest ∙ e)) in
    let whole = left-set places p here more is room in
    let now = ap left_in set_is in
    let numbers_are = ap left_at greatest in
    omega (arith, less, whole, now, numbers_are, once)

-- Numbers that have grown

pub grown-on : (first now next : List (List ℕ)) → HaveGrown first now → HaveGrown now next → HaveGrown first next
grown-on first now next before more pc k = (let one = before pc k in let two = more pc k in omega (arith, one, two))

-- a price grows with them
pub price-grows : (pay next : List (List ℕ)) (to : ℕ) (counting : Counting) → HaveGrown pay next → price_of pay to counting ≤ price_of next to counting
price-grows pay next to (Sets k n) more = mul-le (unit_at pay to k) n (unit_at next to k) n (more to k) (omega arith)
price-grows pay next to _ more = omega arith

-- At LOOPs

-- where they are raised at one place, and not for a LOOP there that is not left out
pub raised-at-loops : (arcs : List (List (Option Arc))) (jumps : List Jump) (old next : List (List ℕ)) (p : ℕ) (numbers : List ℕ)
    → AreRaised old next p numbers
    → ((k : ℕ) (arc : Arc) → arc_at arcs p true ≡ Some arc → taken_from arc.counting ≡ Some k
    → is_free (slice_index_or jumps p Plain) ≡ false → slice_index numbers k ≡ 0) → StayAtLoops arcs jumps old next
raised-at-loops arcs jumps old next p numbers R none pc k arc read takes busy = elim (cases_eq pc p) [
  | inl same ↦ subst (λ (n : ℕ). unit_at next n k ≡ unit_at old n k) (sym same)
      (let zero = none k arc (subst (λ (n : ℕ). arc_at arcs n true ≡ Some arc) same read) takes
      (subst (λ (n : ℕ). is_free (slice_index_or jumps n Plain) ≡ false) same busy) in
      let raised = R.here k in
      omega (arith, zero, raised))
  | inr ne ↦ R.others pc k ne
]

pub stay-on : (arcs : List (List (Option Arc))) (jumps : List Jump) (first now next : List (List ℕ)) → StayAtLoops arcs jumps first now
    → StayAtLoops arcs jumps now next → StayAtLoops arcs jumps first next
stay-on arcs jumps first now next before more pc k arc read takes busy = more pc k arc read takes busy ∙ before pc k arc read takes busy

-- the edge to the next instruction takes from no counter
takes-none : (row : Row) (table : List (List Bool)) (i : Instr) (opcode : Opcode) (k : ℕ) → counting_of row table i opcode false ≡ Takes k → ⊥
takes-none row table i Setk k e = cc
takes-none row table i Setkw k e = cc
takes-none row table i Loop k e = cc
takes-none row table i Call k e = cc
takes-none row table i _ k e = cc

module _ (image : Parts) (r : ℕ) (known : List (Option Row)) (table : List (List Bool)) (arcs : List (List (Option Arc)))
    (noted : AreArcs image r known table arcs) (jumps : List Jump) (pay next : List (List ℕ)) (more : HaveGrown pay next)
    (stay : StayAtLoops arcs jumps pay next) where
  paid-as-much : (pc : ℕ) (branch : Bool) (arc : Arc) (counting : Counting) → arc.counting ≡ counting
      → (branch ≡ true → (k : ℕ) → taken_from arc.counting ≡ Some k → unit_at next pc k ≡ unit_at pay pc k)
      → (branch ≡ false → (k : ℕ) → arc.counting ≡ Takes k → ⊥) → paid_by next pc counting ≤ paid_by pay pc counting
  paid-as-much pc true arc (Takes k) is same none = (let e = same refl k (ap taken_from is) in omega (arith, e))
  paid-as-much pc false arc (Takes k) is same none = absurd (none refl k is)
  paid-as-much pc branch arc _ is same none = omega arith

  -- if prices have grown, but not at the LOOPs whose edges are examined, no examined edge requires more than before
  pub none-asks-more : (links : List (List (Option Link))) → AreLookedAt image r arcs jumps pay links → AskNoMore image r arcs next links
  none-asks-more links looked pc branch link within e =
      let L = subst (IsLookedAt arcs jumps pay pc branch) e (looked pc branch within) in
      let arc = L.0 in
      let dear = price-grows pay next arc.to arc.counting more in
      let costs = L.2.costs in
      let paid = L.2.paid in
      let less = paid-as-much pc branch arc arc.counting refl
      (λ is k takes. stay pc k arc (subst (λ (b : Bool). arc_at arcs pc b ≡ Some arc) is L.1) takes (L.3 is))
      (λ is k takes. (let A = is-arc image r known table arcs noted pc branch arc within L.1 in
      let i = A.leads.point.instr in
      takes-none (row_of (known_at known pc)) table i i.opcode k
      (subst (λ (b : Bool). counting_of (row_of (known_at known pc)) table i i.opcode b ≡ Takes k) is (sym A.counting ∙ takes)))) in
      record {
        arc = arc;
        read = L.1;
        to = L.2.to;
        costs = omega (arith, costs, dear);
        paid = omega (arith, paid, less);
      }
