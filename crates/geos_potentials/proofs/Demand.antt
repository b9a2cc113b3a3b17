-- However prices spread, each price that is not 0 is required by a LOOP.
use Rattle.std.proofs.Common.{◌≡◌, ◌≤◌, ◌<◌, ◌⊎◌, ℕ, zero, suc, Bool, true, false, List, [], ◌∷◌, length, Option, Some, refl, sym, ap, ◌∙◌, subst, arith, inl, inr}
use Rattle.std.specs.Prelude.{max, if◌then◌else◌, slice_index, slice_index_or, slice_set}
use Rattle.std.proofs.lemmas.Bool.{cases_eq, cases_lt}
use Rattle.std.proofs.lemmas.List.{get_or-set_same, get_or-set_other, get_or_past, set_past}
use Rattle.std.proofs.lemmas.Option.{same_Some, none-some}
use Rattle.control_graph.specs.declared.arcs.Arc.{Arc}
use Rattle.control_graph.specs.declared.arcs.Counting.{Counting}
use Rattle.control_graph.specs.declared.arcs.Counting.TheVariants.{Takes}
use Rattle.geos_opcodes.specs.declared.opcode.Opcode.{Opcode}
use Rattle.geos_opcodes.specs.declared.opcode.Opcode.TheVariants.{Setk, Setkw, Loop}
use Rattle.geos_image.specs.declared.instr.Instr.{Instr}
use Rattle.geos_image.specs.declared.row.Row.{Row}
use Rattle.geos_image.specs.Parts.{Parts}
use Rattle.geos_verify.specs.Lists.{zip2}
use Rattle.control_graph.specs.Arcs.{arc_at, keeps, taken_from}
use Rattle.geos_potentials.specs.Arcs.{unit_at, counting_of, IsArc, IsArcIf, AreArcs}
use Rattle.geos_code.specs.Code.{IsPcOf}
use Rattle.geos_potentials.specs.Constants.{asks_coefficient, IsAskingWay, AreForLoops, coefficients_at}
use Rattle.geos_code.specs.Known.{row_of, known_at}
use Rattle.geos_counters.specs.Counters.{zeros}
use Rattle.geos_potentials.proofs.Asks.{zero-at}
use Rattle.geos_potentials.specs.Demands.{kept_over, AreRaised, IsKeptOver, IsWanted, AreWanted, StayWanted}

-- units only grow
pub grows : (old next : List (List ℕ)) (p : ℕ) (numbers : List ℕ) → AreRaised old next p numbers → (at k : ℕ) → unit_at old at k ≤ unit_at next at k
grows old next p numbers R at k = elim (cases_eq at p) [
  | inl same ↦ subst (λ (n : ℕ). unit_at old n k ≤ unit_at next n k) (sym same) (let is = R.here k in omega (arith, is))
  | inr ne ↦ (let is = R.others at k ne in omega (arith, is))
]

-- after prices have grown, what was required still is
still : (arcs : List (List (Option Arc))) (old next : List (List ℕ)) (p : ℕ) (numbers : List ℕ) → AreRaised old next p numbers
    → (pc k n : ℕ) → IsWanted arcs old pc k n → IsWanted arcs next pc k n
still arcs old next p numbers R pc k n W =
    record {
      at = W.at;
      branches = W.branches;
      way = W.way;
      arc = W.arc;
      loop = W.loop;
      takes = W.takes;
      much =
          (let much = W.much in let more = grows old next p numbers R W.at k in omega (arith, much, more));
    }

-- and all is, where the numbers are
pub raised-wanted : (arcs : List (List (Option Arc))) (old next : List (List ℕ)) (p : ℕ) (numbers : List ℕ)
    → AreRaised old next p numbers → ((k : ℕ) → 0 < slice_index numbers k → IsWanted arcs next p k (slice_index numbers k)) → StayWanted arcs old next
raised-wanted arcs old next p numbers R wanted before pc k some = elim (cases_eq pc p) [
  | inl same ↦ subst (λ (n : ℕ). IsWanted arcs next n k (unit_at next n k)) (sym same)
      (here (cases_lt (unit_at old p k) (slice_index numbers k)) (subst (λ (n : ℕ). 0 < unit_at next n k) same some))
  | inr ne ↦
      let is = R.others pc k ne in
      subst (IsWanted arcs next pc k) (sym is) (still arcs old next p numbers R pc k (unit_at old pc k)
      (before pc k (subst (λ (n : ℕ). 0 < n) is some)))
]
  where
    here : (unit_at old p k < slice_index numbers k) ⊎ (slice_index numbers k ≤ unit_at old p k) → 0 < unit_at next p k
        → IsWanted arcs next p k (unit_at next p k)
    here (inl more) some =
        let is : unit_at next p k ≡ slice_index numbers k = (let raised = R.here k in omega (arith, raised, more)) in
        subst (IsWanted arcs next p k) (sym is) (wanted k (subst (λ (n : ℕ). 0 < n) is some))
    here (inr less) some =
        let is : unit_at next p k ≡ unit_at old p k = (let raised = R.here k in omega (arith, raised, less)) in
        subst (IsWanted arcs next p k) (sym is) (still arcs old next p numbers R p k (unit_at old p k)
        (before p k (subst (λ (n : ℕ). 0 < n) is some)))

-- Numbers that are set

max-at : (xs ys : List ℕ) (k : ℕ) → length xs ≡ length ys → slice_index (zip2 max xs ys) k ≡ max (slice_index xs k) (slice_index ys k)
max-at [] [] k same = refl
max-at [] (y ∷ ys) k same = absurd (omega arith)
max-at (x ∷ xs) [] k same = absurd (omega arith)
max-at (x ∷ xs) (y ∷ ys) zero same = refl
max-at (x ∷ xs) (y ∷ ys) (suc k) same = max-at xs ys k (omega arith)

-- they are raised where the greater ones are set
pub raised-set : (old next : List (List ℕ)) (p : ℕ) (here numbers more : List ℕ) → here ≡ slice_index_or old p []
    → more ≡ zip2 max here numbers → length here ≡ length numbers → p < length old → next ≡ slice_set old p more → AreRaised old next p numbers
raised-set old next p here numbers more is greatest same room set_is = record {
  here = λ k. ap (λ (xs : List (List ℕ)). unit_at xs p k) set_is ∙ ap (λ (xs : List ℕ). slice_index xs k) (get_or-set_same old p more [] room)
      ∙ ap (λ (xs : List ℕ). slice_index xs k) greatest ∙ max-at here numbers k same
      ∙ ap (λ (xs : List ℕ). max (slice_index xs k) (slice_index numbers k)) is;
  others = λ at k ne. ap (λ (xs : List (List ℕ)). unit_at xs at k) set_is ∙ ap (λ (xs : List ℕ). slice_index xs k)
      (get_or-set_other old p at more [] ne);
}

-- and where none is greater
pub raised-same : (old next : List (List ℕ)) (p : ℕ) (here numbers more : List ℕ) → here ≡ slice_index_or old p []
    → more ≡ zip2 max here numbers → length here ≡ length numbers → more ≡ here → next ≡ old → AreRaised old next p numbers
raised-same old next p here numbers more is greatest same equal stays = record {
  here = λ k. ap (λ (xs : List (List ℕ)). unit_at xs p k) stays ∙ ap (λ (xs : List ℕ). slice_index xs k) (sym is ∙ sym equal ∙ greatest)
      ∙ max-at here numbers k same ∙ ap (λ (xs : List ℕ). max (slice_index xs k) (slice_index numbers k)) is;
  others = λ at k ne. ap (λ (xs : List (List ℕ)). unit_at xs at k) stays;
}

-- Back over an edge

some-kept : (b : Bool) (n : ℕ) → 0 < (if b then n else 0) → (b ≡ true) × ((if b then n else 0) ≡ n)
some-kept true n some = (refl, refl)
some-kept false n some = absurd (omega arith)

pub kept-some : (counting : Counting) (numbers : List ℕ) (k : ℕ) → 0 < slice_index (kept_over counting numbers) k
    → (keeps counting k ≡ true) × (slice_index (kept_over counting numbers) k ≡ slice_index numbers k)
kept-some counting numbers zero some = some-kept (keeps counting 0) (slice_index numbers 0) some
kept-some counting numbers (suc zero) some = some-kept (keeps counting 1) (slice_index numbers 1) some
kept-some counting numbers (suc (suc zero)) some = some-kept (keeps counting 2) (slice_index numbers 2) some
kept-some counting numbers (suc (suc (suc zero))) some = some-kept (keeps counting 3) (slice_index numbers 3) some
kept-some counting numbers (suc (suc (suc (suc k)))) some = absurd (omega arith)

-- the prices at the end of an edge, for counters that the edge does not change, are required at its start
pub some-back-wanted : (arcs : List (List (Option Arc))) (old next : List (List ℕ)) (p : ℕ) (branch : Bool) (arc : Arc) (numbers : List ℕ)
    → arc_at arcs p branch ≡ Some arc
    → ((k : ℕ) → 0 < slice_index numbers k → slice_index numbers k ≡ slice_index (kept_over arc.counting (slice_index_or old arc.to [])) k)
    → AreRaised old next p numbers → StayWanted arcs old next
some-back-wanted arcs old next p branch arc numbers read is R before = raised-wanted arcs old next p numbers R wanted before
  where
    wanted : (k : ℕ) → 0 < slice_index numbers k → IsWanted arcs next p k (slice_index numbers k)
    wanted k some =
        let same = is k some in
        let kept = kept-some arc.counting (slice_index_or old arc.to []) k (subst (λ (n : ℕ). 0 < n) same some) in
        let number : slice_index numbers k ≡ unit_at old arc.to k = same ∙ kept.1 in
        let W = still arcs old next p numbers R arc.to k (unit_at old arc.to k) (before arc.to k (subst (λ (n : ℕ). 0 < n) number some)) in
        subst (IsWanted arcs next p k) (sym number)
        (record {
          at = W.at;
          branches = branch ∷ W.branches;
          way = (arc, read, kept.0, W.way);
          arc = W.arc;
          loop =
              W.loop;
          takes = W.takes;
          much = W.much;
        })

-- of all
pub back-wanted : (arcs : List (List (Option Arc))) (old next : List (List ℕ)) (p : ℕ) (branch : Bool) (arc : Arc) (numbers : List ℕ)
    → arc_at arcs p branch ≡ Some arc → numbers ≡ kept_over arc.counting (slice_index_or old arc.to []) → AreRaised old next p numbers
    → StayWanted arcs old next
back-wanted arcs old next p branch arc numbers read is = some-back-wanted arcs old next p branch arc numbers read
    (λ k some. ap (λ (xs : List ℕ). slice_index xs k) is)

-- At a LOOP

-- only the number of one counter is not 0
pub only-some : (k j n : ℕ) → 0 < slice_index (slice_set zeros k n) j → (j ≡ k) × (slice_index (slice_set zeros k n) j ≡ n)
only-some k j n some = elim (cases_eq j k) [
  | inl same ↦ elim (cases_lt k 4) [
    | inl few ↦ (same, ap (λ (i : ℕ). slice_index (slice_set zeros k n) i) same ∙ get_or-set_same zeros k n 0 few)
    | inr past ↦ (
        let none : slice_index (slice_set zeros k n) j ≡ 0 = ap (λ (xs : List ℕ). slice_index xs j) (set_past zeros k n past) ∙ zero-at j in
        absurd (omega (arith, some, none)))
  ]
  | inr ne ↦ (let none : slice_index (slice_set zeros k n) j ≡ 0 = get_or-set_other zeros k j n 0 ne ∙ zero-at j in
      absurd (omega (arith, some, none)))
]

-- a LOOP requires a unit of its own counter
pub loop-wanted : (arcs : List (List (Option Arc))) (old next : List (List ℕ)) (p k n : ℕ) (arc : Arc)
    → arc_at arcs p true ≡ Some arc → taken_from arc.counting ≡ Some k → AreRaised old next p (slice_set zeros k n) → StayWanted arcs old next
loop-wanted arcs old next p k n arc read takes R before = raised-wanted arcs old next p (slice_set zeros k n) R wanted before
  where
    takes-it : (counting : Counting) → taken_from counting ≡ Some k → counting ≡ Takes k
    takes-it (Takes other) e = ap (λ (i : ℕ). Takes i) (same_Some other k e)
    takes-it _ e = absurd (none-some k e)

    wanted : (j : ℕ) → 0 < slice_index (slice_set zeros k n) j → IsWanted arcs next p j (slice_index (slice_set zeros k n) j)
    wanted j some =
        let parts = only-some k j n some in
        record {
          at = p;
          branches = [];
          way = refl;
          arc = arc;
          loop = read;
          takes = takes-it arc.counting takes ∙ ap (λ (i : ℕ). Takes i) (sym parts.0);
          much = (let raised = R.here j in omega (arith, raised));
        }

-- if no unit pays for anything, nothing is required
pub none-wanted : (arcs : List (List (Option Arc))) (pay : List (List ℕ)) → ((pc k : ℕ) → unit_at pay pc k ≡ 0) → AreWanted arcs pay
none-wanted arcs pay none pc k some = (let zero = none pc k in absurd (omega (arith, some, zero)))

-- also where a table is filled with 0
pub filled-wanted : (arcs : List (List (Option Arc))) (pay : List (List ℕ)) → length pay ≡ 4096
    → ((pc : ℕ) (other : List ℕ) → 0 ≤ pc → pc < 4096 → slice_index_or pay pc other ≡ zeros) → AreWanted arcs pay
filled-wanted arcs pay long filled = none-wanted arcs pay none
  where
    none : (pc k : ℕ) → unit_at pay pc k ≡ 0
    none pc k = elim (cases_lt pc 4096) [
      | inl lt ↦ ap (λ (xs : List ℕ). slice_index xs k) (filled pc [] (omega arith) lt) ∙ zero-at k
      | inr past ↦ ap (λ (xs : List ℕ). slice_index xs k) (get_or_past pay pc [] (omega (arith, past, long)))
    ]

-- What is counted

-- an edge that does not change a counter requires its coefficient
asks-kept : (row : Row) (table : List (List Bool)) (i : Instr) (opcode : Opcode) (branch : Bool) (k : ℕ)
    → keeps (counting_of row table i opcode branch) k ≡ true → asks_coefficient k i opcode branch ≡ true
asks-kept row table i Setk true k e = refl
asks-kept row table i Setk false k e = e
asks-kept row table i Setkw true k e = refl
asks-kept row table i Setkw false k e = e
asks-kept row table i Loop true k e = refl
asks-kept row table i Loop false k e = e
asks-kept row table i _ branch k e = refl

-- what takes a unit is a LOOP
takes-loop : (row : Row) (table : List (List Bool)) (i : Instr) (opcode : Opcode) (k : ℕ) → counting_of row table i opcode true ≡ Takes k
    → (opcode ≡ Loop) × (i.a ≡ k)
takes-loop row table i Loop k e = (refl, cc)
takes-loop row table i _ k e = absurd cc

module _ (image : Parts) (r : ℕ) (known : List (Option Row)) (table : List (List Bool)) (arcs : List (List (Option Arc)))
    (noted : AreArcs image r known table arcs) where
  -- a noted edge is one of the routine
  pub is-arc : (pc : ℕ) (branch : Bool) (arc : Arc) → IsPcOf image r pc → arc_at arcs pc branch ≡ Some arc → IsArc image r known table pc branch arc
  is-arc pc branch arc within read = subst (IsArcIf image r known table pc branch) read (noted pc branch within)

  -- each edge of the path requires the coefficient
  asking : (k : ℕ) (branches : List Bool) (from to : ℕ) → IsPcOf image r from → IsKeptOver arcs k from branches to
      → IsAskingWay image r k from branches to × IsPcOf image r to
  asking k [] from to within way = (way, subst (IsPcOf image r) way within)
  asking k (branch ∷ branches) from to within way =
      let arc = way.0 in
      let A = is-arc from branch arc within way.1 in
      let rest = asking k branches arc.to to A.stays way.3 in
      let kept : keeps (counting_of (row_of (known_at known from)) table A.leads.point.instr A.leads.point.instr.opcode branch) k ≡ true =
      ap (λ (c : Counting). keeps c k) (sym A.counting) ∙ way.2 in (
        (
          arc.to,
          record {
            leads = A.leads;
            stays = A.stays;
            asks = asks-kept (row_of (known_at known from)) table
                A.leads.point.instr A.leads.point.instr.opcode branch k kept;
          },
          rest.0,
        ),
        rest.1,
      )

  -- so the coefficients that are what units pay for are for LOOPs
  pub for-loops : (pay coefficients : List (List ℕ)) → AreWanted arcs pay
      → ((pc : ℕ) → IsPcOf image r pc → slice_index_or coefficients pc [] ≡ slice_index_or pay pc [])
      → AreForLoops image r (coefficients_at coefficients)
  for-loops pay coefficients wanted same pc k within some =
      let here : slice_index (coefficients_at coefficients pc) k ≡ unit_at pay pc k = ap (λ (xs : List ℕ). slice_index xs k) (same pc within) in
      let W = wanted pc k (subst (λ (n : ℕ). 0 < n) here some) in
      let way = asking k W.branches pc W.at within W.way in
      let A = is-arc W.at true W.arc way.1 W.loop in
      let loop = takes-loop (row_of (known_at known W.at)) table A.leads.point.instr A.leads.point.instr.opcode k (sym A.counting ∙ W.takes) in
      let there : slice_index (coefficients_at coefficients W.at) k ≡ unit_at pay W.at k = ap (λ (xs : List ℕ). slice_index xs k) (same W.at way.1) in
      record {
        at = W.at;
        within = way.1;
        branches = W.branches;
        way = way.0;
        point = A.leads.point;
        there = A.leads.there;
        loops = loop.0;
        counter = loop.1;
        much = (let much = W.much in omega (arith, much, here, there));
      }
