-- Numbers of counters come along edges that keep these.
use Rattle.std.proofs.Common.{◌≡◌, ◌≤◌, ◌<◌, ◌⊎◌, ℕ, Bool, false, List, [], ◌∷◌, ◌++◌, length, Option, Some, refl, sym, ap, ◌∙◌, subst, arith, inl, inr}
use Rattle.std.specs.Prelude.{slice_index, slice_index_or}
use Rattle.std.proofs.lemmas.Bool.{cases_eq, cases_lt}
use Rattle.std.proofs.lemmas.List.{get_or_past}
use Rattle.control_graph.specs.declared.arcs.Arc.{Arc}
use Rattle.control_graph.specs.Arcs.{arc_at}
use Rattle.geos_potentials.specs.Arcs.{unit_at}
use Rattle.geos_potentials.specs.Demands.{kept_over, AreRaised, IsKeptOver}
use Rattle.geos_counters.specs.Counters.{zeros}
use Rattle.geos_potentials.specs.Spreads.{HasCome, HaveCome, StayCome, ComesBehind, Does, ComeBehind}
use Rattle.geos_potentials.proofs.Asks.{zero-at}
use Rattle.geos_potentials.proofs.Demand.{kept-some}

-- what holds of each number that is not 0 holds of those that are raised, if it does of the new ones
pub raised-all : (P : ℕ → ℕ → ℕ → Type 0) (low : ℕ) (old next : List (List ℕ)) (p : ℕ) (numbers : List ℕ) → AreRaised old next p numbers
    → ((pc k : ℕ) → low ≤ pc → 0 < unit_at old pc k → P pc k (unit_at old pc k))
    → ((k : ℕ) → low ≤ p → 0 < slice_index numbers k → P p k (slice_index numbers k))
    → (pc k : ℕ) → low ≤ pc → 0 < unit_at next pc k → P pc k (unit_at next pc k)
raised-all P low old next p numbers R before new pc k above some = elim (cases_eq pc p) [
  | inl same ↦ subst (λ (n : ℕ). P n k (unit_at next n k)) (sym same)
      (here (subst (λ (n : ℕ). low ≤ n) same above) (cases_lt (unit_at old p k) (slice_index numbers k))
      (subst (λ (n : ℕ). 0 < unit_at next n k) same some))
  | inr ne ↦
      let is = R.others pc k ne in
      subst (P pc k) (sym is) (before pc k above (subst (λ (n : ℕ). 0 < n) is some))
]
  where
    here : low ≤ p → (unit_at old p k < slice_index numbers k) ⊎ (slice_index numbers k ≤ unit_at old p k) → 0 < unit_at next p k
        → P p k (unit_at next p k)
    here above (inl more) some =
        let is : unit_at next p k ≡ slice_index numbers k = (let raised = R.here k in omega (arith, raised, more)) in
        subst (P p k) (sym is) (new k above (subst (λ (n : ℕ). 0 < n) is some))
    here above (inr less) some =
        let is : unit_at next p k ≡ unit_at old p k = (let raised = R.here k in omega (arith, raised, less)) in
        subst (P p k) (sym is) (before p k above (subst (λ (n : ℕ). 0 < n) is some))

-- two paths in sequence
pub way-on : (arcs : List (List (Option Arc))) (k : ℕ) (branches others : List Bool) (from mid to : ℕ)
    → IsKeptOver arcs k from branches mid → IsKeptOver arcs k mid others to → IsKeptOver arcs k from (branches ++ others) to
way-on arcs k [] others from mid to way rest = subst (λ (n : ℕ). IsKeptOver arcs k n others to) (sym way) rest
way-on arcs k (branch ∷ branches) others from mid to way rest =
    (way.0, way.1, way.2, way-on arcs k branches others way.0.to mid to way.3 rest)

-- what an edge keeps comes where it leads
pub along-come : (arcs : List (List (Option Arc))) (old next : List (List ℕ)) (p : ℕ) (branch : Bool) (arc : Arc) (numbers : List ℕ)
    → arc_at arcs p branch ≡ Some arc → numbers ≡ kept_over arc.counting (slice_index_or old p []) → AreRaised old next arc.to numbers
    → StayCome arcs p old next
along-come arcs old next p branch arc numbers read is R low first above before = raised-all (HasCome arcs low first) low old next arc.to
    numbers R before new
  where
    new : (k : ℕ) → low ≤ arc.to → 0 < slice_index numbers k → HasCome arcs low first arc.to k (slice_index numbers k)
    new k inside some =
        let same : slice_index numbers k ≡ slice_index (kept_over arc.counting (slice_index_or old p [])) k =
        ap (λ (xs : List ℕ). slice_index xs k) is in
        let kept = kept-some arc.counting (slice_index_or old p []) k (subst (λ (n : ℕ). 0 < n) same some) in
        let number : slice_index numbers k ≡ unit_at old p k = same ∙ kept.1 in
        let H = before p k above (subst (λ (n : ℕ). 0 < n) number some) in
        record {
          from = H.from;
          above = H.above;
          branches = H.branches ++ (branch ∷ []);
          way = way-on arcs k H.branches (branch ∷ []) H.from p arc.to H.way (arc, read, kept.0, refl);
          is = number ∙ H.is;
        }

-- at first each number is at its own pc
pub come-refl : (arcs : List (List (Option Arc))) (low : ℕ) (old : List (List ℕ)) → HaveCome arcs low old old
come-refl arcs low old pc k above some = record { from = pc; above = above; branches = []; way = refl; is = refl }

-- Numbers that come from edges

-- numbers that are raised where such an edge leads
pub behind-raised : (arcs : List (List (Option Arc))) (low : ℕ) (place : ℕ → Type 0) (does : Does) (old next : List (List ℕ)) (p : ℕ) (arc : Arc)
    (numbers : List ℕ) → place p → arc_at arcs p false ≡ Some arc
    → ((k : ℕ) → 0 < slice_index numbers k → does k (slice_index numbers k) arc.counting) → AreRaised old next arc.to numbers
    → ComeBehind arcs low place does old → ComeBehind arcs low place does next
behind-raised arcs low place does old next p arc numbers here read done R before =
    raised-all (λ pc k n. ComesBehind arcs place (does k n) pc k) low old next arc.to numbers R before
    (λ k above some. record { at = p; here = here; arc = arc; read = read; done = done k some; branches = []; way = refl })

-- numbers that have come from others, which have come from the ends of the given edges
pub behind-come : (arcs : List (List (Option Arc))) (low : ℕ) (place : ℕ → Type 0) (does : Does) (old next : List (List ℕ))
    → ComeBehind arcs low place does old → HaveCome arcs low old next → ComeBehind arcs low place does next
behind-come arcs low place does old next before come pc k above some =
    let H = come pc k above some in
    let C = before H.from k H.above (subst (λ (n : ℕ). 0 < n) H.is some) in
    record {
      at = C.at;
      here = C.here;
      arc = C.arc;
      read = C.read;
      done = subst (λ (n : ℕ). does k n C.arc.counting) (sym H.is) C.done;
      branches = C.branches ++ H.branches;
      way = way-on arcs k C.branches H.branches C.arc.to H.from pc C.way H.way;
    }

-- numbers that have come from the numbers that were raised at a single pc
pub from-come : (arcs : List (List (Option Arc))) (low p : ℕ) (old mid next : List (List ℕ)) (numbers : List ℕ)
    → ((pc k : ℕ) → low ≤ pc → unit_at old pc k ≡ 0) → AreRaised old mid p numbers → HaveCome arcs low mid next
    → (pc k : ℕ) → low ≤ pc → 0 < unit_at next pc k → (branches : List Bool) × IsKeptOver arcs k p branches pc
from-come arcs low p old mid next numbers none R come pc k above some =
    let H = come pc k above some in (
      H.branches,
      elim (cases_eq H.from p) [
        | inl same ↦ subst (λ (n : ℕ). IsKeptOver arcs k n H.branches pc) same H.way
        | inr ne ↦
            let other = R.others H.from k ne in
            let zero = none H.from k H.above in
            let is = H.is in
            absurd (omega (arith, some, other, zero, is))
      ],
    )

-- a table that is filled with 0 from a pc on
pub filled-none : (low : ℕ) (spread : List (List ℕ)) → length spread ≡ 4096
    → ((pc : ℕ) (other : List ℕ) → low ≤ pc → pc < 4096 → slice_index_or spread pc other ≡ zeros)
    → (pc k : ℕ) → low ≤ pc → unit_at spread pc k ≡ 0
filled-none low spread long filled pc k above = elim (cases_lt pc 4096) [
  | inl lt ↦ ap (λ (xs : List ℕ). slice_index xs k) (filled pc [] above lt) ∙ zero-at k
  | inr past ↦ ap (λ (xs : List ℕ). slice_index xs k) (get_or_past spread pc [] (omega (arith, past, long)))
]

-- so nothing comes from anywhere
pub none-behind : (arcs : List (List (Option Arc))) (low : ℕ) (place : ℕ → Type 0) (does : Does) (spread : List (List ℕ))
    → ((pc k : ℕ) → low ≤ pc → unit_at spread pc k ≡ 0) → ComeBehind arcs low place does spread
none-behind arcs low place does spread none pc k above some = (let zero = none pc k above in absurd (omega (arith, some, zero)))
