-- If the slots of any two paths to one pc differ in marks at most, each row that comes to a pc has a join with the
-- row known there.
use Rattle.std.proofs.Common.{◌≡◌, ℕ, ◌+◌, Bool, true, List, [], ◌∷◌, length, Option, Some, None, set, slice_get, refl, sym, ap, ◌∙◌, subst, arith, inl, inr}
use Rattle.std.proofs.lemmas.Bool.{cases_eq, cases_lt, false≢true}
use Rattle.std.proofs.lemmas.List.{get_or-set_same, get_or-set_other, set_past}
use Rattle.std.proofs.lemmas.Option.{none-some}
use Rattle.geos_image.specs.declared.row.Row.{Row}
use Rattle.geos_image.specs.declared.routine.Routine.{Routine}
use Rattle.geos_image.specs.declared.row.SlotState.{SlotState}
use Rattle.geos_verify.specs.Lists.{all2}
use Rattle.geos_image.specs.Parts.{Parts, start_of}
use Rattle.geos_verify.specs.Rows.{fits, after}
use Rattle.geos_verify.proofs.RowsFit.{fits-refl}
use Rattle.geos_rows.specs.declared.flow.Arrival.{Arrival}
use Rattle.geos_rows.specs.declared.flow.Arrival.TheVariants.{Same, Weaker, Apart}
use Rattle.geos_code.specs.declared.edges.Lead.{Lead}
use Rattle.geos_rows.specs.Alike.{ComesAlike, AllComeAlike, StaysAlike, GoesAlike}
use Rattle.geos_code.specs.Code.{IsPcOf}
use Rattle.geos_code.specs.Known.{known_at, clean}
use Rattle.geos_rows.specs.Flow.{HaveNoJoin, Joins, Arrives, has_joined, Seeded}
use Rattle.geos_flow.specs.Slots.{slots_agree}
use Rattle.geos_rows.specs.Joins.{agree}
use Rattle.geos_rows.specs.Reached.{Copies}
use Rattle.geos_code.specs.Edges.{LeadsTo}
use Rattle.geos_rows.specs.Why.{MeetAlike}
use Rattle.geos_rows.proofs.Alike.{alike-refl, alike-both, alike-sym, after-alike}
use Rattle.geos_rows.proofs.Flows.{some-is, join-upper}
use Rattle.geos_rows.proofs.Joining.{agreeing}

-- the slots of rows of which one fits the other differ in marks at most
pub fits-alike : (r s : Row) → fits r s ≡ true → agree r s ≡ true
fits-alike r s h = (agreeing r s s h (fits-refl s)).slots

-- what an instruction leaves comes along its edge
pub comes-on : (image : Parts) (r pc : ℕ) (branch : Bool) (to : ℕ) (row : Row) → ComesAlike image r pc row
    → LeadsTo image pc branch to → IsPcOf image r to → ComesAlike image r to (after image pc (clean row) branch)
comes-on image r pc branch to row C leads stays = record {
  came = after image pc C.came branch;
  comes = record {
    routine = C.comes.routine;
    there = C.comes.there;
    edges = (pc, branch) ∷ C.comes.edges;
    way = (C.came, C.comes.way, leads, stays, refl);
  };
  alike = after-alike image pc branch (clean row) C.came (slice_get image.points pc) refl C.alike;
}

module _ (image : Parts) (r : ℕ) where
  -- a row with such slots comes too
  pub comes-with : (pc : ℕ) (row other : Row) → agree other row ≡ true → ComesAlike image r pc row → ComesAlike image r pc other
  comes-with pc row other same C = record {
    came = C.came;
    comes = C.comes;
    alike = alike-both other C.came row same (alike-sym row C.came C.alike);
  }

  -- so does one with the same slots
  pub comes-slots : (pc : ℕ) (row other : Row) → other.slots ≡ row.slots → ComesAlike image r pc row → ComesAlike image r pc other
  comes-slots pc row other same C = record {
    came = C.came;
    comes = C.comes;
    alike = subst (λ (slots : List SlotState). all2 slots_agree slots C.came.slots ≡ true) (sym same) C.alike;
  }

  pub alike-set : (known : List (Option Row)) (to : ℕ) (joined : Row) → AllComeAlike image r known → (IsPcOf image r to → ComesAlike image r to joined)
      → AllComeAlike image r (set known to (Some joined))
  alike-set known to joined all comes pc row within e = elim (cases_eq pc to) [
    | inl same ↦ elim (cases_lt to (length known)) [
      | inl room ↦
          let is : joined ≡ row = some-is joined row (sym (get_or-set_same known to (Some joined) None room)
          ∙ ap (known_at (set known to (Some joined))) (sym same) ∙ e) in
          let here = subst (λ (n : ℕ). ComesAlike image r n joined) (sym same) (comes (subst (IsPcOf image r) same within)) in
          subst (ComesAlike image r pc) is here
      | inr past ↦ all pc row within (ap (λ (l : List (Option Row)). known_at l pc) (sym (set_past known to (Some joined) past)) ∙ e)
    ]
    | inr ne ↦ all pc row within (sym (get_or-set_other known to pc (Some joined) None ne) ∙ e)
  ]

  module _ (meet : MeetAlike image r) (known : List (Option Row)) (all : AllComeAlike image r known) (to : ℕ)
      (within : IsPcOf image r to) (row : Row) (C : ComesAlike image r to row) where
    never-apart : (o : Option Row) → known_at known to ≡ o → HaveNoJoin o row → ⊥
    never-apart None e none = none
    never-apart (Some old) e none =
        let D = all to old within e in
        let ways = meet to C.came D.came C.comes D.comes in
        let far = alike-both old C.came D.came D.alike ways in
        false≢true (sym none ∙ alike-both old row C.came far C.alike)

    joins-alike : (next : List (Option Row)) → Joins known to row next → AllComeAlike image r next
    joins-alike next J =
        let upper = join-upper (known_at known to) row J.joined J.join in
        let comes = comes-with to row J.joined (alike-sym row J.joined (fits-alike row J.joined upper)) C in
        subst (AllComeAlike image r) (sym J.is) (alike-set known to J.joined all (λ inside. comes))

    -- what comes so has a join with what is known
    pub arrives-alike : (arrival : Arrival) (next : List (Option Row)) → Arrives arrival known to row next
        → (has_joined arrival ≡ true) × AllComeAlike image r next
    arrives-alike Same next came = (refl, joins-alike next came)
    arrives-alike Weaker next came = (refl, joins-alike next came)
    arrives-alike Apart next came = absurd (never-apart (known_at known to) refl came)

  -- so comes what is known where the routine begins
  pub seeded-alike : (routine : Routine) → slice_get image.routines r ≡ Some routine → (known : List (Option Row)) → Seeded image r known
      → AllComeAlike image r known
  seeded-alike routine there known S pc row within e = elim (cases_lt (start_of image.routines r) pc) [
    | inl later ↦ absurd (none-some row (sym (S.only pc later within.below) ∙ e))
    | inr le ↦
        let same : pc ≡ start_of image.routines r = (let low = within.above in omega arith) in
        let is : routine.entry ≡ row = some-is routine.entry row (sym (S.entry routine there) ∙ ap (known_at known) (sym same) ∙ e) in
        record {
          came = routine.entry;
          comes = record { routine = routine; there = there; edges = []; way = (same, refl) };
          alike = subst (λ (x : Row). agree x routine.entry ≡ true) is (alike-refl routine.entry);
        }
  ]

  -- so does what is copied
  pub copies-alike : (from known next : List (Option Row)) → Copies (start_of image.routines r) (start_of image.routines (r + 1)) from known next
      → AllComeAlike image r from → AllComeAlike image r next
  copies-alike from known next C all pc row within e = all pc row within (sym (C.same pc within.above within.below) ∙ e)

-- Along an edge

-- the edge of an instruction is one within its routine
pub goes-alike : (image : Parts) (r pc : ℕ) (branch : Bool) (lead : Lead) (row : Row) → lead.edge.from ≡ pc → lead.edge.branch ≡ branch
    → LeadsTo image pc branch lead.to → IsPcOf image r lead.to → ComesAlike image r pc row → GoesAlike image r lead row
goes-alike image r pc branch lead row pc_is branch_is leads stays C = record {
  comes = subst (λ (n : ℕ). ComesAlike image r n row) (sym pc_is) C;
  leads = subst (λ (n : ℕ). LeadsTo image n lead.edge.branch lead.to) (sym pc_is) (subst (λ (b : Bool). LeadsTo image pc b lead.to) (sym branch_is) leads);
  stays = stays;
}

-- what goes along it has a join with what is known where it leads
pub brings-alike : (image : Parts) (r : ℕ) (lead : Lead) (row : Row) (known next : List (Option Row)) (arrival : Arrival)
    → GoesAlike image r lead row → Arrives arrival known lead.to (after image lead.edge.from (clean row) lead.edge.branch) next
    → StaysAlike image r known next (has_joined arrival)
brings-alike image r lead row known next arrival G came meet all =
    let behind = after image lead.edge.from (clean row) lead.edge.branch in
    arrives-alike image r meet known all lead.to G.stays behind (comes-on image r lead.edge.from lead.edge.branch lead.to row G.comes G.leads G.stays) arrival next came
