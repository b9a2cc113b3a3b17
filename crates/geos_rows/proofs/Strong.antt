-- No rows that hold are stronger than what flows along all edges of a routine and is joined.
use Rattle.std.proofs.Common.{◌≡◌, ℕ, ◌<◌, ◌≤◌, Bool, true, List, [], ◌∷◌, length, Option, Some, None, slice_get, set, refl, sym, ap, ◌∙◌, subst, arith, inl, inr}
use Rattle.std.proofs.lemmas.Bool.{cases_eq}
use Rattle.std.proofs.lemmas.List.{get_or-set_same, get_or-set_other}
use Rattle.std.proofs.lemmas.Option.{none-some}
use Rattle.geos_image.specs.declared.row.Row.{Row}
use Rattle.geos_image.specs.declared.routine.Routine.{Routine}
use Rattle.geos_image.specs.Parts.{Parts, start_of}
use Rattle.geos_verify.specs.Rows.{bound, fits, after}
use Rattle.geos_verify.proofs.RowsFit.{fits-trans, fitting}
use Rattle.geos_code.specs.Known.{clean, row_of, known_at}
use Rattle.geos_code.specs.Code.{Edge, IsPcOf, instrs_of, edge_row}
use Rattle.geos_rows.specs.declared.flow.Arrival.{Arrival}
use Rattle.geos_rows.specs.declared.flow.Arrival.TheVariants.{Same, Weaker, Apart}
use Rattle.geos_code.specs.declared.edges.Lead.{Lead}
use Rattle.geos_rows.specs.Flow.{KnownAt, Joins, Arrives, Seeded}
use Rattle.geos_rows.specs.Reached.{IsReached, FitWhereReached, AreAtMostAny}
use Rattle.geos_code.specs.Edges.{LeadsTo}
use Rattle.geos_code.proofs.Bounds.{bound-at}
use Rattle.geos_code.proofs.Cleaning.{clean-least}
use Rattle.geos_code.proofs.Ends.{edge-mono, after-edge, code-at}
use Rattle.geos_rows.proofs.Flows.{join-least, no-join, some-is}

-- so it is where a routine begins
pub at-first : (image : Parts) (r : ℕ) (routine : Routine) → slice_get image.routines r ≡ Some routine
    → (least : List (Option Row)) → Seeded image r least → AreAtMostAny image r least
at-first image r routine there least S = λ known F pc row within e. elim (cases_eq pc (start_of image.routines r)) [
  | inl same ↦
      let is : row ≡ routine.entry = some-is row routine.entry (sym e ∙ ap (known_at least) same ∙ S.entry routine there) in
      let begins : (at : ℕ) → start_of image.routines r ≡ at → IsReached image r at × KnownAt known at routine.entry =
      (λ at is_at. subst (λ (n : ℕ). IsReached image r n × KnownAt known n routine.entry) is_at
      (record { edges = []; lead = refl }, F.entry routine there)) in
      rw is (begins pc (sym same))
  | inr ne ↦ (let above = within.above in absurd (none-some row (sym (S.only pc (omega arith) within.below) ∙ e)))
]

-- and so it stays along an edge
module _ (image : Parts) (r pc : ℕ) (branch : Bool) (lead : Lead) (row : Row) (least next : List (Option Row))
    (within : IsPcOf image r pc) (here : known_at least pc ≡ Some row) (pc_is : lead.edge.from ≡ pc) (branch_is : lead.edge.branch ≡ branch)
    (leads : LeadsTo image pc branch lead.to) (inside : IsPcOf image r lead.to) (room : lead.to < length least)
    (before : AreAtMostAny image r least) where
  abbrev comes : Row
  comes = after image lead.edge.from (clean row) lead.edge.branch

  is-edge : Edge (instrs_of image) pc branch lead.to leads.point.instr
  is-edge = record { read = code-at image pc leads.point leads.there; has = leads.has; leads = leads.leads }

  over : comes ≡ edge_row image leads.point.instr branch (clean row)
  over = ap (λ k. after image k (clean row) lead.edge.branch) pc_is ∙ ap (λ b. after image pc (clean row) b) branch_is
      ∙ after-edge image pc branch leads.point (clean row) leads.there

  module _ (known : List (Option Row)) (F : FitWhereReached image r known) where
    -- control reaches where it leads
    reaches : IsReached image r lead.to
    reaches =
        let from = (before known F pc row within here).0 in
        record { edges = (pc, branch) ∷ from.edges; lead = (from.lead, inside, (leads.point.instr, is-edge)) }

    -- and no rows that hold say more there than the row that comes
    brings : KnownAt known lead.to comes
    brings =
        let from = before known F pc row within here in
        let weaker = from.1.known_row in
        let cleaned = (clean-least row).least (clean weaker) (fits-trans row weaker (clean weaker) from.1.fits (clean-least weaker).weaker)
        (clean-least weaker).clean in
        let there = F.edges pc branch from.0 lead.to leads.point.instr weaker is-edge inside from.1.read in
        record {
          known_row = there.known_row;
          read = there.read;
          fits = rw over (fits-trans (edge_row image leads.point.instr branch (clean row))
              (edge_row image leads.point.instr branch (clean weaker)) there.known_row
              (edge-mono image leads.point.instr branch (clean row) (clean weaker) cleaned) there.fits);
        }

    -- what is known there fits what they say
    fits-there : (old : Row) → known_at least lead.to ≡ Some old → fits old brings.known_row ≡ true
    fits-there old e =
        let there = (before known F lead.to old inside e).1 in
        let is : there.known_row ≡ brings.known_row = some-is there.known_row brings.known_row (sym there.read ∙ brings.read) in
        subst (λ (x : Row). fits old x ≡ true) is there.fits

    joined-there : (J : Joins least lead.to comes next) → (at : ℕ) (now : Row) → IsPcOf image r at
        → known_at (set least lead.to (Some J.joined)) at ≡ Some now → IsReached image r at × KnownAt known at now
    joined-there J at now at_in e = elim (cases_eq at lead.to) [
      | inl same ↦
          let is : J.joined ≡ now = some-is J.joined now (sym (get_or-set_same least lead.to (Some J.joined) None room)
          ∙ ap (known_at (set least lead.to (Some J.joined))) (sym same) ∙ e) in
          let below : KnownAt known lead.to J.joined = record {
            known_row = brings.known_row;
            read = brings.read;
            fits =
                join-least (known_at least lead.to) comes J.joined brings.known_row J.join fits-there brings.fits;
          } in
          subst (λ (x : Row). IsReached image r at × KnownAt known at x) is
          (subst (λ (n : ℕ). IsReached image r n × KnownAt known n J.joined) (sym same) (reaches, below))
      | inr ne ↦ before known F at now at_in (sym (get_or-set_other least lead.to at (Some J.joined) None ne) ∙ e)
    ]

  -- whichever way the row comes
  pub comes-on : (arrival : Arrival) → Arrives arrival least lead.to comes next → AreAtMostAny image r next
  comes-on Same J = λ known F at now at_in e. joined-there known F J at now at_in (ap (λ (x : List (Option Row)). known_at x at) (sym J.is) ∙ e)
  comes-on Weaker J = λ known F at now at_in e. joined-there known F J at now at_in (ap (λ (x : List (Option Row)). known_at x at) (sym J.is) ∙ e)
  comes-on Apart none = λ known F at now at_in e.
      let there = brings known F in
      absurd (no-join (known_at least lead.to) comes there.known_row none (fits-there known F) there.fits)

-- Bounds

-- a word is as much at least by rows that say no more
pub least-bound : (known : List (Option Row)) (pc : ℕ) (row : Row) (word : ℕ) → KnownAt known pc row
    → bound row word ≤ bound (row_of (known_at known pc)) word
least-bound known pc row word K = rw K.read (bound-at row.bounds K.known_row.bounds word ((fitting row K.known_row K.fits).bounds))
