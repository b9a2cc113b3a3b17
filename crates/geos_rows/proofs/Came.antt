-- What is known at places comes there.
use Rattle.std.proofs.Common.{◌≡◌, ℕ, ◌<◌, Bool, List, [], ◌∷◌, length, Option, Some, None, set, sym, ap, ◌∙◌, subst, inl, inr}
use Rattle.std.proofs.lemmas.Bool.{cases_eq, cases_lt}
use Rattle.std.proofs.lemmas.List.{get_or-set_same, get_or-set_other, set_past}
use Rattle.std.proofs.lemmas.Option.{same_Some}
use Rattle.geos_image.specs.declared.row.Row.{Row}
use Rattle.geos_image.specs.Parts.{Parts}
use Rattle.geos_verify.specs.Rows.{after}
use Rattle.geos_code.specs.Code.{IsPcOf}
use Rattle.geos_flow.specs.declared.apart.Coming.{Coming}
use Rattle.geos_flow.specs.declared.edge.Edge.{Edge}
use Rattle.geos_code.specs.declared.edges.Lead.{Lead}
use Rattle.geos_code.specs.Edges.{LeadsTo}
use Rattle.geos_rows.specs.Why.{ComesFromStart, ComesBy, Comes, IsComing}
use Rattle.geos_rows.specs.Meeting.{coming_at, AllCome}

-- what comes along an edge comes to where it leads
comes-by : (image : Parts) (r : ℕ) (lead : Lead) (row : Row) → ComesBy image r lead row → ComesFromStart image r lead.to row
comes-by image r lead row by = record {
  routine = by.comes.routine;
  there = by.comes.there;
  edges = (lead.edge.from, lead.edge.branch) ∷ by.comes.edges;
  way = (by.before, by.comes.way, by.leads, by.stays, by.row_is);
}

comes-from : (image : Parts) (r to : ℕ) (from : Option Edge) (row : Row) → Comes image r to from row
    → ComesFromStart image r to row
comes-from image r to None row begins = record { routine = begins.routine; there = begins.there; edges = []; way = (begins.start, begins.row_is) }
comes-from image r to (Some edge) row by = comes-by image r (record { edge = edge; to = to }) row by

-- what comes to a place comes from where the routine begins
pub comes-to : (image : Parts) (r to : ℕ) (coming : Coming) → IsComing image r to coming → ComesFromStart image r to coming.row
comes-to image r to coming comes = comes-from image r to coming.from coming.row comes.comes

-- a row comes along the edge of the instruction at a pc
pub comes-along : (image : Parts) (r pc : ℕ) (branch : Bool) (lead : Lead) (before row : Row) → lead.edge.from ≡ pc
    → lead.edge.branch ≡ branch → ComesFromStart image r pc before → LeadsTo image pc branch lead.to → IsPcOf image r lead.to
    → row ≡ after image pc before branch → ComesBy image r lead row
comes-along image r pc branch lead before row pc_is branch_is comes leads stays row_is = record {
  before = before;
  comes = subst (λ (n : ℕ). ComesFromStart image r n before) (sym pc_is) comes;
  leads = subst (λ (n : ℕ). LeadsTo image n lead.edge.branch lead.to) (sym pc_is) (subst (λ (b : Bool). LeadsTo image pc b lead.to) (sym branch_is) leads);
  stays = stays;
  row_is = row_is ∙ ap (λ (n : ℕ). after image n before branch) (sym pc_is) ∙ ap (after image lead.edge.from before) (sym branch_is);
}

all_come-within : (image : Parts) (r : ℕ) (known : List (Option Coming)) (to : ℕ) (coming : Coming) → to < length known
    → AllCome image r known → IsComing image r to coming
    → AllCome image r (set known to (Some coming))
all_come-within image r known to coming within all comes = λ pc other e. elim (cases_eq pc to) [
  | inl same ↦
      let at : coming_at (set known to (Some coming)) to ≡ Some other = ap (coming_at (set known to (Some coming))) (sym same) ∙ e in
      let is : coming ≡ other = same_Some coming other (sym (get_or-set_same known to (Some coming) None within) ∙ at) in
      subst (λ (n : ℕ). IsComing image r n other) (sym same) (subst (IsComing image r to) is comes)
  | inr ne ↦ all pc other (sym (get_or-set_other known to pc (Some coming) None ne) ∙ e)
]

-- also where what comes to a place is known there
pub all_come-set : (image : Parts) (r : ℕ) (known : List (Option Coming)) (to : ℕ) (coming : Coming) → AllCome image r known
    → IsComing image r to coming → AllCome image r (set known to (Some coming))
all_come-set image r known to coming all comes = elim (cases_lt to (length known)) [
  | inl within ↦ all_come-within image r known to coming within all comes
  | inr past ↦ subst (AllCome image r) (sym (set_past known to (Some coming) past)) all
]
