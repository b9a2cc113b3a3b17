-- If rows hold wherever control reaches in a routine, the slots of any two paths to one pc differ in marks at most.
use Rattle.std.proofs.Common.{◌≡◌, ℕ, Bool, true, List, [], ◌∷◌, Option, Some, slice_get, refl, sym, ap, ◌∙◌, subst}
use Rattle.std.proofs.lemmas.Option.{same_Some}
use Rattle.geos_image.specs.declared.row.Row.{Row}
use Rattle.geos_image.specs.declared.routine.Routine.{Routine}
use Rattle.geos_image.specs.Parts.{Parts}
use Rattle.geos_verify.specs.Rows.{fits, after}
use Rattle.geos_code.specs.Code.{Edge, instrs_of}
use Rattle.geos_code.specs.Known.{known_at, clean}
use Rattle.geos_rows.specs.Joins.{agree}
use Rattle.geos_rows.specs.Reached.{IsReached, FitWhereReached}
use Rattle.geos_code.specs.Edges.{LeadsTo}
use Rattle.geos_rows.specs.Why.{IsWay, MeetAlike}
use Rattle.geos_rows.proofs.Alike.{alike-both, alike-sym, after-alike}
use Rattle.geos_code.proofs.Ends.{after-edge, code-at}
use Rattle.geos_rows.proofs.Joinable.{fits-alike}

-- an instruction has the edge
edge-of : (image : Parts) (pc : ℕ) (branch : Bool) (to : ℕ) (leads : LeadsTo image pc branch to)
    → Edge (instrs_of image) pc branch to leads.point.instr
edge-of image pc branch to leads = record { read = code-at image pc leads.point leads.there; has = leads.has; leads = leads.leads }

-- control reaches a pc where a row is known whose slots differ from those of another in marks at most
record IsHeld (image : Parts) (r : ℕ) (known : List (Option Row)) (pc : ℕ) (row : Row) : Type 0 where
  pub reached : IsReached image r pc
  pub held : Row
  pub read : known_at known pc ≡ Some held
  pub alike : agree held row ≡ true

module _ (image : Parts) (r : ℕ) (known : List (Option Row)) (F : FitWhereReached image r known) where
  held-on : (routine : Routine) → slice_get image.routines r ≡ Some routine → (edges : List (ℕ × Bool)) (pc : ℕ) (row : Row)
      → IsWay image r routine.entry edges pc row → IsHeld image r known pc row
  held-on routine there [] pc row way =
      let K = F.entry routine there in
      record {
        reached = record { edges = []; lead = way.0 };
        held = K.known_row;
        read = ap (known_at known) way.0 ∙ K.read;
        alike = subst (λ (x : Row). agree K.known_row x ≡ true) (sym way.1)
            (alike-sym routine.entry K.known_row (fits-alike routine.entry K.known_row K.fits));
      }
  held-on routine there (edge ∷ edges) pc row way =
      let so_far = held-on routine there edges edge.0 way.0 way.1 in
      let is = edge-of image edge.0 edge.1 pc way.2 in
      let i = way.2.point.instr in
      let K = F.edges edge.0 edge.1 so_far.reached pc i so_far.held is way.3 so_far.read in
      let behind = after image edge.0 (clean so_far.held) edge.1 in
      let behind_is = after-edge image edge.0 edge.1 way.2.point (clean so_far.held) way.2.there in
      let upper : agree behind K.known_row ≡ true = fits-alike behind K.known_row
      (subst (λ (x : Row). fits x K.known_row ≡ true) (sym behind_is) K.fits) in
      let other = after image edge.0 way.0 edge.1 in
      let same : agree behind other ≡ true = after-alike image edge.0 edge.1 (clean so_far.held) way.0 (slice_get image.points edge.0) refl
      so_far.alike in
      record {
        reached = record { edges = edge ∷ so_far.reached.edges; lead = (so_far.reached.lead, way.3, (i, is)) };
        held = K.known_row;
        read = K.read;
        alike = subst (λ (x : Row). agree K.known_row x ≡ true) (sym way.4)
            (alike-both K.known_row other behind (alike-sym behind K.known_row upper) (alike-sym behind other same));
      }

  pub fit-alike : MeetAlike image r
  fit-alike pc row other one two =
      let a = held-on one.routine one.there one.edges pc row one.way in
      let b = held-on two.routine two.there two.edges pc other two.way in
      let same : b.held ≡ a.held = same_Some b.held a.held (sym b.read ∙ a.read) in
      let alike : agree a.held other ≡ true = subst (λ (x : Row). agree x other ≡ true) same b.alike in
      alike-both row other a.held (alike-sym a.held row a.alike) (alike-sym a.held other alike)
