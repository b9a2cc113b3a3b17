-- The test whether the row after each edge of a routine implies the row that is known at its end.
use Rattle.std.proofs.Common.{◌≡◌, ℕ, ◌+◌, ◌*◌, ◌<◌, Bool, true, false, List, length, Option, Some, None, slice_get, refl, sym, ap, ◌∙◌, subst, arith, inl, inr}
use Rattle.std.specs.Prelude.{◌↔◌, ◌⊎◌, if◌then◌else◌, IfSome}
use Rattle.std.proofs.lemmas.Bool.{cases_lt}
use Rattle.geos_image.specs.declared.instr.Instr.{Instr}
use Rattle.geos_image.specs.declared.row.Row.{Row}
use Rattle.geos_image.specs.declared.point.Point.{Point}
use Rattle.geos_image.specs.Parts.{Parts, start_of}
use Rattle.geos_image.specs.Keys.{falls_through, branches}
use Rattle.geos_verify.specs.Rows.{at_point, HasEdge, after, has_edge}
use Rattle.geos_verify.proofs.Places.{item_at, if_some}
use Rattle.geos_rows.specs.Joins.{agree}
use Rattle.geos_code.specs.Known.{clean, known_at}
use Rattle.geos_rows.specs.Weakest.{weakest, EdgeIsWeak}
use Rattle.geos_code.specs.Code.{Edge, IsPcOf, TargetAhead, instrs_of, edge_end, edge_row}
use Rattle.geos_rows.specs.Flow.{KnownAt, fits_known, edge_number, FitAhead}
use Rattle.geos_rows.specs.Reached.{EdgeFits, BackFit, AllFit, Copies}
use Rattle.geos_code.specs.declared.body.Body.{Body}
use Rattle.geos_code.proofs.Ends.{code-at, after-edge}

-- What is known where a row comes

pub known-from : (known : List (Option Row)) (pc : ℕ) (row : Row) → fits_known (known_at known pc) row ≡ true → KnownAt known pc row
known-from known pc row h = by_known (known_at known pc) refl h
  where
    by_known : (o : Option Row) → known_at known pc ≡ o → fits_known o row ≡ true → KnownAt known pc row
    by_known None e h = absurd cc
    by_known (Some old) e h = record { known_row = old; read = e; fits = h }

pub known-to : (known : List (Option Row)) (pc : ℕ) (row : Row) → KnownAt known pc row → fits_known (known_at known pc) row ≡ true
known-to known pc row K = ap (λ o. fits_known o row) K.read ∙ K.fits

-- One edge

some-instr : (x y : Instr) → Some x ≡ Some y → x ≡ y
some-instr x y e = cc

some-row : (x y : Row) → Some x ≡ Some y → x ≡ y
some-row x y e = cc

module _ (image : Parts) (r : ℕ) (known : List (Option Row)) (pc : ℕ) (branch : Bool) where
  module _ (i : Instr) (lt : pc < length image.points) (there : IfSome (slice_get image.points pc) (λ point. i ≡ point.instr)) where
    point-there : (point : Point) × (slice_get image.points pc ≡ Some point) × (i ≡ point.instr)
    point-there = let found = item_at image.points pc lt in
        (found.0, found.1, if_some (λ point. i ≡ point.instr) (slice_get image.points pc) found.0 found.1 there)

    read-there : slice_get (instrs_of image) pc ≡ Some i
    read-there = let found = point-there in code-at image pc found.0 found.1 ∙ ap (λ (x : Instr). Some x) (sym found.2)

    edge-is : (to : ℕ) (j : Instr) → Edge (instrs_of image) pc branch to j → (j ≡ i) × (has_edge i branch ≡ true) × (edge_end pc i branch ≡ to)
    edge-is to j edge =
        let same = some-instr j i (sym edge.read ∙ read-there) in
        (same, ap (λ x. has_edge x branch) (sym same) ∙ edge.has, ap (λ x. edge_end pc x branch) (sym same) ∙ edge.leads)

    -- the instruction there has it
    pub has-there : has_edge i branch ≡ true → HasEdge image pc branch
    has-there has = let found = point-there in
        rw (found.1, at_point) (by_branch branch found.0.instr (ap (λ x. has_edge x branch) (sym found.2) ∙ has))
      where
        by_branch : (b : Bool) (j : Instr) → has_edge j b ≡ true → (if b then branches j.opcode else falls_through j.opcode) ≡ true
        by_branch true j h = h
        by_branch false j h = h

    -- there is no such edge in the routine
    pub outside-fits : (has_edge i branch ≡ true → IsPcOf image r (edge_end pc i branch) → ⊥) → EdgeFits image r known pc branch
    outside-fits never to j row edge inside e =
        let is = edge-is to j edge in
        absurd (never is.1 (subst (IsPcOf image r) (sym is.2) inside))

    -- there is one
    pub inside-fits : (row next : Row) (fit : Bool) → known_at known pc ≡ Some row → has_edge i branch ≡ true
        → IsPcOf image r (edge_end pc i branch) → next ≡ after image pc (clean row) branch
        → fit ≡ fits_known (known_at known (edge_end pc i branch)) next → (fit ≡ true) ↔ EdgeFits image r known pc branch
    inside-fits row next fit here has inside next_is fit_is =
        let to = edge_end pc i branch in
        let found = point-there in
        let behind : next ≡ edge_row image i branch (clean row) = next_is ∙ after-edge image pc branch found.0 (clean row) found.1
        ∙ ap (λ x. edge_row image x branch (clean row)) (sym found.2) in (
          λ e t j other edge within f.
              let is = edge-is t j edge in
              let same_row = some-row row other (sym here ∙ f) in
              let K = known-from known to next (sym fit_is ∙ e) in
              let rows : next ≡ edge_row image j branch (clean other) = behind ∙ ap (λ x. edge_row image x branch (clean row)) (sym is.0)
              ∙ ap (λ (x : Row). edge_row image j branch (clean x)) same_row in
              subst (λ (n : ℕ). KnownAt known n (edge_row image j branch (clean other))) is.2 (subst (KnownAt known to) rows K),
          λ fits_all.
              let edge : Edge (instrs_of image) pc branch to i = record { read = read-there; has = has; leads = refl } in
              fit_is ∙ known-to known to next (subst (KnownAt known to) (sym behind) (fits_all to i row edge inside here)),
        )

    -- there is one, and such a row is known where it leads
    pub weak-fits : (row next : Row) (fit : Bool) → known_at known pc ≡ Some row → has_edge i branch ≡ true
        → IsPcOf image r (edge_end pc i branch) → next ≡ after image pc (clean row) branch
        → ((first : Row) → known_at known (edge_end pc i branch) ≡ Some (weakest first) → agree next first ≡ true → fit ≡ true)
        → EdgeIsWeak image r known pc branch → fit ≡ true
    weak-fits row next fit here has inside next_is fits_first weak =
        let found = point-there in
        let behind : next ≡ edge_row image i branch (clean row) = next_is ∙ after-edge image pc branch found.0 (clean row) found.1
        ∙ ap (λ x. edge_row image x branch (clean row)) (sym found.2) in
        let edge : Edge (instrs_of image) pc branch (edge_end pc i branch) i = record { read = read-there; has = has; leads = refl } in
        let at = weak (edge_end pc i branch) i row edge inside here in
        fits_first at.first at.read (subst (λ (x : Row). agree x at.first ≡ true) (sym behind) at.alike)

-- All edges

-- edges of the instructions of routine r before a pc have been looked at
abbrev pub FitBefore : Parts → ℕ → List (Option Row) → ℕ → Type 0
FitBefore image r known limit = (pc : ℕ) (branch : Bool) → IsPcOf image r pc → pc < limit → EdgeFits image r known pc branch

pub fits-more : (image : Parts) (r : ℕ) (known : List (Option Row)) (pc more : ℕ) → more ≡ pc + 1 → FitBefore image r known pc
    → EdgeFits image r known pc false → EdgeFits image r known pc true → FitBefore image r known more
fits-more image r known pc more one before along aside k branch within lt = elim (cases_lt k pc) [
  | inl earlier ↦ before k branch within earlier
  | inr late ↦
      let same : pc ≡ k = omega arith in
      subst (λ (n : ℕ). EdgeFits image r known n branch) same (by_branch branch)
]
  where
    by_branch : (b : Bool) → EdgeFits image r known pc b
    by_branch true = aside
    by_branch false = along

number-last : (k n : ℕ) (b : Bool) → k < n → edge_number k b < 2 * n
number-last k n true h = omega arith
number-last k n false h = omega arith

-- where rows have flowed along the edges that lead ahead, and fit along the others, they fit along all
pub ahead-fits : (image : Parts) (r : ℕ) (known : List (Option Row)) → FitAhead image r known (2 * start_of image.routines (r + 1))
    → BackFit image r known → AllFit image r known
ahead-fits image r known F back = record { entry = F.entry; edges = fit }
  where
    flowed : (pc to : ℕ) (branch : Bool) (i : Instr) (row : Row) → IsPcOf image r pc → IsPcOf image r to → pc < to
        → Edge (instrs_of image) pc branch to i
        → known_at known pc ≡ Some row → KnownAt known to (edge_row image i branch (clean row))
    flowed pc to branch i row within inside lt edge e = F.edges pc to branch i row within inside lt
        (number-last pc (start_of image.routines (r + 1)) branch within.below) edge e

    fit : (pc : ℕ) (branch : Bool) → IsPcOf image r pc → EdgeFits image r known pc branch
    fit pc false within to i row edge inside e = flowed pc to false i row within inside (let next = edge.leads in omega (arith, next)) edge e
    fit pc true within to i row edge inside e = elim (back pc within) [
      | inl ahead ↦ flowed pc to true i row within inside (ahead to i inside edge) edge e
      | inr fits ↦ fits to i row edge inside e
    ]

-- the edges to targets of the instructions of routine r before a pc lead ahead or fit
abbrev pub BackFitBefore : Parts → ℕ → List (Option Row) → ℕ → Type 0
BackFitBefore image r known limit = (pc : ℕ) → IsPcOf image r pc → pc < limit → TargetAhead image r pc ⊎ EdgeFits image r known pc true

pub back-fits-more : (image : Parts) (r : ℕ) (known : List (Option Row)) (pc more : ℕ) → more ≡ pc + 1
    → BackFitBefore image r known pc → TargetAhead image r pc ⊎ EdgeFits image r known pc true → BackFitBefore image r known more
back-fits-more image r known pc more one before here k within lt = elim (cases_lt k pc) [
  | inl earlier ↦ before k within earlier
  | inr late ↦
      let same : pc ≡ k = omega arith in
      subst (λ (n : ℕ). TargetAhead image r n ⊎ EdgeFits image r known n true) same here
]

-- where the rows are those of another table that fit, they fit
pub copies-fit : (image : Parts) (r : ℕ) (from known next : List (Option Row)) → start_of image.routines r < start_of image.routines (r + 1)
    → Copies (start_of image.routines r) (start_of image.routines (r + 1)) from known next
    → AllFit image r from → AllFit image r next
copies-fit image r from known next some C A = record {
  entry = λ routine there. there-too (start_of image.routines r) routine.entry (record { above = omega arith; below = omega (arith, some) })
      (A.entry routine there);
  edges = λ pc branch within to i row edge inside e. there-too to (edge_row image i branch (clean row)) inside
      (A.edges pc branch within to i row edge inside (sym (C.same pc within.above within.below) ∙ e));
}
  where
    there-too : (pc : ℕ) (row : Row) → IsPcOf image r pc → KnownAt from pc row → KnownAt next pc row
    there-too pc row within K = record { known_row = K.known_row; read = C.same pc within.above within.below ∙ K.read; fits = K.fits }

-- the same of a body as of its routine
pub copies-in : (body : Body) (from known next : List (Option Row)) → Copies body.start body.end from known next
    → Copies (start_of body.image.now.routines body.r) (start_of body.image.now.routines (body.r + 1)) from known next
copies-in body from known next C = subst (λ (n : ℕ). Copies n (start_of body.image.now.routines (body.r + 1)) from known next)
    body.begins (subst (λ (n : ℕ). Copies body.start n from known next) body.ends C)
