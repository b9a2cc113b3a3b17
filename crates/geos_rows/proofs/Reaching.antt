-- Rows that fit along all edges of a routine hold wherever control reaches in it.
use Rattle.std.proofs.Common.{◌≡◌, ◌≢◌, ℕ, suc, ◌+◌, ◌<◌, ◌≤◌, Bool, true, List, [], ◌∷◌, length, Option, Some, None, slice_get, set, refl, sym, ap, ◌∙◌, subst, arith, add-one, inl, inr}
use Rattle.std.proofs.lemmas.Bool.{cases_eq, cases_lt}
use Rattle.std.proofs.lemmas.List.{get_or-set_same, get_or-set_other, length-set}
use Rattle.geos_image.specs.declared.row.Row.{Row}
use Rattle.geos_image.specs.declared.routine.Routine.{Routine}
use Rattle.geos_image.specs.Parts.{Parts, start_of}
use Rattle.geos_image.specs.Legal.{is_image}
use Rattle.geos_image.proofs.Starts.{start_of-next, start_of-le}
use Rattle.geos_verify.proofs.Places.{item_at}
use Rattle.geos_code.specs.declared.body.Body.{Body}
use Rattle.geos_code.specs.Code.{IsPcOf, instrs_of, edge_row}
use Rattle.geos_code.specs.Known.{clean, known_at}
use Rattle.geos_rows.specs.Flow.{KnownAt, Flowing, AllKnown, StaysBefore}
use Rattle.geos_rows.specs.Reached.{LeadWithin, AllFit, FitWhereReached, Copies, Keeps}
use Rattle.geos_code.proofs.Bodies.{lies}

some-row : (x y : Row) → Some x ≡ Some y → x ≡ y
some-row x y e = cc

-- control is in the routine where it reaches
pub reached-within : (image : Parts) (r : ℕ) → start_of image.routines r < start_of image.routines (r + 1)
    → (edges : List (ℕ × Bool)) (pc : ℕ) → LeadWithin image r edges pc → IsPcOf image r pc
reached-within image r some [] pc lead = record { above = omega arith; below = omega arith }
reached-within image r some (edge ∷ edges) pc lead = lead.1

-- and something is known there, where what is known fits along all edges
module _ (image : Parts) (r : ℕ) (some : start_of image.routines r < start_of image.routines (r + 1)) (routine : Routine)
    (there : slice_get image.routines r ≡ Some routine) (found : List (Option Row)) (fit : AllFit image r found) where
  reached-known : (edges : List (ℕ × Bool)) (pc : ℕ) → LeadWithin image r edges pc → (row : Row) × (known_at found pc ≡ Some row)
  reached-known [] pc lead = let K = fit.entry routine there in (K.known_row, ap (known_at found) lead ∙ K.read)
  reached-known (edge ∷ edges) pc lead =
      let from = reached-known edges edge.0 lead.0 in
      let K = fit.edges edge.0 edge.1 (reached-within image r some edges edge.0 lead.0) pc lead.2.0 from.0 lead.2.1 lead.1 from.1 in
      (K.known_row, K.read)

  module _ (known next : List (Option Row)) (K : Keeps (start_of image.routines r) (start_of image.routines (r + 1)) found known next) where
    kept : (pc : ℕ) (row : Row) → IsPcOf image r pc → KnownAt found pc row → KnownAt next pc row
    kept pc row within at = record { known_row = at.known_row; read = K.kept pc at.known_row within.above within.below at.read; fits = at.fits }

    -- rows that fit still do in a table that has them all
    pub kept-fits : FitWhereReached image r next
    kept-fits = record {
      entry = λ other at. kept (start_of image.routines r) other.entry (record { above = omega arith; below = omega arith }) (fit.entry other at);
      edges = λ pc branch reached to i row edge inside e.
          let within = reached-within image r some reached.edges pc reached.lead in
          let from = reached-known reached.edges pc reached.lead in
          let is : from.0 ≡ row = some-row from.0 row (sym (K.kept pc from.0 within.above within.below from.1) ∙ e) in
          kept to (edge_row image i branch (clean row)) inside
          (fit.edges pc branch within to i row edge inside (from.1 ∙ ap (λ (x : Row). Some x) is));
      there = λ pc reached.
          let within = reached-within image r some reached.edges pc reached.lead in
          let from = reached-known reached.edges pc reached.lead in
          (from.0, K.kept pc from.0 within.above within.below from.1);
    }

-- no row is copied yet
pub keeps-none : (start : ℕ) (found known : List (Option Row)) → Keeps start start found known known
keeps-none start found known = record { len = refl; kept = λ pc row low high. absurd (omega arith); stays = λ k lt. refl }

-- one more place is
pub keeps-more : (start pc more : ℕ) (found known next : List (Option Row)) (o : Option Row) → more ≡ pc + 1 → start ≤ pc
    → pc < length next → ((row : Row) → known_at found pc ≡ Some row → o ≡ Some row)
    → Keeps start pc found known next → Keeps start more found known (set next pc o)
keeps-more start pc more found known next o one low within here K = record {
  len = length-set next pc o ∙ K.len;
  kept = λ k row above below e. elim (cases_eq k pc) [
    | inl same ↦ ap (known_at (set next pc o)) same ∙ get_or-set_same next pc o None within ∙ here row (ap (known_at found) (sym same) ∙ e)
    | inr ne ↦ get_or-set_other next pc k o None ne ∙ K.kept k row above (omega arith) e
  ];
  stays = λ k lt. (let ne : k ≢ pc = (λ same. absurd (omega arith)) in get_or-set_other next pc k o None ne ∙ K.stays k lt);
}

-- one more row, which is already there
pub keeps-same : (start pc more : ℕ) (found known next : List (Option Row)) → more ≡ pc + 1 → known_at next pc ≡ known_at found pc
    → Keeps start pc found known next → Keeps start more found known next
keeps-same start pc more found known next one here K = record {
  len = K.len;
  kept = λ k row above below e. elim (cases_eq k pc) [
    | inl same ↦ ap (known_at next) same ∙ here ∙ ap (known_at found) (sym same) ∙ e
    | inr ne ↦ K.kept k row above (omega arith) e
  ];
  stays = K.stays;
}

-- a table into which rows are copied has them
pub copies-keep : (start end : ℕ) (found known next : List (Option Row)) → Copies start end found known next → Keeps start end found known next
copies-keep start end found known next C = record { len = C.len; kept = λ pc row above below e. C.same pc above below ∙ e; stays = C.stays }

-- rows that a table has up to a later pc, it has up to an earlier one
pub keeps-to : (start pc end : ℕ) (found known next : List (Option Row)) → end ≤ pc → Keeps start pc found known next
    → Keeps start end found known next
keeps-to start pc end found known next le K = record {
  len = K.len;
  kept = λ k row above below e. K.kept k row above
      (omega arith) e;
  stays = K.stays;
}

-- the same of a body as of its routine
pub kept-in : (body : Body) (found known next : List (Option Row)) → Keeps body.start body.end found known next
    → Keeps (start_of body.image.now.routines body.r) (start_of body.image.now.routines (body.r + 1)) found known next
kept-in body found known next K = subst (λ (n : ℕ). Keeps n (start_of body.image.now.routines (body.r + 1)) found known next)
    body.begins (subst (λ (n : ℕ). Keeps body.start n found known next) body.ends K)

-- rows that flowed along all edges still do in a table that has them all
pub kept-flows : (image : Parts) (r : ℕ) (want : List Row) (found known next : List (Option Row))
    → Keeps (start_of image.routines r) (start_of image.routines (r + 1)) found known next
    → start_of image.routines r < start_of image.routines (r + 1) → length (instrs_of image) ≤ length known
    → AllKnown image r found → (done : ℕ) → Flowing image r want found done → Flowing image r want next done
kept-flows image r want found known next K some len all done F = record {
  below = λ pc row w within e f. F.below pc row w within (same_row pc row within e) f;
  fit = record {
    len = (let same = K.len in omega arith);
    entry = λ routine there. kept (start_of image.routines r) routine.entry (record { above = omega arith; below = omega arith })
        (F.fit.entry routine there);
    edges = λ pc to branch i row within inside ahead less edge e. kept to (edge_row image i branch (clean row)) inside
        (F.fit.edges pc to branch i row within inside ahead less edge (same_row pc row within e));
  };
}
  where
    same_row : (pc : ℕ) (row : Row) → IsPcOf image r pc → known_at next pc ≡ Some row → known_at found pc ≡ Some row
    same_row pc row within e =
        let got = all pc within in
        let is : got.0 ≡ row = some-row got.0 row (sym (K.kept pc got.0 within.above within.below got.1) ∙ e) in
        got.1 ∙ ap (λ (x : Row). Some x) is

    kept : (pc : ℕ) (row : Row) → IsPcOf image r pc → KnownAt found pc row → KnownAt next pc row
    kept pc row within at = record { known_row = at.known_row; read = K.kept pc at.known_row within.above within.below at.read; fits = at.fits }

-- Routine after routine

known-stays : (known next : List (Option Row)) (start pc : ℕ) (row : Row) → StaysBefore start known next → pc < start
    → KnownAt known pc row → KnownAt next pc row
known-stays known next start pc row stay lt K = record { known_row = K.known_row; read = stay pc lt ∙ K.read; fits = K.fits }

-- what fits in a routine still does where later ones are searched
fit-stays : (image : Parts) (q : ℕ) (known next : List (Option Row)) (start : ℕ) → start_of image.routines q < start_of image.routines (q + 1)
    → start_of image.routines (q + 1) ≤ start → StaysBefore start known next
    → FitWhereReached image q known → FitWhereReached image q next
fit-stays image q known next start some ends stay F = record {
  entry = λ routine there. known-stays known next start (start_of image.routines q) routine.entry stay (omega arith) (F.entry routine there);
  edges = λ pc branch reached to i row edge inside e.
      let within = reached-within image q some reached.edges pc reached.lead in
      let below = within.below in
      let before = inside.below in
      known-stays known next start to (edge_row image i branch (clean row)) stay (omega arith)
      (F.edges pc branch reached to i row edge inside (sym (stay pc (omega arith)) ∙ e));
  there = λ pc reached.
      let within = reached-within image q some reached.edges pc reached.lead in
      let below = within.below in
      let from = F.there pc reached in
      (from.0, stay pc (omega arith) ∙ from.1);
}

-- so in all routines below it
pub fit-before : (image : Parts) → is_image image ≡ true → (known next : List (Option Row)) (r : ℕ) → r < length image.routines
    → ((q : ℕ) → q < r → FitWhereReached image q known) → StaysBefore (start_of image.routines r) known next
    → (q : ℕ) → q < r → FitWhereReached image q next
fit-before image legal known next r lt before stay q less =
    let routine = item_at image.routines q (omega arith) in
    let some = lies image legal q routine.0 routine.1 in
    let count = some.1 in
    let end = start_of-next image.routines q routine.0 routine.1 in
    let later = start_of-le image.routines (q + 1) r (omega arith) in
    let one : start_of image.routines (q + 1) ≡ start_of image.routines (suc q) = ap (start_of image.routines) (add-one q) in
    fit-stays image q known next (start_of image.routines r) (omega arith) later stay (before q less)

-- and one more
pub fit-more : (image : Parts) (next : List (Option Row)) (r : ℕ) → ((q : ℕ) → q < r → FitWhereReached image q next)
    → FitWhereReached image r next → (q : ℕ) → q < r + 1 → FitWhereReached image q next
fit-more image next r before here q q_lt = elim (cases_lt q r) [
  | inl less ↦ before q less
  | inr le ↦
      let same : r ≡ q = omega arith in
      subst (λ (n : ℕ). FitWhereReached image n next) same here
]
