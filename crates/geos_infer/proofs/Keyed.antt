-- In version 2 rows hold where they do with a row at each place, and what is accepted so is accepted there.
use Rattle.std.proofs.Common.{◌≡◌, ℕ, suc, ◌+◌, Bool, true, false, List, [], ◌∷◌, length, map, Some, slice_get, refl, sym, ap, ◌∙◌, subst, arith}
use Rattle.std.specs.Prelude.{option_map}
use Rattle.std.specs.Option.{is_some}
use Rattle.std.proofs.lemmas.Bool.{false≢true}
use Rattle.std.proofs.lemmas.List.{length-map}
use Rattle.std.proofs.lemmas.Option.{slice_get-map, slice_get_within}
use Rattle.geos_image.specs.declared.instr.Instr.{Instr}
use Rattle.geos_image.specs.declared.row.Row.{Row}
use Rattle.geos_image.specs.declared.routine.Routine.{Routine}
use Rattle.geos_image.specs.Parts.{Parts, start_of}
use Rattle.geos_image.specs.Keys.{branches, gives, key_flags, keyed_of}
use Rattle.geos_image.specs.Legal.{is_formed}
use Rattle.geos_image.proofs.Kept.{kept-instrs, keyed-same, row-there}
use Rattle.geos_verify.specs.declared.place.Place.{Place}
use Rattle.geos_verify.specs.Places.{places}
use Rattle.geos_verify.specs.Rows.{fits, row_along, row_branching}
use Rattle.geos_verify.specs.Rules.{names_empty_slot}
use Rattle.geos_verify.proofs.Places.{item_at, places-length, point-of}
use Rattle.geos_verify.proofs.KeyedPlaces.{KnownAs, along-same, known-given, known-next, along-fits, branching-fits, start-given, target-given}
use Rattle.geos_verify.proofs.AcceptedToo.{accepted_too}
use Rattle.geos_code.specs.Code.{Edge, IsPcOf, instr_of, instrs_of, edge_row}
use Rattle.geos_rows.specs.Reached.{LeadWithin, IsReached, HoldWhereReached, AllHoldWhereReached, row_in, rows_of}
use Rattle.geos_infer.specs.Theorem.{FindsWhatThereIs}
use Rattle.geos_code.proofs.Ends.{code-place, code-length, map-get}

-- the code is the same
pub keyed-code : (image : Parts) → instrs_of (keyed_of image) ≡ instrs_of image
keyed-code image = kept-instrs (key_flags image.routines (map instr_of image.points)) image.points

-- what is found is accepted in version 2 too
pub found-keyed : (skeleton image : Parts) → FindsWhatThereIs skeleton image → FindsWhatThereIs skeleton (keyed_of image)
found-keyed skeleton image found = λ forward has. accepted_too image (found forward has)

same-place : (x y : Place) → Some x ≡ Some y → x ≡ y
same-place x y e = cc

module _ (image : Parts) (legal : is_formed true image ≡ true) (all : image.keyed ≡ false) (r : ℕ) (routine : Routine)
    (there : slice_get image.routines r ≡ Some routine) (H : HoldWhereReached image r (rows_of image)) where
  row-of : (pc : ℕ) (p : Place) → slice_get (places image) pc ≡ Some p → slice_get (rows_of image) pc ≡ Some p.row
  row-of pc p e = slice_get-map row_in (places image) pc ∙ ap (option_map row_in) e

  -- what is known where control comes along an edge
  known-along : (edges : List (ℕ × Bool)) (from pc : ℕ) (branch : Bool) (i : Instr) (before p : Place)
      → LeadWithin image r edges from → IsPcOf image r pc → Edge (instrs_of image) from branch pc i
      → slice_get (places image) from ≡ Some before → before.instr ≡ i → slice_get (places image) pc ≡ Some p
      → gives (keyed_of image) pc ≡ false → KnownAs image legal all from before → KnownAs image legal all pc p
  known-along edges from pc true i before p lead within edge read is next bare K =
      let target : before.instr.target ≡ pc = ap (λ (j : Instr). j.target) is ∙ edge.leads in
      let goes : branches before.instr.opcode ≡ true = ap (λ (j : Instr). branches j.opcode) is ∙ edge.has in
      let given = target-given image legal all from before p read goes (ap (slice_get (places image)) target ∙ next) in
      absurd (false≢true (sym bare ∙ subst (λ k. gives (keyed_of image) k ≡ true) target given))
  known-along edges from pc false i before p lead within edge read is next bare K =
      let plus : suc from ≡ pc = (let leads : from + 1 ≡ pc = edge.leads in omega (arith, leads)) in
      let fit_i : fits (row_along image i i.opcode before.row) p.row ≡ true = H.edges from pc false i before.row p.row
      (record { edges = edges; lead = lead }) edge within (row-of from before read) (row-of pc p next) in
      let fit : fits (row_along image before.instr before.instr.opcode before.row) p.row ≡ true =
      subst (λ (j : Instr). fits (row_along image j j.opcode before.row) p.row ≡ true) (sym is) fit_i in
      subst (λ k. KnownAs image legal all k p) plus
      (known-next image legal all from before p (ap (slice_get (places image)) plus ∙ next) K
      (subst (λ k. gives (keyed_of image) k ≡ false) (sym plus) bare) fit)

  known-by : (pc : ℕ) (p : Place) (b : Bool) → slice_get (places image) pc ≡ Some p → gives (keyed_of image) pc ≡ b
      → (gives (keyed_of image) pc ≡ false → KnownAs image legal all pc p) → KnownAs image legal all pc p
  known-by pc p true read e other = known-given image legal all pc p read e
  known-by pc p false read e other = other e

  -- as much is known wherever control reaches
  known-reached : (edges : List (ℕ × Bool)) (pc : ℕ) (p : Place) → LeadWithin image r edges pc → slice_get (places image) pc ≡ Some p
      → KnownAs image legal all pc p
  known-reached [] pc p lead read =
      let given = start-given image legal all r routine p there (ap (slice_get (places image)) (sym lead) ∙ read) in
      known-given image legal all pc p read (subst (λ k. gives (keyed_of image) k ≡ true) (sym lead) given)
  known-reached (edge ∷ edges) pc p lead read =
      let i = lead.2.0 in
      let before = code-place image edge.0 i lead.2.1.read in
      let K = known-reached edges edge.0 before.0 lead.0 before.1 in
      known-by pc p (gives (keyed_of image) pc) read refl (λ bare. known-along edges edge.0 pc edge.1 i before.0 p
      lead.0 lead.1 lead.2.1 before.1 before.2 read bare K)

  -- ---- the same in version 2

  edge-same : (pc to : ℕ) (branch : Bool) (i : Instr) → Edge (instrs_of (keyed_of image)) pc branch to i → Edge (instrs_of image) pc branch to i
  edge-same pc to branch i edge = subst (λ (code : List Instr). Edge code pc branch to i) (keyed-code image) edge

  within-same : (pc : ℕ) → IsPcOf (keyed_of image) r pc → IsPcOf image r pc
  within-same pc within = record { above = within.above; below = within.below }

  lead-same : (edges : List (ℕ × Bool)) (pc : ℕ) → LeadWithin (keyed_of image) r edges pc → LeadWithin image r edges pc
  lead-same [] pc lead = lead
  lead-same (edge ∷ edges) pc lead = (lead-same edges edge.0 lead.0, within-same pc lead.1, (lead.2.0, edge-same edge.0 pc edge.1 lead.2.0 lead.2.1))

  place-there : (pc : ℕ) (row : Row) → slice_get (rows_of (keyed_of image)) pc ≡ Some row → (p : Place) × (slice_get (places image) pc ≡ Some p)
  place-there pc row e =
      let found = map-get row_in (places (keyed_of image)) pc row e in
      let lt = slice_get_within (places (keyed_of image)) pc found.0 found.1 in
      item_at (places image) pc (omega (
        arith,
        lt,
        places-length (keyed_of image),
        places-length image,
        code-length (keyed_of image),
        code-length image,
        ap length (keyed-code image),
      ))

  -- the row that is known there
  row-is : (pc : ℕ) (row : Row) (p : Place) (K : KnownAs image legal all pc p) → slice_get (rows_of (keyed_of image)) pc ≡ Some row → K.row ≡ row
  row-is pc row p K e =
      let found = map-get row_in (places (keyed_of image)) pc row e in
      ap row_in (same-place (record p { row = K.row }) found.0 (sym K.there ∙ found.1)) ∙ found.2

  given-is : (pc : ℕ) (row : Row) (p : Place) → slice_get (places image) pc ≡ Some p → gives (keyed_of image) pc ≡ true
      → slice_get (rows_of (keyed_of image)) pc ≡ Some row → p.row ≡ row
  unfolding known-given
  given-is pc row p read given e = row-is pc row p (known-given image legal all pc p read given) e

  gives-all : (pc : ℕ) (p : Place) → slice_get (places image) pc ≡ Some p → gives image pc ≡ true
  gives-all pc p read =
      let found = point-of image pc p read in
      let row = row-there image legal all pc found.0 found.1 in
      rw (found.1, gives) (ap is_some row.1)

  fits-there : (pc to : ℕ) (branch : Bool) (i : Instr) (p q : Place) (K : KnownAs image legal all pc p) (N : KnownAs image legal all to q)
      → p.instr ≡ i → IsReached image r pc → Edge (instrs_of image) pc branch to i → IsPcOf image r to
      → slice_get (places image) pc ≡ Some p → slice_get (places image) to ≡ Some q → fits (edge_row image i branch K.row) N.row ≡ true
  fits-there pc to true i p q K N is reached edge inside read next =
      let fit : fits (row_branching i i.opcode p.row) q.row ≡ true = H.edges pc to true i p.row q.row reached edge inside
      (row-of pc p read) (row-of to q next) in
      let fit_p : fits (row_branching p.instr p.instr.opcode p.row) q.row ≡ true =
      subst (λ (j : Instr). fits (row_branching j j.opcode p.row) q.row ≡ true) (sym is) fit in
      let target : p.instr.target ≡ to = ap (λ (j : Instr). j.target) is ∙ edge.leads in
      let goes : branches p.instr.opcode ≡ true = ap (λ (j : Instr). branches j.opcode) is ∙ edge.has in
      let given = target-given image legal all pc p q read goes (ap (slice_get (places image)) target ∙ next) in
      subst (λ (j : Instr). fits (row_branching j j.opcode K.row) N.row ≡ true) is
      (branching-fits image legal all pc to p q K N (subst (λ k. gives (keyed_of image) k ≡ true) target given) fit_p)
  fits-there pc to false i p q K N is reached edge inside read next =
      let fit : fits (row_along image i i.opcode p.row) q.row ≡ true = H.edges pc to false i p.row q.row reached edge
      inside (row-of pc p read) (row-of to q next) in
      let fit_p : fits (row_along image p.instr p.instr.opcode p.row) q.row ≡ true =
      subst (λ (j : Instr). fits (row_along image j j.opcode p.row) q.row ≡ true) (sym is) fit in
      let plus : to ≡ suc pc = (let leads : pc + 1 ≡ to = edge.leads in omega (arith, leads)) in
      subst (λ (j : Instr). fits (row_along image j j.opcode K.row) N.row ≡ true) is
      (next-fits to plus q N next fit_p)
    where
      next-fits : (to : ℕ) → to ≡ suc pc → (q : Place) (N : KnownAs image legal all to q) → slice_get (places image) to ≡ Some q
          → fits (row_along image p.instr p.instr.opcode p.row) q.row ≡ true → fits (row_along image p.instr p.instr.opcode K.row) N.row ≡ true
      next-fits to plus q N next fit =
          let M : KnownAs image legal all (suc pc) q = record {
            row = N.row;
            there = ap (slice_get (places (keyed_of image))) (sym plus)
                ∙ N.there;
            fit = N.fit;
            same = λ given. N.same (subst (λ k. gives (keyed_of image) k ≡ true) (sym plus) given);
          } in
          along-fits image legal all pc p q K M (ap (slice_get (places image)) (sym plus) ∙ next) fit

  edge-row-same : (i : Instr) (branch : Bool) (row : Row) → edge_row (keyed_of image) i branch row ≡ edge_row image i branch row
  edge-row-same i true row = refl
  edge-row-same i false row = along-same image i i.opcode row

  hold-keyed : HoldWhereReached (keyed_of image) r (rows_of (keyed_of image))
  hold-keyed = record {
    len = length-map (places (keyed_of image)) row_in ∙ places-length (keyed_of image) ∙ sym (code-length (keyed_of image));
    entry = λ other row at e. (
        let p = place-there (start_of image.routines r) row e in
        let given = start-given image legal all r routine p.0 there p.1 in
        subst (λ (x : Row). fits other.entry x ≡ true) (given-is (start_of image.routines r) row p.0 p.1 given e)
        (H.entry other p.0.row at (row-of (start_of image.routines r) p.0 p.1))
        );
    edges = λ pc to branch i row next reached edge inside e f. (
        let lead = lead-same reached.edges pc reached.lead in
        let here = edge-same pc to branch i edge in
        let p = code-place image pc i here.read in
        let q = place-there to next f in
        let K = known-reached reached.edges pc p.0 lead p.1 in
        let N = known-reached ((pc, branch) ∷ reached.edges) to q.0 (lead, within-same to inside, (i, here)) q.1 in
        let fit = fits-there pc to branch i p.0 q.0 K N p.2 (record { edges = reached.edges; lead = lead }) here (within-same to inside) p.1 q.1 in
        let one = subst (λ (x : Row). fits (edge_row image i branch x) N.row ≡ true) (row-is pc row p.0 K e) fit in
        let two = subst (λ (x : Row). fits (edge_row image i branch row) x ≡ true) (row-is to next q.0 N f) one in
        ap (λ (x : Row). fits x next) (edge-row-same i branch row) ∙ two
        );
    clean = λ pc row within given e. (
        let p = place-there pc row e in
        subst (λ (x : Row). names_empty_slot x ≡ false) (given-is pc row p.0 p.1 given e)
        (H.clean pc p.0.row (within-same pc within) (gives-all pc p.0 p.1) (row-of pc p.0 p.1))
        );
  }

-- so they hold in all routines
pub all-hold-keyed : (image : Parts) → is_formed true image ≡ true → AllHoldWhereReached image → AllHoldWhereReached (keyed_of image)
all-hold-keyed image legal hold = by_version image.keyed refl
  where
    by_version : (b : Bool) → image.keyed ≡ b → AllHoldWhereReached (keyed_of image)
    by_version true e = subst AllHoldWhereReached (sym (keyed-same image legal e)) hold
    by_version false e = λ r lt. (let routine = item_at image.routines r lt in hold-keyed image legal e r routine.0 routine.1 (hold r lt))
