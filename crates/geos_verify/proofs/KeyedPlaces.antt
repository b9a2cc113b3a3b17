-- What is known at the places of an image in version 2, beside what is in version 1.
use Rattle.std.proofs.Common.{◌≡◌, ◌<◌, ◌+◌, ℕ, suc, Bool, true, false, Some, None, length, slice_get, refl, sym, ap, subst, ◌∙◌, arith}
use Rattle.std.proofs.lemmas.Bool.{false≢true}
use Rattle.geos_opcodes.specs.declared.opcode.Opcode.{Opcode}
use Rattle.geos_opcodes.specs.declared.opcode.Opcode.TheVariants.{Call}
use Rattle.geos_image.specs.declared.instr.Instr.{Instr}
use Rattle.geos_image.specs.declared.row.Row.{Row}
use Rattle.geos_image.specs.declared.potential.Potential.{Potential}
use Rattle.geos_image.specs.declared.routine.Routine.{Routine}
use Rattle.geos_image.specs.declared.point.Point.{Point}
use Rattle.geos_image.specs.Parts.{Parts, start_of}
use Rattle.geos_image.specs.Keys.{falls_through, branches, gives, keyed_of}
use Rattle.geos_image.specs.Legal.{is_formed}
use Rattle.geos_image.proofs.Given.{gives-start, gives-cut, gives-target}
use Rattle.geos_image.proofs.Kept.{keyed-legal, row-there, point-given, point-bare}
use Rattle.geos_verify.specs.declared.place.Place.{Place}
use Rattle.geos_verify.specs.Places.{places}
use Rattle.geos_verify.specs.Rows.{fits, row_along, row_branching}
use Rattle.geos_verify.proofs.RowsFit.{fits-refl, fits-trans}
use Rattle.geos_verify.proofs.RowsAfter.{along-mono, branching-mono}
use Rattle.geos_verify.proofs.Known.{place-is}
use Rattle.geos_verify.proofs.Places.{found-within, places-length, point-of, place-at, place-next}

pub along-same : (image : Parts) (i : Instr) (opcode : Opcode) (row : Row) → row_along (keyed_of image) i opcode row ≡ row_along image i opcode row
along-same image i Call row = refl
along-same image i _ row = refl

some-same : (x y : Place) → Some x ≡ Some y → x ≡ y
some-same x y e = cc

module _ (image : Parts) (legal : is_formed true image ≡ true) (all : image.keyed ≡ false) where
  place-within : (pc : ℕ) (p : Place) → slice_get (places image) pc ≡ Some p → pc < length image.points
  place-within pc p read = omega (arith, found-within (places image) pc p read, places-length image)

  -- where a row is given, the place is the same
  pub given-same : (pc : ℕ) (p : Place) → slice_get (places image) pc ≡ Some p → gives (keyed_of image) pc ≡ true
      → slice_get (places (keyed_of image)) pc ≡ Some p
  given-same pc p read is =
      let found = point-of image pc p read in
      let given = row-there image legal all pc found.0 found.1 in
      let there = point-given image legal pc found.0 found.1 (place-within pc p read) is in
      let at = place-at (keyed_of image) pc found.0 there in
      let row_is : at.0.row ≡ p.row = at.2.row given.0 given.1 ∙ sym (found.2.row given.0 given.1) in
      at.1 ∙ ap (λ (q : Place). Some q) (place-is p at.0.instr at.0.row at.0.potential (at.2.instr ∙ sym found.2.instr)
      (sym row_is) (at.2.potential ∙ sym found.2.potential))

  -- otherwise the place has the row after the previous instruction
  pub bare-next : (q : ℕ) (before p : Place) → slice_get (places (keyed_of image)) q ≡ Some before
      → slice_get (places image) (suc q) ≡ Some p → gives (keyed_of image) (suc q) ≡ false
      → slice_get (places (keyed_of image)) (suc q) ≡ Some (record p { row = row_along image before.instr before.instr.opcode before.row })
  bare-next q before p earlier read is =
      let found = point-of image (suc q) p read in
      let bare : Point = record found.0 { row = None } in
      let there = point-bare image legal (suc q) found.0 found.1 (place-within (suc q) p read) is in
      let i = before.instr in
      let X = row_along image i i.opcode before.row in
      let P : Row → Place = λ x. record { instr = found.0.instr; row = x; potential = found.0.potential } in
      place-next (keyed_of image) q before bare earlier there ∙ ap (λ (x : Row). Some (P x)) (along-same image i i.opcode before.row)
      ∙ ap (λ (j : Instr). Some (record { instr = j; row = X; potential = found.0.potential })) (sym found.2.instr)
      ∙ ap (λ (x : Potential). Some (record { instr = p.instr; row = X; potential = x })) (sym found.2.potential)

  -- what is known at a place in version 2: no less, and the same where a row is given
  pub record KnownAs (pc : ℕ) (p : Place) : Type 0 where
    pub row : Row
    pub there : slice_get (places (keyed_of image)) pc ≡ Some (record p { row = row })
    pub fit : fits row p.row ≡ true
    pub same : gives (keyed_of image) pc ≡ true → row ≡ p.row

  unfoldable pub known-given : (pc : ℕ) (p : Place) → slice_get (places image) pc ≡ Some p → gives (keyed_of image) pc ≡ true → KnownAs pc p
  known-given pc p read is = record { row = p.row; there = given-same pc p read is; fit = fits-refl p.row; same = λ _. refl }

  unfoldable pub known-next : (q : ℕ) (before p : Place) → slice_get (places image) (suc q) ≡ Some p → KnownAs q before
      → gives (keyed_of image) (suc q) ≡ false
      → fits (row_along image before.instr before.instr.opcode before.row) p.row ≡ true → KnownAs (suc q) p
  known-next q before p read K bare fit =
      let i = before.instr in
      let X = row_along image i i.opcode K.row in
      record {
        row = X;
        there = bare-next q (record before { row = K.row }) p K.there read bare;
        fit = fits-trans X (row_along image i i.opcode before.row) p.row (along-mono image i i.opcode K.row before.row K.fit) fit;
        same = λ yes. absurd (false≢true (sym bare ∙ yes));
      }

  -- the row after an instruction implies the row that is known at the next pc
  pub along-fits : (pc : ℕ) (p q : Place) (K : KnownAs pc p) (N : KnownAs (suc pc) q) → slice_get (places image) (suc pc) ≡ Some q
      → fits (row_along image p.instr p.instr.opcode p.row) q.row ≡ true
      → fits (row_along image p.instr p.instr.opcode K.row) N.row ≡ true
  along-fits pc p q K N read fit = by_gives (gives (keyed_of image) (suc pc)) refl
    where
      by_gives : (b : Bool) → gives (keyed_of image) (suc pc) ≡ b → fits (row_along image p.instr p.instr.opcode K.row) N.row ≡ true
      by_gives true e =
          let X = row_along image p.instr p.instr.opcode K.row in
          let strong = fits-trans X (row_along image p.instr p.instr.opcode p.row) q.row
          (along-mono image p.instr p.instr.opcode K.row p.row K.fit) fit in
          subst (λ (x : Row). fits X x ≡ true) (sym (N.same e)) strong
      by_gives false e =
          let X = row_along image p.instr p.instr.opcode K.row in
          let at = bare-next pc (record p { row = K.row }) q K.there read e in
          let is : X ≡ N.row = ap (λ (x : Place). x.row) (some-same (record q { row = X }) (record q { row = N.row }) (sym at ∙ N.there)) in
          subst (λ (x : Row). fits X x ≡ true) is (fits-refl X)

  -- and what branches from it what is known where it leads
  pub branching-fits : (pc to : ℕ) (p q : Place) (K : KnownAs pc p) (N : KnownAs to q) → gives (keyed_of image) to ≡ true
      → fits (row_branching p.instr p.instr.opcode p.row) q.row ≡ true
      → fits (row_branching p.instr p.instr.opcode K.row) N.row ≡ true
  branching-fits pc to p q K N given fit =
      let X = row_branching p.instr p.instr.opcode K.row in
      let strong = fits-trans X (row_branching p.instr p.instr.opcode p.row) q.row (branching-mono p.instr p.instr.opcode K.row p.row K.fit) fit in
      subst (λ (x : Row). fits X x ≡ true) (sym (N.same given)) strong

  -- ---- where rows are given in version 2

  keyed-within : (pc : ℕ) (p : Place) → slice_get (places image) pc ≡ Some p → (point : Point)
      × (slice_get (keyed_of image).points pc ≡ Some point) × (point.instr ≡ p.instr)
  keyed-within pc p read =
      let found = point-of image pc p read in
      by_gives found.0 found.1 (sym found.2.instr) (gives (keyed_of image) pc) refl
    where
      by_gives : (point : Point) → slice_get image.points pc ≡ Some point → point.instr ≡ p.instr → (b : Bool)
          → gives (keyed_of image) pc ≡ b → (point : Point) × (slice_get (keyed_of image).points pc ≡ Some point) × (point.instr ≡ p.instr)
      by_gives point e is true g = (point, point-given image legal pc point e (place-within pc p read) g, is)
      by_gives point e is false g = (record point { row = None }, point-bare image legal pc point e (place-within pc p read) g, is)

  pub start-given : (r : ℕ) (routine : Routine) (p : Place) → slice_get image.routines r ≡ Some routine
      → slice_get (places image) (start_of image.routines r) ≡ Some p → gives (keyed_of image) (start_of image.routines r) ≡ true
  start-given r routine p there read =
      let at = keyed-within (start_of image.routines r) p read in
      gives-start (keyed_of image) (keyed-legal image legal) r routine there
      (found-within (keyed_of image).points (start_of image.routines r) at.0 at.1)

  pub target-given : (pc : ℕ) (p q : Place) → slice_get (places image) pc ≡ Some p → branches p.instr.opcode ≡ true
      → slice_get (places image) p.instr.target ≡ Some q → gives (keyed_of image) p.instr.target ≡ true
  target-given pc p q read branch next =
      let at = keyed-within pc p read in
      let to = keyed-within p.instr.target q next in
      let there : branches at.0.instr.opcode ≡ true = ap (λ (i : Instr). branches i.opcode) at.2 ∙ branch in
      let target : at.0.instr.target ≡ p.instr.target = ap (λ (i : Instr). i.target) at.2 in
      let lt : at.0.instr.target < length (keyed_of image).points =
      omega (arith, target, found-within (keyed_of image).points p.instr.target to.0 to.1) in
      subst (λ (k : ℕ). gives (keyed_of image) k ≡ true) target (gives-target (keyed_of image) (keyed-legal image legal) pc at.0 at.1 there lt)

  pub cut-given : (pc : ℕ) (p q : Place) → slice_get (places image) pc ≡ Some p → falls_through p.instr.opcode ≡ false
      → slice_get (places image) (suc pc) ≡ Some q → gives (keyed_of image) (suc pc) ≡ true
  cut-given pc p q read cut next =
      let at = keyed-within pc p read in
      let to = keyed-within (suc pc) q next in
      let there : falls_through at.0.instr.opcode ≡ false = ap (λ (i : Instr). falls_through i.opcode) at.2 ∙ cut in
      let plus : pc + 1 ≡ suc pc = omega arith in
      subst (λ (k : ℕ). gives (keyed_of image) k ≡ true) plus
      (gives-cut (keyed_of image) (keyed-legal image legal) pc at.0 at.1 there
      (omega (arith, found-within (keyed_of image).points (suc pc) to.0 to.1)))

  -- a place from which control does not come on is one where a row is given
  pub falls-there : (pc : ℕ) (p q : Place) → slice_get (places image) pc ≡ Some p → slice_get (places image) (suc pc) ≡ Some q
      → gives (keyed_of image) (suc pc) ≡ false → falls_through p.instr.opcode ≡ true
  falls-there pc p q read next bare = by_test (falls_through p.instr.opcode) refl
    where
      by_test : (b : Bool) → falls_through p.instr.opcode ≡ b → falls_through p.instr.opcode ≡ true
      by_test true e = e
      by_test false e = absurd (false≢true (sym bare ∙ cut-given pc p q read e next))
