-- In version 2 an accepted image knows as much at each place, and no pointer there leads into an empty slot.
use Rattle.std.proofs.Common.{◌≡◌, ◌≤◌, ◌+◌, ℕ, zero, suc, Bool, true, false, Some, length, slice_get, refl, sym, ap, subst, ◌∙◌, inl, inr, arith}
use Rattle.std.specs.Prelude.{◌&&◌, not}
use Rattle.std.proofs.lemmas.Bool.{cases_eq, false≢true}
use Rattle.geos_image.specs.declared.instr.Instr.{Instr}
use Rattle.geos_image.specs.declared.row.Row.{Row}
use Rattle.geos_image.specs.declared.routine.Routine.{Routine}
use Rattle.geos_image.specs.Parts.{Parts, start_of}
use Rattle.geos_image.specs.Keys.{falls_through, branches, gives, keyed_of}
use Rattle.geos_image.specs.Fields.{FieldsFit}
use Rattle.geos_image.proofs.Instrs.{formed_fits}
use Rattle.geos_image.proofs.Kept.{row-there, four-exit}
use Rattle.geos_verify.specs.declared.place.Place.{Place}
use Rattle.geos_verify.specs.Places.{places, at_place}
use Rattle.geos_verify.specs.Rows.{fits, row_along, row_branching}
use Rattle.geos_verify.specs.Rules.{HasPoint, IsAcceptable, names_empty_slot, misfits_at, edge_misfits, tests}
use Rattle.geos_verify.proofs.Passed.{NoneRefuses, passed, none-refuses}
use Rattle.geos_verify.proofs.Places.{place_bounds, place_true, item_at, found-within, point-of}
use Rattle.geos_verify.proofs.Known.{at_place-is}
use Rattle.geos_verify.proofs.Passing.{may_stand-mono, MayStand, neither, not-both, true-not}
use Rattle.geos_verify.proofs.Leads.{leads-along, leads-branching}
use Rattle.geos_verify.proofs.Exits.{exit-clean}
use Rattle.geos_verify.proofs.Clean.{IsClean, along-clean}
use Rattle.geos_verify.proofs.KeyedPlaces.{KnownAs, along-same, known-given, known-next, along-fits, branching-fits, start-given, target-given, falls-there}

module _ (image : Parts) (checked : IsAcceptable image) (all : image.keyed ≡ false) (r : ℕ) (routine : Routine) where
  -- what is known at a place in version 2, without pointers into empty slots
  pub record CleanAs (pc : ℕ) (p : Place) : Type 0 where
    pub known : KnownAs image checked.0 all pc p
    pub clean : IsClean known.row

  pub passes : (pc : ℕ) (p : Place) → HasPoint image r routine pc p → NoneRefuses image r routine (start_of image.routines r) pc p
  passes pc p has = none-refuses image r routine (start_of image.routines r) pc p (checked.1 r pc routine p has)

  pub stands : (pc : ℕ) (p : Place) → HasPoint image r routine pc p → MayStand image r routine p.instr p.row
  stands pc p has =
      let pass = passes pc p has in
      record {
        fresh = pass.fresh;
        within = pass.within;
        marked = pass.marked;
        unheld = pass.unheld;
        held =
            pass.held;
        freed = pass.freed;
        call = pass.call;
        exit = pass.exit;
      }

  four : (pc : ℕ) (p : Place) → slice_get (places image) pc ≡ Some p → length p.row.slots ≡ 4
  four pc p read =
      let found = point-of image pc p read in
      let given = row-there image checked.0 all pc found.0 found.1 in
      ap (λ (x : Row). length x.slots) (found.2.row given.0 given.1) ∙ given.2

  clean-given : (pc : ℕ) (p : Place) → HasPoint image r routine pc p → gives (keyed_of image) pc ≡ true → CleanAs pc p
  unfolding known-given
  clean-given pc p has is =
      let clean : names_empty_slot p.row ≡ false =
      (passed (tests image r routine (start_of image.routines r) pc p) (checked.1 r pc routine p has)).1.0 in
      record { known = known-given image checked.0 all pc p has.read is; clean = record { clean = clean; four = four pc p has.read } }

  fields : (pc : ℕ) (p : Place) → slice_get (places image) pc ≡ Some p → FieldsFit p.instr.opcode p.instr
  fields pc p read =
      let found = point-of image pc p read in
      subst (λ (i : Instr). FieldsFit i.opcode i) (sym found.2.instr) ((formed_fits true image pc found.0 checked.0 found.1).0)

  -- the row after an accepted instruction implies the row that is known at the next pc
  fits-along : (pc : ℕ) (p q : Place) → HasPoint image r routine pc p → falls_through p.instr.opcode ≡ true
      → slice_get (places image) (suc pc) ≡ Some q → fits (row_along image p.instr p.instr.opcode p.row) q.row ≡ true
  fits-along pc p q has falls read =
      let L = leads-along true image checked.0 checked.1 r pc routine p has p.instr.opcode refl falls in
      let plus : suc pc ≡ pc + 1 = omega arith in
      let both_there : Some L.point ≡ Some q = sym L.has.read ∙ ap (slice_get (places image)) (sym plus) ∙ read in
      let is : L.point ≡ q = cc in
      subst (λ (x : Place). fits (row_along image p.instr p.instr.opcode p.row) x.row ≡ true) is L.fits

  -- where no row is given, nothing leads there but the instruction before
  clean-next : (q : ℕ) (p : Place) → HasPoint image r routine (suc q) p → gives (keyed_of image) (suc q) ≡ false
      → ((before : Place) → HasPoint image r routine q before → CleanAs q before) → CleanAs (suc q) p
  unfolding known-next
  clean-next q p has bare earlier =
      let start = start_of image.routines r in
      let bounds = place_bounds start routine.count (suc q) has.within in
      let above : start ≤ q = elim (cases_eq start (suc q)) as (λ _. start ≤ q) [
        | inl same ↦
            let yes = start-given image checked.0 all r routine p has.there (ap (slice_get (places image)) same ∙ has.read) in
            let here : gives (keyed_of image) (suc q) ≡ true = subst (λ k. gives (keyed_of image) k ≡ true) same yes in
            absurd (false≢true (sym bare ∙ here))
        | inr other ↦ omega (arith, bounds.0, other)
      ] in
      let found = item_at (places image) q (omega (arith, found-within (places image) (suc q) p has.read)) in
      let before : Place = found.0 in
      let has_before : HasPoint image r routine q before =
      record { there = has.there; within = place_true start routine.count q above (omega (arith, bounds.1)); read = found.1 } in
      let C = earlier before has_before in
      let K = C.known in
      let i = before.instr in
      let falls = falls-there image checked.0 all q before p found.1 has.read bare in
      let held = (may_stand-mono image r routine i K.row before.row K.fit (stands q before has_before)).held in
      let clean = along-clean image i i.opcode K.row refl (fields q before found.1)
      (λ callee there. record { clean = exit-clean image checked i.imm callee there; four = four-exit image checked.0 i.imm callee there })
      C.clean held in
      record { known = known-next image checked.0 all q before p has.read K bare (fits-along q before p has_before falls has.read); clean = clean }

  clean-by : (q : ℕ) (p : Place) → HasPoint image r routine (suc q) p → (b : Bool) → gives (keyed_of image) (suc q) ≡ b
      → ((before : Place) → HasPoint image r routine q before → CleanAs q before) → CleanAs (suc q) p
  clean-by q p has true e earlier = clean-given (suc q) p has e
  clean-by q p has false e earlier = clean-next q p has e earlier

  -- so it is at each place
  pub clean-as : (pc : ℕ) (p : Place) → HasPoint image r routine pc p → CleanAs pc p
  clean-as zero p has =
      let bounds = place_bounds (start_of image.routines r) routine.count 0 has.within in
      let same : start_of image.routines r ≡ 0 = omega (arith, bounds.0) in
      let yes = start-given image checked.0 all r routine p has.there (ap (slice_get (places image)) same ∙ has.read) in
      clean-given 0 p has (subst (λ k. gives (keyed_of image) k ≡ true) same yes)
  clean-as (suc q) p has = clean-by q p has (gives (keyed_of image) (suc q)) refl (λ before has_before. clean-as q before has_before)

  along-passes : (pc : ℕ) (p : Place) → HasPoint image r routine pc p → (C : CleanAs pc p) → falls_through p.instr.opcode ≡ true
      → at_place (keyed_of image) (pc + 1) (λ x. fits (row_along (keyed_of image) p.instr p.instr.opcode C.known.row) x.row) ≡ true
  along-passes pc p has C falls =
      let i = p.instr in
      let K = C.known in
      let L = leads-along true image checked.0 checked.1 r pc routine p has i.opcode refl falls in
      let plus : pc + 1 ≡ suc pc = omega arith in
      let next : HasPoint image r routine (suc pc) L.point = subst (λ k. HasPoint image r routine k L.point) plus L.has in
      let N = (clean-as (suc pc) L.point next).known in
      let fit = along-fits image checked.0 all pc p L.point K N next.read L.fits in
      let X = row_along (keyed_of image) i i.opcode K.row in
      let here : fits X N.row ≡ true = ap (λ (x : Row). fits x N.row) (along-same image i i.opcode K.row) ∙ fit in
      subst (λ k. at_place (keyed_of image) k (λ x. fits X x.row) ≡ true) (sym plus)
      (at_place-is (keyed_of image) (suc pc) (record L.point { row = N.row }) (λ x. fits X x.row) N.there ∙ here)

  branching-passes : (pc : ℕ) (p : Place) → HasPoint image r routine pc p → (C : CleanAs pc p) → branches p.instr.opcode ≡ true
      → at_place (keyed_of image) p.instr.target (λ x. fits (row_branching p.instr p.instr.opcode C.known.row) x.row) ≡ true
  branching-passes pc p has C branch =
      let i = p.instr in
      let K = C.known in
      let L = leads-branching true image checked.0 checked.1 r pc routine p has i.opcode refl branch in
      let N = (clean-as i.target L.point L.has).known in
      let given = target-given image checked.0 all pc p L.point has.read branch L.has.read in
      let fit = branching-fits image checked.0 all pc i.target p L.point K N given L.fits in
      let X = row_branching i i.opcode K.row in
      at_place-is (keyed_of image) i.target (record L.point { row = N.row }) (λ x. fits X x.row) N.there ∙ fit

  -- the rule on edges passes
  pub edges-pass : (pc : ℕ) (p : Place) → HasPoint image r routine pc p → (C : CleanAs pc p)
      → edge_misfits (keyed_of image) pc p.instr C.known.row ≡ false
  unfolding edge_misfits misfits_at
  edges-pass pc p has C =
      let i = p.instr in
      let row = C.known.row in
      neither (falls_through i.opcode && not (at_place (keyed_of image) (pc + 1) (λ x. fits (row_along (keyed_of image) i i.opcode row) x.row)))
      (branches i.opcode && not (at_place (keyed_of image) i.target (λ x. fits (row_branching i i.opcode row) x.row)))
      (not-both (falls_through i.opcode) _ (λ falls. true-not _ (along-passes pc p has C falls)))
      (not-both (branches i.opcode) _ (λ branch. true-not _ (branching-passes pc p has C branch)))
