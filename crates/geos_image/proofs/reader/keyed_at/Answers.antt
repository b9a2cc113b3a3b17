use Rattle.std.proofs.Common.{rules, arith, ◌≡◌, refl, Bool, true, List, length, sym, ap, ◌∙◌, subst}
use Rattle.geos_image.specs.declared.point.Point.{Point}
use Rattle.geos_image.specs.Parts.{instrs_of}
use Rattle.geos_image.specs.Keys.{key_flags, with_rows, flag_count}
use Rattle.geos_image.specs.Legal.{is_image}
use Rattle.geos_image.specs.Repeats.{AreRepeats, RepeatsBy}
use Rattle.geos_image.proofs.KeyLaws.{keyed_legal, length-instrs, with_rows-length}
use Rattle.geos_image.proofs.RepeatLaws.{placed-repeat, first-noted}
use Rattle.geos_image.proofs.reader.keyed_at.Goals as goal

pub invariant_of-result : goal.invariant_of-result
invariant_of-result c =
    let routines = c.args.routines.items in
    let code = c.args.code.now in
    let points = c.in_ok-points.points.items in
    let rows = c.in_ok-rows.rows.items in
    let instrs : instrs_of points ≡ code = c.in_ok-points.ensures.instrs in
    let flags : c.keys_of-flags.result ≡ key_flags routines code = c.keys_of-flags.ensures
    ∙ rw (c.deref.ensures.value, c.deref-2.ensures.value, instrs) refl in
    let count : c.flag_count-count.result ≡ flag_count (key_flags routines code) code = c.flag_count-count.ensures.value
    ∙ rw (flags, c.deref-3.ensures.value, instrs) refl in
    let as_many : flag_count (key_flags routines code) code ≡ length rows = sym count ∙ sym c.in_ok-rows.ensures.len in
    let placed : c.place_rows.new.points.items ≡ with_rows (key_flags routines code) points rows = c.place_rows.ensures
    ∙ rw (flags, c.deref-then-bytes-end.ensures.value) refl in
    let len : length points ≡ length code = sym (length-instrs points) ∙ ap length instrs in
    let placed_len : length c.place_rows.new.points.items ≡ length code =
    ap length placed ∙ with_rows-length (key_flags routines code) points rows ∙ len in
    let noted : RepeatsBy (key_flags routines code) c.rows_at.new.alike (length points) c.repeats_of-repeats.result =
    rw len (subst (λ (fs : List Bool). RepeatsBy fs c.rows_at.new.alike (length code) c.repeats_of-repeats.result) flags c.repeats_of-repeats.ensures) in (
      subst (λ (ps : List Point). is_image (record { keyed = true; routines = routines; points = ps }) ≡ true) (sym placed)
          (keyed_legal routines code points rows c.requires.legal c.in_ok-points.ensures.legal instrs c.in_ok-rows.ensures.legal as_many),
      rw c.in_ok-repeats.ensures (first-noted c.repeats_of-repeats.result c.place_rows.new.points.items _ (search (rules, arith)) placed_len
          (subst (AreRepeats c.repeats_of-repeats.result) (sym placed)
          (placed-repeat (key_flags routines code) c.rows_at.new.alike c.repeats_of-repeats.result points rows
          (ap (flag_count (key_flags routines code)) instrs ∙ as_many) c.in_ok-rows.ensures.alike noted))),
    )
