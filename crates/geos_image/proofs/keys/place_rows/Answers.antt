use Rattle.std.proofs.Common.{◌≡◌, ◌<◌, None, [], length, get_or, ◌∙◌, length-set, rules, arith}
use Rattle.std.specs.Prelude.{slice_index_or, false}
use Rattle.geos_opcodes.specs.declared.opcode.Opcode.TheVariants.{Ldi}
use Rattle.geos_image.specs.declared.point.Point.{Point}
use Rattle.geos_image.proofs.KeyLaws.{place-more, bit-small}
use Rattle.geos_image.proofs.keys.place_rows.Goals as goal

abbrev blank : Point
blank = record {
  instr = record { opcode = Ldi; a = 0; b = 0; c = 0; d = 0; imm = 0; target = 0 };
  row = None;
  potential =
      record { constant = 0; coefficients = [] };
}

pub loop-pc-preserved : goal.loop-pc-preserved
loop-pc-preserved c =
    let flags = c.args.flags.now in
    let points = c.loop-pc.points.items in
    let pc = c.loop-pc.pc in
    let flag = slice_index_or flags pc false in
    let lt : pc < length points = omega (arith, c.loop-pc-test.true, c.loop-pc.invariant.1) in
    let room : pc < length flags = omega (arith, c.loop-pc-test.true, c.requires, c.type_inv.flags) in
    let here : get_or points pc c.index_mut.result.now ≡ c.index_mut.result.now = search rules in
    let more = place-more flags points c.args.rows.now pc c.loop-pc.next c.index_mut.result.now lt room here in
    let small = bit-small flag in
    let bit = c.flag_bit-next.ensures in
    rw (c.set_row.ensures, bit) (
      omega (arith, small, c.loop-pc.invariant.0),
      length-set points pc _
          ∙ c.loop-pc.invariant.1,
      more ∙ c.loop-pc.invariant.2,
    )
