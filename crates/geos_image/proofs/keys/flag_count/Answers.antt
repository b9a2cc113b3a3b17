use Rattle.std.proofs.Common.{refl, arith, None, []}
use Rattle.geos_image.specs.declared.point.Point.{Point}
use Rattle.std.specs.Prelude.{slice_index_or, false}
use Rattle.geos_opcodes.specs.declared.opcode.Opcode.TheVariants.{Ldi}
use Rattle.geos_image.proofs.KeyLaws.{count-more, bit-small}
use Rattle.geos_image.proofs.keys.flag_count.Goals as goal

abbrev blank : Point
blank = record {
  instr = record { opcode = Ldi; a = 0; b = 0; c = 0; d = 0; imm = 0; target = 0 };
  row = None;
  potential =
      record { constant = 0; coefficients = [] };
}

pub loop-pc-preserved : goal.loop-pc-preserved
loop-pc-preserved c =
    let more = count-more c.args.flags.now c.args.points.now c.loop-pc.pc _ blank c.loop-pc-test.true
    (omega (arith, c.loop-pc-test.true, c.requires, c.type_inv.flags)) refl in
    let bit = c.flag_bit-count.ensures in
    let small = bit-small (slice_index_or c.args.flags.now c.loop-pc.pc false) in
    (omega (arith, bit, small, c.loop-pc.invariant.0), omega (arith, bit, more, c.loop-pc.invariant.1))
