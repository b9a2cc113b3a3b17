use Rattle.std.proofs.Common.{arith}
use Rattle.vm_file.specs.declared.directory.Entry.{Entry}
use Rattle.vm_file.proofs.Lengths.{entries_length-more}
use Rattle.geos_dump.proofs.lengths.entries_length.Goals as goal

pub loop-e-preserved : goal.loop-e-preserved
loop-e-preserved c =
    let blank : Entry = record { h = 0; uid = 0; len = 0 } in
    let more = entries_length-more c.args.entries.now c.loop-e.e-index blank c.loop-e-test.true in
    record { sum = omega (arith, more, c.from.ensures, c.loop-e.invariant.sum); small = omega arith }
