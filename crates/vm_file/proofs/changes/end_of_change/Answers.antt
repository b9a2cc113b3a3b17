use Rattle.std.proofs.Common.{◌≡◌, ◌+◌, ◌-◌, ◌∙◌, length, take, drop, subst, arith}
use Rattle.lmem_raw.specs.Bytes.{part}
use Rattle.vm_file.proofs.Moments.{reads_then}
use Rattle.vm_file.proofs.Pieces.{end_more}
use Rattle.vm_file.proofs.changes.end_of_change.Goals as goal

pub loop-n-preserved : goal.loop-n-preserved
loop-n-preserved g c =
    let i = c.loop-n.invariant in
    let d = g.D.Device in
    let n = c.loop-n.n in
    let m = n - c.min.result in
    record {
      bound = omega arith;
      long = c.stands.ensures.long ∙ i.long;
      reads = reads_then d.medium c.args.device.now c.loop-n.device c.stands.new.device i.reads c.in-Ok-true.ensures.read.only;
      count = c.in-Ok-true.ensures.read.ok ∙ i.count;
      stands = (λ h.
          let there = (c.in-Ok-true.ensures.exact (i.reads.stays h)).0 c.in-Ok-true.field-0-test in
          end_more _ c.args.bytes.now c.args.at n m (omega arith) (omega arith)
          (subst (λ x. part x (c.args.at + m) (length (take (n - m) (drop m c.args.bytes.now))) ≡ take (n - m) (drop m c.args.bytes.now))
          i.reads.same there) (i.stands h));
    }
