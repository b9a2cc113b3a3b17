use Rattle.std.proofs.Common.{sym, ap, ◌∙◌}
use Rattle.lmem_raw.specs.Bytes.{part, with_part}
use Rattle.block_handles.proofs.Regions.{part-back}
use Rattle.block_handles.proofs.arena.move_to.Goals as goal

pub returns-then-from-to : goal.returns-then-from-to
returns-then-from-to c =
    let r = c.args.region.now in
    sym (ap (λ x. with_part r c.args.to (part r x c.args.n)) c.if-from-to.true ∙ part-back r c.args.to c.args.n)
