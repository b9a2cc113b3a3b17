use Rattle.std.proofs.Common.{sym, ◌∙◌, arith}
use Rattle.loop_causes.proofs.Tests.{loops-at}
use Rattle.loop_causes.proofs.within.loop_at.Goals as goal

pub returns-clause-loops : goal.returns-clause-loops
returns-clause-loops c =
    let body = c.args.body.now in
    let begins = body.begins in
    let ends = body.ends in
    record {
      leads = c.in_ok-edge.ensures.leads;
      from = record { above = omega arith; below = omega arith };
      to = c.in_ok-edge.ensures.stays;
      loops = loops-at body.image.now c.args.from c.instr-i.result.now (omega (arith, body.room)) c.instr-i.ensures.there
          (sym c.is_loop.ensures ∙ c.if-not-is_loop.false);
    }
