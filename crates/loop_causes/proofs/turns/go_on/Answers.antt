use Rattle.std.proofs.Common.{◌+◌, ◌∙◌, ℕ, ap, arith}
use Rattle.loop_causes.specs.Turns.{counters_after}
use Rattle.geos_code.proofs.Bodies.{in-body}
use Rattle.loop_causes.proofs.Onward.{goes-on}
use Rattle.loop_causes.proofs.turns.go_on.Goals as goal

pub returns : goal.returns
returns c = λ to leads.
    let body = c.args.body.now in
    let within = in-body body c.args.pc c.requires.above c.requires.below in
    goes-on c.args.rows.now body.image.now body.r c.args.pc to c.args.branch leads within c.instr-i.result.now
    c.untouched-called.result c.args.reach.now
    (record { steps = c.capped.result + c.taken_at.result; counters = c.in_ok-counters.counters }) c.instr-i.ensures.there
    c.instr-i.ensures.fields
    (c.in_ok-counters.ensures ∙ ap (λ (word : ℕ). counters_after word c.instr-i.result.now c.instr-i.result.now.opcode c.args.branch
    c.untouched-called.result c.args.reach.now.counters) c.word_at-word.ensures)
    (omega (arith, c.capped.ensures.less, c.taken_at.ensures.value))
