use Rattle.std.proofs.Common.{◌≡◌, ◌≤◌, ◌+◌, ◌*◌, None, sym, ap, ◌∙◌, slice_get, arith}
use Rattle.std.proofs.Math.Nat.{mul-le-mul_left}
use Rattle.geos_image.specs.declared.instr.Instr.{Instr}
use Rattle.geos_verify.specs.Lists.{zip2}
use Rattle.geos_verify.proofs.Places.{if_some}
use Rattle.loop_causes.specs.Turns.{number_in, unless_changed}
use Rattle.loop_causes.proofs.Onward.{goes-behind}
use Rattle.loop_causes.proofs.turns.go_on_behind.Goals as goal

pub with_counter-spent-requires : goal.with_counter-spent-requires
with_counter-spent-requires c =
    let turn = c.requires.turns c.args.pc c.in_ok-turn.turn (sym (c.in_ok-turn.ensures None)) in
    let same = if_some (λ point. c.instr.result.now ≡ point.instr) (slice_get c.args.body.now.image.now.points c.args.pc)
    turn.point turn.there c.instr.ensures.there in
    omega (arith, turn.few, ap (λ (i : Instr). i.a) same)

pub returns : goal.returns
returns c = λ to leads.
    let body = c.args.body.now in
    let turn = c.requires.turns c.args.pc c.in_ok-turn.turn (sym (c.in_ok-turn.ensures None)) in
    let left = c.from-left.result in
    let less : c.capped-2.result + 1 ≤ c.in_ok-turn.turn.steps + 1 = omega (arith, c.capped-2.ensures.less) in
    let more = mul-le-mul_left left less in
    goes-behind c.args.rows.now body.image.now body.r c.args.pc c.in_ok-turn.turn turn to left c.instr.result.now c.args.reach.now
    (record { steps = c.capped.result + left * (c.capped-2.result + 1) + 1; counters = c.unless_all_changed.result }) leads c.instr.ensures.there
    (c.from-left.ensures ∙ c.number_in.ensures ∙ ap number_in c.counter_at.ensures)
    (c.unless_all_changed.ensures ∙ ap (zip2 unless_changed c.in_ok-turn.turn.counters) c.with_counter-spent.ensures)
    (omega (arith, c.capped.ensures.less, more))
