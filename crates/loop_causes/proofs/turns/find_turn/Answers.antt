use Rattle.std.proofs.Common.{◌≡◌, ◌<◌, ℕ, List, Option, length, slice_get, sym, ap, ◌∙◌, subst, arith}
use Rattle.std.specs.Prelude.{IfSome}
use Rattle.geos_opcodes.specs.declared.opcode.Opcode.{Opcode}
use Rattle.geos_opcodes.specs.declared.opcode.Opcode.TheVariants.{Loop}
use Rattle.geos_image.specs.declared.instr.Instr.{Instr}
use Rattle.geos_image.specs.declared.row.Row.{Row}
use Rattle.geos_image.specs.Fields.{FieldsFit}
use Rattle.geos_image.specs.Parts.{Parts}
use Rattle.geos_verify.proofs.Places.{item_at, if_some}
use Rattle.loop_causes.specs.declared.counters.Counter.TheVariants.{Kept}
use Rattle.loop_causes.specs.declared.reach.Reach.{Reach}
use Rattle.geos_code.specs.Code.{IsPcOf}
use Rattle.loop_causes.specs.Turns.{begin_at, counter_at, AlwaysComesTo, IsTurn}
use Rattle.geos_code.proofs.Back.{loop-only}
use Rattle.geos_code.proofs.Bodies.{in-body}
use Rattle.loop_causes.proofs.turns.find_turn.Goals as goal

turn-at : (rows : List (Option Row)) (image : Parts) (r pc : ℕ) (i : Instr) (turn : Reach) → IsPcOf image r pc → pc < length image.points
    → IfSome (slice_get image.points pc) (λ point. i ≡ point.instr) → FieldsFit i.opcode i → i.opcode ≡ Loop
    → AlwaysComesTo rows image r (begin_at i.target) pc turn → counter_at turn.counters i.a ≡ Kept → IsTurn rows image r pc turn
turn-at rows image r pc i turn within lt there fields loops reached kept =
    let found = item_at image.points pc lt in
    let same : i ≡ found.0.instr = if_some (λ point. i ≡ point.instr) (slice_get image.points pc) found.0 found.1 there in
    let few : i.a < 4 = (subst (λ (o : Opcode). FieldsFit o i) loops fields).0 in
    record {
      within = within;
      point = found.0;
      there = found.1;
      loops = ap (λ (x : Instr). x.opcode) (sym same) ∙ loops;
      few = subst (λ (x : Instr). x.a < 4) same few;
      way = subst (λ (x : Instr). AlwaysComesTo rows image r (begin_at x.target) pc turn) same reached;
      kept = subst (λ (x : Instr). counter_at turn.counters x.a ≡ Kept) same kept;
    }

pub returns-in-Kept : goal.returns-in-Kept
returns-in-Kept c =
    let loops_now = c.args.loops.now in
    let body = loops_now.body in
    let i = c.instr-i.result.now in
    let pc = c.args.pc in
    let loops = loop-only i.opcode (sym c.is_loop.ensures ∙ c.if-not-is_loop.false) in
    turn-at loops_now.rows.now body.image.now body.r pc i c.in_ok-turn.turn (in-body body pc c.requires.above c.requires.below)
    (omega (arith, c.requires.below, body.room)) c.instr-i.ensures.there c.instr-i.ensures.fields loops c.in_ok-turn.ensures (sym c.in-Kept.ensures)
