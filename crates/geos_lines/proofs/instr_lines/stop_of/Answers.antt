use Rattle.std.proofs.Common.{◌∙◌, refl, sym, ap, subst, drop}
use Rattle.geos_opcodes.specs.Fields.{fields, is_written}
use Rattle.geos_opcodes.specs.declared.fields.Field.TheVariants.{A}
use Rattle.geos_text.specs.Words.{words}
use Rattle.geos_lines.specs.Forms.{IsOperand, StopsAt, StopsBehind, StopsHere, kinds_of}
use Rattle.geos_lines.specs.declared.instr_lines.Stop.TheVariants.{TooMuch, Nowhere}
use Rattle.geos_lines.proofs.Stops.{past-operand, past-unused, stops-behind, stops-here}
use Rattle.geos_lines.proofs.instr_lines.stop_of.Goals.{then-is_written+in-Ok, else-is_written}
use Rattle.geos_lines.proofs.instr_lines.stop_of.Goals as goal

pub returns-in-Err : goal.returns-in-Err
returns-in-Err c =
    let here = words (drop c.loop-i.at c.args.line.now) in
    let used = ap is_written (sym c.operand_at-kind.ensures) ∙ sym c.is_written.ensures ∙ c.if-is_written.true in
    let stops = subst (λ kind. StopsHere kind here c.in-Err.stop) c.operand_at-kind.ensures c.in-Err.ensures.err in
    stops-here c.args.opcode c.loop-i.i _ here (StopsAt (kinds_of c.args.opcode fields) (words (drop c.args.from c.args.line.now)))
    c.loop-i.invariant.1 c.loop-i-test.true used c.in-Err.stop stops

pub loop-i-preserved : goal.loop-i-preserved
loop-i-preserved c =
    let here = words (drop c.loop-i.at c.args.line.now) in
    let ends = StopsAt (kinds_of c.args.opcode fields) (words (drop c.args.from c.args.line.now)) in
    elim c.if-is_written.branch [
      | then-is_written+in-Ok w ↦
          let used = ap is_written (sym c.operand_at-kind.ensures) ∙ sym c.is_written.ensures ∙ w.if-is_written.true in
          let behind = words (drop w.in-Ok.word.end c.args.line.now) in
          let is = subst (λ kind. IsOperand kind here behind) c.operand_at-kind.ensures w.in-Ok.ensures.ok in
          rw w.at-is (
            w.in-Ok.ensures.within,
            past-operand c.args.opcode c.loop-i.i _ here ends c.loop-i.invariant.1 behind c.loop-i-test.true used is,
          )
      | else-is_written w ↦
          let unused = ap is_written (sym c.operand_at-kind.ensures) ∙ sym c.is_written.ensures ∙ w.if-is_written.false in
          rw w.at-is (
            c.loop-i.invariant.0,
            past-unused c.args.opcode c.loop-i.i _ here ends c.loop-i.invariant.1 c.loop-i-test.true unused,
          )
    ]

pub returns-in-Some : goal.returns-in-Some
returns-in-Some c =
    let here = words (drop c.loop-i.at c.args.line.now) in
    let left = subst (λ ws. StopsBehind ws (TooMuch c.in-Some.word)) (sym c.in-Some.ensures.some) refl in
    stops-behind c.args.opcode c.loop-i.i A here (StopsAt (kinds_of c.args.opcode fields) (words (drop c.args.from c.args.line.now)))
    c.loop-i.invariant.1 c.loop-i-test.false (TooMuch c.in-Some.word) left

pub returns-in-None : goal.returns-in-None
returns-in-None c =
    let here = words (drop c.loop-i.at c.args.line.now) in
    let left = subst (λ ws. StopsBehind ws (Nowhere c.loop-i.last)) (sym c.in-None.ensures.none) tt in
    stops-behind c.args.opcode c.loop-i.i A here (StopsAt (kinds_of c.args.opcode fields) (words (drop c.args.from c.args.line.now)))
    c.loop-i.invariant.1 c.loop-i-test.false (Nowhere c.loop-i.last) left
