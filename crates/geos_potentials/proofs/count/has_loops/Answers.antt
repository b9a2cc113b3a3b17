use Rattle.std.proofs.Common.{◌≡◌, inl, inr, sym, ◌∙◌, subst, arith}
use Rattle.std.proofs.lemmas.Bool.{cases_lt, false≢true}
use Rattle.geos_code.proofs.Bodies.{in-body}
use Rattle.geos_potentials.specs.Constants.{IsLoopAt, GoesBack}
use Rattle.geos_code.proofs.Back.{no-loop, loop-only}
use Rattle.geos_potentials.proofs.Priced.{never-loops, never-back}
use Rattle.geos_potentials.proofs.count.has_loops.Goals.{then-is_loop-via-then-is_loop, then-is_loop-via-else-is_loop+then-leads_back}
use Rattle.geos_potentials.proofs.count.has_loops.Goals as goal

pub returns-then-is_loop-clause-forward : goal.returns-then-is_loop-clause-forward
returns-then-is_loop-clause-forward c = λ forward.
    let body = c.args.body.now in
    let pc = c.loop-pc.pc in
    elim c.then-is_loop.branch [
      | then-is_loop-via-then-is_loop w ↦
          absurd (no-loop body.image.now body.r forward pc c.instr.result.now (in-body body pc c.loop-pc.auto.pc c.loop-pc-test.true)
          (omega (arith, body.room)) c.instr.ensures.there (loop-only c.instr.result.now.opcode (sym c.is_loop.ensures ∙ w.if-is_loop.true)))
      | then-is_loop-via-else-is_loop+then-leads_back w ↦ absurd (false≢true (sym (w.leads_back.ensures.none forward) ∙ w.if-leads_back.true))
    ]

pub loop-pc-init : goal.loop-pc-init
loop-pc-init c = λ pc within lt loops. (let body = c.args.body.now in let above = within.above in absurd (omega (arith, above, lt, body.begins)))

pub loop-pc-preserved : goal.loop-pc-preserved
loop-pc-preserved c = λ pc within lt loops.
    let body = c.args.body.now in
    let image = body.image.now in
    elim (cases_lt pc c.loop-pc.pc) [
      | inl earlier ↦ c.loop-pc.invariant pc within earlier loops
      | inr late ↦
          let same : pc ≡ c.loop-pc.pc = omega arith in
          elim loops [
            | inl loop ↦ never-loops image c.loop-pc.pc c.instr.result.now (omega (arith, c.loop-pc-test.true, body.room))
                c.instr.ensures.there (sym c.is_loop.ensures ∙ c.if-is_loop.false) (subst (IsLoopAt image) same loop)
            | inr back ↦ never-back image body.r c.loop-pc.pc (c.leads_back.ensures.ahead c.if-leads_back.false)
                (subst (GoesBack image body.r) same back)
          ]
    ]

pub returns-clause-none : goal.returns-clause-none
returns-clause-none c = λ is L. (let body = c.args.body.now in let within = L.within in let below = within.below in
    c.loop-pc.invariant L.pc within (omega (arith, below, body.ends, c.loop-pc-test.false)) L.loops)
