use Rattle.std.proofs.Common.{◌≡◌, ◌≤◌, ◌+◌, true, false, Bool, length, slice_get, refl, sym, ap, ◌∙◌, arith, true≢false}
use Rattle.std.specs.Prelude.{◌||◌, ◌&&◌}
use Rattle.geos_image.specs.declared.instr.Instr.{Instr}
use Rattle.geos_verify.specs.Touched.{calls}
use Rattle.geos_verify.proofs.Known.{row-given, gives-within}
use Rattle.geos_verify.proofs.Places.{if_some}
use Rattle.geos_grants.specs.Effects.{does}
use Rattle.geos_grants.specs.Routines.{acts, noted}
use Rattle.geos_grants.proofs.Passes.{passed-none, passed-one, place-in}
use Rattle.geos_grants.proofs.routines.source_in.Goals as goal

neither : (a b : Bool) → a ≡ false → b ≡ false → (a || b) ≡ false
neither false b x y = y
neither true b x y = absurd (true≢false x)

pub loop-pc-init : goal.loop-pc-init
loop-pc-init c =
    let image = c.args.image.now in
    let start = c.start-start.result in (
      row-given image start c.row.result.now c.row.ensures (gives-within image start c.start-start.ensures.given),
      passed-none image c.args.r start c.start-start.ensures.start (acts c.args.effect (noted c.args.table.now c.args.effect)),
    )

pub loop-pc-preserved : goal.loop-pc-preserved
loop-pc-preserved c =
    let image = c.args.image.now in
    let start = c.start-start.result in
    let pc = c.loop-pc.pc in
    let end = if_some (λ routine. start + routine.count ≤ length image.points) (slice_get image.routines c.args.r)
    c.routine.result.now c.routine.ensures c.start-start.ensures.room in (
      c.row_next-row.ensures,
      passed-one image c.args.r start c.start-start.ensures.start c.routine.result.now c.routine.ensures c.args.effect
          (noted c.args.table.now c.args.effect) pc c.instr-i.result.now c.loop-pc.row c.loop-pc.auto.pc c.loop-pc-test.true
          c.instr-i.ensures.there c.loop-pc.invariant.0 (omega (arith, c.loop-pc-test.true, end))
          ∙ neither _ _ c.loop-pc.invariant.1
          (sym (c.effects_with_callee.ensures c.args.effect) ∙ sym c.has.ensures ∙ c.if-has.false),
    )

pub returns-then-has-2 : goal.returns-then-has-2
returns-then-has-2 c =
    let image = c.args.image.now in
    let start = c.start-start.result in
    let end = if_some (λ routine. start + routine.count ≤ length image.points) (slice_get image.routines c.args.r)
    c.routine.result.now c.routine.ensures c.start-start.ensures.room in
    let place = place-in image c.args.r start c.start-start.ensures.start c.routine.result.now c.routine.ensures c.loop-pc.pc
    c.instr-i.result.now c.loop-pc.row c.loop-pc.auto.pc c.loop-pc-test.true c.instr-i.ensures.there c.loop-pc.invariant.0
    (omega (arith, c.loop-pc-test.true, end)) in (
      c.routine.result.now,
      place.0,
      place.1,
      rw (place.2, place.3) (sym (c.effects_at.ensures c.args.effect) ∙ sym c.has-then-has.ensures ∙ c.if-has-2.true),
    )

calls-it : (a b d : Bool) → (a || (b && d)) ≡ true → a ≡ false → (b ≡ true) × (d ≡ true)
calls-it false true true x y = (refl, refl)
calls-it false true false x y = absurd (true≢false (sym x))
calls-it false false d x y = absurd (true≢false (sym x))
calls-it true b d x y = absurd (true≢false y)

pub returns-else-has-2 : goal.returns-else-has-2
returns-else-has-2 c =
    let image = c.args.image.now in
    let start = c.start-start.result in
    let i = c.instr-i.result.now in
    let end = if_some (λ routine. start + routine.count ≤ length image.points) (slice_get image.routines c.args.r)
    c.routine.result.now c.routine.ensures c.start-start.ensures.room in
    let place = place-in image c.args.r start c.start-start.ensures.start c.routine.result.now c.routine.ensures c.loop-pc.pc
    i c.loop-pc.row c.loop-pc.auto.pc c.loop-pc-test.true c.instr-i.ensures.there c.loop-pc.invariant.0
    (omega (arith, c.loop-pc-test.true, end)) in
    let found = calls-it (does c.args.effect i c.loop-pc.row) (calls i.opcode) (noted c.args.table.now c.args.effect i.imm)
    (sym (c.effects_with_callee.ensures c.args.effect) ∙ sym c.has.ensures ∙ c.if-has.true)
    (sym (c.effects_at.ensures c.args.effect) ∙ sym c.has-then-has.ensures ∙ c.if-has-2.false) in (
      record {
        routine = c.routine.result.now;
        pc = c.loop-pc.pc;
        place = place.0;
        has = place.1;
        calls = ap (λ (j : Instr). calls j.opcode) place.2 ∙ found.0;
        callee = ap (λ (j : Instr). j.imm) place.2;
      },
      found.1,
    )
