use Rattle.std.proofs.Common.{◌≡◌, ◌<◌, ◌≤◌, ◌⊎◌, inl, inr, ◌∙◌, None, slice_get, length, refl, sym, ap, arith}
use Rattle.std.specs.Prelude.{slice_index_or, slice_set}
use Rattle.std.proofs.lemmas.Bool.{cases_lt}
use Rattle.std.proofs.lemmas.List.{get_or-set_other, get_or-set_same, length-set}
use Rattle.geos_verify.specs.Places.{places}
use Rattle.geos_verify.specs.Rules.{refusal}
use Rattle.geos_verify.proofs.Places.{if_some}
use Rattle.geos_verify.proofs.Known.{row-given}
use Rattle.geos_verify.proofs.refused.note_refusals.Goals as goal

pub loop-pc-init : goal.loop-pc-init
loop-pc-init c =
    let body = c.args.body.now in (
      (λ pc place above below read. absurd (omega (arith, above, below))),
      (λ pc below. refl),
      row-given body.image.now body.start c.row.result.now c.row.ensures body.room,
      c.told-rules,
    )

pub refusal-requires-clause-known : goal.refusal-requires-clause-known
refusal-requires-clause-known c = c.loop-pc.invariant.2

pub row_next-row-requires-clause-here : goal.row_next-row-requires-clause-here
row_next-row-requires-clause-here c = c.loop-pc.invariant.2

pub loop-pc-preserved : goal.loop-pc-preserved
loop-pc-preserved c =
    let body = c.args.body.now in
    let image = body.image.now in
    let rules = c.loop-pc.rules in
    let at = c.loop-pc.pc in
    let set_to = c.refusal.result in
    let is = c.from.ensures in
    let short : at < length rules = omega (arith, c.loop-pc.invariant.3, c.loop-pc-test.true, body.end, body.short) in (
      λ pc place above below read.
          let by_order : (pc < at) ⊎ (at ≤ pc) → slice_index_or (slice_set rules at set_to) pc None ≡ refusal image
          body.r body.routine.now body.start pc place = λ order. elim order [
            | inl before ↦ rw (get_or-set_other rules at pc set_to None (omega arith)) (c.loop-pc.invariant.0 pc place above before read)
            | inr behind ↦
                let here : pc ≡ at = omega (arith, below, behind) in
                let read_here : slice_get (places image) at ≡ _ = ap (slice_get (places image)) (sym here) ∙ read in
                rw (here, get_or-set_same rules at set_to None short)
                (if_some (λ other. set_to ≡ refusal image body.r body.routine.now body.start at other)
                (slice_get (places image) at) place read_here c.refusal.ensures)
          ] in
          rw is (by_order (cases_lt pc at)),
      λ pc below. rw (is, get_or-set_other rules at pc set_to None (omega (arith, below, c.loop-pc.auto))) (c.loop-pc.invariant.1 pc below),
      c.row_next-row.ensures,
      length-set rules c.from.result set_to ∙ c.loop-pc.invariant.3,
    )

pub returns-clause-here : goal.returns-clause-here
returns-clause-here c pc place above below read = c.loop-pc.invariant.0 pc place above (omega (arith, below, c.loop-pc-test.false)) read

pub returns-clause-others : goal.returns-clause-others
returns-clause-others c pc below = c.loop-pc.invariant.1 pc below
