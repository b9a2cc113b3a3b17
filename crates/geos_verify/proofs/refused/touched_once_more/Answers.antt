use Rattle.std.proofs.Common.{◌<◌, ◌≤◌, ◌⊎◌, inl, inr, ◌∙◌, refl, sym, arith}
use Rattle.std.specs.Prelude.{◌≡◌, false, [], replicate, slice_set}
use Rattle.std.proofs.lemmas.Bool.{cases_lt}
use Rattle.std.proofs.lemmas.List.{get_or-set_other, get_or-set_same, length-set}
use Rattle.geos_image.proofs.Instrs.{image_parts}
use Rattle.geos_verify.specs.Touched.{noted, touches_by}
use Rattle.geos_verify.proofs.Touching.{rows-blank, noted_by-own, touches_by-past}
use Rattle.geos_verify.proofs.refused.touched_once_more.Goals as goal

pub loop-r-init : goal.loop-r-init
loop-r-init c = ((λ b k lt few. absurd (omega (arith, lt))), (λ b k le. rows-blank (replicate 32 (replicate 4 false)) refl b k), refl)

pub loop-r-preserved : goal.loop-r-preserved
loop-r-preserved c =
    let image = c.args.image.now in
    let table = c.args.table.now in
    let next = c.loop-r.next in
    let at = c.loop-r.r in
    let set_to = c.touched_in.result in
    let few_routines = (image_parts image c.count-r-end.ensures.legal).few in
    let is = c.from.ensures in (
      λ b k lt few.
          let by_order : (b < at) ⊎ (at ≤ b) → noted (slice_set next at set_to) k b ≡ touches_by image table k b = λ order. elim order [
            | inl below ↦ rw (get_or-set_other next at b set_to [] (omega arith)) (c.loop-r.invariant.0 b k below few)
            | inr above ↦
                let here : b ≡ at = omega (arith, lt, above) in
                rw (
                  here,
                  get_or-set_same next at set_to []
                      (omega (arith, few_routines, c.loop-r-test.true, c.count-r-end.ensures.count, c.loop-r.invariant.2)),
                  c.touched_in.ensures,
                )
                (noted_by-own image table at k few)
          ] in
          rw is (by_order (cases_lt b at)),
      λ b k le. rw (is, get_or-set_other next at b set_to [] (omega (arith, le))) (c.loop-r.invariant.1 b k (omega (arith, le))),
      length-set next c.from.result set_to ∙ c.loop-r.invariant.2,
    )

pub returns : goal.returns
returns c b k few =
    let image = c.args.image.now in
    let by_order : (b < c.loop-r.r) ⊎ (c.loop-r.r ≤ b) → noted c.loop-r.next k b ≡ touches_by image c.args.table.now k b = λ order. elim order [
      | inl below ↦ c.loop-r.invariant.0 b k below few
      | inr above ↦ c.loop-r.invariant.1 b k above
          ∙ sym (touches_by-past image c.args.table.now k b (omega (arith, above, c.loop-r-test.false, c.count-r-end.ensures.count)))
    ] in
    by_order (cases_lt b c.loop-r.r)
