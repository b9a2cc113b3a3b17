use Rattle.std.proofs.Common.{◌≡◌, ℕ, Some, None, sym, ap, ◌∙◌, subst, arith, inl, inr}
use Rattle.std.specs.Prelude.{slice_get}
use Rattle.std.proofs.lemmas.Bool.{cases_eq}
use Rattle.std.proofs.lemmas.Option.{none-some, same_Some}
use Rattle.geos_image.specs.declared.point.Point.{Point}
use Rattle.geos_image.specs.declared.row.Row.{Row}
use Rattle.geos_verify.proofs.Places.{if_some}
use Rattle.geos_code.specs.Known.{known_at, clean, row_of}
use Rattle.geos_rows.specs.Unreached.{IsAsGood}
use Rattle.geos_rows.proofs.weakened.all_as_good.Goals.{in-Some+else-not-is_as_good, in_default}
use Rattle.geos_rows.proofs.weakened.all_as_good.Goals as goal

pub loop-pc-preserved : goal.loop-pc-preserved
loop-pc-preserved c = λ pc row point within lt read there.
    let body = c.args.body.now in
    let image = body.image.now in
    let r = body.r in
    let p = c.loop-pc.pc in
    let found = c.args.found.now in
    let weaker = c.args.weaker.now in elim (cases_eq pc p) [
      | inl same ↦
          let known : known_at found p ≡ Some row = subst (λ (n : ℕ). known_at found n ≡ Some row) same read in
          let point_is : slice_get image.points p ≡ Some point = subst (λ (n : ℕ). slice_get image.points n ≡ Some point) same there in
          elim c.match-at.branch [
            | in-Some+else-not-is_as_good w ↦
                let row_is : w.in-Some.row ≡ row = same_Some w.in-Some.row row (sym w.in-Some.is ∙ c.at.ensures None ∙ known) in
                let good = if_some (λ (q : Point). IsAsGood image r w.clean-row.result w.row_of-weaker.result q.instr)
                (slice_get image.points p) point point_is (w.is_as_good.ensures w.if-not-is_as_good.false) in
                let first = subst (λ (x : Row). IsAsGood image r x w.row_of-weaker.result point.instr)
                (w.clean-row.ensures.value ∙ ap clean row_is) good in
                let second = subst (λ (x : Row). IsAsGood image r (clean row) x point.instr)
                (w.row_of-weaker.ensures.value ∙ ap row_of (w.at-in-Some.ensures None)) first in
                subst (λ (n : ℕ). IsAsGood image r (clean row) (row_of (known_at weaker n)) point.instr) (sym same) second
            | in_default w ↦ absurd (none-some row (sym w.in_default.is ∙ c.at.ensures None ∙ known))
          ]
      | inr ne ↦ c.loop-pc.invariant pc row point within (omega (arith, lt, ne)) read there
    ]

pub returns : goal.returns
returns c = λ is pc row point within read there.
    let body = c.args.body.now in
    let below = within.below in
    c.loop-pc.invariant pc row point within (omega (arith, below, body.ends, c.loop-pc-test.false)) read there
