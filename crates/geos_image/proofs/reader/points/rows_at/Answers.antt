use Rattle.std.proofs.Common.{◌≡◌, true, rules, arith}
use Rattle.std.proofs.lemmas.Result.{err_from_is_err_and}
use Rattle.geos_image.specs.Legal.{is_row}
use Rattle.geos_image.specs.Reading.{row_at}
use Rattle.geos_image.proofs.Items.{items-more, items-fault}
use Rattle.geos_image.proofs.Pushes.{list_all-push}
use Rattle.geos_image.proofs.RepeatLaws.{LastIs, alike-push, last_row-push}
use Rattle.geos_image.proofs.reader.points.rows_at.Goals as goal

pub loop-k-preserved : goal.loop-k-preserved
loop-k-preserved c = (
  omega arith,
  omega (arith, c.push_reserved.ensures.len),
  rw c.push_reserved.ensures.items (list_all-push (is_row true) c.loop-k.rows.items c.row_like.new.row c.loop-k.invariant.2
      c.in_ok-alike.ensures.legal),
  rw c.push_reserved.ensures.items (items-more (row_at true c.args.bytes.now) 38 c.args.start c.args.count _ c.loop-k.rows.items
      c.loop-k.k c.loop-k.at c.row_like.new.row
      c.loop-k.invariant.0 c.loop-k-test.true c.in_ok-alike.ensures.exact c.loop-k.invariant.3),
  omega arith,
  (λ behind. c.in_ok-alike.ensures.exact),
  (λ behind. c.in_ok-alike.ensures.legal),
  omega (arith, c.push_reserved.ensures.capacity, c.loop-k.invariant.7),
  rw c.push_reserved.ensures.items (alike-push c.loop-k.alike c.loop-k.rows.items c.row_like.new.row c.loop-k.k c.in_ok-alike.field-0
      c.loop-k.invariant.1 (search rules) c.loop-k.invariant.8 last),
  (λ behind. rw c.push_reserved.ensures.items (last_row-push c.loop-k.rows.items c.row_like.new.row)),
) where
  last : c.in_ok-alike.field-0 ≡ true → LastIs c.loop-k.rows.items c.row_like.new.row
  last known =
      let is = c.in_ok-alike.ensures.known known in
      rw is.1 (c.loop-k.invariant.9 is.0)

pub returns-in_err-alike-clause-exact : goal.returns-in_err-alike-clause-exact
returns-in_err-alike-clause-exact c =
    let p = err_from_is_err_and c.from_residual-in_err-alike.result c.from_residual-in_err-alike.ensures.1 in
    rw (p.1, p.2) (items-fault (row_at true c.args.bytes.now) 38 c.args.start c.args.count _ c.loop-k.rows.items
    c.loop-k.k c.loop-k.at c.in_err-alike.field-0.0
    c.loop-k-test.true c.in_err-alike.ensures.exact c.loop-k.invariant.3)
