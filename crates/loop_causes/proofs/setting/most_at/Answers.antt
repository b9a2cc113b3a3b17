use Rattle.std.proofs.Common.{None, sym, ap, ◌∙◌, arith}
use Rattle.geos_image.specs.declared.row.Row.{Row}
use Rattle.geos_verify.specs.Rows.{bound}
use Rattle.geos_code.specs.Known.{row_of}
use Rattle.geos_code.proofs.Bodies.{in-body}
use Rattle.geos_rows.proofs.Strong.{least-bound}
use Rattle.loop_causes.proofs.setting.most_at.Goals as goal

pub returns-then-bound_of-most : goal.returns-then-bound_of-most
returns-then-bound_of-most c =
    let body = c.args.body.now in
    let known = c.args.known.now in
    let word = c.args.word in
    record {
      known = known;
      holds = c.requires.rows;
      is = c.bound_of-most.ensures c.requires.word ∙ ap (λ (row : Row). bound row word) (c.row_of.ensures.value ∙ ap row_of (c.at-2.ensures None));
      least = λ others holds.
          let there = (c.requires.least others holds c.args.at c.in_ok-row.row (in-body body c.args.at c.requires.above c.requires.below)
          (sym c.at.ensures ∙ c.in_ok-row.was)).1 in
          let less = least-bound others c.args.at c.in_ok-row.row word there in
          let same = c.bound_of.ensures c.requires.word in
          omega (arith, less, same, c.if-bound_of-most.true);
    }
