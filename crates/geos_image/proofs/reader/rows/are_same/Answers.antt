use Rattle.std.proofs.Common.{◌≡◌, ◌+◌, ◌-◌, true, length, refl, ◌∙◌, arith}
use Rattle.std.specs.Prelude.{nat_le}
use Rattle.std.proofs.lemmas.Bool.{le-leb}
use Rattle.geos_image.proofs.reader.rows.are_same.Goals as goal

pub returns-then-at-bytes : goal.returns-then-at-bytes
returns-then-at-bytes c =
    let whole : nat_le (c.args.at + 38) (length c.args.bytes.now) ≡ true =
    le-leb (c.args.at + 38) (length c.args.bytes.now) c.if-at-bytes.true in
    let first : c.args.before + 38 - c.args.before ≡ 38 = omega arith in
    let second : c.args.at + 38 - c.args.at ≡ 38 = omega arith in
    rw whole (c.eq.ensures ∙ rw (first, second) refl)
