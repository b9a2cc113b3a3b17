use Rattle.std.proofs.Common.{arith, sym, ap, ◌∙◌, ◌≡◌, ◌<◌, ◌≤◌, ◌+◌, ◌*◌, ◌-◌, suc, drop, drop-cons, get_or}
use Rattle.geos_text.proofs.NumberLaws.{number_after, number_after-digit, number_after-cut}
use Rattle.geos_text.proofs.numbers.number_up_to.Goals as goal

pub loop-byte-preserved : goal.loop-byte-preserved
loop-byte-preserved c =
    let greatest = c.args.greatest in
    let word = c.args.word.now in
    let k = c.loop-byte.byte-index in
    let n = c.loop-byte.number in
    let b = get_or word k 0 in
    let rest = drop (suc k) word in
    let cut = c.min-number.result in
    let digit = sym c.is_ascii_digit.ensures.value ∙ c.if-not-is_ascii_digit.false in
    let step = ap (number_after greatest n) (drop-cons word k 0 c.loop-byte-test.true) ∙ number_after-digit greatest n b rest digit in
    let same : n * 10 + (b - 48) ≤ greatest → cut ≡ n * 10 + (b - 48) =
    λ le. omega (arith, c.min-number.ensures, c.from-past.ensures, c.from.ensures) in
    let past : greatest < n * 10 + (b - 48) → greatest < cut = λ lt. omega (arith, c.min-number.ensures, c.from-past.ensures, c.from.ensures) in
    let within : cut ≤ greatest + 1 = omega (arith, c.min-number.ensures, c.from-past.ensures) in
    let next : k + 1 ≡ suc k = omega arith in
    (within, rw next (c.loop-byte.invariant.1 ∙ step ∙ number_after-cut greatest (n * 10 + (b - 48)) cut rest same past))
