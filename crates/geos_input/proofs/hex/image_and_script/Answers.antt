use Rattle.std.proofs.Common.{arith, sym, ap, ◌∙◌, ◌≡◌, ◌≤◌, ◌<◌, ◌+◌, ◌++◌, ◌∷◌, length, append_assoc}
use Rattle.std.specs.Prelude.{true, false, filter_map}
use Rattle.std.specs.Str.Lines.{lines}
use Rattle.geos_input.specs.Hex.{digit_of, is_end, is_hex_line, digits_in, digits_of, hex_lines, script_lines}
use Rattle.geos_input.proofs.HexLines.{hex_fault_after, hex_lines-more, script_lines-more, fault-more}
use Rattle.geos_input.proofs.hex.image_and_script.Goals as goal

pub loop-rest-preserved : goal.loop-rest-preserved
loop-rest-preserved c =
    let so_far = c.loop-rest.invariant in
    let line = c.first_line.result.0.now in
    let behind = lines c.first_line.result.1.now in
    let n = c.loop-rest.line_number + 1 in
    let before = digits_in c.loop-rest.digits.bytes.items c.loop-rest.digits.high in
    let some : 0 < length c.loop-rest.rest.now = grind (arith, c.loop-rest-test.ensures) in
    let more : lines c.loop-rest.rest.now ≡ line ∷ behind = c.first_line.ensures.line some in
    let not_end : is_end line ≡ false = sym c.is_end.ensures ∙ c.if-is_end.false in
    let hex : is_hex_line line ≡ true = sym c.in_ok-take_line.ensures.hex ∙ c.if-not-branch.false in
    let taken = c.in_ok-take_line.ensures.taken c.if-not-branch.false in
    let count : n + length c.first_line.result.1.now ≤ length c.args.input.now = omega (arith, so_far.0, c.first_line.ensures.less some) in
    let fault = so_far.1 ∙ ap (hex_fault_after n before) more ∙ fault-more n before line behind not_end hex
    ∙ ap (λ ds. hex_fault_after (n + 1) ds behind) (sym taken) in
    let digits = so_far.2 ∙ ap (λ ls. before ++ digits_of (hex_lines ls)) more ∙ ap (λ ls. before ++ digits_of ls)
    (hex_lines-more line behind not_end)
    ∙ sym (append_assoc before (filter_map digit_of line) (digits_of (hex_lines behind)))
    ∙ ap (λ ds. ds ++ digits_of (hex_lines behind)) (sym taken) in
    (count, fault, digits, so_far.3 ∙ ap script_lines more ∙ script_lines-more line behind not_end)
