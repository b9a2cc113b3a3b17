use Rattle.std.proofs.Common.{◌≡◌, ◌≤◌, ◌+◌, ◌++◌, length}
use Rattle.std.specs.Str.Lines.{lines}
use Rattle.geos_input.specs.Hex.{digits_of, digits_in, hex_lines, script_lines, hex_fault}
use Rattle.geos_input.proofs.HexLines.{hex_fault_after}
use Rattle.geos_input.proofs.hex.image_and_script.Given as goal

abbrev pub invariant-loop-rest : goal.invariant-loop-rest
invariant-loop-rest l =
    let digits = digits_in l.digits.bytes.items l.digits.high in
    (l.line_number + length l.rest ≤ length l.input)
    × (hex_fault (lines l.input) ≡ hex_fault_after (l.line_number + 1) digits (lines l.rest))
    × (digits_of (hex_lines (lines l.input)) ≡ digits ++ digits_of (hex_lines (lines l.rest)))
    × (script_lines (lines l.input) ≡ script_lines (lines l.rest))

abbrev pub decreases-loop-rest : goal.decreases-loop-rest
decreases-loop-rest l = length l.rest
