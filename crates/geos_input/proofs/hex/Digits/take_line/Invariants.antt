use Rattle.std.proofs.Common.{◌≡◌, ◌++◌, drop}
use Rattle.std.specs.Prelude.{filter_map}
use Rattle.geos_input.specs.Hex.{digit_of, is_hex_line, digits_in}
use Rattle.geos_input.proofs.hex.Digits.take_line.Given as goal

abbrev pub invariant-loop-byte : goal.invariant-loop-byte
invariant-loop-byte l =
    (is_hex_line l.fn.line ≡ is_hex_line (drop l.byte-index l.fn.line))
    × (digits_in l.fn.self.bytes.items l.fn.self.high ++ filter_map digit_of l.fn.line ≡ digits_in l.self.bytes.items
    l.self.high ++ filter_map digit_of (drop l.byte-index l.fn.line))
