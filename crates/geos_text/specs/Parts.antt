-- Texts, by their parts.
use Rattle.std.specs.Prelude.{ℕ, List, ◌++◌, flat_map, decimal}
use Rattle.geos_text.specs.declared.parts.Part.{Part}
use Rattle.geos_text.specs.declared.parts.Part.TheVariants.{Text, Bytes, Numbered}

-- a part of a text: a text, bytes, or a text followed by a number in decimal digits
abbrev pub part_text : Part → List ℕ
part_text (Text text) = text.now
part_text (Bytes bytes) = bytes.now
part_text (Numbered text n) = text.now ++ decimal n

-- the parts one after another
abbrev pub parts_text : List Part → List ℕ
parts_text parts = flat_map part_text parts
