-- Words that are read one after another.
use Rattle.std.specs.Prelude.{ℕ, List, map}
use Rattle.std.specs.Borrow.{Bor}
use Rattle.geos_text.specs.Words.{words}
use Rattle.script_commands.specs.declared.words.Words.{Words}
use Rattle.script_commands.specs.declared.words.Words.TheVariants.{Line, Apart}

-- words as texts
abbrev pub texts : List (Bor (List ℕ)) → List (List ℕ)
texts words = map (λ word. word.now) words

-- their texts, in order
abbrev pub words_of : Words → List (List ℕ)
words_of (Line line) = words line.now
words_of (Apart apart) = texts apart.now
