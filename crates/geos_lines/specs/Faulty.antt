-- The faulty lines of a text.
use Rattle.std.specs.Prelude.{◌≡◌, ◌<◌, ◌≤◌, ℕ, ◌+◌, List, [], ◌∷◌, ◌++◌, length, map, Option, Some, None}
use Rattle.geos_source.specs.declared.fault.Why.{Why}
use Rattle.geos_source.specs.declared.fault.BadLine.{BadLine}
use Rattle.geos_source.specs.declared.tally.Faults.{Faults}
use Rattle.geos_source.specs.Faults.{at_line}
use Rattle.geos_source.specs.Tallies.{fault_in}
use Rattle.geos_source.specs.Texts.{fault_of}
use Rattle.geos_lines.specs.declared.faulty.FaultyLine.{FaultyLine}

-- the fault, if there is one
abbrev pub listed : Option BadLine → List BadLine
listed None = []
listed (Some fault) = fault ∷ []

-- the faults of lines, which are counted from a number on
abbrev pub faults_from : ℕ → List (Option Why) → List BadLine
faults_from number [] = []
faults_from number (why ∷ whys) = listed (at_line number why) ++ faults_from (number + 1) whys

-- all faults: the one that is on no line of the text, if there is one, and then those of its lines
abbrev pub all_faults : Faults → List BadLine
all_faults faults = listed faults.rest ++ faults_from 1 faults.lines.items

-- the lines have the first 1,000 of the faults, in order, and so many more faults follow
pub record IsFound (all : List BadLine) (lines : List FaultyLine) (more : ℕ) : Type 0 where
  pub others : List BadLine
  pub in_order : all ≡ map (λ (line : FaultyLine). line.fault) lines ++ others
  pub so_many : length others ≡ more
  pub few : length lines ≤ 1000
  pub full : 0 < more → length lines ≡ 1000

-- the lines have the text's faults, of which the first is the one that the reader of texts returns
abbrev pub AreFaultyLinesOf : List ℕ → List FaultyLine → ℕ → Type 0
AreFaultyLinesOf text lines more = (faults : Faults) × (fault_in faults ≡ fault_of text) × IsFound (all_faults faults) lines more
