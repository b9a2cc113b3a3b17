-- How the rules are printed.
use Rattle.std.specs.Prelude.{ℕ, List, ◌++◌, codes, decimal}
use Rattle.geos_verify.specs.declared.rule.Rule.{Rule}
use Rattle.geos_verify.specs.declared.rule.Rule.TheVariants.{LeavesRoutine, NamesEmptySlot, EntryMisfit, StalePointer, PassesEnd, ChangesUnmarked, LocksIntoHeld, WrongSlot, CommitsHeld, CallMisfit, ExitMisfit, EdgeMisfit, EdgeUnpaid, OverBudget}

-- the number of a rule
abbrev pub rule_number : Rule → ℕ
rule_number LeavesRoutine = 1
rule_number NamesEmptySlot = 2
rule_number EntryMisfit = 3
rule_number StalePointer = 4
rule_number PassesEnd = 5
rule_number ChangesUnmarked = 6
rule_number LocksIntoHeld = 7
rule_number WrongSlot = 8
rule_number CommitsHeld = 9
rule_number CallMisfit = 10
rule_number ExitMisfit = 11
rule_number EdgeMisfit = 12
rule_number EdgeUnpaid = 13
rule_number OverBudget = 14

-- a V and the number
abbrev pub rule_text : Rule → List ℕ
rule_text rule = codes "V" ++ decimal (rule_number rule)
