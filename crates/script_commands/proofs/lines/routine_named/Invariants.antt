use Rattle.std.proofs.Common.{◌≡◌, drop, position}
use Rattle.std.specs.Prelude.{bytes_eq, Bool}
use Rattle.std.specs.List.{position_from}
use Rattle.geos_image.specs.declared.routine.Routine.{Routine}
use Rattle.script_commands.specs.Lines.{name_text}
use Rattle.script_commands.proofs.lines.routine_named.Given as goal

abbrev pub invariant-loop-r : goal.invariant-loop-r
invariant-loop-r l =
    let test : Routine → Bool = λ r. bytes_eq (name_text r) l.fn.name in
    position test l.fn.image.routines ≡ position_from test l.r (drop l.r l.fn.image.routines)
