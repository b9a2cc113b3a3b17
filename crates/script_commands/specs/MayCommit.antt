-- Which commands may commit, and when output must be flushed before a command.
use Rattle.std.specs.Prelude.{ℕ, ◌+◌, Bool, true, false, ◌||◌, List, [], ◌∷◌, Option, take, position}
use Rattle.std.specs.List.{list_any}
use Rattle.geos_opcodes.specs.declared.opcode.Opcode.{Opcode}
use Rattle.geos_opcodes.specs.declared.opcode.Opcode.TheVariants.{Vupdate, Vsave, Vrevert}
use Rattle.geos_image.specs.declared.point.Point.{Point}
use Rattle.geos_image.specs.Parts.{Parts, start_of}
use Rattle.script_commands.specs.declared.command.Command.{Command}
use Rattle.script_commands.specs.declared.command.Command.TheVariants as command
use Rattle.script_commands.specs.declared.command.Numbered.{Numbered}

-- the instruction commits
abbrev pub commits : Opcode → Bool
commits Vupdate = true
commits Vsave = true
commits Vrevert = true
commits _ = false

-- an instruction of a routine that commits
abbrev pub commits_at : Point → Bool
commits_at point = commits point.instr.opcode

-- the first pc of an instruction that commits
abbrev pub first_commit : List Point → Option ℕ
first_commit points = position commits_at points

-- a commit command may commit; a call may if any instruction up to the end
-- of its routine commits, because a routine calls only routines before it
abbrev pub may_commit : Parts → Command → Bool
may_commit image (command.Commit how) = true
may_commit image (command.Call call) = list_any commits_at (take (start_of image.routines (call.routine + 1)) image.points)

-- the last of the commands may commit
abbrev pub last_may_commit : Parts → List Numbered → Bool
last_may_commit image [] = false
last_may_commit image (here ∷ []) = may_commit image here.command
last_may_commit image (here ∷ next ∷ others) = last_may_commit image (next ∷ others)

-- output must be flushed before a command if the last command so far may have committed, or if this one may
abbrev pub is_flush_due : Parts → List Numbered → Command → Bool
is_flush_due image done next = last_may_commit image done || may_commit image next
