-- Which instruction an author's line has, and which routine an instruction is of.
use Rattle.std.specs.Prelude.{ℕ, zero, suc, ◌+◌, Bool, false, ◌&&◌, nat_le, nat_lt, ◌==◌, if◌then◌else◌, List, Option, Some, None, slice_get}
use Rattle.geos_explain.specs.Below.{Parts, start_of}

-- of the first n routines, the last that begins at the pc or before
unfoldable pub last_begun : Parts → ℕ → ℕ → Option ℕ
last_begun image pc zero = None
last_begun image pc (suc n) = if nat_le (start_of image.routines n) pc then Some n else last_begun image pc n

-- the table has the line as that of the instruction at a pc
unfoldable pub is_line_of : List ℕ → ℕ → ℕ → Bool
is_line_of table pc number = elim (slice_get table pc) [ None ↦ false | Some line ↦ line == number ]

-- the pc after this one, if the instruction at this pc is of the line; otherwise this pc
unfoldable pub next_pc : List ℕ → ℕ → ℕ → ℕ
next_pc table pc number = if is_line_of table pc number && nat_lt pc 4096 then pc + 1 else pc
