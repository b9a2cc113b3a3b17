-- Which image a script is on.
use Rattle.std.specs.Prelude.{◌≡◌, ℕ, Option}
use Rattle.geos_image.specs.Parts.{Parts}
use Rattle.script_commands.specs.MayCommit.{first_commit}

-- the first pc that a script remembers as one that commits is that of this image
abbrev pub IsBegunOn : Parts → Option ℕ → Type 0
IsBegunOn image first = first ≡ first_commit image.points
