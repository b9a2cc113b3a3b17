-- Faults that come from below, and the streams that they tell of.
use Rattle.std.specs.Prelude.{◌≡◌, ◌≢◌, ℕ, Result, MatchResult}
use Rattle.geos_image.specs.declared.error.ReadError.{ReadError}
use Rattle.geos_image.specs.declared.error.ReadError.TheVariants as read
use Rattle.geos_input.specs.declared.fault.ScriptFault.{ScriptFault}
use Rattle.geos_input.specs.declared.fault.ScriptFault.TheVariants.{BadImage, Memory}

-- why bytes are no image
abbrev pub of_read : ReadError → ScriptFault
of_read (read.BadImage at) = BadImage at
of_read read.Memory = Memory

-- a stream's count of failures is as it was, unless the answer is this fault
abbrev pub KeptUnless : {A : Type 0} → ScriptFault → Result A ScriptFault → ℕ → ℕ → Type 0
KeptUnless fault result before now = MatchResult result (λ _. now ≡ before) (λ other. other ≢ fault → now ≡ before)
