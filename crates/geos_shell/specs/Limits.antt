-- Which numbers a request may have.
use Rattle.std.specs.Prelude.{◌≡◌, ℕ, ◌≤◌, ◌%◌, IfSome}
use Rattle.geos_shell.specs.declared.numbers.Number.{Number}
use Rattle.geos_shell.specs.declared.request.FileRequest.{FileRequest}
use Rattle.geos_shell.specs.declared.request.FileRequest.TheVariants.{New, Copy, Put, Get, Dump, Diff, Map, Page}
use Rattle.geos_shell.specs.declared.request.Request.{Request}
use Rattle.geos_shell.specs.declared.request.Request.TheVariants.{Routines, Test, Text, File, Shell, Serve}
use Rattle.geos_shell.specs.declared.request.RoutineRequest.{RoutineRequest}
use Rattle.geos_shell.specs.declared.request.RoutineRequest.TheVariants.{Session, Call, Trace, Run}

-- a number is within the limits of its kind
abbrev pub IsWithin : Number → ℕ → Type 0
IsWithin number n = (number.least ≤ n) × (n ≤ number.most) × (n % number.unit ≡ 0)

-- the size of an area: 512 to 16,777,216 bytes, a multiple of 512
abbrev pub IsArea : ℕ → Type 0
IsArea n = (512 ≤ n) × (n ≤ 16777216) × (n % 512 ≡ 0)

-- the size of the region of blocks in memory: 65,536 to 16,777,216 bytes
abbrev pub IsRegion : ℕ → Type 0
IsRegion n = (65536 ≤ n) × (n ≤ 16777216)

-- the columns of a drawing: 60 to 1,000
abbrev pub IsWidth : ℕ → Type 0
IsWidth n = (60 ≤ n) × (n ≤ 1000)

-- each number of what runs routines is within its limits
abbrev pub RunsWithinLimits : RoutineRequest → Type 0
RunsWithinLimits Session = Unit {0}
RunsWithinLimits (Call image call file region strict expect form commit) = IsRegion region
RunsWithinLimits (Trace image words file region) = IsRegion region
RunsWithinLimits (Run image file script region strict expect names form commit) = IsRegion region

-- each number of what works on a VM file is
abbrev pub WorksWithinLimits : FileRequest → Type 0
WorksWithinLimits (New file area) = IsArea area
WorksWithinLimits (Copy copy) = IfSome copy.area IsArea
WorksWithinLimits (Put put) = IsRegion put.region
WorksWithinLimits (Get get) = IsRegion get.region
WorksWithinLimits (Dump dump) = Unit {0}
WorksWithinLimits (Diff files) = Unit {0}
WorksWithinLimits (Map file width) = IsWidth width
WorksWithinLimits (Page paths) = Unit {0}

-- each number of a request is
abbrev pub KeepsLimits : Request → Type 0
KeepsLimits (Routines request) = RunsWithinLimits request
KeepsLimits (Test request) = IsRegion request.region
KeepsLimits (Text request) = Unit {0}
KeepsLimits (File request) = WorksWithinLimits request
KeepsLimits (Shell request) = IsRegion request.region
KeepsLimits Serve = Unit {0}
