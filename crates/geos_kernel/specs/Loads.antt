-- The bytes that reads return one after another.
use Rattle.std.specs.Prelude.{ℕ, ◌+◌, ◌<◌, List, length, slice_index, Ok}
use Rattle.geos_calls.specs.Calls.{load8}
use Rattle.geos_calls.specs.Effects.{Reference}
use Rattle.geos_kernel.specs.declared.span.Span.{Span}
use Rattle.geos_kernel.specs.Kernel.{Calls}
use Rattle.geos_kernel.specs.Spans.{Stands}
use Rattle.geos_kernel.specs.View.{KernelState}

-- the bytes from an offset of every reference that the span is valid for, each as the row says
abbrev pub Loads : Type 0 → Span → ℕ → List ℕ → KernelState → Type 0
Loads good span i bytes s = (ref : Reference) → Stands s span ref → (k : ℕ) → k < length bytes
    → Calls good (load8 ref (i + k)) (Ok (slice_index bytes k)) s s
