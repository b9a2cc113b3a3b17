-- The edges that are noted, and what they do to counters.
use Rattle.std.specs.Prelude.{ℕ, Bool, true, false, if◌then◌else◌, List, [], Option, Some, None, slice_index_or, ◌==◌, not}
use Rattle.control_graph.specs.declared.arcs.Arc.{Arc}
use Rattle.control_graph.specs.declared.arcs.Counting.{Counting}
use Rattle.control_graph.specs.declared.arcs.Counting.TheVariants.{Sets, Takes, Forgets}

-- the edge of a pc that is noted
abbrev pub arc_at : List (List (Option Arc)) → ℕ → Bool → Option Arc
arc_at arcs pc branch = slice_index_or (slice_index_or arcs pc []) (if branch then 1 else 0) None

-- Counters

-- the edge does not change the counter, so it requires the counter's coefficient from its end
abbrev pub keeps : Counting → ℕ → Bool
keeps (Sets k n) c = not (k == c)
keeps (Forgets forgotten) c = not (slice_index_or forgotten c false)
keeps _ c = true

-- nothing is known of the counter after the edge
abbrev pub forgets : Counting → ℕ → Bool
forgets (Forgets forgotten) c = slice_index_or forgotten c false
forgets _ c = false

-- the counter that it takes a unit from
abbrev pub taken_from : Counting → Option ℕ
taken_from (Takes k) = Some k
taken_from _ = None
