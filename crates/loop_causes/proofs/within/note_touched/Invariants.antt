use Rattle.std.proofs.Common.{◌≡◌, ◌≤◌, ◌<◌, ℕ, true, false, Some}
use Rattle.control_graph.specs.Arcs.{arc_at, forgets}
use Rattle.control_graph.specs.declared.arcs.Arc.{Arc}
use Rattle.loop_causes.specs.Noted.{comes_to}
use Rattle.loop_causes.proofs.within.note_touched.Given as goal

-- control comes to where calls before pc leave the counter
abbrev pub invariant-loop-pc : goal.invariant-loop-pc
invariant-loop-pc l = (pc : ℕ) (arc : Arc) → l.body.start ≤ pc → pc < l.pc → arc_at l.graph.arcs pc false ≡ Some arc
    → forgets arc.counting l.counter ≡ true → comes_to l.trails arc.to ≡ true
