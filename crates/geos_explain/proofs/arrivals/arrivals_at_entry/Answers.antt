use Rattle.std.proofs.Common.{None, replicate, ◌∙◌}
use Rattle.geos_explain.specs.Places.{place_of}
use Rattle.geos_explain.proofs.Arriving.{no-hints, set-hints, entry-hint}
use Rattle.geos_explain.proofs.arrivals.arrivals_at_entry.Goals as goal

pub returns-then-start-lt4096 : goal.returns-then-start-lt4096
returns-then-start-lt4096 c =
    let place = place_of c.args.place.now in
    set-hints place c.args.p (replicate 4096 None) (no-hints place c.args.p) c.from-start.result c.entry_pointer.result
    (entry-hint place c.args.p c.from-start.result c.entry_pointer.result (c.from-start.ensures ∙ c.start.ensures.start) c.entry_pointer.ensures)

pub returns-else-start-lt4096 : goal.returns-else-start-lt4096
returns-else-start-lt4096 c = no-hints (place_of c.args.place.now) c.args.p
