use Rattle.std.specs.Prelude.{◌≡◌, ◌<◌, IfSome}
use Rattle.geos_explain.specs.Places.{last_of, place_of}
use Rattle.geos_explain.specs.Forgotten.{moves_at}
use Rattle.geos_explain.proofs.forgotten.last_moving.Given as goal

abbrev pub invariant-loop-k : goal.invariant-loop-k
invariant-loop-k l = (l.last ≡ last_of (place_of l.place) (moves_at (place_of l.place) l.item l.w) l.k) × IfSome l.last (λ from. from < 4096)
