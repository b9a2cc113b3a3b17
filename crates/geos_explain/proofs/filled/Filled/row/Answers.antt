use Rattle.std.proofs.Common.{◌≡◌, Some, None, sym, ◌∙◌, arith}
use Rattle.geos_verify.specs.Places.{places}
use Rattle.geos_verify.proofs.Places.{item_at, places-length}
use Rattle.geos_explain.proofs.filled.Filled.row.Goals as goal

pub unreachable-requires : goal.unreachable-requires
unreachable-requires c =
    let image = c.args.self.now in
    let found = item_at (places image) c.args.pc (omega (arith, c.requires, places-length image)) in
    let both : Some found.0 ≡ None = sym found.1 ∙ c.in-None.ensures in
    absurd cc
