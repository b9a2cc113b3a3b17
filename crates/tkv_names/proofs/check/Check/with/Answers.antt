use Rattle.std.proofs.Common.{Option, List}
use Rattle.tkv_names.specs.declared.seen.Seen.{Seen}
use Rattle.tkv_names.specs.Seen.{Sound, AllSound}
use Rattle.tkv_names.proofs.Cases.{some_map}
use Rattle.tkv_names.proofs.check.Check.with.Goals as goal

pub returns : goal.returns
returns c = some_map
    (λ (more : List (Option Seen)). AllSound c.args.self.now.text.now c.args.self.now.items.now c.args.self.now.placed.now more
    → AllSound c.args.self.now.text.now c.args.self.now.items.now c.args.self.now.placed.now c.args.waiting
    × Sound c.args.self.now.text.now c.args.self.now.items.now c.args.self.now.placed.now c.settled.result)
    (λ (more : List (Option Seen)). AllSound c.args.self.now.text.now c.args.self.now.items.now c.args.self.now.placed.now more
    → AllSound c.args.self.now.text.now c.args.self.now.items.now c.args.self.now.placed.now c.args.waiting
    × Sound c.args.self.now.text.now c.args.self.now.items.now c.args.self.now.placed.now c.args.seen)
    (λ more made all. let both = made all in (both.0, c.settled.ensures.leads both.1)) c.placed_case.result c.placed_case.ensures
