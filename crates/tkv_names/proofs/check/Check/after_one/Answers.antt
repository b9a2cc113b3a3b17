use Rattle.std.proofs.Common.{Option, None, List}
use Rattle.std.specs.Prelude.{slice_set}
use Rattle.tkv_names.specs.declared.seen.Seen.{Seen}
use Rattle.tkv_names.specs.Seen.{Sound, AllSound}
use Rattle.tkv_names.proofs.Cases.{some_map}
use Rattle.tkv_names.proofs.Joint.{without}
use Rattle.tkv_names.proofs.check.Check.after_one.Goals as goal

pub returns : goal.returns
returns c at = some_map
    (λ (more : List (Option Seen)). AllSound c.args.self.now.text.now c.args.self.now.items.now c.args.self.now.placed.now more
    → AllSound c.args.self.now.text.now c.args.self.now.items.now c.args.self.now.placed.now (slice_set c.args.waiting c.args.one.place None)
    × Sound c.args.self.now.text.now c.args.self.now.items.now c.args.self.now.placed.now c.args.one.seen)
    (λ (more : List (Option Seen)). AllSound c.args.self.now.text.now c.args.self.now.items.now c.args.self.now.placed.now more
    → AllSound c.args.self.now.text.now c.args.self.now.items.now c.args.self.now.placed.now c.args.waiting)
    (λ more made all. without c.args.self.now.text.now c.args.self.now.items.now c.args.self.now.placed.now c.args.waiting c.args.one.place
    c.args.one.seen at (made all)) c.stepped.result c.stepped.ensures
