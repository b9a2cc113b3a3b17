use Rattle.std.proofs.Common.{Option, List}
use Rattle.tkv_names.specs.declared.seen.Seen.{Seen}
use Rattle.tkv_names.specs.Seen.{Sound, AllSound}
use Rattle.tkv_names.proofs.Cases.{some_map}
use Rattle.tkv_names.proofs.check.Check.stepped.Goals as goal

pub returns-in_ok-more-in-Some : goal.returns-in_ok-more-in-Some
returns-in_ok-more-in-Some c = some_map
    (λ (more : List (Option Seen)). AllSound c.args.self.now.text.now c.args.self.now.items.now c.args.self.now.placed.now more
    → AllSound c.args.self.now.text.now c.args.self.now.items.now c.args.self.now.placed.now c.in_ok-more-in-Some.more
    × Sound c.args.self.now.text.now c.args.self.now.items.now c.args.self.now.placed.now c.in-Some.next.leaves)
    (λ (more : List (Option Seen)). AllSound c.args.self.now.text.now c.args.self.now.items.now c.args.self.now.placed.now more
    → AllSound c.args.self.now.text.now c.args.self.now.items.now c.args.self.now.placed.now c.args.waiting
    × Sound c.args.self.now.text.now c.args.self.now.items.now c.args.self.now.placed.now c.args.seen)
    (λ more made all. let two = made all in let one = c.in_ok-more-in-Some.ensures two.0 in (one.0, c.in-Some.ensures one.1 two.1)) c.with-in-Some.result c.with-in-Some.ensures

pub returns-in_ok-next-in-None : goal.returns-in_ok-next-in-None
returns-in_ok-next-in-None c = some_map
    (λ (more : List (Option Seen)). AllSound c.args.self.now.text.now c.args.self.now.items.now c.args.self.now.placed.now more
    → AllSound c.args.self.now.text.now c.args.self.now.items.now c.args.self.now.placed.now c.args.waiting
    × Sound c.args.self.now.text.now c.args.self.now.items.now c.args.self.now.placed.now c.in_ok-next-in-None.next)
    (λ (more : List (Option Seen)). AllSound c.args.self.now.text.now c.args.self.now.items.now c.args.self.now.placed.now more
    → AllSound c.args.self.now.text.now c.args.self.now.items.now c.args.self.now.placed.now c.args.waiting
    × Sound c.args.self.now.text.now c.args.self.now.items.now c.args.self.now.placed.now c.args.seen)
    (λ more made all. let both = made all in (both.0, c.in_ok-next-in-None.ensures both.1)) c.with-in-None.result c.with-in-None.ensures
