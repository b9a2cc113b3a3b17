use Rattle.std.proofs.Common.{◌≡◌, ◌+◌, ◌<◌, subst, arith}
use Rattle.std.proofs.lemmas.Bool.Decides.{nat_tests}
use Rattle.block_handles.specs.Store.{size_of}
use Rattle.block_handles.specs.Stretch.{HasNoRoom}
use Rattle.block_handles.proofs.Counting.{lacking}
use Rattle.block_handles.proofs.Blocks.lacks.Goals as goal

pub returns-clause-no_room : goal.returns-clause-no_room
returns-clause-no_room c = λ few slot size is.
    let less : c.self.inside.free < c.args.more = grind (arith, nat_tests, few) in
    subst (λ s. size ≡ size_of s slot + c.args.more → HasNoRoom s slot size) c.self.view_is
    (λ e. lacking c.self.inside.arena c.self.invariant.ready.laid c.self.inside.free c.args.more c.self.invariant.count less slot size e) is
