use Rattle.std.proofs.Common.{◌≡◌, suc, arith, subst, ℕ}
use Rattle.tkv_names.specs.Seen.{Passes}
use Rattle.tkv_names.proofs.Cases.{fork_leads}
use Rattle.tkv_names.proofs.check.Check.branches.Goals as goal

pub returns : goal.returns
returns c item there is range at decided = fork_leads c.args.self.now.text.now c.args.self.now.items.now c.args.self.now.placed.now c.args.seen item
    c.args.fork.instr c.args.same c.in_ok-next.next c.in_ok-past.past c.args.fork.target.index c.args.fork.target.level there is range next
    c.in_ok-past.ensures at decided c.popped.result c.popped-bare.result c.popped.ensures c.popped-bare.ensures c.chosen.result c.chosen-2.result
    c.in_ok-placed.placed c.chosen.ensures c.chosen-2.ensures placed
  where
    next : c.in_ok-next.next ≡ suc c.args.seen.item
    next = omega arith

    placed : c.in_ok-placed.placed ≡ suc c.args.seen.placed
    placed = omega arith
