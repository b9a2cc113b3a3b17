use Rattle.std.proofs.Common.{◌≡◌, ℕ, Some, sym, subst}
use Rattle.std.specs.Prelude.{slice_get}
use Rattle.tkv_names.specs.declared.seen.Seen.{Seen}
use Rattle.tkv_names.specs.Seen.{Leads}
use Rattle.tkv_names.proofs.Cases.{some_map, chain}
use Rattle.tkv_names.proofs.check.Check.set.Goals as goal

pub returns : goal.returns
returns c there is = some_map (λ (next : Seen). Leads c.args.self.now.text.now c.args.self.now.items.now c.args.self.now.placed.now c.in_ok-ready.ready next)
    (λ (next : Seen). Leads c.args.self.now.text.now c.args.self.now.items.now c.args.self.now.placed.now c.args.seen next)
    (λ next leads. chain c.args.self.now.text.now c.args.self.now.items.now c.args.self.now.placed.now c.args.seen c.in_ok-ready.ready next
    c.in_ok-ready.ensures.1 leads) c.bound.result
    (c.bound.ensures (subst (λ (p : ℕ). slice_get c.args.self.now.items.now p ≡ Some c.args.item.now) (sym c.in_ok-ready.ensures.0) there) is)
