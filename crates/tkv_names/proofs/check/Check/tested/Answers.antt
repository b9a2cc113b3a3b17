use Rattle.std.proofs.Common.{◌≡◌, ℕ, Some, sym, ◌∙◌, subst}
use Rattle.std.specs.Prelude.{slice_get}
use Rattle.tkv_names.specs.declared.tested.Branches.{Branches}
use Rattle.tkv_names.specs.Seen.{Sound}
use Rattle.tkv_names.proofs.Cases.{some_map}
use Rattle.tkv_names.proofs.check.Check.tested.Goals as goal

pub returns : goal.returns
returns c there is = some_map
    (λ (next : Branches). Sound c.args.self.now.text.now c.args.self.now.items.now c.args.self.now.placed.now next.stays
    → Sound c.args.self.now.text.now c.args.self.now.items.now c.args.self.now.placed.now next.leaves
    → Sound c.args.self.now.text.now c.args.self.now.items.now c.args.self.now.placed.now c.settled-ready.result)
    (λ (next : Branches). Sound c.args.self.now.text.now c.args.self.now.items.now c.args.self.now.placed.now next.stays
    → Sound c.args.self.now.text.now c.args.self.now.items.now c.args.self.now.placed.now next.leaves
    → Sound c.args.self.now.text.now c.args.self.now.items.now c.args.self.now.placed.now c.args.seen)
    (λ next made stays leaves. c.in_ok-left.ensures.1 (c.in_ok-both.ensures.1 (c.settled-ready.ensures.leads (made stays leaves))))
    c.decided.result (c.decided.ensures
    (subst (λ (p : ℕ). slice_get c.args.self.now.items.now p ≡ Some c.args.item.now)
    (sym (c.settled-ready.ensures.same.0 ∙ (c.in_ok-both.ensures.0 ∙ c.in_ok-left.ensures.0))) there) is)
