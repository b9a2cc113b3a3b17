use Rattle.tkv_names.proofs.check.Check.is_sound.Goals as goal

pub loop-index-init : goal.loop-index-init
loop-index-init c all = (c.in-Some.ensures all).1

pub loop-index-preserved : goal.loop-index-preserved
loop-index-preserved c all = c.loop-index.invariant (c.in-Some-after_item.ensures all)

pub returns-then-is_empty : goal.returns-then-is_empty
returns-then-is_empty c t = c.loop-index.invariant (λ k seen e. absurd (c.if-is_empty.ensures t k seen e))

pub returns : goal.returns
returns c t = c.loop-index.invariant (λ k seen e. absurd (c.is_empty-2.ensures t k seen e))
