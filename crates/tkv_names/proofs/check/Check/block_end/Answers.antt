use Rattle.std.proofs.Common.{◌≡◌, ℕ, suc, ◌+◌, refl, sym, subst, arith}
use Rattle.tkv_names.specs.Seen.{Escapes, Opens}
use Rattle.tkv_names.proofs.Passing.{escaping_next, escaping_end}
use Rattle.tkv_names.proofs.check.Check.block_end.Goals as goal

pub returns-then-is_end : goal.returns-then-is_end
returns-then-is_end c = subst (λ (b : ℕ). Escapes c.args.self.now.placed.now c.args.from c.args.level c.args.to (c.loop-index.index + 1) b) block
    (escaping_end c.args.self.now.placed.now c.args.from c.args.level c.args.to c.loop-index.index c.loop-index.depth (c.loop-index.index + 1)
    c.in_ok-kind.kind c.in_ok-kind.ensures (c.if-is_end.ensures refl) inner next c.loop-index.invariant)
  where
    block : c.args.to ≡ c.from-block.result
    block = omega arith

    inner : c.loop-index.depth ≡ suc c.args.to
    inner = omega arith

    next : c.loop-index.index + 1 ≡ suc c.loop-index.index
    next = omega arith

pub loop-index-preserved : goal.loop-index-preserved
loop-index-preserved c = escaping_next c.args.self.now.placed.now c.args.from c.args.level c.args.to c.loop-index.index c.loop-index.depth c.in_ok-depth.depth
    (c.loop-index.index + 1) c.in_ok-kind.kind c.in_ok-kind.ensures
    (subst (λ (b : ℕ). Opens b c.in_ok-kind.kind c.loop-index.depth c.in_ok-depth.depth) (sym block) c.in_ok-depth.ensures) next c.loop-index.invariant
  where
    block : c.args.to ≡ c.from-block.result
    block = omega arith

    next : c.loop-index.index + 1 ≡ suc c.loop-index.index
    next = omega arith
