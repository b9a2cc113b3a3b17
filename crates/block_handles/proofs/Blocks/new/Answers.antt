use Rattle.std.proofs.Common.{ap, arith}
use Rattle.block_handles.proofs.Counting.{sizes-none}
use Rattle.block_handles.proofs.LockSums.{lock-sum-none}
use Rattle.block_handles.proofs.Readies.{ready-empty, used-empty}
use Rattle.block_handles.proofs.Blocks.new.Goals as goal

pub invariant_of-result : goal.invariant_of-result
invariant_of-result c =
    let e = c.in_ok-new.ensures in
    record {
      ready = ready-empty c.in_ok-new.field-0 _ e;
      used = used-empty c.in_ok-new.field-0 _ _ e c.in_ok-new-2.ensures.0 c.in_ok-new-2.ensures.1;
      count = record {
        counted = omega (arith, ap (λ l. l.most) e.long, sizes-none c.in_ok-new.field-0 e.none);
        within = omega (arith, ap (λ l. l.most) e.long, ap (λ l. l.region) e.long);
        short = omega (arith, ap (λ l. l.region) e.long, c.ranges.region.fits);
      };
      locked = lock-sum-none c.in_ok-new.field-0 e.none;
    }
