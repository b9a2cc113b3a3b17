use Rattle.std.proofs.Common.{ap, arith, refl, reverse, vec_len}
use Rattle.cached_device.proofs.Laws.{events_more, popped, writes_happened, writes_still}
use Rattle.cached_device.proofs.device.CachedDeviceDevice.write_at.Goals as goal

pub returns-in-Ok-write_at-clause-writes : goal.returns-in-Ok-write_at-clause-writes
returns-in-Ok-write_at-clause-writes c = writes_happened _ _ _ _ (c.write_at.ensures.writes.torn tt) refl (events_more _ _ _ c.in-Ok.ensures.items)

pub returns-in-Err-write_at-clause-writes : goal.returns-in-Err-write_at-clause-writes
returns-in-Err-write_at-clause-writes c =
    writes_still _ _ (record {
      bytes = c.in-Err-write_at.ensures.past.1;
      start = refl;
      events =
          ap reverse (popped _ _ _ _ (vec_len c.push.new.self) c.in-Ok.ensures.items (omega (arith, c.push.new.self.ok.0)) c.pop.ensures.rest);
    }) _ _
