use Rattle.std.proofs.Common.{◌≡◌, refl, rules}
use Rattle.cached_device.specs.History.{bytes_of}
use Rattle.cached_device.proofs.Laws.{events_more, reads_synced}
use Rattle.cached_device.proofs.device.CachedDeviceDevice.sync.Goals as goal

pub returns-clause-happened : goal.returns-clause-happened
returns-clause-happened c = record {
  bytes = c.in-Ok.bytes;
  all = search rules;
  happens = record { start = refl; events = events_more _ _ _ c.in-Ok-push.ensures.items };
}

pub returns-clause-reads : goal.returns-clause-reads
returns-clause-reads c =
    let kept : c.in-Ok.bytes.items ≡ bytes_of c.args.self.now = search rules in
    reads_synced _ _ c.in-Ok.bytes refl kept refl (events_more _ _ _ c.in-Ok-push.ensures.items)
