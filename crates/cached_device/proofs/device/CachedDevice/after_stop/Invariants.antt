use Rattle.std.proofs.Common.{reverse, take}
use Rattle.cached_device.specs.History.{Leaves, bytes_of}
use Rattle.cached_device.specs.Stopped.{IsChosen}
use Rattle.cached_device.proofs.device.CachedDevice.after_stop.Given as goal

abbrev pub invariant-loop-event : goal.invariant-loop-event
invariant-loop-event l = record {
  possible : Leaves l.self.start.items (reverse (take l.event-index l.self.events.items)) l.bytes.items;
  chosen : IsChosen (bytes_of l.self) l.self.start.items (reverse (take l.event-index l.self.events.items)) l.parts l.bytes.items;
}
