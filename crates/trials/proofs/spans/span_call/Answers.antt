use Rattle.trials.proofs.spans.span_call.Goals as goal
use Rattle.std.proofs.Common.{refl}

pub store-requires : goal.store-requires
store-requires g c = c.in-Ok.ensures.writable (c.if-may_change.ensures refl)
