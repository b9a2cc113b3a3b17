use Rattle.tkv_names.specs.Seen.{AreNamed}
use Rattle.tkv_names.proofs.covered.named_routines.Given as goal

abbrev pub invariant-loop-index : goal.invariant-loop-index
invariant-loop-index l = AreNamed l.fn.text l.fn.items l.fn.placed l.named.items
