use Rattle.tkv_names.specs.Seen.{AllSound, Sound}
use Rattle.tkv_names.proofs.check.Check.is_sound.Given as goal

abbrev pub invariant-loop-index : goal.invariant-loop-index
invariant-loop-index l = AllSound l.fn.self.text.now l.fn.self.items.now l.fn.self.placed.now l.waiting
    → Sound l.fn.self.text.now l.fn.self.items.now l.fn.self.placed.now l.fn.first
