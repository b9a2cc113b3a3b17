use Rattle.std.proofs.Common.{◌≡◌, ◌∙◌, Some, ap, sym, subst, true}
use Rattle.std.specs.Prelude.{option_map}
use Rattle.geos_calls.specs.Memory.{with_mark}
use Rattle.vm_blocks.specs.Blocks.{marked}
use Rattle.vm_blocks.specs.FileOf.{IsMemoryOf}
use Rattle.vm_blocks.specs.Tied.{IsTied}
use Rattle.vm_blocks.specs.View.{VmState, held_at, with_held}
use Rattle.vm_blocks.proofs.LockRows.{known}
use Rattle.vm_blocks.proofs.Marking.{changed-memory, changed-tied}
use Rattle.vm_blocks.proofs.blocks.VmBlocks.vdirty_changed.Goals as goal

pub returns-in-Some : goal.returns-in-Some
returns-in-Some g c =
    let d = g.D.Device in
    let now = c.args.self.now in
    let s = c.args.blocks.now in
    let h = c.args.handle in
    let listed : held_at now h ≡ Some c.in-Some.held = sym c.held.ensures.held ∙ c.in-Some.is in
    let marks = c.put.ensures ∙ ap (λ o. with_held now h (option_map marked o)) (sym listed) in
    record {
      tied = subst (λ (w : VmState g.row.D.Denot). IsTied d.medium w s) (sym marks) (changed-tied d.medium now s h c.requires);
      marks = marks;
      memory = λ m is. subst (λ (w : VmState g.row.D.Denot). IsMemoryOf d.medium w s (with_mark m h true)) (sym marks)
          (changed-memory d.medium now s h c.requires m is);
    }

pub returns-in-None : goal.returns-in-None
returns-in-None g c =
    let d = g.D.Device in
    let now = c.args.self.now in
    let h = c.args.handle in
    let k = known d.medium now c.requires.before h c.requires.tied c.requires.was in
    let both = sym k.listed ∙ sym c.held.ensures.held ∙ c.in-None.is in
    absurd cc
