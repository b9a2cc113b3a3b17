use Rattle.std.proofs.Common.{◌≡◌, ◌<◌, ◌∙◌, None, ap, sym, subst, arith}
use Rattle.block_handles.specs.Names.{slot_of}
use Rattle.block_handles.specs.Store.{locks_of}
use Rattle.vm_blocks.specs.View.{VmState, held_at, vm_slot}
use Rattle.vm_blocks.specs.Tied.{IsTied}
use Rattle.vm_blocks.proofs.FreeRows.{drops-keeps, free-done, free-locked, free-test, free-unknown, locked-test}
use Rattle.vm_blocks.proofs.Freed.{free-drops}
use Rattle.vm_blocks.proofs.Frees.{freed-tied}
use Rattle.vm_blocks.proofs.blocks.VmBlocks.vfree.Goals as goal

pub returns-clause-drops : goal.returns-clause-drops
returns-clause-drops g c =
    let s = c.args.blocks.now in
    let h = c.args.handle in
    let e = c.free.ensures in
    let slot : locks_of s (slot_of c.vm.result) ≡ locks_of s (vm_slot h) = ap (λ n. locks_of s (slot_of n)) c.vm.ensures in
    let none : locks_of s (vm_slot h) ≡ 0 = omega (arith, c.if-locks-gt0.false, c.locks.ensures, slot) in
    free-drops s c.free.new.self h c.vm-2.result c.free.result c.vm-2.ensures e.there e.ok e.bad_handle e.locked e.err none

pub returns-clause-tied : goal.returns-clause-tied
returns-clause-tied g c =
    let d = g.D.Device in
    let now = c.args.self.now in
    let s = c.args.blocks.now in
    subst (λ (w : VmState g.row.D.Denot). IsTied d.medium w c.free.new.self) (sym c.unlist.ensures)
    (freed-tied d.medium now s c.free.new.self c.args.handle c.in-Some.ensures.handle c.requires (returns-clause-drops g c))

pub returns-in_default-clause-row : goal.returns-in_default-clause-row
returns-in_default-clause-row g c =
    let d = g.D.Device in
    let now = c.args.self.now in
    let h = c.args.handle in
    let none : held_at now h ≡ None = sym c.in_default.ensures.held in
    free-unknown d.medium now c.args.blocks.now h c.requires none

pub returns-then-locks-gt0-clause-row : goal.returns-then-locks-gt0-clause-row
returns-then-locks-gt0-clause-row g c =
    let d = g.D.Device in
    let now = c.args.self.now in
    let s = c.args.blocks.now in
    let h = c.args.handle in
    let before : c.locks.result ≡ locks_of s (vm_slot h) = c.locks.ensures ∙ ap (λ n. locks_of s (slot_of n)) c.vm.ensures in
    let some : 0 < locks_of s (vm_slot h) = omega (arith, before, c.if-locks-gt0.true) in
    free-locked d.medium now s h c.requires c.in-Some.ensures.handle c.in-Some._held (sym c.held.ensures.held ∙ c.in-Some.is)
    (locked-test (locks_of s (vm_slot h)) some)

pub returns-clause-row : goal.returns-clause-row
returns-clause-row g c =
    let d = g.D.Device in
    let now = c.args.self.now in
    let s = c.args.blocks.now in
    let t = c.free.new.self in
    let h = c.args.handle in
    let before : c.locks.result ≡ locks_of s (vm_slot h) = c.locks.ensures ∙ ap (λ n. locks_of s (slot_of n)) c.vm.ensures in
    free-done d.medium now s h c.requires c.in-Some.ensures.handle c.in-Some._held (sym c.held.ensures.held ∙ c.in-Some.is) t
    (drops-keeps now s t h c.requires.laid (returns-clause-drops g c)) c.unlist.new.self
    (free-test (locks_of s (vm_slot h)) (λ some. omega (arith, before, some, c.if-locks-gt0.false))) c.unlist.ensures
