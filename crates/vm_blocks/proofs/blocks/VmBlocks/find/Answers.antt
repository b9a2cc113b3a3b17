use Rattle.std.proofs.Common.{rules, ◌≡◌, ◌≢◌, refl, arith}
use Rattle.vm_blocks.specs.Blocks.{IsNextWith, NoneWith}
use Rattle.vm_blocks.proofs.Directory.{some-held}
use Rattle.vm_blocks.proofs.Told.{find-row}
use Rattle.vm_blocks.proofs.blocks.VmBlocks.find.Goals as goal

pub returns-then-has_uid-clause-row : goal.returns-then-has_uid-clause-row
returns-then-has_uid-clause-row g c = λ other s tied.
    let d = g.D.Device in
    let now = c.args.self.now in
    let start = c.args.start in
    let uid = c.args.uid in
    let h = c.loop-h.h in
    let found : h ≢ 0 → IsNextWith now start uid h = search rules in
    let none : h ≡ 0 → NoneWith now start uid = search rules in
    find-row d.medium now s tied start uid h other found none

pub returns-clause-row : goal.returns-clause-row
returns-clause-row g c = λ other s tied.
    let d = g.D.Device in
    let now = c.args.self.now in
    let start = c.args.start in
    let uid = c.args.uid in
    let none : NoneWith now start uid = (λ k above has. let q = some-held now.entries k (λ e. e.uid ≡ uid) tied.long has in
    c.loop-h.invariant k above (omega (arith, q.1, c.loop-h-test.false, c.loop-h.auto.h-end)) has) in
    find-row d.medium now s tied start uid 0 other (λ some. absurd (some refl)) (λ zero. none)
