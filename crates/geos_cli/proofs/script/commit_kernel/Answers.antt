use Rattle.vm_blocks.specs.ListedCalls.{keeper_of}
use Rattle.geos_kernel.specs.View.{memory_of}
use Rattle.geos_kernel.proofs.Seen.{file-on}
use Rattle.geos_cli.proofs.Commits.{commit-unlocked}
use Rattle.geos_cli.proofs.LentRuns.{stops-between}
use Rattle.geos_cli.proofs.script.commit_kernel.Goals as goal

pub returns-clause-unlocked : goal.returns-clause-unlocked
returns-clause-unlocked g c =
    let f = c.memory_is_legal.ensures.file.0 in
    let tied = c.memory_is_legal.ensures.file.1 in
    let none = (c.memory_is_legal.ensures.unlocked f tied).0 c.requires in
    let done = c.commit-done.ensures.calls.answers f tied in
    let after = commit-unlocked (keeper_of c.args.how) done.choice (memory_of c.args.kernel.now.core f)
    (memory_of c.commit-done.new.self.core done.file) c.commit-done.result none done.comes in
    let now = file-on (g.D.Device.medium.honest c.args.kernel.now.device) (g.D.Device.medium.honest c.commit-done.new.self.device)
    c.commit-done.ensures.commits.file.was c.commit-done.new.self.core done.file done.tied in
    (c.memory_is_legal-2.ensures.unlocked done.file now).1 after

pub returns-clause-stops : goal.returns-clause-stops
returns-clause-stops g c f after tied tied_after h =
    let d = g.D.Device in
    let k = c.args.kernel.now in
    stops-between d.medium k c.commit-done.new.self (g.met.D.Device.at_once k.device) c.memory_is_legal.ensures.kept
    c.commit-done.ensures.commits.between.stops f after tied tied_after h
