use Rattle.geos_kernel.proofs.Seen.{file-on}
use Rattle.geos_calls.specs.VmCalls.{vlock}
use Rattle.geos_cli.proofs.LentLocks.{lock-counts, lock-same, lock-there, lock-stays}
use Rattle.geos_cli.proofs.LentRuns.{comes-leads, stops-between}
use Rattle.geos_cli.proofs.lending.lock.Goals as goal

pub returns-clause-leads : goal.returns-clause-leads
returns-clause-leads g c =
    let d = g.D.Device in
    let k = c.args.kernel.now in
    let new = c.vlock-locked.new.self in
    comes-leads (d.medium.honest k.device) _ k.core new.core (vlock c.args.h) c.vlock-locked.result
    (stops-between d.medium k new (g.met.D.Device.at_once k.device) c.memory_is_legal.ensures.kept c.vlock-locked.ensures.device.between.stops)
    c.vlock-locked.ensures.calls

pub returns-clause-counts : goal.returns-clause-counts
returns-clause-counts g c =
    let known = c.memory_is_legal.ensures.file in
    let done = c.vlock-locked.ensures.calls.answers known.0 known.1 in
    let now = file-on (g.D.Device.medium.honest c.args.kernel.now.device) (g.D.Device.medium.honest c.vlock-locked.new.self.device)
    c.vlock-locked.ensures.device.between.honest.0 c.vlock-locked.new.self.core done.file done.tied in
    lock-counts (g.D.Device.medium.honest c.args.kernel.now.device) c.args.h c.args.kernel.now.core c.vlock-locked.new.self.core
    known.0 done.file known.1 done.tied
    (c.memory_is_legal.ensures.locks known.0 known.1) (c.memory_is_legal-2.ensures.locks done.file now) done.choice c.vlock-locked.result done.comes

pub returns-clause-same : goal.returns-clause-same
returns-clause-same g c =
    let known = c.memory_is_legal.ensures.file in
    let done = c.vlock-locked.ensures.calls.answers known.0 known.1 in
    let now = file-on (g.D.Device.medium.honest c.args.kernel.now.device) (g.D.Device.medium.honest c.vlock-locked.new.self.device)
    c.vlock-locked.ensures.device.between.honest.0 c.vlock-locked.new.self.core done.file done.tied in
    lock-same (g.D.Device.medium.honest c.args.kernel.now.device) c.args.h c.args.kernel.now.core c.vlock-locked.new.self.core
    known.0 done.file known.1 done.tied
    (c.memory_is_legal.ensures.locks known.0 known.1) (c.memory_is_legal-2.ensures.locks done.file now) done.choice c.vlock-locked.result done.comes

pub returns-clause-there : goal.returns-clause-there
returns-clause-there g c =
    let known = c.memory_is_legal.ensures.file in
    let done = c.vlock-locked.ensures.calls.answers known.0 known.1 in
    let now = file-on (g.D.Device.medium.honest c.args.kernel.now.device) (g.D.Device.medium.honest c.vlock-locked.new.self.device)
    c.vlock-locked.ensures.device.between.honest.0 c.vlock-locked.new.self.core done.file done.tied in
    lock-there (g.D.Device.medium.honest c.args.kernel.now.device) c.args.h c.args.kernel.now.core c.vlock-locked.new.self.core
    known.0 done.file known.1 done.tied
    (c.memory_is_legal.ensures.locks known.0 known.1) (c.memory_is_legal-2.ensures.locks done.file now) done.choice c.vlock-locked.result done.comes

pub returns-clause-stay : goal.returns-clause-stay
returns-clause-stay g c =
    let known = c.memory_is_legal.ensures.file in
    let done = c.vlock-locked.ensures.calls.answers known.0 known.1 in
    let now = file-on (g.D.Device.medium.honest c.args.kernel.now.device) (g.D.Device.medium.honest c.vlock-locked.new.self.device)
    c.vlock-locked.ensures.device.between.honest.0 c.vlock-locked.new.self.core done.file done.tied in
    lock-stays (g.D.Device.medium.honest c.args.kernel.now.device) c.args.h c.args.kernel.now.core c.vlock-locked.new.self.core
    known.0 done.file known.1 done.tied
    (c.memory_is_legal.ensures.locks known.0 known.1) (c.memory_is_legal-2.ensures.locks done.file now) done.choice c.vlock-locked.result done.comes
