use Rattle.std.proofs.Common.{subst}
use Rattle.std.specs.Prelude.{Ok}
use Rattle.geos_terms.specs.declared.name.Name.{Name}
use Rattle.geos_calls.specs.VmCalls.{vunlock}
use Rattle.geos_kernel.specs.Kernel.{Calls}
use Rattle.geos_kernel.proofs.Seen.{file-on}
use Rattle.geos_kernel.proofs.Stops.{between-leaving}
use Rattle.geos_cli.proofs.LentLocks.{unlock-counts}
use Rattle.geos_cli.proofs.LentRuns.{comes-leads, stops-between}
use Rattle.geos_cli.proofs.lending.unlock.Goals as goal

pub returns-clause-leads : goal.returns-clause-leads
returns-clause-leads g c =
    let d = g.D.Device in
    let k = c.args.kernel.now in
    let new = c.vunlock.new.self in
    let calls : Calls (d.medium.honest k.device) (vunlock c.args.h) (Ok (tt {0})) k.core new.core =
    subst (λ (n : Name). Calls (d.medium.honest k.device) (vunlock n.h) (Ok (tt {0})) k.core new.core) c.vm.ensures c.vunlock.ensures.calls in
    comes-leads (d.medium.honest k.device) _ k.core new.core (vunlock c.args.h) (Ok (tt {0}))
    (stops-between d.medium k new (g.met.D.Device.at_once k.device) c.memory_is_legal.ensures.kept
    (between-leaving d.medium k new c.vunlock.ensures.vm).stops) calls

pub returns-clause-counts : goal.returns-clause-counts
returns-clause-counts g c =
    let d = g.D.Device in
    let k = c.args.kernel.now in
    let new = c.vunlock.new.self in
    let between = between-leaving d.medium k new c.vunlock.ensures.vm in
    let known = c.memory_is_legal.ensures.file in
    let calls : Calls (d.medium.honest k.device) (vunlock c.args.h) (Ok (tt {0})) k.core new.core =
    subst (λ (n : Name). Calls (d.medium.honest k.device) (vunlock n.h) (Ok (tt {0})) k.core new.core) c.vm.ensures c.vunlock.ensures.calls in
    let done = calls.answers known.0 known.1 in
    let now = file-on (d.medium.honest k.device) (d.medium.honest new.device) between.honest.0 new.core done.file done.tied in
    unlock-counts (d.medium.honest k.device) c.args.h k.core new.core known.0 done.file known.1 done.tied
    (c.memory_is_legal.ensures.locks known.0 known.1) (c.memory_is_legal-2.ensures.locks done.file now) done.choice c.requires done.comes

pub returns-clause-honest : goal.returns-clause-honest
returns-clause-honest g c = (between-leaving g.D.Device.medium c.args.kernel.now c.vunlock.new.self c.vunlock.ensures.vm).honest

pub returns-clause-steadily : goal.returns-clause-steadily
returns-clause-steadily g c = (between-leaving g.D.Device.medium c.args.kernel.now c.vunlock.new.self c.vunlock.ensures.vm).steadily
