use Rattle.std.proofs.Common.{◌≡◌, ◌∙◌, inr}
use Rattle.std.specs.Prelude.{Result, Ok, Err, OnErr}
use Rattle.vm_file.specs.Device.{Counts}
use Rattle.vm_file.specs.declared.device.Disk.{Disk}
use Rattle.vm_file.proofs.Moments.{rose}
use Rattle.vm_file.proofs.device.write_durably.Goals as goal

pub returns-in-Err-clause-cause : goal.returns-in-Err-clause-cause
returns-in-Err-clause-cause g c = rose _ _ c.in-Err.ensures.cause.err

pub returns-in-Err-clause-once : goal.returns-in-Err-clause-once
returns-in-Err-clause-once g c = inr c.in-Err.ensures.cause.err

pub returns-in-Err-clause-steady : goal.returns-in-Err-clause-steady
returns-in-Err-clause-steady g c = λ within s. absurd (s.writes c.args.device.now c.write_at.new.self c.args.at
    c.args.bytes.now _ c.in-Err.ensures.call within)

pub returns-in-Ok-clause-steady : goal.returns-in-Ok-clause-steady
returns-in-Ok-clause-steady g c = λ within s. on c.sync.result c.sync.ensures.cause (s.syncs _ _ c.sync.result c.sync.ensures.call)
  where
    on : (r : Result (Unit {0}) Disk) → Counts (g.D.Device.medium.failed c.write_at.new.self) (g.D.Device.medium.failed c.sync.new.self) r
        → OnErr r ⊥ → g.D.Device.medium.failed c.sync.new.self ≡ g.D.Device.medium.failed c.args.device.now
    on (Ok done) counts never = counts.ok ∙ c.in-Ok.ensures.cause.ok
    on (Err why) counts never = absurd never
