use Rattle.std.proofs.Common.{ℕ, ◌≤◌, ◌/◌, List, length, take, inr, arith, rules, length-take}
use Rattle.vm_file.proofs.FaultLaws.{writes_below}
use Rattle.vm_file.proofs.faulty.FaultDeviceDevice.write_at.Goals as goal

half : (bs : List ℕ) → length (take (length bs / 2) bs) ≤ length bs
half bs = omega (arith, length-take (length bs / 2) bs)

pub returns-then-is_ok-clause-writes : goal.returns-then-is_ok-clause-writes
returns-then-is_ok-clause-writes g c = (let d = g.D.Device in writes_below d.medium _ _ _ _ _ (half _) c.write_at.ensures.writes)

pub returns-else-is_ok-clause-writes : goal.returns-else-is_ok-clause-writes
returns-else-is_ok-clause-writes g c = (let d = g.D.Device in writes_below d.medium _ _ _ _ _ (half _) c.write_at.ensures.writes)

pub returns-then-is_ok-clause-due : goal.returns-then-is_ok-clause-due
returns-then-is_ok-clause-due g c = λ due. record { fails = tt; answer = c.write_at.result; call = search rules; half = search rules }

pub returns-then-is_ok-clause-call : goal.returns-then-is_ok-clause-call
returns-then-is_ok-clause-call g c = inr (record { fails = tt; answer = c.write_at.result; call = search rules; half = search rules })

pub returns-else-is_ok-clause-due : goal.returns-else-is_ok-clause-due
returns-else-is_ok-clause-due g c = λ due. record { fails = tt; answer = c.write_at.result; call = search rules; half = search rules }

pub returns-else-is_ok-clause-call : goal.returns-else-is_ok-clause-call
returns-else-is_ok-clause-call g c = inr (record { fails = tt; answer = c.write_at.result; call = search rules; half = search rules })
