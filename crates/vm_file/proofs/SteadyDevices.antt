-- Devices that fail at no call within their length.
use Rattle.std.proofs.Common.{arith}
use Rattle.std.proofs.lemmas.Result.{on_err_weaker}
use Rattle.vm_file.specs.Device.{IsSteady}
use Rattle.vm_file.specs.Memory.{medium}

-- so is one in memory
pub memory_steady : IsSteady medium
memory_steady = record {
  reads = λ old new at bytes result r within. on_err_weaker result (λ past. omega (arith, past, within)) r.past;
  writes = λ old new at bytes result w within. on_err_weaker result (λ past. (let behind = past.0 in omega (arith, behind, within))) w.past;
  syncs = λ old new result s. s.never;
}
