-- Runs from a kernel that is the system's.
use Rattle.std.proofs.Common.{◌≡◌, ℕ, List, subst}
use Rattle.geos_kernel.specs.View.{KernelOn}
use Rattle.host_device.specs.declared.device.HostDevice.{HostDevice}
use Rattle.takhvoi.specs.declared.system.System.{System}
use Rattle.takhvoi.specs.Images.{HasRun}

pub runs-from : {n routine count steps status : ℕ} {words handles after room output : List ℕ} {new : System} (old : System)
    (k : KernelOn HostDevice) → k ≡ old.kernel
    → HasRun n routine words handles after room output count steps status (record old { kernel = k }) new
    → HasRun n routine words handles after room output count steps status old new
runs-from {n} {routine} {count} {steps} {status} {words} {handles} {after} {room} {output} {new} old k same ran =
    subst (λ (k : KernelOn HostDevice). HasRun n routine words handles after room output count steps status (record old { kernel = k }) new) same ran
