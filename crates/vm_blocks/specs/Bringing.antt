-- What a call that may bring a block into memory does.
use Rattle.std.specs.Prelude.{◌≡◌, ℕ, None, IfSome, OnErr, Result, Err}
use Rattle.geos_terms.specs.Names.{vm}
use Rattle.block_handles.specs.Store.{Store, IsThere}
use Rattle.vm_file.specs.Device.{Medium, Rose}
use Rattle.vm_file.specs.Outcomes.{ReadsOnly}
use Rattle.vm_file.specs.State.{FileState, Steadily, pair_of}
use Rattle.vm_blocks.specs.Bring.{Keeps, NotBrought}
use Rattle.vm_blocks.specs.Room.{LacksRoom, RemainOrNoRoom}
use Rattle.vm_blocks.specs.Tied.{IsTied}
use Rattle.vm_blocks.specs.View.{VmState, held_at, vm_slot, with_device}

-- a call that at most reads the device, within its length. It writes nothing, and the committed pair is unchanged.
-- On an honest device the call fails only if the count of failures rose; the count rises only if the call fails.
pub record ReadsDevice {D : Type 0} (medium : Medium D) (fails : Type 0) (f g : FileState D) : Type 0 where
  pub pair : pair_of medium.image g ≡ pair_of medium.image f
  pub reads : ReadsOnly medium f.device g.device
  pub cause : medium.honest f.device → fails → Rose (medium.failed f.device) (medium.failed g.device)
  pub counted : (fails → ⊥) → medium.failed g.device ≡ medium.failed f.device
  pub steadily : Steadily medium f g

-- a call loads a block into memory, or fails with one error if it finds no room, and with another if the device fails.
-- If the block is in memory or is not listed, the call does not use the device. It evicts other blocks only if it finds
-- no room.
pub record BringsBlock {D E : Type 0} (medium : Medium D) (room disk : E)
    (h : ℕ) (result : Result (Unit {0}) E) (v w : VmState D) (s t : Store) : Type 0 where
  pub tied : IsTied medium w t
  pub same : w ≡ with_device v w.file.device
  pub there : IsThere s (vm_slot h) → w ≡ v
  pub unlisted : held_at v h ≡ None → (w ≡ v) × (t ≡ s)
  pub absent : result ≡ Err disk → IsThere t (vm_slot h) → ⊥
  pub err : OnErr result (NotBrought s t h)
  pub keeps : Keeps v s t h
  pub no_room : result ≡ Err room → IfSome (held_at v h) (λ held. LacksRoom v s t (vm h) held.len)
  pub wanted : IfSome (held_at v h) (λ held. RemainOrNoRoom s t h held.len)
  pub device : ReadsDevice medium (result ≡ Err disk) v.file w.file
