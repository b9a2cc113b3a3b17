-- That a new block of the file has no room.
use Rattle.std.proofs.Common.{◌≡◌, ℕ, refl, sym, subst}
use Rattle.std.specs.Prelude.{OnErr, Result, Ok, Err}
use Rattle.geos_terms.specs.declared.refusal.Refusal.TheVariants as refusal
use Rattle.block_handles.specs.Store.{Store}
use Rattle.vm_file.specs.Device.{Medium}
use Rattle.vm_blocks.specs.declared.error.NewError.{NewError}
use Rattle.vm_blocks.specs.declared.error.NewError.TheVariants as new
use Rattle.vm_blocks.specs.Blocks.{LacksRoomForNew}
use Rattle.vm_blocks.specs.Refused.{of_new}
use Rattle.vm_blocks.specs.Room.{NoneIdle}
use Rattle.vm_blocks.specs.View.{VmState}
use Rattle.geos_kernel.specs.Kernel.{NewListedHasNoRoom}
use Rattle.geos_kernel.specs.View.{core_of}

pub room-below : (r : Result ℕ NewError) → of_new r ≡ Err refusal.NoRoom → r ≡ Err new.NoRoom
room-below (Ok h) e = absurd cc
room-below (Err new.NoHandle) e = absurd cc
room-below (Err new.NoRoom) e = refl

pub new-lacks : {D E : Type 0} (medium : Medium D) (v w : VmState D) (s t : Store) (r : Result ℕ E) (why : E)
    → r ≡ Err why → OnErr r (w ≡ v) → LacksRoomForNew v s t → NewListedHasNoRoom (core_of medium v s) (core_of medium w t)
new-lacks {D} {E} medium v w s t r why is err lacks =
    let same : w ≡ v = subst (λ (x : Result ℕ E). OnErr x (w ≡ v)) is err in
    let none : NoneIdle w t lacks.h = subst (λ x. NoneIdle x t lacks.h) (sym same) lacks.lacks.none in (
      lacks.h,
      record { handle = lacks.lowest.handle; free = lacks.lowest.free; lower = lacks.lowest.lower },
      record { none = none; no_room = lacks.lacks.no_room },
    )
