-- The call that makes a block.
use Rattle.std.proofs.Common.{◌≡◌, ◌≢◌, ℕ, ◌<◌, ◌≤◌, Option, Some, None, true, refl, sym, ap, ◌∙◌, arith, subst}
use Rattle.std.specs.Prelude.{Ok, Err}
use Rattle.geos_terms.specs.declared.name.Owner.TheVariants.{Mem}
use Rattle.geos_terms.specs.declared.refusal.Refusal.TheVariants.{NoHandle, NoRoom}
use Rattle.geos_terms.specs.Block as block
use Rattle.geos_terms.specs.Heap.{IsHeap}
use Rattle.geos_terms.specs.Names.{mem}
use Rattle.geos_calls.specs.Memory as model
use Rattle.geos_calls.specs.Memory.{Memory}
use Rattle.geos_calls.specs.Tight.{is_tight}
use Rattle.geos_calls.specs.VmFile.{VmFile}
use Rattle.geos_calls.specs.Effects.{Nothing}
use Rattle.geos_calls.specs.Calls as table
use Rattle.block_handles.specs.Names.{slot_of}
use Rattle.block_handles.specs.Store as store
use Rattle.block_handles.specs.Store.{Block, Store}
use Rattle.block_handles.specs.Stretch.{IsCrowded}
use Rattle.block_handles.specs.Used.{IsLowest, AllInUse}
use Rattle.vm_file.specs.Device.{Medium}
use Rattle.vm_blocks.specs.FileOf.{IsMemoryOf}
use Rattle.vm_blocks.specs.Room as room
use Rattle.vm_blocks.specs.Spelled.{block_in, spelled}
use Rattle.vm_blocks.specs.Tied.{IsTied}
use Rattle.vm_blocks.specs.View.{VmState}
use Rattle.vm_blocks.proofs.Changed.{memory-thins}
use Rattle.vm_blocks.proofs.Thinning.{tied-thins}
use Rattle.vm_blocks.proofs.Tightness.{tight-mem}
use Rattle.geos_kernel.specs.View.{KernelState, core_of, memory_of}
use Rattle.geos_kernel.specs.Spans.{SpansStay}
use Rattle.geos_kernel.specs.Kernel.{IsKernel, Calls, MakesRoomFor}
use Rattle.chunk_calls.specs.Others.{KeepsBut}
use Rattle.chunk_calls.proofs.Kept.{mem-changed, mem-tied}
use Rattle.chunk_calls.proofs.Named.{slot_of-mem}
use Rattle.geos_kernel.proofs.Changed.{slot-keeps, slot-other, slot-own}
use Rattle.geos_kernel.proofs.Lowest.{lowest-some, lowest-high, lowest-none}
use Rattle.geos_kernel.proofs.Rowed.{does-cramped, does-willing, row-calls}
use Rattle.geos_kernel.proofs.Rows.{mnew-ok, mnew-full, mnew-tight}
use Rattle.geos_kernel.proofs.Stays.{kernel-but, kernel-thins, stands-same, thins-stands}

module _ {D : Type 0} (medium : Medium D) (v : VmState D) (s : Store) (k : IsKernel medium v s) where
  abbrev sees : Store → KernelState
  sees t = core_of medium v t

  -- Each handle is in use

  pub mnew-full-calls : AllInUse s Mem → Calls (medium.honest v.file.device) table.mnew (Err NoHandle) (sees s) (sees s)
  mnew-full-calls all = row-calls medium table.mnew (Err NoHandle) v s s
      (does-willing medium table.mnew (Err NoHandle) v s s (λ m is. (m, is, mnew-full m (lowest-none medium v s m k.tied is all))))
      (λ f tied choice span ref st fresh. st)

  -- Each handle up to the limit is in use

  pub mnew-high-calls : (h : ℕ) → IsLowest s Mem h → store.handles_of s < h
      → Calls (medium.honest v.file.device) table.mnew (Err NoHandle) (sees s) (sees s)
  mnew-high-calls h low above = row-calls medium table.mnew (Err NoHandle) v s s
      (does-willing medium table.mnew (Err NoHandle) v s s (λ m is. (m, is, mnew-full m (lowest-high medium v s m k.tied is h low above))))
      (λ f tied choice span ref st fresh. st)

  -- No stretch of the region has room

  module _ (t : Store) (h : ℕ) (low : IsLowest s Mem h) (within : h ≤ store.handles_of s) (lacks : room.LacksRoom v s t (mem h) 64) where
    crowded-tied : IsTied medium v t
    crowded-tied = tied-thins medium v s t 0 k.tied lacks.thins

    pub mnew-tight-calls : Calls (medium.honest v.file.device) table.mnew (Err NoRoom) (sees s) (sees t)
    mnew-tight-calls = row-calls medium table.mnew (Err NoRoom) v s t
        (does-cramped medium table.mnew (Err NoRoom) v s t (λ m is.
        let now = memory-thins medium v s t m is 0 k.tied lacks.thins in
        let crowded = subst (λ slot. IsCrowded t slot 64) (slot_of-mem h low.handle) lacks.no_room.crowded in
        let tight : is_tight m (mem h) 64 ≡ true = tight-mem medium v t m crowded-tied now h 64 low.handle lacks.none crowded in
        (m, now, mnew-tight m m h (lowest-some medium v s m k.tied is h low within) tight refl)))
        (λ f tied choice span ref st fresh. thins-stands v 0 (sees s) (sees t) span ref lacks.thins st)

    pub kernel-crowded : IsKernel medium v t
    kernel-crowded =
        let f = k.known in
        let now = memory-thins medium v s t (memory_of (sees s) f.0) (record { blocks = refl; file = f.1; region = refl; handles = refl }) 0 k.tied lacks.thins in
        kernel-thins medium v s t 0 k lacks.thins crowded-tied (f.0, now.file)

  -- It was made

  module _ (t : Store) (h : ℕ) (low : IsLowest s Mem h) (within : h ≤ store.handles_of s) (makes : MakesRoomFor v s t (mem h)) where
    abbrev slot : ℕ
    slot = slot_of (mem h)

    abbrev own : Block
    own = record { locks = 1; bytes = makes.made.bytes }

    thin : IsTied medium v makes.mid
    thin = tied-thins medium v s makes.mid 0 k.tied makes.thins

    keeps : KeepsBut v makes.mid t (mem h)
    keeps = slot-keeps makes.mid t (mem h) (Some own) makes.made.blocks v makes.made.stay makes.made.laid makes.made.len

    at-own : store.block_at t slot ≡ Some own
    at-own = slot-own makes.mid t (mem h) (Some own) makes.made.blocks thin.laid low.handle

    made-tied : IsTied medium v t
    made-tied = mem-tied medium v makes.mid t h low.handle thin keeps

    fresh-block : spelled 1 makes.made.bytes ≡ record { locks = 1; heap = model.new_heap }
    fresh-block = let made = makes.made in let chunks = made.chunks in let long = made.long in
        λ i. record { locks = 1; heap = record { chunks = chunks i; size = long i } }

    made-memory : (m : Memory) → IsMemoryOf medium v s m
        → IsMemoryOf medium v t (model.with_block m (mem h) (Some (record { locks = 1; heap = model.new_heap })))
    made-memory m is =
        let now = memory-thins medium v s makes.mid m is 0 k.tied makes.thins in
        subst (λ b. IsMemoryOf medium v t (model.with_block m (mem h) (Some b))) fresh-block
        (mem-changed medium v makes.mid t h low.handle thin keeps m now (Some (spelled 1 makes.made.bytes)) (sym (ap block_in at-own)))

    -- a span in another block, which is locked and stays, stays valid
    made-spans : (f : VmFile) → SpansStay (sees s) (sees t) f Nothing
    made-spans f span ref st fresh =
        let mid = thins-stands v 0 (sees s) (sees makes.mid) span ref makes.thins st in
        let there = locked-there (store.block_at s (slot_of ref.name)) st.locked in
        let apart : slot_of ref.name ≢ slot = λ same. low.free (subst (store.IsThere s) same there) in
        let same = slot-other makes.mid t (mem h) (Some own) makes.made.blocks (slot_of ref.name) apart in
        stands-same (sees makes.mid) (sees t) span ref same (makes.made.stay (slot_of ref.name) apart mid.locked) mid
      where
        locked-there : (o : Option Block) → 0 < store.locks_in o → store.IsBlock o
        locked-there None some = absurd (omega (arith, some))
        locked-there (Some b) some = tt

    pub mnew-calls : Calls (medium.honest v.file.device) table.mnew (Ok h) (sees s) (sees t)
    mnew-calls = row-calls medium table.mnew (Ok h) v s t
        (does-willing medium table.mnew (Ok h) v s t (λ m is. (
          model.with_block m (mem h) (Some (record { locks = 1; heap = model.new_heap })),
          made-memory m is,
          mnew-ok m (model.with_block m (mem h) (Some (record { locks = 1; heap = model.new_heap }))) h
              (lowest-some medium v s m k.tied is h low within) refl,
        )))
        (λ f tied choice. made-spans f)

    pub kernel-made : IsKernel medium v t
    kernel-made =
        let f = k.known in
        let before : IsMemoryOf medium v s (memory_of (sees s) f.0) = record { blocks = refl; file = f.1; region = refl; handles = refl } in
        let now = memory-thins medium v s makes.mid (memory_of (sees s) f.0) before 0 k.tied makes.thins in
        let after = made-memory (memory_of (sees s) f.0) before in
        let mid = kernel-thins medium v s makes.mid 0 k makes.thins thin (f.0, now.file) in
        kernel-but medium v makes.mid t (mem h) mid keeps low.handle made-tied (f.0, after.file)
        (subst (λ o. IsHeap (store.bytes_in o)) (sym at-own) makes.made.heap)
        (ap (λ o. block.handle_word (store.bytes_in o)) at-own ∙ makes.made.handle) (omega (arith, ap store.locks_in at-own))
