use Rattle.std.proofs.Common.{◌≡◌, ℕ, ap, sym, subst}
use Rattle.std.specs.Prelude.{Err, OnOk}
use Rattle.geos_terms.specs.Heap.{IsBlockSize}
use Rattle.geos_terms.specs.Names.{vm}
use Rattle.geos_terms.specs.declared.name.Name.{Name}
use Rattle.block_handles.specs.Names.{IsHandle, slot_of}
use Rattle.block_handles.specs.Store.{IsBlock, IsThere, bytes_of, locks_in}
use Rattle.vm_file.specs.State.{HasBlock}
use Rattle.vm_blocks.specs.declared.error.BringError.TheVariants as error
use Rattle.vm_blocks.specs.Bringing.{ReadsDevice}
use Rattle.vm_blocks.specs.Room.{DiscardsAndMakes, DiscardsForRoom, LacksRoom, own_handle}
use Rattle.vm_blocks.specs.View.{VmState, bytes_read, vm_slot}
use Rattle.vm_blocks.proofs.Bringing.{Fetches, lacks-fetches, read-fetches}
use Rattle.vm_blocks.proofs.Brings.{absent-is, made-block, made-room, made-size}
use Rattle.vm_blocks.proofs.blocks.VmBlocks.fetch.Goals as goal

pub make_room-requires : goal.make_room-requires
make_room-requires g c =
    let d = g.D.Device in
    let q = c.requires in
    let h = c.args.h in
    let size : IsBlockSize c.args.held.len =
    (absent-is d.medium c.args.self.now c.args.blocks.now h c.args.held q.handle q.tied q.listed q.absent).size in
    record {
      tied = q.tied;
      handle = subst (λ (name : Name). IsHandle name.h) (sym c.vm.ensures) q.handle;
      absent = subst (λ (name : Name). IsThere c.args.blocks.now (slot_of name) → ⊥) (sym c.vm.ensures) q.absent;
      size = subst IsBlockSize (sym c.from.ensures) size;
    }

pub returns-in-Err : goal.returns-in-Err
returns-in-Err g c =
    let d = g.D.Device in
    let now = c.args.self.now in
    let old = c.args.blocks.now in
    let mid = c.make_room.new.blocks in
    let h = c.args.h in
    let e = c.args.held in
    let q = c.requires in
    let Lacks : Name → ℕ → Type 0 = λ name size. LacksRoom now old mid name size in
    let Wanted : Name → ℕ → Type 0 = λ name size. DiscardsForRoom now old mid (own_handle name) (slot_of name) size in
    let lacks = subst (Lacks (vm h)) c.from.ensures (subst (λ name. Lacks name c.from.result) c.vm.ensures c.in-Err.ensures.err) in
    let wanted = subst (Wanted (vm h)) c.from.ensures (subst (λ name. Wanted name c.from.result) c.vm.ensures c.in-Err.ensures.wanted) in
    let f = lacks-fetches d.medium now old h e q.handle q.tied q.listed q.absent mid lacks wanted in
    record { brings = f.brings; known = f.known; ok = f.ok; row = f.row }

pub read_into-requires : goal.read_into-requires
read_into-requires g c =
    let d = g.D.Device in
    let now = c.args.self.now in
    let old = c.args.blocks.now in
    let mid = c.make_room.new.blocks in
    let h = c.args.h in
    let e = c.args.held in
    let q = c.requires in
    let made = made-room now old mid c.vm.result h c.vm.ensures
    (subst (DiscardsAndMakes now old mid c.vm.result) c.from.ensures c.in-Ok.ensures.ok) in
    let block = made-block now old mid h e.len q.handle made in
    let kept = (absent-is d.medium now old h e q.handle q.tied q.listed q.absent).kept in
    record {
      there = subst IsBlock (sym block) tt;
      free = ap locks_in block;
      listed = subst (HasBlock c.self.inside.file.current h) (sym (made-size now old mid h e.len q.handle made))
          (subst (λ (w : VmState g.row.D.Denot). HasBlock w.file.current h e.len) (sym c.self.view_is) kept);
    }

pub returns : goal.returns
returns g c =
    let d = g.D.Device in
    let now = c.args.self.now in
    let old = c.args.blocks.now in
    let mid = c.make_room.new.blocks in
    let t = c.read_into.new.blocks in
    let h = c.args.h in
    let e = c.args.held in
    let q = c.requires in
    let made = made-room now old mid c.vm.result h c.vm.ensures
    (subst (DiscardsAndMakes now old mid c.vm.result) c.from.ensures c.in-Ok.ensures.ok) in
    let file = c.read_into.new.file in
    let result = c.read_into.result in
    let r = c.read_into.ensures in
    let same : file ≡ record now.file { device = file.device } =
    subst (λ (w : VmState g.row.D.Denot). file ≡ record w.file { device = file.device }) c.self.view_is r.same in
    let read = subst (λ (w : VmState g.row.D.Denot). d.medium.honest w.file.device
    → OnOk result (bytes_of t (vm_slot h) ≡ bytes_read d.medium.image w.file h)) c.self.view_is r.bytes in
    let device = subst (λ (w : VmState g.row.D.Denot). ReadsDevice d.medium (result ≡ Err error.Disk) w.file file) c.self.view_is r.device in
    let f = subst (λ (w : VmState g.row.D.Denot). Fetches d.medium h result now (record w { file = file }) old t) (sym c.self.view_is)
    (read-fetches d.medium now old h e q.handle q.tied q.listed q.absent mid t file result made same r.ok read r.values r.err r.disk device) in
    record { brings = f.brings; known = f.known; ok = f.ok; row = f.row }
