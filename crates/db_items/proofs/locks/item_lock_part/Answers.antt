use Rattle.std.proofs.Common.{Bool, false, ◌≡◌, ◌≢◌, ◌∙◌, ◌+◌, ◌≤◌, length, ap, sym, subst}
use Rattle.std.specs.Prelude.{Err, IsTrue, Ok}
use Rattle.geos_terms.specs.Edits.{refer}
use Rattle.geos_terms.specs.Heap.{IsHeap}
use Rattle.block_handles.specs.Change.{with_locks}
use Rattle.block_handles.specs.Names.{slot_of}
use Rattle.block_handles.specs.Store.{IsThere, bytes_of, locks_of}
use Rattle.vm_blocks.specs.View.{vm_slot}
use Rattle.vm_blocks.proofs.Counts.{locked-more}
use Rattle.chunk_calls.specs.Edits.{Finds}
use Rattle.db_items.proofs.Changing.{holds-heap}
use Rattle.db_items.proofs.Locking.{lock-found, lock-full, lock-not_brought, lock-refused}
use Rattle.db_items.proofs.locks.item_lock_part.Goals as goal

-- a test that failed does not hold
not-full : (full : Bool) → full ≡ false → IsTrue full → ⊥
not-full full failed holds = absurd cc

pub returns-then-is_full : goal.returns-then-is_full
returns-then-is_full g c =
    let d = g.D.Device in
    let full = c.is_full.ensures.0 c.if-is_full.true in
    lock-full d.medium c.args.vm.now c.args.group c.args.item c.args.len c.args.blocks.now c.requires full.0 full.1

pub returns-in-Err : goal.returns-in-Err
returns-in-Err g c =
    let d = g.D.Device in
    lock-not_brought d.medium c.args.vm.now c.args.group c.args.item c.args.len c.args.blocks.now c.bring_group.new.vm c.bring_group.new.blocks
    (λ group many. not-full c.is_full.result c.if-is_full.false (c.is_full.ensures.1 (group, many))) c.in-Err.refusal c.requires c.in-Err.ensures

pub find-requires : goal.find-requires
find-requires g c =
    let d = g.D.Device in
    let t = c.bring_group.new.blocks in
    let b = c.in-Ok.ensures in
    subst IsHeap (sym (c.bytes.ensures ∙ ap (λ n. bytes_of t (slot_of n)) c.vm.ensures))
    (holds-heap d.medium c.bring_group.new.vm t c.args.group b.brings.tied b.ok.there).heap

pub returns-in-Err-find : goal.returns-in-Err-find
returns-in-Err-find g c =
    let d = g.D.Device in
    let t = c.bring_group.new.blocks in
    let bytes = c.bytes.ensures ∙ ap (λ n. bytes_of t (slot_of n)) c.vm.ensures in
    let finds = subst (λ xs. Finds (refer c.args.item c.args.len) xs (Err c.in-Err-find.why)) bytes c.in-Err-find.ensures.finds in
    lock-refused d.medium c.args.vm.now c.args.group c.args.item c.args.len c.args.blocks.now c.bring_group.new.vm t
    (λ group many. not-full c.is_full.result c.if-is_full.false (c.is_full.ensures.1 (group, many))) c.in-Ok.ensures c.in-Err-find.why finds

pub returns : goal.returns
returns g c =
    let d = g.D.Device in
    let s = c.args.blocks.now in
    let t = c.bring_group.new.blocks in
    let u = c.lock.new.self in
    let h = c.args.group in
    let b = c.in-Ok.ensures in
    let e = c.lock.ensures in
    let bytes = c.bytes.ensures ∙ ap (λ n. bytes_of t (slot_of n)) c.vm.ensures in
    let found = c.in-Ok-find.ensures in
    let finds = subst (λ xs. Finds (refer c.args.item c.args.len) xs (Ok c.in-Ok-find.place)) bytes found.finds in
    let within = subst (λ xs. (c.in-Ok-find.place.0 + c.in-Ok-find.place.1 ≤ length xs) × (c.args.len ≤ c.in-Ok-find.place.1)) bytes found.within in
    let slot : slot_of c.vm-2.result ≡ vm_slot h = ap slot_of c.vm-2.ensures in
    let few : locks_of t (slot_of c.vm-2.result) ≢ 65535 =
    (λ many. not-full c.is_full.result c.if-is_full.false (c.is_full.ensures.1 (b.known, sym b.ok.locks ∙ sym (ap (locks_of t) slot) ∙ many))) in
    let more = locked-more t u (slot_of c.vm-2.result) c.lock.result e.ok e.bad_handle e.locked (subst (IsThere t) (sym slot) b.ok.there) few in
    lock-found d.medium c.args.vm.now h c.args.item c.args.len s c.bring_group.new.vm t
    (λ group many. not-full c.is_full.result c.if-is_full.false (c.is_full.ensures.1 (group, many))) b u c.in-Ok-find.place
    (more ∙ ap (λ k. with_locks t k (locks_of t k + 1)) slot) finds within
