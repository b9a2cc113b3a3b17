use Rattle.std.proofs.Common.{◌≡◌, ◌≤◌, ◌+◌, ◌∙◌, List, ℕ, length, take, drop, Result, ap, sym, subst, arith, length-take, length-drop}
use Rattle.std.proofs.lemmas.Bool.{false≢true}
use Rattle.geos_terms.specs.Block.{handle_word}
use Rattle.geos_terms.specs.Heap.{IsHeap}
use Rattle.vm_file.specs.declared.directory.Entry.{Entry}
use Rattle.vm_file.specs.declared.error.OpenError.TheVariants.{Disk}
use Rattle.vm_file.specs.Reading.{head_at}
use Rattle.vm_file.proofs.Lengths.{stretch, length-stretch, drop-stretch, take-stretch}
use Rattle.vm_file.proofs.ReadLaws.{head_ok, entry_size}
use Rattle.vm_file.proofs.ReadSteps.{front_head, block_stops, block_short, block_bad, block_good}
use Rattle.vm_file.proofs.Moments.{caused_on, reads_then, rose}
use Rattle.vm_file.proofs.reader.read_entry.Goals as goal

-- reading a stretch depends only on its first bytes
told : (last at : ℕ) (xs front : List ℕ) (r : Result Entry ℕ) → front ≡ take 6 xs → r ≡ head_at last at front → head_at last at xs ≡ r
told last at xs front r is tells = sym (front_head last at xs) ∙ ap (head_at last at) (sym is) ∙ sym tells

-- the bytes after the head
body : (image : List ℕ) (at end n : ℕ) → at + 6 + n ≤ end → take n (drop 6 (stretch image at end)) ≡ take n (drop (at + 6) image)
body image at end n fits = ap (take n) (drop-stretch image at end 6 (omega arith)) ∙ take-stretch image (at + 6) end n fits

-- what was read after the head, from the device as it was then
same_bytes : (image then : List ℕ) (at end n m : ℕ) (block : List ℕ) → at + 6 + n ≤ end → m ≡ n → then ≡ image
    → block ≡ take m (drop (at + 6) then) → block ≡ take n (drop 6 (stretch image at end))
same_bytes image then at end n m block fits len same is = is ∙ ap (λ k. take k (drop (at + 6) then)) len
    ∙ ap (λ x. take n (drop (at + 6) x)) same ∙ sym (body image at end n fits)

pub overflow_sub-end : goal.overflow_sub-end
overflow_sub-end g c =
    let k = head_ok c.args.last c.args.at (take c.in-Ok.n c.fill.new.into) c.in-Ok-head_at.entry (sym c.head_at.ensures ∙ c.in-Ok-head_at.is) in
    omega (arith, k.1, length-take c.in-Ok.n c.fill.new.into, c.in-Ok.ensures.count)

pub returns-in-Err-head_at-clause-exact : goal.returns-in-Err-head_at-clause-exact
returns-in-Err-head_at-clause-exact g c = λ h.
    let s = stretch (g.D.Device.medium.image c.args.device.now) c.args.at c.args.end in
    block_stops c.args.last c.args.at c.in-Err-head_at.fault s
    (told c.args.last c.args.at s (take c.in-Ok.n c.fill.new.into) c.head_at.result (c.in-Ok.ensures.front h) c.head_at.ensures
    ∙ c.in-Err-head_at.is)

pub returns-then-end-from-clause-exact : goal.returns-then-end-from-clause-exact
returns-then-end-from-clause-exact g c = λ h.
    let s = stretch (g.D.Device.medium.image c.args.device.now) c.args.at c.args.end in
    let n = length-stretch (g.D.Device.medium.image c.args.device.now) c.args.at c.args.end c.requires.within in
    block_short c.args.last c.args.at s c.in-Ok-head_at.entry
    (told c.args.last c.args.at s (take c.in-Ok.n c.fill.new.into) c.head_at.result (c.in-Ok.ensures.front h) c.head_at.ensures
    ∙ c.in-Ok-head_at.is)
    (omega (arith, n, length-drop 6 s, c.if-end-from.true, c.from.ensures))

pub slice_bounds-block-end : goal.slice_bounds-block-end
slice_bounds-block-end g c =
    let k = head_ok c.args.last c.args.at (take c.in-Ok.n c.fill.new.into) c.in-Ok-head_at.entry (sym c.head_at.ensures ∙ c.in-Ok-head_at.is) in
    let small = entry_size c.args.last c.in-Ok-head_at.entry k.0 in
    omega (arith, small.1, c.requires.room)

pub slice_bounds-block-end-2 : goal.slice_bounds-block-end-2
slice_bounds-block-end-2 g c =
    let k = head_ok c.args.last c.args.at (take c.in-Ok.n c.fill.new.into) c.in-Ok-head_at.entry (sym c.head_at.ensures ∙ c.in-Ok-head_at.is) in
    let small = entry_size c.args.last c.in-Ok-head_at.entry k.0 in
    omega (arith, small.1, c.requires.room, length-take c.in-Ok-head_at.entry.len c.args.buffer.now)

pub returns-then-is_heap_of-clause-exact : goal.returns-then-is_heap_of-clause-exact
returns-then-is_heap_of-clause-exact g c = λ h.
    let image = g.D.Device.medium.image c.args.device.now in
    let s = stretch image c.args.at c.args.end in
    let e = c.in-Ok-head_at.entry in
    let n = length-stretch image c.args.at c.args.end c.requires.within in
    let heap = c.is_heap_of.ensures.0 c.if-is_heap_of.true in
    let k = head_ok c.args.last c.args.at (take c.in-Ok.n c.fill.new.into) e (sym c.head_at.ensures ∙ c.in-Ok-head_at.is) in
    let small = entry_size c.args.last e k.0 in
    let room = length-take e.len c.args.buffer.now in
    let len : length (take e.len c.args.buffer.now) ≡ e.len = omega (arith, small.1, c.requires.room, room) in
    let fits : c.args.at + 6 + e.len ≤ c.args.end = omega (
      arith,
      k.1,
      length-take c.in-Ok.n c.fill.new.into,
      c.in-Ok.ensures.count,
      c.if-end-from.false,
      c.from.ensures,
    ) in
    let there = same_bytes image (g.D.Device.medium.image c.fill.new.device) c.args.at c.args.end e.len
    (length (take e.len c.args.buffer.now)) c.read_at.new.into fits len c.in-Ok.ensures.reads.same
    (c.in-Ok-read_at.ensures.bytes (c.in-Ok.ensures.reads.stays h)) in
    let H : List ℕ → Type 0 = λ x. IsHeap x in
    block_good c.args.last c.args.at s e (told c.args.last c.args.at s (take c.in-Ok.n c.fill.new.into) c.head_at.result
    (c.in-Ok.ensures.front h) c.head_at.ensures ∙ c.in-Ok-head_at.is)
    (omega (arith, n, length-drop 6 s, fits)) (subst H there heap.0) (ap handle_word (sym there) ∙ heap.1)

pub returns-then-is_heap_of-clause-legal : goal.returns-then-is_heap_of-clause-legal
returns-then-is_heap_of-clause-legal g c =
    let k = head_ok c.args.last c.args.at (take c.in-Ok.n c.fill.new.into) c.in-Ok-head_at.entry (sym c.head_at.ensures ∙ c.in-Ok-head_at.is) in
    (k.0, omega (arith, k.1, length-take c.in-Ok.n c.fill.new.into, c.in-Ok.ensures.count, c.if-end-from.false, c.from.ensures))

pub returns-else-is_heap_of-clause-exact : goal.returns-else-is_heap_of-clause-exact
returns-else-is_heap_of-clause-exact g c = λ h.
    let image = g.D.Device.medium.image c.args.device.now in
    let s = stretch image c.args.at c.args.end in
    let e = c.in-Ok-head_at.entry in
    let k = head_ok c.args.last c.args.at (take c.in-Ok.n c.fill.new.into) e (sym c.head_at.ensures ∙ c.in-Ok-head_at.is) in
    let small = entry_size c.args.last e k.0 in
    let room = length-take e.len c.args.buffer.now in
    let len : length (take e.len c.args.buffer.now) ≡ e.len = omega (arith, small.1, c.requires.room, room) in
    let fits : c.args.at + 6 + e.len ≤ c.args.end = omega (
      arith,
      k.1,
      length-take c.in-Ok.n c.fill.new.into,
      c.in-Ok.ensures.count,
      c.if-end-from.false,
      c.from.ensures,
    ) in
    let there = same_bytes image (g.D.Device.medium.image c.fill.new.device) c.args.at c.args.end e.len
    (length (take e.len c.args.buffer.now)) c.read_at.new.into fits len c.in-Ok.ensures.reads.same
    (c.in-Ok-read_at.ensures.bytes (c.in-Ok.ensures.reads.stays h)) in
    let H : List ℕ → Type 0 = λ x. IsHeap x in
    block_bad c.args.last c.args.at s e (told c.args.last c.args.at s (take c.in-Ok.n c.fill.new.into) c.head_at.result
    (c.in-Ok.ensures.front h) c.head_at.ensures ∙ c.in-Ok-head_at.is)
    (λ heap handle. false≢true (sym c.if-is_heap_of.false ∙ c.is_heap_of.ensures.1 (subst H (sym there) heap, ap handle_word there ∙ handle)))

pub returns-in-Err-read_at-clause-reads : goal.returns-in-Err-read_at-clause-reads
returns-in-Err-read_at-clause-reads g c = reads_then g.D.Device.medium _ _ _ c.in-Ok.ensures.reads c.in-Err-read_at.ensures.reads

pub returns-in-Err-read_at-clause-cause : goal.returns-in-Err-read_at-clause-cause
returns-in-Err-read_at-clause-cause g c = caused_on Disk _ _ _ c.in-Ok.ensures.cause (rose _ _ c.in-Err-read_at.ensures.cause.err)

pub returns-then-is_heap_of-clause-reads : goal.returns-then-is_heap_of-clause-reads
returns-then-is_heap_of-clause-reads g c = reads_then g.D.Device.medium _ _ _ c.in-Ok.ensures.reads c.in-Ok-read_at.ensures.reads

pub returns-else-is_heap_of-clause-reads : goal.returns-else-is_heap_of-clause-reads
returns-else-is_heap_of-clause-reads g c = reads_then g.D.Device.medium _ _ _ c.in-Ok.ensures.reads c.in-Ok-read_at.ensures.reads
