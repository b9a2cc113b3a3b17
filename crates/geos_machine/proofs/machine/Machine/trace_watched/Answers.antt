use Rattle.std.proofs.Common.{sym, ap, ◌≡◌, false, true, ◌<◌, ◌≤◌, ◌-◌, ◌∙◌, length, refl, arith}
use Rattle.geos_calls.specs.VmFile.{VmFile}
use Rattle.vm_file.proofs.StateLaws.{steadily_then}
use Rattle.geos_kernel.specs.Files.{vm_file_of}
use Rattle.geos_kernel.specs.View.{memory_of}
use Rattle.geos_kernel.proofs.Seen.{file-on}
use Rattle.geos_machine.specs.declared.trace.Left.{Left}
use Rattle.geos_machine.specs.declared.trace.Left.TheVariants.{On, ToTarget, Calling, Returning}
use Rattle.geos_machine.specs.declared.trace.Noted.{Noted}
use Rattle.geos_machine.specs.Runs.{begin, Throughout}
use Rattle.geos_verify.specs.Entry.{entry_slots}
use Rattle.geos_machine.specs.Traces.{left_by, with_note}
use Rattle.geos_machine.proofs.Honest.{alike-on, alike-ready, alike-works, stays-honest}
use Rattle.geos_machine.proofs.LentBlocks.{lends-lent}
use Rattle.geos_machine.proofs.Stops.{stops-first, stops-on}
use Rattle.geos_machine.proofs.Going.{Origin, origin_of, none-left, so_far-place, so_far-ready, so_far-owes, so_far-routine, so_far-along, so_far-past, so_far-further, so_far-to, so_far-back, so_far-calls, so_far-room, so_far-callee, so_far-returns, so_far-done}
use Rattle.geos_machine.proofs.Starting.{so_far-start}
use Rattle.geos_machine.proofs.Traces.{count-room, note_of, traced-start, traced-on, traced-to, traced-calls, traced-returns, traced-done}
use Rattle.geos_machine.proofs.machine.Machine.trace_watched.Given as given
use Rattle.geos_machine.proofs.machine.Machine.trace_watched.Goals as goal
use Rattle.geos_machine.proofs.machine.Machine.trace_watched.Goals.{At-run}

-- what the run began with, beside a VM file that the model may know
abbrev origin : (g : given.Over) → At-run g → VmFile → Origin
origin g c f = origin_of (g.D.Device.medium.honest c.args.kernel.now.device) c.args.call.now.checked.now c.image-image.ensures.checked
    c.args.call.now.routine c.args.call.now.words.now c.args.call.now.handles.now c.args.kernel.now.core f

-- beside the one that is known
abbrev known : (g : given.Over) → At-run g → Origin
known g c = origin g c c.memory_is_legal.ensures.file.0

-- the pc is that of an instruction
place-of : (g : given.Over) (c : At-run g) → c.run.pc < length c.args.call.now.checked.now.points
place-of g c = so_far-place (known g c) (c.run.invariant.1 _ c.memory_is_legal.ensures.file.1).so_far

-- there are no more instructions than pcs
place-within : (g : given.Over) (c : At-run g) → c.run.pc < 4096
place-within g c =
    let place = place-of g c in
    let short : length c.args.call.now.checked.now.points ≤ 4096 = rw c.image-image.ensures.image at c.start-pc.ensures.short in
    omega (arith, place, short)

-- a step is owed
some-owed : (g : given.Over) (c : At-run g) → 1 ≤ c.run.left
some-owed g c = so_far-owes (known g c) (c.run.invariant.1 _ c.memory_is_legal.ensures.file.1).so_far

pub run-init : goal.run-init
run-init g c = (
  stays-honest (g.D.Device.medium.honest c.args.kernel.now.device),
  λ f tied.
      let legal = c.memory_is_legal.ensures in
      let run = origin_of (g.D.Device.medium.honest c.args.kernel.now.device) c.args.call.now.checked.now c.image-image.ensures.checked
      c.args.call.now.routine c.args.call.now.words.now c.args.call.now.handles.now c.args.kernel.now.core f in
      let there = rw c.image-image.ensures.image at c.routine.ensures in
      let F = so_far-start run (Throughout g.D.Device.medium c.args.kernel.now.device c.args.kernel.now.device)
      (stops-first g.D.Device.medium c.args.kernel.now f tied
      (g.met.D.Device.at_once c.args.kernel.now.device) c.memory_is_legal.ensures.kept) c.begin.new.self
      c.new-returns.result.items c.start-pc.result c.routine.result.now tied (legal.legal f tied)
      (lends-lent (g.D.Device.medium.honest c.args.kernel.now.device) c.args.kernel.now.core f tied (legal.locks f tied)
      (entry_slots c.args.call.now.checked.now c.args.call.now.routine) c.args.call.now.handles.now c.requires.lent) c.begin.ensures.small
      (c.begin.ensures.slots, c.begin.ensures.four)
      there c.requires.admitted c.begin.ensures.words c.begin.ensures.counters c.begin.ensures.output c.new-returns.ensures
      (rw c.image-image.ensures.image at c.start-pc.ensures.start) in
      traced-start run c.routine.result.now c.args.trace.now F there refl c.requires.empty,
  λ steady room. (room, refl),
)

pub overflow_sub-left : goal.overflow_sub-left
overflow_sub-left g c = some-owed g (goal.at.overflow_sub-left g c).At-run

pub instr-instr-requires : goal.instr-instr-requires
instr-instr-requires g c = let place = place-of g (goal.at.instr-instr-requires g c).At-run in rw c.image-image.ensures.image place

pub step-goes-requires-clause-ready : goal.step-goes-requires-clause-ready
step-goes-requires-clause-ready g c =
    let run = known g (goal.at.step-goes-requires-clause-ready g c).At-run in
    let T = c.run.invariant.1 _ c.memory_is_legal.ensures.file.1 in
    let read = rw c.image-image.ensures.image at c.instr-instr.ensures.there in
    alike-ready run.honest (g.D.Device.medium.honest c.run.kernel.device) (c.run.invariant.0.1, c.run.invariant.0.0)
    c.instr-instr.result.now c.run.kernel.core c.run.self (so_far-ready run T.so_far c.instr-instr.result.now read)

pub note-requires-clause-place : goal.note-requires-clause-place
note-requires-clause-place g c =
    let place = place-within g (goal.at.note-requires-clause-place g c).At-run in
    let pc_is : c.noted.result.pc ≡ c.run.pc = ap (λ (x : Noted). x.pc) c.noted.ensures in
    let within : c.noted.result.pc < 4096 = omega (arith, place, pc_is) in
    within

pub note-requires-clause-counted : goal.note-requires-clause-counted
note-requires-clause-counted g c =
    let at = (goal.at.note-requires-clause-counted g c).At-run in
    let run = known g at in
    let T = c.run.invariant.1 _ c.memory_is_legal.ensures.file.1 in
    let place = place-within g at in
    let owed = some-owed g at in
    let there = rw c.image-image.ensures.image at c.routine.ensures in
    let budget = so_far-routine run c.routine.result.now T.so_far there in
    let sums = T.so_far.counted in
    let fits : c.routine.result.now.budget ≤ 4294967295 = omega arith in
    let pc_is : c.noted.result.pc ≡ c.run.pc = ap (λ (x : Noted). x.pc) c.noted.ensures in
    rw pc_is (count-room c.args.call.now.checked.now c.run.trace T.so_far.choices
    (begin c.args.call.now.checked.now c.args.call.now.routine c.args.call.now.words.now c.args.call.now.handles.now
    (memory_of c.args.kernel.now.core c.memory_is_legal.ensures.file.0)) c.run.pc c.run.left T.so_far.routine.budget
    T.tells place sums owed (omega (arith, budget, fits)))

pub overflow_add-pc : goal.overflow_add-pc
overflow_add-pc g c = let place = place-within g (goal.at.overflow_add-pc g c).At-run in omega (arith, place)

pub overflow_add-pc-in-Past : goal.overflow_add-pc-in-Past
overflow_add-pc-in-Past g c = let place = place-within g (goal.at.overflow_add-pc-in-Past g c).At-run in omega (arith, place)

pub overflow_add-pc-in-Further : goal.overflow_add-pc-in-Further
overflow_add-pc-in-Further g c = let place = place-within g (goal.at.overflow_add-pc-in-Further g c).At-run in omega (arith, place)

pub overflow_add-pc-in-Calls : goal.overflow_add-pc-in-Calls
overflow_add-pc-in-Calls g c = let place = place-within g (goal.at.overflow_add-pc-in-Calls g c).At-run in omega (arith, place)

pub push-requires : goal.push-requires
push-requires g c =
    let run = origin_of (g.D.Device.medium.honest c.args.kernel.now.device) c.args.call.now.checked.now c.image-image.ensures.checked
    c.args.call.now.routine c.args.call.now.words.now c.args.call.now.handles.now c.args.kernel.now.core c.memory_is_legal.ensures.file.0 in
    let works = alike-works (g.D.Device.medium.honest c.run.kernel.device) run.honest c.run.invariant.0
    c.instr-instr.result.now c.run.kernel.core c.step-goes.new.kernel.core c.run.self c.step-goes.new.m c.step-goes.result
    c.step-goes.ensures.works in
    let onward = stops-on g.D.Device.medium c.args.kernel.now c.run.kernel c.step-goes.new.kernel c.run.invariant.0
    c.step-goes.ensures.between.stops in
    let T = c.run.invariant.1 c.memory_is_legal.ensures.file.0 c.memory_is_legal.ensures.file.1 in
    let i = c.instr-instr.result.now in
    let l = c.step-goes.new.kernel.core in
    let n = c.step-goes.new.m in
    let read = rw c.image-image.ensures.image at c.instr-instr.ensures.there in
    let room = so_far-room run T.so_far i read l n c.step-goes.result works onward c.in-Calls.callee c.in-Calls.is in
    (omega arith, room)

pub start-pc-requires-in-Calls : goal.start-pc-requires-in-Calls
start-pc-requires-in-Calls g c =
    let run = origin_of (g.D.Device.medium.honest c.args.kernel.now.device) c.args.call.now.checked.now c.image-image.ensures.checked
    c.args.call.now.routine c.args.call.now.words.now c.args.call.now.handles.now c.args.kernel.now.core c.memory_is_legal.ensures.file.0 in
    let works = alike-works (g.D.Device.medium.honest c.run.kernel.device) run.honest c.run.invariant.0
    c.instr-instr.result.now c.run.kernel.core c.step-goes.new.kernel.core c.run.self c.step-goes.new.m c.step-goes.result
    c.step-goes.ensures.works in
    let onward = stops-on g.D.Device.medium c.args.kernel.now c.run.kernel c.step-goes.new.kernel c.run.invariant.0
    c.step-goes.ensures.between.stops in
    let T = c.run.invariant.1 c.memory_is_legal.ensures.file.0 c.memory_is_legal.ensures.file.1 in
    let i = c.instr-instr.result.now in
    let l = c.step-goes.new.kernel.core in
    let n = c.step-goes.new.m in
    let read = rw c.image-image.ensures.image at c.instr-instr.ensures.there in
    let there = so_far-callee run T.so_far i read l n c.step-goes.result works onward c.in-Calls.callee c.in-Calls.is in
    rw c.image-image.ensures.image there

pub run-smaller-in-Along : goal.run-smaller-in-Along
run-smaller-in-Along g c = let owed = some-owed g (goal.at.run-smaller-in-Along g c).At-run in omega (arith, owed)

pub run-smaller-in-Past : goal.run-smaller-in-Past
run-smaller-in-Past g c = let owed = some-owed g (goal.at.run-smaller-in-Past g c).At-run in omega (arith, owed)

pub run-smaller-in-Further : goal.run-smaller-in-Further
run-smaller-in-Further g c = let owed = some-owed g (goal.at.run-smaller-in-Further g c).At-run in omega (arith, owed)

pub run-smaller-in-To : goal.run-smaller-in-To
run-smaller-in-To g c = let owed = some-owed g (goal.at.run-smaller-in-To g c).At-run in omega (arith, owed)

pub run-smaller-in-Back : goal.run-smaller-in-Back
run-smaller-in-Back g c = let owed = some-owed g (goal.at.run-smaller-in-Back g c).At-run in omega (arith, owed)

pub run-smaller-in-Calls : goal.run-smaller-in-Calls
run-smaller-in-Calls g c = let owed = some-owed g (goal.at.run-smaller-in-Calls g c).At-run in omega (arith, owed)

pub run-smaller : goal.run-smaller
run-smaller g c = let owed = some-owed g (goal.at.run-smaller g c).At-run in omega (arith, owed)

pub run-preserved-in-Along : goal.run-preserved-in-Along
run-preserved-in-Along g c = (
  alike-on (g.D.Device.medium.honest c.step-goes.new.kernel.device) (g.D.Device.medium.honest c.run.kernel.device)
      (g.D.Device.medium.honest c.args.kernel.now.device) c.step-goes.ensures.between.honest c.run.invariant.0,
  λ f tied.
      let place = place-within g (goal.at.run-preserved-in-Along g c).At-run in
      let run = origin_of (g.D.Device.medium.honest c.args.kernel.now.device) c.args.call.now.checked.now c.image-image.ensures.checked
      c.args.call.now.routine c.args.call.now.words.now c.args.call.now.handles.now c.args.kernel.now.core f in
      let works = alike-works (g.D.Device.medium.honest c.run.kernel.device) run.honest c.run.invariant.0
      c.instr-instr.result.now c.run.kernel.core c.step-goes.new.kernel.core c.run.self c.step-goes.new.m
      c.step-goes.result c.step-goes.ensures.works in
      let onward = stops-on g.D.Device.medium c.args.kernel.now c.run.kernel c.step-goes.new.kernel c.run.invariant.0
      c.step-goes.ensures.between.stops in
      let T = c.run.invariant.1 f tied in
      let i = c.instr-instr.result.now in
      let l = c.step-goes.new.kernel.core in
      let n = c.step-goes.new.m in
      let read = rw c.image-image.ensures.image at c.instr-instr.ensures.there in
      let noted : c.note.new.self ≡ with_note (note_of c.run.pc On n) c.run.trace = c.note.ensures
      ∙ ap (λ (x : Noted). with_note x c.run.trace) (c.noted.ensures ∙ ap (λ (w : Left). note_of c.run.pc w n)
      (c.left_by.ensures ∙ ap left_by c.in-Along.is)) in
      rw noted (traced-on run c.args.trace.now c.run.trace T i read place l n
      (so_far-along run T.so_far i read l n c.step-goes.result works onward c.in-Along.is)),
  steadily_then g.D.Device.medium (vm_file_of c.args.kernel.now) (vm_file_of c.run.kernel) (vm_file_of c.step-goes.new.kernel)
      c.run.invariant.2 c.step-goes.ensures.between.steadily,
)

pub run-preserved-in-Past : goal.run-preserved-in-Past
run-preserved-in-Past g c = (
  alike-on (g.D.Device.medium.honest c.step-goes.new.kernel.device) (g.D.Device.medium.honest c.run.kernel.device)
      (g.D.Device.medium.honest c.args.kernel.now.device) c.step-goes.ensures.between.honest c.run.invariant.0,
  λ f tied.
      let place = place-within g (goal.at.run-preserved-in-Past g c).At-run in
      let run = origin_of (g.D.Device.medium.honest c.args.kernel.now.device) c.args.call.now.checked.now c.image-image.ensures.checked
      c.args.call.now.routine c.args.call.now.words.now c.args.call.now.handles.now c.args.kernel.now.core f in
      let works = alike-works (g.D.Device.medium.honest c.run.kernel.device) run.honest c.run.invariant.0
      c.instr-instr.result.now c.run.kernel.core c.step-goes.new.kernel.core c.run.self c.step-goes.new.m
      c.step-goes.result c.step-goes.ensures.works in
      let onward = stops-on g.D.Device.medium c.args.kernel.now c.run.kernel c.step-goes.new.kernel c.run.invariant.0
      c.step-goes.ensures.between.stops in
      let T = c.run.invariant.1 f tied in
      let i = c.instr-instr.result.now in
      let l = c.step-goes.new.kernel.core in
      let n = c.step-goes.new.m in
      let read = rw c.image-image.ensures.image at c.instr-instr.ensures.there in
      let noted : c.note.new.self ≡ with_note (note_of c.run.pc On n) c.run.trace = c.note.ensures
      ∙ ap (λ (x : Noted). with_note x c.run.trace) (c.noted.ensures ∙ ap (λ (w : Left). note_of c.run.pc w n)
      (c.left_by.ensures ∙ ap left_by c.in-Past.is)) in
      rw noted (traced-on run c.args.trace.now c.run.trace T i read place l n
      (so_far-past run T.so_far i read l n c.step-goes.result works onward c.in-Past.is)),
  steadily_then g.D.Device.medium (vm_file_of c.args.kernel.now) (vm_file_of c.run.kernel) (vm_file_of c.step-goes.new.kernel)
      c.run.invariant.2 c.step-goes.ensures.between.steadily,
)

pub run-preserved-in-Further : goal.run-preserved-in-Further
run-preserved-in-Further g c = (
  alike-on (g.D.Device.medium.honest c.step-goes.new.kernel.device) (g.D.Device.medium.honest c.run.kernel.device)
      (g.D.Device.medium.honest c.args.kernel.now.device) c.step-goes.ensures.between.honest c.run.invariant.0,
  λ f tied.
      let place = place-within g (goal.at.run-preserved-in-Further g c).At-run in
      let run = origin_of (g.D.Device.medium.honest c.args.kernel.now.device) c.args.call.now.checked.now c.image-image.ensures.checked
      c.args.call.now.routine c.args.call.now.words.now c.args.call.now.handles.now c.args.kernel.now.core f in
      let works = alike-works (g.D.Device.medium.honest c.run.kernel.device) run.honest c.run.invariant.0
      c.instr-instr.result.now c.run.kernel.core c.step-goes.new.kernel.core c.run.self c.step-goes.new.m
      c.step-goes.result c.step-goes.ensures.works in
      let onward = stops-on g.D.Device.medium c.args.kernel.now c.run.kernel c.step-goes.new.kernel c.run.invariant.0
      c.step-goes.ensures.between.stops in
      let T = c.run.invariant.1 f tied in
      let i = c.instr-instr.result.now in
      let l = c.step-goes.new.kernel.core in
      let n = c.step-goes.new.m in
      let read = rw c.image-image.ensures.image at c.instr-instr.ensures.there in
      let noted : c.note.new.self ≡ with_note (note_of c.run.pc On n) c.run.trace = c.note.ensures
      ∙ ap (λ (x : Noted). with_note x c.run.trace) (c.noted.ensures ∙ ap (λ (w : Left). note_of c.run.pc w n)
      (c.left_by.ensures ∙ ap left_by c.in-Further.is)) in
      rw noted (traced-on run c.args.trace.now c.run.trace T i read place l n
      (so_far-further run T.so_far i read l n c.step-goes.result works onward c.in-Further.is)),
  steadily_then g.D.Device.medium (vm_file_of c.args.kernel.now) (vm_file_of c.run.kernel) (vm_file_of c.step-goes.new.kernel)
      c.run.invariant.2 c.step-goes.ensures.between.steadily,
)

pub run-preserved-in-To : goal.run-preserved-in-To
run-preserved-in-To g c = (
  alike-on (g.D.Device.medium.honest c.step-goes.new.kernel.device) (g.D.Device.medium.honest c.run.kernel.device)
      (g.D.Device.medium.honest c.args.kernel.now.device) c.step-goes.ensures.between.honest c.run.invariant.0,
  λ f tied.
      let place = place-within g (goal.at.run-preserved-in-To g c).At-run in
      let run = origin_of (g.D.Device.medium.honest c.args.kernel.now.device) c.args.call.now.checked.now c.image-image.ensures.checked
      c.args.call.now.routine c.args.call.now.words.now c.args.call.now.handles.now c.args.kernel.now.core f in
      let works = alike-works (g.D.Device.medium.honest c.run.kernel.device) run.honest c.run.invariant.0
      c.instr-instr.result.now c.run.kernel.core c.step-goes.new.kernel.core c.run.self c.step-goes.new.m
      c.step-goes.result c.step-goes.ensures.works in
      let onward = stops-on g.D.Device.medium c.args.kernel.now c.run.kernel c.step-goes.new.kernel c.run.invariant.0
      c.step-goes.ensures.between.stops in
      let T = c.run.invariant.1 f tied in
      let i = c.instr-instr.result.now in
      let l = c.step-goes.new.kernel.core in
      let n = c.step-goes.new.m in
      let read = rw c.image-image.ensures.image at c.instr-instr.ensures.there in
      let noted : c.note.new.self ≡ with_note (note_of c.run.pc ToTarget n) c.run.trace = c.note.ensures
      ∙ ap (λ (x : Noted). with_note x c.run.trace) (c.noted.ensures ∙ ap (λ (w : Left). note_of c.run.pc w n)
      (c.left_by.ensures ∙ ap left_by c.in-To.is)) in
      rw noted (traced-to run c.args.trace.now c.run.trace T i read place l n
      (so_far-to run T.so_far i read l n c.step-goes.result works onward c.in-To.is)),
  steadily_then g.D.Device.medium (vm_file_of c.args.kernel.now) (vm_file_of c.run.kernel) (vm_file_of c.step-goes.new.kernel)
      c.run.invariant.2 c.step-goes.ensures.between.steadily,
)

pub run-preserved-in-Back : goal.run-preserved-in-Back
run-preserved-in-Back g c = (
  alike-on (g.D.Device.medium.honest c.step-goes.new.kernel.device) (g.D.Device.medium.honest c.run.kernel.device)
      (g.D.Device.medium.honest c.args.kernel.now.device) c.step-goes.ensures.between.honest c.run.invariant.0,
  λ f tied.
      let place = place-within g (goal.at.run-preserved-in-Back g c).At-run in
      let run = origin_of (g.D.Device.medium.honest c.args.kernel.now.device) c.args.call.now.checked.now c.image-image.ensures.checked
      c.args.call.now.routine c.args.call.now.words.now c.args.call.now.handles.now c.args.kernel.now.core f in
      let works = alike-works (g.D.Device.medium.honest c.run.kernel.device) run.honest c.run.invariant.0
      c.instr-instr.result.now c.run.kernel.core c.step-goes.new.kernel.core c.run.self c.step-goes.new.m
      c.step-goes.result c.step-goes.ensures.works in
      let onward = stops-on g.D.Device.medium c.args.kernel.now c.run.kernel c.step-goes.new.kernel c.run.invariant.0
      c.step-goes.ensures.between.stops in
      let T = c.run.invariant.1 f tied in
      let i = c.instr-instr.result.now in
      let l = c.step-goes.new.kernel.core in
      let n = c.step-goes.new.m in
      let read = rw c.image-image.ensures.image at c.instr-instr.ensures.there in
      let noted : c.note.new.self ≡ with_note (note_of c.run.pc ToTarget n) c.run.trace = c.note.ensures
      ∙ ap (λ (x : Noted). with_note x c.run.trace) (c.noted.ensures ∙ ap (λ (w : Left). note_of c.run.pc w n)
      (c.left_by.ensures ∙ ap left_by c.in-Back.is)) in
      rw noted (traced-to run c.args.trace.now c.run.trace T i read place l n
      (so_far-back run T.so_far i read l n c.step-goes.result works onward c.in-Back.is)),
  steadily_then g.D.Device.medium (vm_file_of c.args.kernel.now) (vm_file_of c.run.kernel) (vm_file_of c.step-goes.new.kernel)
      c.run.invariant.2 c.step-goes.ensures.between.steadily,
)

pub run-preserved-in-Calls : goal.run-preserved-in-Calls
run-preserved-in-Calls g c = (
  alike-on (g.D.Device.medium.honest c.step-goes.new.kernel.device) (g.D.Device.medium.honest c.run.kernel.device)
      (g.D.Device.medium.honest c.args.kernel.now.device) c.step-goes.ensures.between.honest c.run.invariant.0,
  λ f tied.
      let place = place-within g (goal.at.run-preserved-in-Calls g c).At-run in
      let run = origin_of (g.D.Device.medium.honest c.args.kernel.now.device) c.args.call.now.checked.now c.image-image.ensures.checked
      c.args.call.now.routine c.args.call.now.words.now c.args.call.now.handles.now c.args.kernel.now.core f in
      let works = alike-works (g.D.Device.medium.honest c.run.kernel.device) run.honest c.run.invariant.0
      c.instr-instr.result.now c.run.kernel.core c.step-goes.new.kernel.core c.run.self c.step-goes.new.m
      c.step-goes.result c.step-goes.ensures.works in
      let onward = stops-on g.D.Device.medium c.args.kernel.now c.run.kernel c.step-goes.new.kernel c.run.invariant.0
      c.step-goes.ensures.between.stops in
      let T = c.run.invariant.1 f tied in
      let i = c.instr-instr.result.now in
      let l = c.step-goes.new.kernel.core in
      let n = c.step-goes.new.m in
      let read = rw c.image-image.ensures.image at c.instr-instr.ensures.there in
      let start = rw c.image-image.ensures.image at c.start-pc-in-Calls.ensures.start in
      let noted : c.note.new.self ≡ with_note (note_of c.run.pc Calling n) c.run.trace = c.note.ensures
      ∙ ap (λ (x : Noted). with_note x c.run.trace) (c.noted.ensures ∙ ap (λ (w : Left). note_of c.run.pc w n)
      (c.left_by.ensures ∙ ap left_by c.in-Calls.is)) in
      rw (noted, c.push.ensures.items) (traced-calls run c.args.trace.now c.run.trace T i read place l n c.start-pc-in-Calls.result
      (so_far-calls run T.so_far i read l n c.step-goes.result works onward c.in-Calls.callee c.start-pc-in-Calls.result c.in-Calls.is start)),
  steadily_then g.D.Device.medium (vm_file_of c.args.kernel.now) (vm_file_of c.run.kernel) (vm_file_of c.step-goes.new.kernel)
      c.run.invariant.2 c.step-goes.ensures.between.steadily,
)

pub run-preserved : goal.run-preserved
run-preserved g c = (
  alike-on (g.D.Device.medium.honest c.step-goes.new.kernel.device) (g.D.Device.medium.honest c.run.kernel.device)
      (g.D.Device.medium.honest c.args.kernel.now.device) c.step-goes.ensures.between.honest c.run.invariant.0,
  λ f tied.
      let place = place-within g (goal.at.run-preserved g c).At-run in
      let run = origin_of (g.D.Device.medium.honest c.args.kernel.now.device) c.args.call.now.checked.now c.image-image.ensures.checked
      c.args.call.now.routine c.args.call.now.words.now c.args.call.now.handles.now c.args.kernel.now.core f in
      let works = alike-works (g.D.Device.medium.honest c.run.kernel.device) run.honest c.run.invariant.0
      c.instr-instr.result.now c.run.kernel.core c.step-goes.new.kernel.core c.run.self c.step-goes.new.m
      c.step-goes.result c.step-goes.ensures.works in
      let onward = stops-on g.D.Device.medium c.args.kernel.now c.run.kernel c.step-goes.new.kernel c.run.invariant.0
      c.step-goes.ensures.between.stops in
      let T = c.run.invariant.1 f tied in
      let i = c.instr-instr.result.now in
      let l = c.step-goes.new.kernel.core in
      let n = c.step-goes.new.m in
      let read = rw c.image-image.ensures.image at c.instr-instr.ensures.there in
      let noted : c.note.new.self ≡ with_note (note_of c.run.pc Returning n) c.run.trace = c.note.ensures
      ∙ ap (λ (x : Noted). with_note x c.run.trace) (c.noted.ensures ∙ ap (λ (w : Left). note_of c.run.pc w n)
      (c.left_by.ensures ∙ ap left_by c.in-Returns.is)) in
      rw noted (traced-returns run c.args.trace.now c.run.trace T i read place l n c.pop.new.self.items c.in-Some.back
      c.in-Some.ensures.items (so_far-returns run T.so_far i read l n c.step-goes.result works onward c.pop.new.self.items
      c.in-Some.back c.in-Returns.is c.in-Some.ensures.items)),
  steadily_then g.D.Device.medium (vm_file_of c.args.kernel.now) (vm_file_of c.run.kernel) (vm_file_of c.step-goes.new.kernel)
      c.run.invariant.2 c.step-goes.ensures.between.steadily,
)

pub overflow_sub-result : goal.overflow_sub-result
overflow_sub-result g c =
    let run = known g (goal.at.overflow_sub-result g c).At-run in
    let T = c.run.invariant.1 _ c.memory_is_legal.ensures.file.1 in
    let there = rw c.image-image.ensures.image at c.routine.ensures in
    let budget = so_far-routine run c.routine.result.now T.so_far there in
    let sums = T.so_far.counted in
    omega (arith, budget, sums)

pub returns-clause-ran : goal.returns-clause-ran
returns-clause-ran g c = λ f tied.
    let place = place-within g (goal.at.returns-clause-ran g c).At-run in
    let run = origin_of (g.D.Device.medium.honest c.args.kernel.now.device) c.args.call.now.checked.now c.image-image.ensures.checked
    c.args.call.now.routine c.args.call.now.words.now c.args.call.now.handles.now c.args.kernel.now.core f in
    let works = alike-works (g.D.Device.medium.honest c.run.kernel.device) run.honest c.run.invariant.0
    c.instr-instr.result.now c.run.kernel.core c.step-goes.new.kernel.core c.run.self c.step-goes.new.m c.step-goes.result
    c.step-goes.ensures.works in
    let onward = stops-on g.D.Device.medium c.args.kernel.now c.run.kernel c.step-goes.new.kernel c.run.invariant.0
    c.step-goes.ensures.between.stops in
    let T = c.run.invariant.1 f tied in
    let i = c.instr-instr.result.now in
    let l = c.step-goes.new.kernel.core in
    let n = c.step-goes.new.m in
    let read = rw c.image-image.ensures.image at c.instr-instr.ensures.there in
    let there = rw c.image-image.ensures.image at c.routine.ensures in
    let budget = so_far-routine run c.routine.result.now T.so_far there in
    let noted : c.note.new.self ≡ with_note (note_of c.run.pc Returning n) c.run.trace = c.note.ensures
    ∙ ap (λ (x : Noted). with_note x c.run.trace) (c.noted.ensures ∙ ap (λ (w : Left). note_of c.run.pc w n)
    (c.left_by.ensures ∙ ap left_by c.in-Returns.is)) in
    rw noted
    (traced-done run c.args.trace.now c.run.trace T i read place l n
    (record { words = c.step-goes.new.m.words; output = c.take.result; steps = c.routine.result.now.budget - (c.run.left - 1) })
    (so_far-done run T.so_far i read l n c.step-goes.result works onward
    (record { words = c.step-goes.new.m.words; output = c.take.result; steps = c.routine.result.now.budget - (c.run.left - 1) })
    c.routine.result.now.budget
    c.in-Returns.is (none-left c.run.returns.items (λ lt. let e : false ≡ true = c.in-None.ensures.variant.1 lt in absurd cc))
    refl (rw c.take.ensures.value refl) refl budget c.requires.admitted
    (lends-lent (g.D.Device.medium.honest c.args.kernel.now.device) c.args.kernel.now.core f tied
    (c.memory_is_legal.ensures.locks f tied) (entry_slots c.args.call.now.checked.now c.args.call.now.routine) c.args.call.now.handles.now c.requires.lent)))

pub returns-clause-steadily : goal.returns-clause-steadily
returns-clause-steadily g c = steadily_then g.D.Device.medium (vm_file_of c.args.kernel.now) (vm_file_of c.run.kernel)
    (vm_file_of c.step-goes.new.kernel) c.run.invariant.2 c.step-goes.ensures.between.steadily

pub returns-clause-locks : goal.returns-clause-locks
returns-clause-locks g c = λ name.
    let f = c.memory_is_legal.ensures.file.0 in
    let tied = c.memory_is_legal.ensures.file.1 in
    let honest : Type 0 = g.D.Device.medium.honest c.args.kernel.now.device in
    let ran = (returns-clause-ran g c f tied).ran in
    let alike = alike-on (g.D.Device.medium.honest c.step-goes.new.kernel.device) (g.D.Device.medium.honest c.run.kernel.device)
    honest c.step-goes.ensures.between.honest c.run.invariant.0 in
    let still = file-on honest (g.D.Device.medium.honest c.step-goes.new.kernel.device) alike.0 c.step-goes.new.kernel.core ran.file ran.tied in
    sym (c.memory_is_legal-2.ensures.locks ran.file still name) ∙ ran.locks name ∙ c.memory_is_legal.ensures.locks f tied name
