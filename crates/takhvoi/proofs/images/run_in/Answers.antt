-- The run's kernel rests after it: what is seen of it stays, and with a host all of it.
use Rattle.std.proofs.Common.{◌≡◌, ◌≤◌, [], Some, slice_get, length, refl, ap, sym, subst, inl, arith, rules}
use Rattle.std.specs.Prelude.{IfSome}
use Rattle.lmem_raw.specs.Bytes.{with_part}
use Rattle.geos_calls.specs.VmFile.{VmFile}
use Rattle.geos_kernel.specs.View.{IsFileOf, KernelOn}
use Rattle.geos_machine.specs.Runs.{RanWith, Throughout}
use Rattle.granted_runs.specs.Keeps.{RanWithin}
use Rattle.host_device.specs.Journal.{GoesOn, bytes_of, journal_of, medium}
use Rattle.host_device.specs.declared.device.HostDevice.{HostDevice}
use Rattle.takhvoi.specs.Journal.{Leads, MayStopAt}
use Rattle.takhvoi.proofs.Notes.{goes-running, leads-from, since-then}
use Rattle.takhvoi.proofs.Ran.{runs-from}
use Rattle.takhvoi.proofs.images.run_in.Goals as goal

pub returns-clause-ends : goal.returns-clause-ends
returns-clause-ends c =
    let system = c.args.system.now in
    let old = c.make_room.new.kernel in
    let same : old ≡ system.kernel = c.make_room.ensures in
    let image = c.in-Some.checked.now in
    let outcome = c.in-Some-run_on.outcome.now in
    let left = c.run_on.new.kernel.device in
    let loaded : slice_get system.images.items c.args.number ≡ Some (Some image) = c.in-Some.ensures.some in
    let ran : (f : VmFile) → IsFileOf (Unit {0}) old.core f
    → RanWith (Unit {0}) (Throughout medium old.device left) image c.args.routine c.args.words.now c.args.handles.now
    old.core c.run_on.new.kernel.core outcome f = c.in-Some-run_on.ensures.gave.ran in
    let put : c.put_words.new.into ≡ with_part c.args.output.now 0 outcome.output.items =
    subst (λ ws. c.put_words.new.into ≡ with_part c.args.output.now 0 ws) c.as_slice.ensures.value c.put_words.ensures in
    let count : c.len.result ≡ length outcome.output.items = search rules in
    let none : journal_of system.kernel.device ≡ [] = c.is_performed.ensures.none (search rules) in
    let begins : journal_of old.device ≡ [] = subst (λ (k : KernelOn HostDevice). journal_of k.device ≡ []) (sym same) none in
    let known = c.memory_is_legal.ensures.file in
    let first = ran known.0 known.1 in
    let goes : GoesOn old.device left = goes-running old.device left _ (first.stops tt).1 in
    let within : IfSome (slice_get image.routines c.args.routine) (λ r. outcome.steps ≤ r.budget) = c.in-Some-run_on.ensures.gave.budget in (
      refl,
      refl,
      (λ came. inl (runs-from system old same (record {
        done = refl;
        image = image;
        loaded = loaded;
        outcome = outcome;
        left = left;
        ran = λ f is. subst (λ s. RanWith (Unit {0}) (Throughout medium old.device left) image c.args.routine
            c.args.words.now c.args.handles.now old.core s outcome f) (sym c.rest.ensures.core) (ran f is);
        granted = λ f is. subst (λ s. RanWithin (Unit {0}) (Throughout medium old.device left) image c.args.routine
            c.args.words.now c.args.handles.now old.core s outcome f) (sym c.rest.ensures.core) (c.in-Some-run_on.ensures.within f is);
        device = λ hosted. ap (λ (k : KernelOn HostDevice). k.device) (c.rest.ensures.hosted hosted);
        begins = begins;
        leads = λ hosted. subst (λ (k : KernelOn HostDevice). Leads (bytes_of old.device) k.device) (sym (c.rest.ensures.hosted hosted))
            (leads-from old.device left begins goes);
        stops = λ hosted f is found stopped. ((subst (λ s. RanWith (Unit {0}) (Throughout medium old.device left) image c.args.routine
            c.args.words.now c.args.handles.now old.core s outcome f) (sym c.rest.ensures.core) (ran f is)).stops tt).1 found
            (since-then old.device left begins found
            (subst (λ (k : KernelOn HostDevice). MayStopAt k.device found) (c.rest.ensures.hosted hosted) stopped));
        alone = c.rest.ensures.alone;
        words_out = refl;
        put_out = put;
        count_is = count;
        steps_are = refl;
        within = within;
      }))),
      λ past. absurd (omega (arith, past)),
    )
