use Rattle.std.proofs.Common.{◌≡◌, ◌∙◌, Some, sym, ap, take, subst, arith}
use Rattle.std.specs.Prelude.{slice_get, All, true}
use Rattle.geos_terms.specs.Names.{vm}
use Rattle.geos_image.specs.Parts.{Parts}
use Rattle.vm_file.proofs.StateLaws.{steadily_then}
use Rattle.geos_kernel.specs.Files.{vm_file_of}
use Rattle.geos_machine.specs.Lent.{has_block}
use Rattle.geos_machine.specs.Runs.{Throughout}
use Rattle.geos_machine.proofs.Honest.{alike-on}
use Rattle.script_commands.specs.Lent.{lent_handles}
use Rattle.geos_cli.specs.Script.{times, IsAllowed, Leads, Locks, NotLent, Unlocks}
use Rattle.script_commands.proofs.CallWords.{entry-of}
use Rattle.geos_cli.proofs.LentRuns.{lent-refused}
use Rattle.geos_cli.proofs.lending.lock_lent.Goals as goal

pub returns-in-Ok : goal.returns-in-Ok
returns-in-Ok g c =
    let medium = g.D.Device.medium in
    let image = c.args.checked.now in
    let call = c.args.call.now in
    let old = c.args.kernel.now in
    let locked = c.lock_all.new.kernel in
    let slots = entry-of image call.routine c.routine.result.now
    (subst (λ (i : Parts). slice_get i.routines call.routine ≡ Some c.routine.result.now) c.image.ensures.image c.routine.ensures) in
    let items = c.lent_handles-lent.ensures ∙ ap (λ s. lent_handles s call.handles) slots in
    let lent = c.as_slice.ensures.value ∙ items in
    let known = c.memory_is_legal.ensures.file in
    let none = (c.memory_is_legal.ensures.unlocked known.0 known.1).0 c.requires.unlocked in
    record {
      handles = items;
      locked = subst (λ hs. Leads (medium.honest old.device) (Throughout medium old.device locked.device) old.core locked.core
          (Locks (IsAllowed (medium.honest old.device)) hs)) lent c.in-Ok.ensures.locked;
      refused = tt;
      there = subst (All (λ h. has_block locked.core h ≡ true)) lent c.in-Ok.ensures.there;
      counts = λ n. omega (arith, c.in-Ok.ensures.counts n, sym (c.memory_is_legal.ensures.locks known.0 known.1 (vm n)) ∙ none n, ap (times n) lent);
      unlocked = tt;
      honest = c.lock_all.ensures.honest;
      sees = c.lock_all.ensures.sees;
      steadily = c.lock_all.ensures.steadily;
    }

pub returns-in-Err : goal.returns-in-Err
returns-in-Err g c =
    let medium = g.D.Device.medium in
    let image = c.args.checked.now in
    let call = c.args.call.now in
    let old = c.args.kernel.now in
    let locked = c.lock_all.new.kernel in
    let new = c.unlock_all.new.kernel in
    let slots = entry-of image call.routine c.routine.result.now
    (subst (λ (i : Parts). slice_get i.routines call.routine ≡ Some c.routine.result.now) c.image.ensures.image c.routine.ensures) in
    let lent = c.as_slice.ensures.value ∙ c.lent_handles-lent.ensures ∙ ap (λ s. lent_handles s call.handles) slots in
    record {
      handles = tt;
      locked = tt;
      refused = subst (λ hs. Leads (medium.honest old.device) (Throughout medium old.device new.device) old.core new.core
          (NotLent (IsAllowed (medium.honest old.device)) hs c.in-Err.refusal)) lent
          (lent-refused medium old locked new c.lock_all.ensures.honest c.as_slice.result.now c.in-Err.locked
          c.in-Err.ensures.within c.in-Err.refusal c.in-Err.ensures.refused
          (subst (λ hs. Leads (medium.honest locked.device) (Throughout medium locked.device new.device) locked.core
          new.core (Unlocks (IsAllowed (medium.honest locked.device)) (take c.in-Err.locked hs)))
          (c.as_slice-in-Err.ensures.value ∙ sym c.as_slice.ensures.value) c.unlock_all.ensures.leads));
      there = tt;
      counts = tt;
      honest = alike-on _ _ _ c.unlock_all.ensures.honest c.lock_all.ensures.honest;
      unlocked = λ h handle.
          omega (
            arith,
            c.unlock_all.ensures.counts h,
            c.in-Err.ensures.fewer h,
            c.requires.unlocked h handle,
            ap (λ hs. times h (take c.in-Err.locked hs)) (c.as_slice-in-Err.ensures.value ∙ sym c.as_slice.ensures.value),
          );
      sees = (c.lock_all.ensures.sees.0, c.unlock_all.ensures.sees.1);
      steadily = steadily_then medium (vm_file_of old) (vm_file_of locked) (vm_file_of new) c.lock_all.ensures.steadily
          c.unlock_all.ensures.steadily;
    }
