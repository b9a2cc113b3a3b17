use Rattle.geos_verify.specs.Entry.{entry_slots}
use Rattle.geos_machine.proofs.LentBlocks.{lends-lent}
use Rattle.granted_runs.proofs.Within.{ran-within}
use Rattle.granted_runs.proofs.run.watch_granted.Goals as goal

pub returns : goal.returns
returns g c =
    let honest : Type 0 = g.D.Device.medium.honest c.args.kernel.now.device in
    let call = c.args.call.now in
    let image = call.checked.now in
    let legal = c.memory_is_legal.ensures in
    let run = c.trace_watched-outcome.ensures in
    record {
      gave = record {
        ran = λ f tied. (run.ran f tied).ran;
        budget = run.budget;
        sees = run.sees;
        locks = run.locks;
        honest = run.honest;
        steadily = run.steadily;
      };
      within = λ f tied.
          ran-within g.D.Device.medium c.args.kernel.now.device c.trace_watched-outcome.new.kernel.device image c.image-image.ensures.checked
          call.routine call.words.now call.handles.now c.args.kernel.now.core c.trace_watched-outcome.new.kernel.core
          c.trace_watched-outcome.result f honest (legal.legal f tied)
          (lends-lent honest c.args.kernel.now.core f tied (legal.locks f tied) (entry_slots image call.routine) call.handles.now
          c.requires.lent)
          (rw c.copied-words.ensures.value at c.copied-words.ensures.small) c.requires.admitted
          (rw c.taken-taken.ensures.taken at c.taken-taken.ensures.within) ((run.ran f tied).ran);
      none = tt;
    }
