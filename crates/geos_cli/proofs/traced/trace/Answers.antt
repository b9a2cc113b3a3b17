use Rattle.std.proofs.Common.{◌≡◌, true}
use Rattle.std.proofs.lemmas.Bool.{and_parts}
use Rattle.std.proofs.lemmas.List.Elements.{recursion_from_All}
use Rattle.geos_terms.specs.Names.{vm}
use Rattle.geos_verify.specs.Lists.{all2}
use Rattle.geos_machine.specs.Lent.{has_block}
use Rattle.geos_verify.specs.Entry.{admits, entry_slots}
use Rattle.script_commands.specs.Lines.{is_placed}
use Rattle.script_commands.specs.Lent.{lent_handles}
use Rattle.geos_cli.proofs.LentLocks.{lends-locked}
use Rattle.geos_cli.proofs.traced.trace.Goals as goal

pub trace_watched-requires-clause-lent : goal.trace_watched-requires-clause-lent
trace_watched-requires-clause-lent g c =
    let image = c.args.checked.now in
    let call = c.args.call.now in
    let slots = entry_slots image call.routine in
    let core = c.args.kernel.now.core in
    lends-locked core slots call.handles (and_parts (admits image call.routine call.words) (all2 is_placed slots call.handles) c.requires.admitted).1
    (recursion_from_All (λ h. has_block core h ≡ true) (lent_handles slots call.handles) c.requires.there) c.requires.counts

pub trace_watched-requires-clause-admitted : goal.trace_watched-requires-clause-admitted
trace_watched-requires-clause-admitted g c =
    let image = c.args.checked.now in
    let call = c.args.call.now in
    (and_parts (admits image call.routine call.words) (all2 is_placed (entry_slots image call.routine) call.handles) c.requires.admitted).0

pub returns : goal.returns
returns g c =
    let known = c.memory_is_legal.ensures.file in
    let traced = c.trace_watched.ensures.ran known.0 known.1 in
    record {
      ran = c.trace_watched.ensures.ran;
      made = record { first = traced.first; end = traced.end; most = traced.most };
      counts = λ n. c.trace_watched.ensures.locks (vm n);
      honest = c.trace_watched.ensures.honest;
      sees = c.trace_watched.ensures.sees;
      steadily = c.trace_watched.ensures.steadily;
    }
