use Rattle.std.proofs.Common.{refl, get_or}
use Rattle.geos_terms.specs.Names.{vm}
use Rattle.geos_calls.specs.declared.call.Make.TheVariants as make
use Rattle.geos_calls.specs.ChunkCalls.{make_row}
use Rattle.geos_calls.specs.Memory.{is_group}
use Rattle.geos_calls.specs.VmCalls as table
use Rattle.geos_calls.specs.ItemCalls as items
use Rattle.geos_machine.proofs.OfFile.{group-plain}
use Rattle.geos_kernel.proofs.Stops.{between-asking, between-same}
use Rattle.geos_machine.proofs.files.told.Goals as goal

pub returns-in-Vfind-clause-answers : goal.returns-in-Vfind-clause-answers
returns-in-Vfind-clause-answers g c = record {
  row = table.vfind (get_or c.args.m.now.words c.args.i.now.b 0)
      (get_or c.args.m.now.words c.args.i.now.c 0);
  plain = λ choice memory. tt;
  does = λ image choice kernel beside
      pc. rw c.in-Vfind.is refl;
  answers = c.vfind.ensures;
}

pub returns-in-Vuid-clause-answers : goal.returns-in-Vuid-clause-answers
returns-in-Vuid-clause-answers g c = record {
  row = table.vuid (get_or c.args.m.now.words c.args.i.now.b 0);
  plain =
      λ choice memory. tt;
  does = λ image choice kernel beside pc. rw c.in-Vuid.is refl;
  answers = c.vuid.ensures;
}

pub returns-in-Vgetmap-clause-answers : goal.returns-in-Vgetmap-clause-answers
returns-in-Vgetmap-clause-answers g c = record {
  row = table.vgetmap;
  plain = λ choice memory. tt;
  does =
      λ image choice kernel beside pc. rw c.in-Vgetmap.is refl;
  answers = c.vgetmap.ensures;
}

pub returns-in-Gnew-clause-answers : goal.returns-in-Gnew-clause-answers
returns-in-Gnew-clause-answers g c = record {
  row = items.gnew;
  plain = λ choice memory. tt;
  does =
      λ image choice kernel beside pc. rw c.in-Gnew.is refl;
  answers = c.gnew.ensures.calls;
}

pub returns-in-Inew-clause-answers : goal.returns-in-Inew-clause-answers
returns-in-Inew-clause-answers g c = record {
  row = items.on_group (get_or c.args.m.now.words c.args.i.now.b 0)
      (make_row (vm (get_or c.args.m.now.words c.args.i.now.b 0)) (make.Lalloc (get_or c.args.m.now.words c.args.i.now.c 0)));
  plain = λ choice memory. group-plain (is_group memory (get_or c.args.m.now.words c.args.i.now.b 0))
      (vm (get_or c.args.m.now.words c.args.i.now.b 0));
  does = λ image choice kernel beside pc. rw c.in-Inew.is refl;
  answers = c.item_make.ensures.calls;
}

pub returns-in-Vfind-clause-between : goal.returns-in-Vfind-clause-between
returns-in-Vfind-clause-between g c = between-same g.D.Device.medium c.args.kernel.now

pub returns-in-Vuid-clause-between : goal.returns-in-Vuid-clause-between
returns-in-Vuid-clause-between g c = between-same g.D.Device.medium c.args.kernel.now

pub returns-in-Vgetmap-clause-between : goal.returns-in-Vgetmap-clause-between
returns-in-Vgetmap-clause-between g c = between-same g.D.Device.medium c.args.kernel.now

pub returns-in-Gnew-clause-between : goal.returns-in-Gnew-clause-between
returns-in-Gnew-clause-between g c = between-asking g.D.Device.medium c.args.kernel.now c.gnew.new.self c.gnew.ensures.device

pub returns-in-Inew-clause-between : goal.returns-in-Inew-clause-between
returns-in-Inew-clause-between g c = c.item_make.ensures.device.between
