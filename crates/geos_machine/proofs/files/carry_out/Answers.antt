use Rattle.std.proofs.Common.{refl, get_or}
use Rattle.geos_calls.specs.VmCalls as table
use Rattle.geos_calls.specs.ItemCalls as items
use Rattle.geos_machine.proofs.OfFile.{ready-unlocked}
use Rattle.geos_kernel.proofs.Stops.{between-asking}
use Rattle.geos_machine.proofs.files.carry_out.Goals as goal

pub vupdate-requires : goal.vupdate-requires
vupdate-requires g c =
    let honest : Type 0 = g.D.Device.medium.honest c.args.kernel.now.device in
    let R = c.requires.ready in
    (c.memory_is_legal.ensures.unlocked R.beside.file R.ties.file).1
    (ready-unlocked honest c.args.i.now c.args.kernel.now.core c.args.m.now R (rw c.in-Vupdate.is refl))

pub vsave-requires : goal.vsave-requires
vsave-requires g c =
    let honest : Type 0 = g.D.Device.medium.honest c.args.kernel.now.device in
    let R = c.requires.ready in
    (c.memory_is_legal.ensures.unlocked R.beside.file R.ties.file).1
    (ready-unlocked honest c.args.i.now c.args.kernel.now.core c.args.m.now R (rw c.in-Vsave.is refl))

pub vrevert-requires : goal.vrevert-requires
vrevert-requires g c =
    let honest : Type 0 = g.D.Device.medium.honest c.args.kernel.now.device in
    let R = c.requires.ready in
    (c.memory_is_legal.ensures.unlocked R.beside.file R.ties.file).1
    (ready-unlocked honest c.args.i.now c.args.kernel.now.core c.args.m.now R (rw c.in-Vrevert.is refl))

pub returns-in-Vfree-clause-answers : goal.returns-in-Vfree-clause-answers
returns-in-Vfree-clause-answers g c = record {
  row = table.vfree (get_or c.args.m.now.words c.args.i.now.a 0);
  plain =
      λ choice memory. tt;
  does = λ image choice kernel beside pc. rw c.in-Vfree.is refl;
  answers = rw c.requires.a at c.vfree.ensures.calls;
}

pub returns-in-Vsetmap-clause-answers : goal.returns-in-Vsetmap-clause-answers
returns-in-Vsetmap-clause-answers g c = record {
  row = table.vsetmap (get_or c.args.m.now.words c.args.i.now.a 0);
  plain =
      λ choice memory. tt;
  does = λ image choice kernel beside pc. rw c.in-Vsetmap.is refl;
  answers = rw c.requires.a at c.vsetmap.ensures.calls;
}

pub returns-in-Gfree-clause-answers : goal.returns-in-Gfree-clause-answers
returns-in-Gfree-clause-answers g c = record {
  row = items.gfree (get_or c.args.m.now.words c.args.i.now.a 0);
  plain =
      λ choice memory. tt;
  does = λ image choice kernel beside pc. rw c.in-Gfree.is refl;
  answers = rw c.requires.a at c.gfree.ensures.calls;
}

pub returns-in-Isetmap-clause-answers : goal.returns-in-Isetmap-clause-answers
returns-in-Isetmap-clause-answers g c = record {
  row = items.isetmap (get_or c.args.m.now.words c.args.i.now.a 0)
      (get_or c.args.m.now.words c.args.i.now.b 0);
  plain = λ choice memory. tt;
  does = λ image choice kernel beside
      pc. rw c.in-Isetmap.is refl;
  answers = rw c.requires.a at c.isetmap.ensures.calls;
}

pub returns-in-Vupdate-clause-answers : goal.returns-in-Vupdate-clause-answers
returns-in-Vupdate-clause-answers g c = record {
  row = table.vupdate;
  plain = λ choice memory. tt;
  does =
      λ image choice kernel beside pc. rw c.in-Vupdate.is refl;
  answers = c.vupdate.ensures.calls;
}

pub returns-in-Vsave-clause-answers : goal.returns-in-Vsave-clause-answers
returns-in-Vsave-clause-answers g c = record {
  row = table.vsave;
  plain = λ choice memory. tt;
  does =
      λ image choice kernel beside pc. rw c.in-Vsave.is refl;
  answers = c.vsave.ensures.calls;
}

pub returns-in-Vrevert-clause-answers : goal.returns-in-Vrevert-clause-answers
returns-in-Vrevert-clause-answers g c = record {
  row = table.vrevert;
  plain = λ choice memory. tt;
  does =
      λ image choice kernel beside pc. rw c.in-Vrevert.is refl;
  answers = c.vrevert.ensures.calls;
}

pub returns-in-Vfree-clause-between : goal.returns-in-Vfree-clause-between
returns-in-Vfree-clause-between g c = between-asking g.D.Device.medium c.args.kernel.now c.vfree.new.self c.vfree.ensures.device

pub returns-in-Vsetmap-clause-between : goal.returns-in-Vsetmap-clause-between
returns-in-Vsetmap-clause-between g c = between-asking g.D.Device.medium c.args.kernel.now c.vsetmap.new.self c.vsetmap.ensures.device

pub returns-in-Gfree-clause-between : goal.returns-in-Gfree-clause-between
returns-in-Gfree-clause-between g c = between-asking g.D.Device.medium c.args.kernel.now c.gfree.new.self c.gfree.ensures.device

pub returns-in-Isetmap-clause-between : goal.returns-in-Isetmap-clause-between
returns-in-Isetmap-clause-between g c = between-asking g.D.Device.medium c.args.kernel.now c.isetmap.new.self c.isetmap.ensures.device

pub returns-in-Vupdate-clause-between : goal.returns-in-Vupdate-clause-between
returns-in-Vupdate-clause-between g c = c.vupdate.ensures.commits.between

pub returns-in-Vsave-clause-between : goal.returns-in-Vsave-clause-between
returns-in-Vsave-clause-between g c = c.vsave.ensures.commits.between

pub returns-in-Vrevert-clause-between : goal.returns-in-Vrevert-clause-between
returns-in-Vrevert-clause-between g c = c.vrevert.ensures.commits.between
