use Rattle.std.proofs.Common.{Ok, Err, arith, subst}
use Rattle.geos_terms.specs.declared.refusal.Refusal.TheVariants.{NoHandle, NoRoom}
use Rattle.geos_calls.specs.Calls as table
use Rattle.vm_blocks.specs.Room as room
use Rattle.geos_kernel.specs.Kernel.{Calls, MakesRoomFor}
use Rattle.geos_kernel.specs.View.{core_of}
use Rattle.geos_kernel.proofs.News.{mnew-full-calls, mnew-high-calls, mnew-tight-calls, mnew-calls, kernel-crowded, kernel-made}
use Rattle.geos_kernel.proofs.kernel.Kernel.mnew.Goals.{in-Ok, in-Err}
use Rattle.geos_kernel.proofs.kernel.Kernel.mnew.Goals as goal

pub returns-in_default-clause-calls : goal.returns-in_default-clause-calls
returns-in_default-clause-calls g c =
    subst (λ k. Calls (g.D.Device.medium.honest k.device) table.mnew (Err NoHandle) k.core k.core) c.self.view_is
    (mnew-full-calls g.D.Device.medium c.self.inside.vm c.self.inside.blocks c.self.invariant c.in_default.ensures.none)

pub returns-then-h-handles-clause-calls : goal.returns-then-h-handles-clause-calls
returns-then-h-handles-clause-calls g c =
    subst (λ k. Calls (g.D.Device.medium.honest k.device) table.mnew (Err NoHandle) k.core k.core) c.self.view_is
    (mnew-high-calls g.D.Device.medium c.self.inside.vm c.self.inside.blocks c.self.invariant c.in-Some.h
    c.in-Some.ensures.found (omega (arith, c.if-h-handles.true, c.handles.ensures)))

pub invariant_of-self : goal.invariant_of-self
invariant_of-self g c = elim c.match-make_heap.branch [
  | in-Ok w ↦ (
      let makes = subst (λ name. MakesRoomFor c.self.inside.vm c.self.inside.blocks c.make_heap.new.blocks name) c.mem.ensures w.in-Ok.ensures.ok in
      kernel-made g.D.Device.medium c.self.inside.vm c.self.inside.blocks c.self.invariant c.make_heap.new.blocks
      c.in-Some.h c.in-Some.ensures.found (omega (arith, c.if-h-handles.false, c.handles.ensures)) makes
      )
  | in-Err w ↦ (
      let lacks = subst (λ name. room.LacksRoom c.self.inside.vm c.self.inside.blocks c.make_heap.new.blocks name 64)
      c.mem.ensures w.in-Err.ensures.err in
      kernel-crowded g.D.Device.medium c.self.inside.vm c.self.inside.blocks c.self.invariant c.make_heap.new.blocks
      c.in-Some.h c.in-Some.ensures.found (omega (arith, c.if-h-handles.false, c.handles.ensures)) lacks
      )
]

pub returns-clause-calls : goal.returns-clause-calls
returns-clause-calls g c = elim c.match-make_heap.branch [
  | in-Ok w ↦ (
      let v = c.self.inside.vm in
      let new = c.make_heap.new.blocks in
      let h = c.in-Some.h in
      let makes = subst (λ name. MakesRoomFor v c.self.inside.blocks new name) c.mem.ensures w.in-Ok.ensures.ok in
      let calls = mnew-calls g.D.Device.medium v c.self.inside.blocks c.self.invariant new h c.in-Some.ensures.found
      (omega (arith, c.if-h-handles.false, c.handles.ensures)) makes in
      rw w.result-is (subst (λ k. Calls (g.D.Device.medium.honest k.device) table.mnew (Ok h) k.core (core_of g.D.Device.medium v new))
      c.self.view_is calls)
      )
  | in-Err w ↦ (
      let v = c.self.inside.vm in
      let new = c.make_heap.new.blocks in
      let lacks = subst (λ name. room.LacksRoom v c.self.inside.blocks new name 64) c.mem.ensures w.in-Err.ensures.err in
      let calls = mnew-tight-calls g.D.Device.medium v c.self.inside.blocks c.self.invariant new c.in-Some.h c.in-Some.ensures.found (omega (arith, c.if-h-handles.false, c.handles.ensures)) lacks in
      rw w.result-is (subst (λ k. Calls (g.D.Device.medium.honest k.device) table.mnew (Err NoRoom) k.core (core_of g.D.Device.medium v new))
      c.self.view_is calls)
      )
]
