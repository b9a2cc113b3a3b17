use Rattle.geos_image.proofs.Instrs.{fits-read}
use Rattle.geos_image.proofs.Given.{given-read}
use Rattle.geos_image.proofs.image.Image.instr.Goals as goal

pub returns-clause-fields : goal.returns-clause-fields
returns-clause-fields c =
    (fits-read c.args.self.now (record { keyed = c.self.inside.keyed; routines = c.self.inside.routines.items; points = c.self.inside.points.items })
    c.args.pc c.index.result.now c.self.view_is c.self.invariant.0 c.requires c.index.ensures).0

pub returns-clause-target : goal.returns-clause-target
returns-clause-target c =
    (fits-read c.args.self.now (record { keyed = c.self.inside.keyed; routines = c.self.inside.routines.items; points = c.self.inside.points.items })
    c.args.pc c.index.result.now c.self.view_is c.self.invariant.0 c.requires c.index.ensures).1

pub returns-clause-callee : goal.returns-clause-callee
returns-clause-callee c =
    (fits-read c.args.self.now (record { keyed = c.self.inside.keyed; routines = c.self.inside.routines.items; points = c.self.inside.points.items })
    c.args.pc c.index.result.now c.self.view_is c.self.invariant.0 c.requires c.index.ensures).2

pub returns-clause-led : goal.returns-clause-led
returns-clause-led c =
    (given-read c.args.self.now (record { keyed = c.self.inside.keyed; routines = c.self.inside.routines.items; points = c.self.inside.points.items })
    c.args.pc c.index.result.now c.self.view_is c.self.invariant.0 c.requires c.index.ensures).0

pub returns-clause-cut : goal.returns-clause-cut
returns-clause-cut c =
    (given-read c.args.self.now (record { keyed = c.self.inside.keyed; routines = c.self.inside.routines.items; points = c.self.inside.points.items })
    c.args.pc c.index.result.now c.self.view_is c.self.invariant.0 c.requires c.index.ensures).1
