use Rattle.std.proofs.Common.{sym}
use Rattle.geos_explain.specs.Places.{place_of}
use Rattle.geos_explain.proofs.Losing.{way-nowhere}
use Rattle.geos_explain.proofs.trace.nowhere_or.Goals as goal

pub returns-in-Some : goal.returns-in-Some
returns-in-Some c =
    let leads = c.requires.leads in
    record {
      to = c.args.to;
      comes = way-nowhere (place_of c.args.tracing.now.place.now) c.args.tracing.now.p leads.0 c.args.to c.in-Some.slot c.args.way leads.1
          (sym c.in-Some.ensures);
      lacks = c.requires.lacks;
    }
