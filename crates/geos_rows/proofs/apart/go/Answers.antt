use Rattle.std.proofs.Common.{◌<◌, true, length, Some, None, set, refl, sym, ◌∙◌, arith}
use Rattle.std.proofs.lemmas.List.{get_or-set_same}
use Rattle.geos_flow.specs.declared.apart.Coming.{Coming}
use Rattle.geos_rows.specs.Meeting.{IsMet}
use Rattle.geos_rows.proofs.Alike.{alike-refl}
use Rattle.geos_rows.proofs.Came.{all_come-set}
use Rattle.geos_rows.proofs.Meeting.{goes-new, gone-along}
use Rattle.geos_rows.proofs.apart.go.Goals as goal

pub returns-in-None-clause-come : goal.returns-in-None-clause-come
returns-in-None-clause-come c =
    let body = c.args.body.now in
    let brought = c.in-Some.brought in
    let coming : Coming = record { from = Some brought.lead.edge; row = brought.row; emptied = brought.emptied } in
    rw c.set.ensures (all_come-set body.image.now body.r c.args.known.now brought.lead.to coming c.requires.come (record {
      comes = c.in-Some.ensures.by;
      emptied = c.in-Some.ensures.emptied;
    }))

pub returns-in-None-clause-ok : goal.returns-in-None-clause-ok
returns-in-None-clause-ok c =
    let body = c.args.body.now in
    let brought = c.in-Some.brought in
    let coming : Coming = record { from = Some brought.lead.edge; row = brought.row; emptied = brought.emptied } in
    let in_known : brought.lead.to < length c.args.known.now = omega (arith, c.in-Some.ensures.inside, c.lengths.ensures, body.room, body.short) in
    let in_waits : brought.lead.to < length c.args.waits.now = omega (arith, c.in-Some.ensures.inside, c.lengths-2.ensures, body.room, body.short) in
    rw (c.set.ensures, c.set-in-None.ensures) (goes-new c.args.known.now c.args.waits.now brought.lead.to coming
    in_known in_waits (sym (c.in-None.ensures None)))

pub returns-in-None-clause-gone : goal.returns-in-None-clause-gone
returns-in-None-clause-gone c =
    let body = c.args.body.now in
    let brought = c.in-Some.brought in
    let coming : Coming = record { from = Some brought.lead.edge; row = brought.row; emptied = brought.emptied } in
    let in_known : brought.lead.to < length c.args.known.now = omega (arith, c.in-Some.ensures.inside, c.lengths.ensures, body.room, body.short) in
    let in_waits : brought.lead.to < length c.args.waits.now = omega (arith, c.in-Some.ensures.inside, c.lengths-2.ensures, body.room, body.short) in
    let known = c.args.known.now in
    let waits = c.args.waits.now in
    let to = brought.lead.to in
    let further = goes-new known waits to coming in_known in_waits (sym (c.in-None.ensures None)) in
    let met : IsMet (set known to (Some coming)) to brought.row =
    record { first = coming; read = get_or-set_same known to (Some coming) None in_known; alike = alike-refl brought.row } in
    rw c.set.ensures (gone-along body.image.now body.r known (set known to (Some coming)) waits (set waits to true)
    true further c.args.pc c.args.branch to brought.row c.in-Some.ensures.some met)

pub returns-in-Some-2-clause-err : goal.returns-in-Some-2-clause-err
returns-in-Some-2-clause-err c = record {
  first = c.requires.come c.in-Some.brought.lead.to c.in-Some-at.first (sym (c.in-Some-at.ensures None));
  second = record { comes = c.in-Some.ensures.by; emptied = c.in-Some.ensures.emptied };
  differ = sym c.agree.ensures ∙ c.if-agree.false;
}
