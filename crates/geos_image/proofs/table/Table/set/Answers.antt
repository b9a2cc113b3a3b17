use Rattle.std.proofs.Common.{◌≡◌, ◌-◌, ◌≤◌, List, length, set, ap, ◌∙◌, arith}
use Rattle.std.specs.Vec.{vec_len}
use Rattle.geos_image.specs.declared.table.Table.TheInside.{Inside}
use Rattle.geos_image.proofs.Filled.{filled, longer, filled-reach, filled-set, filled-push}
use Rattle.geos_image.proofs.table.Table.set.Goals.{then-len-at, else-len-at}
use Rattle.geos_image.proofs.table.Table.set.Goals as goal

pub returns-then-at-len : goal.returns-then-at-len
returns-then-at-len g c =
    let now = c.self.inside in
    let next = c.if-len-at.self-inside in
    let pc = c.args.pc in
    let same : filled next.rest 4096 next.items.items ≡ c.args.self.now = elim c.if-len-at.branch [
      | then-len-at w ↦
          ap (λ (i : Inside g.row.T.Denot). filled i.rest 4096 i.items.items) w.self-inside-is
          ∙ filled-reach now.rest 4096 (pc - vec_len now.items) now.items.items w.reach.new.items.items
          (omega (arith, now.items.ok.0, c.requires, c.self.invariant.few)) w.reach.ensures.items
          ∙ c.self.view_is
      | else-len-at w ↦ ap (λ (i : Inside g.row.T.Denot). filled i.rest 4096 i.items.items) w.self-inside-is ∙ c.self.view_is
    ] in
    filled-set next.rest 4096 pc c.args.item next.items.items (omega (arith, next.items.ok.0, c.if-at-len.true, c.len-2.ensures))
    ∙ ap (λ (xs : List g.row.T.Denot). set xs pc c.args.item) same

pub returns-else-at-len : goal.returns-else-at-len
returns-else-at-len g c =
    let now = c.self.inside in
    let next = c.if-len-at.self-inside in
    let pc = c.args.pc in
    let same : (filled next.rest 4096 next.items.items ≡ c.args.self.now) × (pc ≤ length next.items.items) = elim c.if-len-at.branch [
      | then-len-at w ↦
          let k = pc - vec_len now.items in
          let long = longer now.rest k now.items.items w.reach.new.items.items w.reach.ensures.items in (
            ap (λ (i : Inside g.row.T.Denot). filled i.rest 4096 i.items.items) w.self-inside-is
                ∙ filled-reach now.rest 4096 k now.items.items w.reach.new.items.items
                (omega (arith, now.items.ok.0, c.requires, c.self.invariant.few)) w.reach.ensures.items
                ∙ c.self.view_is,
            omega (
              arith,
              ap (λ (i : Inside g.row.T.Denot). length i.items.items) w.self-inside-is,
              long,
              now.items.ok.0,
              w.if-len-at.true,
              c.len.ensures,
            ),
          )
      | else-len-at w ↦ (
        ap (λ (i : Inside g.row.T.Denot). filled i.rest 4096 i.items.items) w.self-inside-is ∙ c.self.view_is,
        omega (arith, ap (λ (i : Inside g.row.T.Denot). length i.items.items) w.self-inside-is, now.items.ok.0, w.if-len-at.false, c.len.ensures),
      )
    ] in
    let here : length next.items.items ≡ pc = omega (arith, same.1, next.items.ok.0, c.if-at-len.false, c.len-2.ensures) in
    ap (filled next.rest 4096) c.push_reserved.ensures.items
    ∙ filled-push next.rest 4096 c.args.item next.items.items (omega (arith, here, c.requires))
    ∙ ap (λ n. set (filled next.rest 4096 next.items.items) n c.args.item) here
    ∙ ap (λ (xs : List g.row.T.Denot). set xs pc c.args.item) same.0
