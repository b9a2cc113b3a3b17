use Rattle.std.proofs.Common.{◌≡◌, false, slice_get, refl, sym, subst, ◌∙◌}
use Rattle.std.proofs.lemmas.Bool.{not-true}
use Rattle.geos_verify.specs.Rules.{wrong_slot}
use Rattle.geos_verify.proofs.Places.{item_at, if_some}
use Rattle.geos_verify.proofs.Clean.{beside-calls-clean}
use Rattle.geos_verify.proofs.place.go_behind.Goals as goal

pub returns-clause-names : goal.returns-clause-names
returns-clause-names c goes_on clean held =
    let image = c.args.image.now in
    let row = c.args.row.now in
    let i = c.instr-i.result.now in
    let found = item_at image.points c.args.pc c.requires.there in
    let there = slice_get image.points c.args.pc in
    let i_is : i ≡ found.0.instr = if_some (λ point. i ≡ point.instr) there found.0 found.1 c.instr-i.ensures.there in
    let right : wrong_slot i row ≡ false = subst (λ j. wrong_slot j row ≡ false) (sym i_is)
    (if_some (λ point. wrong_slot point.instr row ≡ false) there found.0 found.1 held) in
    let no_call = sym c.calls.ensures ∙ not-true c.calls.result goes_on in
    let behind = beside-calls-clean image i i.opcode row refl c.instr-i.ensures.fields no_call
    (record { clean = clean; four = c.has_four.ensures }) right in
    rw c.go_along.ensures behind.clean
