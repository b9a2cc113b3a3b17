use Rattle.std.proofs.Common.{◌≡◌, ◌<◌, ◌++◌, List, [], ◌∷◌, length, refl, ap, subst, ◌∙◌, arith}
use Rattle.std.proofs.lemmas.List.{take_all}
use Rattle.geos_verify.specs.declared.place.Place.{Place}
use Rattle.geos_verify.specs.Places.{places, RowAt}
use Rattle.geos_verify.proofs.Places.{places-length}
use Rattle.geos_verify.proofs.Known.{row-given, gives-within, by-parts, places-more}
use Rattle.geos_verify.proofs.place.places_of.Goals as goal

pub loop-pc-init : goal.loop-pc-init
loop-pc-init c =
    let image = c.args.image.now in
    let start = c.start.result in
    let known = row-given image start c.row.result.now c.row.ensures (gives-within image start c.start.ensures.given) in
    (c.in_ok-places.ensures.items, subst (λ n. RowAt image n c.row.result.now) c.start.ensures.start known)

pub loop-pc-preserved : goal.loop-pc-preserved
loop-pc-preserved c =
    let image = c.args.image.now in
    let pc = c.loop-pc.pc in
    let lt : pc < length image.points = omega (arith, c.loop-pc-test.true, c.len-pc-end.ensures.len) in
    let place : Place = record { instr = c.instr.result.now; row = c.loop-pc.row; potential = c.potential.result.now } in
    let here = by-parts image pc c.instr.result.now c.loop-pc.row c.potential.result.now (λ p. place ≡ p)
    c.instr.ensures.there c.loop-pc.invariant.1 c.potential.ensures lt refl in (
      rw c.in_ok-push.ensures.items (ap (λ (front : List Place). front ++ place ∷ []) c.loop-pc.invariant.0 ∙ places-more image pc place here lt),
      c.row_next-row.ensures,
    )

pub returns : goal.returns
returns c =
    let image = c.args.image.now in
    c.loop-pc.invariant.0 ∙ take_all c.loop-pc.pc (places image) (omega (arith, c.loop-pc-test.false, c.len-pc-end.ensures.len, places-length image))
