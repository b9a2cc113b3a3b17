use Rattle.std.proofs.Common.{◌≡◌, ◌+◌, ◌-◌, ◌<◌, length, refl, subst, arith}
use Rattle.vm_file.specs.declared.directory.Entry.{Entry}
use Rattle.vm_file.proofs.PlaceLaws.{PlacesFrom, handle_at, places-fit, places-more}
use Rattle.vm_file.proofs.places.put_places.Goals as goal

-- the value of a lookup past the last entry
abbrev blank : Entry
blank = record { h = 0; uid = 0; len = 0 }

pub overflow_sub-place : goal.overflow_sub-place
overflow_sub-place c =
    let es = c.args.entries.now in
    let i = c.loop-i.i in
    let some = c.loop-i-test.true in
    let next : i ≡ i - 1 + 1 = omega arith in
    let p = subst (λ n. PlacesFrom es n c.loop-i.place c.loop-i.places) next c.loop-i.invariant in
    let within = c.loop-i.invariant.within in
    let fit = places-fit es (i - 1) c.loop-i.place c.loop-i.places blank (omega (arith, some, within)) p in
    omega (arith, fit, c.from.ensures)

pub overflow_add-place : goal.overflow_add-place
overflow_add-place c =
    let es = c.args.entries.now in
    let i = c.loop-i.i in
    let some = c.loop-i-test.true in
    let next : i ≡ i - 1 + 1 = omega arith in
    let p = subst (λ n. PlacesFrom es n c.loop-i.place c.loop-i.places) next c.loop-i.invariant in
    let within = c.loop-i.invariant.within in
    let fit = places-fit es (i - 1) c.loop-i.place c.loop-i.places blank (omega (arith, some, within)) p in
    let small = c.loop-i.auto.place-fits in
    omega (arith, fit, small, c.from.ensures)

pub bounds-places-entry : goal.bounds-places-entry
bounds-places-entry c =
    let within = c.loop-i.invariant.within in
    let long = c.loop-i.invariant.long in
    let some = c.loop-i-test.true in
    let high = handle_at c.args.entries.now 0 (c.loop-i.i - 1) blank c.requires.legal (omega (arith, within, some)) in
    omega (arith, high, long)

pub loop-i-preserved : goal.loop-i-preserved
loop-i-preserved c =
    let es = c.args.entries.now in
    let i = c.loop-i.i in
    let some = c.loop-i-test.true in
    let next : i ≡ i - 1 + 1 = omega arith in
    let p = subst (λ n. PlacesFrom es n c.loop-i.place c.loop-i.places) next c.loop-i.invariant in
    let within = c.loop-i.invariant.within in
    let small : i - 1 < length es = omega (arith, some, within) in
    let fit = places-fit es (i - 1) c.loop-i.place c.loop-i.places blank small p in
    let high = handle_at es 0 (i - 1) blank c.requires.legal small in
    places-more es (i - 1) c.loop-i.place c.loop-i.places blank small p _ _ high (omega (arith, fit, c.from.ensures)) refl
