use Rattle.std.proofs.Common.{◌∙◌, ◌≡◌, ◌++◌, ap, sym, take, drop, append_assoc, take-append-drop}
use Rattle.std.proofs.KnownBytes.{Appends-trans}
use Rattle.geos_text.proofs.LineLaws.{rest_of}
use Rattle.geos_input.proofs.counted.write_whole.Goals as goal

pub loop-rest-preserved : goal.loop-rest-preserved
loop-rest-preserved g c =
    let before = c.loop-rest.invariant in
    let rest = c.loop-rest.rest.now in
    let n = c.in-Ok.count in
    let parts : take n rest ++ drop n rest ≡ rest = take-append-drop n rest in
    let whole = before.1 ∙ ap (λ bs. before.0 ++ bs) (sym parts) ∙ sym (append_assoc before.0 (take n rest) (drop n rest)) in
    let taken = before.0 ++ take n rest in
    (taken, whole ∙ ap (λ bs. taken ++ bs) (sym (rest_of rest n)), Appends-trans _ _ _ _ _ before.2 c.in-Ok.ensures.bytes)
