use Rattle.std.proofs.Common.{◌≡◌, ℕ, ◌+◌, ◌-◌, arith, subst}
use Rattle.lmem_raw.specs.Bytes.{part}
use Rattle.chunk_array.specs.Shapes.{HasShape}
use Rattle.chunk_array.proofs.Rewritten.{part-small}
use Rattle.chunk_array.proofs.Shaped.{least}
use Rattle.chunk_array.proofs.look.find.Goals as goal

pub returns-in-Some : goal.returns-in-Some
returns-in-Some c =
    let b = c.args.block.now in
    let p = c.in-Ok.ensures in
    let at = c.in-Ok.place.0 in
    let len = c.in-Ok.place.1 in
    let small = part-small b at len (λ k. let t = c.type_inv.block k in omega arith) in
    let e : at + len - at ≡ len = omega arith in
    let h = subst (λ (n : ℕ). HasShape (part b at n) c.in-Some.shape) e c.in-Some.ensures in
    record { place = p.place; within = p.within; bytes = p.bytes; shape = h; least = least b at len c.in-Some.shape small p.within h; small = small }
