use Rattle.std.proofs.Common.{◌≡◌, ℕ, ◌<◌, get_or}
use Rattle.vm_file.specs.State.{pair_of}
use Rattle.geos_dump.specs.Sides.{IsOnlyRead, contents_on, no_block}
use Rattle.geos_dump.proofs.compare.same_contents.Given as goal

abbrev pub invariant-loop-i : goal.invariant-loop-i
invariant-loop-i g l =
    let d = g.D.Device in
    let e = g.E.Device in
    record {
      one : IsOnlyRead d.medium l.fn.one l.one;
      other : IsOnlyRead e.medium l.fn.other l.other;
      same : d.medium.honest l.fn.one.device → e.medium.honest l.fn.other.device → (j : ℕ) → j < l.i
          → get_or (contents_on l.sides.one (pair_of d.medium.image l.fn.one)).blocks j no_block
          ≡ get_or (contents_on l.sides.other (pair_of e.medium.image l.fn.other)).blocks j no_block;
    }
