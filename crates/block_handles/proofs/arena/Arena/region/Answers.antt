use Rattle.std.proofs.Common.{◌≡◌, length, sym, ap, ◌∙◌, subst, arith}
use Rattle.std.proofs.lemmas.List.{take_all}
use Rattle.lmem_raw.specs.Bytes.{part}
use Rattle.block_handles.specs.Layout.{IsRegion}
use Rattle.block_handles.proofs.Regions.{region-of}
use Rattle.block_handles.proofs.arena.Arena.region.Goals as goal

pub returns-clause-region : goal.returns-clause-region
returns-clause-region c =
    let region = c.self.inside.region in
    let all : c.slice-all.result.now ≡ region = c.slice-all.ensures ∙ ap (part region 0) c.len.ensures
    ∙ take_all (length region) region (omega arith) in
    subst (λ s. IsRegion s c.slice-all.result.now) c.self.view_is
    (subst (IsRegion _) (sym all) (region-of c.self.inside.limits region c.self.inside.table c.self.invariant.lies))
