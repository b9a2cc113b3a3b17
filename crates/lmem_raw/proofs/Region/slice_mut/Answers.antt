use Rattle.std.proofs.Common.{◌∙◌, sym}
use Rattle.lmem_raw.proofs.Parts.{length-with_part}
use Rattle.lmem_raw.proofs.Region.slice_mut.Goals as goal

pub invariant_of-self-lent : goal.invariant_of-self-lent
invariant_of-self-lent c w =
    let i = c.self.invariant in
    record { full = i.full; long = i.long ∙ sym (length-with_part _ _ _); size = i.size; place = i.place; from = i.from }
