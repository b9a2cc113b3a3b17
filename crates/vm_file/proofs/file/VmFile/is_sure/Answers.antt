use Rattle.std.proofs.Common.{subst}
use Rattle.vm_file.specs.State.{FileState, ListsPair, pair_of}
use Rattle.vm_file.proofs.Kept.{finds_before}
use Rattle.vm_file.proofs.Listing.{pair_listed}
use Rattle.vm_file.proofs.file.VmFile.is_sure.Goals as goal

pub returns-clause-stop : goal.returns-clause-stop
returns-clause-stop g c =
    let d = g.D.Device in
    finds_before d.medium _ _ c.self.view_is c.self.invariant

pub returns-clause-pair : goal.returns-clause-pair
returns-clause-pair g c =
    let d = g.D.Device in
    let lists = pair_listed d.medium _ c.self.invariant in
    let G : FileState g.row.D.Denot → Type 0 = λ f. ListsPair (pair_of d.medium.image f) f.current f.saved in
    subst G c.self.view_is (record { cur = lists.0; saved = lists.1 })
