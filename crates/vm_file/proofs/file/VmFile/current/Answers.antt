use Rattle.std.proofs.Common.{◌≡◌, ◌∙◌, subst, sym}
use Rattle.vm_file.specs.Contents.{listed}
use Rattle.vm_file.specs.State.{FileState, pair_of}
use Rattle.vm_file.proofs.Listing.{pair_listed}
use Rattle.vm_file.proofs.file.VmFile.current.Goals as goal

pub returns-clause-lists : goal.returns-clause-lists
returns-clause-lists g c =
    let d = g.D.Device in
    let G : FileState g.row.D.Denot → Type 0 = λ f. listed (pair_of d.medium.image f).cur ≡ c.self.inside.current in
    subst G c.self.view_is (pair_listed d.medium _ c.self.invariant).0 ∙ sym c.directory.ensures
