use Rattle.std.proofs.Common.{◌≡◌, true, ap, refl, sym, subst}
use Rattle.std.specs.Prelude.{Ok, Err}
use Rattle.geos_calls.specs.VmCalls.{commit}
use Rattle.vm_file.specs.Committing.{MayCommit}
use Rattle.vm_file.specs.Directories.{is_directory}
use Rattle.vm_file.specs.State.{FileState}
use Rattle.vm_file.proofs.DirectoryLaws.{after_current}
use Rattle.vm_blocks.specs.View.{VmState}
use Rattle.vm_blocks.specs.Tied.{IsTied}
use Rattle.vm_blocks.specs.Commit.{Lists}
use Rattle.vm_blocks.specs.DoesRow.{DoesRow}
use Rattle.vm_blocks.specs.ListedCalls.{keeper_of}
use Rattle.vm_blocks.specs.Refused.{of_commit}
use Rattle.vm_blocks.specs.Listed.{IsListOf, directory_of, resident_of}
use Rattle.vm_blocks.proofs.Brings.{tied-file}
use Rattle.vm_blocks.proofs.Listing.{may-commit}
use Rattle.vm_blocks.proofs.CommitDoes.{commit-does}
use Rattle.vm_blocks.proofs.Directory.{listed-legal}
use Rattle.vm_blocks.proofs.Updating.{committed-tied, recommits}
use Rattle.vm_blocks.proofs.Whole.{whole-pair}
use Rattle.vm_blocks.proofs.blocks.VmBlocks.commit.Goals as goal

pub commit_file-requires : goal.commit_file-requires
commit_file-requires g c =
    let d = g.D.Device in
    let now = c.args.self.now in
    let s = c.args.blocks.now in
    let file : c.self.inside.file ≡ now.file = ap (λ (w : VmState g.row.D.Denot). w.file) c.self.view_is in
    let may : MayCommit (resident_of s) now.file.current (directory_of now s) = may-commit d.medium now s c.requires.tied
    (listed-legal now s d.medium c.requires.tied) in
    subst (λ (f : FileState g.row.D.Denot). MayCommit (resident_of s) f.current c.listed-cur.result) (sym file)
    (subst (MayCommit (resident_of s) now.file.current) (sym c.listed-cur.ensures) may)

pub returns-in-Err-clause-tied : goal.returns-in-Err-clause-tied
returns-in-Err-clause-tied g c =
    let d = g.D.Device in
    let now = c.args.self.now in
    let s = c.args.blocks.now in
    let k = c.commit_file.new.file in
    let file : c.self.inside.file ≡ now.file = ap (λ (w : VmState g.row.D.Denot). w.file) c.self.view_is in
    let r = recommits c.listed-cur.result (directory_of now s) c.self.inside.file now.file k k c.listed-cur.ensures
    file refl c.in-Err.ensures.commits in
    subst (λ (w : VmState g.row.D.Denot). IsTied d.medium (record w { file = k }) s) (sym c.self.view_is)
    (tied-file d.medium now s k (after_current c.in-Err.error now.file k r.refused) r.was r.pair c.requires.tied)

pub returns-clause-commits : goal.returns-clause-commits
returns-clause-commits g c =
    let now = c.args.self.now in
    let w = c.relist.new.self in
    let file : c.self.inside.file ≡ now.file = ap (λ (w : VmState g.row.D.Denot). w.file) c.self.view_is in
    record {
      file = recommits c.listed-cur.result (directory_of now c.args.blocks.now) c.self.inside.file now.file
          c.commit_file.new.file w.file c.listed-cur.ensures file (sym c.relist.ensures.file) c.in-Ok.ensures.commits;
      lists = subst (λ (f : FileState g.row.D.Denot). IsListOf w f.current) (sym c.relist.ensures.file) c.relist.ensures.lists;
      store = c.leave.ensures;
      refused = tt;
    }

pub returns-clause-tied : goal.returns-clause-tied
returns-clause-tied g c =
    let d = g.D.Device in
    let r = returns-clause-commits g c in
    committed-tied d.medium c.args.how c.args.self.now c.relist.new.self c.args.blocks.now c.leave.new.blocks
    c.requires.tied c.relist.ensures.long c.relist.ensures.legal r.lists (ap (λ (f : FileState g.row.D.Denot). f.current) r.file.done)
    r.file.was r.file.pair r.store

pub returns-in-Err-clause-row : goal.returns-in-Err-clause-row
returns-in-Err-clause-row g c =
    let d = g.D.Device in
    let now = c.args.self.now in
    let s = c.args.blocks.now in
    let k = c.commit_file.new.file in
    let how = c.args.how in
    let e = c.in-Err.error in
    let file : c.self.inside.file ≡ now.file = ap (λ (w : VmState g.row.D.Denot). w.file) c.self.view_is in
    let r = recommits c.listed-cur.result (directory_of now s) c.self.inside.file now.file k k c.listed-cur.ensures
    file refl c.in-Err.ensures.commits in
    let after : VmState g.row.D.Denot = record now { file = k } in
    let tied : IsTied d.medium after s = tied-file d.medium now s k (after_current e now.file k r.refused) r.was r.pair c.requires.tied in
    let cur_legal = listed-legal now s d.medium c.requires.tied in
    let may : MayCommit (resident_of s) now.file.current (directory_of now s) = may-commit d.medium now s c.requires.tied cur_legal in
    let lists : Lists d.medium.image now.file = subst (Lists d.medium.image) file c.commit_file.ensures.lists in
    let old_legal : is_directory now.file.saved ≡ true = subst (λ (f : FileState g.row.D.Denot). is_directory f.saved ≡ true)
    file c.commit_file.ensures.legal in
    subst (λ (w : VmState g.row.D.Denot). DoesRow d.medium (commit (keeper_of how)) (of_commit (Err e)) now s (record w { file = k }) s)
    (sym c.self.view_is)
    (commit-does d.medium now after s s how c.requires.tied tied c.requires.free cur_legal old_legal
    (λ good. whole-pair d.medium.image now.file lists (resident_of s) (directory_of now s) may how) (Err e) r tt tt (refl, refl))

pub returns-clause-row : goal.returns-clause-row
returns-clause-row g c =
    let d = g.D.Device in
    let now = c.args.self.now in
    let s = c.args.blocks.now in
    let w = c.relist.new.self in
    let t = c.leave.new.blocks in
    let how = c.args.how in
    let file : c.self.inside.file ≡ now.file = ap (λ (w : VmState g.row.D.Denot). w.file) c.self.view_is in
    let r = returns-clause-commits g c in
    let cur_legal = listed-legal now s d.medium c.requires.tied in
    let may : MayCommit (resident_of s) now.file.current (directory_of now s) = may-commit d.medium now s c.requires.tied cur_legal in
    let lists : Lists d.medium.image now.file = subst (Lists d.medium.image) file c.commit_file.ensures.lists in
    let old_legal : is_directory now.file.saved ≡ true = subst (λ (f : FileState g.row.D.Denot). is_directory f.saved ≡ true)
    file c.commit_file.ensures.legal in
    commit-does d.medium now w s t how c.requires.tied (returns-clause-tied g c) c.requires.free cur_legal old_legal
    (λ good. whole-pair d.medium.image now.file lists (resident_of s) (directory_of now s) may how) (Ok tt) r.file r.lists r.store tt
