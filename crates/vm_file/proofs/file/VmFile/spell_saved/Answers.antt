use Rattle.std.proofs.Common.{◌≡◌, ◌+◌, ◌++◌, true, ap, sym, subst, arith}
use Rattle.std.specs.Prelude.{OnOk, OnErr}
use Rattle.std.specs.List.{list_all}
use Rattle.std.specs.Vec.{vec_items}
use Rattle.vm_file.specs.Committing.{IsContentsOf}
use Rattle.vm_file.specs.Contents.{Contents, contents_spelling, is_filled, listed}
use Rattle.vm_file.specs.Device.{Rose}
use Rattle.vm_file.specs.Directories.{directory_length, is_directory}
use Rattle.vm_file.specs.Reading.{area_of, base_of}
use Rattle.vm_file.specs.State.{FileState, pair_of}
use Rattle.geos_terms.proofs.HeapTests.{both}
use Rattle.vm_file.proofs.Listing.{pair_listed}
use Rattle.vm_file.proofs.ReadLaws.{pair_ok}
use Rattle.vm_file.proofs.Sources.{saved_contents, saved_within}
use Rattle.vm_file.proofs.StateLaws.{read_file, read_sound}
use Rattle.std.specs.List.{Contains}
use Rattle.vm_file.specs.Outcomes.{CausesNoBlocks}
use Rattle.vm_file.proofs.file.VmFile.spell_saved.Goals as goal

pub invariant_of-self : goal.invariant_of-self
invariant_of-self g c = (let d = g.D.Device in read_sound d.medium _ c.spell_directory.new.device c.self.invariant
    c.spell_directory.ensures.read.only)

pub returns-clause-read : goal.returns-clause-read
returns-clause-read g c = (let d = g.D.Device in read_file d.medium _ _ _ c.spell_directory.new.device c.self.view_is c.spell_directory.ensures.read)

pub returns-clause-items : goal.returns-clause-items
returns-clause-items g c =
    let d = g.D.Device in
    let P : Contents → Type 0 = λ x. OnOk c.spell_directory.result
    (vec_items c.spell_directory.new.into ≡ vec_items c.args.into.now ++ contents_spelling x) in
    let G : FileState g.row.D.Denot → Type 0 = λ f. d.medium.honest f.device → P (pair_of d.medium.image f).saved in
    let same = saved_contents d.medium _ c.self.invariant (c.base_of.result + c.from-first.result + 2)
    (omega (arith, c.base_of.ensures.exact, c.from-first.ensures, c.directory_length.ensures.exact, ap directory_length c.directory.ensures)) in
    subst G c.self.view_is (λ h. subst P same (c.spell_directory.ensures.items h))

pub returns-clause-cause : goal.returns-clause-cause
returns-clause-cause g c =
    let d = g.D.Device in
    let F : Contents → Type 0 = λ x. list_all is_filled x.blocks ≡ true in
    let G : FileState g.row.D.Denot → Type 0 = λ f. d.medium.honest f.device
    → OnErr c.spell_directory.result (Rose (d.medium.failed f.device) (d.medium.failed c.spell_directory.new.device)) in
    let same = saved_contents d.medium _ c.self.invariant (c.base_of.result + c.from-first.result + 2)
    (omega (arith, c.base_of.ensures.exact, c.from-first.ensures, c.directory_length.ensures.exact, ap directory_length c.directory.ensures)) in
    let i = c.self.inside in
    let f : FileState g.row.D.Denot = record {
      device = i.device;
      area = i.area;
      second = i.second;
      sure =
          i.sure;
      current = i.current;
      saved = i.saved;
    } in
    let p = pair_of d.medium.image f in
    subst G c.self.view_is (λ h.
    let legal = (pair_ok (base_of f.area f.second) (area_of (d.medium.image f.device) f.area f.second) p (c.self.invariant.holds h).pair).saved in
    c.spell_directory.ensures.cause h (subst F (sym same) (both (is_directory (listed p.saved)) (list_all is_filled p.saved.blocks) legal).1))

pub returns-clause-legal : goal.returns-clause-legal
returns-clause-legal g c =
    let d = g.D.Device in
    let i = c.self.inside in
    let f : FileState g.row.D.Denot = record {
      device = i.device;
      area = i.area;
      second = i.second;
      sure =
          i.sure;
      current = i.current;
      saved = i.saved;
    } in
    let G : FileState g.row.D.Denot → Type 0 = λ x. d.medium.honest x.device → IsContentsOf x.saved (pair_of d.medium.image x).saved in
    subst G c.self.view_is (λ h. record {
      legal = (pair_ok (base_of f.area f.second) (area_of (d.medium.image f.device) f.area f.second) (pair_of d.medium.image f)
          (c.self.invariant.holds h).pair).saved;
      lists = (pair_listed d.medium f c.self.invariant).1;
    })

pub returns-clause-no_block : goal.returns-clause-no_block
returns-clause-no_block g c =
    let d = g.D.Device in
    let G : FileState g.row.D.Denot → Type 0 = λ f. CausesNoBlocks d.medium (Contains f.saved.entries.items) f.device
    c.spell_directory.new.device c.spell_directory.result in
    subst G c.self.view_is c.spell_directory.ensures.no_block

pub spell_directory-requires-clause-within : goal.spell_directory-requires-clause-within
spell_directory-requires-clause-within g c =
    let d = g.D.Device in
    saved_within d.medium _ c.self.invariant (c.base_of.result + c.from-first.result + 2)
    (omega (arith, c.base_of.ensures.exact, c.from-first.ensures, c.directory_length.ensures.exact, ap directory_length c.directory.ensures))
