use Rattle.std.proofs.Common.{◌≡◌, ◌∙◌, ◌+◌, ◌≤◌, ◌++◌, length, true, ap, sym, subst}
use Rattle.std.specs.Prelude.{All, MatchOption, OnOk, OnErr}
use Rattle.std.specs.List.{list_all}
use Rattle.std.specs.Vec.{vec_items}
use Rattle.vm_file.specs.declared.directory.Directory.{Directory}
use Rattle.vm_file.specs.Committing.{IsContentsOf, MayCommit, contents_from, contents_read}
use Rattle.vm_file.specs.Contents.{Contents, contents_spelling, is_filled}
use Rattle.vm_file.specs.Device.{Rose}
use Rattle.vm_file.specs.State.{FileState, pair_of, place_in}
use Rattle.vm_file.proofs.Sources.{current_contents, current_within, from_filled, from_legal, from_listed}
use Rattle.vm_file.proofs.StateLaws.{read_file, read_sound}
use Rattle.std.specs.List.{Contains}
use Rattle.vm_file.specs.Outcomes.{CausesNoBlocks}
use Rattle.vm_file.proofs.file.VmFile.spell_current.Goals as goal

pub invariant_of-self : goal.invariant_of-self
invariant_of-self g c = (let d = g.D.Device in read_sound d.medium _ c.spell_directory.new.device c.self.invariant
    c.spell_directory.ensures.read.only)

pub returns-clause-read : goal.returns-clause-read
returns-clause-read g c = (let d = g.D.Device in read_file d.medium _ _ _ c.spell_directory.new.device c.self.view_is c.spell_directory.ensures.read)

pub returns-clause-items : goal.returns-clause-items
returns-clause-items g c =
    let d = g.D.Device in
    let resident = g.S.Source.resident_bytes c.args.source.now in
    let cur = c.args.cur.now in
    let M : FileState g.row.D.Denot → Type 0 = λ f. MayCommit resident f.current cur in
    let P : Contents → Type 0 = λ x. OnOk c.spell_directory.result
    (vec_items c.spell_directory.new.into ≡ vec_items c.args.into.now ++ contents_spelling x) in
    let G : FileState g.row.D.Denot → Type 0 = λ f. d.medium.honest f.device → P (contents_from resident (pair_of d.medium.image f).cur.blocks cur) in
    let at = c.base_of-from.result + 2 in
    let same = ap (λ (kept : Directory). contents_read resident (d.medium.image c.self.inside.device) at kept.entries.items cur) c.directory.ensures
    ∙ current_contents d.medium _ c.self.invariant resident cur (subst M (sym c.self.view_is) c.requires.may) at
    (ap (λ k. k + 2) c.base_of-from.ensures.exact) in
    subst G c.self.view_is (λ h. subst P same (c.spell_directory.ensures.items h))

pub returns-clause-cause : goal.returns-clause-cause
returns-clause-cause g c =
    let d = g.D.Device in
    let resident = g.S.Source.resident_bytes c.args.source.now in
    let cur = c.args.cur.now in
    let M : FileState g.row.D.Denot → Type 0 = λ f. MayCommit resident f.current cur in
    let F : Contents → Type 0 = λ x. list_all is_filled x.blocks ≡ true in
    let G : FileState g.row.D.Denot → Type 0 = λ f. d.medium.honest f.device
    → OnErr c.spell_directory.result (Rose (d.medium.failed f.device) (d.medium.failed c.spell_directory.new.device)) in
    let may = subst M (sym c.self.view_is) c.requires.may in
    let at = c.base_of-from.result + 2 in
    let same = ap (λ (kept : Directory). contents_read resident (d.medium.image c.self.inside.device) at kept.entries.items cur) c.directory.ensures
    ∙ current_contents d.medium _ c.self.invariant resident cur may at (ap (λ k. k + 2) c.base_of-from.ensures.exact) in
    subst G c.self.view_is (λ h. c.spell_directory.ensures.cause h (subst F (sym same) (from_filled d.medium _ c.self.invariant resident cur may h)))

pub returns-clause-legal : goal.returns-clause-legal
returns-clause-legal g c =
    let d = g.D.Device in
    let resident = g.S.Source.resident_bytes c.args.source.now in
    let cur = c.args.cur.now in
    let M : FileState g.row.D.Denot → Type 0 = λ f. MayCommit resident f.current cur in
    let may = subst M (sym c.self.view_is) c.requires.may in
    let G : FileState g.row.D.Denot → Type 0 = λ f. d.medium.honest f.device
    → IsContentsOf cur (contents_from resident (pair_of d.medium.image f).cur.blocks cur) in
    subst G c.self.view_is (λ h. record {
      legal = from_legal d.medium _ c.self.invariant resident cur may h;
      lists = from_listed d.medium _ c.self.invariant resident cur may h;
    })

pub returns-clause-no_block : goal.returns-clause-no_block
returns-clause-no_block g c =
    let d = g.D.Device in
    let G : FileState g.row.D.Denot → Type 0 = λ f. CausesNoBlocks d.medium (Contains c.args.cur.now.entries.items)
    f.device c.spell_directory.new.device c.spell_directory.result in
    subst G c.self.view_is c.spell_directory.ensures.no_block

pub spell_directory-requires-clause-within : goal.spell_directory-requires-clause-within
spell_directory-requires-clause-within g c =
    let d = g.D.Device in
    let resident = g.S.Source.resident_bytes c.args.source.now in
    let cur = c.args.cur.now in
    let M : FileState g.row.D.Denot → Type 0 = λ f. MayCommit resident f.current cur in
    let at = c.base_of-from.result + 2 in
    let W : Directory → Type 0 =
    λ kept. All (λ e. MatchOption (resident e.h) (at + place_in kept.entries.items e.h + e.len ≤ length (d.medium.image c.self.inside.device))
    (λ bytes. Unit {0})) cur.entries.items in
    subst W (sym c.directory.ensures)
    (current_within d.medium _ c.self.invariant resident cur (subst M (sym c.self.view_is) c.requires.may) at
    (ap (λ k. k + 2) c.base_of-from.ensures.exact))
