use Rattle.std.proofs.Common.{◌≡◌, ◌∙◌, ◌++◌, List, map, sym, subst}
use Rattle.std.proofs.lemmas.List.{length-map}
use Rattle.std.specs.List.{flat_map}
use Rattle.std.specs.Vec.{vec_items}
use Rattle.vm_file.specs.declared.directory.Entry.{Entry}
use Rattle.vm_file.specs.Committing.{placed_block, placed_contents}
use Rattle.vm_file.specs.Contents.{block_spelling}
use Rattle.vm_file.proofs.Blocks.{contents_appended}
use Rattle.vm_file.proofs.spell.spell_directory.Goals as goal

pub returns-clause-items : goal.returns-clause-items
returns-clause-items g c = λ h.
    let resident = g.S.Source.resident_bytes c.args.source.now in
    let image = g.D.Device.medium.image c.args.device.now in
    let kept = c.args.kept.now in
    let entries = c.args.directory.now.entries.items in
    let block = placed_block resident image kept in
    let B : List Entry → Type 0 = λ es. vec_items c.spell_blocks.new.into ≡ vec_items c.put_word.new.into ++ flat_map block_spelling (map block es) in
    contents_appended (placed_contents resident image kept c.args.directory.now) _ _ _ _ _ (c.len.ensures.value
    ∙ sym (length-map entries block)) c.put_word.ensures.items (subst B c.deref.ensures.0 (c.in-Ok.ensures.items h)) c.put_words.ensures.items
