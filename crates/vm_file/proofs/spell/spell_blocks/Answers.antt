use Rattle.std.proofs.Common.{◌≡◌, ℕ, ◌++◌, ◌∙◌, List, get_or, true, map, refl, ap, sym, subst, arith, append-nil}
use Rattle.std.specs.List.{flat_map}
use Rattle.std.proofs.lemmas.List.{take_all}
use Rattle.std.specs.Vec.{vec_items}
use Rattle.vm_file.specs.declared.directory.Entry.{Entry}
use Rattle.vm_file.specs.Committing.{IsWithin, block_read}
use Rattle.vm_file.specs.Contents.{block_spelling, is_filled}
use Rattle.vm_file.specs.Device.{Rose}
use Rattle.vm_file.proofs.Blocks.{entry_fits, blocks_appended, filled_at}
use Rattle.vm_file.proofs.Moments.{reads_none, reads_on, reads_then, reads_well}
use Rattle.vm_file.proofs.Lengths.{entries_length-more}
use Rattle.std.specs.List.{Contains}
use Rattle.std.proofs.lemmas.List.Elements.{Contains-get_or}
use Rattle.vm_file.specs.Outcomes.{IsOfBlock}
use Rattle.vm_file.proofs.Given.{why_of, why_on}
use Rattle.vm_file.proofs.spell.spell_blocks.Goals as goal

abbrev blank : Entry
blank = record { h = 0; uid = 0; len = 0 }

pub spell_block-requires-clause-room : goal.spell_block-requires-clause-room
spell_block-requires-clause-room g c =
    let i = c.loop-e.invariant in
    omega (arith, entry_fits c.args.entries.now c.loop-e.e-index blank c.loop-e-test.true, i.len, i.room, c.requires.room)

pub returns-in-Err-clause-cause : goal.returns-in-Err-clause-cause
returns-in-Err-clause-cause g c = λ h filled.
    let i = c.loop-e.invariant in
    let es = c.args.entries.now in
    let resident = g.S.Source.resident_bytes c.args.source.now in
    let F : List ℕ → Type 0 = λ x. is_filled (block_read resident x c.args.kept.now.from c.args.kept.now.directory.now.entries.items
    (get_or es c.loop-e.e-index blank)) ≡ true in
    let R : ℕ → Type 0 = λ k. Rose k (g.D.Device.medium.failed c.spell_block.new.device) in
    subst R i.count (c.in-Err.ensures.cause (i.reads.stays h)
    (subst F (sym i.reads.same)
    (filled_at (block_read resident (g.D.Device.medium.image c.args.device.now) c.args.kept.now.from c.args.kept.now.directory.now.entries.items)
    es c.loop-e.e-index blank c.loop-e-test.true filled)))

pub returns-in-Err-clause-read : goal.returns-in-Err-clause-read
returns-in-Err-clause-read g c = (let i = c.loop-e.invariant in reads_on g.D.Device.medium _ c.loop-e.device _ _
    i.reads i.count c.in-Err.ensures.read)

pub returns-clause-read : goal.returns-clause-read
returns-clause-read g c = (let i = c.loop-e.invariant in reads_well g.D.Device.medium _ _ _ i.reads i.count)

pub returns-in-Err-clause-resident : goal.returns-in-Err-clause-resident
returns-in-Err-clause-resident g c = λ all. c.in-Err.ensures.resident (all c.loop-e.e-index blank c.loop-e-test.true)

pub loop-e-preserved : goal.loop-e-preserved
loop-e-preserved g c =
    let i = c.loop-e.invariant in
    let d = g.D.Device in
    let es = c.args.entries.now in
    let k = c.loop-e.e-index in
    let e = get_or es k blank in
    let resident = g.S.Source.resident_bytes c.args.source.now in
    let P : List ℕ → Type 0 = λ x. vec_items c.spell_block.new.into ≡ vec_items c.loop-e.into ++ block_spelling
    (block_read resident x c.args.kept.now.from c.args.kept.now.directory.now.entries.items e) in
    record {
      len = omega (arith, entries_length-more es k blank c.loop-e-test.true, i.len, c.spell_block.ensures.len);
      room = omega (arith, i.room, c.spell_block.ensures.room);
      reads = reads_then d.medium c.args.device.now c.loop-e.device c.spell_block.new.device i.reads c.in-Ok.ensures.read.only;
      count = c.in-Ok.ensures.read.ok ∙ i.count;
      items = (λ h. blocks_appended (block_read resident (d.medium.image c.args.device.now) c.args.kept.now.from
          c.args.kept.now.directory.now.entries.items) es k blank _ _ _
          c.loop-e-test.true (i.items h) (subst P i.reads.same (c.in-Ok.ensures.items (i.reads.stays h))));
    }

pub loop-e-init : goal.loop-e-init
loop-e-init g c = record {
  len = omega arith;
  room = omega arith;
  reads = reads_none g.D.Device.medium c.args.device.now;
  count =
      refl;
  items = (λ h. sym (append-nil (vec_items c.args.into.now)));
}

pub returns-clause-items : goal.returns-clause-items
returns-clause-items g c = λ h.
    let block = block_read (g.S.Source.resident_bytes c.args.source.now) (g.D.Device.medium.image c.args.device.now)
    c.args.kept.now.from c.args.kept.now.directory.now.entries.items in
    c.loop-e.invariant.items h ∙ ap (λ es. vec_items c.args.into.now ++ flat_map block_spelling (map block es))
    (take_all c.loop-e.e-index c.args.entries.now c.loop-e-test.false)

pub returns-in-Err-clause-no_block : goal.returns-in-Err-clause-no_block
returns-in-Err-clause-no_block g c =
    let i = c.loop-e.invariant in
    let es = c.args.entries.now in
    let d = g.D.Device in
    let e = get_or es c.loop-e.e-index blank in
    why_of d.medium (Contains es) c.args.device.now c.spell_block.new.device e (Contains-get_or es c.loop-e.e-index blank c.loop-e-test.true)
    (why_on d.medium (IsOfBlock e.h e.len) (IsOfBlock e.h e.len) c.args.device.now c.loop-e.device c.spell_block.new.device
    (λ x is. is) i.reads i.count c.in-Err.ensures.no_block)

pub spell_block-requires-clause-within : goal.spell_block-requires-clause-within
spell_block-requires-clause-within g c =
    let i = c.loop-e.invariant in
    let e = get_or c.args.entries.now c.loop-e.e-index blank in
    subst (λ x. IsWithin (g.S.Source.resident_bytes c.args.source.now) x c.args.kept.now e) (sym i.reads.same)
    (c.requires.within c.loop-e.e-index blank c.loop-e-test.true)
