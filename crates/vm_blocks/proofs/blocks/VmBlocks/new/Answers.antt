use Rattle.std.proofs.Common.{◌≡◌, true, refl, subst}
use Rattle.vm_file.specs.declared.directory.Directory.{Directory}
use Rattle.vm_file.specs.Directories.{is_directory}
use Rattle.vm_blocks.specs.View.{VmState}
use Rattle.vm_blocks.specs.Listed.{IsListOf}
use Rattle.vm_blocks.specs.Opened.{AreWords}
use Rattle.vm_blocks.proofs.Begun.{memory-opened}
use Rattle.vm_blocks.proofs.Opened.{opened-tied}
use Rattle.vm_blocks.proofs.blocks.VmBlocks.new.Goals as goal

pub returns-in-Ok-clause-tied : goal.returns-in-Ok-clause-tied
returns-in-Ok-clause-tied g c = λ s laid none.
    let d = g.D.Device in
    let now = c.current-current.result.now in
    let v : VmState g.row.D.Denot = record { file = c.args.file; entries = c.list.new.table; map_block = now.map_block; map_item = now.map_item } in
    let lists : IsListOf v now = record { each = c.list.ensures.each; map_block = refl; map_item = refl } in
    opened-tied d.medium v s c.list.ensures.long
    (subst (λ (t : Directory). is_directory t ≡ true) c.current-current.ensures.same c.current-current.ensures.legal)
    (subst (IsListOf v) c.current-current.ensures.same lists) laid none

pub returns-in-Ok-clause-memory : goal.returns-in-Ok-clause-memory
returns-in-Ok-clause-memory g c = λ s none.
    let d = g.D.Device in
    let now = c.current-current.result.now in
    let cur = c.current-current.ensures in
    let saved = c.saved.ensures in
    let v : VmState g.row.D.Denot = record { file = c.args.file; entries = c.list.new.table; map_block = now.map_block; map_item = now.map_item } in
    let lists : IsListOf v now = record { each = c.list.ensures.each; map_block = refl; map_item = refl } in
    memory-opened d.medium v s (subst (IsListOf v) cur.same lists) none c.device_gives_bytes.ensures
    (subst (λ (t : Directory). is_directory t ≡ true) cur.same cur.legal) (subst (λ (t : Directory). is_directory t ≡ true) saved.same saved.legal)
    (subst AreWords cur.same c.are_words-in-Ok.ensures) (subst AreWords saved.same c.are_words.ensures)
