use Rattle.std.proofs.Common.{◌-◌, ◌∙◌, length, refl}
use Rattle.std.proofs.lemmas.Result.{on_ok_weaker}
use Rattle.vm_file.proofs.Filling.{lent, read_from}
use Rattle.vm_file.proofs.Given.{why_one}
use Rattle.vm_file.proofs.spell.read_from.Goals as goal

pub returns-clause-bytes : goal.returns-clause-bytes
returns-clause-bytes g c = λ h.
    let at = c.args.at in
    let bs = c.args.into.now in
    on_ok_weaker c.read_block.result (λ e. read_from at (length bs - at) c.args.from bs c.read_block.new.into
    (g.D.Device.medium.image c.args.device.now) refl c.requires.at c.read_block.auto.into e) (c.read_block.ensures.bytes h)

pub returns-clause-no_block : goal.returns-clause-no_block
returns-clause-no_block g c =
    let at = c.args.at in
    let bs = c.args.into.now in
    why_one g.D.Device.medium c.args.h (length bs - at) c.args.from _ _ c.read_block.new.into c.read_block.result
    (c.read_block.auto.into ∙ lent at (length bs - at) bs refl) c.read_block.ensures.no_block
