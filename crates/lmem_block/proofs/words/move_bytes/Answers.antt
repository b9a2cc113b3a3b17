use Rattle.std.proofs.Common.{◌∙◌}
use Rattle.lmem_raw.proofs.Parts.{copied}
use Rattle.lmem_block.proofs.words.move_bytes.Goals as goal

pub returns : goal.returns
returns c = c.copy_within.ensures.after ∙ copied c.args.block.now c.args.from c.args.count c.args.to c.requires.source c.requires.target
