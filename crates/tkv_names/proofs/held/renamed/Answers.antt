use Rattle.tkv_names.proofs.Holding.{renames}
use Rattle.tkv_names.proofs.held.renamed.Goals as goal

pub returns : goal.returns
returns c = renames c.args.text.now c.args.held c.forgotten-left.result c.args.at c.args.register c.forgotten-left.ensures
