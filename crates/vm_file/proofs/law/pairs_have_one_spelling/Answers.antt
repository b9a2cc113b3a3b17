use Rattle.vm_file.proofs.OneSpelling.{one-spelling}
use Rattle.vm_file.proofs.law.pairs_have_one_spelling.Goals as goal

pub returns : goal.returns
returns c = one-spelling
