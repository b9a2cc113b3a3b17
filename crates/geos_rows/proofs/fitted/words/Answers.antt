use Rattle.std.proofs.Common.{rules}
use Rattle.geos_rows.proofs.Eight.{eight-words}
use Rattle.geos_rows.proofs.fitted.words.Goals as goal

pub returns : goal.returns
returns c = eight-words c.args.bounds.now (search rules) c.word.ensures c.word-2.ensures c.word-3.ensures c.word-4.ensures c.word-5.ensures
    c.word-6.ensures c.word-7.ensures c.word-8.ensures
