-- The row tells the length of a chunk that is there, and refuses one that is not.
use Rattle.std.proofs.Common.{Ok, Err}
use Rattle.takhvoi.proofs.Looking.{chunk-told}
use Rattle.takhvoi.proofs.lists.is_chunk.Goals as goal

pub returns-in-Ok : goal.returns-in-Ok
returns-in-Ok c = λ f is. chunk-told c.args.kernel.now.core f c.args.name c.args.c (Ok c.in-Ok.field-0) (c.in-Ok.ensures.answers f is)

pub returns-in-Err : goal.returns-in-Err
returns-in-Err c = λ f is. chunk-told c.args.kernel.now.core f c.args.name c.args.c (Err c.in-Err.field-0) (c.in-Err.ensures.answers f is)
