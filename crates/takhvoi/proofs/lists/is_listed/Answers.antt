-- The row tells the user ID of what is listed, and refuses what is not.
use Rattle.std.proofs.Common.{Ok, Err}
use Rattle.takhvoi.proofs.Looking.{listed-told}
use Rattle.takhvoi.proofs.lists.is_listed.Goals as goal

pub returns-in-Ok : goal.returns-in-Ok
returns-in-Ok c = λ f is. listed-told c.args.kernel.now.core f c.args.h (Ok c.in-Ok.field-0) (c.in-Ok.ensures.answers f is)

pub returns-in-Err : goal.returns-in-Err
returns-in-Err c = λ f is. listed-told c.args.kernel.now.core f c.args.h (Err c.in-Err.field-0) (c.in-Err.ensures.answers f is)
