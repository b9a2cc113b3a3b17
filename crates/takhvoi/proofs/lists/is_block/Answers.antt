-- A block that is locked once more and unlocked is as it was.
use Rattle.std.proofs.Common.{◌∙◌, Ok, ap, subst, sym}
use Rattle.std.specs.Prelude.{◌==◌}
use Rattle.geos_calls.specs.Calls.{unlock}
use Rattle.geos_kernel.specs.Kernel.{Calls}
use Rattle.geos_kernel.specs.View.{IsLocked}
use Rattle.takhvoi.proofs.Relocked.{back-again, may-unlock, refused-found, refused-looks}
use Rattle.takhvoi.proofs.lists.is_block.Goals as goal

pub munlock-requires : goal.munlock-requires
munlock-requires c =
    let known = c.memory_is_legal.ensures.file in
    subst (λ name. IsLocked c.mlock.new.self.core name) (sym c.mem.ensures)
    (may-unlock c.args.kernel.now.core c.mlock.new.self.core c.args.h c.in-Ok.ensures.calls known.0 known.1 c.memory_is_legal-in-Ok.ensures.locks)

pub returns-in-Ok-clause-looks : goal.returns-in-Ok-clause-looks
returns-in-Ok-clause-looks c =
    back-again c.args.kernel.now.core c.mlock.new.self.core c.args.h c.in-Ok.ensures.calls c.munlock.new.self.core
    (subst (λ name. Calls (Unit {0}) (unlock name) (Ok (tt {0})) c.mlock.new.self.core c.munlock.new.self.core) c.mem.ensures c.munlock.ensures.calls)
    c.memory_is_legal.ensures.locks

pub returns-in-Err-clause-looks : goal.returns-in-Err-clause-looks
returns-in-Err-clause-looks c = refused-looks c.args.kernel.now.core c.mlock.new.self.core c.args.h c.in-Err.why c.in-Err.ensures.calls

pub returns-in-Err-clause-found : goal.returns-in-Err-clause-found
returns-in-Err-clause-found c = λ f is.
    ap (λ n. n == 7) c.number.ensures
    ∙ refused-found c.args.kernel.now.core c.mlock.new.self.core c.args.h c.in-Err.why c.in-Err.ensures.calls f is
