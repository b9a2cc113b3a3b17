-- A group that is locked for an item and unlocked is as it was.
use Rattle.std.proofs.Common.{◌∙◌, Ok, subst, sym}
use Rattle.std.proofs.lemmas.Bool.{eq-eqb, ne_eqb}
use Rattle.geos_terms.specs.declared.name.Name.{Name}
use Rattle.geos_calls.specs.ItemCalls.{iunlock}
use Rattle.geos_kernel.specs.Kernel.{Calls}
use Rattle.geos_kernel.specs.View.{IsLocked}
use Rattle.takhvoi.proofs.Grouped.{brought-again, brought-still, item-found, may-unlock, no-item, not-brought}
use Rattle.takhvoi.proofs.Steps.{given-err, given-ok}
use Rattle.takhvoi.proofs.lists.is_item.Goals as goal

pub iunlock-requires-clause-locked : goal.iunlock-requires-clause-locked
iunlock-requires-clause-locked c =
    let known = c.memory_is_legal.ensures.file in
    let given = given-ok _ c.in-Ok._span _ _ _ c.in-Ok.ensures.gives in
    subst (λ name. IsLocked c.ilock.new.self.core name) (sym c.vm.ensures)
    (may-unlock c.args.kernel.now.core c.ilock.new.self.core c.args.group c.args.c given.0 given.1 known.0 known.1
    c.memory_is_legal-in-Ok.ensures.locks)

pub returns-in-Ok-clause-brought : goal.returns-in-Ok-clause-brought
returns-in-Ok-clause-brought c =
    let given = given-ok _ c.in-Ok._span _ _ _ c.in-Ok.ensures.gives in
    brought-again c.args.kernel.now.core c.ilock.new.self.core c.args.group c.args.c given.0 given.1 c.iunlock.new.self.core
    (subst (λ (name : Name). Calls (Unit {0}) (iunlock name.h) (Ok (tt {0})) c.ilock.new.self.core c.iunlock.new.self.core) c.vm.ensures c.iunlock.ensures.calls)
    c.memory_is_legal.ensures.locks

pub returns-in-Ok-clause-found : goal.returns-in-Ok-clause-found
returns-in-Ok-clause-found c = λ f is.
    let given = given-ok _ c.in-Ok._span _ _ _ c.in-Ok.ensures.gives in
    item-found c.args.kernel.now.core c.ilock.new.self.core c.args.group c.args.c given.0 given.1 f is

pub returns-then-number-eq-BAD_CHUNK-clause-brought : goal.returns-then-number-eq-BAD_CHUNK-clause-brought
returns-then-number-eq-BAD_CHUNK-clause-brought c =
    brought-still c.args.kernel.now.core c.ilock.new.self.core c.args.group c.args.c c.in-Err.why
    (given-err _ c.in-Err.why _ _ _ c.in-Err.ensures.gives) (eq-eqb _ _ (sym c.number.ensures ∙ c.if-number-eq-BAD_CHUNK.true))

pub returns-then-number-eq-BAD_CHUNK-clause-found : goal.returns-then-number-eq-BAD_CHUNK-clause-found
returns-then-number-eq-BAD_CHUNK-clause-found c = λ f is.
    no-item c.args.kernel.now.core c.ilock.new.self.core c.args.group c.args.c c.in-Err.why
    (given-err _ c.in-Err.why _ _ _ c.in-Err.ensures.gives) f is (eq-eqb _ _ (sym c.number.ensures ∙ c.if-number-eq-BAD_CHUNK.true))

pub returns-else-number-eq-BAD_CHUNK-clause-refused : goal.returns-else-number-eq-BAD_CHUNK-clause-refused
returns-else-number-eq-BAD_CHUNK-clause-refused c =
    not-brought c.args.kernel.now.core c.ilock.new.self.core c.args.group c.args.c c.in-Err.why
    (given-err _ c.in-Err.why _ _ _ c.in-Err.ensures.gives) (ne_eqb _ _ (λ is. c.if-number-eq-BAD_CHUNK.false (c.number.ensures ∙ is)))
