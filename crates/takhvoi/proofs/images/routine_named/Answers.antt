-- The name of the routine with the next number is another; past the last there is none.
use Rattle.std.proofs.Common.{◌∙◌, subst, sym, below_more}
use Rattle.std.specs.Prelude.{IfSome}
use Rattle.takhvoi.specs.Images.{IsNamed}
use Rattle.takhvoi.proofs.Named.{differ}
use Rattle.takhvoi.proofs.images.routine_named.Goals as goal

pub loop-r-preserved : goal.loop-r-preserved
loop-r-preserved c =
    below_more _ _ c.loop-r.invariant
    (subst (λ o. IfSome o (λ routine. IsNamed c.args.name.now routine → ⊥)) (sym c.routine.ensures)
    (λ is. differ _ _ (sym c.if-eq.false ∙ c.eq.ensures) (c.name_text.ensures ∙ is)))
