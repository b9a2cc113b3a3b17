use Rattle.std.proofs.Common.{◌≡◌, ℕ, true, false, sym, ◌∙◌, subst, inl, inr}
use Rattle.std.specs.Prelude.{slice_index_or}
use Rattle.std.proofs.lemmas.Bool.{cases_eq, false≢true}
use Rattle.geos_potentials.specs.Least.{is_free}
use Rattle.control_graph.specs.declared.jumps.Jump.TheVariants.{Plain}
use Rattle.geos_potentials.proofs.constants.free_at.Goals as goal

pub returns-then-is_left_out-clause-stay : goal.returns-then-is_left_out-clause-stay
returns-then-is_left_out-clause-stay c = λ pc k arc read takes busy. elim (cases_eq pc c.args.pc) [
  | inl same ↦
      let here : is_free (slice_index_or c.args.splitting.now.jumps c.args.pc Plain) ≡ true = sym c.is_left_out.ensures ∙ c.if-is_left_out.true in
      let there = subst (λ (n : ℕ). is_free (slice_index_or c.args.splitting.now.jumps n Plain) ≡ false) same busy in
      absurd (false≢true (sym there ∙ here))
  | inr ne ↦ c.free_loop.ensures.others pc k ne
]
