use Rattle.std.proofs.Common.{sym, ◌∙◌, arith}
use Rattle.tkv_names.proofs.Holding.{has_name}
use Rattle.tkv_names.proofs.held.register_of.Goals as goal

pub returns-then-has_name : goal.returns-then-has_name
returns-then-has_name c = has_name c.args.text.now c.args.held.now c.args.at c.loop-register.register (omega arith) (sym c.has_name.ensures ∙ c.if-has_name.true)
