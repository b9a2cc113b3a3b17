use Rattle.loop_causes.proofs.setting.words_pass.Goals as goal

pub returns-clause-passes : goal.returns-clause-passes
returns-clause-passes c = λ is. (c.find.new.self.rows, c.find.ensures, c.in_ok-passes.ensures is)
