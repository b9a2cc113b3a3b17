use Rattle.std.proofs.Common.{sym}
use Rattle.geos_input.proofs.Digits.{bytes_of-digits, digits-even, digits-odd}
use Rattle.geos_input.proofs.hex.Digits.finish.Goals as goal

pub returns-in-None-clause-whole : goal.returns-in-None-clause-whole
returns-in-None-clause-whole c = rw c.in-None.is (sym (bytes_of-digits c.args.self.bytes.items))

pub returns-in-None-clause-even : goal.returns-in-None-clause-even
returns-in-None-clause-even c = rw c.in-None.is (digits-even c.args.self.bytes.items)

pub returns-in-Some-clause-odd : goal.returns-in-Some-clause-odd
returns-in-Some-clause-odd c = rw c.in-Some.is (digits-odd c.args.self.bytes.items c.in-Some.field-0)
