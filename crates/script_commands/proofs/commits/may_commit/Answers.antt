use Rattle.std.proofs.Common.{◌≡◌, ◌+◌, ◌∙◌, Some, None, sym, ap}
use Rattle.std.specs.Prelude.{nat_lt}
use Rattle.script_commands.specs.MayCommit.{first_commit}
use Rattle.script_commands.proofs.MayCommit.{call-may, is_before}
use Rattle.script_commands.proofs.commits.may_commit.Goals as goal

pub returns-in-Some : goal.returns-in-Some
returns-in-Some c =
    let there = (rw c.image-image.ensures.image at c.routine.ensures) in
    let start_is = (rw c.image-image.ensures.image at c.start.ensures.start) in
    let end : c.from.result ≡ c.start.result + c.routine.result.now.count = cc in
    let first : first_commit c.args.checked.now.points ≡ Some c.in-Some.pc = sym c.requires.first ∙ c.in-Some.is in
    let may = call-may c.args.checked.now c.in-Call.call c.routine.result.now c.start.result there start_is in
    rw c.in-Call.is (ap (λ n. nat_lt c.in-Some.pc n) end ∙ sym (may ∙ ap (is_before (c.start.result + c.routine.result.now.count)) first))

pub returns-in-None : goal.returns-in-None
returns-in-None c =
    let there = (rw c.image-image.ensures.image at c.routine.ensures) in
    let start_is = (rw c.image-image.ensures.image at c.start.ensures.start) in
    let first : first_commit c.args.checked.now.points ≡ None = sym c.requires.first ∙ c.in-None.is in
    let may = call-may c.args.checked.now c.in-Call.call c.routine.result.now c.start.result there start_is in
    rw c.in-Call.is (sym (may ∙ ap (is_before (c.start.result + c.routine.result.now.count)) first))
