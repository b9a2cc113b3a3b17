use Rattle.std.proofs.Common.{◌≡◌, ◌+◌, ◌-◌, ◌≤◌, ℕ, length, subst, sym, arith}
use Rattle.vm_file.specs.Outcomes.{CausesNoBlocks, IsOfBlock}
use Rattle.vm_file.proofs.spell.append_block.Goals as goal

pub returns-clause-no_block : goal.returns-clause-no_block
returns-clause-no_block g c =
    let len = rw c.unwrap.ensures at c.resize.ensures.len in
    let n : length c.deref_mut.result.now - c.len-at.result ≡ c.args.n = omega (arith, c.deref_mut.ensures.len, len) in
    let P : ℕ → Type 0 = λ k. CausesNoBlocks g.D.Device.medium (IsOfBlock c.args.h k) c.args.device.now c.read_from.new.device c.read_from.result in
    subst P n c.read_from.ensures.no_block

pub read_from-requires-clause-within : goal.read_from-requires-clause-within
read_from-requires-clause-within g c =
    let len = rw c.unwrap.ensures at c.resize.ensures.len in
    let n : length c.deref_mut.result.now - c.len-at.result ≡ c.args.n = omega (arith, c.deref_mut.ensures.len, len) in
    subst (λ k. c.args.from + k ≤ length (g.D.Device.medium.image c.args.device.now)) (sym n) c.requires.within
