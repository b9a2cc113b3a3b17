use Rattle.std.proofs.Common.{ℕ, ◌-◌, subst}
use Rattle.lmem_raw.specs.Bytes.{part}
use Rattle.block_handles.specs.Store.{bytes_of, place_of}
use Rattle.block_handles.specs.Offsets.{CoversRange, WritesCovered}
use Rattle.block_handles.proofs.Laws.{copy-covered}
use Rattle.block_handles.proofs.Readies.{kept-after_write}
use Rattle.block_handles.proofs.Blocks.copy.Goals as goal

pub invariant_of-self : goal.invariant_of-self
invariant_of-self c = kept-after_write c.self.inside.arena c.copy.new.self c.self.inside.gap c.self.inside.used.words.items
    c.args.to c.copy.ensures.bytes c.copy.ensures.wrote c.self.invariant

pub returns-clause-covered : goal.returns-clause-covered
returns-clause-covered c =
    subst (λ s. (slot : ℕ) → CoversRange s slot c.args.from c.args.count → WritesCovered s c.copy.new.self c.args.to
    (part (bytes_of s slot) (c.args.from - place_of s slot) c.args.count)) c.self.view_is
    (copy-covered c.self.inside.arena c.copy.new.self c.args.from c.args.to c.args.count c.self.invariant.ready.laid c.copy.ensures)
