use Rattle.std.proofs.Common.{◌≡◌, ◌∙◌, length, ap}
use Rattle.block_handles.specs.Change.{with_bytes}
use Rattle.block_handles.specs.Names.{slot_of}
use Rattle.block_handles.specs.Store.{size_of}
use Rattle.vm_blocks.specs.View.{vm_slot}
use Rattle.vm_blocks.proofs.make.begin.Goals as goal

pub returns : goal.returns
returns c =
    let old = c.args.blocks.now in
    let ws = c.init.new.block in
    let slot : slot_of c.vm.result ≡ vm_slot c.args.h = ap slot_of c.vm.ensures in
    record {
      fills = record {
        bytes = ws;
        long = c.init.auto.block ∙ ap length c.bytes_mut.ensures.value ∙ ap (size_of old) slot;
        is = ap (λ k. with_bytes old k ws) slot;
        heap = c.init.ensures.heap;
        handle = c.init.ensures.handle;
      };
      chunks = c.init.ensures.chunks;
    }
