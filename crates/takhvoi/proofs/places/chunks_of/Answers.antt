-- One record more, if there is one.
use Rattle.std.proofs.Common.{◌≡◌, ◌∙◌, ◌≤◌, ap, sym, arith, length}
use Rattle.takhvoi.specs.Records.{records_below, with_some}
use Rattle.takhvoi.specs.Shown.{chunk_in}
use Rattle.takhvoi.proofs.Listed.{few-records, records-more, records-none}
use Rattle.takhvoi.proofs.places.chunks_of.Goals as goal

pub loop-handle-init : goal.loop-handle-init
loop-handle-init c = c.new-chunks.ensures.items ∙ sym (records-none (chunk_in c.args.block.now c.args.place))

pub loop-handle-preserved : goal.loop-handle-preserved
loop-handle-preserved c =
    c.in_ok-push_some.ensures
    ∙ ap (λ xs. with_some xs c.chunk_in.result) c.loop-handle.invariant
    ∙ ap (λ o. with_some (records_below (chunk_in c.args.block.now c.args.place) c.loop-handle.handle) o) c.chunk_in.ensures
    ∙ sym (records-more (chunk_in c.args.block.now c.args.place) c.loop-handle.handle)

pub returns-clause-few : goal.returns-clause-few
returns-clause-few c =
    let is : length c.loop-handle.chunks.items ≡ length (records_below (chunk_in c.args.block.now c.args.place) c.loop-handle.handle) = ap (λ xs. length xs) c.loop-handle.invariant in
    let few : length (records_below (chunk_in c.args.block.now c.args.place) c.loop-handle.handle) ≤ c.loop-handle.handle = few-records (chunk_in c.args.block.now c.args.place) c.loop-handle.handle in
    let end = c.loop-handle.auto.handle-end in
    omega (arith, is, few, end)
