-- One record more, if there is one.
use Rattle.std.proofs.Common.{◌∙◌, ap, sym}
use Rattle.takhvoi.specs.Records.{records_below, with_some}
use Rattle.takhvoi.specs.Shown.{place_in}
use Rattle.takhvoi.proofs.Listed.{records-more, records-none}
use Rattle.takhvoi.proofs.places.all_places.Goals as goal

pub loop-block-init : goal.loop-block-init
loop-block-init c = c.new-places.ensures.items ∙ sym (records-none (place_in c.args.blocks.now))

pub loop-block-preserved : goal.loop-block-preserved
loop-block-preserved c =
    c.in_ok-push_some.ensures
    ∙ ap (λ xs. with_some xs c.place_in.result) c.loop-block.invariant
    ∙ ap (λ o. with_some (records_below (place_in c.args.blocks.now) c.loop-block.block) o) c.place_in.ensures
    ∙ sym (records-more (place_in c.args.blocks.now) c.loop-block.block)
