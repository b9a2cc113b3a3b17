use Rattle.geos_source.specs.Views.{declared_of, draft_in}
use Rattle.geos_source.proofs.Noted.{told_text}
use Rattle.geos_source.proofs.tally.faults_of.Goals as goal

pub returns : goal.returns
returns c =
    told_text c.args.text.now _ _ _ _ _ _ (declared_of c.in_ok-declarations.declarations) (draft_in c.in_ok-draft.draft)
    (draft_in c.take_text.new.self.draft)
    c.in_ok-declarations.ensures.noted c.in_ok-declarations.ensures.settled c.in_ok-draft.ensures.said
    c.in_ok-take_text.ensures.told c.in_ok-take_text.ensures.settled
    c.too_long.ensures c.note.ensures c.without_routine.ensures c.note-2.ensures
