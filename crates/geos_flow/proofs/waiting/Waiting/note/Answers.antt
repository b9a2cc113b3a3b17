use Rattle.std.proofs.Common.{◌≡◌, false, arith, sym, ap, ◌∙◌}
use Rattle.geos_flow.specs.Marks.{is_marked}
use Rattle.geos_flow.proofs.Kept.{room, kept-more, notes-more}
use Rattle.geos_flow.proofs.waiting.Waiting.note.Goals as goal

pub bounds-self-from-2 : goal.bounds-self-from-2
bounds-self-from-2 c =
    let w = c.args.self.now in
    let is : is_marked w.marks c.args.pc ≡ false = ap (is_marked w.marks) (sym c.from.ensures) ∙ sym c.is_marked.ensures ∙ c.if-is_marked.false in
    let lt = room w c.args.pc c.requires.there (omega arith) c.requires.kept is in
    omega (arith, lt, c.from-3.ensures)

pub overflow_add-self : goal.overflow_add-self
overflow_add-self c =
    let w = c.args.self.now in
    let is : is_marked w.marks c.args.pc ≡ false = ap (is_marked w.marks) (sym c.from.ensures) ∙ sym c.is_marked.ensures ∙ c.if-is_marked.false in
    let lt = room w c.args.pc c.requires.there (omega arith) c.requires.kept is in
    omega (arith, lt)

pub returns-clause-kept : goal.returns-clause-kept
returns-clause-kept c =
    let w = c.args.self.now in
    let is : is_marked w.marks c.args.pc ≡ false = ap (is_marked w.marks) (sym c.from.ensures) ∙ sym c.is_marked.ensures ∙ c.if-is_marked.false in
    rw (c.from-2.ensures, c.from-3.ensures) (kept-more w c.args.pc c.requires.there (omega arith) c.requires.kept is)

pub returns-clause-notes : goal.returns-clause-notes
returns-clause-notes c =
    let w = c.args.self.now in
    let is : is_marked w.marks c.args.pc ≡ false = ap (is_marked w.marks) (sym c.from.ensures) ∙ sym c.is_marked.ensures ∙ c.if-is_marked.false in
    rw (c.from-2.ensures, c.from-3.ensures) (notes-more w c.args.pc c.requires.there (omega arith) c.requires.kept is)
