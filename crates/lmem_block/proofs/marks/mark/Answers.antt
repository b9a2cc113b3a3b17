use Rattle.std.proofs.Common.{◌≡◌, ◌+◌, ◌/◌, ◌<◌, Bool, List, length, ap, sym, ◌∙◌, subst, inl, inr, arith}
use Rattle.std.proofs.lemmas.Bool.{false≢true}
use Rattle.lmem_block.proofs.Counting.{marks-none_from, marks-set}
use Rattle.lmem_block.proofs.Marking.{marks-none, marks-skip, marks-add, not-full}
use Rattle.lmem_block.specs.Check.{Marks, marks_from}
use Rattle.lmem_block.proofs.marks.mark.Goals as goal
use Rattle.lmem_block.proofs.marks.mark.Goals.{then-e-ne0+then-e+else-at-lowest+else-at-block+else-at-ne2+else-starts-at, else-e-ne0, else-e-ne0-via-then-e-ne0+else-e, else-e-ne0-via-else-e-ne0}
use Rattle.lmem_block.proofs.marks.mark.Goals.{then-at-lowest-via-then-at-lowest, then-at-lowest-via-else-at-lowest+then-at-block, then-at-lowest-via-else-at-lowest+else-at-block+then-at-ne2, then-at-lowest-via-else-at-lowest+else-at-block+else-at-ne2+then-starts-at}

pub loop-i-init : goal.loop-i-init
loop-i-init c = record {
  so_far = marks-none c.args.block.now c.args.starts.now c.requires.blank;
  counted = sym (marks-none_from c.args.starts.now 0 (λ k low h. false≢true (sym (c.requires.blank k) ∙ h)));
  few = omega arith;
}

pub returns-then-at-lowest : goal.returns-then-at-lowest
returns-then-at-lowest c =
    let no_heap = not-full c.args.block.now c.loop-i.i c.entry-e.result c.loop-i.starts c.requires.header c.loop-i.invariant.so_far
    (omega (arith, c.entries-n.ensures.value)) c.entry-e.ensures (c.if-e-ne0.true, c.if-e.true) in
    elim c.then-at-lowest.branch [
      | then-at-lowest-via-then-at-lowest w ↦ no_heap (inl (omega (arith, c.table_end-lowest.ensures.value, w.if-at-lowest.true)))
      | then-at-lowest-via-else-at-lowest+then-at-block w ↦ no_heap (inr (inl w.if-at-block.true))
      | then-at-lowest-via-else-at-lowest+else-at-block+then-at-ne2 w ↦ no_heap (inr (inr (inl w.if-at-ne2.true)))
      | then-at-lowest-via-else-at-lowest+else-at-block+else-at-ne2+then-starts-at w ↦ no_heap (inr (inr (inr w.if-starts-at.true)))
    ]

pub loop-i-preserved : goal.loop-i-preserved
loop-i-preserved c =
    let b = c.args.block.now in
    let i = c.loop-i.i in
    let e = c.entry-e.result in
    let starts = c.loop-i.starts in
    let is = c.entry-e.ensures in
    let long : length starts ≡ length c.args.starts.now = c.loop-i.auto.starts in
    elim c.if-e-ne0.branch [
      | then-e-ne0+then-e+else-at-lowest+else-at-block+else-at-ne2+else-starts-at w ↦
          (let at : e / 4 < length starts = omega (arith, long, c.requires.room, w.if-at-block.false) in
          record {
            so_far = subst (λ (s : List Bool). Marks b (i + 1) s) (sym w.starts-is)
                (marks-add b i e starts c.loop-i.invariant.so_far is (w.if-e-ne0.true, w.if-e.true)
                (omega (arith, c.table_end-lowest.ensures.value, w.if-at-lowest.false)) w.if-at-ne2.false w.if-at-block.false at w.if-starts-at.false);
            counted = w.marks-is ∙ ap (λ n. n + 1) c.loop-i.invariant.counted
                ∙ subst (λ (s : List Bool). marks_from starts 0 + 1 ≡ marks_from s 0) (sym w.starts-is)
                (sym (marks-set starts (e / 4) at w.if-starts-at.false));
            few = omega (arith, w.marks-is, c.loop-i.invariant.few);
          })
      | else-e-ne0 w ↦
          (let Q : List Bool → Type 0 = λ s. Marks b (i + 1) s in
          record {
            so_far = subst Q (sym w.starts-is) (marks-skip b i starts c.loop-i.invariant.so_far (λ told. elim w.else-e-ne0.branch [
              | else-e-ne0-via-then-e-ne0+else-e v ↦ told.1 (sym is ∙ v.if-e.false)
              | else-e-ne0-via-else-e-ne0 v ↦ told.0 (sym is ∙ v.if-e-ne0.false)
            ]));
            counted = w.marks-is ∙ subst (λ (s : List Bool). c.loop-i.marks ≡ marks_from s 0) (sym w.starts-is) c.loop-i.invariant.counted;
            few = omega (arith, w.marks-is, c.loop-i.invariant.few);
          })
    ]
