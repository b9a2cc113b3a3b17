use Rattle.std.proofs.Common.{◌≡◌, ◌≢◌, ◌+◌, Bool, true, List, Option, set, Some, None, refl, sym, ap, ◌∙◌, subst, arith}
use Rattle.std.specs.Prelude.{not, is_some}
use Rattle.std.proofs.lemmas.List.{get_or-set_other}
use Rattle.std.proofs.lemmas.Option.{none-some}
use Rattle.geos_image.specs.declared.row.Row.{Row}
use Rattle.geos_code.specs.Known.{known_at}
use Rattle.geos_rows.specs.Reached.{Keeps}
use Rattle.geos_rows.proofs.Reaching.{keeps-none, keeps-more, keeps-same, keeps-to}
use Rattle.geos_rows.proofs.rows.complete.Goals.{then-is_none, else-is_none}
use Rattle.geos_rows.proofs.rows.complete.Goals as goal

is-none : (o : Option Row) (b : Bool) → is_some o ≡ not b → b ≡ true → o ≡ None
is-none None b e h = refl
is-none (Some row) b e h = absurd cc

pub loop-pc-init : goal.loop-pc-init
loop-pc-init c = record { kept = keeps-none c.args.body.now.start c.args.known.now c.args.known.now; ahead = λ k le. refl }

pub loop-pc-preserved : goal.loop-pc-preserved
loop-pc-preserved c =
    let start = c.args.body.now.start in
    let old = c.args.known.now in
    let known = c.loop-pc.known in
    let pc = c.loop-pc.pc in
    let so_far = c.loop-pc.invariant in
    elim c.if-is_none.branch [
      | then-is_none w ↦
          let is : c.if-is_none.known ≡ set known pc w.at.result = w.known-is ∙ w.set.ensures in
          let none : known_at known pc ≡ None = sym (c.get.ensures None) ∙ is-none c.get.result.now c.is_none.result
          c.is_none.ensures w.if-is_none.true in
          record {
            kept = subst (λ (next : List (Option Row)). Keeps start (pc + 1) old old next) (sym is)
                (keeps-more start pc (pc + 1) old old known w.at.result refl c.loop-pc.auto.pc
                (omega (arith, so_far.kept.len, c.lengths.ensures, c.loop-pc-test.true, c.args.body.now.room, c.args.body.now.short))
                (λ row e. absurd (none-some row (sym none ∙ so_far.ahead pc (omega arith) ∙ e))) so_far.kept);
            ahead = λ k le. let ne : k ≢ pc = (λ same. absurd (omega (arith, same, le))) in
                ap (λ (next : List (Option Row)). known_at next k) is ∙ get_or-set_other known pc k w.at.result None ne
                ∙ so_far.ahead k (omega (arith, le));
          }
      | else-is_none w ↦
          let is = w.known-is in
          record {
            kept = subst (λ (next : List (Option Row)). Keeps start (pc + 1) old old next) (sym is)
                (keeps-same start pc (pc + 1) old old known refl (so_far.ahead pc (omega arith)) so_far.kept);
            ahead = λ k le. ap (λ (next : List (Option Row)). known_at next k) is ∙ so_far.ahead k (omega (arith, le));
          }
    ]

pub returns : goal.returns
returns c = keeps-to c.args.body.now.start c.loop-pc.pc c.args.body.now.end c.args.known.now c.args.known.now c.loop-pc.known
    (omega (arith, c.loop-pc-test.false)) c.loop-pc.invariant.kept
