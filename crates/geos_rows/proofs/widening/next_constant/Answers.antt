use Rattle.std.proofs.Common.{◌≡◌, ◌⊎◌, ℕ, sym, subst, arith, inl, inr}
use Rattle.std.proofs.lemmas.Bool.{cases_eq}
use Rattle.geos_code.proofs.Bodies.{in-body}
use Rattle.geos_image.specs.Parts.{Parts}
use Rattle.geos_rows.specs.Widening.{IsBound, IsConstantAt}
use Rattle.geos_rows.proofs.Guessing.{one-constant}
use Rattle.geos_rows.proofs.widening.next_constant.Goals.{in-Some, in_default}
use Rattle.geos_rows.proofs.widening.next_constant.Goals as goal

-- what is one of two bounds is a bound
either : (image : Parts) (r a b n : ℕ) → (n ≡ a) ⊎ (n ≡ b) → IsBound image r a → IsBound image r b → IsBound image r n
either image r a b n (inl same) A B = subst (IsBound image r) (sym same) A
either image r a b n (inr same) A B = subst (IsBound image r) (sym same) B

pub loop-pc-preserved : goal.loop-pc-preserved
loop-pc-preserved c =
    let body = c.args.body.now in
    let image = body.image.now in
    let p = c.loop-pc.pc in
    let here = in-body body p c.loop-pc.auto.pc c.loop-pc-test.true in
    let before = c.loop-pc.invariant in elim c.match-constant_at.branch [
      | in-Some w ↦
          let k = w.in-Some.constant in
          let nearer = w.nearer-next-in-Some.ensures in
          let next = w.next-is in record {
            above = (let above = nearer.above before.above in omega (arith, next, above));
            is = subst (IsBound image body.r) (sym next) (either image body.r c.loop-pc.next k w.nearer-next-in-Some.result nearer.either
                before.is (inr (inr (inr (p, here, w.in-Some.ensures.some)))));
            least = λ pc n within lt is ge. elim (cases_eq pc p) [
              | inl same ↦
                  let k_is : k ≡ n = one-constant image p k n w.in-Some.ensures.some (subst (λ (m : ℕ). IsConstantAt image m n) same is) in
                  let least = nearer.least (omega (arith, k_is, ge)) in
                  omega (arith, next, least, k_is)
              | inr ne ↦
                  let old = before.least pc n within (omega (arith, lt, ne)) is ge in
                  let less = nearer.less in
                  omega (arith, next, old, less)
            ];
          }
      | in_default w ↦
          let next = w.next-is in record {
            above = (let above = before.above in omega (arith, next, above));
            is = subst (IsBound image body.r) (sym next) before.is;
            least = λ pc n within lt is ge. elim (cases_eq pc p) [
              | inl same ↦ absurd (w.in_default.ensures.none n (subst (λ (m : ℕ). IsConstantAt image m n) same is))
              | inr ne ↦ (let old = before.least pc n within (omega (arith, lt, ne)) is ge in omega (arith, next, old))
            ];
          }
    ]

pub returns-clause-least : goal.returns-clause-least
returns-clause-least c = λ pc n within is ge.
    let body = c.args.body.now in
    let below = within.below in
    c.loop-pc.invariant.least pc n within (omega (arith, below, body.ends, c.loop-pc-test.false)) is ge
