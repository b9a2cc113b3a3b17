-- The buffer begins with the bytes, and its rest stays the same.
use Rattle.std.proofs.Common.{◌∙◌, ◌++◌, List, ℕ, ap, drop, length, refl, sym, arith}
use Rattle.std.proofs.Math.Seq.{take-length}
use Rattle.takhvoi.proofs.Found.{filled}
use Rattle.takhvoi.proofs.texts.give.Goals as goal

pub returns-clause-given : goal.returns-clause-given
returns-clause-given c = λ done.
    let fits = c.if-n-into.false in
    let with_rest : List ℕ → List ℕ = λ ws. ws ++ drop (length c.args.bytes.now) c.args.into.now in
    record {
      fits = fits;
      written = ap with_rest c.copy_from_slice.ensures.after ∙ ap with_rest (sym (take-length c.args.bytes.now))
          ∙ filled c.args.into.now c.args.bytes.now (length c.args.bytes.now) (omega arith) (omega (arith, fits)) (λ less. absurd (omega (arith, less)));
      count = refl;
    }
