-- The theorem on placed routines and that on names, one after the other.
use Rattle.std.proofs.Common.{◌≡◌, ℕ, zero, suc, Bool, List, [], ◌∷◌, ◌++◌, sym, ◌∙◌, subst, inl, inr}
use Rattle.geos_calls.specs.Effects.{Choice}
use Rattle.geos_image.specs.declared.instr.Instr.{Instr}
use Rattle.geos_semantics.specs.Lists.{Each}
use Rattle.vm_file.specs.Device.{Medium}
use Rattle.geos_kernel.specs.View.{memory_of}
use Rattle.geos_kernel.specs.Kernel.{IsChosen}
use Rattle.geos_machine.specs.Runs.{begin, Throughout}
use Rattle.tkv_meaning.specs.Statements.{Stmt, Skip, Act, Try, Leave, Then, Block, Loop, Count, Closing}
use Rattle.tkv_meaning.specs.Meaning.{Scope, first_scope, Way, Drifts, Acts, Action, Again, Spent, Turns, Does}
use Rattle.tkv_names.specs.Named.{Outputs}
use Rattle.tkv_names.specs.Straight.{Any}
use Rattle.tkv_theorem.specs.Theorem.{DidAsWritten}
use Rattle.tkv_theorem.specs.Named.{CoveredRunsAsNamed}
use Rattle.tkv_theorem.proofs.Chained.{compiled_runs}

each_any : (cs : List Choice) → Each Any cs
each_any [] = tt
each_any (c ∷ cs) = (tt, each_any cs)

module _ (allowed : Choice → Type 0) where
  drifts_any : (x y : Scope) → Drifts allowed x y → Drifts Any x y
  drifts_any x y (cs, each, e) = (cs, each_any cs, e)

  acts_any : (i : Instr) (x : Scope) (leaves : Bool) (y : Scope) → Acts allowed i x leaves y → Acts Any i x leaves y
  acts_any i x leaves y acts = record {
    choice = acts.choice;
    chosen = tt;
    before = acts.before;
    from_x = acts.from_x;
    after = acts.after;
    to_y = acts.to_y;
    step = acts.step;
  }

  again_any : (k : ℕ) (x y : Scope) → Again allowed k x y → Again Any k x y
  again_any k x y (m, drifts, above, more) = (m, drifts_any x m drifts, above, drifts_any _ y more)

  spent_any : (k : ℕ) (x y : Scope) → Spent allowed k x y → Spent Any k x y
  spent_any k x y (m, drifts, none, more) = (m, drifts_any x m drifts, none, drifts_any m y more)

  turns_any : (k : ℕ) (body other : Action) → ((x : Scope) (way : Way) (y : Scope) → body x way y → other x way y) → (n : ℕ) (x : Scope) (way : Way) (y : Scope)
      → Turns allowed k body n x way y → Turns Any k other n x way y
  turns_any k body other f zero x way y (inl (spent, on)) = inl (spent_any k x y spent, on)
  turns_any k body other f zero x way y (inr (m, j, again, does, out)) = inr (m, j, again_any k x m again, f m _ y does, out)
  turns_any k body other f (suc n) x way y (m, z, again, does, turns) =
      (m, z, again_any k x m again, f m _ z does, turns_any k body other f n z way y turns)

  -- what statements do under some choices they may do under any
  does_any : (a : Stmt) (x : Scope) (way : Way) (y : Scope) → Does allowed a x way y → Does Any a x way y
  does_any Skip x way y (drifts, on) = (drifts_any x y drifts, on)
  does_any (Act i) x way y (m, drifts, acts, on) = (m, drifts_any x m drifts, acts_any i m _ y acts, on)
  does_any (Try i l) x way y (m, drifts, inl (acts, on)) = (m, drifts_any x m drifts, inl (acts_any i m _ y acts, on))
  does_any (Try i l) x way y (m, drifts, inr (acts, out)) = (m, drifts_any x m drifts, inr (acts_any i m _ y acts, out))
  does_any (Leave l) x way y (drifts, out) = (drifts_any x y drifts, out)
  does_any (Then a b) x way y (inl (m, one, other)) = inl (m, does_any a x _ m one, does_any b m way y other)
  does_any (Then a b) x way y (inr (j, one, out)) = inr (j, does_any a x _ y one, out)
  does_any (Block l a) x way y (inner, does, out) = (inner, does_any a x inner y does, out)
  does_any (Loop k a) x way y (inl (m, one, (n, turns))) =
      inl (m, does_any a x _ m one, (n, turns_any k (Does allowed a) (Does Any a) (does_any a) n m way y turns))
  does_any (Loop k a) x way y (inr (j, one, out)) = inr (j, does_any a x _ y one, out)
  does_any (Count k a) x way y (n, turns) = (n, turns_any k (Does allowed a) (Does Any a) (does_any a) n x way y turns)
  does_any (Closing a i) x way y (m, n, does, drifts, acts) = (m, n, does_any a x way m does, drifts_any m n drifts, acts_any i n _ y acts)

pub covered_runs : {D : Type 0} (medium : Medium D) → CoveredRunsAsNamed medium
covered_runs {D} medium image placed written r items there text source index means words handles size old new outcome gave f is =
    subst (λ (output : List ℕ). Outputs text source index words output) (sym (did.output ∙ named.1)) named.2
  where
    did : DidAsWritten (medium.honest old.device) (Throughout medium old.device new.device) items.items
        (first_scope (begin image r words handles (memory_of old.core f))) old.core new.core outcome
    did = compiled_runs medium image placed written r items there words handles old new outcome gave f is

    named : (output : List ℕ) × (did.last.output ≡ [] ++ output) × Outputs text source index words output
    named = means did.body did.spells (first_scope (begin image r words handles (memory_of old.core f))) did.last size
        (does_any (IsChosen (medium.honest old.device) old.core new.core) (Then did.body Skip)
        (first_scope (begin image r words handles (memory_of old.core f))) _ did.last did.does)
