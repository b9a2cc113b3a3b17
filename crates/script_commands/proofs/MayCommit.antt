-- Whether an instruction that commits lies before the end of a routine, by the pc of the first one.
use Rattle.std.proofs.Common.{◌≡◌, ◌≤◌, ℕ, zero, suc, ◌+◌, Bool, true, false, List, [], ◌∷◌, take, Option, Some, None, refl, sym, ap, ◌∙◌, arith}
use Rattle.std.specs.Prelude.{nat_lt, slice_get}
use Rattle.std.specs.List.{list_any, position_from}
use Rattle.std.proofs.lemmas.Iterator.Adapters.{position_from-zero}
use Rattle.geos_image.specs.declared.routine.Routine.{Routine}
use Rattle.geos_image.specs.Parts.{Parts, start_of}
use Rattle.geos_image.proofs.Starts.{start_of-next}
use Rattle.script_commands.specs.declared.command.Call.{Call}
use Rattle.script_commands.specs.declared.command.Command.TheVariants as command
use Rattle.script_commands.specs.MayCommit.{commits_at, first_commit, may_commit}

-- there is an index, and it lies before the end
abbrev pub is_before : ℕ → Option ℕ → Bool
is_before end None = false
is_before end (Some i) = nat_lt i end

module _ {A : Type 0} (test : A → Bool) where
  -- a search that starts at k finds nothing before k
  not-below : (xs : List A) (end k : ℕ) → end ≤ k → is_before end (position_from test k xs) ≡ false
  not-below [] end k le = refl
  not-below (x ∷ xs) end k le = go (test x) refl (not-below xs end (k + 1) (omega (arith, le)))
    where
      go : (b : Bool) → test x ≡ b → is_before end (position_from test (k + 1) xs) ≡ false → is_before end (position_from test k (x ∷ xs)) ≡ false
      go true e later = let past : nat_lt k end ≡ false = grind (arith, le) in rw (e, past) refl
      go false e later = rw e later

  -- one of the first n passes, where the first that passes is one of them
  any-before : (xs : List A) (n k : ℕ) → list_any test (take n xs) ≡ is_before (k + n) (position_from test k xs)
  any-before [] zero k = refl
  any-before [] (suc n) k = refl
  any-before (x ∷ xs) zero k = sym (not-below (x ∷ xs) (k + 0) k (omega arith))
  any-before (x ∷ xs) (suc n) k = go (test x) refl (any-before xs n (k + 1))
    where
      go : (b : Bool) → test x ≡ b → list_any test (take n xs) ≡ is_before (k + 1 + n) (position_from test (k + 1) xs)
          → list_any test (take (suc n) (x ∷ xs)) ≡ is_before (k + suc n) (position_from test k (x ∷ xs))
      go true e others = let first : nat_lt k (k + suc n) ≡ true = grind arith in rw (e, first) refl
      go false e others = let end : k + suc n ≡ k + 1 + n = omega arith in rw (e, end) others

-- a call may commit if the first instruction that commits lies before the end of the called routine
pub call-may : (image : Parts) (call : Call) (routine : Routine) (start : ℕ) → slice_get image.routines call.routine ≡ Some routine
    → start ≡ start_of image.routines call.routine
    → may_commit image (command.Call call) ≡ is_before (start + routine.count) (first_commit image.points)
call-may image call routine start there start_is =
    let end : start_of image.routines (call.routine + 1) ≡ start + routine.count =
    let next : call.routine + 1 ≡ suc call.routine = omega arith in
    rw next (start_of-next image.routines call.routine routine there ∙ ap (λ n. n + routine.count) (sym start_is)) in
    let zero_more : 0 + (start + routine.count) ≡ start + routine.count = omega arith in
    ap (λ n. list_any commits_at (take n image.points)) end
    ∙ any-before commits_at image.points (start + routine.count) 0
    ∙ ap (λ n. is_before n (position_from commits_at 0 image.points)) zero_more
    ∙ ap (is_before (start + routine.count)) (sym (position_from-zero commits_at image.points))
