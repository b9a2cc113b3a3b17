-- A call that may not commit leaves what the device holds as it was, over its run.
use Rattle.std.proofs.Common.{◌≡◌, ℕ, zero, suc, ◌+◌, ◌<◌, Bool, true, false, cond, List, [], ◌∷◌, Option, Some, None, length, take, slice_get, refl, subst, arith}
use Rattle.std.specs.Prelude.{nat_lt}
use Rattle.std.specs.List.{list_any, AllByRecursion}
use Rattle.std.proofs.lemmas.Bool.{or_parts}
use Rattle.std.proofs.lemmas.List.Elements.{All-from_recursion}
use Rattle.geos_calls.specs.VmFile.{Kept}
use Rattle.geos_calls.specs.Effects.{Choice}
use Rattle.geos_opcodes.specs.Facts.{uses_of}
use Rattle.geos_image.specs.declared.instr.Instr.{Instr}
use Rattle.geos_image.specs.declared.point.Point.{Point}
use Rattle.geos_image.specs.declared.routine.Routine.{Routine}
use Rattle.geos_image.specs.Parts.{Parts, start_of}
use Rattle.geos_image.specs.Legal.{is_image}
use Rattle.geos_image.proofs.Starts.{start_of-next, start_of-le}
use Rattle.geos_verify.specs.Rules.{has_place, HasPoint, Accepted}
use Rattle.geos_verify.proofs.Places.{place_bounds, place-at}
use Rattle.geos_semantics.specs.State.{State}
use Rattle.geos_semantics.specs.Faults.{is_fault}
use Rattle.geos_semantics.specs.Model.{Outcome, Fault, Next, Done, Ending, Faulted, Returned, begun, exec, in_routine, tried, step_at, step, run}
use Rattle.geos_verify.proofs.Leads.{may_call}
use Rattle.geos_machine.specs.Runs.{begin, kept_along}
use Rattle.script_commands.specs.MayCommit.{commits_at}
use Rattle.geos_cli.specs.Commits.{OtherCallsKeep}
use Rattle.geos_cli.proofs.StepsKeep.{IsUpTo, Keeps, exec-keeps}

-- none of the first points commits
none-commits : (points : List Point) (n k : ℕ) (point : Point) → list_any commits_at (take n points) ≡ false → k < n
    → slice_get points k ≡ Some point → commits_at point ≡ false
none-commits [] n k point never lt there = absurd cc
none-commits (x ∷ points) zero k point never lt there = absurd (omega arith)
none-commits (x ∷ points) (suc n) zero point never lt there =
    let same : x ≡ point = cc in
    subst (λ (p : Point). commits_at p ≡ false) same (or_parts (commits_at x) (list_any commits_at (take n points)) never).0
none-commits (x ∷ points) (suc n) (suc k) point never lt there =
    none-commits points n k point (or_parts (commits_at x) (list_any commits_at (take n points)) never).1 (omega arith) there

-- the routine that has a pc
routine-of : (start pc : ℕ) (o : Option Routine) → elim o [ None ↦ false | Some routine ↦ has_place start routine.count pc ] ≡ true
    → (routine : Routine) × (o ≡ Some routine) × (has_place start routine.count pc ≡ true)
routine-of start pc None inside = absurd cc
routine-of start pc (Some routine) inside = (routine, refl, inside)

module _ (image : Parts) (legal : is_image image ≡ true) (accepted : Accepted image) (r : ℕ)
    (never : list_any commits_at (take (start_of image.routines (r + 1)) image.points) ≡ false)
    (kept : Kept) where
  -- the instruction at a pc of a routine up to r does not commit, and calls a routine up to r
  here-keeps : (choice : Choice) (s : State) → s.memory.file.kept ≡ kept → IsUpTo r s → (point : Point) → slice_get image.points s.pc ≡ Some point
      → in_routine image s.routine s.pc ≡ true → Keeps kept r (exec image choice point.instr point.instr.opcode s)
  here-keeps choice s same below point there inside =
      let found = routine-of (start_of image.routines s.routine) s.pc (slice_get image.routines s.routine) inside in
      let bounds = place_bounds (start_of image.routines s.routine) found.0.count s.pc found.2 in
      let end = start_of-next image.routines s.routine found.0 found.1 in
      let last = start_of-le image.routines (suc s.routine) (r + 1) (omega (arith, below.0)) in
      let quiet = none-commits image.points (start_of image.routines (r + 1)) s.pc point never (omega (arith, bounds.1, end, last)) there in
      let place = place-at image s.pc point there in
      let has : HasPoint image s.routine found.0 s.pc place.0 = record { there = found.1; within = found.2; read = place.1 } in
      exec-keeps kept r choice point.instr s same below image point.instr.opcode quiet (λ is.
      let may = may_call image.keyed image legal accepted s.routine s.pc found.0 place.0 has (rw (place.2.instr, is) refl) in
      let lower : point.instr.imm < s.routine = subst (λ (i : Instr). i.imm < s.routine) place.2.instr may.2 in
      omega (arith, lower, below.0))

  step-keeps : (choice : Choice) (s : State) → s.memory.file.kept ≡ kept → IsUpTo r s → Keeps kept r (step image choice s)
  step-keeps choice s same below = at (slice_get image.points s.pc) refl
    where
      now : State
      now = begun choice s

      tried-keeps : (point : Point) → slice_get image.points s.pc ≡ Some point → in_routine image s.routine s.pc ≡ true
          → (fault : Bool) → Keeps kept r (cond fault Fault (exec image choice point.instr point.instr.opcode now))
      tried-keeps point there inside true = tt
      tried-keeps point there inside false = here-keeps choice now same below point there inside

      within-keeps : (point : Point) → slice_get image.points s.pc ≡ Some point
          → (inside : Bool) → in_routine image s.routine s.pc ≡ inside → Keeps kept r (cond inside (tried image choice point.instr now) Fault)
      within-keeps point there true inside = tried-keeps point there inside (is_fault point.instr (uses_of point.instr.opcode) now)
      within-keeps point there false inside = tt

      at : (o : Option Point) → slice_get image.points s.pc ≡ o → Keeps kept r (step_at image choice now o)
      at None there = tt
      at (Some point) there = within-keeps point there (in_routine image s.routine s.pc) refl

  -- each state of a run has the same committed pair
  along-keeps : (choices : List Choice) (s : State) → s.memory.file.kept ≡ kept → IsUpTo r s
      → AllByRecursion (λ k. k ≡ kept) (kept_along image choices s)
  along-keeps [] s same below = (same, tt)
  along-keeps (choice ∷ choices) s same below = (same, next (along-keeps choices) (step image choice s) (step-keeps choice s same below))
    where
      next : ((t : State) → t.memory.file.kept ≡ kept → IsUpTo r t → AllByRecursion (λ k. k ≡ kept) (kept_along image choices t))
          → (o : Outcome) → Keeps kept r o
          → AllByRecursion (λ k. k ≡ kept) (elim o [ Fault ↦ [] | Next t ↦ kept_along image choices t | Done t ↦ t.memory.file.kept ∷ [] ])
      next later Fault keeps = tt
      next later (Next t) keeps = later t keeps.0 keeps.1
      next later (Done t) keeps = (keeps, tt)

  -- and so has the last state
  run-keeps : (choices : List Choice) (n : ℕ) (s : State) → s.memory.file.kept ≡ kept → IsUpTo r s → (steps : ℕ) (last : State)
      → run image 0 choices n s ≡ Returned steps last → last.memory.file.kept ≡ kept
  run-keeps [] n s same below steps last ran = absurd cc
  run-keeps (choice ∷ choices) n s same below steps last ran = next (run-keeps choices (n + 1)) (step image choice s)
      (step-keeps choice s same below) ran
    where
      back : (t : State) → t.memory.file.kept ≡ kept → (b : Bool) (rest : Ending) → (rest ≡ Returned steps last → last.memory.file.kept ≡ kept)
          → cond b (Returned (n + 1) t) rest ≡ Returned steps last → last.memory.file.kept ≡ kept
      back t same true rest later is = let at : t ≡ last = cc in subst (λ (u : State). u.memory.file.kept ≡ kept) at same
      back t same false rest later is = later is

      next : ((t : State) → t.memory.file.kept ≡ kept → IsUpTo r t → (steps : ℕ) (last : State)
          → run image 0 choices (n + 1) t ≡ Returned steps last → last.memory.file.kept ≡ kept)
          → (o : Outcome) → Keeps kept r o
          → elim o [
            | Fault ↦ Faulted
            | Next t ↦ cond (nat_lt (length t.stack) 0) (Returned (n + 1) t)
                (run image 0 choices (n + 1) t)
            | Done t ↦ Returned (n + 1) t
          ] ≡ Returned steps last
          → last.memory.file.kept ≡ kept
      next later Fault keeps is = absurd cc
      next later (Next t) keeps is = back t keeps.0 (nat_lt (length t.stack) 0) (run image 0 choices (n + 1) t)
          (later t keeps.0 keeps.1 steps last) is
      next later (Done t) keeps is = let at : t ≡ last = cc in subst (λ (u : State). u.memory.file.kept ≡ kept) at keeps

-- a call that may not commit leaves the committed pair unchanged
pub other_calls_keep : OtherCallsKeep
other_calls_keep image checked call never memory choices =
    let start = begin image call.routine call.words call.handles memory in
    let below : IsUpTo call.routine start = (omega arith, tt) in
    record {
      along = All-from_recursion (λ k. k ≡ memory.file.kept) (kept_along image choices start)
          (along-keeps image checked.0 checked.1 call.routine never memory.file.kept choices start refl below);
      behind = λ steps last ran. run-keeps image checked.0 checked.1 call.routine never memory.file.kept choices 0 start refl below steps last ran;
    }
