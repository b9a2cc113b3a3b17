-- Which tests the instruction passes that is read at a pc.
use Rattle.std.proofs.Common.{◌≡◌, ℕ, ◌<◌, Bool, true, length, slice_get, refl, sym, ap, subst, rules}
use Rattle.std.specs.Prelude.{IfSome}
use Rattle.geos_opcodes.specs.declared.opcode.Opcode.{Opcode}
use Rattle.geos_opcodes.specs.declared.opcode.Opcode.TheVariants.{Loop, Call}
use Rattle.geos_image.specs.declared.instr.Instr.{Instr}
use Rattle.geos_image.specs.Parts.{Parts}
use Rattle.geos_verify.specs.Touched.{calls, touches}
use Rattle.geos_verify.proofs.Places.{item_at, if_some}
use Rattle.geos_code.specs.Code.{is_loop}
use Rattle.loop_causes.specs.Causes.{loops_on}
use Rattle.geos_counters.specs.Idle.{calls_touching, PassesAt}
use Rattle.geos_code.proofs.Back.{loop-only}

module _ (image : Parts) (pc : ℕ) (i : Instr) (lt : pc < length image.points)
    (there : IfSome (slice_get image.points pc) (λ point. i ≡ point.instr)) where
  -- it passes a test there that it passes
  pub passes-at : (test : Instr → Bool) → test i ≡ true → PassesAt image pc test
  passes-at test passes =
      let found = item_at image.points pc lt in
      let same : i ≡ found.0.instr = if_some (λ point. i ≡ point.instr) (slice_get image.points pc) found.0 found.1 there in
      (found.0, found.1, subst (λ (x : Instr). test x ≡ true) same passes)

  -- a LOOP is one on its own counter
  pub loops-at : is_loop i.opcode ≡ true → PassesAt image pc (λ x. loops_on i.a x x.opcode)
  loops-at is =
      let own : loops_on i.a i Loop ≡ true = search rules in
      passes-at (λ x. loops_on i.a x x.opcode) (subst (λ (o : Opcode). loops_on i.a i o ≡ true) (sym (loop-only i.opcode is)) own)

  -- a call of a routine that touches a counter
  pub calls-at : (k : ℕ) → i.opcode ≡ Call → touches image k i.imm ≡ true → PassesAt image pc (calls_touching image k)
  calls-at k is touched =
      let calls_it : calls i.opcode ≡ true = ap calls is in
      passes-at (calls_touching image k) (rw (calls_it, touched) refl)
