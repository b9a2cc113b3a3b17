-- Each step of an instruction that tells of the VM file, maps or frees goes well.
use Rattle.std.proofs.Common.{◌≡◌, ℕ, ◌+◌, None, refl, ap, ◌∙◌, subst, arith}
use Rattle.std.specs.Prelude.{◌==◌, is_none}
use Rattle.std.proofs.lemmas.Bool.{ltb-false}
use Rattle.geos_terms.specs.declared.name.Owner.{Owner}
use Rattle.geos_terms.specs.declared.name.Owner.TheVariants as owner
use Rattle.geos_terms.specs.Names.{vm, group_uid}
use Rattle.geos_terms.specs.Refusals.{first_refusal}
use Rattle.geos_calls.specs.Directories.{uid_in, is_marked_in}
use Rattle.geos_calls.specs.Handles.{at_handle}
use Rattle.geos_calls.specs.Memory.{Memory, owned_block, locks_in, chunks_in, locks_of}
use Rattle.geos_calls.specs.Legal.{IsMemory}
use Rattle.geos_calls.specs.Effects.{Choice, Nothing, come_to}
use Rattle.geos_calls.specs.VmCalls.{vfind, vuid, vsetmap}
use Rattle.geos_calls.specs.ItemCalls.{isetmap}
use Rattle.geos_calls.specs.Table.{KernelCall, Vfree, Gfree, row}
use Rattle.geos_calls.specs.Leaving.{scope_of, LeavesOthers}
use Rattle.geos_calls.proofs.Keeps.{rows_keep_memory}
use Rattle.geos_calls.proofs.Outcomes.{after-kept}
use Rattle.geos_calls.proofs.Leaves.{rows_leave}
use Rattle.geos_opcodes.specs.declared.opcode.Opcode.TheVariants as op
use Rattle.geos_opcodes.specs.declared.uses.SlotUse.TheVariants.{NoSlot}
use Rattle.geos_verify.proofs.Passed.{passed}
use Rattle.geos_semantics.specs.State.{word}
use Rattle.geos_semantics.specs.Model.{nowhere}
use Rattle.geos_semantics.proofs.NoFaults.{word-small}
use Rattle.geos_semantics.proofs.Stays.{stays-from}
use Rattle.geos_semantics.proofs.Kept.{Leaves}
use Rattle.geos_semantics.proofs.FileAnswers.{map_block-small, map_group-small, map_item-small, found-small, uid-small}
use Rattle.geos_semantics.proofs.Fine.{fine-word, fine-nothing}
use Rattle.geos_semantics.proofs.Moments.{Moment, StepsWell, along_edge, branch_edge, fine-goes}
use Rattle.geos_semantics.proofs.KernelSteps.{fine-unchanged, calls-well, freeing-well, telling-well}

-- memory in which each block is as it was, whatever changes in the rest of the file
pub leaves-blocks : (a : ℕ) (old new : Memory) → IsMemory new → new.blocks ≡ old.blocks → new.file.cur.blocks ≡ old.file.cur.blocks
    → Leaves a Nothing old new
leaves-blocks a old new legal blocks listed = record {
  legal = legal;
  locks = λ name. ap locks_in (same name.owner name.h);
  held = λ held.
      stays-from old new held (λ there. ap is_none (same _ held.handle) ∙ there)
      (ap (λ entries. uid_in (at_handle None entries held.handle) == group_uid) listed)
      (ap (λ entries. is_marked_in (at_handle None entries held.handle)) listed);
  chunks = λ target fresh h. record {
    bytes = h.bytes;
    there = rw (ap chunks_in (same target.reference.name.owner target.reference.name.h))
        h.there;
    fits = h.fits;
  };
}
  where
    same : (o : Owner) (h : ℕ) → owned_block new o h ≡ owned_block old o h
    same owner.Mem h = ap (λ entries. at_handle None entries h) blocks
    same owner.Vm h = rw listed refl

-- what a call that is done leaves of the blocks that it is not on
pub after-others : (call : KernelCall) (choice : Choice) (m : Memory) → first_refusal (row call choice m).refusals ≡ None
    → LeavesOthers (scope_of call m) m (row call choice m).after
after-others call choice m e =
    subst (λ o. LeavesOthers (scope_of call m) m (come_to o (row call choice m).left (row call choice m).answer (row call choice m).after).1) e
    (rows_leave.others call choice m)

module _ (moment : Moment) where
  open moment use {image, base, state as s, good as G}

  -- Calls that tell

  pub vfind-well : StepsWell moment op.Vfind
  vfind-well is choice =
      let i = G.point.instr in
      telling-well moment NoSlot refl i.a 65535 (omega arith) (along_edge moment op.Vfind is refl)
      (branch_edge moment op.Vfind is refl) (vfind (word s i.b) (word s i.c)) choice (refl, refl, λ r. refl)
      (λ e. found-small s.memory (word s i.b) (word s i.c) G.sound.memory)

  pub vuid-well : StepsWell moment op.Vuid
  vuid-well is choice =
      let i = G.point.instr in
      telling-well moment NoSlot refl i.a 65535 (omega arith) (along_edge moment op.Vuid is refl)
      (branch_edge moment op.Vuid is refl) (vuid (word s i.b)) choice (refl, refl, λ r. refl)
      (λ e. uid-small s.memory (word s i.b) G.sound.memory)

  -- VGETMAP is never refused
  pub vgetmap-well : StepsWell moment op.Vgetmap
  vgetmap-well is choice =
      let i = G.point.instr in
      let F = fine-word base s _ G.point.row i.a s.memory.file.cur.map_block 65535 (fine-unchanged moment)
      (map_block-small s.memory G.sound.memory) (map_block-small s.memory G.sound.memory) in
      fine-goes moment _ (s.pc + 1) _ (along_edge moment op.Vgetmap is refl) F

  pub igetmap-well : StepsWell moment op.Igetmap
  igetmap-well is choice =
      let i = G.point.instr in
      let F = fine-word base s _ G.point.row i.a s.memory.file.cur.map_group 65535 (fine-unchanged moment)
      (map_group-small s.memory G.sound.memory) (map_group-small s.memory G.sound.memory) in
      let E = fine-word base s _ _ i.b s.memory.file.cur.map_item 65535 F (map_item-small s.memory G.sound.memory)
      (map_item-small s.memory G.sound.memory) in
      fine-goes moment _ (s.pc + 1) _ (along_edge moment op.Igetmap is refl) E

  -- Calls that map

  pub vsetmap-well : StepsWell moment op.Vsetmap
  vsetmap-well is choice =
      let i = G.point.instr in
      let h = word s i.a in
      calls-well moment NoSlot _ (vsetmap h) nowhere choice (along_edge moment op.Vsetmap is refl)
      (branch_edge moment op.Vsetmap is refl) (λ r. fine-unchanged moment)
      (λ e.
      let legal_after = after-kept (vsetmap h choice s.memory) (rows_keep_memory.by_vsetmap h choice s.memory G.sound.memory) e in
      fine-nothing base s G.point.row G.sound G.meets i.a _ (leaves-blocks i.a s.memory _ legal_after refl refl))
      refl

  pub isetmap-well : StepsWell moment op.Isetmap
  isetmap-well is choice =
      let i = G.point.instr in
      let small = word-small base s i.b G.sound in
      let g = word s i.a in
      let item = word s i.b in
      calls-well moment NoSlot _ (isetmap g item) nowhere choice (along_edge moment op.Isetmap is refl)
      (branch_edge moment op.Isetmap is refl) (λ r. fine-unchanged moment)
      (λ e.
      let legal_after = after-kept (isetmap g item choice s.memory)
      (rows_keep_memory.by_isetmap g item (omega (arith, small)) choice s.memory G.sound.memory) e in
      fine-nothing base s G.point.row G.sound G.meets i.a _ (leaves-blocks i.a s.memory _ legal_after refl refl))
      refl

  -- Calls that free

  pub vfree-well : StepsWell moment op.Vfree
  vfree-well is =
      let h = word s G.point.instr.a in
      let call = row (Vfree h) in
      freeing-well moment call (vm h) (along_edge moment op.Vfree is refl) (branch_edge moment op.Vfree is refl)
      (rows_keep_memory.by_vfree h) (λ choice. (refl, λ r. refl)) (λ choice e.
      let free = ltb-false 0 (locks_of s.memory (vm h)) ((passed (call choice s.memory).refusals e).1.1.0) in
      (omega (arith, free), after-others (Vfree h) choice s.memory e, rows_leave.counts (Vfree h) choice s.memory tt e))

  pub gfree-well : StepsWell moment op.Gfree
  gfree-well is =
      let g = word s G.point.instr.a in
      let call = row (Gfree g) in
      freeing-well moment call (vm g) (along_edge moment op.Gfree is refl) (branch_edge moment op.Gfree is refl)
      (rows_keep_memory.by_gfree g) (λ choice. (refl, λ r. refl)) (λ choice e.
      let free = ltb-false 0 (locks_of s.memory (vm g)) ((passed (call choice s.memory).refusals e).1.0) in
      (omega (arith, free), after-others (Gfree g) choice s.memory e, rows_leave.counts (Gfree g) choice s.memory tt e))
