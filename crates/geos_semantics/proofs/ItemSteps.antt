-- Each step of an instruction that makes a group, or works on items, goes well.
use Rattle.std.proofs.Common.{◌≡◌, ℕ, ◌+◌, true, Option, None, List, ◌∷◌, refl, subst}
use Rattle.std.proofs.lemmas.Bool.{not-false}
use Rattle.geos_terms.specs.declared.refusal.Refusal.{Refusal}
use Rattle.geos_terms.specs.Names.{vm, group_uid}
use Rattle.geos_terms.specs.Refusals.{first_refusal}
use Rattle.geos_calls.specs.Memory.{is_group, with_mark, chunks_at}
use Rattle.geos_calls.specs.Legal.{IsMemory}
use Rattle.geos_calls.specs.Effects.{Choice, Call, bringing}
use Rattle.geos_calls.specs.declared.call.Change.{Change}
use Rattle.geos_calls.specs.declared.call.Make.{Make}
use Rattle.geos_calls.specs.ChunkCalls.{change_edit, change_row, make_edit, make_row}
use Rattle.geos_calls.specs.ItemCalls.{no_group, in_group, on_group, gnew}
use Rattle.geos_calls.specs.Keeping.{Keeps, HasWordSize}
use Rattle.geos_calls.specs.Leaving.{new_vm}
use Rattle.geos_calls.proofs.Keeps.{rows_keep_memory}
use Rattle.geos_calls.proofs.Outcomes.{after-kept}
use Rattle.geos_calls.proofs.Laws.{change-shape}
use Rattle.geos_calls.proofs.Passing.{none-behind}
use Rattle.geos_image.specs.declared.row.Row.{Row}
use Rattle.geos_opcodes.specs.declared.opcode.Opcode.TheVariants as op
use Rattle.geos_opcodes.specs.declared.uses.SlotUse.TheVariants.{NoSlot, MovesGroup}
use Rattle.geos_verify.specs.Rows.{with_bound, pointers_kept}
use Rattle.geos_verify.specs.Rows as rows
use Rattle.geos_verify.specs.Potentials.{pays}
use Rattle.geos_verify.proofs.Passed.{passed}
use Rattle.geos_semantics.specs.State.{with_word}
use Rattle.geos_semantics.specs.Model.{nowhere, changing_items, making_item}
use Rattle.geos_semantics.proofs.ChunkAnswers.{make-most}
use Rattle.geos_verify.proofs.Leads.{Leads}
use Rattle.geos_semantics.proofs.Kept.{leaves-all}
use Rattle.geos_semantics.proofs.Fine.{Fine, fine-word, fine-nothing}
use Rattle.geos_semantics.proofs.Items.{with_items, leaves-items, fine-regrouped}
use Rattle.geos_semantics.proofs.NewListed.{with_new, new-small, leaves-new}
use Rattle.geos_semantics.proofs.Moments.{Moment, Well, StepsWell, along_edge, branch_edge}
use Rattle.geos_semantics.proofs.KernelSteps.{after_call, Rechunks, fine-unchanged, calls-well}

module _ (moment : Moment) where
  open moment use {image, base, state as s, good as G}

  pub gnew-well : StepsWell moment op.Gnew
  gnew-well is choice =
      let i = G.point.instr in
      calls-well moment NoSlot (with_bound i.a 65535 G.point.row) gnew (with_word i.a) choice (along_edge moment op.Gnew is refl)
      (branch_edge moment op.Gnew is refl) (λ r. fine-unchanged moment)
      (λ e.
      let legal_after = after-kept (gnew choice s.memory) (rows_keep_memory.by_gnew choice s.memory G.sound.memory) e in
      let F = fine-nothing base s G.point.row G.sound G.meets i.a (with_new s.memory group_uid 0) (leaves-new s.memory group_uid i.a legal_after) in
      fine-word base s _ G.point.row i.a (new_vm s.memory).h 65535 F (new-small s.memory G.sound.memory) (new-small s.memory G.sound.memory))
      refl

  -- the row where a call is done that may have moved items of some group
  abbrev pub regrouped_row : Row
  regrouped_row = record G.point.row { pointers = pointers_kept G.point.instr MovesGroup G.point.row }

  -- what a call on items leaves is fine, where it is refused and where it is done
  fine-items : {A : Type 0} (g : ℕ) (row : Call A) (chunks : List (Option (List ℕ))) → Keeps (on_group g row)
      → Rechunks row (vm g) chunks s.memory → (choice : Choice)
      → ((r : Refusal) → Fine base s (after_call (on_group g row choice s.memory) G.point.instr.a ((on_group g row choice s.memory).left r) s)
      regrouped_row)
      × (first_refusal (on_group g row choice s.memory).refusals ≡ None
      → Fine base s (after_call (on_group g row choice s.memory) G.point.instr.a (on_group g row choice s.memory).after s) regrouped_row)
  fine-items g row chunks keeps rechunks choice =
      let shape = rechunks choice in
      let i = G.point.instr in (
        (λ r. rw (shape.2 r) (fine-regrouped base s G.point.row G.sound G.meets i g s.memory
            (leaves-all i.a (in_group s.memory g) s.memory G.sound.memory))),
        (λ e.
            let group : is_group s.memory g ≡ true = not-false (is_group s.memory g) (passed (on_group g row choice s.memory).refusals e).0 in
            let legal_after = after-kept (on_group g row choice s.memory) (keeps choice s.memory G.sound.memory) e in
            let legal_items = subst (λ m. IsMemory (with_mark m g true)) shape.0 legal_after in
            rw shape.0 (fine-regrouped base s G.point.row G.sound G.meets i g (with_items s.memory g chunks)
            (leaves-items i.a s.memory g chunks group legal_items))),
      )

  pub changing_items-well : Leads image s.routine G.routine (s.pc + 1) regrouped_row (pays G.point.potential)
      → Leads image s.routine G.routine G.point.instr.target (rows.refused G.point.instr MovesGroup G.point.row) (pays G.point.potential)
      → (g : ℕ) (change : Change) (choice : Choice) → Well moment (changing_items g change choice G.point.instr s)
  changing_items-well L B g change choice =
      let F = fine-items g (change_row (vm g) change) (change_edit change (chunks_at s.memory (vm g))).chunks
      (rows_keep_memory.by_item_change g change) (change-shape (vm g) change s.memory) choice in
      calls-well moment MovesGroup regrouped_row (on_group g (change_row (vm g) change)) nowhere choice L B F.0 F.1 refl

  pub making_item-well : Leads image s.routine G.routine (s.pc + 1) (with_bound G.point.instr.a 65535 regrouped_row) (pays G.point.potential)
      → Leads image s.routine G.routine G.point.instr.target (rows.refused G.point.instr MovesGroup G.point.row) (pays G.point.potential)
      → (g : ℕ) (make : Make) → HasWordSize make → (choice : Choice) → Well moment (making_item g make choice G.point.instr s)
  making_item-well L B g make word choice =
      let row = make_row (vm g) make in
      let F = fine-items g row (make_edit make (chunks_at s.memory (vm g))).chunks (rows_keep_memory.by_item_make g make word)
      (λ choice. (refl, refl, λ r. refl)) choice in
      calls-well moment MovesGroup (with_bound G.point.instr.a 65535 regrouped_row) (on_group g row) (with_word G.point.instr.a) choice L B F.0
      (λ e.
      let own = none-behind (no_group s.memory g ∷ bringing choice s.memory g) (row choice s.memory).refusals e in
      let most = make-most choice s.memory (vm g) make own in
      fine-word base s _ regrouped_row G.point.instr.a (row choice s.memory).answer 65535 (F.1 e) most most)
      refl
