-- What it takes that the step of a kernel call goes well.
use Rattle.std.proofs.Common.{◌≡◌, ℕ, ◌+◌, ◌≤◌, false, Option, Some, None, List, [], refl, sym, ap, subst, ◌∙◌, set, arith}
use Rattle.std.specs.Prelude.{is_none}
use Rattle.geos_terms.specs.declared.name.Name.{Name}
use Rattle.geos_terms.specs.declared.refusal.Refusal.{Refusal}
use Rattle.geos_terms.specs.Refusals.{refusal_number, first_refusal}
use Rattle.geos_calls.specs.Memory.{Memory, locks_of, with_chunks}
use Rattle.geos_calls.specs.Legal.{AreBytes, IsMemory}
use Rattle.geos_calls.specs.Effects.{Choice, Reference, Nothing, InBlock, Effect, Call, come_to}
use Rattle.geos_calls.specs.Keeping.{Keeps}
use Rattle.geos_calls.specs.Leaving.{LeavesOthers, OneBlock}
use Rattle.geos_calls.specs.Calls.{written}
use Rattle.geos_calls.proofs.Keeps.{rows_keep_memory}
use Rattle.geos_calls.proofs.Outcomes.{after-kept}
use Rattle.geos_image.specs.declared.row.Row.{Row}
use Rattle.geos_opcodes.specs.declared.uses.SlotUse.{SlotUse}
use Rattle.geos_opcodes.specs.declared.uses.SlotUse.TheVariants.{Moves, NoSlot, LooksAt}
use Rattle.geos_verify.specs.Rows.{with_bound, pointers_kept}
use Rattle.geos_verify.specs.Rows as rows
use Rattle.geos_verify.specs.Potentials.{pays}
use Rattle.geos_semantics.specs.State.{SlotReference, State, with_word, slot, kind_at, name_at, kept_pointers, goto}
use Rattle.geos_semantics.specs.Model.{Next, answered, call, calls, nowhere, leading}
use Rattle.geos_semantics.specs.Meets.{IsInChunk}
use Rattle.geos_verify.proofs.Leads.{Leads}
use Rattle.geos_semantics.proofs.Kept.{leaves-all}
use Rattle.geos_semantics.proofs.Bounds.{held-at, refusal_number-le}
use Rattle.geos_semantics.proofs.Fine.{Fine, fine-word, fine-same, fine-nothing, fine-moved, leaves-chunks, leaves-written, fine-pointing}
use Rattle.geos_semantics.proofs.FineLocks.{fine-freed}
use Rattle.geos_semantics.proofs.Moments.{Moment, Well, fine-goes}

-- what an instruction makes of its state by a call that leaves this memory
abbrev pub after_call : {A : Type 0} → Effect A → ℕ → Memory → State → State
after_call effect a m s = record s { memory = m; pointers = kept_pointers a effect.stale s.pointers }

-- nothing is refused from outside, and nothing given
abbrev quiet : Choice
quiet = record { first_room = false; last_room = false; device = false; unsure = false; memory = false; given = [] }

-- a call gives the named block other chunks, makes stale what leads into it, and changes nothing
-- where it is refused
abbrev pub Rechunks : {A : Type 0} → Call A → Name → List (Option (List ℕ)) → Memory → Type 0
Rechunks call name chunks m = (choice : Choice) → ((call choice m).after ≡ with_chunks m name chunks)
    × ((call choice m).stale ≡ InBlock name) × ((r : Refusal) → (call choice m).left r ≡ m)

-- a call changes nothing, and makes nothing stale
abbrev pub LeavesAll : {A : Type 0} → Effect A → Memory → Type 0
LeavesAll effect m = (effect.after ≡ m) × (effect.stale ≡ Nothing) × ((r : Refusal) → effect.left r ≡ m)

module _ (moment : Moment) where
  open moment use {image, base, state as s, good as G}

  -- the row where a call is done that may have moved chunks of the block in slot a
  abbrev pub moved_row : Row
  moved_row = record G.point.row { pointers = pointers_kept G.point.instr Moves G.point.row }

  -- a call that changes nothing leaves a state that is fine
  pub fine-unchanged : Fine base s (record s { memory = s.memory; pointers = kept_pointers G.point.instr.a Nothing s.pointers }) G.point.row
  fine-unchanged = fine-same base s G.point.row G.sound G.meets G.point.instr.a

  -- where one is refused, its number is in w7
  refused-goes : (t : State) (slot : SlotUse) → Leads image s.routine G.routine G.point.instr.target
      (rows.refused G.point.instr slot G.point.row) (pays G.point.potential) → (r : Refusal)
      → Fine base s t (record G.point.row { pointers = pointers_kept G.point.instr slot G.point.row })
      → Well moment (Next (goto G.point.instr.target (with_word 7 (refusal_number r) t)))
  refused-goes t slot L r F =
      fine-goes moment (with_word 7 (refusal_number r) t) G.point.instr.target (rows.refused G.point.instr slot G.point.row) L
      (fine-word base s t (record G.point.row { pointers = pointers_kept G.point.instr slot G.point.row }) 7
      (refusal_number r) 15 F (refusal_number-le r) (omega (arith, refusal_number-le r)))

  -- a call, from what it does where it is refused and where it is done
  pub calls-well : {A : Type 0} (slot : SlotUse) (next : Row) (row : Call A) (put : A → State → State) (choice : Choice)
      → Leads image s.routine G.routine (s.pc + 1) next (pays G.point.potential)
      → Leads image s.routine G.routine G.point.instr.target (rows.refused G.point.instr slot G.point.row) (pays G.point.potential)
      → ((r : Refusal) → Fine base s (after_call (row choice s.memory) G.point.instr.a ((row choice s.memory).left r) s)
      (record G.point.row { pointers = pointers_kept G.point.instr slot G.point.row }))
      → (first_refusal (row choice s.memory).refusals ≡ None
      → Fine base s (put (row choice s.memory).answer (after_call (row choice s.memory) G.point.instr.a (row choice s.memory).after s)) next)
      → (put (row choice s.memory).answer (after_call (row choice s.memory) G.point.instr.a (row choice s.memory).after s)).pc ≡ s.pc
      → Well moment (calls row put choice G.point.instr s)
  calls-well slot next row put choice L B on_refusal on_done same_pc = go (first_refusal (row choice s.memory).refusals) refl
    where
      go : (o : Option Refusal) → first_refusal (row choice s.memory).refusals ≡ o
          → Well moment (answered G.point.instr put (record s { pointers = kept_pointers G.point.instr.a (row choice s.memory).stale s.pointers })
          (come_to o (row choice s.memory).left (row choice s.memory).answer (row choice s.memory).after))
      go None e =
          let t = put (row choice s.memory).answer (after_call (row choice s.memory) G.point.instr.a (row choice s.memory).after s) in
          subst (λ n. Well moment (Next (goto (n + 1) t))) (sym same_pc) (fine-goes moment t (s.pc + 1) next L (on_done e))
      go (Some r) e = refused-goes (after_call (row choice s.memory) G.point.instr.a ((row choice s.memory).left r) s) slot B r (on_refusal r)

  -- Calls that change nothing

  -- one that tells a number, which a word gets
  pub telling-well : (slot : SlotUse) → pointers_kept G.point.instr slot G.point.row ≡ G.point.row.pointers → (k most : ℕ)
      → most ≤ 65535 → Leads image s.routine G.routine (s.pc + 1) (with_bound k most G.point.row) (pays G.point.potential)
      → Leads image s.routine G.routine G.point.instr.target (rows.refused G.point.instr slot G.point.row) (pays G.point.potential)
      → (row : Call ℕ) (choice : Choice) → LeavesAll (row choice s.memory) s.memory
      → (first_refusal (row choice s.memory).refusals ≡ None → (row choice s.memory).answer ≤ most)
      → Well moment (calls row (with_word k) choice G.point.instr s)
  telling-well slot keeps k most small L B row choice all le =
      calls-well slot (with_bound k most G.point.row) row (with_word k) choice L B
      (λ r. rw (keeps, all.1, all.2 r) fine-unchanged)
      (λ e. rw (all.1, all.0) (fine-word base s _ G.point.row k (row choice s.memory).answer most fine-unchanged (le e) (omega (arith, small, le e))))
      refl

  -- the row where pointer b is set to bytes of the block in slot a
  abbrev pub pointing_row : Row
  pointing_row = record G.point.row {
    pointers = set G.point.row.pointers G.point.instr.b
        (Some (record { slot = G.point.instr.a; least = G.point.instr.imm }));
  }

  -- one that refers to bytes of that block, which the pointer gets
  pub pointing-well : is_none (kind_at s G.point.instr.a) ≡ false → Leads image s.routine G.routine (s.pc + 1) pointing_row (pays G.point.potential)
      → Leads image s.routine G.routine G.point.instr.target (rows.refused G.point.instr LooksAt G.point.row) (pays G.point.potential)
      → (row : Call Reference) (choice : Choice) → LeavesAll (row choice s.memory) s.memory
      → (row choice s.memory).answer.name ≡ name_at s G.point.instr.a
      → (first_refusal (row choice s.memory).refusals ≡ None → IsInChunk s.memory (row choice s.memory).answer
      × (G.point.instr.imm ≤ (row choice s.memory).answer.len))
      → Well moment (calls row (leading G.point.instr.b G.point.instr.a) choice G.point.instr s)
  pointing-well full L B row choice all named led =
      let i = G.point.instr in
      let held = held-at s i.a full in
      let target : SlotReference = record { slot = i.a; reference = (row choice s.memory).answer } in
      calls-well LooksAt pointing_row row (leading i.b i.a) choice L B
      (λ r. rw (all.1, all.2 r) fine-unchanged)
      (λ e. rw (all.1, all.0) (fine-pointing base s _ G.point.row i.b target i.imm fine-unchanged (held ∙ ap Some (sym named), (led e).0) (led e).1))
      refl

  -- Calls that change chunks of the block in slot a

  -- what such a call leaves is fine, where it is refused and where it is done
  pub fine-rechunked : {A : Type 0} → is_none (kind_at s G.point.instr.a) ≡ false → (row : Call A) (chunks : List (Option (List ℕ)))
      → Keeps row → Rechunks row (name_at s G.point.instr.a) chunks s.memory → (choice : Choice)
      → ((r : Refusal) → Fine base s (after_call (row choice s.memory) G.point.instr.a ((row choice s.memory).left r) s) moved_row)
      × (first_refusal (row choice s.memory).refusals ≡ None
      → Fine base s (after_call (row choice s.memory) G.point.instr.a (row choice s.memory).after s) moved_row)
  fine-rechunked full row chunks keeps rechunks choice =
      let shape = rechunks choice in
      let i = G.point.instr in
      let name = name_at s i.a in
      let held = held-at s i.a full in (
        (λ r. rw (shape.1, shape.2 r) (fine-moved base s G.point.row G.sound G.meets i name s.memory held
            (leaves-all i.a (InBlock name) s.memory G.sound.memory))),
        (λ e.
            let legal_after = after-kept (row choice s.memory) (keeps choice s.memory G.sound.memory) e in
            let legal_chunks = subst IsMemory shape.0 legal_after in
            rw (shape.1, shape.0) (fine-moved base s G.point.row G.sound G.meets i name (with_chunks s.memory name chunks) held
            (leaves-chunks base s G.point.row G.sound G.meets i.a name chunks legal_chunks))),
      )

  -- one that puts no answer anywhere
  pub rechunking-well : {A : Type 0} → is_none (kind_at s G.point.instr.a) ≡ false
      → Leads image s.routine G.routine (s.pc + 1) moved_row (pays G.point.potential)
      → Leads image s.routine G.routine G.point.instr.target (rows.refused G.point.instr Moves G.point.row) (pays G.point.potential)
      → (row : Call A) (chunks : List (Option (List ℕ))) → Keeps row → Rechunks row (name_at s G.point.instr.a) chunks s.memory
      → (choice : Choice) → Well moment (calls row nowhere choice G.point.instr s)
  rechunking-well full L B row chunks keeps rechunks choice = let F = fine-rechunked full row chunks keeps rechunks choice in
      calls-well Moves moved_row row nowhere choice L B F.0 F.1 refl

  -- one that tells the handle of a new chunk
  pub remaking-well : is_none (kind_at s G.point.instr.a) ≡ false → Leads image s.routine G.routine (s.pc + 1)
      (with_bound G.point.instr.b 65535 moved_row) (pays G.point.potential)
      → Leads image s.routine G.routine G.point.instr.target (rows.refused G.point.instr Moves G.point.row) (pays G.point.potential)
      → (row : Call ℕ) (chunks : List (Option (List ℕ))) → Keeps row → Rechunks row (name_at s G.point.instr.a) chunks s.memory → (choice : Choice)
      → (first_refusal (row choice s.memory).refusals ≡ None → (row choice s.memory).answer ≤ 65535)
      → Well moment (calls row (with_word G.point.instr.b) choice G.point.instr s)
  remaking-well full L B row chunks keeps rechunks choice most =
      let F = fine-rechunked full row chunks keeps rechunks choice in
      calls-well Moves (with_bound G.point.instr.b 65535 moved_row) row (with_word G.point.instr.b) choice L B F.0
      (λ e. fine-word base s _ moved_row G.point.instr.b (row choice s.memory).answer 65535 (F.1 e) (most e) (most e))
      refl

  -- Calls that free a block

  -- one that does nothing else, and changes nothing where it is refused
  pub freeing-well : (call : Call (Unit {0})) (name : Name) → Leads image s.routine G.routine (s.pc + 1) G.point.row (pays G.point.potential)
      → Leads image s.routine G.routine G.point.instr.target (rows.refused G.point.instr NoSlot G.point.row) (pays G.point.potential)
      → Keeps call → ((choice : Choice) → ((call choice s.memory).stale ≡ Nothing) × ((r : Refusal) → (call choice s.memory).left r ≡ s.memory))
      → ((choice : Choice) → first_refusal (call choice s.memory).refusals ≡ None
      → (locks_of s.memory name ≡ 0) × LeavesOthers (OneBlock name) s.memory (call choice s.memory).after
      × (locks_of (call choice s.memory).after name ≡ 0))
      → (choice : Choice) → Well moment (calls call nowhere choice G.point.instr s)
  freeing-well call name L B keeps quiet frees choice =
      let shape = quiet choice in
      calls-well NoSlot _ call nowhere choice L B
      (λ r. rw (shape.0, shape.1 r) fine-unchanged)
      (λ e.
      let f = frees choice e in
      let legal_after = after-kept (call choice s.memory) (keeps choice s.memory G.sound.memory) e in
      rw shape.0 (fine-freed base s G.point.row G.sound G.meets G.point.instr.a name (call choice s.memory).after f.0 legal_after f.1 f.2))
      refl

  -- bytes are written into a chunk that a pointer leads into
  pub fine-written : (ref : Reference) (at : ℕ) (ws : List ℕ) → IsInChunk s.memory ref → AreBytes ws
      → Fine base s (record s { memory = written s.memory ref at ws; pointers = kept_pointers G.point.instr.a Nothing s.pointers }) G.point.row
  fine-written ref at ws here are =
      let legal_after = rows_keep_memory.by_store ref at ws are quiet s.memory G.sound.memory in
      fine-nothing base s G.point.row G.sound G.meets G.point.instr.a (written s.memory ref at ws)
      (leaves-written base s G.point.row G.sound G.meets G.point.instr.a ref at ws here legal_after)
