-- What one step of a run leaves as it was.
use Rattle.std.proofs.Common.{◌≡◌, ◌<◌, ℕ, Bool, true, false, cond, Option, Some, None, List, [], slice_get, refl, sym, ap, subst, ◌∙◌, inl, inr, arith}
use Rattle.std.specs.Prelude.{if◌then◌else◌, slice_index_or, option_map}
use Rattle.std.proofs.lemmas.Bool.{or_parts, lt-ltb}
use Rattle.geos_terms.specs.declared.name.Name.{Name}
use Rattle.geos_terms.specs.Names.{mem, vm}
use Rattle.geos_calls.specs.Directories.{VmBlock, kept_block}
use Rattle.geos_calls.specs.Memory.{Memory, at_handle, listed_at, locks_in, locks_of}
use Rattle.geos_calls.specs.Given.{given_entry, given_memory}
use Rattle.geos_calls.specs.Effects.{Choice}
use Rattle.geos_calls.specs.Table.{KernelCall}
use Rattle.geos_calls.proofs.Leaves.{rows_leave}
use Rattle.geos_calls.proofs.LegalGiven.{listed-given}
use Rattle.geos_calls.proofs.NamedBlocks.{block_in_file}
use Rattle.geos_image.specs.declared.instr.Instr.{Instr}
use Rattle.geos_verify.specs.Touched.{calls}
use Rattle.geos_verify.proofs.Places.{point-of}
use Rattle.geos_semantics.specs.Lists.{Each}
use Rattle.geos_semantics.specs.State.{Held, name_of, Frame, State, slot}
use Rattle.geos_semantics.specs.Meets.{Base, Sound, name_held, lent_in}
use Rattle.geos_semantics.proofs.Locking.{held-counts, holds-once-is}
use Rattle.geos_semantics.specs.Model.{Outcome, Fault, Next, Done, begun, exec, tried, in_routine, step_at, step}
use Rattle.geos_semantics.proofs.Begun.{begun_moment}
use Rattle.geos_semantics.proofs.Moments.{Moment, no_fault-here}
use Rattle.geos_grants.proofs.Closed.{or-true}
use Rattle.geos_grants.specs.declared.effect.Effect.{Effect}
use Rattle.geos_grants.specs.declared.effect.Effect.TheVariants as effect
use Rattle.geos_grants.specs.Effects.{uses_memory, locks_by_handle, changes_file, is_mem, is_own_in_file, state_at, changed_at, does}
use Rattle.granted_runs.specs.Keeps.{Keeps, IsSteady, stored_at}
use Rattle.granted_runs.proofs.Above.{above-free}
use Rattle.granted_runs.proofs.Asked.{asked, is_commit, is_map, no-commit, no-keeper, no-save, no-map, no-block_map, no-item_map}
use Rattle.granted_runs.proofs.Executed.{CameOf, OfNext, Executed, executed}
use Rattle.granted_runs.proofs.Aims.{Aims, aims}
use Rattle.granted_runs.proofs.Spared.{lent-at, spares-memory, spares-locked, spares-stored}

-- Lemmas about what a run leaves unchanged

pub keeps-same : (lacks : Effect → Type 0) (honest : Type 0) (base : Base) (s : State) → Keeps lacks honest base s s
keeps-same lacks honest base s = record {
  locked = λ without h out. refl;
  output = λ without. refl;
  kept = λ without. refl;
  saved = λ without. refl;
  map_block = λ without. refl;
  map_group = λ without. refl;
  map_item = λ without. refl;
  blocks = λ without h. refl;
  stored = λ h steady spared. refl;
  limit = refl;
  handles = refl;
  above = λ h over none. none;
}

pub keeps-then : (lacks : Effect → Type 0) (honest : Type 0) (base : Base) (a b c : State) → Keeps lacks honest base a b
    → Keeps lacks honest base b c → Keeps lacks honest base a c
keeps-then lacks honest base a b c x y = record {
  output = λ without. y.output without ∙ x.output without;
  kept = λ without. y.kept without ∙ x.kept without;
  saved = λ without. y.saved without ∙ x.saved without;
  map_block = λ without. y.map_block without ∙ x.map_block without;
  map_group = λ without. y.map_group without ∙ x.map_group without;
  map_item = λ without. y.map_item without ∙ x.map_item without;
  blocks = λ without h. y.blocks without h ∙ x.blocks without h;
  locked = λ without h out. y.locked without h out ∙ x.locked without h out;
  stored = λ h steady spared. y.stored h steady spared ∙ x.stored h steady spared;
  limit = y.limit ∙ x.limit;
  handles = y.handles ∙ x.handles;
  above = λ h over none. y.above h (omega (arith, over, x.handles)) (x.above h over none);
}

-- if `few` lacks every effect that `many` lacks, what is unchanged by `few` is unchanged by `many`
pub keeps-more : (few many : Effect → Type 0) (honest : Type 0) (base : Base) (a b : State)
    → ((of : Effect) → many of → few of) → Keeps few honest base a b → Keeps many honest base a b
keeps-more few many honest base a b less x = record {
  output = λ without. x.output (less effect.Output without);
  kept = λ without. x.kept (less effect.Commits without);
  saved = λ without. x.saved (less effect.Commits without);
  map_block = λ without. x.map_block (less effect.Map without);
  map_group = λ without. x.map_group (less effect.Map without);
  map_item = λ without. x.map_item (less effect.Map without);
  blocks = λ without h. x.blocks (less effect.Memory without) h;
  locked = λ without h out. x.locked (less effect.LocksByHandle without) h out;
  stored = λ h steady spared. x.stored h steady (less effect.ChangesFile spared.0, λ k is. less (effect.ChangesLent k) (spared.1 k is));
  limit = x.limit;
  handles = x.handles;
  above = x.above;
}

-- Memory that comes of a call

module _ (choice : Choice) (old new : Memory) where
  kept-of : (of : Option KernelCall) → CameOf of choice old new → is_commit of ≡ false → new.file.kept ≡ old.file.kept
  kept-of None same without = ap (λ (m : Memory). m.file.kept) same
  kept-of (Some call) (inl same) without = ap (λ (m : Memory). m.file.kept) same
  kept-of (Some call) (inr same) without = ap (λ (m : Memory). m.file.kept) same ∙ (rows_leave.file call choice old).kept (no-keeper call without)

  saved-of : (of : Option KernelCall) → CameOf of choice old new → is_commit of ≡ false → new.file.saved ≡ old.file.saved
  saved-of None same without = ap (λ (m : Memory). m.file.saved) same
  saved-of (Some call) (inl same) without = ap (λ (m : Memory). m.file.saved) same
  saved-of (Some call) (inr same) without = ap (λ (m : Memory). m.file.saved) same ∙ (rows_leave.file call choice old).saved (no-save call without)

  map_block-of : (of : Option KernelCall) → CameOf of choice old new → is_map of ≡ false → new.file.cur.map_block ≡ old.file.cur.map_block
  map_block-of None same without = ap (λ (m : Memory). m.file.cur.map_block) same
  map_block-of (Some call) (inl same) without = ap (λ (m : Memory). m.file.cur.map_block) same
  map_block-of (Some call) (inr same) without =
      ap (λ (m : Memory). m.file.cur.map_block) same ∙ (rows_leave.file call choice old).map_block (no-block_map call old without)

  map_group-of : (of : Option KernelCall) → CameOf of choice old new → is_map of ≡ false → new.file.cur.map_group ≡ old.file.cur.map_group
  map_group-of None same without = ap (λ (m : Memory). m.file.cur.map_group) same
  map_group-of (Some call) (inl same) without = ap (λ (m : Memory). m.file.cur.map_group) same
  map_group-of (Some call) (inr same) without =
      ap (λ (m : Memory). m.file.cur.map_group) same ∙ (rows_leave.file call choice old).map_group (no-item_map call old without)

  map_item-of : (of : Option KernelCall) → CameOf of choice old new → is_map of ≡ false → new.file.cur.map_item ≡ old.file.cur.map_item
  map_item-of None same without = ap (λ (m : Memory). m.file.cur.map_item) same
  map_item-of (Some call) (inl same) without = ap (λ (m : Memory). m.file.cur.map_item) same
  map_item-of (Some call) (inr same) without =
      ap (λ (m : Memory). m.file.cur.map_item) same ∙ (rows_leave.file call choice old).map_item (no-item_map call old without)

  limit-of : (of : Option KernelCall) → CameOf of choice old new → new.region ≡ old.region
  limit-of None same = ap (λ (m : Memory). m.region) same
  limit-of (Some call) (inl same) = ap (λ (m : Memory). m.region) same
  limit-of (Some call) (inr same) = ap (λ (m : Memory). m.region) same ∙ (rows_leave.others call choice old).region

  handles-of : (of : Option KernelCall) → CameOf of choice old new → new.handles ≡ old.handles
  handles-of None same = ap (λ (m : Memory). m.handles) same
  handles-of (Some call) (inl same) = ap (λ (m : Memory). m.handles) same
  handles-of (Some call) (inr same) = ap (λ (m : Memory). m.handles) same ∙ (rows_leave.others call choice old).handles

  above-of : (of : Option KernelCall) → CameOf of choice old new → (h : ℕ) → old.handles < h → at_handle None old.blocks h ≡ None
      → at_handle None new.blocks h ≡ None
  above-of None same h over none = ap (λ (m : Memory). at_handle None m.blocks h) same ∙ none
  above-of (Some call) (inl same) h over none = ap (λ (m : Memory). at_handle None m.blocks h) same ∙ none
  above-of (Some call) (inr same) h over none = ap (λ (m : Memory). at_handle None m.blocks h) same ∙ above-free choice old h over none call

-- the fact holds of the state after a step
pub of-next : {P R : State → Type 0} → ((t : State) → P t → R t) → (o : Outcome) → OfNext P o → OfNext R o
of-next more Fault h = tt
of-next more (Next t) h = more t h
of-next more (Done t) h = more t h

-- no slot holds a block of global memory that others have locked
abbrev pub IsUntaken : Base → State → Type 0
IsUntaken base t = (h : ℕ) → 0 < base.locks (mem h) → (a : ℕ) → name_held (slot t a) ≡ Some (mem h) → ⊥

-- a step keeps what the effects that are lacking could change, the routines that run have Q, and no slot takes what others have locked
pub record Goes (Q : ℕ → Type 0) (lacks : Effect → Type 0) (honest : Type 0) (base : Base) (s t : State) : Type 0 where
  pub keeps : Keeps lacks honest base s t
  pub runs : Q t.routine
  pub waits : Each (λ (frame : Frame). Q frame.routine) t.stack
  pub untaken : lacks effect.LocksByHandle → IsUntaken base t

-- the routines that run have Q, and no slot holds what others have locked
pub record Stands (Q : ℕ → Type 0) (lacks : Effect → Type 0) (base : Base) (s : State) : Type 0 where
  pub runs : Q s.routine
  pub waits : Each (λ (frame : Frame). Q frame.routine) s.stack
  pub untaken : lacks effect.LocksByHandle → IsUntaken base s

-- the instruction lacks an effect
abbrev pub LacksHere : Moment → Effect → Type 0
LacksHere moment of = does of moment.good.point.instr moment.good.point.row ≡ false

module _ (moment : Moment) (choice : Choice) (lacks : Effect → Type 0) (here : (of : Effect) → lacks of → LacksHere moment of) where
  open moment use {image, base, state as s, good as G}

  host-locked : (h : ℕ) → 0 < base.locks (mem h) → 0 < locks_of s.memory (mem h)
  host-locked h out = omega (arith, G.sound.locks (mem h), out)

  came-keeps : (honest : Type 0) (t : State) (of : Option KernelCall) → Aims moment G.point.instr.opcode of
      → CameOf of choice s.memory t.memory
      → (lacks effect.Output → t.output ≡ s.output)
      → (lacks effect.Commits → is_commit of ≡ false) → (lacks effect.Map → is_map of ≡ false)
      → (lacks effect.LocksByHandle → IsUntaken base s)
      → Keeps lacks honest base s t
  came-keeps honest t of aim came output commit map untaken = record {
    output = output;
    kept = λ without. kept-of choice s.memory t.memory of came (commit without);
    saved = λ without. saved-of choice s.memory t.memory of came (commit without);
    map_block = λ without. map_block-of choice s.memory t.memory of came (map without);
    map_group = λ without. map_group-of choice s.memory t.memory of came (map without);
    map_item = λ without. map_item-of choice s.memory t.memory of came (map without);
    blocks = λ without h. blocks-of of aim came (parts-memory (here effect.Memory without)) h;
    locked = λ without h out. locked-of of aim came (here effect.LocksByHandle without) h (untaken without h out) (host-locked h out);
    stored = λ h steady spared. stored-of of aim came h (parts-file (here effect.ChangesFile spared.0))
        (λ a is. here (effect.ChangesLent a) (spared.1 a is));
    limit = limit-of choice s.memory t.memory of came;
    handles = handles-of choice s.memory t.memory of came;
    above = above-of choice s.memory t.memory of came;
  }
    where
      parts-memory : LacksHere moment effect.Memory → (uses_memory G.point.instr.opcode ≡ false)
          × (is_mem (state_at G.point.row (changed_at G.point.instr G.point.row)) ≡ false)
      parts-memory without = or_parts (uses_memory G.point.instr.opcode)
          (is_mem (state_at G.point.row (changed_at G.point.instr G.point.row))) without

      parts-file : LacksHere moment effect.ChangesFile → (changes_file G.point.instr.opcode ≡ false)
          × (is_own_in_file (state_at G.point.row (changed_at G.point.instr G.point.row)) ≡ false)
      parts-file without = or_parts (changes_file G.point.instr.opcode)
          (is_own_in_file (state_at G.point.row (changed_at G.point.instr G.point.row))) without

      blocks-of : (of : Option KernelCall) → Aims moment G.point.instr.opcode of → CameOf of choice s.memory t.memory
          → (uses_memory G.point.instr.opcode ≡ false) × (is_mem (state_at G.point.row (changed_at G.point.instr G.point.row)) ≡ false)
          → (h : ℕ) → at_handle None t.memory.blocks h ≡ at_handle None s.memory.blocks h
      blocks-of None aim same without h = ap (λ (m : Memory). at_handle None m.blocks h) same
      blocks-of (Some call) aim (inl same) without h = ap (λ (m : Memory). at_handle None m.blocks h) same
      blocks-of (Some call) aim (inr same) without h =
          ap (λ (m : Memory). at_handle None m.blocks h) same
          ∙ (rows_leave.others call choice s.memory).blocks h
          (spares-memory moment G.point.instr.opcode choice call aim without.0 without.1 h)

      locked-of : (of : Option KernelCall) → Aims moment G.point.instr.opcode of → CameOf of choice s.memory t.memory
          → locks_by_handle G.point.instr.opcode ≡ false → (h : ℕ) → ((a : ℕ) → name_held (slot s a) ≡ Some (mem h) → ⊥)
          → 0 < locks_of s.memory (mem h) → at_handle None t.memory.blocks h ≡ at_handle None s.memory.blocks h
      locked-of None aim same without h free out = ap (λ (m : Memory). at_handle None m.blocks h) same
      locked-of (Some call) aim (inl same) without h free out = ap (λ (m : Memory). at_handle None m.blocks h) same
      locked-of (Some call) aim (inr same) without h free out =
          ap (λ (m : Memory). at_handle None m.blocks h) same
          ∙ spares-locked moment G.point.instr.opcode choice call aim without h free out

      stored-of : (of : Option KernelCall) → Aims moment G.point.instr.opcode of → CameOf of choice s.memory t.memory → (h : ℕ)
          → (changes_file G.point.instr.opcode ≡ false)
          × (is_own_in_file (state_at G.point.row (changed_at G.point.instr G.point.row)) ≡ false)
          → ((a : ℕ) → slice_index_or base.lends a None ≡ Some (vm h) → LacksHere moment (effect.ChangesLent a))
          → stored_at t.memory h ≡ stored_at s.memory h
      stored-of None aim same h without spared = ap (λ (m : Memory). stored_at m h) same
      stored-of (Some call) aim (inl same) h without spared = ap (λ (m : Memory). stored_at m h) same
      stored-of (Some call) aim (inr same) h without spared =
          ap (λ (m : Memory). stored_at m h) same
          ∙ spares-stored moment G.point.instr.opcode choice call aim without.0 without.1 h spared

  module _ (Q : ℕ → Type 0) (honest : Type 0) (stands : Stands Q lacks base s)
      (called : calls G.point.instr.opcode ≡ true → Q G.point.instr.imm) where
    executed-goes : (t : State) → Executed Q image choice G.point.instr s G.point.instr.opcode (asked G.point.instr G.point.instr.opcode s) t
        → Goes Q lacks honest base s t
    executed-goes t x =
        let i = G.point.instr in
        let routines = x.routines stands.runs stands.waits called in
        record {
          keeps = came-keeps honest t (asked i i.opcode s) (aims moment i.opcode refl) x.memory (λ without. x.output (here effect.Output without))
              (λ without. no-commit i i.opcode s (here effect.Commits without)) (λ without. no-map i i.opcode s (here effect.Map without))
              stands.untaken;
          runs = routines.0;
          waits = routines.1;
          untaken = λ without h out a is.
              stands.untaken without h out a (x.slots (here effect.LocksByHandle without) h a
              (λ none. (let unlocked : locks_of s.memory (mem h) ≡ 0 = ap locks_in none in omega (arith, unlocked, host-locked h out))) is);
        }

    -- an instruction in the state as it is
    step_at-goes : OfNext (Goes Q lacks honest base s) (step_at image choice s (slice_get image.points s.pc))
    step_at-goes =
        let P = OfNext (Goes Q lacks honest base s) in
        let i = G.point.instr in
        let in_r : in_routine image s.routine s.pc ≡ true = rw (G.has.there, in_routine) G.has.within in
        let done = of-next executed-goes (exec image choice i i.opcode s) (executed Q image choice i s i.opcode) in
        let fine : P (tried image choice i s) = subst (λ b. P (cond b Fault (exec image choice i i.opcode s)))
        (sym (no_fault-here moment)) done in
        let found = point-of image s.pc G.point G.has.read in
        let at_it : P (step_at image choice s (Some found.0)) =
        subst (λ (j : Instr). P (if in_routine image s.routine s.pc then tried image choice j s else Fault))
        found.2.instr (subst (λ b. P (cond b (tried image choice i s) Fault)) (sym in_r) fine) in
        subst (λ o. P (step_at image choice s o)) (sym found.1) at_it

-- What a device gives

given-held : (given : Option (List (Option (List ℕ)))) (listed : Option VmBlock) → 0 < locks_in (option_map block_in_file listed)
    → given_entry given listed ≡ listed
given-held None listed some = refl
given-held (Some chunks) None some = refl
given-held (Some chunks) (Some l) some = rw (lt-ltb 0 l.block.locks some, or-true l.marked) refl

lent-named : (o : Option Held) (name : Name) → lent_in o ≡ Some name → name_held o ≡ Some name
lent-named None name is = is
lent-named (Some held) name is = by held.borrowed is
  where
    by : (borrowed : Bool) → cond borrowed (Some (name_of held)) None ≡ Some name → Some (name_of held) ≡ Some name
    by true e = e
    by false e = absurd cc

-- a block that is lent is locked
lent-locked : (base : Base) (s : State) → Sound base s → (h a : ℕ) → slice_index_or base.lends a None ≡ Some (vm h)
    → 0 < locks_of s.memory (vm h)
lent-locked base s S h a is =
    let held = lent-named (slot s a) (vm h)
    (sym (lent-at s.slots a) ∙ ap (λ (xs : List (Option Name)). slice_index_or xs a None) S.lends ∙ is) in
    omega (arith, S.locks (vm h), held-counts s.slots a (vm h), holds-once-is (vm h) (slot s a) held)

-- what a device gives at the beginning of a step
begun-keeps : (lacks : Effect → Type 0) (honest : Type 0) (base : Base) (choice : Choice) (s : State) → Sound base s
    → (honest → choice.given ≡ []) → Keeps lacks honest base s (begun choice s)
begun-keeps lacks honest base choice s S given = record {
  output = λ without. refl;
  kept = λ without. refl;
  saved = λ without. refl;
  map_block = λ without. refl;
  map_group = λ without. refl;
  map_item = λ without. refl;
  blocks = λ without h. refl;
  locked = λ without h out. refl;
  stored = λ h steady spared. steadily h steady;
  limit = refl;
  handles = refl;
  above = λ h over none. none;
}
  where
    steadily : (h : ℕ) → IsSteady honest base.lends h → stored_at (given_memory choice.given s.memory) h ≡ stored_at s.memory h
    steadily h (inl good) = ap (λ g. stored_at (given_memory g s.memory) h) (given good)
    steadily h (inr (a, is)) =
        ap (option_map kept_block)
        (listed-given choice.given s.memory.file.cur.blocks h
        ∙ given-held (at_handle None choice.given h) (listed_at s.memory h) (lent-locked base s S h a is))

-- a step keeps what its instruction cannot change
pub step-goes : (moment : Moment) (choice : Choice) (lacks : Effect → Type 0) → ((of : Effect) → lacks of → LacksHere moment of)
    → (Q : ℕ → Type 0) (honest : Type 0) → (honest → choice.given ≡ [])
    → Stands Q lacks moment.base moment.state → (calls moment.good.point.instr.opcode ≡ true → Q moment.good.point.instr.imm)
    → OfNext (Goes Q lacks honest moment.base moment.state) (step moment.image choice moment.state)
step-goes moment choice lacks here Q honest given stands called =
    let later = begun_moment moment choice in
    of-next
    (λ t g. record {
      keeps = keeps-then lacks honest moment.base moment.state (begun choice moment.state) t
          (begun-keeps lacks honest moment.base choice moment.state moment.good.sound given) g.keeps;
      runs = g.runs;
      waits = g.waits;
      untaken = g.untaken;
    })
    (step moment.image choice moment.state)
    (step_at-goes later choice lacks here Q honest (record { runs = stands.runs; waits = stands.waits; untaken = stands.untaken }) called)
