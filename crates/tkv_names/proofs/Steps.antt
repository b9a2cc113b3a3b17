-- What placed instructions do to words and output.
use Rattle.std.proofs.Common.{◌≡◌, ℕ, suc, ◌+◌, ◌-◌, ◌*◌, ◌/◌, ◌%◌, ◌^◌, Bool, true, false, cond, Option, Some, None, List, [], ◌∷◌, ◌++◌, length, refl, sym, ap, ◌∙◌, subst, arith, inl, inr}
use Rattle.std.specs.Prelude.{bit_and, drop, slice_get, slice_index, slice_set, nat_le}
use Rattle.geos_calls.specs.Effects.{Choice}
use Rattle.geos_terms.specs.declared.refusal.Refusal.{Refusal}
use Rattle.geos_terms.specs.declared.refusal.Refusal.TheVariants.{Full}
use Rattle.geos_terms.specs.Refusals.{refusal_number, first_refusal}
use Rattle.geos_image.specs.declared.instr.Instr.{Instr}
use Rattle.geos_opcodes.specs.declared.opcode.Opcode.{Opcode}
use Rattle.geos_opcodes.specs.declared.opcode.Opcode.TheVariants as op
use Rattle.geos_opcodes.specs.Facts.{uses_of}
use Rattle.geos_semantics.specs.State.{State, word, with_word, goto, along}
use Rattle.geos_semantics.specs.Faults.{is_fault}
use Rattle.geos_semantics.specs.Model.{Outcome, Fault, Next, exec, begun, answer, branch, most_output}
use Rattle.tkv_places.specs.declared.placed.Placed.{Placed}
use Rattle.tkv_places.specs.declared.placed.PlacedKind.{PlacedKind}
use Rattle.tkv_places.specs.declared.placed.PlacedKind.TheVariants as kind
use Rattle.tkv_meaning.specs.Code.{aimed}
use Rattle.tkv_meaning.specs.Meaning.{Scope, Way, On, drifted, Drifts, no_code, pc_after, Acts}
use Rattle.tkv_names.specs.Straight.{Any, Goes, Straight}
use Rattle.tkv_names.specs.Seen.{IsDone, IsOver, IsBranch, leaves_if}
use Rattle.tkv_names.proofs.Lists.{dropped, none_left}

-- Steps of control

still_words : (cs : List Choice) (x : Scope) → (drifted cs x).words ≡ x.words
still_words [] x = refl
still_words (c ∷ cs) x = still_words cs (drifted (c ∷ []) x)

still_output : (cs : List Choice) (x : Scope) → (drifted cs x).output ≡ x.output
still_output [] x = refl
still_output (c ∷ cs) x = still_output cs (drifted (c ∷ []) x)

pub drift_words : (x y : Scope) → Drifts Any x y → y.words ≡ x.words
drift_words x y (cs, each, e) = ap (λ (z : Scope). z.words) e ∙ still_words cs x

pub drift_output : (x y : Scope) → Drifts Any x y → y.output ≡ x.output
drift_output x y (cs, each, e) = ap (λ (z : Scope). z.output) e ∙ still_output cs x

-- Instructions

next_is : (b : Bool) (o : Outcome) (t : State) → cond b Fault o ≡ Next t → o ≡ Next t
next_is true o t e = absurd cc
next_is false o t e = e

-- the instruction puts a word that depends on the words into its register, and outputs nothing
abbrev pub Gives : Instr → (List ℕ → ℕ) → Type 0
Gives i f = (x z : Scope) → Acts Any i x false z → (z.words ≡ slice_set x.words i.a (f x.words)) × (z.output ≡ x.output)

same_state : (s t : State) → Next s ≡ Next t → s ≡ t
same_state s t e = cc

gives : (i : Instr) (o : Opcode) (f : List ℕ → ℕ) → i.opcode ≡ o
    → ((choice : Choice) (s : State) → exec no_code choice (aimed i 0) o s ≡ Next (along (with_word i.a (f s.words) s))) → Gives i f
gives i o f is runs x z acts = (
  sym (ap (λ (y : Scope). y.words) acts.to_y) ∙ (ap (λ (t : State). t.words) now ∙ ap (λ (ws : List ℕ). slice_set ws i.a (f ws)) words),
  sym (ap (λ (y : Scope). y.output) acts.to_y) ∙ (ap (λ (t : State). t.output) now ∙ ap (λ (y : Scope). y.output) acts.from_x),
)
  where
    s : State
    s = begun acts.choice acts.before

    words : acts.before.words ≡ x.words
    words = ap (λ (y : Scope). y.words) acts.from_x

    ran : exec no_code acts.choice (aimed i 0) i.opcode s ≡ Next (goto (acts.before.pc + 1) acts.after)
    ran = next_is (is_fault (aimed i 0) (uses_of i.opcode) s) (exec no_code acts.choice (aimed i 0) i.opcode s) (goto (acts.before.pc + 1) acts.after)
        (acts.step 0)

    now : goto (acts.before.pc + 1) acts.after ≡ along (with_word i.a (f s.words) s)
    now = sym (same_state (along (with_word i.a (f s.words) s)) (goto (acts.before.pc + 1) acts.after)
        (sym (ap (λ (p : Opcode). exec no_code acts.choice (aimed i 0) p s) is ∙ runs acts.choice s) ∙ ran))

pub gives_ldi : (i : Instr) → i.opcode ≡ op.Ldi → Gives i (λ ws. i.imm)
gives_ldi i is = gives i op.Ldi (λ ws. i.imm) is (λ choice s. refl)

pub gives_mov : (i : Instr) → i.opcode ≡ op.Mov → Gives i (λ ws. slice_index ws i.b)
gives_mov i is = gives i op.Mov (λ ws. slice_index ws i.b) is (λ choice s. refl)

pub gives_add : (i : Instr) → i.opcode ≡ op.Add → Gives i (λ ws. (slice_index ws i.b + slice_index ws i.c) % 65536)
gives_add i is = gives i op.Add (λ ws. (slice_index ws i.b + slice_index ws i.c) % 65536) is (λ choice s. refl)

pub gives_sub : (i : Instr) → i.opcode ≡ op.Sub → Gives i (λ ws. (slice_index ws i.b + 65536 - slice_index ws i.c) % 65536)
gives_sub i is = gives i op.Sub (λ ws. (slice_index ws i.b + 65536 - slice_index ws i.c) % 65536) is (λ choice s. refl)

pub gives_muli : (i : Instr) → i.opcode ≡ op.Muli → Gives i (λ ws. (slice_index ws i.b * i.imm) % 65536)
gives_muli i is = gives i op.Muli (λ ws. (slice_index ws i.b * i.imm) % 65536) is (λ choice s. refl)

pub gives_shr : (i : Instr) → i.opcode ≡ op.Shr → Gives i (λ ws. slice_index ws i.b / 2 ^ i.imm)
gives_shr i is = gives i op.Shr (λ ws. slice_index ws i.b / 2 ^ i.imm) is (λ choice s. refl)

pub gives_and : (i : Instr) → i.opcode ≡ op.And → Gives i (λ ws. bit_and (slice_index ws i.b) i.imm)
gives_and i is = gives i op.And (λ ws. bit_and (slice_index ws i.b) i.imm) is (λ choice s. refl)

-- the word may be written in another way
pub gives_same : (i : Instr) (f g : List ℕ → ℕ) → ((ws : List ℕ) → f ws ≡ g ws) → Gives i f → Gives i g
gives_same i f g same gives x z acts = (
  (gives x z acts).0 ∙ ap (λ (n : ℕ). slice_set x.words i.a n) (same x.words),
  (gives x z acts).1,
)

-- an output that is not refused, and one that is
out_on : (o : Option Refusal) (i : Instr) (pc : ℕ) (s done after : State) → ((target : ℕ) → answer (aimed i target) o s done ≡ Next (goto pc after))
    → goto pc after ≡ along done
out_on None i pc s done after e = sym (same_state (along done) (goto pc after) (e 0))
out_on (Some refusal) i pc s done after e = absurd (apart (ap (λ (t : State). t.pc) (same_state (goto (suc pc) (with_word 7 (refusal_number refusal) s))
    (goto pc after) (e (suc pc)))))
  where
    apart : suc pc ≡ pc → ⊥
    apart h = omega (arith, h)

out_off : (o : Option Refusal) (i : Instr) (s done after : State) → ((target : ℕ) → answer (aimed i target) o s done ≡ Next (goto target after))
    → after.output ≡ s.output
out_off (Some refusal) i s done after e = sym (ap (λ (t : State). t.output) (same_state (goto 0 (with_word 7 (refusal_number refusal) s)) (goto 0 after) (e 0)))
out_off None i s done after e = absurd (apart (ap (λ (t : State). t.pc) (same_state (along done) (goto (done.pc + 2) after) (e (done.pc + 2)))))
  where
    apart : done.pc + 1 ≡ done.pc + 2 → ⊥
    apart h = omega (arith, h)

module _ (i : Instr) (is : i.opcode ≡ op.Out) (leaves : Bool) (x z : Scope) (acts : Acts Any i x leaves z) where
  abbrev s : State
  s = begun acts.choice acts.before

  abbrev done : State
  done = record s { output = s.output ++ (word s i.a ∷ []) }

  abbrev refusal : Option Refusal
  refusal = first_refusal ((nat_le most_output (length s.output), Full) ∷ [])

  ran : (target : ℕ) → answer (aimed i target) refusal s done ≡ Next (goto (pc_after leaves (acts.before.pc + 1) target) acts.after)
  ran target = sym (ap (λ (p : Opcode). exec no_code acts.choice (aimed i target) p s) is)
      ∙ next_is (is_fault (aimed i target) (uses_of i.opcode) s) (exec no_code acts.choice (aimed i target) i.opcode s)
      (goto (pc_after leaves (acts.before.pc + 1) target) acts.after) (acts.step target)

  words : acts.before.words ≡ x.words
  words = ap (λ (y : Scope). y.words) acts.from_x

  output : acts.before.output ≡ x.output
  output = ap (λ (y : Scope). y.output) acts.from_x

pub puts_on : (i : Instr) → i.opcode ≡ op.Out → (x z : Scope) → Acts Any i x false z
    → (z.words ≡ x.words) × (z.output ≡ x.output ++ (slice_index x.words i.a ∷ []))
puts_on i is x z acts = (
  sym (ap (λ (y : Scope). y.words) acts.to_y) ∙ (ap (λ (t : State). t.words) now ∙ words i is false x z acts),
  sym (ap (λ (y : Scope). y.output) acts.to_y) ∙ (ap (λ (t : State). t.output) now
      ∙ (ap (λ (out : List ℕ). out ++ (slice_index acts.before.words i.a ∷ [])) (output i is false x z acts)
      ∙ ap (λ (ws : List ℕ). x.output ++ (slice_index ws i.a ∷ [])) (words i is false x z acts))),
)
  where
    now : goto (acts.before.pc + 1) acts.after ≡ along (done i is false x z acts)
    now = out_on (refusal i is false x z acts) i (acts.before.pc + 1) (s i is false x z acts) (done i is false x z acts) acts.after
        (ran i is false x z acts)

pub puts_off : (i : Instr) → i.opcode ≡ op.Out → (x z : Scope) → Acts Any i x true z → z.output ≡ x.output
puts_off i is x z acts = sym (ap (λ (y : Scope). y.output) acts.to_y)
    ∙ (out_off (refusal i is true x z acts) i (s i is true x z acts) (done i is true x z acts) acts.after (ran i is true x z acts)
    ∙ output i is true x z acts)

-- Tests

-- a branch goes to its target if its test holds
branch_is : (t b : Bool) (i : Instr) (s after : State) (pc : ℕ)
    → ((target : ℕ) → branch t (aimed i target) s ≡ Next (goto (pc_after b pc target) after))
    → (t ≡ b) × (after.words ≡ s.words) × (after.output ≡ s.output)
branch_is true true i s after pc e = (
  refl,
  sym (ap (λ (u : State). u.words) (same_state (goto 0 s) (goto 0 after) (e 0))),
  sym (ap (λ (u : State). u.output) (same_state (goto 0 s) (goto 0 after) (e 0))),
)
branch_is false false i s after pc e = (
  refl,
  sym (ap (λ (u : State). u.words) (same_state (along s) (goto pc after) (e 0))),
  sym (ap (λ (u : State). u.output) (same_state (along s) (goto pc after) (e 0))),
)
branch_is true false i s after pc e = absurd (apart (ap (λ (u : State). u.pc) (same_state (goto (suc pc) s) (goto pc after) (e (suc pc)))))
  where
    apart : suc pc ≡ pc → ⊥
    apart h = omega (arith, h)
branch_is false true i s after pc e = absurd (apart (ap (λ (u : State). u.pc) (same_state (along s) (goto (s.pc + 2) after) (e (s.pc + 2)))))
  where
    apart : s.pc + 1 ≡ s.pc + 2 → ⊥
    apart h = omega (arith, h)

branch_runs : (o : Opcode) → IsBranch o → (choice : Choice) (i : Instr) (target : ℕ) (s : State)
    → exec no_code choice (aimed i target) o s ≡ branch (leaves_if o i s.words) (aimed i target) s
branch_runs o (inl is) choice i target s = subst (λ (p : Opcode). exec no_code choice (aimed i target) p s ≡ branch (leaves_if p i s.words) (aimed i target) s)
    (sym is) refl
branch_runs o (inr (inl is)) choice i target s = subst (λ (p : Opcode). exec no_code choice (aimed i target) p s ≡ branch (leaves_if p i s.words) (aimed i target) s)
    (sym is) refl
branch_runs o (inr (inr is)) choice i target s = subst (λ (p : Opcode). exec no_code choice (aimed i target) p s ≡ branch (leaves_if p i s.words) (aimed i target) s)
    (sym is) refl

pub branch_does : (i : Instr) → IsBranch i.opcode → (leaves : Bool) (w x z : Scope) → Drifts Any w x → Acts Any i x leaves z
    → (leaves_if i.opcode i w.words ≡ leaves) × (z.words ≡ w.words) × (z.output ≡ w.output)
branch_does i is leaves w x z drifts acts = (
  sym (ap (leaves_if i.opcode i) words) ∙ now.0,
  sym (ap (λ (y : Scope). y.words) acts.to_y) ∙ (now.1 ∙ words),
  sym (ap (λ (y : Scope). y.output) acts.to_y) ∙ (now.2 ∙ output),
)
  where
    s : State
    s = begun acts.choice acts.before

    words : acts.before.words ≡ w.words
    words = ap (λ (y : Scope). y.words) acts.from_x ∙ drift_words w x drifts

    output : acts.before.output ≡ w.output
    output = ap (λ (y : Scope). y.output) acts.from_x ∙ drift_output w x drifts

    ran : (target : ℕ) → branch (leaves_if i.opcode i s.words) (aimed i target) s ≡ Next (goto (pc_after leaves (acts.before.pc + 1) target) acts.after)
    ran target = sym (branch_runs i.opcode is acts.choice i target s)
        ∙ next_is (is_fault (aimed i target) (uses_of i.opcode) s) (exec no_code acts.choice (aimed i target) i.opcode s)
        (goto (pc_after leaves (acts.before.pc + 1) target) acts.after) (acts.step target)

    now : (leaves_if i.opcode i s.words ≡ leaves) × (acts.after.words ≡ s.words) × (acts.after.output ≡ s.output)
    now = branch_is (leaves_if i.opcode i s.words) leaves i s acts.after (acts.before.pc + 1) ran

-- Items

-- what items do from an index on begins with what the item at the index does
pub at_item : (placed : List Placed) (k : ℕ) (item : Placed) (o : PlacedKind) (d : ℕ) (way : Way) (x y : Scope) → slice_get placed k ≡ Some item
    → item.kind ≡ o → Straight (drop k placed) d way x y → Goes item o (Straight (drop (suc k) placed)) d way x y
at_item placed k item o d way x y e is does = subst (λ (p : PlacedKind). Goes item p (Straight (drop (suc k) placed)) d way x y) is
    (subst (λ (ps : List Placed). Straight ps d way x y) (dropped placed k item e) does)

-- an instruction after which control continues
pub on_done : (placed : List Placed) (k d : ℕ) (i : Instr) (x y : Scope) → IsDone placed k d i → Straight (drop k placed) d On x y
    → (m z : Scope) × Drifts Any x m × Acts Any i m false z × Straight (drop (suc k) placed) d On z y
on_done placed k d i x y ((item, e, (is, to, instr)), least) does = by (at_item placed k item kind.Do d On x y e is does)
  where
    by : Goes item kind.Do (Straight (drop (suc k) placed)) d On x y
        → (m z : Scope) × Drifts Any x m × Acts Any i m false z × Straight (drop (suc k) placed) d On z y
    by (m, z, drifts, inl (acts, rest)) = (m, z, drifts, subst (λ (j : Instr). Acts Any j m false z) instr acts, rest)
    by (m, z, drifts, inr (below, acts, rest)) = absurd (omega (arith, below, to, least))

-- if no item is left, nothing is done
pub over_drifts : (placed : List Placed) (k d : ℕ) (x y : Scope) → IsOver placed k → Straight (drop k placed) d On x y → Drifts Any x y
over_drifts placed k d x y over does = subst (λ (ps : List Placed). Straight ps d On x y) (none_left placed k over) does
