-- What is known of counters after an edge is true.
use Rattle.std.proofs.Common.{◌≡◌, ◌<◌, ℕ, zero, suc, ◌-◌, Bool, true, false, List, [], ◌∷◌, length, Some, None, get_or, set, refl, sym, ap, ◌∙◌, subst, arith, inl, inr, ◌⊎◌}
use Rattle.std.specs.Prelude.{◌==◌, if◌then◌else◌, option_map}
use Rattle.std.proofs.lemmas.Bool.{cases_eq, cases_lt, eqb-true, eqb-false}
use Rattle.std.proofs.lemmas.List.{length-set, get_or-set_same, get_or-set_other, set_past, get_or_past, set-get_or}
use Rattle.std.proofs.lemmas.Option.{same_Some, none-some}
use Rattle.geos_opcodes.specs.declared.opcode.Opcode.{Opcode}
use Rattle.geos_opcodes.specs.declared.opcode.Opcode.TheVariants.{Setk, Setkw, Loop, Call}
use Rattle.geos_image.specs.declared.instr.Instr.{Instr}
use Rattle.geos_image.specs.Fields.{FieldsFit}
use Rattle.geos_image.specs.Parts.{Parts}
use Rattle.geos_verify.specs.Lists.{zip2}
use Rattle.loop_causes.specs.declared.counters.Counter.{Counter}
use Rattle.loop_causes.specs.declared.counters.Counter.TheVariants.{Kept, Is, Unknown}
use Rattle.geos_counters.specs.Counters.{zeros}
use Rattle.loop_causes.specs.Turns.{counter_at, all_are, IsSo, AreSo, unless_changed, loop_after, counters_after}
use Rattle.loop_causes.specs.Taken.{Counts}

-- Where ways begin

kept-at : (k n : ℕ) → IsSo (counter_at (all_are Kept) k) n n
kept-at zero n = refl
kept-at (suc zero) n = refl
kept-at (suc (suc zero)) n = refl
kept-at (suc (suc (suc zero))) n = refl
kept-at (suc (suc (suc (suc k)))) n = tt

-- counters at the start of a path are unchanged
pub kept-so : (counters : List ℕ) → length counters ≡ 4 → AreSo (all_are Kept) counters counters
kept-so counters four = record { four = four; each = λ k. kept-at k (get_or counters k 0) }

zero-so : (k : ℕ) → IsSo (counter_at (all_are (Is 0)) k) (get_or zeros k 0) (get_or zeros k 0)
zero-so zero = refl
zero-so (suc zero) = refl
zero-so (suc (suc zero)) = refl
zero-so (suc (suc (suc zero))) = refl
zero-so (suc (suc (suc (suc k)))) = tt

-- counters that are 0 are known to be 0
pub zeros-so : AreSo (all_are (Is 0)) zeros zeros
zeros-so = record { four = refl; each = zero-so }

-- One counter

-- one counter is set to what is known of it then
pub so-set : (known : List Counter) (begin now : List ℕ) (a n : ℕ) (counter : Counter) → AreSo known begin now → a < 4
    → IsSo counter (get_or begin a 0) n → AreSo (set known a counter) begin (set now a n)
so-set known begin now a n counter so few is = record { four = length-set now a n ∙ so.four; each = each }
  where
    here : IsSo (counter_at (set known a counter) a) (get_or begin a 0) n
    here = elim (cases_lt a (length known)) [
      | inl lt ↦ subst (λ c. IsSo c (get_or begin a 0) n) (sym (get_or-set_same known a counter Unknown lt)) is
      | inr past ↦ subst (λ c. IsSo c (get_or begin a 0) n)
          (sym (ap (λ (l : List Counter). counter_at l a) (set_past known a counter past) ∙ get_or_past known a Unknown past)) tt
    ]

    each : (k : ℕ) → IsSo (counter_at (set known a counter) k) (get_or begin k 0) (get_or (set now a n) k 0)
    each k = elim (cases_eq k a) [
      | inl same ↦
          let four = so.four in
          let set_here : get_or (set now a n) a 0 ≡ n = get_or-set_same now a n 0 (omega arith) in
          subst (λ (m : ℕ). IsSo (counter_at (set known a counter) m) (get_or begin m 0) (get_or (set now a n) m 0)) (sym same)
          (subst (IsSo (counter_at (set known a counter) a) (get_or begin a 0)) (sym set_here) here)
      | inr ne ↦
          subst (λ c. IsSo c (get_or begin k 0) (get_or (set now a n) k 0)) (sym (get_or-set_other known a k counter Unknown ne))
          (subst (IsSo (counter_at known k) (get_or begin k 0)) (sym (get_or-set_other now a k n 0 ne)) (so.each k))
    ]

-- After one more path

so-unless : (way counter : Counter) (begin now next : ℕ) → IsSo counter begin now → (way ≡ Kept → next ≡ now)
    → IsSo (unless_changed way counter) begin next
so-unless Kept counter begin now next so kept = subst (IsSo counter begin) (sym (kept refl)) so
so-unless (Is n) counter begin now next so kept = tt
so-unless Unknown counter begin now next so kept = tt

unless-at : (way known : List Counter) (k : ℕ) → (counter_at (zip2 unless_changed way known) k ≡ Unknown) ⊎
    (counter_at (zip2 unless_changed way known) k ≡ unless_changed (counter_at way k) (counter_at known k))
unless-at [] known k = inl refl
unless-at (w ∷ way) [] k = inl refl
unless-at (w ∷ way) (c ∷ known) zero = inr refl
unless-at (w ∷ way) (c ∷ known) (suc k) = unless-at way known k

-- counters that the path may change are unknown after it
pub so-behind : (way known : List Counter) (begin now next : List ℕ) (k : ℕ) → AreSo known begin now
    → (counter_at way k ≡ Kept → get_or next k 0 ≡ get_or now k 0)
    → IsSo (counter_at (zip2 unless_changed way known) k) (get_or begin k 0) (get_or next k 0)
so-behind way known begin now next k so kept = elim (unless-at way known k) [
  | inl unknown ↦ subst (λ c. IsSo c (get_or begin k 0) (get_or next k 0)) (sym unknown) tt
  | inr is ↦ subst (λ c. IsSo c (get_or begin k 0) (get_or next k 0)) (sym is)
      (so-unless (counter_at way k) (counter_at known k) (get_or begin k 0) (get_or now k 0) (get_or next k 0) (so.each k) kept)
]

-- After an edge

-- counters after an edge, of which what is known is true
pub record CountsTo (word : ℕ) (image : Parts) (i : Instr) (opcode : Opcode) (branch : Bool) (known : List Counter)
    (begin now : List ℕ) : Type 0 where
  pub after : List ℕ
  pub counts : Counts word image i opcode branch now after
  pub so : AreSo known begin after

loop-false : (word : ℕ) (image : Parts) (i : Instr) (known next : List Counter) (begin now : List ℕ) (n : ℕ) (b : Bool)
    → (n == 0) ≡ b → AreSo known begin now → i.a < 4 → get_or now i.a 0 ≡ n
    → option_map (set known i.a) (if b then Some (Is 0) else None) ≡ Some next → CountsTo word image i Loop false next begin now
loop-false word image i known next begin now n true test so few is e =
    let none : get_or now i.a 0 ≡ 0 = is ∙ eqb-true n 0 test in
    let same : set now i.a 0 ≡ now = ap (set now i.a) (sym none) ∙ set-get_or now i.a 0 in
    record {
      after = now;
      counts = (none, refl);
      so = subst (λ c. AreSo c begin now) (same_Some (set known i.a (Is 0)) next e)
          (subst (AreSo (set known i.a (Is 0)) begin) same (so-set known begin now i.a 0 (Is 0) so few refl));
    }
loop-false word image i known next begin now n false test so few is e = absurd (none-some next e)

loop-true : (word : ℕ) (image : Parts) (i : Instr) (known next : List Counter) (begin now : List ℕ) (n : ℕ) (b : Bool) → (n == 0) ≡ b
    → AreSo known begin now → i.a < 4 → get_or now i.a 0 ≡ n
    → option_map (set known i.a) (if b then None else Some (Is (n - 1))) ≡ Some next → CountsTo word image i Loop true next begin now
loop-true word image i known next begin now n true test so few is e = absurd (none-some next e)
loop-true word image i known next begin now n false test so few is e =
    let some = eqb-false n 0 test in
    record {
      after = set now i.a (get_or now i.a 0 - 1);
      counts = ((omega (arith, is, some)), refl);
      so = subst (λ c. AreSo c begin (set now i.a (get_or now i.a 0 - 1))) (same_Some (set known i.a (Is (n - 1))) next e)
          (so-set known begin now i.a (get_or now i.a 0 - 1) (Is (n - 1)) so few (ap (λ (m : ℕ). m - 1) is));
    }

loop-counts : (word : ℕ) (image : Parts) (i : Instr) (branch : Bool) (known next : List Counter) (begin now : List ℕ) (counter : Counter)
    → counter_at known i.a ≡ counter → AreSo known begin now → i.a < 4
    → option_map (set known i.a) (loop_after counter branch) ≡ Some next → CountsTo word image i Loop branch next begin now
loop-counts word image i false known next begin now (Is n) at so few e =
    loop-false word image i known next begin now n (n == 0) refl so few (subst (λ c. IsSo c (get_or begin i.a 0) (get_or now i.a 0)) at
    (so.each i.a)) e
loop-counts word image i true known next begin now (Is n) at so few e =
    loop-true word image i known next begin now n (n == 0) refl so few (subst (λ c. IsSo c (get_or begin i.a 0) (get_or now i.a 0)) at
    (so.each i.a)) e
loop-counts word image i branch known next begin now Kept at so few e = absurd (none-some next e)
loop-counts word image i branch known next begin now Unknown at so few e = absurd (none-some next e)

-- what is known of counters after an edge is true
pub counts-to : (word : ℕ) (image : Parts) (i : Instr) (opcode : Opcode) (branch : Bool) (called known next : List Counter) (begin now : List ℕ)
    → FieldsFit opcode i → AreSo known begin now
    → counters_after word i opcode branch called known ≡ Some next → CountsTo word image i opcode branch next begin now
counts-to word image i Setk branch called known next begin now fields so e =
    record {
      after = set now i.a i.imm;
      counts = refl;
      so = subst (λ c. AreSo c begin (set now i.a i.imm))
          (same_Some (set known i.a (Is i.imm)) next e) (so-set known begin now i.a i.imm (Is i.imm) so fields.0 refl);
    }
counts-to word image i Setkw branch called known next begin now fields so e =
    record {
      after = set now i.a word;
      counts = refl;
      so = subst (λ c. AreSo c begin (set now i.a word))
          (same_Some (set known i.a (Is word)) next e) (so-set known begin now i.a word (Is word) so fields.0 refl);
    }
counts-to word image i Loop branch called known next begin now fields so e = loop-counts word image i branch known next begin now
    (counter_at known i.a) refl so fields.0 e
counts-to word image i Call branch called known next begin now fields so e =
    record {
      after = now;
      counts = record { len = refl; each = λ k touched. refl };
      so = subst (λ c. AreSo c begin now) (same_Some (zip2 unless_changed called known) next e)
          (record { four = so.four; each = λ k. so-behind called known begin now now k so (λ kept. refl) });
    }
counts-to word image i _ branch called known next begin now fields so e =
    record { after = now; counts = refl; so = subst (λ c. AreSo c begin now) (same_Some known next e) so }
