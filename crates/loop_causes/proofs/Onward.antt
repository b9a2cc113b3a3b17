-- Paths that continue along an edge, or after the iterations of a loop.
use Rattle.std.proofs.Common.{◌≡◌, ◌≢◌, ◌≤◌, ◌<◌, ℕ, zero, suc, ◌+◌, ◌-◌, ◌*◌, Bool, true, false, List, [], ◌∷◌, length, Option, Some, None, slice_get, get_or, set, refl, sym, ap, ◌∙◌, subst, arith, inl, inr}
use Rattle.std.specs.Prelude.{IfSome}
use Rattle.std.proofs.lemmas.Bool.{cases_eq, cases_lt}
use Rattle.std.proofs.lemmas.List.{length-set, get_or-set_same, get_or-set_other, set_past}
use Rattle.std.proofs.lemmas.Option.{same_Some, none-some}
use Rattle.std.proofs.Math.Nat.{mul-le-mul_right}
use Rattle.geos_opcodes.specs.declared.opcode.Opcode.{Opcode}
use Rattle.geos_opcodes.specs.declared.opcode.Opcode.TheVariants.{Loop}
use Rattle.geos_image.specs.declared.instr.Instr.{Instr}
use Rattle.geos_image.specs.declared.point.Point.{Point}
use Rattle.geos_image.specs.declared.row.Row.{Row}
use Rattle.geos_image.specs.Fields.{FieldsFit}
use Rattle.geos_image.specs.Parts.{Parts}
use Rattle.geos_verify.specs.Lists.{zip2}
use Rattle.geos_verify.proofs.Places.{if_some}
use Rattle.loop_causes.specs.declared.counters.Counter.{Counter}
use Rattle.loop_causes.specs.declared.counters.Counter.TheVariants.{Kept, Is, Unknown}
use Rattle.loop_causes.specs.declared.reach.Reach.{Reach}
use Rattle.geos_code.specs.Code.{IsPcOf}
use Rattle.loop_causes.specs.Turns.{counter_at, all_are, IsSo, AreSo, number_in, unless_changed, counters_after, Begin, begin_at, begin_from, ComesTo, AlwaysComesTo, GoOn, AreReached, IsTurn, AreTurns}
use Rattle.geos_counters.specs.Counters.{zeros}
use Rattle.geos_counters.specs.Steps.{call_steps, most_steps, taken_at}
use Rattle.loop_causes.specs.Taken.{Place, Counts, Goes, Takes, StepsPassBy, word_at}
use Rattle.geos_code.specs.Edges.{LeadsTo}
use Rattle.loop_causes.proofs.Changes.{so-set, so-behind, kept-so, zeros-so, counts-to}

abbrev place : ℕ → List ℕ → Place
place pc counters = record { pc = pc; counters = counters }

-- a way from one place to another takes at least so many steps
record Way (rows : List (Option Row)) (image : Parts) (r : ℕ) (from to : Place) (steps : ℕ) : Type 0 where
  places : List Place
  taken : ℕ
  takes : Takes rows image r from places to taken
  least : steps ≤ taken

-- Two paths in sequence

takes-then : (rows : List (Option Row)) (image : Parts) (r : ℕ) (from mid to : Place) (first second : List Place) (m n : ℕ)
    → Takes rows image r from first mid m
    → Takes rows image r mid second to n → Way rows image r from to (m + n)
takes-then rows image r from mid to first [] m n way next =
    record {
      places = first;
      taken = m;
      takes = subst (λ (p : Place). Takes rows image r from first p m) (sym next.0) way;
      least =
          (let none = next.1 in omega arith);
    }
takes-then rows image r from mid to first (last ∷ second) m n way next =
    let so_far = takes-then rows image r from mid last first second m next.0 way next.1 in
    let least = so_far.least in
    let all = next.3 in
    record {
      places = last ∷ so_far.places;
      taken = so_far.taken + taken_at image last.pc;
      takes =
          (so_far.taken, so_far.takes, next.2, refl);
      least = omega arith;
    }

-- An edge

module _ (rows : List (Option Row)) (image : Parts) (r pc to : ℕ) (branch : Bool) (leads : LeadsTo image pc branch to)
    (within : IsPcOf image r pc) where
  -- ways go on along an edge
  pub goes-on : (i : Instr) (called : List Counter) (reach next : Reach) → IfSome (slice_get image.points pc) (λ point. i ≡ point.instr)
      → FieldsFit i.opcode i
      → Some next.counters ≡ counters_after (word_at rows pc i.b) i i.opcode branch called reach.counters
      → next.steps ≤ reach.steps + taken_at image pc
      → GoOn rows image r pc reach to next
  goes-on i called reach next there fields counters steps begin reached = λ first so.
      let came = reached first so in
      let same : i ≡ leads.point.instr = if_some (λ point. i ≡ point.instr) (slice_get image.points pc) leads.point leads.there there in
      let on = counts-to (word_at rows pc i.b) image i i.opcode branch called reach.counters next.counters first came.now fields came.so
      (sym counters) in
      let least = came.least in
      record {
        from = came.from;
        above = came.above;
        below = came.below;
        places = place pc came.now ∷ came.places;
        now = on.after;
        steps = came.steps + taken_at image pc;
        way = (
          came.steps,
          came.way,
          record {
            within = within;
            branch = branch;
            leads = leads;
            counts =
                subst (λ (x : Instr). Counts (word_at rows pc x.b) image x x.opcode branch came.now on.after) same on.counts;
          },
          refl,
        );
        least = omega arith;
        so = on.so;
      }

-- Turns

-- a way leads from a LOOP at a pc to it again, and its counter is so much then
record Turned (rows : List (Option Row)) (image : Parts) (r pc a : ℕ) (turn : Reach) (before : List ℕ) (left steps : ℕ) : Type 0 where
  after : List ℕ
  way : Way rows image r (place pc before) (place pc after) steps
  four : length after ≡ 4
  counter : get_or after a 0 ≡ left
  kept : (k : ℕ) → k ≢ a → counter_at turn.counters k ≡ Kept → get_or after k 0 ≡ get_or before k 0

suc-times : (j x : ℕ) → suc j * x ≡ x + j * x
suc-times j x = omega arith

number-least : (counter : Counter) (begin now : ℕ) → IsSo counter begin now → number_in counter ≤ now
number-least Kept begin now so = omega arith
number-least (Is n) begin now so = omega (arith, so)
number-least Unknown begin now so = omega arith

module _ (rows : List (Option Row)) (image : Parts) (r pc : ℕ) (turn : Reach) (T : IsTurn rows image r pc turn) where
  one-taken : 1 ≤ taken_at image pc
  one-taken = let taken : taken_at image pc ≡ 1 + call_steps image T.point.instr = rw (T.there, taken_at) refl in omega (arith, taken)

  -- LOOP's way to its target
  back : LeadsTo image pc true T.point.instr.target
  back = record { point = T.point; there = T.there; has = rw T.loops refl; leads = refl }

  -- one turn
  once : (now : List ℕ) (j : ℕ) → length now ≡ 4 → get_or now T.point.instr.a 0 ≡ suc j
      → Turned rows image r pc T.point.instr.a turn now j (turn.steps + 1)
  unfolding back
  once now j four is =
      let a = T.point.instr.a in
      let few = T.few in
      let less = set now a (get_or now a 0 - 1) in
      let came = T.way less (kept-so less (length-set now a (get_or now a 0 - 1) ∙ four)) in
      let at_target : came.from ≡ T.point.instr.target = (let above = came.above in let below = came.below in omega arith) in
      let counts = subst (λ (o : Opcode). Counts (word_at rows pc T.point.instr.b) image T.point.instr o true now less) (sym T.loops) (
        omega
            (arith, is),
        refl,
      ) in
      let goes : Goes rows image r (place pc now) (place T.point.instr.target less) =
      record { within = T.within; branch = true; leads = back; counts = counts } in
      let turned = subst (λ (n : ℕ). Takes rows image r (place n less) came.places (place pc came.now) came.steps) at_target came.way in
      let way = takes-then rows image r (place pc now) (place T.point.instr.target less) (place pc came.now)
      (place pc now ∷ []) came.places (0 + taken_at image pc) came.steps (0, (refl, refl), goes, refl) turned in
      let least = way.least in
      let steps = came.least in
      let one = one-taken in
      let set_here : get_or less a 0 ≡ get_or now a 0 - 1 = get_or-set_same now a (get_or now a 0 - 1) 0 (omega arith) in
      let kept_here : get_or came.now a 0 ≡ get_or less a 0 = subst (λ (c : Counter). IsSo c (get_or less a 0) (get_or came.now a 0))
      T.kept (came.so.each a) in
      record {
        after = came.now;
        way = record { places = way.places; taken = way.taken; takes = way.takes; least = omega arith };
        four = came.so.four;
        counter = omega (arith, kept_here, set_here, is);
        kept = λ k ne kept. subst (λ (c : Counter). IsSo c (get_or less k 0) (get_or came.now k 0)) kept (came.so.each k)
            ∙ get_or-set_other now a k (get_or now a 0 - 1) 0 ne;
      }

  -- all the turns that are left
  all-turns : (j : ℕ) (now : List ℕ) → length now ≡ 4 → get_or now T.point.instr.a 0 ≡ j
      → Turned rows image r pc T.point.instr.a turn now 0 (j * (turn.steps + 1))
  all-turns zero now four is = record {
    after = now;
    way = record { places = []; taken = 0; takes = (refl, refl); least = omega arith };
    four =
        four;
    counter = is;
    kept = λ k ne kept. refl;
  }
  all-turns (suc j) now four is =
      let first = once now j four is in
      let rest = all-turns j first.after first.four first.counter in
      let way = takes-then rows image r (place pc now) (place pc first.after) (place pc rest.after) first.way.places
      rest.way.places first.way.taken rest.way.taken first.way.takes rest.way.takes in
      let least = way.least in
      let first_least = first.way.least in
      let rest_least = rest.way.least in
      record {
        after = rest.after;
        way = record { places = way.places; taken = way.taken; takes = way.takes; least = omega (arith, suc-times j (turn.steps + 1)) };
        four = rest.four;
        counter = rest.counter;
        kept = λ k ne kept. rest.kept k ne kept ∙ first.kept k ne kept;
      }

  -- paths continue after the last iteration
  pub goes-behind : (to left : ℕ) (i : Instr) (reach next : Reach) → LeadsTo image pc false to
      → IfSome (slice_get image.points pc) (λ point. i ≡ point.instr) → left ≡ number_in (counter_at reach.counters i.a)
      → next.counters ≡ zip2 unless_changed turn.counters (set reach.counters i.a (Is 0))
      → next.steps ≤ reach.steps + left * (turn.steps + 1) + 1 → GoOn rows image r pc reach to next
  goes-behind to left i reach next leads there number counters steps begin reached = λ first so.
      let a = T.point.instr.a in
      let few = T.few in
      let same : i ≡ T.point.instr = if_some (λ point. i ≡ point.instr) (slice_get image.points pc) T.point T.there there in
      let same_a : i.a ≡ a = ap (λ (x : Instr). x.a) same in
      let came = reached first so in
      let j = get_or came.now a 0 in
      let turned = all-turns j came.now came.so.four refl in
      let enough : left ≤ j = (let least = number-least (counter_at reach.counters a) (get_or first a 0) j (came.so.each a) in
      let number_a : number_in (counter_at reach.counters i.a) ≡ number_in (counter_at reach.counters a) =
      ap (λ (n : ℕ). number_in (counter_at reach.counters n)) same_a in omega (arith, number, number_a, least)) in
      let more = mul-le-mul_right (turn.steps + 1) enough in
      let way = takes-then rows image r (place came.from first) (place pc came.now) (place pc turned.after) came.places
      turned.way.places came.steps turned.way.taken came.way turned.way.takes in
      let same_point : T.point ≡ leads.point = same_Some T.point leads.point (sym T.there ∙ leads.there) in
      let loops : leads.point.instr.opcode ≡ Loop = ap (λ (x : Point). x.instr.opcode) (sym same_point) ∙ T.loops in
      let none : get_or turned.after leads.point.instr.a 0 ≡ 0 = ap (λ (x : Point). get_or turned.after x.instr.a 0) (sym same_point)
      ∙ turned.counter in
      let counts = subst (λ (o : Opcode). Counts (word_at rows pc leads.point.instr.b) image leads.point.instr o false turned.after turned.after)
      (sym loops) (none, refl) in
      let goes : Goes rows image r (place pc turned.after) (place to turned.after) =
      record { within = T.within; branch = false; leads = leads; counts = counts } in
      let way_least = way.least in
      let turned_least = turned.way.least in
      let came_least = came.least in
      let one = one-taken in
      let spent = so-set reach.counters first came.now a 0 (Is 0) came.so few refl in
      let kept = spent-kept came.now turned.after a (turned.four) turned.counter few came.so.four turned.kept in
      let is : next.counters ≡ zip2 unless_changed turn.counters (set reach.counters a (Is 0)) = counters
      ∙ ap (λ (n : ℕ). zip2 unless_changed turn.counters (set reach.counters n (Is 0))) same_a in
      record {
        from = came.from;
        above = came.above;
        below = came.below;
        places = place pc turned.after ∷ way.places;
        now = turned.after;
        steps = way.taken + taken_at image pc;
        way = (way.taken, way.takes, goes, refl);
        least = omega arith;
        so = subst (λ (c : List Counter). AreSo c first turned.after) (sym is)
            (record {
              four = turned.four;
              each = λ k. so-behind turn.counters (set reach.counters a (Is 0)) first
                  (set came.now a 0) turned.after k spent (kept k);
            });
      }
    where
      -- the turns keep what one keeps, where the LOOP's own counter is 0
      spent-kept : (before after : List ℕ) (a : ℕ) → length after ≡ 4 → get_or after a 0 ≡ 0 → a < 4 → length before ≡ 4
          → ((k : ℕ) → k ≢ a → counter_at turn.counters k ≡ Kept → get_or after k 0 ≡ get_or before k 0)
          → (k : ℕ) → counter_at turn.counters k ≡ Kept → get_or after k 0 ≡ get_or (set before a 0) k 0
      spent-kept before after a four none few before_four kept k e = elim (cases_eq k a) [
        | inl same ↦ ap (λ (n : ℕ). get_or after n 0) same ∙ none ∙ sym (get_or-set_same before a 0 0 (omega arith))
            ∙ ap (λ (n : ℕ). get_or (set before a 0) n 0) (sym same)
        | inr ne ↦ kept k ne e ∙ sym (get_or-set_other before a k 0 0 ne)
      ]

-- What a table says of ways

-- also where a further way is noted
pub reached-set : (rows : List (Option Row)) (image : Parts) (r : ℕ) (begin : Begin) (low high : ℕ) (reached : List (Option Reach)) (to : ℕ)
    (next : Reach)
    → AreReached rows image r begin low high reached → AlwaysComesTo rows image r begin to next
    → AreReached rows image r begin low high (set reached to (Some next))
reached-set rows image r begin low high reached to next all comes pc other above below e = elim (cases_lt to (length reached)) [
  | inl within ↦ elim (cases_eq pc to) [
    | inl same ↦
        let at : get_or (set reached to (Some next)) to None ≡ Some other = ap (λ (n : ℕ). get_or (set reached to (Some next)) n None) (sym same)
        ∙ e in
        let is : next ≡ other = same_Some next other (sym (get_or-set_same reached to (Some next) None within) ∙ at) in
        subst (λ (n : ℕ). AlwaysComesTo rows image r begin n other) (sym same) (subst (AlwaysComesTo rows image r begin to) is comes)
    | inr ne ↦ all pc other above below (sym (get_or-set_other reached to pc (Some next) None ne) ∙ e)
  ]
  | inr past ↦ all pc other above below (ap (λ (l : List (Option Reach)). get_or l pc None) (sym (set_past reached to (Some next) past)) ∙ e)
]

-- also where a further turn is noted
pub turns-set : (rows : List (Option Row)) (image : Parts) (r : ℕ) (turns : List (Option Reach)) (to : ℕ) (next : Reach) → AreTurns rows image r turns
    → IsTurn rows image r to next → AreTurns rows image r (set turns to (Some next))
turns-set rows image r turns to next all is_turn pc other e = elim (cases_lt to (length turns)) [
  | inl within ↦ elim (cases_eq pc to) [
    | inl same ↦
        let at : get_or (set turns to (Some next)) to None ≡ Some other = ap (λ (n : ℕ). get_or (set turns to (Some next)) n None) (sym same) ∙ e in
        let is : next ≡ other = same_Some next other (sym (get_or-set_same turns to (Some next) None within) ∙ at) in
        subst (λ (n : ℕ). IsTurn rows image r n other) (sym same) (subst (IsTurn rows image r to) is is_turn)
    | inr ne ↦ all pc other (sym (get_or-set_other turns to pc (Some next) None ne) ∙ e)
  ]
  | inr past ↦ all pc other (ap (λ (l : List (Option Reach)). get_or l pc None) (sym (set_past turns to (Some next) past)) ∙ e)
]

-- The starts of paths, and paths with more steps than a potential can say

at-once : (rows : List (Option Row)) (image : Parts) (r : ℕ) (begin : Begin) (pc : ℕ) (reach : Reach) (first : List ℕ) → begin.low ≤ pc
    → pc ≤ begin.high → reach.steps ≡ 0 → AreSo reach.counters first first → ComesTo rows image r begin first pc reach
at-once rows image r begin pc reach first above below none so = record {
  from = pc;
  above = above;
  below = below;
  places = [];
  now = first;
  steps = 0;
  way = (refl, refl);
  least = omega (arith, none);
  so = so;
}

pub begins-at : (rows : List (Option Row)) (image : Parts) (r at low high : ℕ) (reached : List (Option Reach)) (first : Reach) → first.steps ≡ 0
    → first.counters ≡ all_are Kept → ((k : ℕ) → low ≤ k → k ≤ high → get_or reached k None ≡ None)
    → AreReached rows image r (begin_at at) low high (set reached at (Some first))
begins-at rows image r at low high reached first steps counters none pc reach above below e = elim (cases_eq pc at) [
  | inl same ↦ elim (cases_lt at (length reached)) [
    | inl within ↦
        let there : get_or (set reached at (Some first)) at None ≡ Some reach = ap (λ (n : ℕ). get_or (set reached at (Some first)) n None) (sym same)
        ∙ e in
        let is : first ≡ reach = same_Some first reach (sym (get_or-set_same reached at (Some first) None within) ∙ there) in
        λ now so. at-once rows image r (begin_at at) pc reach now (omega (arith, same)) (omega (arith, same))
        (ap (λ (x : Reach). x.steps) (sym is) ∙ steps)
        (subst (λ (known : List Counter). AreSo known now now) (sym (ap (λ (x : Reach). x.counters) (sym is) ∙ counters)) so)
    | inr past ↦ absurd (none-some reach (sym (none pc above below) ∙ ap (λ (l : List (Option Reach)). get_or l pc None)
        (sym (set_past reached at (Some first) past)) ∙ e))
  ]
  | inr ne ↦ absurd (none-some reach (sym (none pc above below) ∙ sym (get_or-set_other reached at pc (Some first) None ne) ∙ e))
]

pub begins-from : (rows : List (Option Row)) (image : Parts) (r low high : ℕ) (reached : List (Option Reach)) (first : Reach) → first.steps ≡ 0
    → first.counters ≡ all_are (Is 0) → ((k : ℕ) → low ≤ k → k ≤ high → get_or reached k None ≡ Some first)
    → AreReached rows image r (begin_from low high) low high reached
begins-from rows image r low high reached first steps counters all pc reach above below e =
    let is : first ≡ reach = same_Some first reach (sym (all pc above below) ∙ e) in
    λ now so. at-once rows image r (begin_from low high) pc reach now above below (ap (λ (x : Reach). x.steps) (sym is) ∙ steps)
    (subst (λ (known : List Counter). AreSo known now now) (sym (ap (λ (x : Reach). x.counters) (sym is) ∙ counters)) so)

pub passes : (rows : List (Option Row)) (image : Parts) (r low high pc : ℕ) (reach : Reach) → IsPcOf image r pc
    → AlwaysComesTo rows image r (begin_from low high) pc reach
    → most_steps < reach.steps + taken_at image pc → StepsPassBy rows image r
passes rows image r low high pc reach within reached past =
    let came = reached zeros zeros-so in
    let least = came.least in
    record { from = came.from; places = came.places; end = place pc came.now; ends = within; before = came.steps; way = came.way; past = omega arith }
