-- What lines without fault declare, beside what they say.
use Rattle.std.proofs.Common.{◌≡◌, ◌∙◌, ◌<◌, ◌≤◌, ◌+◌, ℕ, true, false, not, min, List, [], ◌∷◌, map, Option, Some, None, length, bytes_eq, refl, sym, subst, arith}
use Rattle.std.specs.List.{list_all}
use Rattle.std.proofs.lemmas.Bool.{or_from}
use Rattle.std.proofs.lemmas.List.{length_push}
use Rattle.geos_image.specs.declared.instr.Instr.{Instr}
use Rattle.geos_image.specs.declared.routine.Routine.{Routine}
use Rattle.geos_image.specs.Parts.{total_count}
use Rattle.geos_image.specs.Legal.{is_name, is_named, is_row, is_instr, are_routines}
use Rattle.geos_image.proofs.Pushes.{are_routines-push}
use Rattle.geos_text.specs.Words.{is_empty}
use Rattle.geos_source.specs.declared.fault.BadLine.{BadLine}
use Rattle.geos_source.specs.declared.progress.TextRoutine.{TextRoutine}
use Rattle.geos_source.specs.declared.progress.Part.{Part}
use Rattle.geos_source.specs.declared.progress.Part.TheVariants.{Outside, Head, Body}
use Rattle.geos_source.specs.Names.{Names, with_name}
use Rattle.geos_source.specs.Declarations.{Declared, nothing, with_label, with_labels}
use Rattle.geos_source.specs.Texts.{Draft, blank, unfilled, with_current, waiting_from, take_labels}
use Rattle.geos_source.specs.Skeletons.{routine_of}
use Rattle.geos_source.proofs.OperandsRead.{TableBelow}
use Rattle.geos_source.proofs.Pushed.{routines-push, counts-push, is_named-push, is_routine-from, named-holds, named-unknown}

-- the routines so far, with the one that has begun
abbrev pub all_of : Draft → List TextRoutine
all_of t = with_current t.routines t.progress.current

-- the instruction is one that an image may have in which all names stand for what there is
abbrev pub LegalInstr : Names → Instr → Type 0
LegalInstr names i = (routines instrs : ℕ) → TableBelow routines names.routines → TableBelow instrs names.labels → is_instr routines instrs i ≡ true

-- the routine is legal after those that are complete, as soon as it has an instruction
pub record MayStandBehind (done : List TextRoutine) (r : Routine) : Type 0 where
  pub name : is_name r.name ≡ true
  pub new : is_named r.name (map routine_of done) ≡ false
  pub entry : is_row true r.entry ≡ true
  pub exit : is_row true r.exit ≡ true

-- what is known of the routine that has begun, by the part in which the next line is
abbrev pub Current : Part → List TextRoutine → Option TextRoutine → Type 0
Current Outside done None = Unit {0}
Current Outside done (Some r) = ⊥
Current (Head line has_in has_out) done None = ⊥
Current (Head line has_in has_out) done (Some r) = MayStandBehind done r.routine
Current Body done None = ⊥
Current Body done (Some r) = MayStandBehind done r.routine × (0 < r.routine.count)

-- what lines without fault declare, beside what they say, where names stand for these
pub record Told (names : Names) (d : Declared) (t : Draft) : Type 0 where
  pub part : Current t.progress.part t.routines t.progress.current
  pub complete : are_routines true [] (map routine_of t.routines) ≡ true
  pub instrs : d.instrs ≡ length t.code
  pub routines : d.routines ≡ length (all_of t)
  pub short : length t.code ≤ 4096
  pub few : length (all_of t) ≤ 32
  pub counts : total_count (map routine_of (all_of t)) ≡ length t.code
  pub unnamed : (name : List ℕ) → d.names.routines name ≡ None → is_named name (map routine_of (all_of t)) ≡ false
  pub callees : TableBelow d.routines d.names.routines
  pub labels : (name : List ℕ) (pc : ℕ) → d.names.labels name ≡ Some pc → pc ≤ d.instrs
  pub followed : t.progress.waiting ≡ None → TableBelow d.instrs d.names.labels
  pub code : (routines instrs : ℕ) → TableBelow routines names.routines → TableBelow instrs names.labels
      → list_all (is_instr routines instrs) t.code ≡ true

pub told-blank : (names : Names) → Told names nothing blank
told-blank names =
    record {
      part = tt;
      complete = refl;
      instrs = refl;
      routines = refl;
      short = omega arith;
      few = omega arith;
      counts = refl;
      unnamed = λ name e. refl;
      callees = λ name v e. absurd cc;
      labels = λ name pc e. absurd cc;
      followed = λ none name v e. absurd cc;
      code = λ routines instrs callees labels. refl;
    }

-- ---- labels

-- something waits
waiting_from-some : (n : ℕ) (waiting : Option ℕ) → (line : ℕ) × (waiting_from n waiting ≡ Some line)
waiting_from-some n None = (n, refl)
waiting_from-some n (Some line) = (line, refl)

-- names may stand for what follows, where something waits
waits-told : (names : Names) (labels : List ℕ → Option ℕ) (waiting : Option ℕ) (line : ℕ) (fault : Option BadLine) (d : Declared) (t : Draft)
    → waiting ≡ Some line
    → ((name : List ℕ) (pc : ℕ) → labels name ≡ Some pc → pc ≤ d.instrs) → Told names d t
    → Told names (record { routines = d.routines; instrs = d.instrs; names = record { labels = labels; routines = d.names.routines }; fault = fault })
    (record t { progress = record t.progress { waiting = waiting } })
waits-told names labels waiting line fault d t waits within h =
    record {
      part = h.part;
      complete = h.complete;
      instrs = h.instrs;
      routines = h.routines;
      short = h.short;
      few = h.few;
      counts = h.counts;
      unnamed = h.unnamed;
      callees = h.callees;
      labels = within;
      followed = λ none. absurd cc;
      code = h.code;
    }

label-told : (names : Names) (n : ℕ) (name : List ℕ) (line : ℕ) (d : Declared) (t : Draft) → t.progress.waiting ≡ Some line
    → Told names d t → Told names (with_label n name d) t
label-told names n name line d t waits h =
    waits-told names (with_name d.names.labels name d.instrs) t.progress.waiting line _ d t waits
    (λ other pc e. named-holds (λ k. k ≤ d.instrs) (bytes_eq name other) d.instrs pc (d.names.labels other) (omega arith) (h.labels other pc) e) h

later_labels-told : (names : Names) (n : ℕ) (others : List (List ℕ)) (line : ℕ) (d : Declared) (t : Draft)
    → t.progress.waiting ≡ Some line → Told names d t → Told names (with_labels n others d) t
later_labels-told names n [] line d t waits h = h
later_labels-told names n (name ∷ others) line d t waits h = later_labels-told names n others line (with_label n name d)
    t waits (label-told names n name line d t waits h)

waiting-told : (names : Names) (n : ℕ) (d : Declared) (t : Draft) → Told names d t
    → Told names d (record t { progress = take_labels n true t.progress })
waiting-told names n d t h =
    let waits = waiting_from-some n t.progress.waiting in
    waits-told names d.names.labels (waiting_from n t.progress.waiting) waits.0 d.fault d t waits.1 h.labels h

-- labels stand for what follows
pub labels-told : (names : Names) (n : ℕ) (labels : List (List ℕ)) (d : Declared) (t : Draft) → Told names d t
    → Told names (with_labels n labels d) (record t { progress = take_labels n (not (is_empty labels)) t.progress })
labels-told names n [] d t h = h
labels-told names n (name ∷ labels) d t h =
    let waits = waiting_from-some n t.progress.waiting in
    later_labels-told names n (name ∷ labels) waits.0 d (record t { progress = take_labels n true t.progress }) waits.1 (waiting-told names n d t h)

-- ---- routines

-- the routine that has begun is complete, if it has an instruction
pub complete-told : (part : Part) (done : List TextRoutine) (current : Option TextRoutine) → Current part done current → unfilled part ≡ None
    → are_routines true [] (map routine_of done) ≡ true → are_routines true [] (map routine_of (with_current done current)) ≡ true
complete-told Outside done None h filled legal = legal
complete-told Outside done (Some r) h filled legal = absurd h
complete-told (Head line has_in has_out) done current h filled legal = absurd cc
complete-told Body done None h filled legal = absurd h
complete-told Body done (Some r) h filled legal =
    let b = h.0 in
    let here = is_routine-from (map routine_of done) r.routine b.name b.new h.1 b.entry b.exit in
    subst (λ rs. are_routines true [] rs ≡ true) (sym (routines-push done r)) (are_routines-push true (map routine_of done) r.routine legal here)

-- a routine of a new name has begun
pub begun-told : (names : Names) (d : Declared) (t : Draft) (r : Routine) (line : ℕ) (f g : Option BadLine)
    → Told names d t → t.progress.waiting ≡ None → unfilled t.progress.part ≡ None
    → length (all_of t) < 32 → d.names.routines r.name ≡ None → r.count ≡ 0 → is_name r.name ≡ true → is_row true r.entry ≡ true
    → is_row true r.exit ≡ true
    → Told names
    (record {
      routines = min (d.routines + 1) 32;
      instrs = d.instrs;
      names =
          record { labels = d.names.labels; routines = with_name d.names.routines r.name d.routines };
      fault = f;
    })
    (record {
      routines = all_of t;
      code = t.code;
      progress =
          record { part = Head line false false; current = Some (record { line = line; routine = r }); waiting = None; fault = g };
    })
begun-told names d t r line f g h none filled room new empty name entry exit =
    let begun : TextRoutine = record { line = line; routine = r } in
    let number = h.routines in
    let longer = length_push (all_of t) begun in
    let sums = counts-push (all_of t) begun in
    let counts = h.counts in
    record {
      part = record { name = name; new = h.unnamed r.name new; entry = entry; exit = exit };
      complete = complete-told t.progress.part t.routines t.progress.current h.part filled h.complete;
      instrs = h.instrs;
      routines = omega arith;
      short = h.short;
      few = omega arith;
      counts = omega arith;
      unnamed = λ other e.
          let unknown = named-unknown (bytes_eq r.name other) d.routines (d.names.routines other) e in
          is_named-push other (all_of t) begun ∙ or_from (is_named other (map routine_of (all_of t))) (bytes_eq r.name other)
          (h.unnamed other unknown.1) unknown.0;
      callees = λ other v e. named-holds (λ k. k < min (d.routines + 1) 32) (bytes_eq r.name other) d.routines v
          (d.names.routines other) (omega arith)
          (λ known. let below = h.callees other v known in omega arith) e;
      labels = h.labels;
      followed = λ same. h.followed none;
      code = h.code;
    }
