-- The weakest rows hold if the slots of any two paths to one pc differ in marks at most.
use Rattle.std.proofs.Common.{◌≡◌, ◌≢◌, ℕ, ◌+◌, ◌<◌, ◌≤◌, Bool, true, false, List, [], ◌∷◌, length, map, set, Option, Some, None, slice_get, refl, sym, ap, ◌∙◌, subst, arith, inl, inr}
use Rattle.std.specs.Prelude.{nat_le, Result, Ok, Err, IfOk, IfNone, is_none}
use Rattle.std.proofs.lemmas.Bool.{cases_eq, and_parts, false≢true}
use Rattle.std.proofs.lemmas.List.{get_or-set_same, get_or-set_other, length-set}
use Rattle.std.proofs.lemmas.Option.{same_Some, none-some}
use Rattle.geos_image.specs.declared.instr.Instr.{Instr}
use Rattle.geos_image.specs.declared.row.Pointer.{Pointer}
use Rattle.geos_image.specs.declared.row.Row.{Row}
use Rattle.geos_image.specs.declared.row.SlotState.{SlotState}
use Rattle.geos_image.specs.declared.row.SlotState.TheVariants.{Empty, Mem, Vm, Db}
use Rattle.geos_image.specs.declared.routine.Routine.{Routine}
use Rattle.geos_image.specs.Legal.{is_shaped}
use Rattle.geos_image.specs.Parts.{Parts, start_of}
use Rattle.geos_verify.specs.Lists.{all2}
use Rattle.geos_verify.specs.Rows.{slot_fits, pointer_fits, pair_fits, fits, has_edge, after}
use Rattle.geos_verify.proofs.Places.{item_at}
use Rattle.geos_verify.proofs.RowsFit.{fits-from, pointer-none}
use Rattle.geos_code.specs.Code.{Edge, IsPcOf, instrs_of, edge_end, edge_row}
use Rattle.geos_code.specs.Known.{known_at, clean}
use Rattle.geos_rows.specs.Flow.{FlowsAnew}
use Rattle.geos_flow.specs.Slots.{slots_agree}
use Rattle.geos_rows.specs.Joins.{agree}
use Rattle.geos_rows.specs.Meeting.{coming_at, HaveAllGone}
use Rattle.geos_rows.specs.Reached.{AllFit, FitWhereReached}
use Rattle.geos_rows.specs.Weakest.{unmarked, any_words, weakest, weakest_of, IsWeakAt, EdgeIsWeak, AllWeak, Weakens}
use Rattle.geos_code.specs.Edges.{LeadsTo}
use Rattle.geos_rows.specs.Why.{AreApart, MeetAlike}
use Rattle.geos_flow.specs.declared.apart.Apart.{Apart}
use Rattle.geos_flow.specs.declared.apart.Coming.{Coming}
use Rattle.geos_rows.proofs.Alike.{alike-borrowed, alike-both, alike-sym, after-alike}
use Rattle.geos_rows.proofs.Came.{comes-to}
use Rattle.geos_code.proofs.Cleaning.{shape-parts}
use Rattle.geos_code.proofs.Ends.{after-edge, code-at}
use Rattle.geos_rows.proofs.Joining.{marks_agree, borrowed_alike}
use Rattle.geos_rows.proofs.Reaching.{kept-fits}

-- Slots

vm-unmarked : (a m : Bool) → slot_fits (Vm a m) (Vm false m) ≡ true
vm-unmarked true true = refl
vm-unmarked true false = refl
vm-unmarked false true = refl
vm-unmarked false false = refl

db-unmarked : (a : Bool) → slot_fits (Db a) (Db false) ≡ true
db-unmarked true = refl
db-unmarked false = refl

slot-unmarked : (x y : SlotState) → slots_agree x y ≡ true → slot_fits x (unmarked y) ≡ true
slot-unmarked Empty Empty h = refl
slot-unmarked Mem Mem h = refl
slot-unmarked (Vm a m) (Vm b n) h = subst (λ (l : Bool). slot_fits (Vm a m) (Vm false l) ≡ true) (alike-borrowed a b m n h) (vm-unmarked a m)
slot-unmarked (Db a) (Db b) h = db-unmarked a
slot-unmarked _ _ h = absurd cc

slots-unmarked : (xs ys : List SlotState) → all2 slots_agree xs ys ≡ true → all2 slot_fits xs (map unmarked ys) ≡ true
slots-unmarked [] [] h = refl
slots-unmarked (x ∷ xs) (y ∷ ys) h =
    let p = and_parts (slots_agree x y) (all2 slots_agree xs ys) h in
    rw (slot-unmarked x y p.0, slots-unmarked xs ys p.1) refl
slots-unmarked [] (y ∷ ys) h = absurd cc
slots-unmarked (x ∷ xs) [] h = absurd cc

unmarked-alike : (x : SlotState) → slots_agree (unmarked x) x ≡ true
unmarked-alike Empty = refl
unmarked-alike Mem = refl
unmarked-alike (Vm marked borrowed) = borrowed_alike false marked borrowed borrowed refl
unmarked-alike (Db marked) = marks_agree false marked

all-unmarked : (xs : List SlotState) → all2 slots_agree (map unmarked xs) xs ≡ true
all-unmarked [] = refl
all-unmarked (x ∷ xs) = rw (unmarked-alike x, all-unmarked xs) refl

pub weakest-alike : (row : Row) → agree (weakest row) row ≡ true
weakest-alike row = all-unmarked row.slots

-- Rows

pair-none : (a : Bool) → pair_fits a false ≡ true
pair-none true = refl
pair-none false = refl

pointers-none : (xs : List (Option Pointer)) → length xs ≡ 4 → all2 pointer_fits xs (None ∷ None ∷ None ∷ None ∷ []) ≡ true
pointers-none (a ∷ b ∷ c ∷ d ∷ []) h = rw (pointer-none a, pointer-none b, pointer-none c, pointer-none d) refl
pointers-none [] h = absurd (omega arith)
pointers-none (a ∷ []) h = absurd (omega arith)
pointers-none (a ∷ b ∷ []) h = absurd (omega arith)
pointers-none (a ∷ b ∷ c ∷ []) h = absurd (omega arith)
pointers-none (a ∷ b ∷ c ∷ d ∷ e ∷ xs) h = absurd (omega arith)

pairs-none : (xs : List Bool) → length xs ≡ 6 → all2 pair_fits xs (false ∷ false ∷ false ∷ false ∷ false ∷ false ∷ []) ≡ true
pairs-none (a ∷ b ∷ c ∷ d ∷ e ∷ f ∷ []) h =
    rw (pair-none a, pair-none b, pair-none c, pair-none d, pair-none e, pair-none f) refl
pairs-none [] h = absurd (omega arith)
pairs-none (a ∷ []) h = absurd (omega arith)
pairs-none (a ∷ b ∷ []) h = absurd (omega arith)
pairs-none (a ∷ b ∷ c ∷ []) h = absurd (omega arith)
pairs-none (a ∷ b ∷ c ∷ d ∷ []) h = absurd (omega arith)
pairs-none (a ∷ b ∷ c ∷ d ∷ e ∷ []) h = absurd (omega arith)
pairs-none (a ∷ b ∷ c ∷ d ∷ e ∷ f ∷ g ∷ xs) h = absurd (omega arith)

pub fits-weakest : (row first : Row) → is_shaped row ≡ true → all2 nat_le row.bounds any_words ≡ true → agree row first ≡ true
    → fits row (weakest first) ≡ true
fits-weakest row first shaped words alike =
    let parts = shape-parts row shaped in
    fits-from row (weakest first) (record {
      bounds = words;
      slots = slots-unmarked row.slots first.slots alike;
      pointers = pointers-none row.pointers parts.pointers;
      pairs = pairs-none row.pairs parts.pairs;
    })

-- Tables

pub weakens-none : (start : ℕ) (comings : List (Option Coming)) (known : List (Option Row)) → Weakens start start comings known known
weakens-none start comings known = record { len = refl; same = λ pc low high. absurd (omega arith); stays = λ k lt. refl }

pub weakens-more : (start pc : ℕ) (comings : List (Option Coming)) (known next : List (Option Row)) (o : Option Row) → start ≤ pc
    → pc < length next → o ≡ weakest_of (coming_at comings pc) → Weakens start pc comings known next
    → Weakens start (pc + 1) comings known (set next pc o)
weakens-more start pc comings known next o low within here C = record {
  len = length-set next pc o ∙ C.len;
  same = λ k above below. elim (cases_eq k pc) [
    | inl same ↦ ap (known_at (set next pc o)) same ∙ get_or-set_same next pc o None within ∙ here
        ∙ ap (λ (n : ℕ). weakest_of (coming_at comings n)) (sym same)
    | inr ne ↦ get_or-set_other next pc k o None ne ∙ C.same k above (omega (arith, ne))
  ];
  stays = λ k lt. let ne : k ≢ pc = (λ same. absurd (omega arith)) in get_or-set_other next pc k o None ne ∙ C.stays k lt;
}

pub weakens-to : (start pc end : ℕ) (comings : List (Option Coming)) (known next : List (Option Row)) → end ≤ pc
    → Weakens start pc comings known next → Weakens start end comings known next
weakens-to start pc end comings known next le C = record { len = C.len; same = λ k above below. C.same k above (omega arith); stays = C.stays }

-- what is known then came from where control is known to come
came-from : (o : Option Coming) (row : Row) → weakest_of o ≡ Some row → (coming : Coming) × (o ≡ Some coming) × (weakest coming.row ≡ row)
came-from None row e = absurd (none-some row e)
came-from (Some coming) row e = (coming, refl, same_Some (weakest coming.row) row e)

module _ (image : Parts) (r : ℕ) (small : start_of image.routines (r + 1) ≤ length image.points)
    (some : start_of image.routines r < start_of image.routines (r + 1)) (comings : List (Option Coming)) (known next : List (Option Row))
    (G : HaveAllGone image r comings)
    (W : Weakens (start_of image.routines r) (start_of image.routines (r + 1)) comings known next) where
  weak-at : (pc : ℕ) → IsPcOf image r pc → (first : Coming) → coming_at comings pc ≡ Some first → (row : Row)
      → agree row first.row ≡ true → IsWeakAt next pc row
  weak-at pc within first read row alike = record {
    first = first.row;
    read = W.same pc within.above within.below ∙ ap weakest_of read;
    alike = alike;
  }

  leads-by : (pc to : ℕ) (branch : Bool) (i : Instr) → IsPcOf image r pc → Edge (instrs_of image) pc branch to i
      → (leads : LeadsTo image pc branch to) × (leads.point.instr ≡ i)
  leads-by pc to branch i within edge =
      let found = item_at image.points pc (let below = within.below in omega (arith, below, small)) in
      let is : found.0.instr ≡ i = same_Some found.0.instr i (sym (code-at image pc found.0 found.1) ∙ edge.read) in (
        record {
          point = found.0;
          there = found.1;
          has = subst (λ (x : Instr). has_edge x branch ≡ true) (sym is) edge.has;
          leads = subst (λ (x : Instr). edge_end pc x branch ≡ to) (sym is) edge.leads;
        },
        is,
      )

  edge-weak : (pc : ℕ) (branch : Bool) → IsPcOf image r pc → EdgeIsWeak image r next pc branch
  edge-weak pc branch within to i row edge stays e =
      let from = came-from (coming_at comings pc) row (sym (W.same pc within.above within.below) ∙ e) in
      let came = from.0 in
      let leads = leads-by pc to branch i within edge in
      let met = G.gone pc branch within came to from.1 leads.0 stays in
      let other = after image pc came.row branch in
      let held = clean row in
      let same : agree held came.row ≡ true = subst (λ (x : Row). agree x came.row ≡ true) from.2 (weakest-alike came.row) in
      let behind : agree (after image pc held branch) other ≡ true = after-alike image pc branch held came.row (slice_get image.points pc) refl same in
      let is : after image pc held branch ≡ edge_row image i branch held = after-edge image pc branch leads.0.point held leads.0.there
      ∙ ap (λ x. edge_row image x branch held) leads.1 in
      weak-at to stays met.first met.read (edge_row image i branch held)
      (subst (λ (x : Row). agree x met.first.row ≡ true) is
      (alike-both (after image pc held branch) met.first.row other behind met.alike))

  pub all-weak : AllWeak image r next
  all-weak = record {
    entry = λ routine there.
        let met = G.begun routine there in
        weak-at (start_of image.routines r) (record { above = omega arith; below = omega (arith, some) }) met.first met.read routine.entry
        (alike-sym met.first.row routine.entry met.alike);
    edges = edge-weak;
  }

-- If the slots of paths differ in marks at most

-- no two ways are apart then
pub never-apart : (image : Parts) (r : ℕ) (apart : Apart) → AreApart image r apart → MeetAlike image r → ⊥
never-apart image r apart A meet =
    let one = comes-to image r apart.to apart.first A.first in
    let two = comes-to image r apart.to apart.second A.second in
    false≢true (sym A.differ ∙ meet apart.to apart.first.row apart.second.row one two)

-- where rows flow, others are not looked for
pub flows-never : {E : Type 0} (image : Parts) (r : ℕ) (known next : List (Option Row)) (answer : Result (Option Apart) E)
    → FlowsAnew image r known false → IfOk answer (λ left. FlowsAnew image r next (is_none left))
flows-never image r known next (Ok left) F = λ want forward holds. absurd (false≢true (F want forward holds).0)
flows-never image r known next (Err error) F = tt

-- rows that fit along all edges fit wherever control reaches
pub fits-reached : {E : Type 0} (image : Parts) (r : ℕ) → start_of image.routines r < start_of image.routines (r + 1)
    → (routine : Routine) → slice_get image.routines r ≡ Some routine → (known : List (Option Row)) (answer : Result (Option Apart) E)
    → IfOk answer (λ left. IfNone left (AllFit image r known)) → IfOk answer (λ left. IfNone left (FitWhereReached image r known))
fits-reached image r some routine there known (Ok None) fit = kept-fits image r some routine there known fit known known
    (record { len = refl; kept = λ pc row low high read. read; stays = λ k lt. refl })
fits-reached image r some routine there known (Ok (Some apart)) fit = tt
fits-reached image r some routine there known (Err error) fit = tt
