-- If all that is known has moved along its edges, the slots of any two paths to one pc differ in marks at most.
use Rattle.std.proofs.Common.{◌≡◌, ℕ, zero, suc, ◌<◌, ◌+◌, Bool, true, false, List, [], ◌∷◌, length, Option, Some, None, slice_get, set, refl, sym, ap, ◌∙◌, subst, arith, inl, inr}
use Rattle.std.specs.Prelude.{◌||◌}
use Rattle.std.proofs.lemmas.Bool.{cases_eq, cases_lt, false≢true}
use Rattle.std.proofs.lemmas.List.{get_or-set_same, get_or-set_other}
use Rattle.std.proofs.lemmas.Option.{same_Some, none-some}
use Rattle.geos_image.specs.declared.row.Row.{Row}
use Rattle.geos_image.specs.declared.routine.Routine.{Routine}
use Rattle.geos_image.specs.Parts.{Parts, start_of}
use Rattle.geos_verify.specs.Rows.{after}
use Rattle.geos_code.specs.Code.{IsPcOf}
use Rattle.geos_rows.specs.Joins.{agree}
use Rattle.geos_flow.specs.declared.apart.Apart.{Apart}
use Rattle.geos_flow.specs.declared.apart.Coming.{Coming}
use Rattle.geos_code.specs.declared.body.Body.{Body}
use Rattle.geos_rows.specs.Why.{IsWay, MeetAlike, AreApart}
use Rattle.geos_rows.specs.Meeting.{coming_at, waits_at, count_unknown, AllCome, IsMet, BringsAlong, HasGone, IsSpread, NoneWaits, GoesFurther, HaveAllGone}
use Rattle.geos_rows.proofs.Alike.{alike-refl, alike-both, alike-sym, after-alike}
use Rattle.geos_code.proofs.Bodies.{in-body}
use Rattle.geos_rows.proofs.Came.{all_come-set}
use Rattle.geos_code.proofs.Ends.{leads-one}
use Rattle.geos_rows.proofs.Named.{named-none}

-- Where all has gone on

module _ (image : Parts) (r : ℕ) (known : List (Option Coming)) (waits : List Bool) (S : IsSpread image r known waits)
    (begins : IsPcOf image r (start_of image.routines r))
    (settled : (pc : ℕ) → IsPcOf image r pc → waits_at waits pc ≡ false) where
  -- with what comes on a way, control is known to come there
  met-on : (routine : Routine) → slice_get image.routines r ≡ Some routine → (edges : List (ℕ × Bool)) (pc : ℕ) (row : Row)
      → IsWay image r routine.entry edges pc row → IsPcOf image r pc × IsMet known pc row
  met-on routine there [] pc row way =
      let met = subst (IsMet known (start_of image.routines r)) (sym way.1) (S.begun routine there) in
      (subst (IsPcOf image r) (sym way.0) begins, subst (λ (n : ℕ). IsMet known n row) (sym way.0) met)
  met-on routine there (edge ∷ edges) pc row way =
      let so_far = met-on routine there edges edge.0 way.0 way.1 in
      let first = so_far.1.first in
      let next = S.gone edge.0 edge.1 so_far.0 (settled edge.0 so_far.0) first pc so_far.1.read way.2 way.3 in
      let known_row = after image edge.0 first.row edge.1 in
      let way_row = after image edge.0 way.0 edge.1 in
      let alike = after-alike image edge.0 edge.1 first.row way.0 (slice_get image.points edge.0) refl so_far.1.alike in
      let met : IsMet known pc way_row = record {
        first = next.first;
        read = next.read;
        alike =
            alike-both next.first.row way_row known_row next.alike (alike-sym known_row way_row alike);
      } in
      (way.3, subst (IsMet known pc) (sym way.4) met)

  pub meet-alike : MeetAlike image r
  meet-alike pc row other one two =
      let a = (met-on one.routine one.there one.edges pc row one.way).1 in
      let b = (met-on two.routine two.there two.edges pc other two.way).1 in
      let same : b.first ≡ a.first = same_Some b.first a.first (sym b.read ∙ a.read) in
      let alike : agree a.first.row other ≡ true = subst (λ (c : Coming). agree c.row other ≡ true) same b.alike in
      alike-both row other a.first.row (alike-sym a.first.row row a.alike) (alike-sym a.first.row other alike)

-- in a routine nothing is apart where nothing waits
pub nothing-apart : (body : Body) (known : List (Option Coming)) (waits : List Bool) → IsSpread body.image.now body.r known waits
    → NoneWaits body.image.now body.r waits body.end → MeetAlike body.image.now body.r
nothing-apart body known waits S settled =
    let image = body.image.now in
    let begins = subst (IsPcOf image body.r) body.begins (in-body body body.start (omega arith) body.some) in
    meet-alike image body.r known waits S begins (λ pc within. settled pc within (let below = within.below in omega (arith, body.ends)))

-- all has gone on there
pub all-gone : (body : Body) (known : List (Option Coming)) (waits : List Bool) → IsSpread body.image.now body.r known waits
    → NoneWaits body.image.now body.r waits body.end → HaveAllGone body.image.now body.r known
all-gone body known waits S settled = record {
  begun = S.begun;
  gone = λ pc branch within. S.gone pc branch within (settled pc within (let below = within.below in omega (arith, below, body.ends)));
}

-- ways that are apart in a routine's body are so in the routine
pub apart-in : (image other : Parts) (r s : ℕ) (apart : Apart) → image ≡ other → r ≡ s → AreApart image r apart → AreApart other s apart
apart-in image other r s apart same_image same_r are = subst (λ (n : ℕ). AreApart other n apart) same_r
    (subst (λ (i : Parts). AreApart i r apart) same_image are)

-- Where the routine begins

pub spread-first : (image : Parts) (r start : ℕ) (routine : Routine) (known : List (Option Coming)) (waits : List Bool)
    → start ≡ start_of image.routines r → slice_get image.routines r ≡ Some routine
    → ((pc : ℕ) → coming_at known pc ≡ None) → ((pc : ℕ) → waits_at waits pc ≡ false) → start < length known → start < length waits
    → IsSpread image r (set known start (Some (record { from = None; row = routine.entry; emptied = None ∷ None ∷ None ∷ None ∷ [] })))
    (set waits start true)
spread-first image r start routine known waits begins there none rested in_known in_waits = record {
  come = all_come-set image r known start first (λ pc coming e. absurd (none-some coming (sym (none pc) ∙ e)))
      (record {
        comes = record { routine = routine; there = there; start = begins; row_is = refl };
        emptied = named-none image r start routine.entry;
      });
  begun = λ other there_too. record {
    first = first;
    read = ap (coming_at (set known start (Some first))) (sym begins) ∙ get_or-set_same known start (Some first) None in_known;
    alike = subst (λ (x : Routine). agree routine.entry x.entry ≡ true) (same_Some routine other (sym there ∙ there_too)) (alike-refl routine.entry);
  };
  gone = λ pc branch within rests coming to read leads stays. elim (cases_eq pc start) [
    | inl same ↦ absurd (false≢true (sym rests ∙ ap (waits_at (set waits start true)) same ∙ get_or-set_same waits start true false in_waits))
    | inr ne ↦ absurd (none-some coming (sym (none pc) ∙ sym (get_or-set_other known start pc (Some first) None ne) ∙ read))
  ];
}
  where
    first : Coming
    first = record { from = None; row = routine.entry; emptied = None ∷ None ∷ None ∷ None ∷ [] }

-- What moves along edges

count-set : (known : List (Option Coming)) (to : ℕ) (coming : Coming) → to < length known → coming_at known to ≡ None
    → count_unknown (set known to (Some coming)) < count_unknown known
count-set [] to coming within none = absurd (omega arith)
count-set (None ∷ known) zero coming within none = omega arith
count-set (Some c ∷ known) zero coming within none = absurd (none-some c (sym none))
count-set (None ∷ known) (suc to) coming within none = let fewer = count-set known to coming (omega arith) none in omega arith
count-set (Some c ∷ known) (suc to) coming within none = count-set known to coming (omega arith) none

pub goes-new : (known : List (Option Coming)) (waits : List Bool) (to : ℕ) (coming : Coming) → to < length known
    → to < length waits → coming_at known to ≡ None
    → GoesFurther known (set known to (Some coming)) waits (set waits to true) true
goes-new known waits to coming in_known in_waits none = record {
  stays = λ pc other read. (elim (cases_eq pc to) [
    | inl same ↦ absurd (none-some other (sym none ∙ ap (coming_at known) (sym same) ∙ read))
    | inr ne ↦ get_or-set_other known to pc (Some coming) None ne ∙ read
  ]);
  rests = λ pc rests. (elim (cases_eq pc to) [
    | inl same ↦ absurd (false≢true (sym rests ∙ ap (waits_at (set waits to true)) same ∙ get_or-set_same waits to true false in_waits))
    | inr ne ↦ (sym (get_or-set_other waits to pc true false ne) ∙ rests, get_or-set_other known to pc (Some coming) None ne)
  ]);
  same = λ e. absurd (false≢true (sym e));
  fewer = λ e. count-set known to coming in_known none;
}

module _ (image : Parts) (r : ℕ) (known next : List (Option Coming)) (waits waiting : List Bool) (further : Bool)
    (F : GoesFurther known next waits waiting further) where
  met-still : (to : ℕ) (row : Row) → IsMet known to row → IsMet next to row
  met-still to row met = record { first = met.first; read = F.stays to met.first met.read; alike = met.alike }

  -- what has gone along an edge still has
  gone-still : (pc : ℕ) (branch : Bool) → waits_at waiting pc ≡ false → HasGone image r known pc branch → HasGone image r next pc branch
  gone-still pc branch rests gone = λ coming to read leads stays.
      met-still to (after image pc coming.row branch) (gone coming to (sym (F.rests pc rests).1 ∙ read) leads stays)

  -- what is brought to a place where such is known has gone
  pub gone-along : (pc : ℕ) (branch : Bool) (to : ℕ) (row : Row) → BringsAlong image known pc branch to row
      → IsMet next to row → HasGone image r next pc branch
  gone-along pc branch to row brings met = λ coming other read leads stays.
      let same : brings.before ≡ coming = same_Some brings.before coming (sym (F.stays pc brings.before brings.read) ∙ read) in
      let there : to ≡ other = leads-one image pc branch to other brings.leads leads in
      let is : row ≡ after image pc coming.row branch = brings.row_is ∙ ap (λ (c : Coming). after image pc c.row branch) same in
      subst (λ (n : ℕ). IsMet next n (after image pc coming.row branch)) there (subst (IsMet next to) is met)

-- where what waits at a pc goes along both edges
pub spread-on : (image : Parts) (r pc : ℕ) (known mid next : List (Option Coming)) (waits between waiting : List Bool) (f g : Bool)
    → IsSpread image r known waits → GoesFurther known mid (set waits pc false) between f → HasGone image r mid pc false
    → GoesFurther mid next between waiting g → HasGone image r next pc true → AllCome image r next → IsSpread image r next waiting
spread-on image r pc known mid next waits between waiting f g S F along G aside come = record {
  come = come;
  begun = λ routine there. (
      let start = start_of image.routines r in
      met-still image r mid next between waiting g G start routine.entry
      (met-still image r known mid (set waits pc false) between f F start routine.entry (S.begun routine there))
      );
  gone = λ k branch within rests. elim (cases_eq k pc) [
    | inl same ↦ at-pc branch k same rests
    | inr ne ↦
        let later = G.rests k rests in
        let before = F.rests k later.0 in
        let rested : waits_at waits k ≡ false = sym (get_or-set_other waits pc k false false ne) ∙ before.0 in
        gone-still image r mid next between waiting g G k branch rests
        (gone-still image r known mid (set waits pc false) between f F k branch later.0 (S.gone k branch within rested))
  ];
}
  where
    at-pc : (branch : Bool) (k : ℕ) → k ≡ pc → waits_at waiting k ≡ false → HasGone image r next k branch
    at-pc true k same rests = subst (λ (n : ℕ). HasGone image r next n true) (sym same) aside
    at-pc false k same rests = gone-still image r mid next between waiting g G k false rests
        (subst (λ (n : ℕ). HasGone image r mid n false) (sym same) along)

-- All that waits before a pc has gone on

rests-set : (waits : List Bool) (pc : ℕ) → waits_at (set waits pc false) pc ≡ false
rests-set [] pc = refl
rests-set (w ∷ waits) zero = refl
rests-set (w ∷ waits) (suc pc) = rests-set waits pc

pub record Going (image : Parts) (r : ℕ) (before known : List (Option Coming)) (waits : List Bool) (pc : ℕ) (further : Bool) : Type 0 where
  pub spread : IsSpread image r known waits
  pub settled : further ≡ false → NoneWaits image r waits pc
  pub same : further ≡ false → known ≡ before
  pub fewer : further ≡ true → count_unknown known < count_unknown before

module _ (image : Parts) (r : ℕ) (before known : List (Option Coming)) (waits : List Bool) (pc : ℕ) where
  pub going-past : (further : Bool) → Going image r before known waits pc further → waits_at waits pc ≡ false
      → Going image r before known waits (pc + 1) further
  going-past further S rests = record {
    spread = S.spread;
    settled = λ e k within less. elim (cases_lt k pc) [
      | inl earlier ↦ S.settled e k within earlier
      | inr late ↦ (let same : pc ≡ k = omega arith in subst (λ (n : ℕ). waits_at waits n ≡ false) same rests)
    ];
    same = S.same;
    fewer = S.fewer;
  }

  pub going-on : (next : List (Option Coming)) (waiting : List Bool) (further new : Bool) → Going image r before known waits pc further
      → IsSpread image r next waiting
      → GoesFurther known next (set waits pc false) waiting new → Going image r before next waiting (pc + 1) (further || new)
  going-on next waiting true new S spread F = record {
    spread = spread;
    settled = λ e. absurd (false≢true (sym e));
    same = λ e. absurd (false≢true (sym e));
    fewer = λ e. by_new new F.same F.fewer;
  }
    where
      by_new : (b : Bool) → (b ≡ false → (next ≡ known) × (waiting ≡ set waits pc false))
          → (b ≡ true → count_unknown next < count_unknown known) → count_unknown next < count_unknown before
      by_new true same fewer = let one = S.fewer refl in let two = fewer refl in omega arith
      by_new false same fewer = subst (λ (l : List (Option Coming)). count_unknown l < count_unknown before) (sym (same refl).0) (S.fewer refl)
  going-on next waiting false new S spread F = record {
    spread = spread;
    settled = λ e k there less. (
        let rests = (F.same e).1 in
        subst (λ (w : List Bool). waits_at w k ≡ false) (sym rests) (elim (cases_eq k pc) [
          | inl same ↦ ap (waits_at (set waits pc false)) same ∙ rests-set waits pc
          | inr ne ↦ get_or-set_other waits pc k false false ne ∙ S.settled refl k there (omega (arith, ne))
        ])
        );
    same = λ e. (F.same e).0 ∙ S.same refl;
    fewer = λ e. subst (λ (l : List (Option Coming)). count_unknown next < count_unknown l) (S.same refl) (F.fewer e);
  }
