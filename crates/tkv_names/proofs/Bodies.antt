-- What a routine does, item by item.
use Rattle.std.proofs.Common.{◌≡◌, ◌<◌, ◌≤◌, ℕ, zero, suc, Bool, true, false, cond, Some, List, [], ◌∷◌, ◌++◌, length, refl, sym, ap, ◌∙◌, subst, arith, inl, inr, eqb-true}
use Rattle.std.specs.Prelude.{◌==◌, drop, take, slice_get}
use Rattle.std.proofs.lemmas.Bool.{ne_eqb}
use Rattle.geos_calls.specs.Effects.{Choice}
use Rattle.geos_semantics.specs.Lists.{Each}
use Rattle.geos_image.specs.declared.instr.Instr.{Instr}
use Rattle.tkv_places.specs.declared.placed.Placed.{Placed}
use Rattle.tkv_places.specs.declared.placed.PlacedKind.{PlacedKind}
use Rattle.tkv_places.specs.declared.placed.PlacedKind.TheVariants as kind
use Rattle.tkv_meaning.specs.Statements.{Stmt, Skip, Act, Try, Leave, Then, Block, Loop, Count, Closing}
use Rattle.tkv_meaning.specs.Meaning.{Scope, Way, On, Out, drifted, Drifts, Acts, outside, Does}
use Rattle.tkv_meaning.specs.Written.{RoutineDoes}
use Rattle.tkv_checks.specs.Items.{ItemAt, Spells, SpellsRoutine}
use Rattle.tkv_names.specs.Straight.{Any, Doing, Goes, Straight}
use Rattle.tkv_names.proofs.Lists.{dropped, taken, taken_all}

-- Steps of control, one after another

drifted_on : (cs ds : List Choice) (x : Scope) → drifted ds (drifted cs x) ≡ drifted (cs ++ ds) x
drifted_on [] ds x = refl
drifted_on (c ∷ cs) ds x = drifted_on cs ds (drifted (c ∷ []) x)

each_any : (cs : List Choice) → Each Any cs
each_any [] = tt
each_any (c ∷ cs) = (tt, each_any cs)

drift_on : (x y z : Scope) → Drifts Any x y → Drifts Any y z → Drifts Any x z
drift_on x y z (cs, each, e) (ds, other, f) = (cs ++ ds, each_any (cs ++ ds), f ∙ (ap (drifted ds) e ∙ drifted_on cs ds x))

goes_on : (item : Placed) (o : PlacedKind) (rest : Doing) (x y z : Scope) → Drifts Any x y
    → ((d : ℕ) (way : Way) → rest d way y z → rest d way x z) → (d : ℕ) (way : Way) → Goes item o rest d way y z → Goes item o rest d way x z
goes_on item kind.Do rest x y z a f d On (m, n, drifts, more) = (m, n, drift_on x y m a drifts, more)
goes_on item kind.Leave rest x y z a f d On h = f d (Out item.to) h
goes_on item kind.End rest x y z a f (suc d) way h = f d (outside d way) h
goes_on item kind.End rest x y z a f zero On h = tt
goes_on item kind.End rest x y z a f zero (Out l) h = f 1 (Out l) h
goes_on item kind.Block rest x y z a f d On h = f (suc d) On h
goes_on item kind.Loop rest x y z a f d On h = tt
goes_on item kind.Count rest x y z a f d On h = tt
goes_on item kind.Closing rest x y z a f d On h = tt
goes_on item kind.Do rest x y z a f d (Out l) h = f d (Out l) h
goes_on item kind.Leave rest x y z a f d (Out l) h = f d (Out l) h
goes_on item kind.Block rest x y z a f d (Out l) h = f (suc d) (Out l) h
goes_on item kind.Loop rest x y z a f d (Out l) h = f (suc d) (Out l) h
goes_on item kind.Count rest x y z a f d (Out l) h = f (suc d) (Out l) h
goes_on item kind.Closing rest x y z a f d (Out l) h = f (suc d) (Out l) h

straight_on : (items : List Placed) (x y z : Scope) → Drifts Any x y → (d : ℕ) (way : Way) → Straight items d way y z → Straight items d way x z
straight_on [] x y z a d way h = drift_on x y z a h
straight_on (item ∷ items) x y z a d way h = goes_on item item.kind (Straight items) x y z a (straight_on items x y z a) d way h

on_out : (l : ℕ) → On ≡ Out l → ⊥
on_out l e = cc

pub outer : (l d : ℕ) → (l ≡ d → ⊥) → outside d (Out l) ≡ Out l
outer l d ne = ap (λ (b : Bool). cond b On (Out l)) (ne_eqb l d ne)

-- a way that leads out of no more brackets than are open
abbrev Within : ℕ → Way → Type 0
Within d On = Unit {0}
Within d (Out l) = l < d

module _ (items : List Placed) (end : ℕ) (y : Scope) where
  -- what the items do from an index on, up to the end
  abbrev From : ℕ → ℕ → Way → Scope → Type 0
  From i d way x = Straight (drop i (take end items)) d way x y

  from_item : (i : ℕ) (item : Placed) (o : PlacedKind) (d : ℕ) (way : Way) (x : Scope) → i < end → slice_get items i ≡ Some item → item.kind ≡ o
      → Goes item o (Straight (drop (suc i) (take end items))) d way x y → From i d way x
  from_item i item o d way x lt e is h = subst (λ (ps : List Placed). Straight ps d way x y)
      (sym (dropped (take end items) i item (taken items end i item e lt)))
      (subst (λ (p : PlacedKind). Goes item p (Straight (drop (suc i) (take end items))) d way x y) (sym is) h)

  next_from : (i j d : ℕ) (way : Way) (x : Scope) → j ≡ suc i → From j d way x → From (suc i) d way x
  next_from i j d way x e = subst (λ (k : ℕ). From k d way x) e

  spells_on : (d : ℕ) (a : Stmt) (i j : ℕ) → Spells items d a i j → i ≤ j
  spells_on d Skip i j e = omega (arith, e)
  spells_on d (Act instr) i j (at, e) = omega (arith, e)
  spells_on d (Try instr l) i j (at, e) = omega (arith, e)
  spells_on d (Leave l) i j (at, e) = omega (arith, e)
  spells_on d (Then a b) i j (m, s, t) = let one = spells_on d a i m s in let other = spells_on d b m j t in omega (arith, one, other)
  spells_on d (Block l a) i j (m, at, s, ends, e) = let one = spells_on (suc d) a (suc i) m s in omega (arith, one, e)
  spells_on d (Loop k a) i j (m, at, s, ends, e) = let one = spells_on (suc d) a (suc i) m s in omega (arith, one, e)
  spells_on d (Count k a) i j (m, at, s, ends, e) = let one = spells_on (suc d) a (suc i) m s in omega (arith, one, e)
  spells_on d (Closing a instr) i j (m, at, s, ends, e) = let one = spells_on (suc d) a (suc i) m s in omega (arith, one, e)

  begins_before : (d : ℕ) (a : Stmt) (i j m : ℕ) → Spells items (suc d) a (suc i) m → j ≡ suc m → j ≤ end → i < end
  begins_before d a i j m s e le = let one = spells_on (suc d) a (suc i) m s in omega (arith, one, e, le)

  -- the end of a bracket
  ended : (d m j : ℕ) (way : Way) (x : Scope) → ItemAt items m (λ item. item.kind ≡ kind.End) → j ≡ suc m → j ≤ end → From j d (outside d way) x
      → From m (suc d) way x
  ended d m j way x (item, there, is) e le from = from_item m item kind.End (suc d) way x (omega (arith, e, le)) there is
      (next_from m j d (outside d way) x e from)

  -- the same of what is within it, if control leaves to the end of an outer block
  inside : (d i j m l : ℕ) (x : Scope) → (l < suc d → From m (suc d) (Out l) x → From (suc i) (suc d) (Out l) x)
      → ItemAt items m (λ item. item.kind ≡ kind.End) → j ≡ suc m → j ≤ end → l < d → From j d (Out l) x → From (suc i) (suc d) (Out l) x
  inside d i j m l x within ends e le lt from = within (omega (arith, lt))
      (ended d m j (Out l) x ends e le (subst (λ (way : Way). From j d way x) (sym (outer l d (λ q. omega (arith, lt, q)))) from))

  -- control that leaves to the end of a block passes over brackets and other statements
  passes : (d : ℕ) (a : Stmt) (i j l : ℕ) (x : Scope) → Spells items d a i j → j ≤ end → l < d → From j d (Out l) x → From i d (Out l) x
  passes d Skip i j l x e le lt from = subst (λ (k : ℕ). From k d (Out l) x) e from
  passes d (Act instr) i j l x ((item, there, is), e) le lt from = from_item i item kind.Do d (Out l) x (omega (arith, e, le)) there is.0
      (next_from i j d (Out l) x e from)
  passes d (Try instr k) i j l x ((item, there, is), e) le lt from = from_item i item kind.Do d (Out l) x (omega (arith, e, le)) there is.0
      (next_from i j d (Out l) x e from)
  passes d (Leave k) i j l x ((item, there, is), e) le lt from = from_item i item kind.Leave d (Out l) x (omega (arith, e, le)) there is.0
      (next_from i j d (Out l) x e from)
  passes d (Then a b) i j l x (m, s, t) le lt from = passes d a i m l x s (let on = spells_on d b m j t in omega (arith, on, le)) lt
      (passes d b m j l x t le lt from)
  passes d (Block k a) i j l x (m, (item, there, is), s, ends, e) le lt from = from_item i item kind.Block d (Out l) x (begins_before d a i j m s e le) there is.0
      (inside d i j m l x (λ lower next. passes (suc d) a (suc i) m l x s (omega (arith, e, le)) lower next) ends e le lt from)
  passes d (Loop k a) i j l x (m, (item, there, is), s, ends, e) le lt from = from_item i item kind.Loop d (Out l) x (begins_before d a i j m s e le) there is.0
      (inside d i j m l x (λ lower next. passes (suc d) a (suc i) m l x s (omega (arith, e, le)) lower next) ends e le lt from)
  passes d (Count k a) i j l x (m, (item, there, is), s, ends, e) le lt from = from_item i item kind.Count d (Out l) x (begins_before d a i j m s e le) there is.0
      (inside d i j m l x (λ lower next. passes (suc d) a (suc i) m l x s (omega (arith, e, le)) lower next) ends e le lt from)
  passes d (Closing a k) i j l x (m, (item, there, is), s, ends, e) le lt from = from_item i item kind.Closing d (Out l) x (begins_before d a i j m s e le) there is.0
      (inside d i j m l x (λ lower next. passes (suc d) a (suc i) m l x s (omega (arith, e, le)) lower next) ends e le lt from)

  -- a statement: what the items do after it, they do from it on
  runs : (d : ℕ) (a : Stmt) (i j : ℕ) → Spells items d a i j → j ≤ end → (x m : Scope) (way : Way) → Does Any a x way m → Within d way
      → From j d way m → From i d On x
  runs d Skip i j e le x m way (drifts, on) within from = straight_on (drop i (take end items)) x m y drifts d On
      (subst (λ (k : ℕ). From k d On m) e (subst (λ (w : Way). From j d w m) on from))
  runs d (Act instr) i j ((item, there, (is, to, same)), e) le x m way (n, drifts, acts, on) within from =
      from_item i item kind.Do d On x (omega (arith, e, le)) there is (
        n,
        m,
        drifts,
        inl (
          subst (λ (q : Instr). Acts Any q n false m) (sym same) acts,
          next_from i j d On m e (subst (λ (w : Way). From j d w m) on from),
        ),
      )
  runs d (Try instr l) i j ((item, there, (is, to, same)), e) le x m way (n, drifts, inl (acts, on)) within from =
      from_item i item kind.Do d On x (omega (arith, e, le)) there is (
        n,
        m,
        drifts,
        inl (
          subst (λ (q : Instr). Acts Any q n false m) (sym same) acts,
          next_from i j d On m e (subst (λ (w : Way). From j d w m) on from),
        ),
      )
  runs d (Try instr l) i j ((item, there, (is, to, same)), e) le x m way (n, drifts, inr (acts, out)) within from =
      from_item i item kind.Do d On x (omega (arith, e, le)) there is (
        n,
        m,
        drifts,
        inr (
          subst (λ (k : ℕ). k < d) (sym to) (subst (Within d) out within),
          subst (λ (q : Instr). Acts Any q n true m) (sym same) acts,
          subst (λ (k : ℕ). From (suc i) d (Out k) m) (sym to) (next_from i j d (Out l) m e (subst (λ (w : Way). From j d w m) out from)),
        ),
      )
  runs d (Leave l) i j ((item, there, (is, to)), e) le x m way (drifts, out) within from =
      from_item i item kind.Leave d On x (omega (arith, e, le)) there is
      (subst (λ (k : ℕ). From (suc i) d (Out k) x) (sym to) (next_from i j d (Out l) x e
      (straight_on (drop j (take end items)) x m y drifts d (Out l) (subst (λ (w : Way). From j d w m) out from))))
  runs d (Then a b) i j (k, s, t) le x m way (inl (n, one, other)) within from =
      runs d a i k s (let on = spells_on d b k j t in omega (arith, on, le)) x n On one tt (runs d b k j t le n m way other within from)
  runs d (Then a b) i j (k, s, t) le x m way (inr (l, one, out)) within from =
      runs d a i k s (let on = spells_on d b k j t in omega (arith, on, le)) x m (Out l) one (subst (Within d) out within)
      (passes d b k j l m t le (subst (Within d) out within) (subst (λ (w : Way). From j d w m) out from))
  runs d (Block l a) i j (k, (item, there, (is, label)), s, ends, e) le x m way (inner, does, out) within from =
      from_item i item kind.Block d On x (begins_before d a i j k s e le) there is
      (runs (suc d) a (suc i) k s (omega (arith, e, le)) x m inner does (within_block inner leads) (ended d k j inner m ends e le
      (subst (λ (w : Way). From j d w m) leads from)))
    where
      leads : way ≡ outside d inner
      leads = out ∙ ap (λ (n : ℕ). outside n inner) label

      by : (n : ℕ) (b : Bool) → (n == d) ≡ b → way ≡ cond b On (Out n) → n < suc d
      by n true t f = let same = eqb-true n d t in omega (arith, same)
      by n false t f = let less : n < d = subst (Within d) f within in omega (arith, less)

      within_block : (w : Way) → way ≡ outside d w → Within (suc d) w
      within_block On f = tt
      within_block (Out n) f = by n (n == d) refl f
  runs d (Loop l a) i j (k, (item, there, is), s, ends, e) le x m way does within from =
      from_item i item kind.Loop d On x (begins_before d a i j k s e le) there is.0 tt
  runs d (Count l a) i j (k, (item, there, is), s, ends, e) le x m way does within from =
      from_item i item kind.Count d On x (begins_before d a i j k s e le) there is.0 tt
  runs d (Closing a instr) i j (k, (item, there, is), s, ends, e) le x m way does within from =
      from_item i item kind.Closing d On x (begins_before d a i j k s e le) there is.0 tt

-- a routine does what its items do up to the return, one after another
pub routine_does : (items : List Placed) (end : ℕ) (body : Stmt) → length items ≡ suc end → SpellsRoutine items body → (x y : Scope)
    → RoutineDoes Any body x y → Straight (take end items) 0 On x y
routine_does items end body size spells x y (inr (l, one, on)) = absurd (on_out l on)
routine_does items end body size spells x y (inl (m, does, (drifts, on))) = runs items end y 0 body 0 end
    (subst (Spells items 0 body 0) same spells.spells) (omega arith) x m On does tt
    (subst (λ (ps : List Placed). Straight ps 0 On m y) (sym (taken_all items end)) drifts)
  where
    same : spells.end ≡ end
    same = let last = spells.last in omega (arith, last, size)
