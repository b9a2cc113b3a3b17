-- Registers that have names' words.
use Rattle.std.proofs.Common.{◌≡◌, ◌<◌, ℕ, zero, suc, ◌+◌, Bool, true, false, Option, Some, None, List, [], ◌∷◌, replicate, refl, sym, ap, ◌∙◌, subst, arith, eq-eqb, eqb-true, ◌⊎◌, inl, inr}
use Rattle.std.specs.Prelude.{◌==◌, if◌then◌else◌, bytes_eq, slice_get, slice_index, slice_set}
use Rattle.std.proofs.lemmas.Bool.{and_parts, and_from, cases_Bool, eqb-false}
use Rattle.tkv_syntax.specs.declared.item.Item.{Item}
use Rattle.tkv_names.specs.Named.{Env, name_at, with_name, parameters}
use Rattle.tkv_names.specs.Seen.{Agrees, HasName, is_name, Clears, Cleared, Renames, KeepsOne, KeepsBelow}
use Rattle.tkv_names.proofs.Lists.{taken_out}

same_bytes : (xs ys : List ℕ) → bytes_eq xs ys ≡ true → xs ≡ ys
same_bytes [] [] e = refl
same_bytes [] (y ∷ ys) e = absurd cc
same_bytes (x ∷ xs) [] e = absurd cc
same_bytes (x ∷ xs) (y ∷ ys) e = let both = and_parts (x == y) (bytes_eq xs ys) e in
    ap (λ (z : ℕ). z ∷ xs) (eqb-true x y both.0) ∙ ap (λ (zs : List ℕ). y ∷ zs) (same_bytes xs ys both.1)

self_bytes : (xs : List ℕ) → bytes_eq xs xs ≡ true
self_bytes [] = refl
self_bytes (x ∷ xs) = and_from (x == x) (bytes_eq xs xs) (eq-eqb x x refl) (self_bytes xs)

named_by : (text : List ℕ) (o : Option (Option ℕ)) (at : ℕ) → is_name text o at ≡ true → (a : ℕ) × (o ≡ Some (Some a)) × (name_at text a ≡ name_at text at)
named_by text None at e = absurd cc
named_by text (Some None) at e = absurd cc
named_by text (Some (Some a)) at e = (a, refl, same_bytes (name_at text a) (name_at text at) e)

pub has_name : (text : List ℕ) (held : List (Option ℕ)) (at r : ℕ) → r < 8 → is_name text (slice_get held r) at ≡ true → HasName text held at r
has_name text held at r lt e = let found = named_by text (slice_get held r) at e in (found.0, lt, found.1, found.2)

pub clears_one : (text : List ℕ) (held : List (Option ℕ)) (at k : ℕ) → Clears text held at k (slice_set held k None)
clears_one text held at k r a e = let old = taken_out held k r a e in (old.0, λ same. absurd (old.1 same))

pub clears_none : (text : List ℕ) (held : List (Option ℕ)) (at k : ℕ) → is_name text (slice_get held k) at ≡ false → Clears text held at k held
clears_none text held at k none r a e = (
  e,
  λ same. subst (λ (o : Option (Option ℕ)). is_name text o at ≡ false) e
      (subst (λ (q : ℕ). is_name text (slice_get held q) at ≡ false) (sym same) none),
)

pub cleared_first : (text : List ℕ) (old : List (Option ℕ)) (at : ℕ) → Cleared text old at 0 old
cleared_first text old at r a e = (e, λ lt. absurd (omega (arith, lt)))

pub cleared_next : (text : List ℕ) (old new next : List (Option ℕ)) (at k : ℕ) → Cleared text old at k new → Clears text new at k next
    → Cleared text old at (k + 1) next
cleared_next text old new next at k before one r a e = (
  (before r a (one r a e).0).0,
  λ lt. by lt (cases_Bool (r == k)),
)
  where
    by : r < k + 1 → (((r == k) ≡ true) ⊎ ((r == k) ≡ false)) → bytes_eq (name_at text a) (name_at text at) ≡ false
    by lt (inl same) = (one r a e).1 (eqb-true r k same)
    by lt (inr other) = (before r a (one r a e).0).1 (let ne = eqb-false r k other in below r k lt ne)
      where
        below : (i j : ℕ) → i < j + 1 → (i ≡ j → ⊥) → i < j
        below i j l ne = omega (arith, l, ne)

-- what is read from a list after an option is put in
put_in : (hs : List (Option ℕ)) (k j at a : ℕ) → slice_get (slice_set hs k (Some at)) j ≡ Some (Some a)
    → ((j ≡ k) × (a ≡ at)) ⊎ (slice_get hs j ≡ Some (Some a))
put_in [] k j at a e = absurd cc
put_in (h ∷ hs) zero zero at a e = inl (refl, (let f : a ≡ at = cc in f))
put_in (h ∷ hs) zero (suc j) at a e = inr e
put_in (h ∷ hs) (suc k) zero at a e = inr e
put_in (h ∷ hs) (suc k) (suc j) at a e = more (put_in hs k j at a e)
  where
    more : ((j ≡ k) × (a ≡ at)) ⊎ (slice_get hs j ≡ Some (Some a)) → ((suc j ≡ suc k) × (a ≡ at)) ⊎ (slice_get hs j ≡ Some (Some a))
    more (inl (p, q)) = inl (ap suc p, q)
    more (inr f) = inr f

pub renames : (text : List ℕ) (old left : List (Option ℕ)) (at r : ℕ) → Cleared text old at 8 left → Renames text old at r (slice_set left r (Some at))
renames text old left at r forgot env ws agrees q a lt e = by (put_in left r q at a e)
  where
    word : ℕ
    word = slice_index ws r

    by : ((q ≡ r) × (a ≡ at)) ⊎ (slice_get left q ≡ Some (Some a)) → slice_index ws q ≡ with_name env (name_at text at) (slice_index ws r) (name_at text a)
    by (inl (same, one)) = ap (slice_index ws) same ∙ sym
        (ap (λ (n : ℕ). with_name env (name_at text at) (slice_index ws r) (name_at text n)) one
        ∙ ap (λ (b : Bool). if b then slice_index ws r else env (name_at text at)) (self_bytes (name_at text at)))
    by (inr there) = let kept = forgot q a there in
        agrees q a lt kept.0 ∙ sym (ap (λ (b : Bool). if b then slice_index ws r else env (name_at text a)) (kept.1 lt))

pub nothing_held : (n r a : ℕ) → slice_get (replicate n None) r ≡ Some (Some a) → ⊥
nothing_held zero r a e = cc
nothing_held (suc n) zero a e = cc
nothing_held (suc n) (suc r) a e = nothing_held n r a e

pub one_more : (text : List ℕ) (items : List Item) (first k : ℕ) (old new : List (Option ℕ)) (item : Item) → slice_get items (first + k) ≡ Some item
    → Renames text old item.at k new → ((ws : List ℕ) → Agrees text old (parameters text items first ws k) ws)
    → (ws : List ℕ) → Agrees text new (parameters text items first ws (suc k)) ws
one_more text items first k old new item there renames before ws = subst (λ (o : Option Item). Agrees text new
    (elim o [
      | None ↦ parameters text items first ws k
      | Some one ↦ with_name (parameters text items first ws k) (name_at text one.at) (slice_index ws k)
    ]) ws) (sym there) (renames (parameters text items first ws k) ws (before ws))

-- What registers have in two cases

pub keeps_all : (text : List ℕ) (held other : List (Option ℕ)) (k : ℕ) → ((a : ℕ) → slice_get held k ≡ Some (Some a)
    → is_name text (slice_get other k) a ≡ true) → KeepsOne text held other k held
keeps_all text held other k is r a e = (
  e,
  λ same. subst (λ (q : ℕ). is_name text (slice_get other q) a ≡ true) (sym same)
      (is a (subst (λ (q : ℕ). slice_get held q ≡ Some (Some a)) same e)),
)

pub keeps_none : (text : List ℕ) (held other : List (Option ℕ)) (k : ℕ) → KeepsOne text held other k (slice_set held k None)
keeps_none text held other k r a e = let old = taken_out held k r a e in (old.0, λ same. absurd (old.1 same))

pub keeps_first : (text : List ℕ) (held other : List (Option ℕ)) → KeepsBelow text held other 0 held
keeps_first text held other r a e = (e, λ lt. absurd (omega (arith, lt)))

pub keeps_next : (text : List ℕ) (held other new next : List (Option ℕ)) (k : ℕ) → KeepsBelow text held other k new → KeepsOne text new other k next
    → KeepsBelow text held other (k + 1) next
keeps_next text held other new next k before one r a e = (
  (before r a (one r a e).0).0,
  λ lt. by lt (cases_Bool (r == k)),
)
  where
    by : r < k + 1 → (((r == k) ≡ true) ⊎ ((r == k) ≡ false)) → is_name text (slice_get other r) a ≡ true
    by lt (inl same) = (one r a e).1 (eqb-true r k same)
    by lt (inr differs) = (before r a (one r a e).0).1 (let ne = eqb-false r k differs in below r k lt ne)
      where
        below : (i j : ℕ) → i < j + 1 → (i ≡ j → ⊥) → i < j
        below i j l ne = omega (arith, l, ne)

pub agrees_one : (text : List ℕ) (held other new : List (Option ℕ)) (env : Env) (ws : List ℕ) → KeepsBelow text held other 8 new → Agrees text held env ws
    → Agrees text new env ws
agrees_one text held other new env ws keeps agrees r a lt e = agrees r a lt (keeps r a e).0

pub agrees_other : (text : List ℕ) (held other new : List (Option ℕ)) (env : Env) (ws : List ℕ) → KeepsBelow text held other 8 new → Agrees text other env ws
    → Agrees text new env ws
agrees_other text held other new env ws keeps agrees r a lt e = by (named_by text (slice_get other r) a ((keeps r a e).1 lt))
  where
    by : (b : ℕ) × (slice_get other r ≡ Some (Some b)) × (name_at text b ≡ name_at text a) → slice_index ws r ≡ env (name_at text a)
    by (b, there, same) = agrees r b lt there ∙ ap env same
