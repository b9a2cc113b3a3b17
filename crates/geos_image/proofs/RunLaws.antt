-- Reading and encoding runs of items of one width are inverse.
use Rattle.std.proofs.Common.{◌≡◌, ℕ, zero, suc, ◌+◌, ◌*◌, List, [], ◌∷◌, ◌++◌, length, All, Result, Ok, refl, sym, ap, subst, ◌∙◌, append_assoc, arith}
use Rattle.std.specs.List.{flat_map}
use Rattle.std.proofs.lemmas.List.Elements.{All-head, All-tail}
use Rattle.std.proofs.lemmas.List.Concat.{flat_map-cons}
use Rattle.geos_image.specs.Reading.{items_at}
use Rattle.geos_image.proofs.Steps.{ok_is, after}
use Rattle.geos_image.proofs.Places.{behind_first, no_more, Takes, Takes-none, Takes-then, Left, Left-as}

-- the encoding of an item, followed by that of the others
pub takes_more : {X : Type 0} {bytes : List ℕ} {at mid next : ℕ} (text : X → List ℕ) (x : X) (xs : List X)
    → Takes bytes at (text x) mid → Takes bytes mid (flat_map text xs) next → Takes bytes at (flat_map text (x ∷ xs)) next
takes_more {bytes = bytes} {at = at} {next = next} text x xs p q = subst (λ (t : List ℕ). Takes bytes at t next)
    (sym (flat_map-cons text x xs)) (Takes-then p q)

-- the first one is left before the others
pub left_more : {X : Type 0} {bytes : List ℕ} {at : ℕ} (text : X → List ℕ) (x : X) (xs : List X) (rest : List ℕ)
    → Left bytes at (flat_map text (x ∷ xs) ++ rest) → Left bytes at (text x ++ (flat_map text xs ++ rest))
left_more text x xs rest l = Left-as (ap (λ (t : List ℕ). t ++ rest) (flat_map-cons text x xs) ∙ append_assoc (text x) (flat_map text xs) rest) l

module _ {A : Type 0} (bytes : List ℕ) (read : ℕ → Result A ℕ) (text : A → List ℕ) (width : ℕ) where
  -- the bytes of each item that is read are its encoding
  abbrev pub Founds : Type 0
  Founds = (at next : ℕ) (x : A) → next ≡ at + width → read at ≡ Ok x → Takes bytes at (text x) next

  -- the bytes of a run that was read are its encoding
  pub items_found : Founds → (n at next : ℕ) (xs : List A) → next ≡ at + width * n → items_at read width n at ≡ Ok xs
      → Takes bytes at (flat_map text xs) next × (length xs ≡ n)
  items_found found zero at next xs e h =
      let same = no_more at width next e in
      let made = ok_is [] xs h in
      subst (λ (ys : List A). Takes bytes at (flat_map text ys) next × (length ys ≡ 0)) made
      (subst (λ (k : ℕ). Takes bytes at [] k) same (Takes-none bytes at), refl)
  items_found found (suc n) at next xs e h =
      after (read at) _ xs h (λ first read-first h.
      after (items_at read width n (at + width)) _ xs h (λ others read-others h.
      let place = behind_first at width n next e in
      let p = found at (at + width) first refl read-first in
      let q = items_found found n (at + width) next others place read-others in
      subst (λ (ys : List A). Takes bytes at (flat_map text ys) next × (length ys ≡ suc n)) (ok_is (first ∷ others) xs h)
      (takes_more text first others p q.0, ap suc q.1)))

  -- the encoding of each item that obeys the rule is read as the item
  abbrev pub Agains : (A → Type 0) → Type 0
  Agains P = (at next : ℕ) (x : A) (rest : List ℕ) → next ≡ at + width → P x → Left bytes at (text x ++ rest)
      → (read at ≡ Ok x) × Left bytes next rest

  -- the encoding of a run is read as the run
  pub items_again : (P : A → Type 0) → Agains P → (xs : List A) (n at next : ℕ) (rest : List ℕ) → length xs ≡ n
      → next ≡ at + width * n → All P xs → Left bytes at (flat_map text xs ++ rest)
      → (items_at read width n at ≡ Ok xs) × Left bytes next rest
  items_again P again [] zero at next rest len e all l =
      let same = no_more at width next e in
      (refl, subst (λ (k : ℕ). Left bytes k rest) same l)
  items_again P again [] (suc n) at next rest len e all l = absurd (omega arith)
  items_again P again (x ∷ xs) zero at next rest len e all l = absurd (omega arith)
  items_again P again (x ∷ xs) (suc n) at next rest len e all l =
      let place = behind_first at width n next e in
      let p = again at (at + width) x (flat_map text xs ++ rest) refl (All-head P x xs all) (left_more text x xs rest l) in
      let q = items_again P again xs n (at + width) next rest (omega arith) place (All-tail P x xs all) p.1 in
      (rw (p.0, q.0) refl, q.1)
