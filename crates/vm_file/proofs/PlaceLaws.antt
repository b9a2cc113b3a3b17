-- The table of the places of blocks is written from the last entry to the first.
use Rattle.std.proofs.Common.{◌≡◌, ◌∙◌, ℕ, zero, suc, ◌+◌, ◌<◌, ◌≤◌, true, List, [], ◌∷◌, length, length-set, drop, get_or, set, replicate, Option, Some, None, refl, ap, sym, subst, arith, inl, inr, cond}
use Rattle.std.specs.Prelude.{IsSomeAnd}
use Rattle.std.specs.List.{find}
use Rattle.std.proofs.Math.Dec.{eqb}
use Rattle.std.proofs.lemmas.Bool.{cases_eq, eq-eqb, ne_eqb}
use Rattle.std.proofs.lemmas.List.{drop_all, drop_more, get_or-replicate, get_or-set_other, get_or-set_same, length-replicate}
use Rattle.vm_file.specs.declared.directory.Directory.{Directory}
use Rattle.vm_file.specs.declared.directory.Entry.{Entry}
use Rattle.vm_file.specs.Directories.{are_entries, entries_length, is_directory, is_entry}
use Rattle.vm_file.specs.Places.{ArePlaces}
use Rattle.vm_file.specs.State.{HasBlock, place_in}
use Rattle.vm_file.proofs.DirectoryLaws.{behind_from, found_entry, legal_from}
use Rattle.geos_terms.proofs.HeapTests.{both}

-- entries in ascending order have handles up to 1,024
pub handle_at : (es : List Entry) (last k : ℕ) (d : Entry) → are_entries last es ≡ true → k < length es → (get_or es k d).h ≤ 1024
handle_at [] last k d legal within = absurd (omega arith)
handle_at (e ∷ es) last zero d legal within = (behind_from last e (both (is_entry last e) (are_entries e.h es) legal).0).most
handle_at (e ∷ es) last (suc k) d legal within = handle_at es e.h k d (both (is_entry last e) (are_entries e.h es) legal).1 (omega arith)

-- a block that a legal directory has is of a handle up to 1,024
pub has_handle : (d : Directory) (h len : ℕ) → is_directory d ≡ true → HasBlock d h len → h ≤ 1024
has_handle d h len legal has = by (find (λ x. eqb x.h h) d.entries.items) refl has
  where
    by : (o : Option Entry) → find (λ x. eqb x.h h) d.entries.items ≡ o → IsSomeAnd o (λ x. x.len ≡ len) → h ≤ 1024
    by None is has = absurd has
    by (Some e) is has = (let r = found_entry d.entries.items 0 h e (legal_from d legal).entries is in subst (λ k. k ≤ 1024) r.0 r.1.most)

-- the last entries take no more than all
entries_length-drop : (es : List Entry) (k : ℕ) → entries_length (drop k es) ≤ entries_length es
entries_length-drop [] zero = omega arith
entries_length-drop [] (suc k) = omega arith
entries_length-drop (e ∷ es) zero = omega arith
entries_length-drop (e ∷ es) (suc k) = (let h = entries_length-drop es k in omega (arith, h))

-- the places from an entry on: where the first of these begins, and what the table has
pub record PlacesFrom (es : List Entry) (i place : ℕ) (places : List ℕ) : Type 0 where
  pub within : i ≤ length es
  pub begins : place + entries_length (drop i es) ≡ entries_length es
  pub long : length places ≡ 1025
  pub each : (h : ℕ) → h ≤ 1024 → get_or places h 0 ≡ place + place_in (drop i es) h

-- past the last entry each place is what all take
pub places-end : (es : List Entry) (i place n : ℕ) (places : List ℕ) → i ≡ length es → place ≡ entries_length es
    → n ≡ 1025 → places ≡ replicate n place → PlacesFrom es i place places
places-end es i place n places i_is place_is n_is is = let past : drop i es ≡ [] = drop_all i es (omega arith) in record {
  within = omega arith;
  begins = ap (λ l. place + entries_length l) past ∙ omega arith;
  long = ap length is ∙ length-replicate n place ∙ n_is;
  each = λ h small. ap (λ l. get_or l h 0) is ∙ get_or-replicate n h place 0 (omega arith) ∙ sym (ap (λ l. place + place_in l h) past ∙ omega arith);
}

module _ (es : List Entry) (i place : ℕ) (places : List ℕ) (d : Entry) (small : i < length es) (p : PlacesFrom es (i + 1) place places) where
  abbrev here : Entry
  here = get_or es i d

  first : drop i es ≡ here ∷ drop (i + 1) es
  first = drop_more es i d small

  -- the entry is not longer than the offset at which it ends
  pub places-fit : 6 + here.len ≤ place
  places-fit = (let a = ap entries_length first in let b = entries_length-drop es i in let c = p.begins in omega (arith, a, b, c))

  -- the place of the entry is written
  pub places-more : (before : ℕ) (now : List ℕ) → here.h ≤ 1024 → before + (6 + here.len) ≡ place
      → now ≡ set places here.h (before + 6) → PlacesFrom es i before now
  places-more before now high is write = let long = p.long in record {
    within = omega arith;
    begins = (let a = ap entries_length first in let c = p.begins in omega (arith, a, c, is));
    long = ap length write ∙ length-set places here.h (before + 6) ∙ long;
    each = λ h low. ap (λ l. get_or l h 0) write ∙ elim (cases_eq h here.h) [
      | inl same ↦ subst (λ k. get_or (set places here.h (before + 6)) k 0 ≡ before + place_in (drop i es) k) (sym same)
          (get_or-set_same places here.h (before + 6) 0 (omega (arith, long, high))
          ∙ sym (ap (λ l. before + place_in l here.h) first
          ∙ ap (λ b. before + cond b 6 ((6 + here.len) + place_in (drop (i + 1) es) here.h)) (eq-eqb here.h here.h refl)))
      | inr ne ↦ get_or-set_other places here.h h (before + 6) 0 ne ∙ p.each h low
          ∙ sym (ap (λ l. before + place_in l h) first ∙ ap (λ b. before + cond b 6 ((6 + here.len) + place_in (drop (i + 1) es) h))
          (ne_eqb here.h h (λ q. ne (sym q))) ∙ omega (arith, is))
    ];
  }

-- from the first entry on, all are written
pub places-begin : (es : List Entry) (i place : ℕ) (places : List ℕ) → i ≡ 0 → PlacesFrom es i place places → ArePlaces es places
places-begin es i place places is p = let begins = p.begins in
    let all : drop i es ≡ es = ap (λ k. drop k es) is in
    let zero_place : place ≡ 0 = (let a = ap entries_length all in omega (arith, a, begins)) in
    record { long = p.long; each = λ h low. p.each h low ∙ ap (λ l. place + place_in l h) all ∙ omega (arith, zero_place) }
