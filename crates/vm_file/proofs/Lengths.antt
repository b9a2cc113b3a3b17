-- What entries take, one after the other; and parts of parts.
use Rattle.std.proofs.Common.{◌≡◌, ℕ, zero, suc, ◌+◌, ◌-◌, ◌<◌, ◌≤◌, inl, inr, min, true, List, [], ◌∷◌, ◌++◌, length, take, drop, get_or, refl, ap, sym, ◌∙◌, arith, length-take, length-drop}
use Rattle.std.proofs.lemmas.Bool.{cases_lt}
use Rattle.std.proofs.lemmas.List.{drop-drop, drop-take, take-take, take_all, drop_all, take_more}
use Rattle.lmem_raw.specs.Bytes.{part}
use Rattle.vm_file.specs.declared.directory.Entry.{Entry}
use Rattle.vm_file.specs.Directories.{is_entry, are_entries, entries_length}
use Rattle.geos_terms.proofs.HeapTests.{both, and-true}

pub entries_length-append : (es fs : List Entry) → entries_length (es ++ fs) ≡ entries_length es + entries_length fs
entries_length-append [] fs = omega arith
entries_length-append (e ∷ es) fs = let h = entries_length-append es fs in omega (arith, h)

pub entries_length-more : (es : List Entry) (i : ℕ) (d : Entry) → i < length es
    → entries_length (take (i + 1) es) ≡ entries_length (take i es) + (6 + (get_or es i d).len)
entries_length-more es i d h = ap entries_length (take_more es i d h) ∙ entries_length-append (take i es) (get_or es i d ∷ []) ∙ omega arith

-- the handle of the last of these entries
abbrev pub last_handle : ℕ → List Entry → ℕ
last_handle last [] = last
last_handle last (e ∷ es) = last_handle e.h es

pub last_handle-push : (last : ℕ) (es : List Entry) (e : Entry) → last_handle last (es ++ e ∷ []) ≡ e.h
last_handle-push last [] e = refl
last_handle-push last (x ∷ es) e = last_handle-push x.h es e

-- one more entry after entries in ascending order
pub are_entries-push : (last : ℕ) (es : List Entry) (e : Entry) → are_entries last es ≡ true → is_entry (last_handle last es) e ≡ true
    → are_entries last (es ++ e ∷ []) ≡ true
are_entries-push last [] e h l = and-true _ _ l refl
are_entries-push last (x ∷ es) e h l = let s = both (is_entry last x) (are_entries x.h es) h in and-true _ _ s.0 (are_entries-push x.h es e s.1 l)

-- a stretch of a list, from one place to another
abbrev pub stretch : List ℕ → ℕ → ℕ → List ℕ
stretch xs at end = part xs at (end - at)

pub length-stretch : (xs : List ℕ) (at end : ℕ) → end ≤ length xs → length (stretch xs at end) ≡ end - at
length-stretch xs at end h = length-take (end - at) (drop at xs) ∙ omega (arith, length-drop at xs)

pub drop-stretch : (xs : List ℕ) (at end k : ℕ) → at + k ≤ end → drop k (stretch xs at end) ≡ stretch xs (at + k) end
drop-stretch xs at end k h =
    let n : end - at ≡ k + (end - (at + k)) = omega arith in
    ap (λ m. drop k (take m (drop at xs))) n ∙ drop-take k (end - (at + k)) (drop at xs) ∙ ap (take (end - (at + k))) (drop-drop k at xs)

pub take-stretch : (xs : List ℕ) (at end n : ℕ) → at + n ≤ end → take n (stretch xs at end) ≡ part xs at n
take-stretch xs at end n h = take-take n (end - at) (drop at xs) (omega arith)

-- the bytes from 12 to 511, as many as there are
pub clipped : (xs : List ℕ) (a b : ℕ) → a ≡ min (length xs) 12 → b ≡ min (length xs) 512 → take (b - a) (drop a xs) ≡ part xs 12 500
clipped xs a b ea eb = elim (cases_lt (length xs) 12) [
  | inl l ↦ (let e : a ≡ length xs = omega arith in ap (take (b - a)) (drop_all a xs (omega arith)) ∙ nothing (b - a)
      ∙ sym (ap (take 500) (drop_all 12 xs (omega arith))))
  | inr g ↦ (let e : a ≡ 12 = omega arith in ap (λ k. take (b - k) (drop k xs)) e ∙ (elim (cases_lt (length xs) 512) [
    | inl l ↦ take_all (b - 12) (drop 12 xs) (omega (arith, length-drop 12 xs)) ∙ sym (take_all 500 (drop 12 xs) (omega (arith, length-drop 12 xs)))
    | inr g2 ↦ (let n : b - 12 ≡ 500 = omega arith in ap (λ k. take k (drop 12 xs)) n)
  ]))
]
  where
    nothing : (n : ℕ) → take n (let x : List ℕ = [] in x) ≡ []
    nothing zero = refl
    nothing (suc n) = refl
