-- What is mapped, in a directory of the device and in the table.
use Rattle.std.proofs.Common.{◌≡◌, ◌∙◌, ℕ, ◌≤◌, Bool, true, false, ◌&&◌, ◌||◌, cond, List, [], ◌∷◌, Some, refl, ap, arith}
use Rattle.std.specs.Prelude.{IsSomeAnd}
use Rattle.std.specs.List.{find, list_any}
use Rattle.std.proofs.Math.Dec.{eqb}
use Rattle.std.proofs.lemmas.Bool.{eqb-true, ne_eqb}
use Rattle.vm_file.specs.declared.directory.Entry.{Entry}
use Rattle.vm_file.specs.Directories.{are_entries, is_entry}
use Rattle.vm_file.proofs.DirectoryLaws.{HasNone, none_below}
use Rattle.geos_terms.proofs.HeapTests.{both}

pub or-true : (a b : Bool) → b ≡ true → (a || b) ≡ true
or-true true b e = refl
or-true false b e = e

-- if the entry that is found has a property, some entry has it
pub find-any : (p : Entry → Bool) (es : List Entry) (h : ℕ) (x : Entry) → find (λ e. eqb e.h h) es ≡ Some x → p x ≡ true
    → list_any (λ e. eqb e.h h && p e) es ≡ true
find-any p [] h x found such = absurd cc
find-any p (e ∷ es) h x found such = on (eqb e.h h) refl (find-any p es h x) found
  where
    on : (b : Bool) → eqb e.h h ≡ b → (find (λ y. eqb y.h h) es ≡ Some x → p x ≡ true → list_any (λ y. eqb y.h h && p y) es ≡ true)
        → cond b (Some e) (find (λ y. eqb y.h h) es) ≡ Some x
        → ((b && p e) || list_any (λ y. eqb y.h h && p y) es) ≡ true
    on true is more same = let q : e ≡ x = cc in let here : p e ≡ true = ap p q ∙ such in ap (λ b. b || list_any (λ y. eqb y.h h && p y) es) here
    on false is more rest = more rest such

none-any : (p : Entry → Bool) (es : List Entry) (h : ℕ) → HasNone h es → list_any (λ e. eqb e.h h && p e) es ≡ false
none-any p [] h none = refl
none-any p (e ∷ es) h none = ap (λ b. (b && p e) || list_any (λ y. eqb y.h h && p y) es) (ne_eqb e.h h none.0) ∙ none-any p es h none.1

first-true : (a b : Bool) → b ≡ false → (a || b) ≡ true → a ≡ true
first-true true b e t = refl
first-true false b e t = absurd cc

-- of entries in ascending order, the one that is found is the one that is such
pub any-find : (p : Entry → Bool) (es : List Entry) (last h : ℕ) → are_entries last es ≡ true
    → list_any (λ e. eqb e.h h && p e) es ≡ true → IsSomeAnd (find (λ e. eqb e.h h) es) (λ e. p e ≡ true)
any-find p [] last h legal any = absurd cc
any-find p (e ∷ es) last h legal any =
    let s = both (is_entry last e) (are_entries e.h es) legal in
    on (eqb e.h h) refl s.1 (any-find p es e.h h s.1) any
  where
    on : (b : Bool) → eqb e.h h ≡ b → are_entries e.h es ≡ true
        → (list_any (λ y. eqb y.h h && p y) es ≡ true → IsSomeAnd (find (λ y. eqb y.h h) es) (λ y. p y ≡ true))
        → ((b && p e) || list_any (λ y. eqb y.h h && p y) es) ≡ true → IsSomeAnd (cond b (Some e) (find (λ y. eqb y.h h) es)) (λ y. p y ≡ true)
    on true is behind more any =
        let same : e.h ≡ h = eqb-true e.h h is in
        let low : h ≤ e.h = omega (arith, same) in
        first-true (p e) (list_any (λ y. eqb y.h h && p y) es) (none-any p es h (none_below es e.h h behind low)) any
    on false is behind more rest = more rest
