-- A list of items, filled up to a length with copies of one item.
use Rattle.std.proofs.Common.{◌≡◌, ◌∙◌, ◌<◌, ◌≤◌, ℕ, zero, suc, ◌+◌, ◌-◌, List, [], ◌∷◌, ◌++◌, length, replicate, get_or, set, refl, sym, ap, arith}
use Rattle.std.proofs.lemmas.List.{length-append, length-set, append_assoc, replicate-append-replicate, set-append_left, length-replicate}

module _ {A : Type 0} (x : A) where
  copy_at : (n pc : ℕ) → get_or (replicate n x) pc x ≡ x
  copy_at zero pc = refl
  copy_at (suc n) zero = refl
  copy_at (suc n) (suc pc) = copy_at n pc

  -- where no items are written, it is at each place
  pub same-everywhere : (items : List A) (n pc : ℕ) → items ≡ [] → get_or (items ++ replicate n x) pc x ≡ x
  same-everywhere items n pc none = ap (λ (xs : List A). get_or (xs ++ replicate n x) pc x) none ∙ copy_at n pc

  -- the items, then copies of x up to length n
  abbrev pub filled : ℕ → List A → List A
  filled n items = items ++ replicate (n - length items) x

  -- with so many more of them written
  pub longer : (k : ℕ) (old items : List A) → items ≡ old ++ replicate k x → length items ≡ length old + k
  longer k old items is = ap length is ∙ length-append old (replicate k x) ∙ ap (λ (m : ℕ). length old + m) (length-replicate k x)

  pub filled-reach : (n k : ℕ) (old items : List A) → length old + k ≤ n → items ≡ old ++ replicate k x → filled n items ≡ filled n old
  filled-reach n k old items le is =
      let rest : k + (n - length items) ≡ n - length old = omega (arith, longer k old items is) in
      ap (λ (xs : List A). xs ++ replicate (n - length items) x) is
      ∙ append_assoc old (replicate k x) (replicate (n - length items) x)
      ∙ ap (λ (xs : List A). old ++ xs) (replicate-append-replicate k (n - length items) x ∙ ap (λ (m : ℕ). replicate m x) rest)

  -- one of them may be set
  pub filled-set : (n pc : ℕ) (y : A) (items : List A) → pc < length items → filled n (set items pc y) ≡ set (filled n items) pc y
  filled-set n pc y items lt =
      ap (λ (m : ℕ). set items pc y ++ replicate (n - m) x) (length-set items pc y)
      ∙ sym (set-append_left items (replicate (n - length items) x) pc y lt)

  -- the list with one more item in place of the first copy
  pub filled-push : (n : ℕ) (y : A) (items : List A) → length items < n → filled n (items ++ y ∷ []) ≡ set (filled n items) (length items) y
  filled-push n y items lt =
      let more : filled n (items ++ x ∷ []) ≡ filled n items = filled-reach n 1 items (items ++ x ∷ []) (omega arith) refl in
      let last : set (items ++ x ∷ []) (length items) y ≡ items ++ y ∷ [] = set-last items in
      let within : length items < length (items ++ x ∷ []) = omega (arith, length-append items (x ∷ [])) in
      ap (filled n) (sym last) ∙ filled-set n (length items) y (items ++ x ∷ []) within ∙ ap (λ (xs : List A). set xs (length items) y) more
    where
      set-last : (xs : List A) → set (xs ++ x ∷ []) (length xs) y ≡ xs ++ y ∷ []
      set-last [] = refl
      set-last (z ∷ xs) = ap (λ (ys : List A). z ∷ ys) (set-last xs)
