-- Names are the same if their letters are.
use Rattle.std.proofs.Common.{◌≡◌, ◌≢◌, ℕ, suc, Bool, true, false, List, [], ◌∷◌, refl, sym, ap, subst, ne_eqb, eq-eqb}
use Rattle.std.specs.Prelude.{◌&&◌, ◌==◌, if◌then◌else◌, bytes_eq, slice_index}
use Rattle.std.proofs.lemmas.Bool.{and_left, false≢true}
use Rattle.tkv_names.specs.Named.{is_letter, letters}

none : (i : ℕ) → is_letter i ≡ true → i ≡ 0 → ⊥
none i e z = false≢true (subst (λ (n : ℕ). is_letter n ≡ true) z e)

differ_from : (b c : Bool) (i j : ℕ) (xs ys : List ℕ) → is_letter i ≡ b → is_letter j ≡ c → (if b then i else 0) ≢ (if c then j else 0)
    → false ≡ bytes_eq (if b then i ∷ xs else []) (if c then j ∷ ys else [])
differ_from true true i j xs ys p q ne = sym (and_left (i == j) (bytes_eq xs ys) (ne_eqb i j ne))
differ_from true false i j xs ys p q ne = refl
differ_from false true i j xs ys p q ne = refl
differ_from false false i j xs ys p q ne = absurd (ne refl)

pub differ : (n : ℕ) (text : List ℕ) (one other : ℕ)
    → (if is_letter (slice_index text one) then slice_index text one else 0) ≢ (if is_letter (slice_index text other) then slice_index text other else 0)
    → false ≡ bytes_eq (letters (suc n) text one) (letters (suc n) text other)
differ n text one other ne = differ_from (is_letter (slice_index text one)) (is_letter (slice_index text other)) (slice_index text one)
    (slice_index text other) (letters n text (suc one)) (letters n text (suc other)) refl refl ne

end_from : (b c : Bool) (i j : ℕ) (xs ys : List ℕ) → is_letter i ≡ b → is_letter j ≡ c → (if b then i else 0) ≡ (if c then j else 0)
    → (if b then i else 0) ≡ 0 → true ≡ bytes_eq (if b then i ∷ xs else []) (if c then j ∷ ys else [])
end_from true c i j xs ys p q e z = absurd (none i p z)
end_from false true i j xs ys p q e z = absurd (none j q (sym e))
end_from false false i j xs ys p q e z = refl

pub end : (n : ℕ) (text : List ℕ) (one other : ℕ)
    → (if is_letter (slice_index text one) then slice_index text one else 0) ≡ (if is_letter (slice_index text other) then slice_index text other else 0)
    → (if is_letter (slice_index text one) then slice_index text one else 0) ≡ 0
    → true ≡ bytes_eq (letters (suc n) text one) (letters (suc n) text other)
end n text one other e z = end_from (is_letter (slice_index text one)) (is_letter (slice_index text other)) (slice_index text one)
    (slice_index text other) (letters n text (suc one)) (letters n text (suc other)) refl refl e z

next_from : (b c : Bool) (i j : ℕ) (xs ys : List ℕ) → is_letter i ≡ b → is_letter j ≡ c → (if b then i else 0) ≡ (if c then j else 0)
    → (if b then i else 0) ≢ 0 → bytes_eq xs ys ≡ bytes_eq (if b then i ∷ xs else []) (if c then j ∷ ys else [])
next_from true true i j xs ys p q e nz = sym (ap (λ (t : Bool). t && bytes_eq xs ys) (eq-eqb i j e))
next_from true false i j xs ys p q e nz = absurd (nz e)
next_from false c i j xs ys p q e nz = absurd (nz refl)

pub next : (n : ℕ) (text : List ℕ) (one other : ℕ)
    → (if is_letter (slice_index text one) then slice_index text one else 0) ≡ (if is_letter (slice_index text other) then slice_index text other else 0)
    → (if is_letter (slice_index text one) then slice_index text one else 0) ≢ 0
    → bytes_eq (letters n text (suc one)) (letters n text (suc other)) ≡ bytes_eq (letters (suc n) text one) (letters (suc n) text other)
next n text one other e nz = next_from (is_letter (slice_index text one)) (is_letter (slice_index text other)) (slice_index text one)
    (slice_index text other) (letters n text (suc one)) (letters n text (suc other)) refl refl e nz
