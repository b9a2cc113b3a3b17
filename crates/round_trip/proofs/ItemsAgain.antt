-- The items of a row that are written are read back.
use Rattle.std.proofs.Common.{◌≡◌, ◌∙◌, ◌<◌, ◌^◌, ℕ, zero, suc, ◌+◌, true, List, [], ◌∷◌, ◌++◌, slice_set, Some, None, Ok, refl, sym, ap, arith}
use Rattle.std.specs.Prelude.{codes, decimal}
use Rattle.std.specs.List.{list_all}
use Rattle.std.proofs.lemmas.Fmt.{decimal_digit}
use Rattle.std.proofs.lemmas.List.{append-nil}
use Rattle.geos_image.specs.declared.row.Row.{Row}
use Rattle.geos_image.specs.declared.row.Pointer.{Pointer}
use Rattle.geos_image.specs.declared.row.SlotState.{SlotState}
use Rattle.geos_listing.specs.Rows.{held_item, pointer_item}
use Rattle.geos_text.specs.Registers.{register_of}
use Rattle.geos_source.specs.Items.{with_bound, slot_state_of, with_slot, with_pointer, pointer_slot, item_by, item}
use Rattle.round_trip.proofs.Spaced.{is_inner, is_word, spaced}
use Rattle.round_trip.proofs.NumbersAgain.{decimal-inner, numbered-again, register-digit}

-- `w0<=9`: a word's bound
abbrev pub bound_word : ℕ → ℕ → List ℕ
bound_word i bound = 119 ∷ (48 + i) ∷ 60 ∷ 61 ∷ decimal bound

-- `s0=mem`: what a slot holds
abbrev pub held_word : ℕ → List ℕ → List ℕ
held_word i word = 115 ∷ (48 + i) ∷ 61 ∷ word

-- `p0=s0:8`: where a pointer leads
abbrev pub pointer_word : ℕ → ℕ → ℕ → List ℕ
pointer_word i slot least = 112 ∷ (48 + i) ∷ 61 ∷ 115 ∷ (48 + slot) ∷ 58 ∷ decimal least

-- ---- how they are written

pub one_spaced : (word : List ℕ) → 32 ∷ word ≡ spaced (word ∷ [])
one_spaced word = ap (λ (t : List ℕ). 32 ∷ t) (sym (append-nil word))

pub bound-written : (i bound : ℕ) → i < 10 → codes " w" ++ decimal i ++ codes "<=" ++ decimal bound ≡ spaced (bound_word i bound ∷ [])
bound-written i bound lt = ap (λ (ds : List ℕ). codes " w" ++ ds ++ codes "<=" ++ decimal bound) (decimal_digit i lt) ∙ one_spaced (bound_word i bound)

pub held-written : (i : ℕ) (word : List ℕ) → i < 10 → held_item i word ≡ spaced (held_word i word ∷ [])
held-written i word lt = ap (λ (ds : List ℕ). codes " s" ++ ds ++ codes "=" ++ word) (decimal_digit i lt) ∙ one_spaced (held_word i word)

pub pointer-written : (i : ℕ) (p : Pointer) → i < 10 → p.slot < 10 → pointer_item i (Some p) ≡ spaced (pointer_word i p.slot p.least ∷ [])
pointer-written i p lt in_slot =
    ap (λ (ds : List ℕ). codes " p" ++ ds ++ codes "=s" ++ decimal p.slot ++ codes ":" ++ decimal p.least) (decimal_digit i lt)
    ∙ ap (λ (ds : List ℕ). codes " p" ++ ((48 + i) ∷ []) ++ codes "=s" ++ ds ++ codes ":" ++ decimal p.least) (decimal_digit p.slot in_slot)
    ∙ one_spaced (pointer_word i p.slot p.least)

-- ---- how they are read

pub bound-read : (row : Row) (i bound : ℕ) → i < 8 → bound < 2 ^ 16 → item row (bound_word i bound) ≡ Ok
    (record row { bounds = slice_set row.bounds i bound })
unfolding item
bound-read row i bound lt word =
    let front = 119 ∷ (48 + i) ∷ [] in
    ap (λ found. item_by row found (register_of 115 4 front) (register_of 112 4 front) (60 ∷ 61 ∷ decimal bound)) (register-digit 119 8 i lt)
    ∙ ap (λ read. with_bound row i read) (numbered-again 65535 bound (omega (arith, word)) (omega (arith, word)))

pub held-read : (row : Row) (i : ℕ) (word : List ℕ) (state : SlotState) → i < 4 → slot_state_of word ≡ Some state
    → item row (held_word i word) ≡ Ok (record row { slots = slice_set row.slots i state })
unfolding item
held-read row i word state lt is =
    let front = 115 ∷ (48 + i) ∷ [] in
    ap (λ found. item_by row None found (register_of 112 4 front) (61 ∷ word)) (register-digit 115 4 i lt) ∙ ap (λ found. with_slot row i found) is

pub pointer-read : (row : Row) (i slot least : ℕ) → i < 4 → slot < 4 → least < 2 ^ 16
    → item row (pointer_word i slot least) ≡ Ok (record row { pointers = slice_set row.pointers i (Some (record { slot = slot; least = least })) })
unfolding item
pointer-read row i slot least lt in_slot word =
    ap (λ found. item_by row None None found (61 ∷ 115 ∷ (48 + slot) ∷ 58 ∷ decimal least)) (register-digit 112 4 i lt)
    ∙ ap (λ found. pointer_slot row i found (58 ∷ decimal least)) (register-digit 115 4 slot in_slot)
    ∙ ap (λ read. with_pointer row i slot read) (numbered-again 65535 least (omega (arith, word)) (omega (arith, word)))

-- ---- they are words

pub digit-inner : (i : ℕ) → i < 10 → is_inner (48 + i) ≡ true
digit-inner zero lt = refl
digit-inner (suc zero) lt = refl
digit-inner (suc (suc zero)) lt = refl
digit-inner (suc (suc (suc zero))) lt = refl
digit-inner (suc (suc (suc (suc zero)))) lt = refl
digit-inner (suc (suc (suc (suc (suc zero))))) lt = refl
digit-inner (suc (suc (suc (suc (suc (suc zero)))))) lt = refl
digit-inner (suc (suc (suc (suc (suc (suc (suc zero))))))) lt = refl
digit-inner (suc (suc (suc (suc (suc (suc (suc (suc zero)))))))) lt = refl
digit-inner (suc (suc (suc (suc (suc (suc (suc (suc (suc zero))))))))) lt = refl
digit-inner (suc (suc (suc (suc (suc (suc (suc (suc (suc (suc i)))))))))) lt = absurd (omega (arith, lt))

pub bound-word : (i bound : ℕ) → i < 10 → bound < 2 ^ 16 → is_word (bound_word i bound) ≡ true
bound-word i bound lt word = rw (digit-inner i lt) (decimal-inner bound (omega (arith, word)))

pub held-word : (i : ℕ) (word : List ℕ) → i < 10 → list_all is_inner word ≡ true → is_word (held_word i word) ≡ true
held-word i word lt inner = rw (digit-inner i lt) inner

pub pointer-word : (i slot least : ℕ) → i < 10 → slot < 10 → least < 2 ^ 16 → is_word (pointer_word i slot least) ≡ true
pointer-word i slot least lt in_slot word = rw (digit-inner i lt, digit-inner slot in_slot) (decimal-inner least (omega (arith, word)))
