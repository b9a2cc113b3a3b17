-- Lists joined end to end, with one more, without one, and with another in its place.
use Rattle.std.proofs.Common.{◌≡◌, ℕ, zero, suc, ◌+◌, ◌-◌, ◌<◌, ◌≤◌, List, [], ◌∷◌, ◌++◌, length, take, drop, get_or, set, replicate, ap, sym, ◌∙◌, arith, length-append, length-take, length-drop}
use Rattle.std.specs.Prelude.{insert, remove}
use Rattle.std.proofs.lemmas.List.{take-append-le, take-take, drop_at, take_at, drop-append-le, drop-drop, drop-take, drop-replicate, length-take-le, append-nil, append_assoc, take_all, length-replicate, set_split, take-append-drop}
use Rattle.lmem_raw.specs.Bytes.{part}
use Rattle.geos_terms.specs.Chunks.{resized, with_zeros, without_part, with_resized_part}
use Rattle.geos_terms.proofs.Joined.{join, join-append}
use Rattle.geos_terms.proofs.Resizes.{length-part, length-resized}

-- with a list put in
pub join-insert : (xs : List (List ℕ)) (i : ℕ) (z : List ℕ) → join (insert xs i z) ≡ join (take i xs) ++ (z ++ join (drop i xs))
join-insert xs i z = join-append (take i xs) (z ∷ drop i xs)

pub take-insert : (xs : List (List ℕ)) (i j : ℕ) (z : List ℕ) → j ≤ i → i ≤ length xs → take j (insert xs i z) ≡ take j xs
take-insert xs i j z h fits = take-append-le j (take i xs) (z ∷ drop i xs) (omega (arith, length-take i xs)) ∙ take-take j i xs h

pub join-insert_behind : (xs : List (List ℕ)) (i j : ℕ) (z : List ℕ) → i ≤ j → i ≤ length xs
    → length (join (take (suc j) (insert xs i z))) ≡ length (join (take j xs)) + length z
join-insert_behind xs zero j z h fits = omega (arith, length-append z (join (take j xs)))
join-insert_behind [] (suc i) j z h fits = absurd (omega arith)
join-insert_behind (x ∷ xs) (suc i) zero z h fits = absurd (omega arith)
join-insert_behind (x ∷ xs) (suc i) (suc j) z h fits =
    let e = join-insert_behind xs i j z (omega arith) (omega arith) in
    omega (arith, e, length-append x (join (take (suc j) (insert xs i z))), length-append x (join (take j xs)))

-- with a list taken out
pub join-remove : (xs : List (List ℕ)) (i : ℕ) → join (remove xs i) ≡ join (take i xs) ++ join (drop (suc i) xs)
join-remove xs i = join-append (take i xs) (drop (suc i) xs)

pub take-remove : (xs : List (List ℕ)) (i j : ℕ) → j ≤ i → i ≤ length xs → take j (remove xs i) ≡ take j xs
take-remove xs i j h fits = take-append-le j (take i xs) (drop (suc i) xs) (omega (arith, length-take i xs)) ∙ take-take j i xs h

pub join-remove_behind : (xs : List (List ℕ)) (i j : ℕ) → i ≤ j → i < length xs
    → length (join (take j (remove xs i))) + length (get_or xs i []) ≡ length (join (take (suc j) xs))
join-remove_behind [] i j h fits = absurd (omega arith)
join-remove_behind (x ∷ xs) zero j h fits = omega (arith, length-append x (join (take j xs)))
join-remove_behind (x ∷ xs) (suc i) zero h fits = absurd (omega arith)
join-remove_behind (x ∷ xs) (suc i) (suc j) h fits =
    let e = join-remove_behind xs i j (omega arith) (omega arith) in
    omega (arith, e, length-append x (join (take j (remove xs i))), length-append x (join (take (suc j) xs)))

-- with another list in the place of one
pub join-set : (xs : List (List ℕ)) (i : ℕ) (z : List ℕ) → i < length xs → join (set xs i z) ≡ join (take i xs) ++ (z ++ join (drop (suc i) xs))
join-set xs i z h = ap join (set_split xs i z h) ∙ join-append (take i xs) (z ∷ drop (suc i) xs)

pub join-set_behind : (xs : List (List ℕ)) (i j : ℕ) (z : List ℕ) → i < j → i < length xs
    → length (join (take j (set xs i z))) + length (get_or xs i []) ≡ length (join (take j xs)) + length z
join-set_behind [] i j z h fits = absurd (omega arith)
join-set_behind (x ∷ xs) i zero z h fits = absurd (omega arith)
join-set_behind (x ∷ xs) zero (suc j) z h fits = omega (arith, length-append x (join (take j xs)), length-append z (join (take j xs)))
join-set_behind (x ∷ xs) (suc i) (suc j) z h fits =
    let e = join-set_behind xs i j z (omega arith) (omega arith) in
    omega (arith, e, length-append x (join (take j (set xs i z))), length-append x (join (take j xs)))

-- Bytes with zeros put in, and without a part

-- the first bytes of a list, without those before an offset, and what follows them
pub drop-front : (bs zs : List ℕ) (from at : ℕ) → from ≤ at → at ≤ length bs → drop from (take at bs ++ zs) ≡ part bs from (at - from) ++ zs
drop-front bs zs from at h fits =
    let whole : from + (at - from) ≡ at = omega arith in
    drop-append-le from (take at bs) zs (omega (arith, length-take at bs)) ∙ ap (λ m. drop from (take m bs) ++ zs) (sym whole)
    ∙ ap (λ xs. xs ++ zs) (drop-take from (at - from) bs)

-- the bytes before the zeros
pub zeros-front : (bs : List ℕ) (from at n : ℕ) → from ≤ at → at ≤ length bs → part (with_zeros bs at n) from (at - from) ≡ part bs from (at - from)
zeros-front bs from at n h fits =
    let zs : List ℕ = replicate n 0 ++ drop at bs in
    ap (take (at - from)) (drop-front bs zs from at h fits) ∙ take_at (part bs from (at - from)) zs (at - from)
    (length-part bs from (at - from) (omega arith))

-- the bytes after the first m zeros
pub zeros-behind : (bs : List ℕ) (at m n : ℕ) → at ≤ length bs → drop (at + m) (with_zeros bs at (n + m)) ≡ replicate n 0 ++ drop at bs
zeros-behind bs at m n fits =
    let zs : List ℕ = replicate (n + m) 0 in
    let rest : n + m - m ≡ n = omega arith in
    sym (drop-drop m at (with_zeros bs at (n + m))) ∙ ap (drop m) (drop_at (take at bs) (zs ++ drop at bs) at (length-take-le at bs fits))
    ∙ drop-append-le m zs (drop at bs) (omega (arith, length-replicate {A = ℕ} (n + m) 0))
    ∙ ap (λ xs. xs ++ drop at bs) (drop-replicate m (n + m) 0 ∙ ap (λ k. replicate {A = ℕ} k 0) rest)

pub length-without : (bs : List ℕ) (at n : ℕ) → at + n ≤ length bs → length (without_part bs at n) ≡ length bs - n
length-without bs at n h = omega (arith, length-append (take at bs) (drop (at + n) bs), length-take at bs, length-drop (at + n) bs)

-- the first bytes in two parts
take-two : (bs : List ℕ) (m n : ℕ) → take (m + n) bs ≡ take m bs ++ part bs m n
take-two bs m n = sym (take-append-drop m (take (m + n) bs)) ∙ ap (λ xs. xs ++ drop m (take (m + n) bs)) (take-take m (m + n) bs (omega arith))
    ∙ ap (λ xs. take m bs ++ xs) (drop-take m n bs)

-- a part that gets n bytes gets zeros at its end, or loses its last bytes
pub resized-grows : (bs : List ℕ) (at has n : ℕ) → at + has ≤ length bs → has ≤ n → with_zeros bs (at + has) (n - has) ≡ with_resized_part bs at has n
resized-grows bs at has n fits h =
    let p = part bs at has in
    let zs : List ℕ = replicate (n - has) 0 in
    let long : length p ≡ has = length-part bs at has fits in
    let same : resized p n ≡ p ++ zs = ap (λ xs. xs ++ replicate (n - length p) 0) (take_all n p (omega arith))
    ∙ ap (λ m. p ++ replicate (n - m) 0) long in
    ap (λ xs. xs ++ (zs ++ drop (at + has) bs)) (take-two bs at has) ∙ append_assoc (take at bs) p (zs ++ drop (at + has) bs)
    ∙ ap (λ xs. take at bs ++ xs) (sym (append_assoc p zs (drop (at + has) bs))) ∙ ap (λ xs. take at bs ++ (xs ++ drop (at + has) bs)) (sym same)

pub resized-shrinks : (bs : List ℕ) (at has n : ℕ) → at + has ≤ length bs → n ≤ has
    → without_part bs (at + n) (has - n) ≡ with_resized_part bs at has n
resized-shrinks bs at has n fits h =
    let p = part bs at has in
    let end : at + n + (has - n) ≡ at + has = omega arith in
    let long : length p ≡ has = length-part bs at has fits in
    let none : n - length p ≡ 0 = omega arith in
    let same : resized p n ≡ part bs at n = ap (λ m. take n p ++ replicate m 0) none ∙ append-nil (take n p) ∙ take-take n has (drop at bs) h in
    ap (λ m. take (at + n) bs ++ drop m bs) end ∙ ap (λ xs. xs ++ drop (at + has) bs) (take-two bs at n)
    ∙ append_assoc (take at bs) (part bs at n) (drop (at + has) bs)
    ∙ ap (λ xs. take at bs ++ (xs ++ drop (at + has) bs)) (sym same)

pub length-resized_part : (bs : List ℕ) (at has n : ℕ) → at + has ≤ length bs → length (with_resized_part bs at has n) + has ≡ length bs + n
length-resized_part bs at has n fits =
    let r = resized (part bs at has) n in
    omega (
      arith,
      length-append (take at bs) (r ++ drop (at + has) bs),
      length-append r (drop (at + has) bs),
      length-resized (part bs at has) n,
      length-take at bs,
      length-drop (at + has) bs,
    )
