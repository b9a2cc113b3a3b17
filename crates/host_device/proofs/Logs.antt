-- The meaning of a log's records does not change while bytes are appended to it.
use Rattle.std.proofs.Common.{append_assoc, ◌≡◌, ◌∙◌, ℕ, zero, suc, ◌+◌, ◌≤◌, All, List, [], ◌∷◌, ◌++◌, length, length-append, map, take_all, refl, ap, arith}
use Rattle.std.specs.Prelude.{Result, Ok, Err, OnErr}
use Rattle.std.proofs.lemmas.List.{map-append}
use Rattle.lmem_raw.specs.Bytes.{part}
use Rattle.host_device.specs.declared.record.Record.{Record}
use Rattle.host_device.specs.declared.record.Record.TheVariants as kind
use Rattle.host_device.specs.Notes.{IsWithin, Write, note_in}

-- a part of the bytes in front
part-front : (xs ys : List ℕ) (at n : ℕ) → at + n ≤ length xs → part (xs ++ ys) at n ≡ part xs at n
part-front [] ys zero zero within = refl
part-front [] ys zero (suc n) within = absurd (omega (arith, within))
part-front [] ys (suc at) n within = absurd (omega (arith, within))
part-front (x ∷ xs) ys zero zero within = refl
part-front (x ∷ xs) ys zero (suc n) within = ap (λ zs. x ∷ zs) (part-front xs ys zero n (omega (arith, within)))
part-front (x ∷ xs) ys (suc at) n within = part-front xs ys at n (omega (arith, within))

-- the appended bytes
part-behind : (xs ys : List ℕ) (n : ℕ) → length ys ≤ n → part (xs ++ ys) (length xs) n ≡ ys
part-behind [] ys n long = take_all n ys long
part-behind (x ∷ xs) ys n long = part-behind xs ys n long

-- one record
same-note : (log more : List ℕ) (it : Record) → IsWithin (length log) it → note_in (log ++ more) it ≡ note_in log it
same-note log more (kind.Write at from len) within =
    λ k. Write at (part-front log more from len (omega (arith, within)) k) (part-front log more (from + len) len within k)
same-note log more kind.Sync within = refl

-- all of them
pub same-notes : (log more : List ℕ) (records : List Record) → All (IsWithin (length log)) records
    → map (note_in (log ++ more)) records ≡ map (note_in log) records
same-notes log more [] within = refl
same-notes log more (it ∷ records) within = (λ k. same-note log more it (within 0 it (omega arith)) k ∷ same-notes log more records (λ n d below. within (suc n) d (omega arith)) k)

-- what is so is so where there is an error
pub on-err : {A E P : Type 0} (r : Result A E) → P → OnErr r P
on-err (Ok a) so = tt
on-err (Err e) so = so

-- two lists of bytes are appended, for a write
module _ (log stood given : List ℕ) (same : length stood ≡ length given) where
  pub both : List ℕ
  both = (log ++ stood) ++ given

  first : part both (length log) (length given) ≡ stood
  unfolding both
  first =
      let within : length log + length given ≤ length (log ++ stood) = omega (arith, same, length-append log stood) in
      part-front (log ++ stood) given (length log) (length given) within ∙ part-behind log stood (length given) (omega (arith, same))

  second : part both (length log + length given) (length given) ≡ given
  unfolding both
  second =
      let at : length log + length given ≡ length (log ++ stood) = omega (arith, same, length-append log stood) in
      ap (λ from. part ((log ++ stood) ++ given) from (length given)) at ∙ part-behind (log ++ stood) given (length given) (omega arith)

  pub one-more : (at : ℕ) (records : List Record) → All (IsWithin (length log)) records
      → map (note_in ((log ++ stood) ++ given)) (records ++ (kind.Write at (length log) (length given) ∷ []))
      ≡ map (note_in log) records ++ (Write at stood given ∷ [])
  unfolding both
  one-more at records within =
      map-append (note_in ((log ++ stood) ++ given)) records (kind.Write at (length log) (length given) ∷ [])
      ∙ (λ k. all k ++ (Write at (first k) (second k) ∷ []))
    where
      all : map (note_in ((log ++ stood) ++ given)) records ≡ map (note_in log) records
      all = ap (λ bytes. map (note_in bytes) records) (append_assoc log stood given) ∙ same-notes log (stood ++ given) records within
