-- Lists of records that calls write into a buffer.
use Rattle.std.specs.Prelude.{◌≡◌, ℕ, zero, suc, Bool, if◌then◌else◌, List, [], ◌∷◌, ◌++◌, length, Option, Some, None}

-- the number of a flag
abbrev pub flag : Bool → ℕ
flag b = if b then 1 else 0

-- the records with one more, if there is one
abbrev pub with_some : {R : Type 0} → List R → Option R → List R
with_some records None = records
with_some records (Some r) = records ++ r ∷ []

-- the records of the numbers below n that have one, in order
unfoldable pub records_below : {R : Type 0} → (ℕ → Option R) → ℕ → List R
records_below record_of zero = []
records_below record_of (suc n) = with_some (records_below record_of n) (record_of n)

-- a buffer whose beginning the records overwrite, as many as there is room for
abbrev pub overwritten : {R : Type 0} → List R → List R → List R
overwritten [] records = []
overwritten (old ∷ buffer) [] = old ∷ buffer
overwritten (old ∷ buffer) (r ∷ records) = r ∷ overwritten buffer records

-- the count is the number of these records, and as many as there is room for are at the beginning of a buffer, whose rest is as before
pub record Shows {R : Type 0} (are : List R → Type 0) (count : ℕ) (old new : List R) : Type 0 where
  pub records : List R
  pub true_of : are records
  pub count_is : count ≡ length records
  pub written : new ≡ overwritten old records
