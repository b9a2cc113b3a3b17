-- A pair and a file read part by part.
use Rattle.std.proofs.Common.{◌≡◌, ℕ, zero, suc, ◌+◌, ◌-◌, ◌<◌, ◌≤◌, min, List, [], ◌∷◌, length, take, drop, Result, Ok, Err, refl, ap, sym, ◌∙◌, subst, inl, inr, arith, length-take, length-drop}
use Rattle.std.specs.Prelude.{IsOkAnd}
use Rattle.std.proofs.lemmas.Bool.{cases_lt}
use Rattle.std.proofs.lemmas.List.{take_all}
use Rattle.lmem_raw.specs.Bytes.{part}
use Rattle.vm_file.specs.declared.directory.Directory.{Directory}
use Rattle.vm_file.specs.declared.opened.Opened.{Opened}
use Rattle.vm_file.specs.declared.error.OpenError.{OpenError}
use Rattle.vm_file.specs.declared.error.OpenError.TheVariants.{BadFile, Disk, Memory}
use Rattle.vm_file.specs.Contents.{Contents, Pair, listed}
use Rattle.vm_file.specs.Directories.{directory_length}
use Rattle.vm_file.specs.Outcomes.{Tells}
use Rattle.vm_file.specs.Opening.{listed_pair, listed_file}
use Rattle.vm_file.specs.Reading.{◌>>=◌, contents_at, pair_at, header_at, selector_at, is_second, base_of, area_of, file_at, File}
use Rattle.vm_file.proofs.Lengths.{stretch}
use Rattle.vm_file.proofs.SpellLaws.{goes}
use Rattle.vm_file.proofs.ReadSteps.{stops}

abbrev failed : {X : Type 0} → OpenError → Result X OpenError
failed error = Err error

pub pair_stop_first : (base : ℕ) (xs : List ℕ) (error : OpenError) → Tells {Y = Contents} listed (failed error) (contents_at base xs)
    → Tells {Y = Pair} listed_pair (failed error) (pair_at base xs)
unfolding pair_at
pair_stop_first base xs (BadFile f) is = stops _ _ f is
pair_stop_first base xs Disk is = tt
pair_stop_first base xs Memory is = tt

-- reading a pair continues after the first directory
behind : (base : ℕ) (xs : List ℕ) (d : Directory) (r : Result Contents ℕ) (y : Result Pair ℕ) → contents_at base xs ≡ r
    → IsOkAnd r (λ c. listed c ≡ d) →
    ((c : Contents) → listed c ≡ d
    → (contents_at (base + directory_length d) (drop (directory_length d) xs) >>= λ saved. Ok
    (let p : Pair = record { cur = c; saved = saved } in p)) ≡ y) → pair_at base xs ≡ y
unfolding pair_at
behind base xs d (Err f) y is read then = absurd read
behind base xs d (Ok c) y is read then =
    goes _ c _ _ is (ap (λ x. contents_at (base + directory_length x) (drop (directory_length x) xs) >>= λ saved. Ok
    (let p : Pair = record { cur = c; saved = saved } in p)) read ∙ then c read)

pub pair_stop_second : (base : ℕ) (xs : List ℕ) (d : Directory) (error : OpenError) → IsOkAnd (contents_at base xs) (λ c. listed c ≡ d) →
    Tells {Y = Contents} listed (failed error) (contents_at (base + directory_length d) (drop (directory_length d) xs))
    → Tells {Y = Pair} listed_pair (failed error) (pair_at base xs)
pair_stop_second base xs d (BadFile f) first is = behind base xs d (contents_at base xs) (Err f) refl first (λ c e. stops _ _ f is)
pair_stop_second base xs d Disk first is = tt
pair_stop_second base xs d Memory first is = tt

pub pair_read : (base : ℕ) (xs : List ℕ) (d e : Directory) → IsOkAnd (contents_at base xs) (λ c. listed c ≡ d)
    → IsOkAnd (contents_at (base + directory_length d) (drop (directory_length d) xs)) (λ c. listed c ≡ e) →
    IsOkAnd (pair_at base xs) (λ p. listed_pair p ≡ (d, e))
unfolding pair_at
pair_read base xs d e first second = by (contents_at base xs) refl first
  where
    P : Result Pair ℕ → Type 0
    P r = IsOkAnd r (λ p. listed_pair p ≡ (d, e))

    more : (c : Contents) → listed c ≡ d → (r : Result Contents ℕ) → IsOkAnd r (λ x. listed x ≡ e)
        → IsOkAnd (r >>= λ saved. Ok (let p : Pair = record { cur = c; saved = saved } in p)) (λ p. listed_pair p ≡ (d, e))
    more c is (Err f) read = absurd read
    more c is (Ok x) read = ap (λ l. let w : Directory × Directory = (l, listed x) in w) is
        ∙ ap (λ l. let w : Directory × Directory = (d, l) in w) read

    by : (r : Result Contents ℕ) → contents_at base xs ≡ r → IsOkAnd r (λ c. listed c ≡ d) → IsOkAnd (pair_at base xs) (λ p. listed_pair p ≡ (d, e))
    by (Err f) is read = absurd read
    by (Ok c) is read =
        let Q : Result Pair ℕ → Type 0 = λ r. IsOkAnd r (λ p. listed_pair p ≡ (d, e)) in
        let here = goes _ c _ _ is
        (ap (λ x. contents_at (base + directory_length x) (drop (directory_length x) xs) >>= λ saved. Ok
        (let p : Pair = record { cur = c; saved = saved } in p)) read) in
        subst Q (sym here) (more c read (contents_at (base + directory_length d) (drop (directory_length d) xs)) second)

pub file_stop_header : (image : List ℕ) (error : OpenError) → Tells {Y = ℕ} (λ n. n) (failed error) (header_at (take 512 image))
    → Tells {Y = File} listed_file (failed error) (file_at image)
unfolding file_at
file_stop_header image (BadFile f) is = stops _ _ f is
file_stop_header image Disk is = tt
file_stop_header image Memory is = tt

pub file_stop_selector : (image : List ℕ) (area : ℕ) (error : OpenError) → header_at (take 512 image) ≡ Ok area
    → Tells {Y = ℕ} (λ n. n) (failed error) (selector_at image) → Tells {Y = File} listed_file (failed error) (file_at image)
unfolding file_at
file_stop_selector image area (BadFile f) header is = goes _ area _ _ header (stops _ _ f is)
file_stop_selector image area Disk header is = tt
file_stop_selector image area Memory header is = tt

pub file_stop_pair : (image : List ℕ) (area selector : ℕ) (error : OpenError) → header_at (take 512 image) ≡ Ok area
    → selector_at image ≡ Ok selector →
    Tells {Y = Pair} listed_pair (failed error) (pair_at (base_of area (is_second selector)) (area_of image area (is_second selector)))
    → Tells {Y = File} listed_file (failed error) (file_at image)
unfolding file_at
file_stop_pair image area selector (BadFile f) header sel is = goes _ area _ _ header (goes _ selector _ _ sel (stops _ _ f is))
file_stop_pair image area selector Disk header sel is = tt
file_stop_pair image area selector Memory header sel is = tt

pub file_read : (image : List ℕ) (area selector : ℕ) (d e : Directory) → header_at (take 512 image) ≡ Ok area → selector_at image ≡ Ok selector →
    IsOkAnd (pair_at (base_of area (is_second selector)) (area_of image area (is_second selector))) (λ p. listed_pair p ≡ (d, e)) →
    IsOkAnd (file_at image) (λ f. listed_file f ≡ (let o : Opened = record { area = area; second = is_second selector; current = d; saved = e } in o))
unfolding file_at
file_read image area selector d e header sel read =
    let Q : Result File ℕ → Type 0 =
    λ r. IsOkAnd r (λ f. listed_file f ≡ (let o : Opened = record { area = area; second = is_second selector; current = d; saved = e } in o)) in
    subst Q (sym (goes _ area _ _ header (goes _ selector _ _ sel refl)))
    (by (pair_at (base_of area (is_second selector)) (area_of image area (is_second selector))) read)
  where
    by : (r : Result Pair ℕ) → IsOkAnd r (λ p. listed_pair p ≡ (d, e)) →
        IsOkAnd (r >>= λ pair. Ok (let f : File = record { area = area; second = is_second selector; pair = pair } in f))
        (λ f. listed_file f ≡ (let o : Opened = record { area = area; second = is_second selector; current = d; saved = e } in o))
    by (Err f) h = absurd h
    by (Ok p) h = ap (λ l. let o : Opened = record { area = area; second = is_second selector; current = l.0; saved = l.1 } in o) h

-- the bytes of an area, as far as the image goes
pub area-stretch : (image : List ℕ) (base area end : ℕ) → base ≤ length image → end ≡ min (length image) (base + area)
    → part image base area ≡ stretch image base end
area-stretch image base area end there is = elim (cases_lt (length image) (base + area)) [
  | inl l ↦ (take_all area (drop base image) (omega (arith, length-drop base image))
      ∙ sym (take_all (end - base) (drop base image) (omega (arith, length-drop base image))))
  | inr g ↦ (let n : end - base ≡ area = omega arith in sym (ap (λ k. take k (drop base image)) n))
]

-- an area that begins past the image's end
pub area-past : (image : List ℕ) (base area : ℕ) → length image < base → pair_at base (part image base area) ≡ Err base
unfolding pair_at contents_at
area-past image base area past = (let none : base + 0 ≡ base = omega arith in ap (pair_at base) (empty image base area (omega arith))
    ∙ ap (λ k. let r : Result Pair ℕ = Err k in r) none)
  where
    empty : (xs : List ℕ) (at n : ℕ) → length xs ≤ at → part xs at n ≡ []
    empty [] zero zero h = refl
    empty [] zero (suc n) h = refl
    empty [] (suc at) zero h = refl
    empty [] (suc at) (suc n) h = refl
    empty (x ∷ xs) zero n h = absurd (omega arith)
    empty (x ∷ xs) (suc at) n h = empty xs at n (omega arith)

-- the first bytes, as many as there are
pub first-bytes : (image : List ℕ) (end : ℕ) → end ≡ min (length image) 512 → take 512 (stretch image 0 end) ≡ take 512 image
first-bytes image end is = elim (cases_lt (length image) 512) [
  | inl l ↦ ap (take 512) (take_all (end - 0) image (omega arith))
  | inr g ↦ (let n : end - 0 ≡ 512 = omega arith in ap (λ k. take 512 (take k image)) n
      ∙ take_all 512 (take 512 image) (omega (arith, length-take 512 image)))
]
