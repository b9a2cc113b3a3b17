-- A new file is read as two empty directories.
use Rattle.std.proofs.Common.{◌≡◌, ℕ, zero, suc, ◌+◌, ◌-◌, ◌*◌, ◌/◌, ◌%◌, ◌≤◌, true, false, List, [], ◌∷◌, ◌++◌, length, take, drop, get_or, Result, Ok, refl, ap, sym, ◌∙◌, subst, arith}
use Rattle.std.proofs.Math.Dec.{eqb}
use Rattle.lmem_raw.specs.Bytes.{part, with_part}
use Rattle.lmem_raw.proofs.Parts.{with_part-split, length-with_part}
use Rattle.geos_terms.specs.Bytes.{word}
use Rattle.vm_file.specs.Contents.{listed, pair_spelling}
use Rattle.vm_file.specs.Device.{Medium, Only, Touched}
use Rattle.vm_file.specs.Reading.{header_at, pair_at, file_at, is_area, File}
use Rattle.vm_file.specs.Spelling.{header_spelling, new_file, empty_contents, empty_pair}
use Rattle.vm_file.specs.State.{FileState, IsSound}
use Rattle.geos_terms.proofs.HeapTests.{both}
use Rattle.vm_file.proofs.ReadLaws.{leb-le}
use Rattle.vm_file.proofs.SpellLaws.{goes, wanted_is, pair_again}
use Rattle.vm_file.proofs.StateLaws.{FileParts, file_from}
use Rattle.vm_file.proofs.Touches.{touched_not}

pub take-append-ge : (xs ys : List ℕ) (n k : ℕ) → n ≡ length xs + k → take n (xs ++ ys) ≡ xs ++ take k ys
take-append-ge [] ys n k e = ap (λ m. take m ys) (e ∙ omega arith)
take-append-ge (x ∷ xs) ys zero k e = absurd (omega arith)
take-append-ge (x ∷ xs) ys (suc n) k e = ap (λ l. x ∷ l) (take-append-ge xs ys n k (omega arith))

-- the header is read again
header_again : (area : ℕ) → is_area area ≡ true → header_at (header_spelling area) ≡ Ok area
unfolding header_at word
header_again area legal =
    let l1 = both _ _ legal in
    let l2 = both _ _ l1.0 in
    let most = leb-le area 16777216 l2.1 in
    let number : (area % 256 + 256 * (area / 256 % 256)) + 65536 * (area / 65536 % 256 + 256 * (area / 16777216)) ≡ area = omega arith in
    goes _ area _ _ (wanted_is 8 is_area _ area (ap (λ n. let r : Result ℕ ℕ = Ok n in r) number) legal) refl

-- the file that the bytes of a new file encode, whatever follows them
pub new_parts : (image : List ℕ) (area : ℕ) → is_area area ≡ true → 1024 + 2 * area ≤ length image
    → FileParts (with_part image 0 (new_file area)) (let f : File = record { area = area; second = false; pair = empty_pair } in f)
new_parts image area legal room =
    let l1 = both _ _ legal in
    let l2 = both _ _ l1.0 in
    let least = leb-le 512 area l2.0 in
    let rest = drop 1040 image in
    let is : with_part image 0 (new_file area) ≡ new_file area ++ rest = sym (with_part-split image 0 1040 (new_file area) refl (omega arith)) in
    let long = length-with_part image 0 (new_file area) in
    let P : List ℕ → Type 0 = λ x. get_or x 512 0 ≡ 0 in
    let sel : get_or (with_part image 0 (new_file area)) 512 0 ≡ 0 = subst P (sym is) refl in
    let Q : List ℕ → Type 0 = λ x. part x 1024 area ≡ pair_spelling empty_pair ++ take (area - 16) rest in
    let sixteen : area ≡ 16 + (area - 16) = omega arith in
    let area_is : part (with_part image 0 (new_file area)) 1024 area ≡ pair_spelling empty_pair ++ take (area - 16) rest =
    subst Q (sym is) (take-append-ge (pair_spelling empty_pair) rest area (area - 16) sixteen) in
    record {
      header = ap header_at (ap (take 512) is) ∙ header_again area legal;
      long = omega (arith, long, room);
      selector = ap (λ s. eqb (s % 2) 1) sel;
      pair = ap (pair_at 1024) area_is ∙ pair_again empty_pair 1024 (take (area - 16) rest) refl refl;
    }

module _ {D : Type 0} (medium : Medium D) (old new : D) (area : ℕ) (legal : is_area area ≡ true)
    (room : 1024 + 2 * area ≤ length (medium.image old)) where
  -- a file that was made
  abbrev pub made : FileState D
  made = record { device = new; area = area; second = false; sure = true; current = listed empty_contents; saved = listed empty_contents }

  pub made_found : medium.image new ≡ with_part (medium.image old) 0 (new_file area)
      → file_at (medium.image new) ≡ Ok (let f : File = record { area = area; second = false; pair = empty_pair } in f)
  made_found is = ap file_at is ∙ file_from (with_part (medium.image old) 0 (new_file area)) _ (new_parts (medium.image old) area legal room)

  pub made_sound : (medium.honest new → medium.honest old) → length (medium.image new) ≡ length (medium.image old)
      → (medium.honest old → medium.image new ≡ with_part (medium.image old) 0 (new_file area))
      → (medium.honest old → Only (medium.image new) (medium.may_leave new)) → IsSound medium made
  made_sound was long bytes durable =
      let l1 = both _ _ legal in
      let l2 = both _ _ l1.0 in
      let least = leb-le 512 area l2.0 in
      record {
        area = legal;
        current = refl;
        saved = refl;
        fits = omega (arith, least);
        within = omega (arith, long, room, least);
        holds = (λ h.
            let P : List ℕ → Type 0 = λ x. FileParts x (let f : File = record { area = area; second = false; pair = empty_pair } in f) in
            let parts = subst P (sym (bytes (was h))) (new_parts (medium.image old) area legal room) in
            record {
              long = parts.long;
              header = parts.header;
              pair = parts.pair;
              leaves = (
                parts.selector,
                (λ c l. subst (Touched (1024 + area) area (medium.image new))
                    (sym (durable (was h) c l)) (touched_not _ _ (medium.image new))),
              );
            });
      }
