-- The area size of a file that was found.
use Rattle.std.proofs.Common.{◌≡◌, ◌∙◌, ℕ, ◌+◌, ◌*◌, ◌<◌, List, length, take, cond, Result, Ok, Err, ap, sym, arith}
use Rattle.std.specs.Prelude.{◌==◌, nat_eq}
use Rattle.std.specs.List.{starts_with}
use Rattle.std.proofs.Math.Dec.{ltb}
use Rattle.std.proofs.lemmas.List.{get_or-take}
use Rattle.geos_terms.specs.Bytes.{word}
use Rattle.vm_file.specs.Reading.{◌>>=◌, File, file_at, header_at, area_size_at, is_area, magic, wanted, word_at, zeros_at}
use Rattle.vm_file.specs.Device.{Medium}
use Rattle.vm_file.specs.State.{FileState}
use Rattle.geos_dump.specs.Sides.{IsOnlyRead}
use Rattle.vm_file.proofs.ReadLaws.{after, cond_ok, ok_is, wanted_ok}
use Rattle.vm_file.proofs.StateLaws.{file_parts}

-- a word at the front of an image
word-front : (image : List ℕ) (k : ℕ) → k + 1 < 512 → word (take 512 image) k ≡ word image k
unfolding word
word-front image k lt =
    let low = get_or-take 512 image k 0 (omega (arith, lt)) in
    let high = get_or-take 512 image (k + 1) 0 lt in
    omega (arith, low, high)

-- the area size that a header names
header_area : (front : List ℕ) (a : ℕ) → header_at front ≡ Ok a → a ≡ word front 8 + 65536 * word front 10
unfolding header_at
header_area front a is =
    after (wanted 0 (λ b. starts_with nat_eq b magic) (Ok front)) _ a is (λ b b_is rest.
    after (wanted 4 (λ n. n == 1) (word_at 0 front 4)) _ a rest (λ v v_is rest2.
    after (wanted 6 (λ n. n == 0) (word_at 0 front 6)) _ a rest2 (λ u u_is rest3.
    after (area_size_at front) _ a rest3 (λ s s_is rest4.
    after (wanted (12 + zeros_at front) (λ n. n == 500) (Ok (zeros_at front))) _ a rest4 (λ z z_is rest5.
    let same : s ≡ a = ok_is s a rest5 in
    let size = wanted_ok 8 is_area (cond (ltb 11 (length front)) (Ok (word front 8 + 65536 * word front 10)) (Err 8)) s s_is in
    let read = cond_ok (ltb 11 (length front)) 8 (word front 8 + 65536 * word front 10) s size.0 in
    sym (read.1 ∙ same))))))

-- a file that was found has the area size that its image names
pub area_found : (image : List ℕ) (f : File) (area : ℕ) → file_at image ≡ Ok f → word image 8 + 65536 * word image 10 ≡ area → f.area ≡ area
area_found image f area is read =
    let front = header_area (take 512 image) f.area (file_parts image f is).header in
    let low = word-front image 8 (omega arith) in
    let high = word-front image 10 (omega arith) in
    omega (arith, front, low, high, read)

-- a file that was only read keeps it
pub area_kept : {D : Type 0} (medium : Medium D) (old new : FileState D) (area : ℕ) → IsOnlyRead medium old new → old.area ≡ area → new.area ≡ area
area_kept {D} medium old new area read is = ap (λ (f : FileState D). f.area) read.same ∙ is
