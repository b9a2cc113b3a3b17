-- A file that opens is sound.
use Rattle.std.proofs.Common.{◌≡◌, ℕ, List, Ok, Result, take, sym, subst}
use Rattle.std.specs.Prelude.{IsOkAnd, true}
use Rattle.vm_file.specs.Contents.{is_contents}
use Rattle.vm_file.specs.Reading.{File, area_of, base_of, file_at, header_at, is_second, pair_at, selector_at}
use Rattle.vm_file.proofs.ReadLaws.{after, ok_is, pair_ok}
use Rattle.file_checks.specs.Sound.{IsSound}

abbrev AreLegal : File → Type 0
AreLegal f = (is_contents f.pair.cur ≡ true) × (is_contents f.pair.saved ≡ true)

legal : (image : List ℕ) (f : File) → file_at image ≡ Ok f → AreLegal f
unfolding file_at
legal image f is =
    after (header_at (take 512 image)) _ f is (λ area area_is rest.
    after (selector_at image) _ f rest (λ selector selector_is rest2.
    after (pair_at (base_of area (is_second selector)) (area_of image area (is_second selector))) _ f rest2 (λ pair pair_is rest3.
    let read = pair_ok (base_of area (is_second selector)) (area_of image area (is_second selector)) pair pair_is in
    subst AreLegal (ok_is _ f rest3) (read.cur, read.saved))))

pub sound : (image : List ℕ) (f : File) → file_at image ≡ Ok f → IsSound image
sound image f is = (let P : Result File ℕ → Type 0 = λ r. IsOkAnd r AreLegal in subst P (sym is) (legal image f is))
