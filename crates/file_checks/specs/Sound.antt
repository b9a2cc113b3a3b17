-- Which files are sound.
use Rattle.std.specs.Prelude.{◌≡◌, ℕ, true, List, IsOkAnd}
use Rattle.vm_file.specs.Contents.{is_contents}
use Rattle.vm_file.specs.Reading.{file_at}

-- an image of a file whose directories are legal, with blocks that are heaps under their handles
abbrev pub IsSound : List ℕ → Type 0
IsSound image = IsOkAnd (file_at image) (λ f. (is_contents f.pair.cur ≡ true) × (is_contents f.pair.saved ≡ true))
