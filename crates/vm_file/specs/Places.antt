-- Offsets of the blocks of a directory, in a table by handles.
use Rattle.std.specs.Prelude.{◌≡◌, ℕ, ◌≤◌, List, length, slice_index}
use Rattle.vm_file.specs.declared.directory.Entry.{Entry}
use Rattle.vm_file.specs.State.{place_in}

-- for each handle, the offset of its block's bytes, counted from the first entry
pub record ArePlaces (entries : List Entry) (places : List ℕ) : Type 0 where
  pub long : length places ≡ 1025
  pub each : (h : ℕ) → h ≤ 1024 → slice_index places h ≡ place_in entries h
