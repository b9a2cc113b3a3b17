-- What is cut from the bytes of an area is what is listed.
use Rattle.std.proofs.Common.{◌≡◌, ◌∙◌, ℕ, ◌+◌, ◌≤◌, List, [], ◌∷◌, length, drop, map, refl, ap, arith, length-drop, length-take}
use Rattle.lmem_raw.specs.Bytes.{part}
use Rattle.vm_file.specs.Device.{Medium}
use Rattle.vm_file.specs.declared.directory.Directory.{Directory}
use Rattle.vm_file.specs.declared.directory.Entry.{Entry}
use Rattle.vm_file.specs.Contents.{blocks_in, contents_in, entry_of, listed}
use Rattle.vm_file.specs.Directories.{directory_length, entries_length}
use Rattle.vm_file.specs.Reading.{area_of, base_of}
use Rattle.vm_file.specs.State.{FileState, IsSound, pair_of}

pub entries_in : (entries : List Entry) (bytes : List ℕ) → entries_length entries ≤ length bytes → map entry_of (blocks_in entries bytes) ≡ entries
entries_in [] bytes fits = refl
entries_in (e ∷ entries) bytes fits =
    let sum : entries_length (e ∷ entries) ≡ (6 + e.len) + entries_length entries = refl in
    let rest = drop (6 + e.len) bytes in
    let behind : entries_length entries ≤ length rest = omega (arith, sum, fits, length-drop (6 + e.len) bytes) in
    let long : length (part bytes 6 e.len) ≡ e.len = length-take e.len (drop 6 bytes) ∙ omega (arith, sum, fits, length-drop 6 bytes) in
    ap (λ n. let x : Entry = record { h = e.h; uid = e.uid; len = n } in x ∷ map entry_of (blocks_in entries rest)) long
    ∙ ap (λ es. e ∷ es) (entries_in entries rest behind)

pub listed_in : (d : Directory) (bytes : List ℕ) → directory_length d ≤ length bytes → listed (contents_in d bytes) ≡ d
listed_in d bytes fits =
    ap (λ es. let x : Directory = record { entries = record { items = es }; map_block = d.map_block; map_item = d.map_item } in x)
    (entries_in d.entries.items (drop 2 bytes) (omega (arith, fits, length-drop 2 bytes)))

-- a file lists the pair that it keeps, on any device
pub pair_listed : {D : Type 0} (medium : Medium D) (f : FileState D) → IsSound medium f →
    (listed (pair_of medium.image f).cur ≡ f.current) × (listed (pair_of medium.image f).saved ≡ f.saved)
pair_listed medium f sound =
    let bytes = area_of (medium.image f.device) f.area f.second in
    let n = directory_length f.current in
    let fits = sound.fits in
    let within = sound.within in
    let long = length-take f.area (drop (base_of f.area f.second) (medium.image f.device)) in
    let enough : n + directory_length f.saved ≤ length bytes =
    omega (arith, long, fits, within, length-drop (base_of f.area f.second) (medium.image f.device)) in
    (listed_in f.current bytes (omega (arith, enough)), listed_in f.saved (drop n bytes) (omega (arith, enough, length-drop n bytes)))
