-- What a commit writes, and what a stop during it may leave.
use Rattle.std.specs.Prelude.{◌≡◌, ◌⊎◌, ℕ, ◌+◌, ◌<◌, ◌≤◌, ◌↔◌, Bool, true, false, not, List, [], ◌∷◌, length, map, Option, Some, None, Result, Err, unwrap_or, All, MatchBool, MatchOption, MatchResult, IfErr, IfSome, IsSome, OnOk}
use Rattle.std.specs.Borrow.{Bor}
use Rattle.std.specs.List.{Contains}
use Rattle.lmem_raw.specs.Bytes.{part, with_part}
use Rattle.geos_terms.specs.Block.{handle_word}
use Rattle.geos_terms.specs.Heap.{IsHeap}
use Rattle.vm_file.specs.declared.commit.How.{How}
use Rattle.vm_file.specs.declared.commit.How.TheVariants.{Update, Save, Revert}
use Rattle.vm_file.specs.declared.directory.Entry.{Entry}
use Rattle.vm_file.specs.declared.directory.Directory.{Directory}
use Rattle.vm_file.specs.declared.spell.Placed.{Placed}
use Rattle.vm_file.specs.Contents.{Block, Contents, Pair, listed, is_contents, pair_spelling}
use Rattle.vm_file.specs.Device.{AfterWrite, FailedOnce, Medium, Passes, Rose, Touched}
use Rattle.vm_file.specs.Directories.{is_directory, directory_length}
use Rattle.vm_file.specs.Kept.{Kept, SureOf, UnsureBetween, kept_of}
use Rattle.vm_file.specs.Outcomes.{FindsNoBlock}
use Rattle.vm_file.specs.Reading.{base_of}
use Rattle.vm_file.specs.Spelling.{selector_of}
use Rattle.vm_file.specs.declared.error.CommitError.{CommitError}
use Rattle.vm_file.specs.declared.error.CommitError.TheVariants.{Unsure, TooBig, Memory, Disk}
use Rattle.vm_file.specs.State.{FileState, Finds, HasBlock, IsOther, Steadily, bytes_of_block, pair_of, place_in}

-- a source shows the bytes that are resident under a handle, or that none are there
abbrev pub Shows : Option (Bor (List ℕ)) → Option (List ℕ) → Type 0
Shows (Some shown) (Some bytes) = shown.now ≡ bytes
Shows None None = Unit {0}
Shows shown resident = ⊥

-- the block of an entry: its resident bytes if there are any, otherwise the bytes in the committed blocks
abbrev pub block_from : (ℕ → Option (List ℕ)) → List Block → Entry → Block
block_from resident kept e = record { h = e.h; uid = e.uid; bytes = unwrap_or (resident e.h) (bytes_of_block kept e.h) }

-- a directory with the bytes of its blocks
abbrev pub contents_from : (ℕ → Option (List ℕ)) → List Block → Directory → Contents
contents_from resident kept d = record { blocks = map (block_from resident kept) d.entries.items; map_block = d.map_block; map_item = d.map_item }

-- the block of an entry is available: resident as a heap with
-- the listed length and handle, or committed with that length
abbrev pub IsThere : (ℕ → Option (List ℕ)) → Directory → Entry → Type 0
IsThere resident kept e = MatchOption (resident e.h)
    (HasBlock kept e.h e.len)
    (λ bytes. IsHeap bytes × (handle_word bytes ≡ e.h) × (length bytes ≡ e.len))

-- a directory that may be committed: it is legal, and each of its blocks is available
pub record MayCommit (resident : ℕ → Option (List ℕ)) (kept cur : Directory) : Type 0 where
  pub legal : is_directory cur ≡ true
  pub there : All (IsThere resident kept) cur.entries.items

-- what is current after a commit: what was given, or what was saved if the commit reverts
abbrev pub current_after : {X : Type 0} → How → X → X → X
current_after Update cur saved = cur
current_after Save cur saved = cur
current_after Revert cur saved = saved

-- what is saved after a commit: what was given if the commit saves, otherwise what was saved before
abbrev pub saved_after : {X : Type 0} → How → X → X → X
saved_after Update cur saved = saved
saved_after Save cur saved = cur
saved_after Revert cur saved = saved

-- the committed pair after a commit of these contents
abbrev pub pair_after : How → Contents → Pair → Pair
pair_after how cur before = record { cur = current_after how cur before.saved; saved = saved_after how cur before.saved }

-- the committed pair of a file after a commit of this directory with these resident blocks
abbrev pub kept_after : {D : Type 0} → (D → List ℕ) → (ℕ → Option (List ℕ)) → How → Directory → FileState D → Pair
kept_after image resident how cur f = pair_after how (contents_from resident (pair_of image f).cur.blocks cur) (pair_of image f)

-- the length of the pair after a commit
abbrev pub length_after : How → Directory → Directory → ℕ
length_after how cur saved = directory_length (current_after how cur saved) + directory_length (saved_after how cur saved)

-- the image after a commit of these bytes: the bytes begin the
-- other area, the selector names that area, the rest is unchanged
abbrev pub image_after : {D : Type 0} → (D → List ℕ) → List ℕ → FileState D → List ℕ
image_after image bytes f = with_part (with_part (image f.device) (base_of f.area (not f.second)) bytes) 512 (selector_of (not f.second) ∷ [])

-- an image that a failed commit may leave: the other area may differ and, if the file is now unsure, the selector too
abbrev pub MayHaveWritten : {D : Type 0} → (D → List ℕ) → FileState D → Bool → List ℕ → Type 0
MayHaveWritten image f sure c = MatchBool sure
    (Touched (base_of f.area (not f.second)) f.area (image f.device) c)
    (AfterWrite 512 1 (AfterWrite (base_of f.area (not f.second)) f.area (λ d. d ≡ image f.device)) c)

-- the blocks of these entries are resident
abbrev pub AreResident : (ℕ → Option (List ℕ)) → List Entry → Type 0
AreResident resident entries = All (λ e. IsSome (resident e.h)) entries

-- a commit reads no block: the blocks of the given directory are resident, and a saved directory that stays is empty
abbrev pub NeedsNoRead : (ℕ → Option (List ℕ)) → How → Directory → Directory → Type 0
NeedsNoRead resident Update cur saved = AreResident resident cur.entries.items × (saved.entries.items ≡ [])
NeedsNoRead resident Save cur saved = AreResident resident cur.entries.items
NeedsNoRead resident Revert cur saved = saved.entries.items ≡ []

-- a file after a failed commit: after a device error it may be unsure; otherwise it is unchanged
abbrev pub IsAfter : {D : Type 0} → CommitError → FileState D → FileState D → Type 0
IsAfter Unsure old new = new ≡ old
IsAfter TooBig old new = new ≡ old
IsAfter Memory old new = new ≡ old
IsAfter Disk old new = new ≡ record old { device = new.device; sure = new.sure }

-- what a file is sure of after a failed commit: as before, or after a
-- device error possibly unsure between the old pair and the new one
abbrev pub KeepsAfter : CommitError → Pair → Kept → Kept → Type 0
KeepsAfter Unsure after old new = new ≡ old
KeepsAfter TooBig after old new = new ≡ old
KeepsAfter Memory after old new = new ≡ old
KeepsAfter Disk after old new = (new ≡ old) ⊎ ((pair : Pair) × (old ≡ SureOf pair) × (new ≡ UnsureBetween pair after))

-- an entry of the current or the saved directory after a commit
abbrev pub IsKept : How → Directory → Directory → Entry → Type 0
IsKept how cur saved e = Contains (current_after how cur saved).entries.items e ⊎ Contains (saved_after how cur saved).entries.items e

-- `open` finds what the file had committed before, or what it has committed now
abbrev pub FindsEither : {D : Type 0} → (D → List ℕ) → FileState D → FileState D → List ℕ → Type 0
FindsEither image old new c = Finds image old c ⊎ Finds image new c

-- a file after a commit of this directory with these resident blocks
pub record CommitsFile {D : Type 0} (medium : Medium D)
    (how : How) (resident : ℕ → Option (List ℕ)) (cur : Directory) (old new : FileState D) (result : Result (Unit {0}) CommitError) : Type 0 where
  pub unsure : (result ≡ Err Unsure) ↔ (old.sure ≡ false)
  pub too_big : (result ≡ Err TooBig) ↔ (old.sure ≡ true) × (old.area < length_after how cur old.saved)
  pub done : OnOk result (new ≡ record {
    device = new.device;
    area = old.area;
    second = not old.second;
    sure = true;
    current = current_after how cur old.saved;
    saved = saved_after how cur old.saved;
  })
  pub refused : IfErr result (λ e. IsAfter e old new)
  pub pair : medium.honest old.device → MatchResult result (λ _. pair_of medium.image new ≡ kept_after medium.image resident how cur old)
      (λ _. pair_of medium.image new ≡ pair_of medium.image old)
  -- Ok: the new pair is committed. Error: the committed pair is unchanged,
  -- or after a device error the file may be unsure between the two
  pub kept : medium.honest old.device → MatchResult result
      (λ _. kept_of medium.image new ≡ SureOf (kept_after medium.image resident how cur old))
      (λ e. KeepsAfter e (kept_after medium.image resident how cur old) (kept_of medium.image old) (kept_of medium.image new))
  -- Ok: the image differs only in the other area, which begins with the pair's bytes, and in the selector
  pub bytes : medium.honest old.device
      → OnOk result (medium.image new.device ≡ image_after medium.image (pair_spelling (kept_after medium.image resident how cur old)) old)
  -- after a device error the image differs only in that area and, if the file became unsure, in the selector
  pub torn : medium.honest old.device → result ≡ Err Disk → MayHaveWritten medium.image old new.sure (medium.image new.device)
  -- if the file became unsure, the other area contains the new pair
  pub other : medium.honest old.device → old.sure ≡ true → new.sure ≡ false → IsOther medium.image new (kept_after medium.image resident how cur old)
  -- after a stop at any moment of the call, `open` finds what was committed before it or what
  -- is committed after it. A failed commit can leave the new pair only if the file is unsure.
  pub stopped : medium.honest old.device → (c : List ℕ) → medium.may_have_left old.device new.device c → FindsEither medium.image old new c
  -- the same holds for each intermediate state and what a stop may leave there
  pub either : medium.honest old.device → Passes medium.may_have_left old.device new.device (FindsEither medium.image old new)
  -- after a stop that follows the call, `open` finds what is committed then
  pub stop : medium.honest old.device → (c : List ℕ) → medium.may_leave new.device c → Finds medium.image new c
  pub stays : medium.honest old.device → medium.honest new.device
  pub was : medium.honest new.device → medium.honest old.device
  pub ok : OnOk result (medium.failed new.device ≡ medium.failed old.device)
  -- at most one call of the device failed
  pub once : FailedOnce (medium.failed old.device) (medium.failed new.device)
  pub cause : medium.honest old.device → result ≡ Err Disk → Rose (medium.failed old.device) (medium.failed new.device)
  -- on any device: a call of the device failed, or the last read returned bytes that are no block of the pair to commit
  pub no_block : result ≡ Err Disk → Rose (medium.failed old.device) (medium.failed new.device) ⊎ FindsNoBlock medium
      (IsKept how cur old.saved) old.device new.device
  pub no_read : NeedsNoRead resident how cur old.saved → result ≡ Err Disk → Rose (medium.failed old.device) (medium.failed new.device)
  -- if no call within the device's length fails, and the device has room for the file, then no call failed
  pub steadily : Steadily medium old new

-- the block of an entry: its resident bytes, otherwise the bytes
-- at its place among these entries, which begin at this offset
abbrev pub block_read : (ℕ → Option (List ℕ)) → List ℕ → ℕ → List Entry → Entry → Block
block_read resident image at kept e = record { h = e.h; uid = e.uid; bytes = unwrap_or (resident e.h) (part image (at + place_in kept e.h) e.len) }

-- if the block is not resident, its place among these entries, which begin at an offset, lies within the image
abbrev pub IsWithin : (ℕ → Option (List ℕ)) → List ℕ → Placed → Entry → Type 0
IsWithin resident image kept e = MatchOption (resident e.h)
    (kept.from + place_in kept.directory.now.entries.items e.h + e.len ≤ length image)
    (λ bytes. Unit {0})

-- a directory with the bytes of these blocks
abbrev pub contents_read : (ℕ → Option (List ℕ)) → List ℕ → ℕ → List Entry → Directory → Contents
contents_read resident image at kept d =
    record { blocks = map (block_read resident image at kept) d.entries.items; map_block = d.map_block; map_item = d.map_item }

-- the block of an entry, read at its place in a directory that lies in the image
abbrev pub placed_block : (ℕ → Option (List ℕ)) → List ℕ → Placed → Entry → Block
placed_block resident image kept e = block_read resident image kept.from kept.directory.now.entries.items e

-- a directory with the bytes of these blocks
abbrev pub placed_contents : (ℕ → Option (List ℕ)) → List ℕ → Placed → Directory → Contents
placed_contents resident image kept d = contents_read resident image kept.from kept.directory.now.entries.items d

-- a block that is resident has the length of its entry
abbrev pub HasLength : (ℕ → Option (List ℕ)) → Entry → Type 0
HasLength resident e = IfSome (resident e.h) (λ bytes. length bytes ≡ e.len)

-- legal contents, which this directory lists
pub record IsContentsOf (d : Directory) (contents : Contents) : Type 0 where
  pub legal : is_contents contents ≡ true
  pub lists : listed contents ≡ d

-- the bytes encode this legal pair, which has these directories
pub record Spells (cur saved : Directory) (pair : Pair) (bytes : List ℕ) : Type 0 where
  pub spelled : bytes ≡ pair_spelling pair
  pub cur_legal : is_contents pair.cur ≡ true
  pub saved_legal : is_contents pair.saved ≡ true
  pub cur_listed : listed pair.cur ≡ cur
  pub saved_listed : listed pair.saved ≡ saved
