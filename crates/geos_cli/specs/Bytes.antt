-- What is promised where the bytes of a chunk are read or written.
use Rattle.std.specs.Prelude.{◌≡◌, ◌⊎◌, ◌↔◌, ◌<◌, ◌≤◌, ℕ, ◌+◌, true, max, List, [], ◌∷◌, length, Option, Some, None, Result, Ok, Err}
use Rattle.vm_file.specs.Device.{Medium}
use Rattle.vm_file.specs.declared.commit.How.TheVariants.{Update}
use Rattle.vm_blocks.specs.Listed.{NoneLocked}
use Rattle.geos_terms.specs.declared.refusal.Refusal.{Refusal}
use Rattle.geos_terms.specs.declared.refusal.Refusal.TheVariants.{Locked, TooBig}
use Rattle.geos_terms.specs.Names.{vm}
use Rattle.geos_calls.specs.VmFile.{Kept, VmFile}
use Rattle.geos_calls.specs.Memory.{is_marked}
use Rattle.geos_calls.specs.Effects.{Reference}
use Rattle.geos_calls.specs.Calls.{deref, load8, lrealloc, store}
use Rattle.geos_calls.specs.ItemCalls.{ilock, irealloc}
use Rattle.geos_kernel.specs.Files.{Commits}
use Rattle.geos_kernel.specs.declared.span.Span.{Span}
use Rattle.geos_kernel.specs.Spans.{IsWritable, Stands}
use Rattle.geos_kernel.specs.View.{IsFileOf, IsMarked, KernelOn, memory_of}
use Rattle.geos_cli.specs.declared.bytes.Place.{Place}
use Rattle.geos_cli.specs.declared.bytes.Place.TheVariants.{Chunk, Item}
use Rattle.geos_cli.specs.Script.{LeadsOn}
use Rattle.geos_cli.specs.Stages.{Allows, Comes, LocksOne, MarksOne, NotLocked, Stage, Stays, Then, UnlocksOne, Way}

-- the handle of the block, or of the group, that a place lies in
abbrev pub handle_of : Place → ℕ
handle_of (Chunk h c) = h
handle_of (Item g i) = g

-- the block is locked, and this refers to all bytes of its chunk, n at least; or the group is, and this refers to its item's
abbrev pub Opens : Allows → Place → ℕ → Reference → Way
Opens allows (Chunk h c) n ref = Then (LocksOne allows h) (Comes allows (deref (vm h) c n) (Ok ref))
Opens allows (Item g i) n ref = Comes allows (ilock g i n) (Ok ref)

-- the block or the group is unlocked
abbrev pub Closes : Allows → Place → Way
Closes allows place = UnlocksOne allows (handle_of place)

-- these bytes are read, one after another, from offset i of a reference on
abbrev pub Reads : Allows → Reference → ℕ → List ℕ → Way
Reads allows ref i [] = Stays
Reads allows ref i (byte ∷ bytes) = Then (Comes allows (load8 ref i) (Ok byte)) (Reads allows ref (i + 1) bytes)

-- a place is opened, and so many bytes are all that it has; it is closed
abbrev pub Measures : Allows → Place → ℕ → Stage → Stage → List Kept → Type 0
Measures allows place n before after keeps =
    (ref : Reference) × (ref.len ≡ n) × Then (Opens allows place 0 ref) (Closes allows place) before after keeps

-- a place is opened, these are all of its bytes, and it is closed
abbrev pub Gets : Allows → Place → List ℕ → Stage → Stage → List Kept → Type 0
Gets allows place bytes before after keeps =
    (ref : Reference) × (length bytes ≡ ref.len)
    × Then (Then (Opens allows place 0 ref) (Reads allows ref 0 bytes)) (Closes allows place) before after keeps

-- a place is not opened, with this refusal: its block is not locked, or the chunk is refused, and the block is unlocked again; or the item
-- is refused, and its group is not locked
abbrev pub NotOpened : Allows → Place → ℕ → Refusal → Stage → Stage → List Kept → Type 0
NotOpened allows (Chunk h c) n why before after keeps =
    NotLocked allows h why before after keeps
    ⊎ Then (Then (LocksOne allows h) (Comes allows (deref (vm h) c n) (Err why))) (UnlocksOne allows h) before after keeps
NotOpened allows (Item g i) n why before after keeps = Comes allows (ilock g i n) (Err why) before after keeps

-- a chunk gets n bytes, and its block is marked; or an item does, which marks its group
abbrev pub Resizes : Allows → Place → ℕ → Way
Resizes allows (Chunk h c) n = Then (Then (Then (LocksOne allows h) (MarksOne allows h))
    (Comes allows (lrealloc (vm h) c n) (Ok tt))) (UnlocksOne allows h)
Resizes allows (Item g i) n = Comes allows (irealloc g i n) (Ok tt)

-- a chunk does not, with this refusal: its block is not locked, or is locked, marked and unlocked again; or an item does not
abbrev pub NotResized : Allows → Place → ℕ → Refusal → Stage → Stage → List Kept → Type 0
NotResized allows (Chunk h c) n why before after keeps =
    NotLocked allows h why before after keeps
    ⊎ Then (Then (Then (LocksOne allows h) (MarksOne allows h))
    (Comes allows (lrealloc (vm h) c n) (Err why))) (UnlocksOne allows h) before after keeps
NotResized allows (Item g i) n why before after keeps = Comes allows (irealloc g i n) (Err why) before after keeps

-- a place is opened, bytes are stored at an offset of it, and it is closed
abbrev pub Writes : Allows → Place → ℕ → List ℕ → Stage → Stage → List Kept → Type 0
Writes allows place at bytes before after keeps =
    (ref : Reference)
    × Then (Then (Opens allows place (at + length bytes) ref) (Comes allows (store ref at bytes) (Ok tt))) (Closes allows place) before after keeps

-- a place is given as many bytes as those at an offset need, or `least`, and they are written there
abbrev pub Stores : Allows → Place → ℕ → ℕ → List ℕ → Way
Stores allows place at least bytes = Then (Resizes allows place (max (at + length bytes) least)) (Writes allows place at bytes)

-- no chunk has so many bytes, and that is the refusal
abbrev pub IsTooLong : Refusal → ℕ → Type 0
IsTooLong why n = (why ≡ TooBig) × (65535 < n)

-- bytes are not stored so, with this refusal: they are too many; or the place is not resized; or it is, and is not opened then
abbrev pub NotStored : Allows → Place → ℕ → ℕ → List ℕ → Refusal → Stage → Stage → List Kept → Type 0
NotStored allows place at least bytes why before after keeps =
    (IsTooLong why (at + length bytes) × Stays before after keeps)
    ⊎ NotResized allows place (max (at + length bytes) least) why before after keeps
    ⊎ Then (Resizes allows place (max (at + length bytes) least)) (NotOpened allows place (at + length bytes) why) before after keeps

-- bytes are put in the place of all that were there; or over some, and the place is given no fewer than it had
abbrev pub Puts : Allows → Place → Option ℕ → List ℕ → Stage → Stage → List Kept → Type 0
Puts allows place None bytes before after keeps = Stores allows place 0 0 bytes before after keeps
Puts allows place (Some at) bytes before after keeps =
    (n : ℕ) × Then (Measures allows place n) (Stores allows place at n bytes) before after keeps

-- bytes are not put, with this refusal: they are not stored; or the place is not measured before, or is
abbrev pub NotPut : Allows → Place → Option ℕ → List ℕ → Refusal → Stage → Stage → List Kept → Type 0
NotPut allows place None bytes why before after keeps = NotStored allows place 0 0 bytes why before after keeps
NotPut allows place (Some at) bytes why before after keeps =
    NotOpened allows place 0 why before after keeps
    ⊎ ((n : ℕ) × Then (Measures allows place n) (NotStored allows place at n bytes why) before after keeps)

-- nothing was written to a device: reads give the same, and a stop leaves nothing else
pub record IsUnwritten {D : Type 0} (medium : Medium D) (old new : D) : Type 0 where
  pub same : medium.image new ≡ medium.image old
  pub stays : medium.honest old → medium.honest new
  pub stop : medium.honest old → (c : List ℕ) → medium.may_leave new c → medium.may_leave old c

-- a place was opened, from kernel to kernel: where its bytes lie, n at least, and that they may be written once it is marked
pub record Opened {D : Type 0} (medium : Medium D) (place : Place) (n : ℕ) (old new : KernelOn D) (span : Span) : Type 0 where
  pub ref : Reference
  pub leads : LeadsOn medium old new (λ allows. Opens allows place n ref)
  pub stands : Stands new.core span ref
  pub inside : ref.name ≡ vm (handle_of place)
  pub long : n ≤ span.len
  pub writable : IsMarked new.core (handle_of place) → IsWritable new.core span
  pub alike : medium.honest new.device ↔ medium.honest old.device

-- a block is marked, beside a VM file that the model may know
abbrev pub HasMark : {D : Type 0} → Medium D → KernelOn D → ℕ → Type 0
HasMark medium kernel h =
    (f : VmFile) × IsFileOf (medium.honest kernel.device) kernel.core f × (is_marked (memory_of kernel.core f) h ≡ true)

-- bytes were put, and an update came to this
abbrev pub PutsAndUpdates : {D : Type 0} → Medium D → Place → Option ℕ → List ℕ → KernelOn D → KernelOn D → Result (Unit {0}) Refusal → Type 0
PutsAndUpdates {D} medium place at bytes old new result =
    (between : KernelOn D) × LeadsOn medium old between (λ allows. Puts allows place at bytes) × IsUnwritten medium old.device between.device
    × Commits medium Update between new result

-- it did not come to an update, with this refusal: bytes were not put; or they were, and a block of the file is locked
abbrev pub EndsBefore : {D : Type 0} → Medium D → Place → Option ℕ → List ℕ → KernelOn D → KernelOn D → Refusal → Type 0
EndsBefore medium place at bytes old new why =
    LeadsOn medium old new (λ allows. NotPut allows place at bytes why)
    ⊎ ((why ≡ Locked) × (NoneLocked new.core.blocks → ⊥) × LeadsOn medium old new (λ allows. Puts allows place at bytes))

-- so it ended; or a step before the update was refused, and nothing was written
abbrev pub EndsWithUpdate : {D : Type 0} → Medium D → Place → Option ℕ → List ℕ → KernelOn D → KernelOn D → Result (Unit {0}) Refusal → Type 0
EndsWithUpdate medium place at bytes old new (Ok done) = PutsAndUpdates medium place at bytes old new (Ok done)
EndsWithUpdate medium place at bytes old new (Err refusal) =
    (IsUnwritten medium old.device new.device × EndsBefore medium place at bytes old new refusal)
    ⊎ PutsAndUpdates medium place at bytes old new (Err refusal)
