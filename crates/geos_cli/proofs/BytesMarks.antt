-- Marks of blocks and groups along the calls on the bytes of a place.
use Rattle.std.proofs.Common.{◌≡◌, ◌∙◌, ◌<◌, ℕ, true, List, refl, sym, ap, arith}
use Rattle.std.specs.Prelude.{◌↔◌, not, OnOk, Result, Ok, Err}
use Rattle.geos_calls.specs.declared.call.Change.TheVariants.{Lrealloc}
use Rattle.geos_calls.specs.declared.call.Refer.TheVariants.{Deref}
use Rattle.geos_calls.specs.Calls.{deref, lrealloc}
use Rattle.geos_calls.specs.Effects.{Choice, Reference, effect_of, outcome}
use Rattle.geos_calls.specs.Given.{given_memory}
use Rattle.geos_calls.specs.ItemCalls.{ilock, irealloc}
use Rattle.geos_calls.specs.Memory.{Memory, is_marked, locks_of}
use Rattle.geos_calls.specs.Table.{Changes, ChangesItem, Ilock, Refers, Unlock, Vdirty, Vlock}
use Rattle.geos_calls.specs.VmCalls.{vdirty, vlock, vunlock}
use Rattle.geos_calls.specs.VmFile.{Kept, VmFile}
use Rattle.geos_calls.proofs.Leaves.{rows_leave}
use Rattle.geos_terms.specs.declared.refusal.Refusal.{Refusal}
use Rattle.geos_terms.specs.Names.{vm}
use Rattle.vm_file.specs.Device.{Medium}
use Rattle.geos_kernel.specs.declared.span.Span.{Span}
use Rattle.geos_kernel.specs.View.{IsFileOf, IsMarked, KernelOn}
use Rattle.geos_kernel.proofs.Seen.{file-on}
use Rattle.geos_machine.proofs.Held.{may-change}
use Rattle.geos_cli.specs.declared.bytes.Place.{Place}
use Rattle.geos_cli.specs.declared.bytes.Place.TheVariants.{Chunk, Item}
use Rattle.geos_cli.specs.Bytes.{handle_of, HasMark, Opened, Opens, Resizes}
use Rattle.geos_cli.specs.Script.{Allows, LeadsOn, Stage}
use Rattle.geos_cli.proofs.BytesWays.{listed-locked}
use Rattle.geos_cli.proofs.LentLocks.{done-parts}

-- what a call that was done leaves of a mark
module _ (choice : Choice) (old new : Memory) where
  abbrev m : Memory
  m = given_memory choice.given old

  lock-keeps : (h g : ℕ) → outcome (effect_of (vlock h) choice old) ≡ (Ok tt, new) → is_marked new g ≡ is_marked old g
  lock-keeps h g comes =
      let parts = done-parts (vlock h choice m) tt new comes in
      ap (λ (x : Memory). is_marked x g) (sym parts.1) ∙ rows_leave.marks (Vlock h) choice m tt parts.0 g ∙ rows_leave.given_marks choice.given old g

  -- a block is locked then
  lock-counts : (h : ℕ) → outcome (effect_of (vlock h) choice old) ≡ (Ok tt, new) → 0 < locks_of new (vm h)
  lock-counts h comes =
      let parts = done-parts (vlock h choice m) tt new comes in
      let counted = ap (λ (x : Memory). locks_of x (vm h)) (sym parts.1) ∙ rows_leave.counts (Vlock h) choice m tt parts.0 in
      omega (arith, counted)

  unlock-keeps : (h g : ℕ) → outcome (effect_of (vunlock h) choice old) ≡ (Ok tt, new) → is_marked new g ≡ is_marked old g
  unlock-keeps h g comes =
      let parts = done-parts (vunlock h choice m) tt new comes in
      ap (λ (x : Memory). is_marked x g) (sym parts.1) ∙ rows_leave.marks (Unlock (vm h)) choice m tt parts.0 g
      ∙ rows_leave.given_marks choice.given old g

  resize-keeps : (h c n g : ℕ) → outcome (effect_of (lrealloc (vm h) c n) choice old) ≡ (Ok tt, new) → is_marked new g ≡ is_marked old g
  resize-keeps h c n g comes =
      let parts = done-parts (lrealloc (vm h) c n choice m) tt new comes in
      ap (λ (x : Memory). is_marked x g) (sym parts.1) ∙ rows_leave.marks (Changes (vm h) (Lrealloc c n)) choice m tt parts.0 g
      ∙ rows_leave.given_marks choice.given old g

  deref-keeps : (h c n g : ℕ) (ref : Reference) → outcome (effect_of (deref (vm h) c n) choice old) ≡ (Ok ref, new)
      → is_marked new g ≡ is_marked old g
  deref-keeps h c n g ref comes =
      let parts = done-parts (deref (vm h) c n choice m) ref new comes in
      ap (λ (x : Memory). is_marked x g) (sym parts.1) ∙ rows_leave.marks (Refers (vm h) (Deref c n)) choice m tt parts.0 g
      ∙ rows_leave.given_marks choice.given old g

  item-keeps : (i n g : ℕ) (ref : Reference) → outcome (effect_of (ilock g i n) choice old) ≡ (Ok ref, new) → is_marked new g ≡ is_marked old g
  item-keeps i n g ref comes =
      let parts = done-parts (ilock g i n choice m) ref new comes in
      ap (λ (x : Memory). is_marked x g) (sym parts.1) ∙ rows_leave.marks (Ilock g i n) choice m tt parts.0 g
      ∙ rows_leave.given_marks choice.given old g

  -- a locked block is marked
  mark-sets : (h : ℕ) → 0 < locks_of old (vm h) → outcome (effect_of (vdirty h) choice old) ≡ (Ok tt, new) → is_marked new h ≡ true
  mark-sets h some comes =
      let parts = done-parts (vdirty h choice m) tt new comes in
      let listed = listed-locked m h (omega (arith, some, rows_leave.given_counts choice.given old (vm h))) in
      ap (λ (x : Memory). is_marked x h) (sym parts.1) ∙ rows_leave.marks (Vdirty h) choice m listed parts.0

  -- a group whose item was resized is
  item-marks : (g i n : ℕ) → outcome (effect_of (irealloc g i n) choice old) ≡ (Ok tt, new) → is_marked new g ≡ true
  item-marks g i n comes =
      let parts = done-parts (irealloc g i n choice m) tt new comes in
      ap (λ (x : Memory). is_marked x g) (sym parts.1) ∙ rows_leave.marks (ChangesItem g (Lrealloc i n)) choice m tt parts.0

-- after a resize, the block or group of the place is marked
resizes-mark : (allows : Allows) (place : Place) (n : ℕ) (before after : Stage) (keeps : List Kept) → Resizes allows place n before after keeps
    → is_marked after.memory (handle_of place) ≡ true
resizes-mark allows (Chunk h c) n before after keeps (resized, k1, r1, (marked, k2, r2, (locked, k3, r3, L, M, e3), R, e2), U, e1) =
    let some = lock-counts L.0 before.memory locked.memory h L.2 in
    unlock-keeps U.0 resized.memory after.memory h h U.2 ∙ resize-keeps R.0 marked.memory resized.memory h c n h R.2
    ∙ mark-sets M.0 locked.memory marked.memory h some M.2
resizes-mark allows (Item g i) n before after keeps w = item-marks w.0 before.memory after.memory g i n w.2

-- a place that is opened keeps its mark
opens-keep : (allows : Allows) (place : Place) (n : ℕ) (ref : Reference) (before after : Stage) (keeps : List Kept)
    → Opens allows place n ref before after keeps → is_marked after.memory (handle_of place) ≡ is_marked before.memory (handle_of place)
opens-keep allows (Chunk h c) n ref before after keeps (locked, k, r, L, F, e) =
    deref-keeps F.0 locked.memory after.memory h c n h ref F.2 ∙ lock-keeps L.0 before.memory locked.memory h h L.2
opens-keep allows (Item g i) n ref before after keeps w = item-keeps w.0 before.memory after.memory i n g ref w.2

module _ {D : Type 0} (medium : Medium D) (old new : KernelOn D) (place : Place) where
  -- so the kernel's block is marked after a resize
  resized-mark : (n : ℕ) (f : VmFile) → IsFileOf (medium.honest old.device) old.core f → (medium.honest new.device ↔ medium.honest old.device)
      → LeadsOn medium old new (λ allows. Resizes allows place n) → HasMark medium new (handle_of place)
  resized-mark n f tied alike leads =
      let l = leads f tied in (
        l.file,
        file-on (medium.honest old.device) (medium.honest new.device) alike.0 new.core l.file l.tied,
        resizes-mark _ place n _ _ _ l.does,
      )

  -- the same where it is resized
  pub mark-behind : (n : ℕ) (r : Result (Unit {0}) Refusal) (f : VmFile) → IsFileOf (medium.honest old.device) old.core f
      → OnOk r (medium.honest new.device ↔ medium.honest old.device) → OnOk r (LeadsOn medium old new (λ allows. Resizes allows place n))
      → OnOk r (HasMark medium new (handle_of place))
  mark-behind n (Ok done) f tied alike leads = resized-mark n f tied alike leads
  mark-behind n (Err why) f tied alike leads = tt

  -- and is marked where it is opened
  pub opened-mark : (n : ℕ) (span : Span) → Opened medium place n old new span → HasMark medium old (handle_of place)
      → IsMarked new.core (handle_of place)
  opened-mark n span o (f, tied, marked) =
      let l = o.leads f tied in
      may-change (medium.honest old.device) new.core l.file l.tied (vm (handle_of place))
      (ap not (opens-keep _ place n o.ref _ _ _ l.does ∙ marked)) refl
