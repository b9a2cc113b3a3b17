-- What the file keeps while bytes are put, and what a stop leaves then.
use Rattle.std.proofs.Common.{◌≡◌, ◌∙◌, ◌⊎◌, ◌+◌, ℕ, max, List, [], ◌∷◌, ◌++◌, Option, Some, None, length, refl, sym, ap, subst, inl, inr, ⊎_elim}
use Rattle.std.specs.Prelude.{Result, Ok, Err, IsErrAnd}
use Rattle.geos_terms.specs.declared.refusal.Refusal.{Refusal}
use Rattle.geos_terms.specs.Names.{vm}
use Rattle.geos_terms.specs.Refusals.{first_refusal}
use Rattle.geos_calls.specs.declared.call.Change.TheVariants.{Lrealloc}
use Rattle.geos_calls.specs.declared.call.Refer.TheVariants.{Deref}
use Rattle.geos_calls.specs.Calls.{deref, lrealloc, store}
use Rattle.geos_calls.specs.Effects.{Call, Choice, Reference, come_to, effect_of, outcome}
use Rattle.geos_calls.specs.Given.{given_memory}
use Rattle.geos_calls.specs.ItemCalls.{ilock, irealloc}
use Rattle.geos_calls.specs.Leaving.{keeper_of}
use Rattle.geos_calls.specs.Memory.{Memory}
use Rattle.geos_calls.specs.Table as table
use Rattle.geos_calls.specs.VmCalls.{vdirty, vlock, vunlock}
use Rattle.geos_calls.specs.VmFile.{Kept, VmFile}
use Rattle.geos_calls.proofs.Leaves.{rows_leave}
use Rattle.vm_blocks.specs.Found.{OpensAsKept}
use Rattle.vm_file.specs.Device.{Medium}
use Rattle.geos_kernel.specs.Files.{Stops}
use Rattle.geos_kernel.specs.View.{KernelOn, IsFileOf}
use Rattle.geos_kernel.proofs.Seen.{file-on}
use Rattle.geos_semantics.specs.Lists.{Each}
use Rattle.geos_machine.specs.Runs.{OpensAsOneOf, Throughout}
use Rattle.geos_machine.proofs.Stops.{stops-on}
use Rattle.granted_runs.proofs.Runs.{each-as, opens-kept, throughout-more}
use Rattle.geos_cli.specs.declared.bytes.Place.{Place}
use Rattle.geos_cli.specs.declared.bytes.Place.TheVariants.{Chunk, Item}
use Rattle.geos_cli.specs.Bytes.{handle_of, Closes, Measures, NotOpened, NotPut, NotResized, NotStored, Opens, Puts, Resizes, Stores, Writes}
use Rattle.geos_cli.specs.Script.{Allows, Comes, LeadsOn, LocksOne, MarksOne, NotLocked, Stage, Stays, Then, UnlocksOne, Way}

-- what the file keeps is the same at the end, and all the time
abbrev IsSame : Stage → Stage → List Kept → Type 0
IsSame before after keeps =
    (after.memory.file.kept ≡ before.memory.file.kept) × Each (λ (kept : Kept). kept ≡ before.memory.file.kept) keeps

-- so it is along a way
abbrev pub KeepsSame : Way → Type 0
KeepsSame way = (before after : Stage) (keeps : List Kept) → way before after keeps → IsSame before after keeps

each-append : {X : Type 0} (P : X → Type 0) (xs ys : List X) → Each P xs → Each P ys → Each P (xs ++ ys)
each-append P [] ys first second = second
each-append P (x ∷ xs) ys first second = (first.0, each-append P xs ys first.1 second)

then-same : (first second : Way) → KeepsSame first → KeepsSame second → KeepsSame (Then first second)
then-same first second one two before after keeps (between, own, rest, a, b, e) =
    let x = one before between own a in
    let y = two between after rest b in
    let others = each-as (λ (kept : Kept). kept ≡ between.memory.file.kept) (λ (kept : Kept). kept ≡ before.memory.file.kept)
    (λ kept same. same ∙ x.0) rest y.1 in (
      y.0 ∙ x.0,
      subst (Each (λ (kept : Kept). kept ≡ before.memory.file.kept)) (sym e)
          (each-append (λ (kept : Kept). kept ≡ before.memory.file.kept) own rest x.1 others),
    )

stays-same : KeepsSame Stays
stays-same before after keeps (same, e) = (
  ap (λ (s : Stage). s.memory.file.kept) same,
  subst (Each (λ (kept : Kept). kept ≡ before.memory.file.kept)) (sym e) (refl, tt),
)

-- a call comes to the same memory without its answer
unanswered-same : {A : Type 0} (o : Option Refusal) (left : Refusal → Memory) (x : A) (after : Memory)
    → (come_to o left x after).1 ≡ (come_to {A = Unit {0}} o left tt after).1
unanswered-same None left x after = refl
unanswered-same (Some why) left x after = refl

told : {A : Type 0} (row : Call A) (choice : Choice) (m : Memory) → (outcome (row choice m)).1 ≡ (outcome (table.unanswered row choice m)).1
told row choice m =
    let e = row choice m in
    unanswered-same (first_refusal e.refusals) e.left e.answer e.after

module _ (allows : Allows) where
  -- a call of the table that is no commit
  comes-same : {A : Type 0} (row : Call A) (result : Result A Refusal) (call : table.KernelCall) → keeper_of call ≡ None
      → ((choice : Choice) (m : Memory) → (outcome (row choice m)).1 ≡ (outcome (table.row call choice m)).1)
      → KeepsSame (Comes allows row result)
  comes-same {A} row result call none is before after keeps (choice, allowed, comes, e) =
      let m = given_memory choice.given before.memory in
      let same = ap (λ (p : Result A Refusal × Memory). p.1.file.kept) (sym comes) ∙ ap (λ (x : Memory). x.file.kept) (is choice m)
      ∙ (rows_leave.file call choice m).kept none in
      (same, subst (Each (λ (kept : Kept). kept ≡ before.memory.file.kept)) (sym e) (refl, (same, tt)))

  lock-same : (h : ℕ) (result : Result (Unit {0}) Refusal) → KeepsSame (Comes allows (vlock h) result)
  lock-same h result = comes-same (vlock h) result (table.Vlock h) refl (λ choice m. refl)

  unlock-same : (h : ℕ) → KeepsSame (UnlocksOne allows h)
  unlock-same h = comes-same (vunlock h) (Ok tt) (table.Unlock (vm h)) refl (λ choice m. refl)

  mark-same : (h : ℕ) → KeepsSame (MarksOne allows h)
  mark-same h = comes-same (vdirty h) (Ok tt) (table.Vdirty h) refl (λ choice m. refl)

  change-same : (h c n : ℕ) (result : Result (Unit {0}) Refusal) → KeepsSame (Comes allows (lrealloc (vm h) c n) result)
  change-same h c n result = comes-same (lrealloc (vm h) c n) result (table.Changes (vm h) (Lrealloc c n)) refl (λ choice m. refl)

  item-same : (g i n : ℕ) (result : Result (Unit {0}) Refusal) → KeepsSame (Comes allows (irealloc g i n) result)
  item-same g i n result = comes-same (irealloc g i n) result (table.ChangesItem g (Lrealloc i n)) refl (λ choice m. refl)

  deref-same : (h c n : ℕ) (result : Result Reference Refusal) → KeepsSame (Comes allows (deref (vm h) c n) result)
  deref-same h c n result = comes-same (deref (vm h) c n) result (table.Refers (vm h) (Deref c n)) refl (told (deref (vm h) c n))

  ilock-same : (g i n : ℕ) (result : Result Reference Refusal) → KeepsSame (Comes allows (ilock g i n) result)
  ilock-same g i n result = comes-same (ilock g i n) result (table.Ilock g i n) refl (told (ilock g i n))

  store-same : (ref : Reference) (at : ℕ) (bytes : List ℕ) → KeepsSame (Comes allows (store ref at bytes) (Ok tt))
  store-same ref at bytes = comes-same (store ref at bytes) (Ok tt) (table.Store ref at bytes) refl (λ choice m. refl)

  opens-same : (place : Place) (n : ℕ) (ref : Reference) → KeepsSame (Opens allows place n ref)
  opens-same (Chunk h c) n ref = then-same (LocksOne allows h) (Comes allows (deref (vm h) c n) (Ok ref)) (lock-same h (Ok tt)) (deref-same h c n (Ok ref))
  opens-same (Item g i) n ref = ilock-same g i n (Ok ref)

  not-opened-same : (place : Place) (n : ℕ) (why : Refusal) → KeepsSame (NotOpened allows place n why)
  not-opened-same (Chunk h c) n why before after keeps (inl w) = lock-same h (Err why) before after keeps w
  not-opened-same (Chunk h c) n why before after keeps (inr w) =
      then-same (Then (LocksOne allows h) (Comes allows (deref (vm h) c n) (Err why))) (UnlocksOne allows h)
      (then-same (LocksOne allows h) (Comes allows (deref (vm h) c n) (Err why)) (lock-same h (Ok tt)) (deref-same h c n (Err why)))
      (unlock-same h) before after keeps w
  not-opened-same (Item g i) n why before after keeps w = ilock-same g i n (Err why) before after keeps w

  measures-same : (place : Place) (n : ℕ) → KeepsSame (Measures allows place n)
  measures-same place n before after keeps (ref, long, w) =
      then-same (Opens allows place 0 ref) (Closes allows place) (opens-same place 0 ref) (unlock-same (handle_of place)) before after keeps w

  -- a locked and marked block is resized
  chunk-same : (h c n : ℕ) (result : Result (Unit {0}) Refusal)
      → KeepsSame (Then (Then (Then (LocksOne allows h) (MarksOne allows h)) (Comes allows (lrealloc (vm h) c n) result)) (UnlocksOne allows h))
  chunk-same h c n result =
      then-same (Then (Then (LocksOne allows h) (MarksOne allows h)) (Comes allows (lrealloc (vm h) c n) result)) (UnlocksOne allows h)
      (then-same (Then (LocksOne allows h) (MarksOne allows h)) (Comes allows (lrealloc (vm h) c n) result)
      (then-same (LocksOne allows h) (MarksOne allows h) (lock-same h (Ok tt)) (mark-same h)) (change-same h c n result)) (unlock-same h)

  resizes-same : (place : Place) (n : ℕ) → KeepsSame (Resizes allows place n)
  resizes-same (Chunk h c) n = chunk-same h c n (Ok tt)
  resizes-same (Item g i) n = item-same g i n (Ok tt)

  not-resized-same : (place : Place) (n : ℕ) (why : Refusal) → KeepsSame (NotResized allows place n why)
  not-resized-same (Chunk h c) n why before after keeps (inl w) = lock-same h (Err why) before after keeps w
  not-resized-same (Chunk h c) n why before after keeps (inr w) = chunk-same h c n (Err why) before after keeps w
  not-resized-same (Item g i) n why before after keeps w = item-same g i n (Err why) before after keeps w

  writes-same : (place : Place) (at : ℕ) (bytes : List ℕ) → KeepsSame (Writes allows place at bytes)
  writes-same place at bytes before after keeps (ref, w) =
      let opening : Way = Opens allows place (at + length bytes) ref in
      let stored : Way = Comes allows (store ref at bytes) (Ok tt) in
      then-same (Then opening stored) (Closes allows place)
      (then-same opening stored (opens-same place (at + length bytes) ref) (store-same ref at bytes)) (unlock-same (handle_of place)) before after keeps w

  stores-same : (place : Place) (at least : ℕ) (bytes : List ℕ) → KeepsSame (Stores allows place at least bytes)
  stores-same place at least bytes =
      let n = max (at + length bytes) least in
      then-same (Resizes allows place n) (Writes allows place at bytes) (resizes-same place n) (writes-same place at bytes)

  not-stored-same : (place : Place) (at least : ℕ) (bytes : List ℕ) (why : Refusal) → KeepsSame (NotStored allows place at least bytes why)
  not-stored-same place at least bytes why before after keeps (inl w) = stays-same before after keeps w.1
  not-stored-same place at least bytes why before after keeps (inr (inl w)) =
      not-resized-same place (max (at + length bytes) least) why before after keeps w
  not-stored-same place at least bytes why before after keeps (inr (inr w)) =
      let n = max (at + length bytes) least in
      then-same (Resizes allows place n) (NotOpened allows place (at + length bytes) why) (resizes-same place n)
      (not-opened-same place (at + length bytes) why) before after keeps w

  pub puts-same : (place : Place) (at : Option ℕ) (bytes : List ℕ) → KeepsSame (Puts allows place at bytes)
  puts-same place None bytes before after keeps w = stores-same place 0 0 bytes before after keeps w
  puts-same place (Some at) bytes before after keeps (n, w) =
      then-same (Measures allows place n) (Stores allows place at n bytes) (measures-same place n) (stores-same place at n bytes) before after keeps w

  pub not-put-same : (place : Place) (at : Option ℕ) (bytes : List ℕ) (why : Refusal) → KeepsSame (NotPut allows place at bytes why)
  not-put-same place None bytes why before after keeps w = not-stored-same place 0 0 bytes why before after keeps w
  not-put-same place (Some at) bytes why before after keeps (inl w) = not-opened-same place 0 why before after keeps w
  not-put-same place (Some at) bytes why before after keeps (inr (n, w)) =
      then-same (Measures allows place n) (NotStored allows place at n bytes why) (measures-same place n) (not-stored-same place at n bytes why)
      before after keeps w

-- a stop leaves the file as before or as after
abbrev pub StopsEither : {D : Type 0} → Medium D → KernelOn D → KernelOn D → Type 0
StopsEither medium old new = (f g : VmFile) → IsFileOf (medium.honest old.device) old.core f → IsFileOf (medium.honest old.device) new.core g
    → medium.honest old.device → Throughout medium old.device new.device (OpensAsOneOf (f.kept ∷ g.kept ∷ []))

module _ {D : Type 0} (medium : Medium D) (old mid : KernelOn D) (way : Allows → Way) (same : (allows : Allows) → KeepsSame (way allows))
    (leads : LeadsOn medium old mid way) where
  -- if the commit writes no new pair, the file has the committed pair of before
  as-before : (f : VmFile) → IsFileOf (medium.honest old.device) old.core f → medium.honest old.device
      → Throughout medium old.device mid.device (OpensAsKept f.kept)
  as-before f tied good =
      let l = leads f tied in
      throughout-more medium old.device mid.device (OpensAsOneOf l.keeps) (OpensAsKept f.kept)
      (λ c opens. opens-kept f.kept l.keeps c (same _ _ _ _ l.does).1 opens) (l.stops good)

  pub stays-either : StopsEither medium old mid
  stays-either f g tied after good =
      throughout-more medium old.device mid.device (OpensAsKept f.kept) (OpensAsOneOf (f.kept ∷ g.kept ∷ [])) (λ c opens. inl opens)
      (as-before f tied good)

  -- and after a commit that follows, the pair of before or of after
  pub then-either : (new : KernelOn D) → (medium.honest old.device → medium.honest mid.device) → Stops medium mid new → StopsEither medium old new
  then-either new lasts stops f g tied after good =
      let l = leads f tied in
      let kept = (same _ _ _ _ l.does).0 in
      stops-on medium old mid new ((λ h. good), lasts) stops good l.file g l.tied after (OpensAsKept f.kept) (OpensAsOneOf (f.kept ∷ g.kept ∷ []))
      (λ c opens. inl opens)
      (λ c either. ⊎_elim (λ was. inl (subst (λ (k : Kept). OpensAsKept k c) kept was)) (λ now. inr (inl now)) either) (as-before f tied good)

-- where bytes are not put, with the refusal that a call answers
pub refused-either : {D : Type 0} (medium : Medium D) (old mid : KernelOn D) (place : Place) (at : Option ℕ) (bytes : List ℕ) (why : Refusal)
    (result : Result (Unit {0}) Refusal)
    → IsErrAnd result (λ x. x ≡ why) → LeadsOn medium old mid (λ allows. NotPut allows place at bytes why) → StopsEither medium old mid
refused-either medium old mid place at bytes why result is leads =
    stays-either medium old mid (λ allows. NotPut allows place at bytes why) (λ allows. not-put-same allows place at bytes why) leads
