-- Calls on the chunks of a group, put together: it is brought, its chunks change, it is marked.
use Rattle.std.proofs.Common.{◌≡◌, ◌≢◌, ◌∙◌, ℕ, List, Option, Some, None, Bool, true, false, refl, sym, ap, inl, inr, subst}
use Rattle.std.specs.Prelude.{◌⊎◌, IfSome, IsSomeAnd, Result, Ok, Err, option_map}
use Rattle.std.proofs.lemmas.Bool.{cases_eq}
use Rattle.geos_terms.specs.Block.{chunks}
use Rattle.geos_terms.specs.Chunks.{need}
use Rattle.geos_terms.specs.Edits.{Edit}
use Rattle.geos_terms.specs.Names.{vm, group_uid}
use Rattle.geos_terms.specs.Refusals.{first_refusal}
use Rattle.geos_terms.specs.declared.refusal.Refusal.{Refusal}
use Rattle.geos_terms.specs.declared.refusal.Refusal.TheVariants as refusal
use Rattle.geos_calls.specs.Effects.{Call}
use Rattle.geos_calls.specs.ItemCalls.{on_group}
use Rattle.geos_calls.specs.Memory.{Memory, with_mark}
use Rattle.block_handles.specs.Names.{IsHandle}
use Rattle.block_handles.specs.Store.{Block, Store, IsBlock, IsThere, block_at, bytes_in, bytes_of, locks_in, locks_of}
use Rattle.block_handles.specs.Stretch.{HasNoRoom}
use Rattle.block_handles.proofs.Laws.{handle_of_there}
use Rattle.vm_file.specs.Device.{Medium}
use Rattle.vm_file.specs.Outcomes.{ReadsOnly}
use Rattle.vm_file.specs.State.{FileState, Steadily, pair_of}
use Rattle.vm_blocks.specs.declared.entries.Held.{Held}
use Rattle.vm_blocks.specs.Blocks.{marked}
use Rattle.vm_blocks.specs.Bring.{NotBrought}
use Rattle.vm_blocks.specs.Bringing.{ReadsDevice}
use Rattle.vm_blocks.specs.DoesRow.{DoesRow, DoesRowAlone}
use Rattle.vm_blocks.specs.FileOf.{IsMemoryOf}
use Rattle.vm_blocks.specs.Keeping.{IsChanged}
use Rattle.vm_blocks.specs.Room.{LacksRoom, NoneIdle, RemainOrNoRoom}
use Rattle.vm_blocks.specs.Tied.{IsTied}
use Rattle.vm_blocks.specs.View.{VmState, held_at, vm_slot, with_device, with_held}
use Rattle.vm_blocks.proofs.Bringing.{reads-as}
use Rattle.vm_blocks.proofs.Marking.{stays-changed}
use Rattle.vm_blocks.proofs.Thinning.{tied-thins}
use Rattle.vm_blocks.proofs.Wanting.{discards-remain, remain-more, same-remain}
use Rattle.chunk_calls.specs.Edits.{Carries, DiscardsAndEdits}
use Rattle.chunk_calls.specs.Heaps as heaps
use Rattle.chunk_calls.specs.Others.{KeepsOthers}
use Rattle.chunk_calls.proofs.Kept.{vm-keeps}
use Rattle.chunk_calls.proofs.Regrown.{rechunked-other}
use Rattle.db_items.specs.Groups.{BringsGroup, IsGroup}
use Rattle.db_items.specs.Items.{ChangesItem, LacksItemRoom, room_wanted}
use Rattle.db_items.proofs.Asking.{AsksInside, carries-no_disk}
use Rattle.db_items.proofs.Keeping.{keeps-then}
use Rattle.db_items.proofs.OnGroups.{IsOnChunks, no_group-row, not_brought-row, on_group-err, on_group-ok}

-- Refusals of calls that answer something, and of those that answer nothing

pub refused-so : {A B : Type 0} (why other : Refusal) → ◌≡◌ {A = Result A Refusal} (Err why) (Err other)
    → ◌≡◌ {A = Result B Refusal} (Err why) (Err other)
refused-so why other e = let same : why ≡ other = cc in ap Err same

-- Groups, or not

group-or-not : (o : Option Held) → IsSomeAnd o (λ e. e.uid ≡ group_uid) ⊎ (IsSomeAnd o (λ e. e.uid ≡ group_uid) → ⊥)
group-or-not None = inr (λ none. none)
group-or-not (Some e) = cases_eq e.uid group_uid

pub group-or : {D : Type 0} (v : VmState D) (g : ℕ) → IsGroup v g ⊎ (IsGroup v g → ⊥)
group-or v g = group-or-not (held_at v g)

-- Over a change of a block in memory the others stay there, or it had no room
carries-remain : {D A : Type 0} (w : VmState D) (edit : List (Option (List ℕ)) → Edit A) (t u : Store) (g : ℕ)
    → IsHandle g → IsThere t (vm_slot g) → (grows : Bool) (r : Result A Refusal) → Carries grows w edit t u (vm g) r
    → RemainOrNoRoom t u g (need (edit (chunks (bytes_of t (vm_slot g)))).chunks)
carries-remain w edit t u g q there true (Ok a) c = remain-more t c.mid g _ u q
    (rechunked-other c.mid u (vm_slot g) (subst IsBlock (sym c.own) there) _ _ c.grows.1) (discards-remain t c.mid g _ w c.wanted)
carries-remain w edit t u g q there true (Err why) c = subst (λ x. RemainOrNoRoom t x g (need (edit (chunks (bytes_of t (vm_slot g)))).chunks))
    (sym c.grows.1) (discards-remain t c.mid g _ w c.wanted)
carries-remain w edit t u g q there false (Ok a) c = remain-more t t g _ u q (rechunked-other t u (vm_slot g) there _ _ c.1)
    (same-remain t t g _ refl)
carries-remain w edit t u g q there false (Err why) c = same-remain t u g _ c.1

-- A group that was not brought

no-block : (o : Option Block) → (IsBlock o ⊎ (IsBlock o → ⊥))
no-block None = inr (λ there. there)
no-block (Some b) = inl tt

-- it is locked as often as it was
pub not_brought-locks : (s t : Store) (g : ℕ) → NotBrought s t g → locks_of t (vm_slot g) ≡ locks_of s (vm_slot g)
not_brought-locks s t g not = elim (no-block (block_at s (vm_slot g))) [
  | inl there ↦ ap (λ u. locks_of u (vm_slot g)) (not.stays there)
  | inr absent ↦ ap locks_in (not.absent absent) ∙ sym (ap locks_in (gone (block_at s (vm_slot g)) absent))
]
  where
    gone : (o : Option Block) → (IsBlock o → ⊥) → o ≡ None
    gone None absent = refl
    gone (Some b) absent = absurd (absent tt)

-- The room that a call needs

module _ {A : Type 0} (edit : List (Option (List ℕ)) → Edit A) where
  wanted-away : (P : ℕ → Type 0) (o : Option Held) (b : Option Block) → b ≡ None → IsSomeAnd o (λ e. e.uid ≡ group_uid)
      → IfSome o (λ e. P e.len) → P (room_wanted edit o b)
  wanted-away P None b away group has = absurd group
  wanted-away P (Some e) b away group has = subst (λ x. P (room_wanted edit (Some e) x)) (sym away) has

  wanted-there : (o : Option Held) (b : Option Block) → IsBlock b → IsSomeAnd o (λ e. e.uid ≡ group_uid)
      → room_wanted edit o b ≡ need (edit (chunks (bytes_in b))).chunks
  wanted-there None b there group = absurd group
  wanted-there (Some e) None there group = absurd there
  wanted-there (Some e) (Some b) there group = refl

-- The device was only read

module _ {D : Type 0} (medium : Medium D) (v : VmState D) where
  -- it did not fail, and the file went on as it was
  pub reads-on : {P Q : Type 0} (w x : VmState D) → x.file ≡ w.file → (P → ⊥) → (Q → ⊥) → ReadsDevice medium P v.file w.file
      → ReadsDevice medium Q v.file x.file
  reads-on w x same passed never r = record {
    pair = ap (pair_of medium.image) same ∙ r.pair;
    reads = subst (λ (f : FileState D). ReadsOnly medium v.file.device f.device) (sym same) r.reads;
    cause = λ good fails. absurd (never fails);
    counted = λ q. ap (λ (f : FileState D). medium.failed f.device) same ∙ r.counted passed;
    steadily = subst (λ (f : FileState D). Steadily medium v.file f) (sym same) r.steadily;
  }

  module _ (g : ℕ) (w : VmState D) (s t : Store) where
    abbrev Brings : Result (Unit {0}) Refusal → Type 0
    Brings r = BringsGroup medium g r v w s t

    -- a group is one still
    pub still-group : w ≡ with_device v w.file.device → IsGroup v g → IsGroup w g
    still-group same group = subst (λ (x : VmState D). IsGroup x g) (sym same) group

    module _ {A : Type 0} (call : Call A) (on : IsOnChunks call) (edit : List (Option (List ℕ)) → Edit A) where
      -- the group was not brought
      pub item-not_brought : (why : Refusal) → IsTied medium v s → Brings (Err why) → ChangesItem medium (on_group g call) edit g (Err why) v w s t
      item-not_brought why tied b = record {
        tied = b.brings.tied;
        row = row (group-or v g);
        listed = b.brings.same;
        no_group = λ none. (let n = b.no_group none in (refused-so why refusal.BadHandle n.0, n.1, n.2));
        keeps = b.brings.keeps;
        wanted = λ there. same-remain s t g _ (b.brings.err.stays there);
        locks = not_brought-locks s t g b.brings.err;
        refused = λ there. ap (λ u. block_at u (vm_slot g)) (b.brings.err.stays there);
        stays = λ other there. b.brings.err.stays there;
        there = λ there. (ap (λ (x : VmState D). x.file) (b.brings.there there), λ e. (b.there there).1 (refused-so why refusal.Disk e));
        absent = λ e. b.brings.absent (refused-so why refusal.Disk e);
        no_room = λ e. (let is = refused-so why refusal.NoRoom e in room (λ there. (b.there there).0 is) (b.brings.no_room is) (group-or v g) e);
        device = reads-as medium v.file w.file (refused-so why refusal.Disk) (refused-so why refusal.Disk) b.brings.device;
      }
        where
          row : IsGroup v g ⊎ (IsGroup v g → ⊥) → DoesRow medium (on_group g call) (Err why) v s w t
          row (inl group) = not_brought-row medium v w s t g b.brings.tied (still-group b.brings.same group) call on why (b.row group)
          row (inr none) =
              let n = b.no_group none in
              let is : why ≡ refusal.BadHandle = (let x = n.0 in cc) in
              subst (λ r. DoesRow medium (on_group g call) (Err r) v s w t) (sym is)
              (subst (λ x. DoesRow medium (on_group g call) (Err refusal.BadHandle) v s x t) (sym n.1)
              (subst (DoesRow medium (on_group g call) (Err refusal.BadHandle) v s v) (sym n.2) (no_group-row medium v s g tied none call on)))

          room : (IsThere s (vm_slot g) → ⊥) → IfSome (held_at v g) (λ e. LacksRoom v s t (vm g) e.len)
              → IsGroup v g ⊎ (IsGroup v g → ⊥) → ◌≡◌ {A = Result A Refusal} (Err why) (Err refusal.NoRoom) → LacksItemRoom v t g edit
          room away lacking (inl group) e = record {
            none = none (held_at v g) group lacking;
            no_room =
                wanted-away edit (HasNoRoom t (vm_slot g)) (held_at v g) (block_at t (vm_slot g)) (b.brings.err.absent away) group
                (lacks (held_at v g) lacking);
          }
            where
              none : (o : Option Held) → IsSomeAnd o (λ e. e.uid ≡ group_uid) → IfSome o (λ e. LacksRoom v s t (vm g) e.len) → NoneIdle v t g
              none None group l = absurd group
              none (Some e) group l = l.none

              lacks : (o : Option Held) → IfSome o (λ e. LacksRoom v s t (vm g) e.len) → IfSome o (λ e. HasNoRoom t (vm_slot g) e.len)
              lacks None l = tt
              lacks (Some e) l = l.no_room
          room away lacking (inr none) e = let x = (b.no_group none).0 in absurd cc

      -- it was
      module _ (b : Brings (Ok tt)) (u : Store) (keeps : KeepsOthers w t u (vm g)) where
        group : IsGroup v g
        group = b.known

        others : (k : ℕ) → k ≢ g → held_at w k ≡ held_at v k
        others k ne = ap (λ (x : VmState D). held_at x k) b.brings.same

        remain : (grows : Bool) (r : Result A Refusal) → Carries grows w edit t u (vm g) r → IsThere s (vm_slot g)
            → RemainOrNoRoom s u g (need (edit (chunks (bytes_of s (vm_slot g)))).chunks)
        remain grows r carries there =
            subst (λ x. RemainOrNoRoom x u g (need (edit (chunks (bytes_of x (vm_slot g)))).chunks)) (b.ok.stays there)
            (carries-remain w edit t u g (handle_of_there t t (vm g) refl b.brings.tied.laid b.ok.there) b.ok.there grows r carries)

        same-file : IsThere s (vm_slot g) → w.file ≡ v.file
        same-file there = ap (λ (x : VmState D). x.file) (b.brings.there there)

        -- its chunks have changed, and it is marked
        pub item-changed : (grows : Bool) (x : VmState D) (a : A) → Carries grows w edit t u (vm g) (Ok a)
            → IsTied medium x u → x ≡ with_held w g (option_map marked (held_at w g))
            → ((n : Memory) → IsMemoryOf medium w u n → IsMemoryOf medium x u (with_mark n g true))
            → DoesRowAlone medium call (Ok a) w t w u → ChangesItem medium (on_group g call) edit g (Ok a) v x s u
        item-changed grows x a carries tied marks memory row =
            let file : x.file ≡ w.file = ap (λ (y : VmState D). y.file) marks in
            let device : x.file.device ≡ w.file.device = ap (λ (f : FileState D). f.device) file in
            let now : VmState D = with_held v g (option_map marked (held_at v g)) in
            let was : x ≡ with_device now w.file.device = marks
            ∙ ap (λ (y : VmState D). with_held y g (option_map marked (held_at y g))) b.brings.same in
            record {
              tied = tied;
              row = on_group-ok medium v w s t g b.brings.tied (still-group b.brings.same group) call on (b.row group) u x a device row memory;
              listed = was ∙ ap (with_device now) (sym device);
              no_group = λ none. absurd (none group);
              keeps = keeps-then v w s t u g others b.brings.keeps (vm-keeps w t u g keeps.others);
              wanted = remain grows (Ok a) carries;
              locks = keeps.locks ∙ b.ok.locks;
              refused = tt;
              stays = λ other. tt;
              there = λ there. (file ∙ same-file there, λ e. absurd cc);
              absent = λ e. absurd cc;
              no_room = λ e. absurd cc;
              device = reads-on w x file (λ e. absurd cc) (λ e. absurd cc) b.brings.device;
            }

        -- they have not
        pub item-refused : (grows : Bool) (why : Refusal) → AsksInside edit → Carries grows w edit t u (vm g) (Err why)
            → ((◌≡◌ {A = Result A Refusal} (Err why) (Err refusal.NoRoom) → ⊥) → u ≡ t)
            → DoesRowAlone medium call (Err why) w t w u
            → ChangesItem medium (on_group g call) edit g (Err why) v w s u
        item-refused grows why asks carries stays row = record {
          tied = tied grows carries;
          row = on_group-err medium v w s t g b.brings.tied (still-group b.brings.same group) call on (b.row group) u why row;
          listed = b.brings.same;
          no_group = λ none. absurd (none group);
          keeps = keeps-then v w s t u g others b.brings.keeps (vm-keeps w t u g keeps.others);
          wanted = remain grows (Err why) carries;
          locks = keeps.locks ∙ b.ok.locks;
          refused = λ there. own grows carries ∙ ap (λ x. block_at x (vm_slot g)) (b.ok.stays there);
          stays = λ other there. stays other ∙ b.ok.stays there;
          there = λ there. (same-file there, no_disk);
          absent = λ e. absurd (no_disk e);
          no_room = λ e. room grows carries e;
          device = reads-on w w refl (λ e. absurd cc) no_disk b.brings.device;
        }
          where
            no_disk : ◌≡◌ {A = Result A Refusal} (Err why) (Err refusal.Disk) → ⊥
            no_disk e = let is : why ≡ refusal.Disk = cc in carries-no_disk edit w t u (vm g) grows why asks carries is

            tied : (x : Bool) → Carries x w edit t u (vm g) (Err why) → IsTied medium w u
            tied true c = subst (IsTied medium w) (sym c.grows.1) (tied-thins medium w t c.mid g b.brings.tied c.thins)
            tied false c = subst (IsTied medium w) (sym c.1) b.brings.tied

            own : (x : Bool) → Carries x w edit t u (vm g) (Err why) → block_at u (vm_slot g) ≡ block_at t (vm_slot g)
            own true c = ap (λ x. block_at x (vm_slot g)) c.grows.1 ∙ c.own
            own false c = ap (λ x. block_at x (vm_slot g)) c.1

            lacks : (c : DiscardsAndEdits w edit t u (vm g) (Err why)) → why ≡ refusal.NoRoom
                → (first_refusal (edit (heaps.chunks_at c.mid (vm g))).refusals ≡ Some why) ⊎
                ((first_refusal (edit (heaps.chunks_at c.mid (vm g))).refusals ≡ None)
                × heaps.CannotHold why c.mid (vm g) (edit (heaps.chunks_at c.mid (vm g))).chunks)
                → HasNoRoom c.mid (vm_slot g) (need (edit (heaps.chunks_at c.mid (vm g))).chunks)
            lacks c is (inl first) = absurd (asks (heaps.chunks_at c.mid (vm g)) refusal.NoRoom refl (first ∙ ap Some is))
            lacks c is (inr room) = (subst (λ r. heaps.CannotHold r c.mid (vm g) (edit (heaps.chunks_at c.mid (vm g))).chunks) is room.1).2

            room : (x : Bool) → Carries x w edit t u (vm g) (Err why) → ◌≡◌ {A = Result A Refusal} (Err why) (Err refusal.NoRoom)
                → LacksItemRoom v u g edit
            room true c e =
                let is : why ≡ refusal.NoRoom = cc in
                let none : NoneIdle w u g = c.none e in
                record {
                  none = subst (λ (x : VmState D). NoneIdle x u g) b.brings.same none;
                  no_room = subst (HasNoRoom u (vm_slot g)) (sym (wanted-there edit (held_at v g) (block_at u (vm_slot g)) keeps.there group))
                      (subst (λ x. HasNoRoom x (vm_slot g) (need (edit (heaps.chunks_at x (vm g))).chunks)) (sym c.grows.1) (lacks c is c.grows.0));
                }
            room false c e = let is : why ≡ refusal.NoRoom = cc in absurd (asks (heaps.chunks_at t (vm g)) refusal.NoRoom refl (c.0 ∙ ap Some is))

        -- they have changed, and it is not yet marked
        pub item-unmarked : IsChanged medium w u g
        item-unmarked = record {
          before = t;
          tied = b.brings.tied;
          was = b.ok.there;
          keeps = vm-keeps w t u g keeps.others;
          there = keeps.there;
          heap = keeps.heap;
          word = keeps.handle ∙ (stays-changed medium w t g b.brings.tied b.ok.there).word;
        }

-- a group that was brought holds a heap
pub holds-heap : {D : Type 0} (medium : Medium D) (w : VmState D) (t : Store) (g : ℕ) → IsTied medium w t
    → IsThere t (vm_slot g) → heaps.HoldsHeap t (vm g)
holds-heap medium w t g tied there = record { there = there; heap = (stays-changed medium w t g tied there).heap }
