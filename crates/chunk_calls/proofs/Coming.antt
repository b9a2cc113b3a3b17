-- Edits of a block for which it may grow, and those for which room was made first.
use Rattle.std.proofs.Common.{◌≡◌, ℕ, ◌<◌, ◌≤◌, Bool, true, false, List, length, Option, Some, None, refl, sym, ap, ◌∙◌, subst, inl, inr}
use Rattle.std.specs.Prelude.{Result, Ok, Err}
use Rattle.std.proofs.lemmas.Option.{none-some}
use Rattle.geos_terms.specs.declared.name.Name.{Name}
use Rattle.geos_terms.specs.declared.refusal.Refusal.{Refusal}
use Rattle.geos_terms.specs.declared.refusal.Refusal.TheVariants as refusal
use Rattle.geos_terms.specs.Block as block
use Rattle.geos_terms.specs.Refusals.{first_refusal}
use Rattle.geos_terms.specs.Chunks.{need}
use Rattle.geos_terms.specs.Edits.{Edit}
use Rattle.block_handles.specs.Layout.{IsLaidOut}
use Rattle.block_handles.specs.Names.{slot_of}
use Rattle.block_handles.specs.Store.{Store, IsBlock, IsThere, block_at, bytes_in}
use Rattle.block_handles.specs.Stretch.{HasNoRoom}
use Rattle.lmem_heap.specs.declared.error.RoomError.{RoomError}
use Rattle.lmem_heap.specs.declared.error.RoomError.TheVariants as room
use Rattle.vm_blocks.specs.Room.{DiscardsForRoom, Thins, own_handle}
use Rattle.vm_blocks.specs.View.{VmState}
use Rattle.vm_blocks.proofs.Thinning.{thins-none}
use Rattle.chunk_calls.specs.declared.obstacle.Obstacle.{Obstacle}
use Rattle.chunk_calls.specs.declared.obstacle.Obstacle.TheVariants.{Refused, Room}
use Rattle.chunk_calls.specs.Edits.{IsObstacle, Tries, DiscardsAndEdits, Carries, IsOwn}
use Rattle.chunk_calls.specs.Heaps.{HoldsHeap, CannotHold, GivesRoom, Rechunks}
use Rattle.chunk_calls.specs.Heaps.{chunks_at, size_at}
use Rattle.chunk_calls.proofs.Asking.{AsksNoRoom}
use Rattle.chunk_calls.proofs.Regrown.{kept-size}
use Rattle.chunk_calls.proofs.Room.{room-heap, room-chunks, asks-once, regrown}

not-both : {A : Type 0} (x : A) (why : Refusal) → ◌≡◌ {A = Result A Refusal} (Ok x) (Err why) → ⊥
not-both x why e = absurd cc

same-error : {A : Type 0} (a b : Refusal) → ◌≡◌ {A = Result A Refusal} (Err a) (Err b) → a ≡ b
same-error a b e = cc

module _ {D A : Type 0} (v : VmState D) (edit : List (Option (List ℕ)) → Edit A) (old : Store) (name : Name) (laid : IsLaidOut old) where
  -- it came, or was refused, at once
  pub comes-at_once : (new : Store) (answer : A) → Tries edit old new name (Ok answer) → DiscardsAndEdits v edit old new name (Ok answer)
  comes-at_once new answer t = record {
    mid = old;
    thins = thins-none v old (own_handle name) laid;
    wanted = inl refl;
    own = refl;
    grows = (t.0, kept-size old new name (edit (chunks_at old name)).chunks t.1);
    none = λ e. absurd (not-both answer refusal.NoRoom e);
  }

  pub comes-refused : AsksNoRoom edit → (new : Store) (why : Refusal) → Tries edit old new name (Err (Refused why))
      → DiscardsAndEdits v edit old new name (Err why)
  comes-refused never new why t = record {
    mid = old;
    thins = thins-none v old (own_handle name) laid;
    wanted = inl refl;
    own = refl;
    grows = (inl t.0, t.1);
    none = λ e. absurd (never (chunks_at old name) (subst (λ w. first_refusal (edit (chunks_at old name)).refusals ≡ Some w)
        (same-error {A = A} why refusal.NoRoom e) t.0));
  }

  -- the room for an edit was made: other blocks were evicted, and the block has grown
  record Made (grown : Store) : Type 0 where
    mid : Store
    thins : Thins v old mid (own_handle name)
    wanted : DiscardsForRoom v old mid (own_handle name) (slot_of name) (need (edit (chunks_at old name)).chunks)
    own : block_at mid (slot_of name) ≡ block_at old (slot_of name)
    passes : first_refusal (edit (chunks_at mid name)).refusals ≡ None
    less : size_at mid name < need (edit (chunks_at mid name)).chunks
    small : need (edit (chunks_at mid name)).chunks ≤ 65520
    made : Rechunks mid grown (slot_of name) (chunks_at mid name) (need (edit (chunks_at mid name)).chunks)

  -- it wanted room
  module _ (r : RoomError) (grown : Store) (first : Tries edit old old name (Err (Room r))) where
    -- the room that it needs is the same for any block with the same bytes
    asked-on : (mid : Store) → block_at mid (slot_of name) ≡ block_at old (slot_of name) → (x : RoomError)
        → IsObstacle (Room x) (edit (chunks_at old name)) (size_at old name)
        → IsObstacle (Room x) (edit (chunks_at mid name)) (size_at mid name)
    asked-on mid own x asked = subst (λ o. IsObstacle (Room x) (edit (block.chunks (bytes_in o))) (length (bytes_in o))) (sym own) asked

    -- that was refused
    pub comes-lacking : (why : Refusal) → GivesRoom v r (Err why) old grown name → DiscardsAndEdits v edit old grown name (Err why)
    comes-lacking why m = lacks r first.0 m
      where
        lacks : (x : RoomError) → IsObstacle (Room x) (edit (chunks_at old name)) (size_at old name)
            → GivesRoom v x (Err why) old grown name → DiscardsAndEdits v edit old grown name (Err why)
        lacks room.TooBig asked n =
            let is = same-error {A = Unit {0}} why refusal.TooBig n.0 in
            record {
              mid = old;
              thins = thins-none v old (own_handle name) laid;
              wanted = inl refl;
              own = refl;
              grows = (inr (asked.0, subst (λ w. CannotHold w old name (edit (chunks_at old name)).chunks) (sym is) asked.1), n.1);
              none = λ e. absurd (let x : refusal.TooBig ≡ refusal.NoRoom = sym is ∙ same-error {A = A} why refusal.NoRoom e in cc);
            }
        lacks (room.NeedMore k) asked n =
            let now = asked-on n.mid n.own (room.NeedMore k) asked in
            let finds = n.no_room.0 in
            let lack : CannotHold refusal.NoRoom n.mid name (edit (chunks_at n.mid name)).chunks =
            (now.1.1, now.1.2, subst (HasNoRoom n.mid (slot_of name)) now.1.0 finds.1) in
            record {
              mid = n.mid;
              thins = n.thins;
              wanted = subst (DiscardsForRoom v old n.mid (own_handle name) (slot_of name)) asked.1.0 n.wanted;
              own = n.own;
              grows = (inr (now.0, subst (λ w. CannotHold w n.mid name (edit (chunks_at n.mid name)).chunks) (sym finds.0) lack), finds.2);
              none = λ e. n.no_room.1;
            }

    -- that was made
    module _ (there : IsThere old (slot_of name)) (done : Unit {0}) (m : GivesRoom v r (Ok done) old grown name) where
      made : Made grown
      made = got r first.0 m
        where
          got : (x : RoomError) → IsObstacle (Room x) (edit (chunks_at old name)) (size_at old name)
              → GivesRoom v x (Ok done) old grown name → Made grown
          got room.TooBig asked n = absurd (not-both {A = Unit {0}} done refusal.TooBig n.0)
          got (room.NeedMore k) asked n =
              let now = asked-on n.mid n.own (room.NeedMore k) asked in
              record {
                mid = n.mid;
                thins = n.thins;
                wanted = subst (DiscardsForRoom v old n.mid (own_handle name) (slot_of name)) asked.1.0 n.wanted;
                own = n.own;
                passes = now.0;
                less = now.1.1;
                small = now.1.2;
                made = subst (Rechunks n.mid grown (slot_of name) (chunks_at n.mid name)) now.1.0 n.ok;
              }

      abbrev f : List (Option (List ℕ)) → List (Option (List ℕ))
      f = λ cs. (edit cs).chunks

      still : IsThere made.mid (slot_of name)
      still = subst IsBlock (sym made.own) there

      pub comes-held : HoldsHeap grown name
      comes-held = room-heap f made.mid grown name still made.less made.small made.made

      same : chunks_at grown name ≡ chunks_at made.mid name
      same = room-chunks f made.mid grown name still made.less made.small made.made

      pub comes-again : (new : Store) (answer : A) → Tries edit grown new name (Ok answer) → DiscardsAndEdits v edit old new name (Ok answer)
      comes-again new answer t = record {
        mid = made.mid;
        thins = made.thins;
        wanted = made.wanted;
        own = made.own;
        grows = ((t.0.0 ∙ ap (λ cs. (edit cs).answer) same, made.passes), regrown f made.mid grown name still made.less made.small made.made new t.1);
        none = λ e. absurd (not-both answer refusal.NoRoom e);
      }

      pub comes-once : (new : Store) (o : Obstacle) → Tries edit grown new name (Err o) → ⊥
      comes-once new (Refused why) t = none-some why (sym made.passes ∙ subst (λ cs. first_refusal (edit cs).refusals ≡ Some why) same t.0)
      comes-once new (Room again) t = asks-once f made.mid grown name still made.less made.small made.made again t.0.1

-- room that was refused for another reason than that there is none left all as it was
pub lacking-stays : {D A : Type 0} (v : VmState D) (old new : Store) (name : Name) (r : RoomError) (why : Refusal)
    → GivesRoom v r (Err why) old new name → (◌≡◌ {A = Result A Refusal} (Err why) (Err refusal.NoRoom) → ⊥) → new ≡ old
lacking-stays v old new name room.TooBig why m other = m.1
lacking-stays v old new name (room.NeedMore k) why m other = absurd (other (ap Err m.no_room.0.0))

-- An edit that was tried once, of a block that may grow or not
module _ {D A : Type 0} (v : VmState D) (grows : Bool) (edit : List (Option (List ℕ)) → Edit A) (old new : Store)
    (name : Name) (laid : IsLaidOut old) where
  pub carries-done : (answer : A) → Tries edit old new name (Ok answer) → Carries grows v edit old new name (Ok answer)
  carries-done answer t = done grows
    where
      done : (b : Bool) → Carries b v edit old new name (Ok answer)
      done true = comes-at_once v edit old name laid new answer t
      done false = t

  pub carries-refused : AsksNoRoom edit → (why : Refusal) → Tries edit old new name (Err (Refused why)) → Carries grows v edit old new name (Err why)
  carries-refused never why t = refused grows
    where
      refused : (b : Bool) → Carries b v edit old new name (Err why)
      refused true = comes-refused v edit old name laid never new why t
      refused false = t

  -- and one that came by growing
  pub carries-grown : (r : Result A Refusal) → grows ≡ true → DiscardsAndEdits v edit old new name r → Carries grows v edit old new name r
  carries-grown r is c = rw is c

-- only a call whose block may grow reports that it needs room
pub own-grows : (grows : Bool) (r : RoomError) → IsOwn grows (Err (Room r)) → grows ≡ true
own-grows true r h = refl
own-grows false r h = absurd h
