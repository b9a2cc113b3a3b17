-- Blocks that come into memory.
use Rattle.std.proofs.Common.{◌≡◌, ◌≢◌, ℕ, zero, suc, ◌<◌, List, [], ◌∷◌, length, length-set, replicate, set, get_or, Option, Some, None, true, sym, ap, ◌∙◌, arith, subst, inl, inr}
use Rattle.std.specs.Prelude.{◌⊎◌, ◌↔◌, Result, Err, OnOk}
use Rattle.std.proofs.lemmas.Bool.{cases_eq, cases_lt}
use Rattle.std.proofs.lemmas.List.{get_or-set_same, get_or-set_other, get_or_past, length-replicate}
use Rattle.geos_terms.specs.declared.name.Name.{Name}
use Rattle.lmem_raw.proofs.Parts.{with_whole}
use Rattle.block_handles.specs.declared.error.HandleError.{HandleError}
use Rattle.block_handles.specs.declared.error.HandleError.TheVariants.{BadHandle, Locked}
use Rattle.block_handles.specs.Change.{blocks_with_bytes, with_bytes, without, new_block}
use Rattle.block_handles.specs.Layout.{IsLaidOut}
use Rattle.block_handles.specs.Names.{IsHandle, slot_of}
use Rattle.block_handles.specs.Store.{Block, Store, block_at, bytes_in, bytes_of, IsBlock, IsThere, locks_in, locks_of, place_of, size_of}
use Rattle.block_handles.proofs.Laws.{laid-without, laid-with_bytes, others-same, with_block-same, with_block-other}
use Rattle.vm_file.specs.Device.{Medium}
use Rattle.vm_file.specs.State.{FileState, HasBlock, bytes_of_block, pair_of}
use Rattle.vm_blocks.specs.declared.entries.Held.{Held}
use Rattle.geos_terms.specs.Names.{vm}
use Rattle.vm_blocks.specs.View.{VmState, bytes_read, held_at, vm_slot}
use Rattle.vm_blocks.specs.Tied.{IsTied, IsAbsent, TiedAt}
use Rattle.vm_blocks.specs.Room.{DiscardsAndMakes, Goes, StaysOrGoes, is_idle}
use Rattle.vm_blocks.specs.Bring.{Fills, Drops, Keeps, KeptOrGoes}
use Rattle.vm_blocks.proofs.Slots.{slot-one, slot-is, freed, no-block, some-block}
use Rattle.vm_blocks.proofs.Thinning.{gone-tied}

-- a block that was filled and is freed is gone
pub drops : (old mid new : Store) (h : ℕ) (ws : List ℕ) → IsThere mid (vm_slot h) → mid ≡ with_bytes old (vm_slot h) ws
    → new ≡ without mid (vm_slot h) → Drops old new h
drops old mid new h ws there m n =
    let slot : ℕ = vm_slot h in
    record {
      gone = elim (cases_lt slot (length mid.blocks)) [
        | inl small ↦ ap (λ t. block_at t slot) n ∙ with_block-same mid slot None 0 small
        | inr past ↦ ap (λ t. block_at t slot) n ∙ get_or_past (set mid.blocks slot None) slot None
            (omega (arith, past, length-set mid.blocks slot None))
      ];
      others = λ j ne. ap (λ t. block_at t j) n ∙ with_block-other mid slot None 0 j ne ∙ ap (λ t. block_at t j) m
          ∙ others-same old slot j ws (λ e. ne (sym e));
      places = λ j ne. ap (λ t. place_of t j) n ∙ get_or-set_other mid.places slot j 0 0 ne ∙ ap (λ t. place_of t j) m;
      laid = λ laid. subst IsLaidOut (sym n) (laid-without mid (subst IsLaidOut (sym m) (laid-with_bytes old laid slot ws)) slot there);
      len = ap (λ (t : Store). t.len) n ∙ ap (λ (t : Store). t.len) m;
    }

module _ {D : Type 0} (medium : Medium D) (v : VmState D) where
  -- a block that stays in memory or is evicted remains tied
  pub kept-tied : (s t : Store) (h k : ℕ) → IsHandle k → IsTied medium v s → KeptOrGoes v s t h (vm_slot k)
      → TiedAt medium v.file k (held_at v k) (block_at t (vm_slot k))
  kept-tied s t h k p tied (inl u) = subst (TiedAt medium v.file k (held_at v k)) (sym u.0) (tied.each k p)
  kept-tied s t h k p tied (inr g) =
      let one : k ≡ g.h = slot-one k g.h p g.handle g.slot_is in
      let i : is_idle v s k ≡ true = subst (λ j. is_idle v s j ≡ true) (sym one) g.idle in
      subst (TiedAt medium v.file k (held_at v k)) (sym g.gone) (gone-tied medium v k (held_at v k) (block_at s (vm_slot k)) i (tied.each k p))

  -- and so is all, where the one is
  pub tied-keeps : (s t : Store) (h : ℕ) → IsHandle h → IsTied medium v s → Keeps v s t h
      → TiedAt medium v.file h (held_at v h) (block_at t (vm_slot h)) → IsTied medium v t
  tied-keeps s t h q tied keeps own = record {
    laid = keeps.laid;
    long = tied.long;
    maps = tied.maps;
    each = λ k p. elim (cases_eq k h) [
      | inl same ↦ subst (λ j. TiedAt medium v.file j (held_at v j) (block_at t (vm_slot j))) (sym same) own
      | inr other ↦ kept-tied s t h k p tied (keeps.each (vm_slot k) (λ e. other (slot-one k h p q e)))
    ];
  }

  -- another file that keeps the same current pair and lists it
  pub tied-file : (s : Store) (f : FileState D) → f.current ≡ v.file.current → (medium.honest f.device → medium.honest v.file.device)
      → (medium.honest v.file.device → pair_of medium.image f ≡ pair_of medium.image v.file) → IsTied medium v s
      → IsTied medium (record v { file = f }) s
  tied-file s f listed was pair tied = record {
    laid = tied.laid;
    long = tied.long;
    each = λ h p. on h (held_at v h)
        (block_at s (vm_slot h)) (tied.each h p);
    maps = record { block = tied.maps.block; group = tied.maps.group; no_item = tied.maps.no_item };
  }
    where
      on : (h : ℕ) (e : Option Held) (b : Option Block) → TiedAt medium v.file h e b → TiedAt medium f h e b
      on h None None t = t
      on h None (Some b) t = t
      on h (Some e) None t = record { size = t.size; clean = t.clean; kept = subst (λ d. HasBlock d h e.len) (sym listed) t.kept }
      on h (Some e) (Some b) t = record {
        size = t.size;
        heap = t.heap;
        handle = t.handle;
        kept = λ m. subst (λ d. HasBlock d h e.len) (sym listed) (t.kept m);
        clean = λ m. record {
          long = (t.clean m).long;
          same = λ good. (t.clean m).same (was good)
              ∙ sym (ap (λ q. bytes_of_block q.cur.blocks h) (pair (was good)));
        };
      }

-- room that was made keeps the others
module _ {D : Type 0} (v : VmState D) (old new : Store) (h size : ℕ) (q : IsHandle h) (made : DiscardsAndMakes v old new (vm h) size) where
  small : vm_slot h < length made.mid.blocks
  small = omega (arith, slot-is h q, q.1, made.thins.laid.slots)

  pub made-block : block_at new (vm_slot h) ≡ new_block size
  made-block = ap (λ bs. get_or bs (vm_slot h) None) made.makes.blocks ∙ get_or-set_same made.mid.blocks (vm_slot h) (new_block size) None small

  pub made-size : size_of new (vm_slot h) ≡ size
  made-size = ap (λ o. length (bytes_in o)) made-block ∙ length-replicate {A = ℕ} size 0

  pub made-other : (slot : ℕ) → slot ≢ vm_slot h → block_at new slot ≡ block_at made.mid slot
  made-other slot ne = ap (λ bs. get_or bs slot None) made.makes.blocks ∙ get_or-set_other made.mid.blocks (vm_slot h) slot (new_block size) None ne

  pub made-keeps : Keeps v old new h
  made-keeps = record { each = λ slot ne. on slot ne (made.thins.each slot); laid = made.makes.laid; len = made.makes.len ∙ made.thins.len }
    where
      on : (slot : ℕ) → slot ≢ vm_slot h → StaysOrGoes v old made.mid h slot
          → ((block_at new slot ≡ block_at old slot) × (0 < locks_of old slot → place_of new slot ≡ place_of old slot)) ⊎ Goes v old new h slot
      on slot ne (inl u) = inl (made-other slot ne ∙ u.0, λ some. made.makes.stay slot ne (subst (λ o. 0 < locks_in o) (sym u.0) some) ∙ u.1)
      on slot ne (inr g) = inr (record {
        h = g.h;
        handle = g.handle;
        slot_is = g.slot_is;
        other = g.other;
        idle =
            g.idle;
        gone = made-other slot ne ∙ g.gone;
      })

-- room for a name is room for its handle
pub made-room : {D : Type 0} {size : ℕ} (v : VmState D) (old new : Store) (name : Name) (h : ℕ) → name ≡ vm h
    → DiscardsAndMakes v old new name size → DiscardsAndMakes v old new (vm h) size
made-room {D} {size} v old new name h is made = subst (λ n. DiscardsAndMakes v old new n size) is made

-- if a step preserves the other blocks, and the next one changes only this block, both together preserve the others
pub keeps-more : {D : Type 0} (v : VmState D) (a b c : Store) (h : ℕ) → Keeps v a b h
    → ((slot : ℕ) → slot ≢ vm_slot h → block_at c slot ≡ block_at b slot) → ((slot : ℕ) → slot ≢ vm_slot h → place_of c slot ≡ place_of b slot)
    → IsLaidOut c → c.len ≡ b.len → Keeps v a c h
keeps-more {D} v a b c h first same place laid len = record { each = λ slot ne. on slot ne (first.each slot ne); laid = laid; len = len ∙ first.len }
  where
    on : (slot : ℕ) → slot ≢ vm_slot h → ((block_at b slot ≡ block_at a slot) × (0 < locks_of a slot → place_of b slot ≡ place_of a slot))
        ⊎ Goes v a b h slot
        → ((block_at c slot ≡ block_at a slot) × (0 < locks_of a slot → place_of c slot ≡ place_of a slot)) ⊎ Goes v a c h slot
    on slot ne (inl u) = inl (same slot ne ∙ u.0, λ some. place slot ne ∙ u.1 some)
    on slot ne (inr g) = inr (record {
      h = g.h;
      handle = g.handle;
      slot_is = g.slot_is;
      other = g.other;
      idle =
          g.idle;
      gone = same slot ne ∙ g.gone;
    })

-- a block with other bytes, as many
filled-list : (bs : List (Option Block)) (i : ℕ) (ws : List ℕ) (b : Block) → get_or bs i None ≡ Some b → length ws ≡ length b.bytes
    → get_or (blocks_with_bytes bs i ws) i None ≡ Some (record { locks = b.locks; bytes = ws })
filled-list [] i ws b e long = absurd cc
filled-list (None ∷ bs) zero ws b e long = absurd cc
filled-list (Some x ∷ bs) zero ws b e long =
    let locks : x.locks ≡ b.locks = ap locks_in e in
    let fits : length ws ≡ length x.bytes = long ∙ sym (ap (λ o. length (bytes_in o)) e) in
    λ k. Some (record { locks = locks k; bytes = with_whole x.bytes ws fits k })
filled-list (None ∷ bs) (suc i) ws b e long = filled-list bs i ws b e long
filled-list (Some x ∷ bs) (suc i) ws b e long = filled-list bs i ws b e long

pub filled-at : (old new : Store) (slot : ℕ) (ws : List ℕ) (b : Block) → block_at old slot ≡ Some b → length ws ≡ size_of old slot
    → new ≡ with_bytes old slot ws → block_at new slot ≡ Some (record { locks = b.locks; bytes = ws })
filled-at old new slot ws b is long e = ap (λ t. block_at t slot) e ∙ filled-list old.blocks slot ws b is (long ∙ ap (λ o. length (bytes_in o)) is)

-- a block into which nothing was read is gone
pub read-failed : (old new : Store) (h : ℕ) (one other : Name) (ws : List ℕ) (r : Result (Unit {0}) HandleError)
    → one ≡ vm h → other ≡ vm h → IsThere old (vm_slot h) → locks_of old (vm_slot h) ≡ 0 → length ws ≡ size_of old (slot_of one)
    → OnOk r (new ≡ without (with_bytes old (slot_of one) ws) (slot_of other))
    → ((r ≡ Err BadHandle) ↔ (IsThere (with_bytes old (slot_of one) ws) (slot_of other) → ⊥))
    → ((r ≡ Err Locked) ↔ (0 < locks_of (with_bytes old (slot_of one) ws) (slot_of other))) → Drops old new h
read-failed old new h one other ws r e f there free long ok bad locked =
    let i : slot_of one ≡ vm_slot h = ap slot_of e in
    let j : slot_of other ≡ vm_slot h = ap slot_of f in
    let mid : Store = with_bytes old (slot_of one) ws in
    let m : mid ≡ with_bytes old (vm_slot h) ws = ap (λ k. with_bytes old k ws) i in
    let b = some-block (block_at old (vm_slot h)) there in
    let at_h = filled-at old mid (vm_slot h) ws b.0 b.1 (long ∙ ap (size_of old) i) m in
    let here : IsThere mid (vm_slot h) = subst IsBlock (sym at_h) tt in
    let none : locks_of mid (vm_slot h) ≡ 0 = ap locks_in at_h ∙ sym (ap locks_in b.1) ∙ free in
    let n = freed mid new (slot_of other) r ok bad locked (subst (IsThere mid) (sym j) here) (ap (locks_of mid) j ∙ none) in
    drops old mid new h ws here m (n ∙ ap (without mid) j)

pub fills-others : (old new : Store) (h : ℕ) → Fills old new h → (slot : ℕ) → slot ≢ vm_slot h → block_at new slot ≡ block_at old slot
fills-others old new h fills slot ne = ap (λ u. block_at u slot) fills.is ∙ others-same old (vm_slot h) slot fills.bytes (λ e. ne (sym e))

-- a listed block that is not in memory
module _ {D : Type 0} (medium : Medium D) (v : VmState D) (s : Store) (h : ℕ) (e : Held) (q : IsHandle h)
    (tied : IsTied medium v s) (listed : held_at v h ≡ Some e) (absent : IsThere s (vm_slot h) → ⊥) where
  none-there : block_at s (vm_slot h) ≡ None
  none-there = no-block (block_at s (vm_slot h)) absent

  pub absent-is : IsAbsent v.file h e
  absent-is = subst (λ o. TiedAt medium v.file h o None) listed (subst (TiedAt medium v.file h (held_at v h)) none-there (tied.each h q))

  own-none : (t : Store) → block_at t (vm_slot h) ≡ None → TiedAt medium v.file h (held_at v h) (block_at t (vm_slot h))
  own-none t gone = subst (TiedAt medium v.file h (held_at v h)) (sym gone) (subst (λ o. TiedAt medium v.file h o None) (sym listed) absent-is)

  -- it was made, and read
  module _ (m t : Store) (made : DiscardsAndMakes v s m (vm h) e.len) where
    module _ (fills : Fills m t h) where
      pub filled-keeps : Keeps v s t h
      filled-keeps = keeps-more v s m t h (made-keeps v s m h e.len q made)
          (fills-others m t h fills)
          (λ slot ne. ap (λ u. place_of u slot) fills.is)
          (subst IsLaidOut (sym fills.is) (laid-with_bytes m made.makes.laid (vm_slot h) fills.bytes))
          (ap (λ (u : Store). u.len) fills.is)

      abbrev own : Block
      own = record { locks = 0; bytes = fills.bytes }

      filled-is : block_at t (vm_slot h) ≡ Some own
      filled-is = filled-at m t (vm_slot h) fills.bytes (record { locks = 0; bytes = replicate e.len 0 })
          (made-block v s m h e.len q made) fills.long fills.is

      pub filled-locks : locks_of t (vm_slot h) ≡ 0
      filled-locks = ap locks_in filled-is

      pub filled-there : IsThere t (vm_slot h)
      filled-there = subst IsBlock (sym filled-is) tt

      module _ (read : medium.honest v.file.device → bytes_of t (vm_slot h) ≡ bytes_read medium.image v.file h) where
        own-tied : TiedAt medium v.file h (Some e) (Some own)
        own-tied = record {
          size = absent-is.size;
          heap = fills.heap;
          handle = fills.handle;
          kept = λ c. absent-is.kept;
          clean = λ c. record { long = fills.long ∙ made-size v s m h e.len q made; same = λ good. sym (ap bytes_in filled-is) ∙ read good };
        }

        filled-tied : IsTied medium v t
        filled-tied = tied-keeps medium v s t h q tied filled-keeps
            (subst (TiedAt medium v.file h (held_at v h)) (sym filled-is) (subst (λ o. TiedAt medium v.file h o (Some own)) (sym listed) own-tied))

        module _ (f : FileState D) (same : f ≡ record v.file { device = f.device }) (pair : pair_of medium.image f ≡ pair_of medium.image v.file)
            (was : medium.honest f.device → medium.honest v.file.device) where
          pub read-tied : IsTied medium (record v { file = f }) t
          read-tied = tied-file medium v t f (ap (λ (g : FileState D). g.current) same) was (λ good. pair) filled-tied

    -- it was made, and is gone again
    module _ (drops : Drops m t h) where
      pub dropped-keeps : Keeps v s t h
      dropped-keeps = keeps-more v s m t h (made-keeps v s m h e.len q made) drops.others drops.places (drops.laid made.makes.laid) drops.len

      pub dropped-tied : (f : FileState D) → f ≡ record v.file { device = f.device } → pair_of medium.image f ≡ pair_of medium.image v.file
          → (medium.honest f.device → medium.honest v.file.device) → IsTied medium (record v { file = f }) t
      dropped-tied f same pair was = tied-file medium v t f (ap (λ (g : FileState D). g.current) same) was (λ good. pair)
          (tied-keeps medium v s t h q tied dropped-keeps (own-none t drops.gone))
