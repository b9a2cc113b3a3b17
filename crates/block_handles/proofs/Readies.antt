-- That blocks lie as they should and the gap is free, after what calls do.
use Rattle.std.proofs.Common.{◌≡◌, ◌≢◌, ℕ, ◌+◌, ◌-◌, ◌≤◌, ◌<◌, ◌⊎◌, ◌/◌, ◌%◌, Option, slice_index, List, length, set, replicate, slice_index_or, None, refl, ap, sym, subst, ◌∙◌, arith, inl, inr, length-append}
use Rattle.std.proofs.lemmas.List.{length-replicate, get_or-set_same, get_or-set_other}
use Rattle.std.proofs.lemmas.Nat.Bits.{bit_at-lt}
use Rattle.std.proofs.lemmas.Bool.{cases_eq}
use Rattle.block_handles.specs.declared.room.Gap.{Gap}
use Rattle.block_handles.specs.Store.{Block, Store, block_at, bytes_in, bytes_of, IsBlock, IsThere, locks_in, locks_of, size_of, place_of, end_of, region_len}
use Rattle.block_handles.specs.Change.{LockedStay, with_block, with_most, new_block, grown_block, with_locks, after_write, with_bytes}
use Rattle.block_handles.specs.Calls.{Grows, Makes}
use Rattle.block_handles.specs.Gap.{IsGap, IsGapBut, IsReady, MakesRoom}
use Rattle.block_handles.specs.Joined.{Joins, Reaches}
use Rattle.block_handles.specs.Bits.{bit_of, SetsBit}
use Rattle.block_handles.specs.Used.{IsUsed, IsFreeCount, IsKept, IsLockSum}
use Rattle.block_handles.specs.Layout.{Apart, IsEmpty, IsLaidOut, IsFree, IsFreeBut}
use Rattle.block_handles.specs.Packing.{IsEdge}
use Rattle.block_handles.specs.Stretch.{all_sizes}
use Rattle.block_handles.proofs.Layouts.{Differs, with_block-differs, there_small, there_of_size, locks_of_none, size_of_none, with_locks-shape, SameShape, laid-limits, laid-same, free-same}
use Rattle.block_handles.proofs.Counting.{sizes-same, sizes-with_block}
use Rattle.block_handles.proofs.LockSums.{after_write-locks, lock-sum-same, lock-sum-with_block, with_bytes-locks}
use Rattle.block_handles.proofs.Packs.{size_along}
use Rattle.block_handles.proofs.Writes.{after_write-shape, with_bytes-shape}

-- a region with no block is one gap, and no bit is set
pub ready-empty : (S : Store) (len : ℕ) → IsEmpty S len → IsReady S (record { at = 0; end = len })
ready-empty S len e = record {
  laid = e.laid;
  room = record {
    ordered = omega arith;
    inside = omega (arith, ap (λ l. l.region) e.long);
    free = λ j. let z : size_of S j ≡ 0 = ap (λ b. length (bytes_in b)) (e.none j) in inl (omega (arith, z, e.laid.none j z));
  };
}

pub used-empty : (S : Store) (len : ℕ) (words : List ℕ) → IsEmpty S len → length words ≡ 32 → ((slot : ℕ) → bit_of words slot ≡ 0) → IsUsed S words
used-empty S len words e long none = record {
  long = long;
  there = λ j small is. absurd (omega (arith, is, none j));
  none =
      λ j small is there. subst IsBlock (e.none j) there;
}

pub ready-same : (S S' : Store) (gap : Gap) → SameShape S S' → IsReady S gap → IsReady S' gap
ready-same S S' gap shape r = record {
  laid = laid-same S S' shape r.laid;
  room = record {
    ordered = r.room.ordered;
    inside = omega (arith, r.room.inside, ap (λ l. l.region) shape.len);
    free =
        free-same S S' shape gap.at gap.end r.room.free;
  };
}

-- where the same slots are in use
pub used-same : (S S' : Store) (words : List ℕ) → ((j : ℕ) → IsThere S' j → IsThere S j) → ((j : ℕ) → IsThere S j → IsThere S' j)
    → IsUsed S words → IsUsed S' words
used-same S S' words back on u = record {
  long = u.long;
  there = λ j small is. on j (u.there j small is);
  none =
      λ j small is h. u.none j small is (back j h);
}

-- as many bytes, and the same limit
count-along : (S S' : Store) (free : ℕ) → all_sizes S' ≡ all_sizes S → S'.len ≡ S.len → IsFreeCount S free → IsFreeCount S' free
count-along S S' free sizes len count = record {
  counted = omega (arith, count.counted, sizes, ap (λ l. l.most) len);
  within = omega (arith, count.within, ap (λ l. l.most) len, ap (λ l. l.region) len);
  short = omega (arith, count.short, ap (λ l. l.region) len);
}

pub kept-same : {free held now : ℕ} (S S' : Store) (gap : Gap) (words : List ℕ) → SameShape S S' → IsLockSum S' now
    → IsKept S gap words free held → IsKept S' gap words free now
kept-same {free} S S' gap words shape locked k = record {
  ready = ready-same S S' gap shape k.ready;
  used = used-same S S' words shape.there (λ j h. there_of_size S' j (omega (arith, shape.sizes j, (k.ready.laid.sized j h).0))) k.used;
  count = count-along S S' free (sizes-same S S' shape) shape.len k.count;
  locked = locked;
}

pub kept-after_write : {free held : ℕ} (S S' : Store) (gap : Gap) (words : List ℕ) (at : ℕ) (ws : List ℕ)
    → S' ≡ after_write S at ws → IsKept S gap words free held → IsKept S' gap words free held
kept-after_write {free} {held} S S' gap words at ws e k =
    let W : Store = after_write S at ws in
    subst (λ s. IsKept s gap words free held) (sym e) (kept-same S W gap words (after_write-shape at ws S)
    (lock-sum-same S W held (after_write-shape at ws S).slots (after_write-locks S at ws) k.locked) k)

pub kept-bytes : {free held : ℕ} (S : Store) (gap : Gap) (words : List ℕ) (slot : ℕ) (ws : List ℕ) → IsKept S gap words free held
    → IsKept (with_bytes S slot ws) gap words free held
kept-bytes {free} {held} S gap words slot ws k =
    let W : Store = with_bytes S slot ws in
    kept-same S W gap words (with_bytes-shape S slot ws) (lock-sum-same S W held (with_bytes-shape S slot ws).slots
    (with_bytes-locks S slot ws) k.locked) k

-- a slot gets a block, or loses it, and its bit is set or cleared
pub used-with_block : (S S' : Store) (words words' : List ℕ) (slot : ℕ) (b : Option Block) (p bit : ℕ) → slot < 2048
    → IsLaidOut S → S' ≡ with_block S slot b p → SetsBit words words' slot bit → (bit ≡ 1 → IsBlock b)
    → (bit ≡ 0 → IsBlock b → ⊥) → IsUsed S words → IsUsed S' words'
used-with_block S S' words words' slot b p bit small laid e set yes_there no_there u = record {
  long = set.long ∙ u.long;
  there = λ j lt is. elim (cases_eq j slot) as (λ _. IsThere S' j) [
    | inl q ↦ subst (λ k. IsThere S' k) (sym q) (subst IsBlock (sym here) (yes_there (sym set.here ∙ ap (bit_of words') (sym q) ∙ is)))
    | inr ne ↦ subst IsBlock (sym (other j ne)) (u.there j lt (sym (set.others j ne) ∙ is))
  ];
  none = λ j lt is h. elim (cases_eq j slot) as (λ _. ⊥) [
    | inl q ↦ no_there (sym set.here ∙ ap (bit_of words') (sym q) ∙ is) (subst IsBlock here (subst (λ k. IsThere S' k) q h))
    | inr ne ↦ u.none j lt (sym (set.others j ne) ∙ is) (subst IsBlock (other j ne) h)
  ];
}
  where
    here : block_at S' slot ≡ b
    here = ap (λ s. block_at s slot) e ∙ get_or-set_same S.blocks slot b None (omega (arith, small, laid.slots))

    other : (j : ℕ) → j ≢ slot → block_at S' j ≡ block_at S j
    other j ne = ap (λ s. block_at s j) e ∙ get_or-set_other S.blocks slot j b None ne

-- the bit of a block that is there
pub bit-there : (S : Store) (words : List ℕ) (slot : ℕ) → slot < 2048 → IsThere S slot → IsUsed S words → bit_of words slot ≡ 1
bit-there S words slot small h u = elim (cases_eq (bit_of words slot) 0) as (λ _. bit_of words slot ≡ 1) [
  | inl z ↦ absurd (u.none slot small z h)
  | inr nz ↦ let top : bit_of words slot < 2 = bit_at-lt (slice_index words (slot / 64)) (slot % 64) in omega (arith, top, nz)
]

-- moved blocks are the same blocks
pub used-blocks : (S S' : Store) (words : List ℕ) → S'.blocks ≡ S.blocks → IsUsed S words → IsUsed S' words
used-blocks S S' words e u = used-same S S' words (λ j h. subst (λ bs. IsBlock (slice_index_or bs j None)) e h)
    (λ j h. subst (λ bs. IsBlock (slice_index_or bs j None)) (sym e) h) u

length-grown : (S : Store) (slot size : ℕ) → size_of S slot ≤ size → length (bytes_in (grown_block S slot size)) ≡ size
length-grown S slot size more = omega (
  arith,
  length-append (bytes_of S slot) (replicate (size - size_of S slot) 0),
  length-replicate {A = ℕ} (size - size_of S slot) 0,
  more,
)

-- no block crosses the end of a gap
pub edge-gap : (S : Store) (gap : Gap) → IsGap S gap → IsEdge S gap.end
edge-gap S gap g j = by (g.free j)
  where
    by : (end_of S j ≤ gap.at) ⊎ (gap.end ≤ place_of S j) → (end_of S j ≤ gap.end) ⊎ (gap.end ≤ place_of S j)
    by (inl q) = inl (omega (arith, q, g.ordered))
    by (inr q) = inr q

-- no other block lies where a block is to lie
pub room-free : (old mid : Store) (slot size : ℕ) (gap : Gap) → MakesRoom old mid slot size gap → IsFreeBut mid slot gap.at (gap.at + size)
room-free old mid slot size gap m j ne = by (m.free j ne)
  where
    by : (end_of mid j ≤ gap.at) ⊎ (gap.end ≤ place_of mid j) → (end_of mid j ≤ gap.at) ⊎ (gap.at + size ≤ place_of mid j)
    by (inl q) = inl q
    by (inr q) = inr (omega (arith, q, m.room))

-- what a block that is put there leaves of the others
module _ (old mid new : Store) (slot size : ℕ) (gap : Gap) (m : MakesRoom old mid slot size gap) (laid : IsLaidOut new) where
  stays : (b : Option Block) → new ≡ with_block mid slot b gap.at → LockedStay old new slot
  stays b e j ne locked = ap (λ s. place_of s j) e ∙ get_or-set_other mid.places slot j gap.at 0 ne ∙ m.stay j ne locked

  pub grows : new ≡ with_block mid slot (grown_block mid slot size) gap.at → Grows old new slot size
  grows e = record {
    blocks = ap (λ s. s.blocks) e ∙ ap (λ bs. let s : Store = record { blocks = bs; places = mid.places; len = mid.len } in
        set bs slot (grown_block s slot size)) m.blocks;
    stay = stays (grown_block mid slot size) e;
    laid = laid;
    len = ap (λ s. s.len) e ∙ m.len;
  }

  pub makes : new ≡ with_block mid slot (new_block size) gap.at → Makes old new slot size
  makes e = record {
    blocks = ap (λ s. s.blocks) e ∙ ap (λ bs. set bs slot (new_block size)) m.blocks;
    stay = stays (new_block size) e;
    laid = laid;
    len = ap (λ s. s.len) e ∙ m.len;
  }

-- bytes that a block takes of those that are free
pub count-taken : (S S' : Store) (free more : ℕ) → IsFreeCount S free → all_sizes S' ≡ all_sizes S + more → S'.len ≡ S.len
    → more ≤ free → IsFreeCount S' (free - more)
count-taken S S' free more count sizes len fits = record {
  counted = omega (arith, count.counted, sizes, ap (λ l. l.most) len, fits);
  within = omega (arith, count.within, ap (λ l. l.most) len, ap (λ l. l.region) len);
  short = omega (arith, count.short, ap (λ l. l.region) len);
}

-- the gap that follows a block which has moved into it
ready-grown_block : (old mid new : Store) (slot size : ℕ) (gap : Gap) → MakesRoom old mid slot size gap → IsThere old slot
    → size_of old slot ≤ size → new ≡ with_block mid slot (grown_block mid slot size) gap.at → IsLaidOut new
    → IsReady new (record { at = gap.at + size; end = gap.end })
ready-grown_block old mid new slot size gap m was-there was-more e laid = record {
  laid = laid;
  room = record {
    ordered = m.room;
    inside = omega (arith, m.inside, ap (λ s. s.len.region) e);
    free =
        λ j. subst (λ s. (end_of s j ≤ gap.at + size) ⊎ (gap.end ≤ place_of s j)) (sym e) (each j);
  };
}
  where
    there : IsThere mid slot
    there = subst (λ bs. IsBlock (slice_index_or bs slot None)) (sym m.blocks) was-there

    more : size_of mid slot ≤ size
    more = omega (arith, was-more, size_along old mid m.blocks slot)

    whole : length (bytes_in (grown_block mid slot size)) ≡ size
    whole = length-grown mid slot size more

    d : Differs mid (with_block mid slot (grown_block mid slot size) gap.at) slot (length (bytes_in (grown_block mid slot size))) gap.at
    d = with_block-differs mid slot (grown_block mid slot size) gap.at m.laid (there_small mid slot m.laid there)

    other : (j : ℕ) → j ≢ slot → (end_of mid j ≤ gap.at) ⊎ (gap.end ≤ place_of mid j)
        → (end_of (with_block mid slot (grown_block mid slot size) gap.at) j ≤ gap.at + size) ⊎
        (gap.end ≤ place_of (with_block mid slot (grown_block mid slot size) gap.at) j)
    other j ne (inl q) = inl (omega (arith, q, d.sizes j ne, d.places j ne))
    other j ne (inr q) = inr (omega (arith, q, d.places j ne))

    each : (j : ℕ) → (end_of (with_block mid slot (grown_block mid slot size) gap.at) j ≤ gap.at + size) ⊎
        (gap.end ≤ place_of (with_block mid slot (grown_block mid slot size) gap.at) j)
    each j = elim (cases_eq j slot) as (λ _. (end_of (with_block mid slot (grown_block mid slot size) gap.at) j ≤ gap.at + size) ⊎
        (gap.end ≤ place_of (with_block mid slot (grown_block mid slot size) gap.at) j)) [
          | inl q ↦ inl (omega (arith, ap (end_of (with_block mid slot (grown_block mid slot size) gap.at)) q, d.size, d.place, whole))
          | inr ne ↦ other j ne (m.free j ne)
        ]

-- a block that grows takes its bytes of those that are free
module _ (old mid new : Store) (slot size free more : ℕ) (gap : Gap) (m : MakesRoom old mid slot size gap)
    (there : IsThere old slot) (grows : size_of old slot ≤ size) (by : more ≡ size - size_of old slot) (fits : more ≤ free)
    (laid_old : IsLaidOut old) (count : IsFreeCount old free)
    (e : new ≡ with_block mid slot (grown_block mid slot size) gap.at) (laid : IsLaidOut new) where
  small : slot < 2048
  small = there_small old slot laid_old there

  grown-taken : IsFreeCount new (free - more)
  grown-taken =
      let long : length (bytes_in (grown_block mid slot size)) ≡ size = length-grown mid slot size
      (omega (arith, grows, size_along old mid m.blocks slot)) in
      count-taken old new free more count
      (omega (arith, by, grows, long, sizes-with_block old mid new slot gap.at (grown_block mid slot size) m.blocks m.laid small e))
      (ap (λ s. s.len) e ∙ m.len) fits

  pub kept-grown_block : (words : List ℕ) (held : ℕ) → IsUsed old words → IsLockSum old held
      → IsKept new (record { at = gap.at + size; end = gap.end }) words (free - more) held
  kept-grown_block words held u locked =
      let bit : bit_of words slot ≡ 1 = bit-there old words slot small there u in
      record {
        ready = ready-grown_block old mid new slot size gap m there grows e laid;
        used = used-with_block mid new words words slot (grown_block mid slot size) gap.at 1 small m.laid e
            (record { here = bit; others = λ j ne. refl; long = refl }) (λ _. tt) (λ z. absurd (omega (arith, z)))
            (used-blocks old mid words m.blocks u);
        count = grown-taken;
        locked = lock-sum-with_block old mid new slot gap.at held (grown_block mid slot size) m.blocks m.laid small e
            (ap (λ bs. locks_in (slice_index_or bs slot None)) m.blocks) locked;
      }

pub kept-locks : {free held now : ℕ} (S S' : Store) (gap : Gap) (words : List ℕ) (slot n : ℕ) → IsThere S slot
    → S' ≡ with_locks S slot n → IsLockSum S' now → IsKept S gap words free held → IsKept S' gap words free now
kept-locks {free} {held} {now} S S' gap words slot n h e locked k =
    subst (λ s. IsKept s gap words free now) (sym e)
    (kept-same S (with_locks S slot n) gap words (with_locks-shape S slot n k.ready.laid h) (subst (λ s. IsLockSum s now) e locked) k)

-- a new block takes its bytes of those that are free
pub made-taken : (old mid new : Store) (slot size free : ℕ) (gap : Gap) → MakesRoom old mid slot size gap → slot < 2048
    → (IsThere old slot → ⊥) → IsFreeCount old free → size ≤ free → new ≡ with_block mid slot (new_block size) gap.at → IsLaidOut new
    → IsFreeCount new (free - size)
made-taken old mid new slot size free gap m small absent count fits e laid =
    count-taken old new free size count
    (omega (
      arith,
      size_of_none old slot absent,
      length-replicate {A = ℕ} size 0,
      sizes-with_block old mid new slot
          gap.at (new_block size) m.blocks m.laid small e,
    )) (ap (λ s. s.len) e ∙ m.len) fits

-- the gap beside a block that was made in it
pub kept-made : (old mid new : Store) (slot size free held : ℕ) (gap : Gap) (words words' : List ℕ)
    → MakesRoom old mid slot size gap → slot < 2048 → (IsThere old slot → ⊥) → IsUsed old words → IsLockSum old held
    → IsFreeCount new (free - size) → new ≡ with_block mid slot (new_block size) gap.at → IsLaidOut new → SetsBit words words' slot 1
    → IsKept new (record { at = gap.at + size; end = gap.end }) words' (free - size) held
kept-made old mid new slot size free held gap words words' m small absent u locked count e laid set = record {
  ready = record {
    laid = laid;
    room = record {
      ordered = m.room;
      inside = omega (arith, m.inside, ap (λ s. s.len.region) e);
      free =
          λ j. subst (λ s. (end_of s j ≤ gap.at + size) ⊎ (gap.end ≤ place_of s j)) (sym e) (each j);
    };
  };
  used = used-with_block mid new words words' slot (new_block size) gap.at 1 small m.laid e set (λ _. tt)
      (λ z. absurd (omega (arith, z))) (used-blocks old mid words m.blocks u);
  count = count;
  locked = lock-sum-with_block old mid new slot gap.at held (new_block size) m.blocks m.laid small e (sym (locks_of_none old slot absent)) locked;
}
  where
    d : Differs mid (with_block mid slot (new_block size) gap.at) slot (length (bytes_in (new_block size))) gap.at
    d = with_block-differs mid slot (new_block size) gap.at m.laid small

    other : (j : ℕ) → j ≢ slot → (end_of mid j ≤ gap.at) ⊎ (gap.end ≤ place_of mid j)
        → (end_of (with_block mid slot (new_block size) gap.at) j ≤ gap.at + size) ⊎
        (gap.end ≤ place_of (with_block mid slot (new_block size) gap.at) j)
    other j ne (inl q) = inl (omega (arith, q, d.sizes j ne, d.places j ne))
    other j ne (inr q) = inr (omega (arith, q, d.places j ne))

    each : (j : ℕ) → (end_of (with_block mid slot (new_block size) gap.at) j ≤ gap.at + size) ⊎
        (gap.end ≤ place_of (with_block mid slot (new_block size) gap.at) j)
    each j = elim (cases_eq j slot) as (λ _. (end_of (with_block mid slot (new_block size) gap.at) j ≤ gap.at + size) ⊎
        (gap.end ≤ place_of (with_block mid slot (new_block size) gap.at) j)) [
          | inl q ↦ inl (omega (arith, ap (end_of (with_block mid slot (new_block size) gap.at)) q, d.size, d.place, length-replicate {A = ℕ} size 0))
          | inr ne ↦ other j ne (m.free j ne)
        ]

-- the gap after a block has left, which may have lain beside it
module _ (S : Store) (slot : ℕ) (laid : IsLaidOut S) (there : IsThere S slot) where
  abbrev F : Store
  F = with_block S slot None 0

  gone : Differs S F slot 0 0
  gone = with_block-differs S slot None 0 laid (there_small S slot laid there)

  -- what is free except for the block is free once the block is gone
  freed-range : (a b : ℕ) → ((j : ℕ) → j ≢ slot → (end_of S j ≤ a) ⊎ (b ≤ place_of S j)) → IsFree F a b
  freed-range a b h j = elim (cases_eq j slot) as (λ _. (end_of F j ≤ a) ⊎ (b ≤ place_of F j)) [
    | inl q ↦ inl (omega (arith, ap (end_of F) q, gone.size, gone.place))
    | inr ne ↦ other ne (h j ne)
  ]
    where
      other : j ≢ slot → (end_of S j ≤ a) ⊎ (b ≤ place_of S j) → (end_of F j ≤ a) ⊎ (b ≤ place_of F j)
      other ne (inl q) = inl (omega (arith, q, gone.sizes j ne, gone.places j ne))
      other ne (inr q) = inr (omega (arith, q, gone.places j ne))

  -- what has no byte is nowhere
  nowhere : (a b j : ℕ) → size_of S j ≡ 0 → (end_of S j ≤ a) ⊎ (b ≤ place_of S j)
  nowhere a b j z = inl (omega (arith, z, laid.none j z))

  -- a free range together with the block directly before it is free except for this block
  before : (gap : Gap) (place end : ℕ) → place ≡ place_of S slot → end ≡ end_of S slot → end ≡ gap.at → IsFree S gap.at gap.end
      → IsFreeBut S slot place gap.end
  before gap place end ep ee meets free j ne = by (free j) (laid.apart j slot ne)
    where
      by : (end_of S j ≤ gap.at) ⊎ (gap.end ≤ place_of S j) → Apart S j slot → (end_of S j ≤ place) ⊎ (gap.end ≤ place_of S j)
      by (inr q) a = inr q
      by (inl q) (inl a) = inl (omega (arith, a, ep))
      by (inl q) (inr a) = nowhere place gap.end j (omega (arith, q, a, ee, meets))

  pub reached-gap : (gap gap' : Gap) (place end : ℕ) → place ≡ place_of S slot → end ≡ end_of S slot → IsGap S gap
      → Reaches gap place end gap' → IsGapBut S slot gap'
  reached-gap gap gap' place end ep ee g (inl (meets, is)) =
      let at : gap'.at ≡ place = ap (λ x. x.at) is in
      let stop : gap'.end ≡ gap.end = ap (λ x. x.end) is in
      record {
        ordered = omega (arith, at, stop, ep, ee, meets, g.ordered);
        inside = omega (arith, stop, g.inside);
        free =
            rw (at, stop) (before gap place end ep ee meets g.free);
      }
  reached-gap gap gap' place end ep ee g (inr is) =
      let at : gap'.at ≡ gap.at = ap (λ x. x.at) is in
      let stop : gap'.end ≡ gap.end = ap (λ x. x.end) is in
      record { ordered = omega (arith, at, stop, g.ordered); inside = omega (arith, stop, g.inside); free = rw (at, stop) (λ j ne. g.free j) }

  freed-gap : (gap gap' : Gap) (place end : ℕ) → place ≡ place_of S slot → end ≡ end_of S slot → IsGap S gap → Joins gap place end gap' → IsGap F gap'
  freed-gap gap gap' place end ep ee g (inl (meets, is)) =
      let at : gap'.at ≡ place = ap (λ x. x.at) is in
      let stop : gap'.end ≡ gap.end = ap (λ x. x.end) is in
      record {
        ordered = omega (arith, at, stop, ep, ee, meets, g.ordered);
        inside = omega (arith, stop, g.inside);
        free =
            rw (at, stop) (freed-range place gap.end (before gap place end ep ee meets g.free));
      }
  freed-gap gap gap' place end ep ee g (inr (inl (meets, is))) =
      let at : gap'.at ≡ gap.at = ap (λ x. x.at) is in
      let stop : gap'.end ≡ end = ap (λ x. x.end) is in
      record {
        ordered = omega (arith, at, stop, ep, ee, meets, g.ordered);
        inside = omega (arith, stop, ee, laid.within slot);
        free = rw (at, stop) (freed-range gap.at end (λ j ne. by j (g.free j) (laid.apart j slot ne)));
      }
    where
      by : (j : ℕ) → (end_of S j ≤ gap.at) ⊎ (gap.end ≤ place_of S j) → Apart S j slot → (end_of S j ≤ gap.at) ⊎ (end ≤ place_of S j)
      by j (inl q) a = inl q
      by j (inr q) (inr a) = inr (omega (arith, a, ee))
      by j (inr q) (inl a) = nowhere gap.at end j (omega (arith, q, a, ep, meets))
  freed-gap gap gap' place end ep ee g (inr (inr (inl is))) =
      let at : gap'.at ≡ place = ap (λ x. x.at) is in
      let stop : gap'.end ≡ end = ap (λ x. x.end) is in
      record {
        ordered = omega (arith, at, stop, ep, ee);
        inside = omega (arith, stop, ee, laid.within slot);
        free = rw (at, stop) (freed-range place end (λ j ne. by j (laid.apart j slot ne)));
      }
    where
      by : (j : ℕ) → Apart S j slot → (end_of S j ≤ place) ⊎ (end ≤ place_of S j)
      by j (inl a) = inl (omega (arith, a, ep))
      by j (inr a) = inr (omega (arith, a, ee))
  freed-gap gap gap' place end ep ee g (inr (inr (inr is))) =
      let at : gap'.at ≡ gap.at = ap (λ x. x.at) is in
      let stop : gap'.end ≡ gap.end = ap (λ x. x.end) is in
      record {
        ordered = omega (arith, at, stop, g.ordered);
        inside = omega (arith, stop, g.inside);
        free =
            rw (at, stop) (freed-range gap.at gap.end (λ j ne. g.free j));
      }

  -- its bytes are free
  pub count-freed : (S' : Store) (free place end : ℕ) → S' ≡ with_block S slot None 0 → place ≡ place_of S slot
      → end ≡ end_of S slot → IsFreeCount S free → IsFreeCount S' (free + (end - place))
  count-freed S' free place end e ep ee count = record {
    counted = omega (
      arith,
      ep,
      ee,
      count.counted,
      ap (λ s. s.len.most) e,
      sizes-with_block S S S' slot 0 None refl laid
          (there_small S slot laid there) e,
    );
    within = omega (arith, count.within, ap (λ s. s.len.most) e, ap (λ s. s.len.region) e);
    short = omega (arith, count.short, ap (λ s. s.len.region) e);
  }

  pub kept-freed : (S' : Store) (gap gap' : Gap) (words words' : List ℕ) (free held place end : ℕ) → S' ≡ with_block S slot None 0
      → IsLaidOut S' → place ≡ place_of S slot → end ≡ end_of S slot → locks_of S slot ≡ 0 → Joins gap place end gap'
      → SetsBit words words' slot 0 → IsKept S gap words free held → IsKept S' gap' words' (free + (end - place)) held
  kept-freed S' gap gap' words words' free held place end e laid' ep ee unlocked joins set k = record {
    ready = record { laid = laid'; room = subst (λ s. IsGap s gap') (sym e) (freed-gap gap gap' place end ep ee k.ready.room joins) };
    used = used-with_block S S' words words' slot None 0 0 (there_small S slot laid there) laid e set
        (λ z. absurd (omega (arith, z))) (λ _ h. h) k.used;
    count = count-freed S' free place end e ep ee k.count;
    locked = lock-sum-with_block S S S' slot 0 held None refl laid (there_small S slot laid there) e (sym unlocked) k.locked;
  }

-- another limit, which is not below what blocks have
pub kept-limited : (S : Store) (gap : Gap) (words : List ℕ) (free held more : ℕ) → IsKept S gap words free held
    → more + all_sizes S ≤ region_len S → IsKept (with_most S (more + all_sizes S)) gap words more held
kept-limited S gap words free held more k fits = record {
  ready = record {
    laid = laid-limits S (record { most = more + all_sizes S; handles = S.len.handles }) k.ready.laid;
    room = record { ordered = k.ready.room.ordered; inside = k.ready.room.inside; free = k.ready.room.free };
  };
  used = record { long = k.used.long; there = k.used.there; none = k.used.none };
  count = record { counted = refl; within = fits; short = k.count.short };
  locked = record { added = k.locked.added; each = k.locked.each };
}
