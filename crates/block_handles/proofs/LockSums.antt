-- How often the blocks of the VM file are locked together, after what calls do.
use Rattle.std.proofs.Common.{◌≡◌, ◌≢◌, ℕ, zero, suc, ◌+◌, ◌-◌, ◌*◌, ◌≤◌, ◌<◌, List, [], ◌∷◌, length, true, false, Option, Some, None, slice_index_or, refl, ap, sym, subst, ◌∙◌, arith, inl, inr}
use Rattle.std.specs.Prelude.{nat_le, if◌then◌else◌}
use Rattle.std.proofs.lemmas.List.{length-set, get_or-set_same, get_or-set_other}
use Rattle.std.proofs.lemmas.Bool.{cases_eq, cases_lt, le-leb, false_from_ne_true, leb-true}
use Rattle.std.proofs.lemmas.Bool.Decides.{nat_tests}
use Rattle.geos_terms.specs.declared.name.Name.{Name}
use Rattle.geos_terms.specs.declared.name.Owner.{Owner}
use Rattle.geos_terms.specs.declared.name.Owner.TheVariants.{Mem, Vm}
use Rattle.geos_terms.specs.Names.{vm}
use Rattle.block_handles.specs.Change.{with_block, with_locks, with_lock_more, with_lock_less, block_with_locks, blocks_with_bytes, with_bytes, block_after_write, blocks_after_write, after_write}
use Rattle.block_handles.specs.Layout.{IsLaidOut}
use Rattle.block_handles.specs.Names.{IsHandle, of_file, slot_of}
use Rattle.block_handles.specs.Store.{Block, Store, block_at, locks_in, locks_of, slot_count}
use Rattle.block_handles.specs.Stretch.{total, vm_locks, vm_locks_at}
use Rattle.block_handles.specs.Used.{IsLockSum}
use Rattle.block_handles.proofs.Counting.{total-less}
use Rattle.block_handles.proofs.Laws.{slot_of-handle}
use Rattle.block_handles.proofs.Sums.{total-same, total-both, total-none, total-one}

at-mem : (S : Store) (j : ℕ) → j < 1024 → vm_locks_at S j ≡ 0
at-mem S j low = grind (arith, nat_tests)

at-file : (S : Store) (j : ℕ) → 1024 ≤ j → vm_locks_at S j ≡ locks_of S j
at-file S j high = grind (arith, nat_tests)

at-same : (S S' : Store) (j : ℕ) → locks_of S' j ≡ locks_of S j → vm_locks_at S' j ≡ vm_locks_at S j
at-same S S' j same = ap (λ n. if nat_le 1024 j then n else 0) same

-- where each block is locked as often
pub lock-sum-same : (S S' : Store) (held : ℕ) → slot_count S' ≡ slot_count S → ((j : ℕ) → locks_of S' j ≡ locks_of S j)
    → IsLockSum S held → IsLockSum S' held
lock-sum-same S S' held slots same is = record {
  added = is.added ∙ sym (ap (λ n. total n (vm_locks_at S')) slots ∙ total-same (slot_count S) (vm_locks_at S')
      (vm_locks_at S) (λ j. at-same S S' j (same j)));
  each = λ j. omega (arith, same j, is.each j);
}

pub lock-sum-none : (S : Store) → ((j : ℕ) → block_at S j ≡ None) → IsLockSum S 0
lock-sum-none S none = record {
  added = sym (total-none (slot_count S) (vm_locks_at S) (λ j. elim (cases_lt j 1024) as (λ _. vm_locks_at S j ≡ 0) [
    | inl low ↦ at-mem S j low
    | inr high ↦ at-file S j high ∙ ap locks_in (none j)
  ]));
  each = λ j. omega (arith, ap locks_in (none j));
}

-- writes leave counts

block_after_write-locks : (b : Option Block) (place at : ℕ) (ws : List ℕ) → locks_in (block_after_write b place at ws) ≡ locks_in b
block_after_write-locks None place at ws = refl
block_after_write-locks (Some b) place at ws = refl

all-locks : (at : ℕ) (ws : List ℕ) (bs : List (Option Block)) (ps : List ℕ) (j : ℕ)
    → locks_in (slice_index_or (blocks_after_write bs ps at ws) j None) ≡ locks_in (slice_index_or bs j None)
all-locks at ws [] ps j = refl
all-locks at ws (b ∷ bs) [] j = refl
all-locks at ws (b ∷ bs) (p ∷ ps) zero = block_after_write-locks b p at ws
all-locks at ws (b ∷ bs) (p ∷ ps) (suc j) = all-locks at ws bs ps j

pub after_write-locks : (S : Store) (at : ℕ) (ws : List ℕ) (j : ℕ) → locks_of (after_write S at ws) j ≡ locks_of S j
after_write-locks S at ws j = all-locks at ws S.blocks S.places j

blocks_with_bytes-locks : (bs : List (Option Block)) (i : ℕ) (ws : List ℕ) (j : ℕ)
    → locks_in (slice_index_or (blocks_with_bytes bs i ws) j None) ≡ locks_in (slice_index_or bs j None)
blocks_with_bytes-locks [] i ws j = refl
blocks_with_bytes-locks (None ∷ bs) zero ws j = refl
blocks_with_bytes-locks (Some b ∷ bs) zero ws zero = refl
blocks_with_bytes-locks (Some b ∷ bs) zero ws (suc j) = refl
blocks_with_bytes-locks (None ∷ bs) (suc i) ws zero = refl
blocks_with_bytes-locks (Some b ∷ bs) (suc i) ws zero = refl
blocks_with_bytes-locks (None ∷ bs) (suc i) ws (suc j) = blocks_with_bytes-locks bs i ws j
blocks_with_bytes-locks (Some b ∷ bs) (suc i) ws (suc j) = blocks_with_bytes-locks bs i ws j

pub with_bytes-locks : (S : Store) (i : ℕ) (ws : List ℕ) (j : ℕ) → locks_of (with_bytes S i ws) j ≡ locks_of S j
with_bytes-locks S i ws j = blocks_with_bytes-locks S.blocks i ws j

-- a slot gets a block that is locked as often as what was there, or loses one that was not locked
pub lock-sum-with_block : (old mid new : Store) (slot at held : ℕ) (b : Option Block) → mid.blocks ≡ old.blocks
    → IsLaidOut mid → slot < 2048 → new ≡ with_block mid slot b at → locks_in b ≡ locks_of old slot → IsLockSum old held → IsLockSum new held
lock-sum-with_block old mid new slot at held b same laid small e counts is = lock-sum-same old new held
    (ap slot_count e ∙ length-set mid.blocks slot b ∙ ap length same) each is
  where
    along : (j : ℕ) → locks_of mid j ≡ locks_of old j
    along j = ap (λ bs. locks_in (slice_index_or bs j None)) same

    each : (j : ℕ) → locks_of new j ≡ locks_of old j
    each j = ap (λ s. locks_of s j) e ∙ elim (cases_eq j slot) as (λ _. locks_of (with_block mid slot b at) j ≡ locks_of old j) [
      | inl q ↦ ap (locks_of (with_block mid slot b at)) q ∙ ap locks_in (get_or-set_same mid.blocks slot b None (omega (arith, small, laid.slots)))
          ∙ counts ∙ ap (locks_of old) (sym q)
      | inr ne ↦ ap locks_in (get_or-set_other mid.blocks slot j b None ne) ∙ along j
    ]

-- one count is set
module _ (S : Store) (slot n : ℕ) (laid : IsLaidOut S) (small : slot < 2048) where
  abbrev L : Store
  L = with_locks S slot n

  here : locks_of L slot ≡ n
  here = ap locks_in (get_or-set_same S.blocks slot (block_with_locks S slot n) None (omega (arith, small, laid.slots)))

  other : (j : ℕ) → j ≢ slot → locks_of L j ≡ locks_of S j
  other j ne = ap locks_in (get_or-set_other S.blocks slot j (block_with_locks S slot n) None ne)

  each-set : n ≤ 65535 → ((j : ℕ) → locks_of S j ≤ 65535) → (j : ℕ) → locks_of L j ≤ 65535
  each-set few all j = elim (cases_eq j slot) as (λ _. locks_of L j ≤ 65535) [
    | inl e ↦ omega (arith, ap (locks_of L) e, here, few)
    | inr ne ↦ omega (arith, other j ne, all j)
  ]

  set-one : vm_locks L + vm_locks_at S slot ≡ vm_locks S + vm_locks_at L slot
  set-one =
      let one : total (slot_count S) (vm_locks_at L) + vm_locks_at S slot ≡ vm_locks S + vm_locks_at L slot =
      total-one (slot_count S) (vm_locks_at L) (vm_locks_at S) slot (omega (arith, small, laid.slots)) (λ j ne. at-same S L j (other j ne)) in
      let slots : vm_locks L ≡ total (slot_count S) (vm_locks_at L) = ap (λ n. total n (vm_locks_at L))
      (length-set S.blocks slot (block_with_locks S slot n)) in
      omega (arith, one, slots)

  set-mem : slot < 1024 → vm_locks L ≡ vm_locks S
  set-mem low = omega (arith, set-one, at-mem S slot low, at-mem L slot low)

  set-file : 1024 ≤ slot → vm_locks L + locks_of S slot ≡ vm_locks S + n
  set-file high = omega (arith, set-one, at-file S slot high, at-file L slot high, here)

total-most : (n most : ℕ) (f : ℕ → ℕ) → ((j : ℕ) → f j ≤ most) → total n f ≤ n * most
total-most zero most f h = omega arith
total-most (suc n) most f h = omega (arith, h n, total-most n most f h)

pub lock-sum-small : (S : Store) (held : ℕ) → IsLaidOut S → IsLockSum S held → held ≤ 134215680
lock-sum-small S held laid is =
    let most : vm_locks S ≤ slot_count S * 65535 = total-most (slot_count S) 65535 (vm_locks_at S)
    (λ j. elim (cases_lt j 1024) as (λ _. vm_locks_at S j ≤ 65535) [
      | inl low ↦ omega (arith, at-mem S j low)
      | inr high ↦ omega (arith, at-file S j high, is.each j)
    ]) in
    omega (arith, is.added, most, laid.slots)

-- a number among those that are added
total-least : (n : ℕ) (f : ℕ → ℕ) (k : ℕ) → k < n → f k ≤ total n f
total-least zero f k lt = absurd (omega (arith, lt))
total-least (suc n) f k lt = elim (cases_eq k n) as (λ _. f k ≤ f n + total n f) [
  | inl e ↦ omega (arith, ap f e)
  | inr ne ↦ omega (arith, total-least n f k (omega (arith, lt, ne)))
]

pub of_file-small : (owner : Owner) → of_file owner ≤ 1
of_file-small Mem = omega arith
of_file-small Vm = omega arith

module _ (S : Store) (laid : IsLaidOut S) (slot held : ℕ) (is : IsLockSum S held) where
  more : (owner : Owner) (h : ℕ) → IsHandle h → slot ≡ slot_of (record { owner = owner; h = h }) → locks_of S slot ≢ 65535
      → IsLockSum (with_locks S slot (locks_of S slot + 1)) (held + of_file owner)
  more Mem h handle at few =
      let low : slot < 1024 = omega (arith, at, slot_of-handle Mem h handle, handle.0, handle.1) in
      let small : slot < 2048 = omega (arith, low) in
      record {
        added = omega (arith, is.added, set-mem S slot (locks_of S slot + 1) laid small low);
        each = each-set S slot (locks_of S slot + 1) laid small (omega (arith, few, is.each slot)) is.each;
      }
  more Vm h handle at few =
      let there : slot ≡ 1024 + (h - 1) = at ∙ slot_of-handle Vm h handle in
      let high : 1024 ≤ slot = omega (arith, there) in
      let small : slot < 2048 = omega (arith, there, handle.0, handle.1) in
      let n : ℕ = locks_of S slot + 1 in
      record {
        added = omega (arith, is.added, set-file S slot n laid small high);
        each = each-set S slot n laid small (omega (arith, few, is.each slot)) is.each;
      }

  less : (owner : Owner) (h : ℕ) → IsHandle h → slot ≡ slot_of (record { owner = owner; h = h }) → 0 < locks_of S slot
      → (of_file owner ≤ held) × IsLockSum (with_locks S slot (locks_of S slot - 1)) (held - of_file owner)
  less Mem h handle at some =
      let low : slot < 1024 = omega (arith, at, slot_of-handle Mem h handle, handle.0, handle.1) in
      let small : slot < 2048 = omega (arith, low) in (
        omega arith,
        record {
          added = omega (arith, is.added, set-mem S slot (locks_of S slot - 1) laid small low);
          each = each-set S slot (locks_of S slot - 1) laid small (omega (arith, is.each slot)) is.each;
        },
      )
  less Vm h handle at some =
      let there : slot ≡ 1024 + (h - 1) = at ∙ slot_of-handle Vm h handle in
      let high : 1024 ≤ slot = omega (arith, there) in
      let small : slot < 2048 = omega (arith, there, handle.0, handle.1) in
      let n : ℕ = locks_of S slot - 1 in
      let among : vm_locks_at S slot ≤ vm_locks S = total-least (slot_count S) (vm_locks_at S) slot (omega (arith, small, laid.slots)) in (
        omega (arith, is.added, among, some, at-file S slot high),
        record {
          added = omega (arith, is.added, some, set-file S slot n laid small high);
          each = each-set S slot n laid small (omega (arith, is.each slot)) is.each;
        },
      )

-- a named block is locked once more
pub lock-sum-more : (S S' : Store) (name : Name) (slot held : ℕ) → IsLaidOut S → IsHandle name.h → slot ≡ slot_of name
    → locks_of S slot ≢ 65535 → S' ≡ with_lock_more S slot → IsLockSum S held → IsLockSum S' (held + of_file name.owner)
lock-sum-more S S' name slot held laid handle at few e is = subst (λ s. IsLockSum s (held + of_file name.owner))
    (sym e) (more S laid slot held is name.owner name.h handle at few)

-- or once less
pub lock-sum-less : (S S' : Store) (name : Name) (slot held : ℕ) → IsLaidOut S → IsHandle name.h → slot ≡ slot_of name
    → 0 < locks_of S slot → S' ≡ with_lock_less S slot → IsLockSum S held → (of_file name.owner ≤ held) × IsLockSum S' (held - of_file name.owner)
lock-sum-less S S' name slot held laid handle at some e is =
    let done = less S laid slot held is name.owner name.h handle at some in
    (done.0, subst (λ s. IsLockSum s (held - of_file name.owner)) (sym e) done.1)

-- what all counts together tell of each

-- where numbers are at most others, and as many together, they are the same
total-equal : (n : ℕ) (f g : ℕ → ℕ) → ((j : ℕ) → j < n → g j ≤ f j) → total n f ≤ total n g → (k : ℕ) → k < n → f k ≡ g k
total-equal zero f g h le k lt = absurd (omega (arith, lt))
total-equal (suc n) f g h le k lt =
    let last : g n ≤ f n = h n (omega arith) in
    let before : total n g ≤ total n f = total-less n g f (λ j lt. h j (omega (arith, lt))) in
    elim (cases_eq k n) as (λ _. f k ≡ g k) [
      | inl e ↦ omega (arith, ap f e, ap g e, le, last, before)
      | inr ne ↦ total-equal n f g (λ j lt. h j (omega (arith, lt))) (omega (arith, le, last)) k (omega (arith, lt, ne))
    ]

total-below : (n : ℕ) (f g : ℕ → ℕ) → ((j : ℕ) → j < n → f j ≡ g j) → total n f ≡ total n g
total-below zero f g h = refl
total-below (suc n) f g h = omega (arith, h n (omega arith), total-below n f g (λ j lt. h j (omega (arith, lt))))

-- the function on slots that has a handle's value at the slot of the file's block, and 0 at slots of global memory
abbrev pub at_slots : (ℕ → ℕ) → ℕ → ℕ
at_slots wanted slot = if nat_le 1024 slot then wanted (slot - 1023) else 0

module _ (S : Store) (laid : IsLaidOut S) (wanted : ℕ → ℕ) where
  slot-is : (h : ℕ) → IsHandle h → slot_of (vm h) ≡ 1024 + (h - 1)
  slot-is h handle = slot_of-handle Vm h handle

  wanted-at : (h : ℕ) → IsHandle h → at_slots wanted (1024 + (h - 1)) ≡ wanted h
  wanted-at h handle =
      let back : 1024 + (h - 1) - 1023 ≡ h = omega (arith, handle.0) in
      let test : nat_le 1024 (1024 + (h - 1)) ≡ true = le-leb 1024 (1024 + (h - 1)) (omega arith) in
      rw (test, back) refl

  locks-at : (h : ℕ) → IsHandle h → vm_locks_at S (1024 + (h - 1)) ≡ locks_of S (slot_of (vm h))
  locks-at h handle = at-file S (1024 + (h - 1)) (omega arith) ∙ ap (locks_of S) (sym (slot-is h handle))

  -- slot by slot, from handle by handle
  by-handles : (R : ℕ → ℕ → Type 0) → R 0 0 → ((h : ℕ) → IsHandle h → R (vm_locks_at S (1024 + (h - 1))) (at_slots wanted (1024 + (h - 1))))
      → (j : ℕ) → j < slot_count S → R (vm_locks_at S j) (at_slots wanted j)
  by-handles R none each j lt = elim (cases_lt j 1024) as (λ _. R (vm_locks_at S j) (at_slots wanted j)) [
    | inl low ↦
        let test : nat_le 1024 j ≡ false = false_from_ne_true (nat_le 1024 j) (λ t. omega (arith, leb-true 1024 j t, low)) in
        rw test none
    | inr high ↦
        let at : 1024 + (j - 1023 - 1) ≡ j = omega (arith, high) in
        subst (λ k. R (vm_locks_at S k) (at_slots wanted k)) at (each (j - 1023) (omega (arith, high), omega (arith, lt, laid.slots)))
  ]

  -- each block of the file is locked as often as this says, where none is locked less often, and all together not more often
  pub locked-as : ((h : ℕ) → IsHandle h → wanted h ≤ locks_of S (slot_of (vm h))) → vm_locks S ≤ total (slot_count S) (at_slots wanted)
      → (h : ℕ) → IsHandle h → locks_of S (slot_of (vm h)) ≡ wanted h
  locked-as least most h handle =
      let less : (j : ℕ) → j < slot_count S → at_slots wanted j ≤ vm_locks_at S j = by-handles (λ a b. b ≤ a)
      (omega arith) (λ k is. omega (arith, least k is, wanted-at k is, locks-at k is)) in
      let same : vm_locks_at S (1024 + (h - 1)) ≡ at_slots wanted (1024 + (h - 1)) = total-equal (slot_count S)
      (vm_locks_at S) (at_slots wanted) less most (1024 + (h - 1)) (omega (arith, laid.slots, handle.0, handle.1)) in
      sym (locks-at h handle) ∙ same ∙ wanted-at h handle

  -- all counts together are what that comes to
  pub locked-sum : ((h : ℕ) → IsHandle h → locks_of S (slot_of (vm h)) ≡ wanted h) → vm_locks S ≡ total (slot_count S) (at_slots wanted)
  locked-sum each = total-below (slot_count S) (vm_locks_at S) (at_slots wanted)
      (by-handles (λ a b. a ≡ b) refl (λ k is. locks-at k is ∙ each k is ∙ sym (wanted-at k is)))

-- sums of the values at handles

at-low : (wanted : ℕ → ℕ) (j : ℕ) → j < 1024 → at_slots wanted j ≡ 0
at-low wanted j low = let test : nat_le 1024 j ≡ false = false_from_ne_true (nat_le 1024 j) (λ t. omega (arith, leb-true 1024 j t, low)) in
    rw test refl

at-high : (wanted : ℕ → ℕ) (j : ℕ) → 1024 ≤ j → at_slots wanted j ≡ wanted (j - 1023)
at-high wanted j high = let test : nat_le 1024 j ≡ true = le-leb 1024 j high in rw test refl

pub wanted-none : (n : ℕ) (f : ℕ → ℕ) → ((h : ℕ) → f h ≡ 0) → total n (at_slots f) ≡ 0
wanted-none n f none = total-none n (at_slots f) (λ j. elim (cases_lt j 1024) as (λ _. at_slots f j ≡ 0) [
  | inl low ↦ at-low f j low
  | inr high ↦ at-high f j high ∙ none (j - 1023)
])

pub wanted-both : (n : ℕ) (f g both : ℕ → ℕ) → ((h : ℕ) → f h + g h ≡ both h) → total n (at_slots f) + total n (at_slots g) ≡ total n (at_slots both)
wanted-both n f g both e = total-both n (at_slots f) (at_slots g) (at_slots both)
    (λ j. elim (cases_lt j 1024) as (λ _. at_slots f j + at_slots g j ≡ at_slots both j) [
      | inl low ↦ omega (arith, at-low f j low, at-low g j low, at-low both j low)
      | inr high ↦ omega (arith, at-high f j high, at-high g j high, at-high both j high, e (j - 1023))
    ])

-- the sum is 1 if the value is 1 at one handle, and 0 at every other
pub wanted-once : (n k : ℕ) (f : ℕ → ℕ) → n ≡ 2048 → IsHandle k → f k ≡ 1 → ((h : ℕ) → h ≢ k → f h ≡ 0) → total n (at_slots f) ≡ 1
wanted-once n k f long handle here others =
    let at : 1023 + k - 1023 ≡ k = omega arith in
    let one : total n (at_slots f) + 0 ≡ total n (λ j. 0) + at_slots f (1023 + k) = total-one n (at_slots f) (λ j. 0)
    (1023 + k) (omega (arith, long, handle.1)) (λ j ne. elim (cases_lt j 1024) as (λ _. at_slots f j ≡ 0) [
      | inl low ↦ at-low f j low
      | inr high ↦ let other : j - 1023 ≢ k = omega (arith, ne, high) in at-high f j high ∙ others (j - 1023) other
    ]) in
    omega (arith, one, total-none n (λ j. 0) (λ j. refl), at-high f (1023 + k) (omega (arith, handle.0)), ap f at, here)

-- no block of the file is locked exactly where all counts together are 0
pub none-locked : (S : Store) → IsLaidOut S → vm_locks S ≡ 0 → (h : ℕ) → IsHandle h → locks_of S (slot_of (vm h)) ≡ 0
none-locked S laid none = locked-as S laid (λ h. 0) (λ h is. omega arith) (omega (arith, none))

pub locked-none : (S : Store) → IsLaidOut S → ((h : ℕ) → IsHandle h → locks_of S (slot_of (vm h)) ≡ 0) → vm_locks S ≡ 0
locked-none S laid each = locked-sum S laid (λ h. 0) each ∙ wanted-none (slot_count S) (λ h. 0) (λ h. refl)
