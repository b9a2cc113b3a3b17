-- How many bytes all blocks have together, and that a request has no room where too few are free.
use Rattle.std.proofs.Common.{◌≡◌, ℕ, zero, suc, ◌+◌, ◌≤◌, ◌<◌, Option, None, length, slice_index_or, refl, ap, ◌∙◌, arith, inl, inr}
use Rattle.std.proofs.lemmas.Bool.{cases_eq}
use Rattle.block_handles.specs.Change.{with_block}
use Rattle.block_handles.specs.Layout.{IsLaidOut}
use Rattle.block_handles.specs.Store.{Block, Store, block_at, bytes_in, size_of, slot_count}
use Rattle.block_handles.specs.Stretch.{total, other_size, all_sizes, other_sizes, IsOver, HasNoRoom, HasNoStretch}
use Rattle.block_handles.specs.Used.{IsFreeCount}
use Rattle.block_handles.proofs.Layouts.{Differs, SameShape, with_block-differs, there_of_size, there_small}
use Rattle.block_handles.proofs.Packs.{size_along}
use Rattle.block_handles.proofs.Sums.{total-same, total-none, total-one, other-but, other-other}

-- where each number is at most another
pub total-less : (n : ℕ) (f g : ℕ → ℕ) → ((j : ℕ) → j < n → f j ≤ g j) → total n f ≤ total n g
total-less zero f g h = omega arith
total-less (suc n) f g h = omega (arith, h n (omega arith), total-less n f g (λ j lt. h j (omega (arith, lt))))

pub sizes-same : (S S' : Store) → SameShape S S' → all_sizes S' ≡ all_sizes S
sizes-same S S' shape = ap (λ n. total n (size_of S')) shape.slots ∙ total-same (slot_count S) (size_of S') (size_of S) shape.sizes

pub sizes-none : (S : Store) → ((slot : ℕ) → block_at S slot ≡ None) → all_sizes S ≡ 0
sizes-none S none = total-none (slot_count S) (size_of S) (λ j. ap (λ b. length (bytes_in b)) (none j))

-- after one block, which may have moved with others, has other bytes, or goes
pub sizes-with_block : (old mid new : Store) (slot at : ℕ) (b : Option Block) → mid.blocks ≡ old.blocks → IsLaidOut mid
    → slot < 2048 → new ≡ with_block mid slot b at → all_sizes new + size_of old slot ≡ all_sizes old + length (bytes_in b)
sizes-with_block old mid new slot at b same laid small e =
    let F : Store = with_block mid slot b at in
    let d : Differs mid F slot (length (bytes_in b)) at = with_block-differs mid slot b at laid small in
    let is : all_sizes new ≡ all_sizes F = ap all_sizes e in
    let slots : all_sizes F ≡ total (slot_count mid) (size_of F) = ap (λ n. total n (size_of F)) d.slots in
    let one : total (slot_count mid) (size_of F) + size_of mid slot ≡ all_sizes mid + size_of F slot =
    total-one (slot_count mid) (size_of F) (size_of mid) slot (omega (arith, small, laid.slots)) d.sizes in
    let along : all_sizes mid ≡ all_sizes old = ap (λ bs. total (length bs) (λ j. length (bytes_in (slice_index_or bs j None)))) same in
    omega (arith, is, slots, one, along, d.size, size_along old mid same slot)

module _ (S : Store) (laid : IsLaidOut S) where
  -- all others, and the one
  sizes-but : (but : ℕ) → all_sizes S ≡ other_sizes S but + size_of S but
  sizes-but but = elim (cases_eq (size_of S but) 0) as (λ _. all_sizes S ≡ other_sizes S but + size_of S but) [
    | inl none ↦
        let same : other_sizes S but ≡ all_sizes S = total-same (slot_count S) (other_size S but) (size_of S)
        (λ j. elim (cases_eq j but) as (λ _. other_size S but j ≡ size_of S j) [
          | inl e ↦ omega (arith, other-but S but j e, none, ap (size_of S) e)
          | inr ne ↦ other-other S but j ne
        ]) in
        omega (arith, same, none)
    | inr some ↦
        let small : but < slot_count S = omega (arith, laid.slots, there_small S but laid (there_of_size S but (omega (arith, some)))) in
        omega (arith, total-one (slot_count S) (other_size S but) (size_of S) but small (other-other S but), other-but S but but refl)
  ]

  -- where too few bytes are free for so many more in one block, it has no room
  pub lacking : (free more : ℕ) → IsFreeCount S free → free < more → (slot size : ℕ) → size ≡ size_of S slot + more → HasNoRoom S slot size
  lacking free more count few slot size is =
      let over : IsOver S slot size = omega (arith, is, few, count.counted, sizes-but slot) in
      record { full = inl over; crowded = omega (arith, over) }

-- where no stretch has room, the limit leaves none
pub no-stretch : (S : Store) (free slot size : ℕ) → IsFreeCount S free → HasNoStretch S slot size → HasNoRoom S slot size
no-stretch S free slot size count none = record { full = inr none.full; crowded = omega (arith, none.crowded, count.within) }
