-- A device has continued from an earlier state if there is an image that a stop since then cannot have left.
use Rattle.std.proofs.Common.{◌≡◌, ◌∙◌, ◌⊎◌, ℕ, suc, List, [], ◌∷◌, ◌++◌, drop, get_or, length, map, refl, ap, sym, inl, inr, arith}
use Rattle.std.proofs.lemmas.Bool.{cases_eq}
use Rattle.std.proofs.lemmas.List.{drop_at}
use Rattle.lmem_raw.specs.Bytes.{with_part}
use Rattle.lmem_raw.proofs.Parts.{length-with_part}
use Rattle.vm_file.specs.Device.{AfterWrite, Passes}
use Rattle.vm_file.specs.Outcomes.{ReadsOnly, WritesOnly}
use Rattle.host_device.specs.declared.device.HostDevice.{HostDevice}
use Rattle.host_device.specs.Notes.{Note, Write, Sync}
use Rattle.host_device.specs.Journal.{GoesOn, Leaves, MayHaveLeft, MayLeave, at_once, bytes_of, journal_of, medium, performed, steps_of, told}

-- lists are the same or not, where elements are
module _ {X : Type 0} (either : (x y : X) → (x ≡ y) ⊎ (x ≡ y → ⊥)) where
  not-more : (y : X) (ys : List X) → [] ≡ y ∷ ys → ⊥
  not-more y ys e = absurd cc

  not-less : (x : X) (xs : List X) → x ∷ xs ≡ [] → ⊥
  not-less x xs e = absurd cc

  pub same-or-not : (xs ys : List X) → (xs ≡ ys) ⊎ (xs ≡ ys → ⊥)
  same-or-not [] [] = inl refl
  same-or-not [] (y ∷ ys) = inr (not-more y ys)
  same-or-not (x ∷ xs) [] = inr (not-less x xs)
  same-or-not (x ∷ xs) (y ∷ ys) = elim (either x y) [
    | inl same ↦ elim (same-or-not xs ys) [
      | inl rest ↦ inl (λ k. same k ∷ rest k)
      | inr other ↦ inr (λ e. other (ap (drop 1) e))
    ]
    | inr other ↦ inr (λ e. other (ap (λ zs. get_or zs 0 x) e))
  ]

-- what is so or not is so where it is not false
not-false : {P : Type 0} → P ⊎ (P → ⊥) → ((P → ⊥) → ⊥) → P
not-false (inl so) never = so
not-false (inr not) never = absurd (never not)

bytes-same : (xs ys : List ℕ) → (xs ≡ ys) ⊎ (xs ≡ ys → ⊥)
bytes-same = same-or-not cases_eq

-- the part of a list after a prefix is the rest after as many elements
behind : (front all more : List (List ℕ)) → all ≡ front ++ more → all ≡ front ++ drop (length front) all
behind front all more is = is ∙ ap (λ xs. front ++ xs) (sym (ap (drop (length front)) is ∙ drop_at front more (length front) refl))

-- what a stop leaves is as long as what the device holds
pub leaves-long : (bytes : List ℕ) (steps : List Note) (c : List ℕ) → Leaves bytes steps c → length c ≡ length bytes
leaves-long bytes [] c is = ap length is
leaves-long bytes (Write at stood given ∷ before) c left =
    left.2.long ∙ leaves-long (with_part bytes at stood) before left.0 left.1 ∙ length-with_part bytes at stood
leaves-long bytes (Sync ∷ before) c is = ap length is

longer-not : (bytes c : List ℕ) → length c ≡ length bytes → c ≡ 0 ∷ bytes → ⊥
longer-not bytes c long is = (let more : length c ≡ suc (length bytes) = ap length is in omega (arith, long, more))

module _ (old new : HostDevice) where
  -- a stop up to now left none that a stop now leaves not
  here : (c : List ℕ) → (MayLeave old c → ⊥) → MayHaveLeft old old c → ⊥
  here c never left = never (at_once old c left)

  -- it has continued if the contrary is false
  pub goes-if : ((GoesOn old new → ⊥) → ⊥) → GoesOn old new
  goes-if never =
      let front = map told (journal_of old) in
      let all = map told (journal_of new) in
      record {
        more = drop (length front) all;
        notes = not-false (same-or-not bytes-same all (front ++ drop (length front) all))
            (λ not. never (λ goes. not (behind front all goes.more goes.notes)));
        follows = λ host was. not-false (bytes-same (performed host (steps_of new)) (bytes_of new))
            (λ not. never (λ goes. not (goes.follows host was)));
      }

  -- an image that a stop now leaves not, and none of these
  goes-on : (images : List ℕ → Type 0) (c : List ℕ) → Passes MayHaveLeft old new images → (images c → ⊥) → (MayLeave old c → ⊥) → GoesOn old new
  goes-on images c passes never now = goes-if (λ lost. elim (passes old c (inr lost)) [
    | inl before ↦ here c now before
    | inr image ↦ never image
  ])

  now-long : (c : List ℕ) → MayLeave old c → length c ≡ length (bytes_of old)
  now-long c left = leaves-long (bytes_of old) (steps_of old) c left

  -- it was read at most
  pub goes-reading : ReadsOnly medium old new → GoesOn old new
  goes-reading reads =
      let c = 0 ∷ bytes_of old in
      let never : MayLeave old c → ⊥ = λ left. longer-not (bytes_of old) c (now-long c left) refl in
      goes-on (MayLeave old) c (reads.time tt) never never

  -- it was written to
  pub goes-writing : (at n : ℕ) → WritesOnly medium at n old new → GoesOn old new
  goes-writing at n writes =
      let c = 0 ∷ bytes_of old in
      goes-on (AfterWrite at n (MayLeave old)) c (writes.time tt)
      (λ left. longer-not (bytes_of old) c (left.2.long ∙ now-long left.0 left.1) refl)
      (λ left. longer-not (bytes_of old) c (now-long c left) refl)

-- bytes that are shorter than most, and as many as others are not
abbrev pub short : List ℕ → List ℕ
short [] = 0 ∷ []
short (b ∷ bs) = []

short-not : (bytes : List ℕ) → length (short bytes) ≡ length bytes → ⊥
short-not [] e = absurd (omega (arith, e))
short-not (b ∷ bs) e = absurd (omega (arith, e))

-- nothing so short may be left but what a stop left before
pub goes-past : (old new : HostDevice) (images : List ℕ → Type 0) → Passes MayHaveLeft old new images
    → (images [] → ⊥) → (images (0 ∷ []) → ⊥) → GoesOn old new
goes-past old new images passes none one =
    goes-on old new images (short (bytes_of old)) passes (by (bytes_of old))
    (λ left. short-not (bytes_of old) (now-long old new (short (bytes_of old)) left))
  where
    by : (bytes : List ℕ) → images (short bytes) → ⊥
    by [] image = one image
    by (b ∷ bs) image = none image
