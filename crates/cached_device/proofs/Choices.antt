-- One write more, as a choice of parts sees it.
use Rattle.std.proofs.Common.{◌≡◌, ◌∙◌, ◌⊎◌, ℕ, zero, suc, ◌+◌, ◌-◌, ◌<◌, ◌≤◌, ◌/◌, Bool, true, false, ◌||◌, if◌then◌else◌, List, [], ◌∷◌, ◌++◌, Option, Some, None, Global, Vec, length, reverse, take, drop, get_or, slice_get, slice_index, slice_index_or, refl, ap, sym, subst, inl, inr, arith}
use Rattle.std.proofs.lemmas.List.{get_or-take, get_or-drop, reverse-append}
use Rattle.std.proofs.lemmas.Grind.{common_steps}
use Rattle.std.proofs.Math.Seq.{take-suc}
use Rattle.std.proofs.lemmas.Bool.Decides.{nat_tests}
use Rattle.vm_file.specs.Device.{Touched}
use Rattle.cached_device.specs.declared.event.Event.{Event}
use Rattle.cached_device.specs.declared.event.Event.TheVariants.{Written, Synced}
use Rattle.cached_device.specs.declared.part.Part.{Part}
use Rattle.cached_device.specs.declared.part.Part.TheVariants.{Old, New, Garbage}
use Rattle.cached_device.specs.Stopped.{lasting, is_within, is_written, byte_left, chosen, IsChosen}

within : (at n i : ℕ) → is_within at n i ≡ true → (at ≤ i) × (i < at + n)
within at n i is = (grind (arith, nat_tests), grind (arith, nat_tests))

outside : (at n i : ℕ) → is_within at n i ≡ false → (i < at) ⊎ (at + n ≤ i)
outside at n i is = grind (arith, nat_tests)

-- a byte outside of a range that was written is as it was
kept_outside : (at n i : ℕ) (old new : List ℕ) → Touched at n old new → (i < at) ⊎ (at + n ≤ i) → slice_index new i ≡ slice_index old i
kept_outside at n i old new t (inl before) = sym (get_or-take at new i 0 before) ∙ ap (λ xs. get_or xs i 0) t.before ∙ get_or-take at old i 0 before
kept_outside at n i old new t (inr behind) =
    let same : at + n + (i - (at + n)) ≡ i = omega arith in
    let P : ℕ → Type 0 = λ k. get_or new k 0 ≡ get_or old k 0 in
    subst P same (sym (get_or-drop (at + n) new (i - (at + n)) 0) ∙ ap (λ xs. get_or xs (i - (at + n)) 0) t.behind
    ∙ get_or-drop (at + n) old (i - (at + n)) 0)

-- a lookup whose default is the result of the same lookup has the same result
or_twice : (xs : List ℕ) (i d : ℕ) → get_or xs i (get_or xs i d) ≡ get_or xs i d
or_twice [] i d = refl
or_twice (x ∷ xs) zero d = refl
or_twice (x ∷ xs) (suc i) d = or_twice xs i d

-- what is chosen of a byte twice is as if it were once
left_twice : (part : Option Part) (now : List ℕ) (i old : ℕ) → byte_left part (byte_left part old (slice_index_or now i old))
    (slice_index_or now i (byte_left part old (slice_index_or now i old))) ≡ byte_left part old (slice_index_or now i old)
left_twice None now i old = refl
left_twice (Some Old) now i old = refl
left_twice (Some New) now i old = or_twice now i old
left_twice (Some Garbage) now i old = refl

-- a range that was written once more, with what is chosen of each of its bytes
pub record Writes (now : List ℕ) (parts : List Part) (at n : ℕ) (old new : List ℕ) : Type 0 where
  pub touched : Touched at n old new
  pub left : (i : ℕ) → at ≤ i → i < at + n → i < length old → slice_index new i ≡ chosen parts now old i

module _ (now start : List ℕ) (before : List Event) (parts : List Part) (at n : ℕ) (old new : List ℕ)
    (writes : Writes now parts at n old new) (was : IsChosen now start before parts old) where
  byte : (i : ℕ) → i < length old → (within_it written : Bool) → is_within at n i ≡ within_it → is_written before i ≡ written →
      slice_index new i ≡ (if within_it || written then chosen parts now (lasting start before) i else slice_index (lasting start before) i)
  byte i short false written o e =
      kept_outside at n i old new writes.touched (outside at n i o)
      ∙ subst (λ (b : Bool). slice_index old i ≡ (if b then chosen parts now (lasting start before) i else slice_index (lasting start before) i)) e
      (was.bytes i (omega (arith, was.long)))
  byte i short true false o e =
      let was_so : slice_index old i ≡ slice_index (lasting start before) i =
      subst (λ (b : Bool). slice_index old i ≡ (if b then chosen parts now (lasting start before) i else slice_index (lasting start before) i)) e
      (was.bytes i (omega (arith, was.long))) in
      let w : (at ≤ i) × (i < at + n) = within at n i o in
      writes.left i w.0 w.1 short ∙ ap (λ (x : ℕ). byte_left (slice_get parts (i / 512)) x (slice_index_or now i x)) was_so
  byte i short true true o e =
      let was_so : slice_index old i ≡ chosen parts now (lasting start before) i =
      subst (λ (b : Bool). slice_index old i ≡ (if b then chosen parts now (lasting start before) i else slice_index (lasting start before) i)) e
      (was.bytes i (omega (arith, was.long))) in
      let w : (at ≤ i) × (i < at + n) = within at n i o in
      writes.left i w.0 w.1 short
      ∙ ap (λ (x : ℕ). byte_left (slice_get parts (i / 512)) x (slice_index_or now i x)) was_so
      ∙ left_twice (slice_get parts (i / 512)) now i (slice_index (lasting start before) i)

  pub chosen_written : IsChosen now start (Written at n ∷ before) parts new
  chosen_written = record {
    long = writes.touched.long ∙ was.long;
    bytes = (λ i short. byte i (omega (arith, writes.touched.long)) (is_within at n i) (is_written before i) refl refl);
  }

-- what was made to last is what is chosen then
pub chosen_synced : (now start : List ℕ) (before : List Event) (parts : List Part) (bytes : Vec ℕ Global) (image : List ℕ)
    → image ≡ bytes.items → IsChosen now start (Synced bytes ∷ before) parts image
chosen_synced now start before parts bytes image is = record { long = ap length is; bytes = (λ i short. ap (λ xs. get_or xs i 0) is) }

-- one event more is the last one
pub taken_more : (events : List Event) (k : ℕ) (e : Event) → k < length events → e ≡ get_or events k e
    → reverse (take (k + 1) events) ≡ e ∷ reverse (take k events)
taken_more events k e within is =
    let one : k + 1 ≡ suc k = omega arith in
    ap (λ n. reverse (take n events)) one
    ∙ ap reverse (take-suc events k e within)
    ∙ reverse-append (take k events) (get_or events k e ∷ [])
    ∙ ap (λ x. x ∷ reverse (take k events)) (sym is)

-- a list that is filled anew with as many elements is these
pub refilled : (n : ℕ) (new old : List ℕ) → length new ≡ length old → n ≡ length old → take n (new ++ drop (length new) old) ≡ new
refilled n new old long count = grind (arith, common_steps)
