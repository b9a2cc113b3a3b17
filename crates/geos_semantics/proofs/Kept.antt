-- Soundness, and what a row knows of pointers, over calls that make some pointers stale.
use Rattle.std.proofs.Common.{◌≡◌, ℕ, Bool, true, false, Option, Some, None, List, [], ◌∷◌, refl, ◌∙◌}
use Rattle.std.specs.Prelude.{map, cond}
use Rattle.geos_terms.specs.declared.name.Name.{Name}
use Rattle.geos_calls.specs.Memory.{Memory, locks_of}
use Rattle.geos_calls.specs.Legal.{IsMemory}
use Rattle.geos_calls.specs.Effects.{Staleness, Nothing}
use Rattle.geos_image.specs.declared.row.Pointer.{Pointer}
use Rattle.geos_verify.specs.Rows.{stale_where}
use Rattle.geos_semantics.specs.Lists.{Each, Each2}
use Rattle.geos_semantics.specs.State.{Held, SlotReference, State, is_made_stale, kept_pointer, kept_pointers}
use Rattle.geos_semantics.specs.Meets.{Base, PointerMeets, IsInChunk, PointerIsSound, Sound}
use Rattle.geos_semantics.proofs.Stays.{Stays, stays-same, slots-sound}

-- a fact of each element is one of each changed element
pub each-map : {X Y : Type 0} (P : X → Type 0) (Q : Y → Type 0) (f : X → Y) → ((x : X) → P x → Q (f x)) → (xs : List X)
    → Each P xs → Each Q (map f xs)
each-map P Q f k [] h = tt
each-map P Q f k (x ∷ xs) h = (k x h.0, each-map P Q f k xs h.1)

pub each-same : {X : Type 0} (P Q : X → Type 0) → ((x : X) → P x → Q x) → (xs : List X) → Each P xs → Each Q xs
each-same P Q k [] h = tt
each-same P Q k (x ∷ xs) h = (k x h.0, each-same P Q k xs h.1)

-- the same of a relation of two lists, where a fact of the elements of the first is known
pub each2-map : {X Y : Type 0} (S : X → Type 0) (R T : X → Y → Type 0) (f : X → X) (g : Y → Y)
    → ((x : X) (y : Y) → S x → R x y → T (f x) (g y)) → (xs : List X) (ys : List Y) → Each S xs → Each2 R xs ys
    → Each2 T (map f xs) (map g ys)
each2-map S R T f g k [] [] s h = tt
each2-map S R T f g k [] (y ∷ ys) s h = absurd h
each2-map S R T f g k (x ∷ xs) [] s h = absurd h
each2-map S R T f g k (x ∷ xs) (y ∷ ys) s h = (k x y s.0 h.0, each2-map S R T f g k xs ys s.1 h.1)

pub each2-left : {X Y : Type 0} (R T : X → Y → Type 0) (f : X → X) → ((x : X) (y : Y) → R x y → T (f x) y)
    → (xs : List X) (ys : List Y) → Each2 R xs ys → Each2 T (map f xs) ys
each2-left R T f k [] [] h = tt
each2-left R T f k [] (y ∷ ys) h = absurd h
each2-left R T f k (x ∷ xs) [] h = absurd h
each2-left R T f k (x ∷ xs) (y ∷ ys) h = (k x y h.0, each2-left R T f k xs ys h.1)

-- what a call does to memory that locks, makes and frees no block: locks are as they were,
-- blocks stay what slots know of them, and each chunk of which the call makes nothing stale is
-- there and as long
pub record Leaves (a : ℕ) (stale : Staleness) (old new : Memory) : Type 0 where
  pub legal : IsMemory new
  pub locks : (name : Name) → locks_of new name ≡ locks_of old name
  pub held : (held : Held) → Stays old new held
  pub chunks : (target : SlotReference) → is_made_stale a stale target ≡ false → IsInChunk old target.reference → IsInChunk new target.reference

-- nothing is done
pub leaves-all : (a : ℕ) (stale : Staleness) (m : Memory) → IsMemory m → Leaves a stale m m
leaves-all a stale m legal = record { legal = legal; locks = λ name. refl; held = λ held. stays-same m held; chunks = λ target fresh h. h }

pointer-left : (a : ℕ) (stale : Staleness) (old new : Memory) (slots : List (Option Held)) → Leaves a stale old new
    → (p : Option SlotReference) → PointerIsSound old slots p → PointerIsSound new slots (kept_pointer a stale p)
pointer-left a stale old new slots L None h = tt
pointer-left a stale old new slots L (Some target) h = go (is_made_stale a stale target) refl
  where
    go : (b : Bool) → is_made_stale a stale target ≡ b → PointerIsSound new slots (cond b None (Some target))
    go true e = tt
    go false e = (h.0, L.chunks target e h.1)

-- such a call leaves a sound state sound
pub sound-left : (base : Base) (s : State) (a : ℕ) (stale : Staleness) (new : Memory) → Sound base s → Leaves a stale s.memory new
    → Sound base (record s { memory = new; pointers = kept_pointers a stale s.pointers })
sound-left base s a stale new S L = record {
  memory = L.legal;
  none = S.none;
  words = S.words;
  four = S.four;
  lends = S.lends;
  slots = slots-sound s.memory new s.slots (λ k held e. L.held held) S.slots;
  locks = λ name. L.locks name ∙ S.locks name;
  pointers = each-map (PointerIsSound s.memory s.slots) (PointerIsSound new s.slots) (kept_pointer a stale)
      (pointer-left a stale s.memory new s.slots L) s.pointers S.pointers;
}

-- Pointers that the row still knows

nothing-stale : (a : ℕ) (p : Option SlotReference) (q : Option Pointer) → PointerMeets p q → PointerMeets (kept_pointer a Nothing p) q
nothing-stale a None q h = h
nothing-stale a (Some target) q h = h

pub kept-nothing : (a : ℕ) (ps : List (Option SlotReference)) (qs : List (Option Pointer)) → Each2 PointerMeets ps qs
    → Each2 PointerMeets (kept_pointers a Nothing ps) qs
kept-nothing a ps qs h = each2-left PointerMeets PointerMeets (kept_pointer a Nothing) (nothing-stale a) ps qs h

-- where what the call makes stale is stale by the row
pub pointer-kept : (a : ℕ) (stale : Staleness) (test : ℕ → Bool) (p : Option SlotReference) (q : Option Pointer)
    → ((target : SlotReference) → p ≡ Some target → (r : Pointer) → q ≡ Some r → target.slot ≡ r.slot → test r.slot ≡ false
    → is_made_stale a stale target ≡ false)
    → PointerMeets p q → PointerMeets (kept_pointer a stale p) (stale_where test q)
pointer-kept a stale test p None k h = tt
pointer-kept a stale test None (Some r) k h = absurd h
pointer-kept a stale test (Some target) (Some r) k h = go (test r.slot) refl
  where
    go : (b : Bool) → test r.slot ≡ b → PointerMeets (cond (is_made_stale a stale target) None (Some target)) (cond b None (Some r))
    go true e = tt
    go false e = rw (k target refl r refl h.0 e) h
