-- A pass over the places of a routine.
use Rattle.std.proofs.Common.{◌≡◌, ◌<◌, ◌≤◌, ◌+◌, ◌-◌, ℕ, zero, suc, Bool, false, List, [], ◌∷◌, Some, length, slice_get, take, drop, refl, ap, ◌∙◌, arith}
use Rattle.std.specs.Prelude.{◌&&◌, ◌||◌, slice_index_or, IfSome}
use Rattle.std.specs.List.{list_any}
use Rattle.std.proofs.lemmas.List.{take_all}
use Rattle.geos_image.specs.declared.instr.Instr.{Instr}
use Rattle.geos_image.specs.declared.row.Row.{Row}
use Rattle.geos_image.specs.declared.routine.Routine.{Routine}
use Rattle.geos_image.specs.Parts.{Parts, start_of}
use Rattle.geos_verify.specs.declared.place.Place.{Place}
use Rattle.geos_verify.specs.Places.{places, RowAt}
use Rattle.geos_verify.specs.Rules.{HasPoint}
use Rattle.geos_verify.specs.Touched.{calls}
use Rattle.geos_verify.proofs.Places.{place_true}
use Rattle.geos_grants.specs.declared.effect.Effect.{Effect}
use Rattle.geos_grants.specs.declared.effect.Effect.TheVariants.{Output, ReadsLent, ChangesLent, Memory, LocksByHandle, ReadsFile, ChangesFile, Map, Commits}
use Rattle.geos_grants.specs.Effects.{does}
use Rattle.geos_grants.specs.Sets.{has, each_slot, no_effects}
use Rattle.geos_grants.specs.Routines.{places_of, acts}
use Rattle.geos_grants.proofs.Closed.{has-places_of, list_any-more, place-here}

none-slot : (a : ℕ) → slice_index_or (each_slot false) a false ≡ false
none-slot zero = refl
none-slot (suc zero) = refl
none-slot (suc (suc zero)) = refl
none-slot (suc (suc (suc zero))) = refl
none-slot (suc (suc (suc (suc a)))) = refl

-- the empty set has no effect
pub none-has : (effect : Effect) → has no_effects effect ≡ false
none-has Output = refl
none-has (ReadsLent a) = none-slot a
none-has (ChangesLent a) = none-slot a
none-has Memory = refl
none-has LocksByHandle = refl
none-has ReadsFile = refl
none-has ChangesFile = refl
none-has Map = refl
none-has Commits = refl

length-took : {A : Type 0} (n : ℕ) (xs : List A) → length (take n xs) ≤ n
length-took zero xs = omega arith
length-took (suc n) [] = omega arith
length-took (suc n) (x ∷ xs) = let ih = length-took n xs in omega (arith, ih)

module _ (image : Parts) (r start : ℕ) (start_is : start ≡ start_of image.routines r) where
  -- no instruction comes before the first
  pub passed-none : (test : Place → Bool) → list_any test (take (start - start_of image.routines r) (places_of image r)) ≡ false
  passed-none test = let none : start - start_of image.routines r ≡ 0 = omega (arith, start_is) in rw none refl

  module _ (routine : Routine) (there : slice_get image.routines r ≡ Some routine) where
    -- the place at a pc
    pub place-in : (pc : ℕ) (i : Instr) (row : Row) → start ≤ pc → pc < start + routine.count
        → IfSome (slice_get image.points pc) (λ point. i ≡ point.instr) → RowAt image pc row → pc < length image.points
        → (place : Place) × HasPoint image r routine pc place × (place.instr ≡ i) × (place.row ≡ row)
    place-in pc i row above below here known lt =
        let found = place-here image pc i row here known lt in (
          found.0,
          record {
            there = there;
            within = place_true (start_of image.routines r) routine.count pc (omega (arith, above, start_is)) (omega (arith, below, start_is));
            read = found.1;
          },
          found.2,
          found.3,
        )

    -- the place at the pc is passed, too
    pub passed-one : (effect : Effect) (called : ℕ → Bool) (pc : ℕ) (i : Instr) (row : Row) → start ≤ pc → pc < start + routine.count
        → IfSome (slice_get image.points pc) (λ point. i ≡ point.instr) → RowAt image pc row → pc < length image.points
        → list_any (acts effect called) (take (pc + 1 - start_of image.routines r) (places_of image r))
        ≡ (list_any (acts effect called) (take (pc - start_of image.routines r) (places_of image r))
        || (does effect i row || (calls i.opcode && called i.imm)))
    passed-one effect called pc i row above below here known lt =
        let found = place-in pc i row above below here known lt in
        let k = pc - start_of image.routines r in
        let more : pc + 1 - start_of image.routines r ≡ suc k = omega (arith, above, start_is) in
        let front = list_any (acts effect called) (take k (places_of image r)) in
        ap (λ n. list_any (acts effect called) (take n (places_of image r))) more
        ∙ list_any-more (acts effect called) (places_of image r) k found.0 (has-places_of image r pc routine found.0 found.1)
        ∙ ap (λ (j : Instr). front || (does effect j found.0.row || (calls j.opcode && called j.imm))) found.2
        ∙ ap (λ (known_there : Row). front || (does effect i known_there || (calls i.opcode && called i.imm))) found.3

    -- all are
    pub passed-all : (test : Place → Bool) (pc : ℕ) → start + routine.count ≤ pc
        → list_any test (take (pc - start_of image.routines r) (places_of image r)) ≡ list_any test (places_of image r)
    passed-all test pc past =
        ap (list_any test) (take_all (pc - start_of image.routines r) (places_of image r)
        (rw (there, places_of)
        (let long = length-took routine.count (drop (start_of image.routines r) (places image)) in omega (arith, long, past, start_is))))
