-- The calls that look at chunks.
use Rattle.std.proofs.Common.{◌≡◌, ℕ, ◌+◌, ◌≤◌, Bool, cond, List, [], ◌∷◌, length, drop, Option, Some, None, refl, sym, ap, ◌∙◌, arith, length-take, length-drop}
use Rattle.std.specs.Prelude.{Ok, Err, IfOk, is_none, nat_lt, true, false, option_map}
use Rattle.std.proofs.lemmas.Bool.Decides.{nat_tests}
use Rattle.lmem_raw.specs.Bytes.{part}
use Rattle.geos_terms.specs.declared.refusal.Refusal.{Refusal}
use Rattle.geos_terms.specs.declared.refusal.Refusal.TheVariants.{BadChunk, Short}
use Rattle.geos_terms.specs.Refusals.{first_refusal}
use Rattle.geos_terms.specs.Block as block
use Rattle.geos_terms.specs.Chunks.{chunk_of}
use Rattle.geos_terms.specs.Edits.{Edit, Part, length_of, refer}
use Rattle.geos_terms.specs.ArrayEdits.{element_of, no_element, refer_element}
use Rattle.geos_calls.proofs.Laws.{first_refusal-came, first_refusal-passed}
use Rattle.geos_terms.proofs.Places.{chunk-place}
use Rattle.chunk_array.specs.declared.error.ArrayError.{ArrayError}
use Rattle.chunk_array.specs.declared.error.ArrayError.TheVariants as array
use Rattle.chunk_array.specs.declared.error.ElementError.{ElementError}
use Rattle.chunk_array.specs.declared.error.ElementError.TheVariants as element
use Rattle.chunk_array.specs.ArrayErrors.{IsArrayError}
use Rattle.chunk_array.specs.ElementErrors.{IsElementError}
use Rattle.chunk_array.specs.Elements.{HasElement}
use Rattle.chunk_calls.specs.Edits.{LiesIn, Finds, enough}
use Rattle.chunk_calls.specs.Refused.{why_no_array, why_no_element}

-- of tests the first that holds is the error's, as the kernel says it
pub array-refuses : (why : ArrayError) (tests : List (Bool × Refusal)) → IsArrayError why tests → first_refusal tests ≡ Some (why_no_array why)
array-refuses array.BadChunk tests h = h
array-refuses array.BadArray tests h = h

pub element-refuses : (why : ElementError) (tests : List (Bool × Refusal)) → IsElementError why tests
    → first_refusal tests ≡ Some (why_no_element why)
element-refuses element.BadChunk tests h = h
element-refuses element.BadArray tests h = h
element-refuses element.BadElement tests h = h

-- a place that has enough bytes, or not, is what an edit refers to or refuses
enough-finds : (edit : List (Option (List ℕ)) → Edit Part) (bytes : List ℕ) (place : ℕ × ℕ) (n : ℕ)
    → (nat_lt place.1 n ≡ true → first_refusal (edit (block.chunks bytes)).refusals ≡ Some Short)
    → (nat_lt place.1 n ≡ false → Finds edit bytes (Ok place)) → Finds edit bytes (enough place n)
enough-finds edit bytes place n few many = told (nat_lt place.1 n) refl
  where
    told : (b : Bool) → nat_lt place.1 n ≡ b → Finds edit bytes (cond b (Err Short) (Ok place))
    told true is = few is
    told false is = many is

-- and it lies in the block, and has so many
pub enough-within : (k n : ℕ) (place : ℕ × ℕ) → place.0 + place.1 ≤ k → IfOk (enough place n) (λ p. (p.0 + p.1 ≤ k) × (n ≤ p.1))
enough-within k n place inside = told (nat_lt place.1 n) refl
  where
    told : (b : Bool) → nat_lt place.1 n ≡ b → IfOk (cond b (Err Short) (Ok place)) (λ p. (p.0 + p.1 ≤ k) × (n ≤ p.1))
    told true is = tt
    told false is = (inside, grind (arith, nat_tests))

pub deref-finds : (bytes : List ℕ) (c n at len : ℕ) → block.IsPlaced bytes c at len → chunk_of (block.chunks bytes) c ≡ Some (part bytes at len)
    → at + len ≤ length bytes → Finds (refer c n) bytes (enough (at, len) n)
deref-finds bytes c n at len placed chunk within =
    let cs = block.chunks bytes in
    let whole : length (part bytes at len) ≡ len = omega (arith, within, length-take len (drop at bytes), length-drop at bytes) in
    let same : length_of cs c ≡ len = rw chunk whole in
    let there : is_none (chunk_of cs c) ≡ false = ap is_none chunk in
    let tests : Bool → Bool → List (Bool × Refusal) = λ a b. (a, BadChunk) ∷ (b, Short) ∷ [] in
    let told : (b : Bool) → nat_lt len n ≡ b → first_refusal (tests (is_none (chunk_of cs c)) (nat_lt (length_of cs c) n)) ≡ first_refusal
    (tests false b) =
    λ b is. ap (λ a. first_refusal (tests a (nat_lt (length_of cs c) n))) there ∙ ap (λ k. first_refusal (tests false (nat_lt k n))) same
    ∙ ap (λ x. first_refusal (tests false x)) is in
    enough-finds (refer c n) bytes (at, len) n (told true)
    (λ fits. (
      told false fits,
      sym same,
      record {
        whole = part bytes at len;
        chunk = chunk;
        fits =
            omega (arith, same, whole);
        place = λ some. rw placed (omega arith);
      },
    ))

-- an element is refused, and so is what refers to it
pub element-refused : (bytes : List ℕ) (c i n : ℕ) (why : ElementError) → IsElementError why (no_element (block.chunks bytes) c i)
    → first_refusal (refer_element c i n (block.chunks bytes)).refusals ≡ Some (why_no_element why)
element-refused bytes c i n why h =
    let tests : List (Bool × Refusal) = (nat_lt (length (element_of (block.chunks bytes) c i)) n, Short) ∷ [] in
    first_refusal-came (no_element (block.chunks bytes) c i) tests (why_no_element why) (element-refuses why (no_element (block.chunks bytes) c i) h)

pub element-finds : (bytes : List ℕ) (c i n at len : ℕ) → first_refusal (no_element (block.chunks bytes) c i) ≡ None
    → HasElement bytes c i at len → Finds (refer_element c i n) bytes (enough (at, len) n)
element-finds bytes c i n at len passed h =
    let cs = block.chunks bytes in
    let same : length (element_of cs c i) ≡ len = sym h.long in
    let tests : (b : Bool) → List (Bool × Refusal) = λ b. (b, Short) ∷ [] in
    enough-finds (refer_element c i n) bytes (at, len) n
    (λ less. first_refusal-passed (no_element cs c i) (tests (nat_lt (length (element_of cs c i)) n)) passed
    ∙ ap (λ b. first_refusal (tests b)) (ap (λ m. nat_lt m n) same ∙ less))
    (λ fits. (
    let chunk = part bytes h.begin h.whole in
    let inside = h.inside in
    let from = h.place in
    let within = h.within in
    let long = h.long in
    let whole : length chunk ≡ h.whole = omega (arith, inside, length-take h.whole (drop h.begin bytes), length-drop h.begin bytes) in
    let lies : LiesIn bytes (refer_element c i n cs).answer at = record {
      whole = chunk;
      chunk = chunk-place bytes c ∙ ap (option_map (block.bytes_at bytes)) h.chunk;
      fits = omega (arith, whole, from, within, long);
      place = λ some. rw h.chunk (omega (arith, from));
    } in (
      first_refusal-passed (no_element cs c i) (tests (nat_lt (length (element_of cs c i)) n)) passed
          ∙ ap (λ b. first_refusal (tests b)) (ap (λ m. nat_lt m n) same ∙ fits),
      long,
      lies,
    )
    ))
