-- Arrays and the calls on them, computed on examples.
use Rattle.std.proofs.Common.{◌≡◌, ℕ, List, [], ◌∷◌, ◌++◌, replicate, Option, Some, None, refl}
use Rattle.std.specs.Prelude.{Ok, Err}
use Rattle.geos_terms.specs.declared.refusal.Refusal.TheVariants.{BadChunk, BadArray, BadElement, Short, TooBig}
use Rattle.geos_terms.specs.Names.{mem}
use Rattle.geos_terms.specs.Bytes.{word}
use Rattle.geos_terms.specs.Chunks.{cost}
use Rattle.geos_calls.specs.Memory.{Memory, chunks_at}
use Rattle.geos_calls.specs.Effects.{Reference, InBlock}
use Rattle.geos_terms.specs.Arrays.{arr, spelled, empty}
use Rattle.geos_calls.specs.Calls.{load16, store}
use Rattle.geos_calls.specs.ArrayCalls.{canew, caadd, cains, cadel, cacount, caelt, cazero, caresize}
use Rattle.worked_examples.proofs.States.{willing}
use Rattle.worked_examples.proofs.CallExamples.{one, after, answer}

-- an array whose sizes vary, with elements of 3, 0 and 5 bytes
abbrev pub three : Memory
three = after (caadd (mem 1) 16 5 willing
    (after (caadd (mem 1) 16 0 willing (after (caadd (mem 1) 16 3 willing (after (canew (mem 1) 0 willing one)))))))

-- two bytes more at index 1, and the first element goes
abbrev pub changed : Memory
changed = after (cadel (mem 1) 16 0 willing (after (cains (mem 1) 16 1 2 willing three)))

-- part of the array's chunk
abbrev pub part_of_array : ℕ → ℕ → Reference
part_of_array at n = record { name = mem 1; chunk = 16; start = at; len = n }

-- an array with no element: only its header
abbrev pub header_alone : ℕ → Option (List ℕ)
header_alone k = Some (0 ∷ 0 ∷ k ∷ 0 ∷ 0 ∷ 0 ∷ 8 ∷ 0 ∷ [])

pub record Varying : Type 0 where
  pub made : answer (canew (mem 1) 0 willing one) ≡ Ok 16
  pub count : answer (cacount (mem 1) 16 willing changed) ≡ Ok 3
  pub bytes : chunks_at changed (mem 1) ≡ Some ((3 ∷ 0 ∷ 0 ∷ 0 ∷ 0 ∷ 0 ∷ 8 ∷ 0 ∷ 14 ∷ 0 ∷ 16 ∷ 0 ∷ 16 ∷ 0 ∷ []) ++ replicate 7 0) ∷ None ∷ []
  pub first : answer (caelt (mem 1) 16 0 2 willing changed) ≡ Ok (part_of_array 14 2)
  pub second : answer (caelt (mem 1) 16 1 0 willing changed) ≡ Ok (part_of_array 16 0)
  pub third : answer (caelt (mem 1) 16 2 0 willing changed) ≡ Ok (part_of_array 16 5)
  pub fourth : answer (caelt (mem 1) 16 3 0 willing changed) ≡ Err BadElement
  pub short : answer (caelt (mem 1) 16 1 1 willing changed) ≡ Err Short
  pub at_end : answer (cains (mem 1) 16 3 1 willing changed) ≡ Ok tt
  pub past : answer (cains (mem 1) 16 4 1 willing changed) ≡ Err BadElement
  pub longer : answer (caelt (mem 1) 16 2 0 willing (after (caresize (mem 1) 16 1 4 willing changed))) ≡ Ok (part_of_array 20 5)
  pub spoilt : answer (cacount (mem 1) 16 willing (after (store (part_of_array 0 21) 2 (1 ∷ 0 ∷ []) willing changed))) ≡ Err BadArray
  pub emptied : chunks_at (after (cazero (mem 1) 16 willing changed)) (mem 1) ≡ header_alone 0 ∷ None ∷ []
  pub too_big : answer (caadd (mem 1) 16 65520 willing changed) ≡ Err TooBig
  pub stale : (cadel (mem 1) 17 0 willing changed).stale ≡ InBlock (mem 1)

varying_computed : Varying
unfolding arr spelled cost word
varying_computed = record {
  made = refl;
  count = refl;
  bytes = refl;
  first = refl;
  second = refl;
  third = refl;
  fourth =
      refl;
  short = refl;
  at_end = refl;
  past = refl;
  longer = refl;
  spoilt = refl;
  emptied = refl;
  too_big = refl;
  stale = refl;
}

-- two elements of four bytes, of which the second ends in the word 513; an array of one size ignores the size that
-- CAADD requests
abbrev pub pair : Memory
pair = after (store (part_of_array 12 4) 2 (1 ∷ 2 ∷ []) willing
    (after (caadd (mem 1) 16 99 willing (after (caadd (mem 1) 16 0 willing (after (canew (mem 1) 4 willing one)))))))

pub record Fixed : Type 0 where
  pub bytes : chunks_at pair (mem 1) ≡ Some (2 ∷ 0 ∷ 4 ∷ 0 ∷ 0 ∷ 0 ∷ 8 ∷ 0 ∷ 0 ∷ 0 ∷ 0 ∷ 0 ∷ 0 ∷ 0 ∷ 1 ∷ 2 ∷ []) ∷ None ∷ []
  pub second : answer (caelt (mem 1) 16 1 4 willing pair) ≡ Ok (part_of_array 12 4)
  pub read : answer (load16 (part_of_array 12 4) 2 willing pair) ≡ Ok 513
  pub short : answer (caelt (mem 1) 16 1 5 willing pair) ≡ Err Short
  pub no_resize : answer (caresize (mem 1) 16 1 4 willing pair) ≡ Err BadArray
  pub no_resize_past : answer (caresize (mem 1) 16 9 4 willing pair) ≡ Err BadArray
  pub absent : answer (cacount (mem 1) 18 willing pair) ≡ Err BadChunk
  pub removed : chunks_at (after (cadel (mem 1) 16 0 willing pair)) (mem 1) ≡ Some (1 ∷ 0 ∷ 4 ∷ 0 ∷ 0 ∷ 0 ∷ 8 ∷ 0 ∷ 0 ∷ 0 ∷ 1 ∷ 2 ∷ []) ∷ None ∷ []
  pub emptied : chunks_at (after (cazero (mem 1) 16 willing pair)) (mem 1) ≡ header_alone 4 ∷ None ∷ []
  pub last_gone : chunks_at (after (cadel (mem 1) 16 0 willing (after (cadel (mem 1) 16 1 willing pair)))) (mem 1) ≡ header_alone 4 ∷ None ∷ []

fixed_computed : Fixed
unfolding arr spelled cost word
fixed_computed = record {
  bytes = refl;
  second = refl;
  read = refl;
  short = refl;
  no_resize = refl;
  no_resize_past =
      refl;
  absent = refl;
  removed = refl;
  emptied = refl;
  last_gone = refl;
}

-- each way in which bytes are no array
pub record NoArrays : Type 0 where
  pub short : arr (0 ∷ 0 ∷ 0 ∷ 0 ∷ 0 ∷ 0 ∷ 8 ∷ []) ≡ None
  pub third_word : arr (0 ∷ 0 ∷ 0 ∷ 0 ∷ 1 ∷ 0 ∷ 8 ∷ 0 ∷ []) ≡ None
  pub fourth_word : arr (0 ∷ 0 ∷ 0 ∷ 0 ∷ 0 ∷ 0 ∷ 9 ∷ 0 ∷ []) ≡ None
  pub no_multiple : arr (1 ∷ 0 ∷ 2 ∷ 0 ∷ 0 ∷ 0 ∷ 8 ∷ 0 ∷ 0 ∷ 0 ∷ 0 ∷ []) ≡ None
  pub too_many : arr (2 ∷ 0 ∷ 2 ∷ 0 ∷ 0 ∷ 0 ∷ 8 ∷ 0 ∷ 0 ∷ 0 ∷ []) ≡ None
  pub behind_none : arr (0 ∷ 0 ∷ 0 ∷ 0 ∷ 0 ∷ 0 ∷ 8 ∷ 0 ∷ 0 ∷ []) ≡ None
  pub cut : arr (2 ∷ 0 ∷ 0 ∷ 0 ∷ 0 ∷ 0 ∷ 8 ∷ 0 ∷ 12 ∷ 0 ∷ []) ≡ None
  pub first : arr (1 ∷ 0 ∷ 0 ∷ 0 ∷ 0 ∷ 0 ∷ 8 ∷ 0 ∷ 11 ∷ 0 ∷ 0 ∷ []) ≡ None
  pub falls : arr (2 ∷ 0 ∷ 0 ∷ 0 ∷ 0 ∷ 0 ∷ 8 ∷ 0 ∷ 12 ∷ 0 ∷ 11 ∷ 0 ∷ 0 ∷ []) ≡ None
  pub past : arr (2 ∷ 0 ∷ 0 ∷ 0 ∷ 0 ∷ 0 ∷ 8 ∷ 0 ∷ 12 ∷ 0 ∷ 14 ∷ 0 ∷ 0 ∷ []) ≡ None

no_arrays_computed : NoArrays
unfolding arr word
no_arrays_computed = record {
  short = refl;
  third_word = refl;
  fourth_word = refl;
  no_multiple = refl;
  too_many =
      refl;
  behind_none = refl;
  cut = refl;
  first = refl;
  falls = refl;
  past = refl;
}

-- and what arrays are
pub record SomeArrays : Type 0 where
  pub varying : arr (2 ∷ 0 ∷ 0 ∷ 0 ∷ 0 ∷ 0 ∷ 8 ∷ 0 ∷ 12 ∷ 0 ∷ 13 ∷ 0 ∷ 7 ∷ []) ≡ Some (record { element_size = 0; elements = (7 ∷ []) ∷ [] ∷ [] })
  pub fixed : arr (2 ∷ 0 ∷ 1 ∷ 0 ∷ 0 ∷ 0 ∷ 8 ∷ 0 ∷ 5 ∷ 6 ∷ []) ≡ Some (record { element_size = 1; elements = (5 ∷ []) ∷ (6 ∷ []) ∷ [] })
  pub wide : arr (spelled (empty 65535)) ≡ Some (empty 65535)

some_arrays_computed : SomeArrays
unfolding arr spelled word
some_arrays_computed = record { varying = refl; fixed = refl; wide = refl }
