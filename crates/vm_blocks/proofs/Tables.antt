-- Lists by handles are known by what they have for each of the 1,024 handles.
use Rattle.std.proofs.Common.{◌≡◌, ℕ, zero, suc, ◌<◌, List, length, map, refl, sym, ◌∙◌, arith, inl, inr}
use Rattle.std.specs.Prelude.{◌⊎◌}
use Rattle.std.specs.List.{range_with_len}
use Rattle.std.proofs.lemmas.Bool.{cases_lt}
use Rattle.std.proofs.lemmas.List.{ext_get_or, get_or_past}
use Rattle.std.proofs.lemmas.List.FromFn.{get_or-map-range_with_len}
use Rattle.geos_calls.specs.Handles.{at_handle, with_entry_at}
use Rattle.geos_calls.proofs.Laws.{entry-same}
use Rattle.block_handles.specs.Names.{IsHandle}

module _ {X : Type 0} (d : X) where
  -- two tables that have the same for each handle are one
  pub table-same : (xs ys : List X) → length xs ≡ 1024 → length ys ≡ 1024 → ((h : ℕ) → IsHandle h → at_handle d xs h ≡ at_handle d ys h) → xs ≡ ys
  table-same xs ys long other each = ext_get_or d xs ys (long ∙ sym other) (λ i l. each (suc i) (omega arith, omega (arith, l, long)))

  -- a table that a function makes
  pub table-made : (f : ℕ → X) (h : ℕ) → IsHandle h → at_handle d (map f (range_with_len 1 1024)) h ≡ f h
  table-made f zero p = absurd (omega (arith, p.0))
  table-made f (suc h) p = get_or-map-range_with_len f 1 1024 h (suc h) d (omega (arith, p.1)) (omega arith)

  -- a table has nothing for what is no handle
  pub table-past : (xs : List X) (h : ℕ) → length xs ≡ 1024 → (h ≡ 0) ⊎ (1024 < h) → at_handle d xs h ≡ d
  table-past xs zero long h = refl
  table-past xs (suc h) long (inl e) = absurd (omega (arith, e))
  table-past xs (suc h) long (inr past) = get_or_past xs h d (omega (arith, past, long))

  -- a number is a handle, or none
  pub handle-or : (h : ℕ) → IsHandle h ⊎ ((h ≡ 0) ⊎ (1024 < h))
  handle-or zero = inr (inl refl)
  handle-or (suc h) = elim (cases_lt h 1024) [ inl l ↦ inl (omega arith, omega (arith, l)) | inr l ↦ inr (inr (omega (arith, l))) ]

  -- what is written for a handle is there
  pub table-own : (x : X) (xs : List X) (h : ℕ) → length xs ≡ 1024 → IsHandle h → at_handle d (with_entry_at xs h x) h ≡ x
  table-own x xs h long p = entry-same d x xs h p.0 (omega (arith, p.1, long))
