-- What chunks need after an edit: to free, to delete and to write need no more.
use Rattle.std.proofs.Common.{◌≡◌, ℕ, ◌+◌, ◌%◌, ◌≤◌, Bool, true, false, ◌&&◌, ◌==◌, if◌then◌else◌, List, [], Option, Some, None, length, get_or, set, take, drop, unwrap_or, ap, inl, inr, arith, length-append, length-take, length-drop}
use Rattle.std.specs.Prelude.{nat_le}
use Rattle.std.proofs.lemmas.Bool.{cases_lt}
use Rattle.std.proofs.lemmas.List.{set_past}
use Rattle.lmem_raw.specs.Bytes.{with_part}
use Rattle.lmem_raw.proofs.Parts.{length-with_part}
use Rattle.geos_terms.specs.Chunks.{cost, cost_of, used_bytes, sixteens, need, entry_of, bytes_of, with_bytes, without, without_part, with_deleted}
use Rattle.geos_terms.proofs.Costs.{cost-mono}
use Rattle.geos_terms.proofs.Sums.{cost-zero}
use Rattle.geos_terms.proofs.Lowest.{used-set}

pub sixteens-mono : (m n : ℕ) → m ≤ n → sixteens m ≤ sixteens n
sixteens-mono m n h = omega arith

pub need-sixteens : (cs : List (Option (List ℕ))) → need cs % 16 ≡ 0
need-sixteens cs = omega arith

-- an entry whose chunk takes less than the one before
pub used-less : (cs : List (Option (List ℕ))) (i : ℕ) (x : Option (List ℕ)) → cost_of x ≤ cost_of (get_or cs i None)
    → used_bytes (set cs i x) ≤ used_bytes cs
used-less cs i x h = elim (cases_lt i (length cs)) [
  | inl l ↦ omega (arith, used-set cs i x l)
  | inr l ↦ (let s = ap used_bytes (set_past cs i x l) in omega (arith, s))
]

-- and with other bytes for the chunk of a handle, so many at most as it has
cost-if : (b : Bool) (x : Option (List ℕ)) → cost (length (unwrap_or (if b then x else None) [])) ≤ cost_of x
cost-if true None = omega (arith, cost-zero)
cost-if true (Some bytes) = omega arith
cost-if false x = omega (arith, cost-zero)

pub need-with_bytes : (cs : List (Option (List ℕ))) (c : ℕ) (bytes : List ℕ) → length bytes ≤ length (bytes_of cs c)
    → need (with_bytes cs c bytes) ≤ need cs
need-with_bytes cs c bytes h =
    let new = cost-mono (length bytes) (length (bytes_of cs c)) h in
    sixteens-mono (used_bytes (with_bytes cs c bytes)) (used_bytes cs)
    (used-less cs (entry_of c) (Some bytes) (omega (arith, cost-if (nat_le 16 c && (c % 2 == 0)) (get_or cs (entry_of c) None), new)))

pub need-without : (cs : List (Option (List ℕ))) (c : ℕ) → need (without cs c) ≤ need cs
need-without cs c = sixteens-mono (used_bytes (without cs c)) (used_bytes cs) (used-less cs (entry_of c) None (omega arith))

pub length-without_part : (bs : List ℕ) (at n : ℕ) → length (without_part bs at n) ≤ length bs
length-without_part bs at n = omega (arith, length-append (take at bs) (drop (at + n) bs), length-take at bs, length-drop (at + n) bs)

pub need-with_deleted : (cs : List (Option (List ℕ))) (c at n : ℕ) → need (with_deleted cs c at n) ≤ need cs
need-with_deleted cs c at n = need-with_bytes cs c (without_part (bytes_of cs c) at n) (length-without_part (bytes_of cs c) at n)

pub need-with_written : (cs : List (Option (List ℕ))) (c at : ℕ) (ws : List ℕ) → need (with_bytes cs c (with_part (bytes_of cs c) at ws)) ≤ need cs
need-with_written cs c at ws = need-with_bytes cs c (with_part (bytes_of cs c) at ws) (omega (arith, length-with_part (bytes_of cs c) at ws))
