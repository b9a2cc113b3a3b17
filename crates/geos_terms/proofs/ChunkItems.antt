-- The chunks of handles, as items of the list of chunks.
use Rattle.std.proofs.Common.{◌≡◌, ℕ, ◌+◌, ◌*◌, ◌%◌, ◌<◌, ◌≤◌, true, List, [], ◌∷◌, Option, Some, None, length, get_or, set, replicate, unwrap_or, ap, sym, ◌∙◌, inl, inr, arith, get_or-set_same, length-append, length-set}
use Rattle.std.specs.Prelude.{nat_le, ◌==◌, ◌&&◌}
use Rattle.std.proofs.lemmas.Bool.{cases_Bool, cases_eq, cases_lt, and_from, eq-eqb, le-leb}
use Rattle.std.proofs.lemmas.List.{get_or_past, length-replicate}
use Rattle.geos_terms.specs.Chunks.{chunk_of, bytes_of, entry_of, handle_of, with_bytes, with_entry, with_new, new_handle, lowest_entry, need, sixteens, cost, cost_of}
use Rattle.geos_terms.proofs.Lowest.{lowest-within, entry-full, entry-room, set-twice, used-length, used-set}
use Rattle.geos_terms.proofs.Costs.{cost-over}

-- a handle that has a chunk
pub record IsKnown (cs : List (Option (List ℕ))) (c : ℕ) (bytes : List ℕ) : Type 0 where
  pub test : (nat_le 16 c && (c % 2 == 0)) ≡ true
  pub item : get_or cs (entry_of c) None ≡ Some bytes
  pub within : entry_of c < length cs

known-in : (cs : List (Option (List ℕ))) (i : ℕ) (bytes : List ℕ) → get_or cs i None ≡ Some bytes → i < length cs
known-in cs i bytes h = elim (cases_lt i (length cs)) [
  | inl l ↦ l
  | inr g ↦ absurd (let e : None ≡ Some bytes = sym (get_or_past cs i None g) ∙ h in cc)
]

pub chunk-known : (cs : List (Option (List ℕ))) (c : ℕ) (bytes : List ℕ) → chunk_of cs c ≡ Some bytes → IsKnown cs c bytes
chunk-known cs c bytes h = elim (cases_Bool (nat_le 16 c && (c % 2 == 0))) [
  | inl t ↦ (let item : get_or cs (entry_of c) None ≡ Some bytes = rw t at h in
      record { test = t; item = item; within = known-in cs (entry_of c) bytes item })
  | inr f ↦ absurd (let e : None ≡ Some bytes = rw f at h in cc)
]

-- its bytes
pub known-bytes : (cs : List (Option (List ℕ))) (c : ℕ) (bytes : List ℕ) → chunk_of cs c ≡ Some bytes → bytes_of cs c ≡ bytes
known-bytes cs c bytes h = ap (λ x. unwrap_or x []) h

-- what is written under a handle is read there
pub chunk-written : (cs : List (Option (List ℕ))) (c : ℕ) (old bytes : List ℕ) → chunk_of cs c ≡ Some old
    → chunk_of (with_bytes cs c bytes) c ≡ Some bytes
chunk-written cs c old bytes h = let k = chunk-known cs c old h in rw k.test (get_or-set_same cs (entry_of c) (Some bytes) None k.within)

-- a second write replaces the first
pub written-twice : (cs : List (Option (List ℕ))) (c : ℕ) (x y : List ℕ) → with_bytes (with_bytes cs c x) c y ≡ with_bytes cs c y
written-twice cs c x y = set-twice cs (entry_of c) (Some x) (Some y)

-- what chunks need goes by lengths
pub need-length : (cs : List (Option (List ℕ))) (c : ℕ) (old x y : List ℕ) → chunk_of cs c ≡ Some old → length x ≡ length y
    → need (with_bytes cs c x) ≡ need (with_bytes cs c y)
need-length cs c old x y h e = let k = chunk-known cs c old h in ap sixteens (used-length cs (entry_of c) x y k.within e)

chunk-at : (cs : List (Option (List ℕ))) (i : ℕ) → chunk_of cs (handle_of i) ≡ get_or cs i None
chunk-at cs i =
    let t : (nat_le 16 (16 + 2 * i) && ((16 + 2 * i) % 2 == 0)) ≡ true = and_from (nat_le 16 (16 + 2 * i))
    ((16 + 2 * i) % 2 == 0) (le-leb 16 (16 + 2 * i) (omega arith)) (eq-eqb ((16 + 2 * i) % 2) 0 (omega arith)) in
    let e : entry_of (handle_of i) ≡ i = omega arith in
    rw t (ap (λ k. get_or cs k None) e)

-- a new chunk
pub chunk-new : (cs : List (Option (List ℕ))) (n : ℕ) → chunk_of (with_new cs n) (new_handle cs) ≡ Some (replicate n 0)
chunk-new cs n =
    let i = lowest_entry cs in
    let le = lowest-within cs in
    let within : i < length (with_entry cs) = (elim (cases_eq i (length cs)) [
      | inl e ↦ (let l = ap length (entry-full cs e) ∙ length-append cs (None ∷ (None ∷ [])) in omega (arith, l))
      | inr ne ↦ (let l = ap length (entry-room cs ne) in omega (arith, l))
    ]) in
    chunk-at (with_new cs n) i ∙ get_or-set_same (with_entry cs) i (Some (replicate n 0)) None within

-- what a new chunk needs goes by its length too
pub need-new : (cs : List (Option (List ℕ))) (n : ℕ) (bytes : List ℕ) → length bytes ≡ n
    → need (with_bytes (with_new cs n) (new_handle cs) bytes) ≡ need (with_new cs n)
need-new cs n bytes long =
    let i = lowest_entry cs in
    let e : entry_of (handle_of i) ≡ i = omega arith in
    need-length (with_new cs n) (new_handle cs) (replicate n 0) bytes (replicate n 0) (chunk-new cs n) (long ∙ sym (length-replicate {A = ℕ} n 0))
    ∙ ap (λ k. need (set (with_new cs n) k (Some (replicate n 0)))) e
    ∙ ap need (set-twice (with_entry cs) i (Some (replicate n 0)) (Some (replicate n 0)))

-- a chunk is no longer than what is needed for it
pub need-least : (cs : List (Option (List ℕ))) (c : ℕ) (old bytes : List ℕ) → chunk_of cs c ≡ Some old → length bytes ≤ need (with_bytes cs c bytes)
need-least cs c old bytes h =
    let i = entry_of c in
    let within = (chunk-known cs c old h).within in
    let now = set cs i (Some bytes) in
    let u = used-set now i None (omega (arith, length-set cs i (Some bytes), within)) in
    let e : cost_of (get_or now i None) ≡ cost (length bytes) = ap cost_of (get_or-set_same cs i (Some bytes) None within) in
    omega (arith, u, e, cost-over (length bytes))
