-- What `open` finds in an image that a stop may leave.
use Rattle.std.proofs.Common.{◌≡◌, ℕ, zero, suc, ◌+◌, ◌-◌, ◌<◌, ◌≤◌, ◌⊎◌, Bool, true, false, not, List, [], ◌∷◌, length, take, drop, get_or, Ok, refl, ap, sym, ◌∙◌, subst, inl, inr, arith}
use Rattle.std.specs.Prelude.{MatchBool}
use Rattle.std.proofs.lemmas.List.{take-take, drop-drop, get_or-take}
use Rattle.lmem_raw.specs.Bytes.{part}
use Rattle.vm_file.specs.Contents.{Pair}
use Rattle.vm_file.specs.Device.{Medium, Touched}
use Rattle.vm_file.specs.Reading.{header_at, pair_at, found, File, is_second, base_of, area_of}
use Rattle.vm_file.specs.State.{FileState, Holds, Finds, IsOther, pair_of}
use Rattle.vm_file.proofs.SpellLaws.{goes}
use Rattle.vm_file.proofs.StateLaws.{FileParts, file_from}

-- the parts of lists that are equal before or after an offset
part_take : (c : List ℕ) (at p n : ℕ) → p + n ≤ at → part (take at c) p n ≡ part c p n
part_take c zero zero zero h = refl
part_take c zero zero (suc n) h = absurd (omega arith)
part_take c zero (suc p) n h = absurd (omega arith)
part_take [] (suc at) p n h = refl
part_take (x ∷ c) (suc at) zero zero h = refl
part_take (x ∷ c) (suc at) zero (suc n) h = ap (λ xs. x ∷ xs) (part_take c at zero n (omega arith))
part_take (x ∷ c) (suc at) (suc p) n h = part_take c at p n (omega arith)

pub part_before : (c d : List ℕ) (at p n : ℕ) → p + n ≤ at → take at c ≡ take at d → part c p n ≡ part d p n
part_before c d at p n h e = sym (part_take c at p n h) ∙ ap (λ l. part l p n) e ∙ part_take d at p n h

pub part_behind : (c d : List ℕ) (m p n : ℕ) → m ≤ p → drop m c ≡ drop m d → part c p n ≡ part d p n
part_behind c d m p n h e =
    let k : m + (p - m) ≡ p = omega arith in
    subst (λ q. part c q n ≡ part d q n) k (ap (take n) (sym (drop-drop (p - m) m c) ∙ ap (drop (p - m)) e ∙ drop-drop (p - m) m d))

-- the two areas do not overlap, and lie after the selector
pub areas_apart : (area : ℕ) (b : Bool) → (513 ≤ base_of area b)
    × ((base_of area b + area ≤ base_of area (not b)) ⊎ (base_of area (not b) + area ≤ base_of area b))
areas_apart area true = (omega arith, inr (omega arith))
areas_apart area false = (omega arith, inl (omega arith))

-- a write after the first 513 bytes does not change the header and the selector
pub header_kept : (c d : List ℕ) (at n : ℕ) → 513 ≤ at → Touched at n d c → (take 512 c ≡ take 512 d) × (get_or c 512 0 ≡ get_or d 512 0)
header_kept c d at n far t = (
  sym (take-take 512 at c (omega arith)) ∙ ap (take 512) t.before ∙ take-take 512 at d (omega arith),
  sym (get_or-take at c 512 0 (omega arith)) ∙ ap (λ l. get_or l 512 0) t.before ∙ get_or-take at d 512 0 (omega arith),
)

pub found_from : (image : List ℕ) (f : File) → FileParts image f → found image ≡ Ok f.pair
found_from image f parts = goes _ f _ _ (file_from image f parts) refl

module _ {D : Type 0} (medium : Medium D) (f : FileState D) where
  -- what was written in the other area does not matter
  pub found_sure : (c : List ℕ) → 512 < length (medium.image f.device) → header_at (take 512 (medium.image f.device)) ≡ Ok f.area
      → is_second (get_or (medium.image f.device) 512 0) ≡ f.second →
      pair_at (base_of f.area f.second) (area_of (medium.image f.device) f.area f.second) ≡ Ok (pair_of medium.image f)
      → Touched (base_of f.area (not f.second)) f.area (medium.image f.device) c → found c ≡ Ok (pair_of medium.image f)
  found_sure c long header selector pair t =
      let d = medium.image f.device in
      let base = base_of f.area f.second in
      let k = header_kept c d (base_of f.area (not f.second)) f.area (areas_apart f.area (not f.second)).0 t in
      let same : part c base f.area ≡ part d base f.area = elim (areas_apart f.area f.second).1 [
        | inl low ↦ part_before c d (base_of f.area (not f.second)) base f.area low t.before
        | inr high ↦ part_behind c d (base_of f.area (not f.second) + f.area) base f.area high t.behind
      ] in
      let n = t.long in
      found_from c (record { area = f.area; second = f.second; pair = pair_of medium.image f }) (record {
        header = ap header_at k.0 ∙ header;
        long = omega (arith, n, long);
        selector = ap is_second k.1 ∙ selector;
        pair = ap (pair_at base) same ∙ pair;
      })

  -- whatever the selector is, one of the two areas is found
  pub found_unsure : (c : List ℕ) (q : Pair) → 512 < length (medium.image f.device) → header_at (take 512 (medium.image f.device)) ≡ Ok f.area →
      pair_at (base_of f.area f.second) (area_of (medium.image f.device) f.area f.second) ≡ Ok (pair_of medium.image f)
      → IsOther medium.image f q → Touched 512 1 (medium.image f.device) c → (found c ≡ Ok (pair_of medium.image f)) ⊎ (found c ≡ Ok q)
  found_unsure c q long header pair other t = by f.second (is_second (get_or c 512 0)) refl pair other
    where
      kept : (b : Bool) → part c (base_of f.area b) f.area ≡ part (medium.image f.device) (base_of f.area b) f.area
      kept b = part_behind c (medium.image f.device) 513 (base_of f.area b) f.area (areas_apart f.area b).0 t.behind

      read : (b : Bool) (p : Pair) → is_second (get_or c 512 0) ≡ b → pair_at (base_of f.area b) (area_of (medium.image f.device) f.area b) ≡ Ok p
          → found c ≡ Ok p
      read b p sel is =
          let n = t.long in
          found_from c (record { area = f.area; second = b; pair = p })
          (record {
            header = ap header_at t.before ∙ header;
            long = omega (arith, n, long);
            selector = sel;
            pair =
                ap (pair_at (base_of f.area b)) (kept b) ∙ is;
          })

      by : (b s : Bool) → is_second (get_or c 512 0) ≡ s → pair_at (base_of f.area b) (area_of (medium.image f.device) f.area b) ≡ Ok
          (pair_of medium.image f) →
          pair_at (base_of f.area (not b)) (area_of (medium.image f.device) f.area (not b)) ≡ Ok q
          → (found c ≡ Ok (pair_of medium.image f)) ⊎ (found c ≡ Ok q)
      by true true sel p o = inl (read true (pair_of medium.image f) sel p)
      by true false sel p o = inr (read false q sel o)
      by false true sel p o = inr (read true q sel o)
      by false false sel p o = inl (read false (pair_of medium.image f) sel p)

  -- `open` finds what the file keeps in each medium.image that a stop may leave
  pub finds : Holds medium f → (c : List ℕ) → medium.may_leave f.device c → Finds medium.image f c
  finds h c l = by f.sure h.leaves
    where
      by : (b : Bool) → MatchBool b ((is_second (get_or (medium.image f.device) 512 0) ≡ f.second)
          × ((x : List ℕ) → medium.may_leave f.device x → Touched (base_of f.area (not f.second)) f.area (medium.image f.device) x))
          (((q : Pair) × IsOther medium.image f q) × ((x : List ℕ) → medium.may_leave f.device x → Touched 512 1 (medium.image f.device) x)) →
          MatchBool b (found c ≡ Ok (pair_of medium.image f))
          ((found c ≡ Ok (pair_of medium.image f)) ⊎ ((q : Pair) × IsOther medium.image f q × (found c ≡ Ok q)))
      by true s = found_sure c h.long h.header s.0 h.pair (s.1 c l)
      by false s = elim (found_unsure c s.0.0 h.long h.header h.pair s.0.1 (s.1 c l)) [ inl p ↦ inl p | inr q ↦ inr (s.0.0, s.0.1, q) ]
