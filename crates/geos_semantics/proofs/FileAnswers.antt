-- What calls tell of the VM file is a word.
use Rattle.std.proofs.Common.{◌≡◌, ◌≢◌, ℕ, zero, suc, ◌+◌, ◌≤◌, true, false, Option, Some, None, List, length, refl, ap, sym, ◌∙◌, arith, inl, inr}
use Rattle.std.specs.Prelude.{is_none, option_map, unwrap_or, position, drop, IfSome, IsSomeAnd}
use Rattle.std.proofs.lemmas.Bool.{cases_lt}
use Rattle.std.proofs.lemmas.List.{get_or_past, length-drop}
use Rattle.std.proofs.lemmas.List.Quantifiers.{position-Some}
use Rattle.geos_calls.specs.Directories.{VmBlock, uid_in}
use Rattle.geos_terms.specs.Names.{group_uid}
use Rattle.geos_calls.specs.Handles.{at_handle}
use Rattle.geos_calls.specs.Memory.{Memory, listed_at}
use Rattle.geos_calls.specs.Legal.{IsLegalListed, IsMemory}
use Rattle.geos_calls.specs.VmCalls.{has_uid, found_above}

-- a handle under which something is listed is within the list
listed-within : {X : Type 0} (xs : List (Option X)) (h : ℕ) → is_none (at_handle None xs h) ≡ false → h ≤ length xs
listed-within xs zero there = omega arith
listed-within xs (suc h) there = elim (cases_lt h (length xs)) [
  | inl l ↦ omega (arith, l)
  | inr l ↦ absurd (let none = ap is_none (get_or_past xs h None l) in let both : false ≡ true = sym there ∙ none in cc)
]

listed-some : {B : Type 0} (uid : B → ℕ) (P : ℕ → Type 0) (o : Option B) → IsSomeAnd (option_map uid o) P → is_none o ≡ false
listed-some uid P None h = absurd h
listed-some uid P (Some b) h = refl

-- a handle that is 0, or has something listed, is a word
mapped-small : (m : Memory) (P : ℕ → Type 0) (h : ℕ) → IsMemory m → (h ≢ 0 → IsSomeAnd (option_map (λ (l : VmBlock). l.uid) (listed_at m h)) P)
    → h ≤ 65535
mapped-small m P h legal there = elim (cases_lt 0 h) [
  | inl l ↦ (
      let some = there (λ e. absurd (omega (arith, l, e))) in
      let within = listed-within m.file.cur.blocks h (listed-some (λ (l : VmBlock). l.uid) P (listed_at m h) some) in
      omega (arith, within, legal.file.cur.handles)
      )
  | inr l ↦ omega (arith, l)
]

-- what is mapped
pub map_block-small : (m : Memory) → IsMemory m → m.file.cur.map_block ≤ 65535
map_block-small m legal = mapped-small m (λ u. u ≢ group_uid) m.file.cur.map_block legal legal.file.cur.maps.map_block

pub map_group-small : (m : Memory) → IsMemory m → m.file.cur.map_group ≤ 65535
map_group-small m legal = mapped-small m (λ u. u ≡ group_uid) m.file.cur.map_group legal legal.file.cur.maps.map_group

pub map_item-small : (m : Memory) → IsMemory m → m.file.cur.map_item ≤ 65535
map_item-small m legal = omega (arith, legal.file.cur.maps.word)

-- what is found by a user ID
pub found-small : (m : Memory) (start uid : ℕ) → IsMemory m → unwrap_or (found_above start uid m.file.cur.blocks) 0 ≤ 65535
found-small m start uid legal = go (position (has_uid uid) (drop start m.file.cur.blocks)) refl
  where
    go : (o : Option ℕ) → position (has_uid uid) (drop start m.file.cur.blocks) ≡ o → unwrap_or (option_map (λ i. start + suc i) o) 0 ≤ 65535
    go None e = omega arith
    go (Some k) e =
        let found = position-Some (has_uid uid) (drop start m.file.cur.blocks) k None e in
        omega (arith, found.0, length-drop start m.file.cur.blocks, legal.file.cur.handles)

-- a user ID
pub uid-small : (m : Memory) (h : ℕ) → IsMemory m → uid_in (listed_at m h) ≤ 65535
uid-small m h legal = go (listed_at m h) (legal.file.cur.blocks h)
  where
    go : (o : Option VmBlock) → IfSome o IsLegalListed → uid_in o ≤ 65535
    go None k = omega arith
    go (Some l) k = omega (arith, k.uid)
