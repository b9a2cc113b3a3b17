-- The table of what is listed, by handles.
use Rattle.std.proofs.Common.{◌≡◌, ◌≢◌, ◌∙◌, ℕ, zero, suc, List, length, length-set, Option, Some, None, refl, sym, ap, subst, arith}
use Rattle.std.specs.Prelude.{IsSomeAnd, option_map}
use Rattle.std.proofs.lemmas.List.{get_or-set_same, get_or-set_other}
use Rattle.geos_calls.specs.Handles.{at_handle, with_entry_at}
use Rattle.block_handles.specs.Names.{IsHandle}
use Rattle.vm_blocks.specs.declared.entries.Held.{Held}
use Rattle.vm_blocks.specs.View.{VmState, held_at}
use Rattle.vm_blocks.specs.Tied.{AreMapped}

module _ {X : Type 0} where
  pub length-with : (es : List X) (h : ℕ) (x : X) → length (with_entry_at es h x) ≡ length es
  length-with es zero x = refl
  length-with es (suc h) x = length-set es h x

pub held-same : (es : List (Option Held)) (h : ℕ) (x : Option Held) → IsHandle h → length es ≡ 1024 → at_handle None (with_entry_at es h x) h ≡ x
held-same es zero x q long = absurd (let some = q.0 in omega (arith, some))
held-same es (suc h) x q long = get_or-set_same es h x None (let most = q.1 in omega (arith, most, long))

pub held-other : (es : List (Option Held)) (h k : ℕ) (x : Option Held) → k ≢ h → at_handle None (with_entry_at es h x) k ≡ at_handle None es k
held-other es zero k x ne = refl
held-other es (suc h) zero x ne = refl
held-other es (suc h) (suc k) x ne = get_or-set_other es h k x None (λ same. ne (ap suc same))

same-uid : (P : ℕ → Type 0) (a b : Option Held) → option_map (λ (x : Held). x.uid) b ≡ option_map (λ (x : Held). x.uid) a
    → IsSomeAnd a (λ e. P e.uid) → IsSomeAnd b (λ e. P e.uid)
same-uid P None b same s = absurd s
same-uid P (Some a) None same s = absurd cc
same-uid P (Some a) (Some b) same s = let e : b.uid ≡ a.uid = cc in subst P (sym e) s

-- where each handle has the user ID that it had, and the same is mapped, it still may be
pub maps-alike : {D : Type 0} (v w : VmState D)
    → ((k : ℕ) → option_map (λ (x : Held). x.uid) (held_at w k) ≡ option_map (λ (x : Held). x.uid) (held_at v k))
    → w.map_block ≡ v.map_block → w.map_item ≡ v.map_item → AreMapped v → AreMapped w
maps-alike v w uids block item maps =
    let group : w.map_item.0 ≡ v.map_item.0 = ap (λ p. p.0) item in
    record {
      block = λ some. same-uid (λ u. u ≢ 65280) (held_at v w.map_block) (held_at w w.map_block) (uids w.map_block)
          (subst (λ k. IsSomeAnd (held_at v k) (λ e. e.uid ≢ 65280)) (sym block) (maps.block (λ z. some (block ∙ z))));
      group = λ some. same-uid (λ u. u ≡ 65280) (held_at v w.map_item.0) (held_at w w.map_item.0) (uids w.map_item.0)
          (subst (λ k. IsSomeAnd (held_at v k) (λ e. e.uid ≡ 65280)) (sym group) (maps.group (λ z. some (group ∙ z))));
      no_item = λ z. ap (λ p. p.1) item ∙ maps.no_item (sym group ∙ z);
    }
