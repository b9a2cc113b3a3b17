-- The table of which entries are groups goes along with the entries.
use Rattle.std.proofs.Common.{◌≡◌, ◌∙◌, ℕ, ◌<◌, Bool, false, List, length-set, get_or, set, replicate, Option, None, sym, ap, subst, arith, inl, inr}
use Rattle.std.proofs.lemmas.Bool.{cases_eq}
use Rattle.std.proofs.lemmas.List.{get_or-replicate, get_or-set_other, get_or-set_same, length-replicate}
use Rattle.vm_blocks.specs.declared.entries.Held.{Held}
use Rattle.vm_blocks.specs.Groups.{AreGroups, is_group}

-- one entry, or none, is written
pub groups_put : (entries : List (Option Held)) (groups : List Bool) (i : ℕ) (held : Option Held) (group : Bool)
    → i < 1024 → AreGroups entries groups → group ≡ is_group held
    → AreGroups (set entries i held) (set groups i group)
groups_put entries groups i held group small are is = let long = are.long in let marks = are.marks in record {
  long = length-set entries i held ∙ long;
  marks = length-set groups i group ∙ marks;
  each = λ k below. elim (cases_eq k i) [
    | inl same ↦ subst (λ j. get_or (set groups i group) j false ≡ is_group (get_or (set entries i held) j None)) (sym same)
        (get_or-set_same groups i group false (omega (arith, small, marks)) ∙ is
        ∙ sym (ap is_group (get_or-set_same entries i held None (omega (arith, small, long)))))
    | inr ne ↦ get_or-set_other groups i k group false ne ∙ are.each k below ∙ sym (ap is_group (get_or-set_other entries i k held None ne))
  ];
}

-- where nothing is listed, nothing is a group
pub groups_none : (n m : ℕ) → n ≡ 1024 → m ≡ 1024 → (let none : Option Held = None in AreGroups (replicate n none) (replicate m false))
groups_none n m n_is m_is = let none : Option Held = None in record {
  long = length-replicate n none ∙ n_is;
  marks = length-replicate m false ∙ m_is;
  each = λ k below. get_or-replicate m k false false (omega (arith, below, m_is))
      ∙ sym (ap is_group (get_or-replicate n k none none (omega (arith, below, n_is))));
}
