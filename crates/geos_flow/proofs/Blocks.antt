-- The flags of blocks of 64 pcs.
use Rattle.std.proofs.Common.{◌≡◌, ◌<◌, ◌+◌, ◌*◌, ◌/◌, ◌≢◌, ℕ, Bool, true, false, List, length, replicate, get_or, set, sym, ap, ◌∙◌, subst, inl, inr, arith}
use Rattle.std.proofs.lemmas.Bool.{cases_eq}
use Rattle.std.proofs.lemmas.List.{get_or-replicate, get_or-set_same, get_or-set_other}
use Rattle.geos_flow.specs.Marks.{no_marks, is_marked}
use Rattle.geos_flow.specs.Pending.{AllMarked, NoneIn, AreIn}
use Rattle.geos_flow.proofs.Marked.{is-marked, has-marked, marked-low, none-marked}

block-low : (pc : ℕ) → pc < 4096 → pc / 64 < 64
block-low pc low = omega arith

pub all-marked : AllMarked (replicate 4096 true)
all-marked pc low = is-marked (replicate 4096 true) pc low (get_or-replicate 4096 pc true false low)

pub all-in : AreIn (replicate 64 true) (replicate 4096 true)
all-in pc is = get_or-replicate 64 (pc / 64) true false (block-low pc (marked-low (replicate 4096 true) pc is))

pub none-in : (blocks marks : List Bool) → marks ≡ no_marks → AreIn blocks marks
none-in blocks marks none pc is = absurd (none-marked pc (has-marked no_marks pc (subst (λ m. is_marked m pc ≡ true) none is)))

was-marked : (marks : List Bool) (pc k : ℕ) → length marks ≡ 4096 → pc < 4096 → is_marked (set marks pc false) k ≡ true
    → (k ≢ pc) × (is_marked marks k ≡ true)
was-marked marks pc k full low there = elim (cases_eq k pc) [
  | inl same ↦
      let here : get_or (set marks pc false) k false ≡ false = ap (λ n. get_or (set marks pc false) n false) same
      ∙ get_or-set_same marks pc false false (omega arith) in
      let has = has-marked (set marks pc false) k there in
      absurd cc
  | inr ne ↦ (
    ne,
    is-marked marks k (marked-low (set marks pc false) k there)
        (sym (get_or-set_other marks pc k false false ne) ∙ has-marked (set marks pc false) k there),
  )
]

-- where one pc less is marked
pub less-in : (blocks marks : List Bool) (pc : ℕ) → length marks ≡ 4096 → pc < 4096 → AreIn blocks marks → AreIn blocks (set marks pc false)
less-in blocks marks pc full low are k there = are k (was-marked marks pc k full low there).1

-- where none of a block is marked
pub none-left : (blocks marks : List Bool) (block : ℕ) → NoneIn marks (block * 64) (block * 64 + 64) → AreIn blocks marks
    → AreIn (set blocks block false) marks
none-left blocks marks block none are k there = elim (cases_eq (k / 64) block) [
  | inl same ↦ (let not_so = none k (omega (arith, same)) (omega (arith, same)) in absurd cc)
  | inr ne ↦ get_or-set_other blocks block (k / 64) false false ne ∙ are k there
]
