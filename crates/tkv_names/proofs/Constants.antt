-- Operations on a register and a constant, and on two constants.
use Rattle.std.proofs.Common.{◌≡◌, ℕ, ◌-◌, ◌*◌, ◌/◌, ◌%◌, ◌^◌, List, sym, ap, ◌∙◌, subst, inl, inr, mul_comm}
use Rattle.std.specs.Prelude.{bit_and, drop, slice_index}
use lib.Bits.{and_mask, and_comm}
use Rattle.geos_image.specs.declared.instr.Instr.{Instr}
use Rattle.geos_opcodes.specs.declared.opcode.Opcode.{Opcode}
use Rattle.tkv_syntax.specs.declared.item.Item.{Item}
use Rattle.tkv_syntax.specs.declared.item.ItemKind.{ItemKind}
use Rattle.tkv_syntax.specs.declared.item.ItemKind.TheVariants as kind
use Rattle.tkv_names.specs.Named.{Env, joined, Next, Joins, DoesItem, Says}
use Rattle.tkv_names.specs.Seen.{Immediate, Commutes, IsFolded}
use Rattle.tkv_names.proofs.Steps.{Gives, gives_same, gives_muli, gives_and, gives_shr}

pub immediate_gives : (o : ItemKind) (n : ℕ) (i : Instr) → Immediate o n i.opcode i.imm → Gives i (λ ws. joined o (slice_index ws i.b) n)
immediate_gives kind.Mul n i (is, e) = subst (λ (m : ℕ). Gives i (λ ws. (slice_index ws i.b * m) % 65536)) e (gives_muli i is)
immediate_gives kind.Mask n i (is, e) = subst (λ (m : ℕ). Gives i (λ ws. bit_and (slice_index ws i.b) m)) e (gives_and i is)
immediate_gives kind.Right n i (is, e) = subst (λ (m : ℕ). Gives i (λ ws. slice_index ws i.b / 2 ^ m)) e (gives_shr i is)
immediate_gives kind.Left n i (is, e) = subst (λ (m : ℕ). Gives i (λ ws. (slice_index ws i.b * m) % 65536)) e (gives_muli i is)
immediate_gives kind.Div n i (is, e) = subst (λ (m : ℕ). Gives i (λ ws. slice_index ws i.b / m)) (sym e) (gives_shr i is)
immediate_gives kind.Rem n i (is, (k, e), m) = gives_same i (λ ws. bit_and (slice_index ws i.b) i.imm) (λ ws. slice_index ws i.b % n) same (gives_and i is)
  where
    same : (ws : List ℕ) → bit_and (slice_index ws i.b) i.imm ≡ slice_index ws i.b % n
    same ws = ap (bit_and (slice_index ws i.b)) (m ∙ ap (λ (p : ℕ). p - 1) e)
        ∙ (and_mask (slice_index ws i.b) k ∙ ap (λ (p : ℕ). slice_index ws i.b % p) (sym e))
immediate_gives _ n i h = absurd h

pub turned : (o : ItemKind) → Commutes o → (x y : ℕ) → joined o x y ≡ joined o y x
turned o (inl is) x y = subst (λ (p : ItemKind). joined p x y ≡ joined p y x) (sym is) (ap (λ (z : ℕ). z % 65536) (mul_comm x y))
turned o (inr is) x y = subst (λ (p : ItemKind). joined p x y ≡ joined p y x) (sym is) (and_comm x y)

module _ (text : List ℕ) (items : List Item) where
  pub immediate_does : (o : ItemKind) (n : ℕ) (opcode : Opcode) (imm : ℕ) → Immediate o n opcode imm
      → (p : ℕ) (item : Item) (env : Env) (vs more : List ℕ) → Joins o (Says text (drop p items) Next) env vs more
      → DoesItem text item o (Says text (drop p items)) env vs more
  immediate_does kind.Mul n opcode imm e p item env vs more h = h
  immediate_does kind.Mask n opcode imm e p item env vs more h = h
  immediate_does kind.Right n opcode imm e p item env vs more h = h
  immediate_does kind.Left n opcode imm e p item env vs more h = h
  immediate_does kind.Div n opcode imm e p item env vs more h = h
  immediate_does kind.Rem n opcode imm e p item env vs more h = h
  immediate_does _ n opcode imm e p item env vs more h = absurd e

  pub folded_does : (o : ItemKind) (x y word : ℕ) → IsFolded o x y word
      → (p : ℕ) (item : Item) (env : Env) (vs more : List ℕ) → Joins o (Says text (drop p items) Next) env vs more
      → DoesItem text item o (Says text (drop p items)) env vs more
  folded_does kind.Add x y word e p item env vs more h = h
  folded_does kind.Sub x y word e p item env vs more h = h
  folded_does kind.Mul x y word e p item env vs more h = h
  folded_does kind.Div x y word e p item env vs more h = h
  folded_does kind.Rem x y word e p item env vs more h = h
  folded_does kind.Mask x y word e p item env vs more h = h
  folded_does kind.Left x y word e p item env vs more h = h
  folded_does kind.Right x y word e p item env vs more h = h
  folded_does _ x y word e p item env vs more h = absurd e

pub folded_is : (o : ItemKind) (x y word : ℕ) → IsFolded o x y word → word ≡ joined o x y
folded_is kind.Add x y word e = e
folded_is kind.Sub x y word e = e
folded_is kind.Mul x y word e = e
folded_is kind.Div x y word e = e
folded_is kind.Rem x y word e = e
folded_is kind.Mask x y word e = e
folded_is kind.Left x y word e = e
folded_is kind.Right x y word e = e
folded_is _ x y word e = absurd e
