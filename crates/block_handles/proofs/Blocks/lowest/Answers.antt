use Rattle.std.proofs.Common.{◌≡◌, ℕ, ◌+◌, ◌-◌, ◌*◌, ◌/◌, ◌<◌, ◌≤◌, ap, sym, ◌∙◌, subst, arith}
use Rattle.block_handles.specs.Bits.{bit_of, IsLowestFree}
use Rattle.block_handles.specs.Names.{first_slot}
use Rattle.block_handles.specs.Store.{Store}
use Rattle.block_handles.specs.Used.{AllInUse, IsLowest}
use Rattle.block_handles.proofs.LowestHandles.{first-words, first-small, lowest-found, all-in-use, none-holds}
use Rattle.block_handles.proofs.Blocks.lowest.Goals as goal

pub lowest_free-requires : goal.lowest_free-requires
lowest_free-requires c = (omega (arith, c.first_slot-first.ensures, first-small c.args.owner), c.self.invariant.used.long)

free_slot : (c : goal.In_ok-slot) → IsLowestFree c.self.inside.used.words.items (first_slot c.args.owner) c.in_ok-slot.slot
free_slot c =
    subst (λ (x : ℕ). IsLowestFree c.self.inside.used.words.items x c.in_ok-slot.slot)
    (ap (λ x. 64 * (x / 64)) c.first_slot-first.ensures ∙ first-words c.args.owner) c.in_ok-slot.ensures.found

pub overflow_sub-result : goal.overflow_sub-result
overflow_sub-result c = omega (arith, (free_slot c).low, c.first_slot-first.ensures)

pub overflow_cast-result : goal.overflow_cast-result
overflow_cast-result c = let f = free_slot c in omega (arith, f.low, f.high, c.first_slot-first.ensures)

pub overflow_add-result : goal.overflow_add-result
overflow_add-result c = let f = free_slot c in omega (arith, f.low, f.high, c.first_slot-first.ensures)

pub returns-in_err-slot-clause-none : goal.returns-in_err-slot-clause-none
returns-in_err-slot-clause-none c =
    let words = c.self.inside.used.words.items in
    none-holds c.from_residual.result _
    (subst (λ (s : Store). AllInUse s c.args.owner) c.self.view_is
    (all-in-use c.self.inside.arena c.args.owner words c.self.invariant.used
    (subst (λ (x : ℕ). (slot : ℕ) → x ≤ slot → slot < x + 1024 → bit_of words slot ≡ 1)
    (ap (λ x. 64 * (x / 64)) c.first_slot-first.ensures ∙ first-words c.args.owner) c.in_err-slot.ensures.none)))

pub returns-clause-found : goal.returns-clause-found
returns-clause-found c =
    let slot = c.in_ok-slot.slot in
    subst (λ (s : Store). IsLowest s c.args.owner (slot - c.first_slot-first.result + 1)) c.self.view_is
    (subst (λ (x : ℕ). IsLowest c.self.inside.arena c.args.owner (slot - x + 1)) (sym c.first_slot-first.ensures)
    (lowest-found c.self.inside.arena c.args.owner c.self.inside.used.words.items slot c.self.invariant.used (free_slot c)))
