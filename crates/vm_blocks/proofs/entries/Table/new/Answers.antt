use Rattle.std.proofs.Common.{rules, false, List, Option, refl, replicate, subst, sym}
use Rattle.vm_blocks.specs.declared.entries.Held.{Held}
use Rattle.vm_blocks.specs.Groups.{AreGroups}
use Rattle.vm_blocks.proofs.GroupMarks.{groups_none}
use Rattle.vm_blocks.proofs.entries.Table.new.Goals as goal

pub invariant_of-result : goal.invariant_of-result
invariant_of-result c =
    let items = c.in_ok-entries.ensures.items_if_clones_equal (λ y clone. search rules) in
    subst (λ (entries : List (Option Held)). AreGroups entries (replicate 1024 false)) (sym items) (groups_none 1024 1024 refl refl)
