use Rattle.std.proofs.Common.{◌≡◌, ◌∙◌, ◌+◌, ℕ, List, Option, Some, ap, get_or, set, subst, sym}
use Rattle.vm_file.specs.declared.directory.Entry.{Entry}
use Rattle.vm_blocks.specs.declared.entries.Held.{Held}
use Rattle.vm_blocks.specs.Listed.{as_held}
use Rattle.vm_blocks.proofs.Walk.{Walks, walks-end, walks-other, walks-own}
use Rattle.vm_blocks.proofs.entries.list.Goals.{then-next-entries+then-entries-next, else-next-entries, else-next-entries-via-then-next-entries+else-entries-next, else-next-entries-via-else-next-entries}
use Rattle.vm_blocks.proofs.entries.list.Goals as goal

-- what stands for an entry past the last one
abbrev none : Entry
none = record { h = 0; uid = 0; len = 0 }

-- the same walk, by other names
walks-alike : (xs es : List Entry) (u t : List (Option Held)) (i m n : ℕ) → xs ≡ es → t ≡ u → n ≡ m → Walks xs u i m → Walks es t i n
walks-alike xs es u t i m n es_is t_is n_is w = subst (λ a. Walks a t i n) es_is
    (subst (λ b. Walks xs b i n) (sym t_is) (subst (λ k. Walks xs u i k) (sym n_is) w))

pub loop-i-preserved : goal.loop-i-preserved
loop-i-preserved c =
    let es = c.args.directory.now.entries.items in
    let xs = c.as_slice-entries.result.now in
    let e : xs ≡ es = c.as_slice-entries.ensures.value in
    let table = c.loop-i.table in
    let i = c.loop-i.i in
    let next = c.loop-i.next in
    let small = c.loop-i-test.true in
    let w : Walks xs table i next = subst (λ a. Walks a table i next) (sym e) c.loop-i.invariant in
    elim c.if-next-entries.branch [
      | then-next-entries+then-entries-next b ↦ walks-alike xs es _ _ (i + 1) _ _ e (b.table-is ∙ b.put-then-entries-next.ensures
          ∙ ap (λ (t : List (Option Held)). set t i (Some (as_held (get_or xs next none)))) c.put.ensures) b.next-is
          (walks-own xs table i next small w none b.if-next-entries.true b.if-entries-next.true)
      | else-next-entries b ↦ walks-alike xs es _ _ (i + 1) _ _ e (b.table-is ∙ c.put.ensures) b.next-is (elim b.else-next-entries.branch [
        | else-next-entries-via-then-next-entries+else-entries-next a ↦ walks-other xs table i next small w none
            a.if-next-entries.true a.if-entries-next.false
        | else-next-entries-via-else-next-entries a ↦ walks-end xs table i next small w a.if-next-entries.false
      ])
    ]
