use Rattle.std.proofs.Common.{◌≡◌, ◌<◌, true, false, ap, refl, sym, subst}
use Rattle.std.specs.Prelude.{◌↔◌, Err, Ok, Result}
use Rattle.geos_terms.specs.declared.refusal.Refusal.{Refusal}
use Rattle.geos_calls.specs.ItemCalls.{gfree}
use Rattle.geos_terms.specs.declared.refusal.Refusal.TheVariants as refusal
use Rattle.block_handles.specs.Store.{locks_of}
use Rattle.vm_blocks.specs.declared.error.FreeError.{FreeError}
use Rattle.vm_blocks.specs.declared.error.FreeError.TheVariants as error
use Rattle.vm_blocks.specs.DoesRow.{DoesRow}
use Rattle.vm_blocks.specs.Refused.{why_not_freed}
use Rattle.vm_blocks.specs.View.{VmState, vm_slot}
use Rattle.db_items.specs.Groups.{IsGroup}
use Rattle.db_items.proofs.GroupRows.{free-row, free_no_group-row}
use Rattle.db_items.proofs.groups.group_free.Goals as goal

-- why it was not freed
locked-why : (why : FreeError) → (◌≡◌ {A = Result (Unit {0}) Refusal} (Err (why_not_freed why)) (Err refusal.Locked))
    ↔ (◌≡◌ {A = Result (Unit {0}) FreeError} (Err why) (Err error.Locked))
locked-why error.BadHandle = ((λ e. absurd cc), (λ e. absurd cc))
locked-why error.Locked = ((λ e. refl), (λ e. refl))

-- a group that was freed was not refused
freed-not : (why : Refusal) → ◌≡◌ {A = Result (Unit {0}) Refusal} (Ok tt) (Err why) → ⊥
freed-not why e = absurd cc

freed-no : (why : FreeError) → ◌≡◌ {A = Result (Unit {0}) FreeError} (Ok tt) (Err why) → ⊥
freed-no why e = absurd cc

pub returns-then-not-is_group : goal.returns-then-not-is_group
returns-then-not-is_group g c =
    let d = g.D.Device in
    let none : IsGroup c.args.vm.now c.args.group → ⊥ = λ group. (let no : false ≡ true = c.if-not-is_group.ensures.1 group in absurd cc) in
    record {
      tied = c.requires;
      row = free_no_group-row d.medium c.args.vm.now c.args.blocks.now c.args.group c.requires none;
      no_group = λ other. (refl, refl, refl);
      locked = λ group. absurd (none group);
      state = tt;
      drops = tt;
      err = (refl, refl);
      file = refl;
    }

pub returns-in-Ok : goal.returns-in-Ok
returns-in-Ok g c =
    let d = g.D.Device in
    let v = c.args.vm.now in
    let s = c.args.blocks.now in
    let h = c.args.group in
    let e = c.in-Ok.ensures in
    let group : IsGroup v h = c.if-not-is_group.ensures.0 refl in
    record {
      tied = e.tied;
      row = free-row d.medium v s h c.requires group c.vfree.new.self c.vfree.new.blocks (Ok tt) e.row;
      no_group = λ none. absurd (none group);
      locked = λ was. (λ is. absurd (freed-not refusal.Locked is), λ some. absurd (freed-no error.Locked (e.locked.1 some)));
      state = e.state;
      drops = e.drops;
      err = tt;
      file = ap (λ (x : VmState g.row.D.Denot). x.file) e.state;
    }

pub returns-in-Err : goal.returns-in-Err
returns-in-Err g c =
    let d = g.D.Device in
    let v = c.args.vm.now in
    let s = c.args.blocks.now in
    let w = c.vfree.new.self in
    let t = c.vfree.new.blocks in
    let h = c.args.group in
    let why = c.in-Err.why in
    let e = c.in-Err.ensures in
    let by = locked-why why in
    let group : IsGroup v h = c.if-not-is_group.ensures.0 refl in
    let Locked : Refusal → Type 0 = λ r. (◌≡◌ {A = Result (Unit {0}) Refusal} (Err r) (Err refusal.Locked)) ↔ (0 < locks_of s (vm_slot h)) in
    record {
      tied = e.tied;
      row = subst (λ (r : Refusal). DoesRow d.medium (gfree h) (Err r) v s w t) (sym c.refusal.ensures)
          (free-row d.medium v s h c.requires group w t (Err (why_not_freed why)) e.row);
      no_group = λ none. absurd (none group);
      locked = λ was. subst Locked (sym c.refusal.ensures) ((λ is. e.locked.0 (by.0 is)), (λ some. by.1 (e.locked.1 some)));
      state = tt;
      drops = tt;
      err = e.err;
      file = ap (λ (x : VmState g.row.D.Denot). x.file) e.err.0;
    }
