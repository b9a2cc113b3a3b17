use Rattle.std.proofs.Common.{◌≡◌, ◌⊎◌, ℕ, ap, inl, inr, refl, sym, subst}
use Rattle.std.specs.Prelude.{◌↔◌, Err, IfErr, Ok, Result}
use Rattle.geos_terms.specs.declared.refusal.Refusal.{Refusal}
use Rattle.geos_terms.specs.declared.refusal.Refusal.TheVariants as refusal
use Rattle.geos_calls.specs.ItemCalls.{gnew}
use Rattle.vm_blocks.specs.declared.error.NewError.{NewError}
use Rattle.vm_blocks.specs.declared.error.NewError.TheVariants as error
use Rattle.vm_blocks.specs.Refused.{why_not_made}
use Rattle.block_handles.specs.Store.{Store}
use Rattle.vm_file.specs.Device.{Medium}
use Rattle.vm_blocks.specs.Blocks.{AllListed, LacksRoomForNew}
use Rattle.vm_blocks.specs.DoesRow.{DoesRow}
use Rattle.vm_blocks.specs.View.{VmState}
use Rattle.db_items.proofs.groups.group_new.Goals as goal

only-two : (why : NewError) → (why_not_made why ≡ refusal.NoHandle) ⊎ (why_not_made why ≡ refusal.NoRoom)
only-two error.NoHandle = inl refl
only-two error.NoRoom = inr refl

room-why : (why : NewError) → ◌≡◌ {A = Result ℕ Refusal} (Err (why_not_made why)) (Err refusal.NoRoom)
    → ◌≡◌ {A = Result ℕ NewError} (Err why) (Err error.NoRoom)
room-why error.NoHandle e = absurd cc
room-why error.NoRoom e = refl

handle-why : (why : NewError) → (◌≡◌ {A = Result ℕ Refusal} (Err (why_not_made why)) (Err refusal.NoHandle))
    ↔ (◌≡◌ {A = Result ℕ NewError} (Err why) (Err error.NoHandle))
handle-why error.NoHandle = ((λ e. refl), (λ e. refl))
handle-why error.NoRoom = ((λ e. absurd cc), (λ e. absurd cc))

-- what is promised of a new group
record Made {D : Type 0} (medium : Medium D) (r : Result ℕ Refusal) (v w : VmState D) (s t : Store) : Type 0 where
  pub row : DoesRow medium gnew r v s w t
  pub why : IfErr r (λ why. (why ≡ refusal.NoHandle) ⊎ (why ≡ refusal.NoRoom))
  pub no_handle : (r ≡ Err refusal.NoHandle) ↔ AllListed v
  pub no_room : r ≡ Err refusal.NoRoom → LacksRoomForNew v s t
  pub stays : r ≡ Err refusal.NoHandle → t ≡ s

-- a group that was made was not refused
made-not : (h : ℕ) (why : Refusal) → ◌≡◌ {A = Result ℕ Refusal} (Ok h) (Err why) → ⊥
made-not h why e = absurd cc

made-no : (h : ℕ) (why : NewError) → ◌≡◌ {A = Result ℕ NewError} (Ok h) (Err why) → ⊥
made-no h why e = absurd cc

pub returns-in-Ok : goal.returns-in-Ok
returns-in-Ok g c =
    let e = c.in-Ok.ensures in
    record {
      tied = e.tied;
      row = e.row;
      ok = e.ok;
      why = tt;
      no_handle = (λ is. absurd (made-not c.in-Ok.g refusal.NoHandle is), λ all. absurd (made-no c.in-Ok.g error.NoHandle (e.no_handle.1 all)));
      no_room = λ is. absurd (made-not c.in-Ok.g refusal.NoRoom is);
      wanted = e.wanted;
      stays = λ is. absurd (made-not c.in-Ok.g refusal.NoHandle is);
      err = tt;
      file = ap (λ (x : VmState g.row.D.Denot). x.file) e.ok.state;
    }

pub returns-in-Err : goal.returns-in-Err
returns-in-Err g c =
    let d = g.D.Device in
    let v = c.args.vm.now in
    let s = c.args.blocks.now in
    let w = c.vnew_unlocked.new.self in
    let t = c.vnew_unlocked.new.blocks in
    let why = c.in-Err.why in
    let e = c.in-Err.ensures in
    let by = handle-why why in
    let made : Made d.medium (Err (why_not_made why)) v w s t = record {
      row = e.row;
      why = only-two why;
      no_handle = ((λ is. e.no_handle.0 (by.0 is)), (λ all. by.1 (e.no_handle.1 all)));
      no_room = λ is. e.no_room (room-why why is);
      stays = λ is. e.stays (by.0 is);
    } in
    let of = subst (λ (r : Refusal). Made d.medium (Err r) v w s t) (sym c.refusal.ensures) made in
    record {
      tied = e.tied;
      row = of.row;
      ok = tt;
      why = of.why;
      no_handle = of.no_handle;
      no_room = of.no_room;
      wanted = e.wanted;
      stays = of.stays;
      err = e.err;
      file = ap (λ (x : VmState g.row.D.Denot). x.file) e.err;
    }
