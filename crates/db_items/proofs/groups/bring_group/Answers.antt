use Rattle.std.proofs.Common.{◌≡◌, ap, false, true, refl, sym, subst}
use Rattle.std.specs.Prelude.{Err, Ok, Result}
use Rattle.geos_terms.specs.declared.refusal.Refusal.{Refusal}
use Rattle.geos_terms.specs.declared.refusal.Refusal.TheVariants as refusal
use Rattle.vm_blocks.specs.declared.error.BringError.{BringError}
use Rattle.vm_blocks.specs.declared.error.BringError.TheVariants as error
use Rattle.vm_blocks.specs.Refused.{why_not_brought}
use Rattle.vm_blocks.proofs.Bringing.{brings-as, brings-on, not-changed, nothing-brings}
use Rattle.db_items.specs.Groups.{BringsGroup, IsGroup}
use Rattle.db_items.proofs.groups.bring_group.Goals as goal

-- Which error a refusal was

room-why : (why : BringError) → why_not_brought why ≡ refusal.NoRoom → why ≡ error.NoRoom
room-why error.BadHandle e = absurd cc
room-why error.NoRoom e = refl
room-why error.Disk e = absurd cc

disk-why : (why : BringError) → why_not_brought why ≡ refusal.Disk → why ≡ error.Disk
disk-why error.BadHandle e = absurd cc
disk-why error.NoRoom e = absurd cc
disk-why error.Disk e = refl

not-short : (why : BringError) → why_not_brought why ≡ refusal.Short → ⊥
not-short error.BadHandle e = absurd cc
not-short error.NoRoom e = absurd cc
not-short error.Disk e = absurd cc

-- Answers that are not the same

abbrev Answer : Type 0
Answer = Result (Unit {0}) Refusal

bad-room : ◌≡◌ {A = Answer} (Err refusal.BadHandle) (Err refusal.NoRoom) → ⊥
bad-room e = absurd cc

bad-disk : ◌≡◌ {A = Answer} (Err refusal.BadHandle) (Err refusal.Disk) → ⊥
bad-disk e = absurd cc

bad-short : ◌≡◌ {A = Answer} (Err refusal.BadHandle) (Err refusal.Short) → ⊥
bad-short e = absurd cc

done-not : (why : Refusal) → ◌≡◌ {A = Answer} (Ok tt) (Err why) → ⊥
done-not why e = absurd cc

refused-not : (why : BringError) → ◌≡◌ {A = Result (Unit {0}) BringError} (Err why) (Ok tt) → ⊥
refused-not why e = absurd cc

err-same : (a b : Refusal) → ◌≡◌ {A = Answer} (Err a) (Err b) → a ≡ b
err-same a b e = cc

pub returns-then-not-is_group : goal.returns-then-not-is_group
returns-then-not-is_group g c =
    let d = g.D.Device in
    let now = c.args.vm.now in
    let s = c.args.blocks.now in
    let h = c.args.g in
    record {
      brings = nothing-brings d.medium refusal.NoRoom refusal.Disk h (Err refusal.BadHandle) now s c.requires (not-changed s h) bad-room bad-disk;
      no_group = λ none. (refl, refl, refl);
      known = tt;
      not_short = bad-short;
      there = λ there. (bad-room, bad-disk);
      row = λ group. (let no : false ≡ true = c.if-not-is_group.ensures.1 group in absurd cc);
      ok = tt;
    }

pub returns-in-Err : goal.returns-in-Err
returns-in-Err g c =
    let d = g.D.Device in
    let now = c.args.vm.now in
    let w = c.bring.new.self in
    let s = c.args.blocks.now in
    let t = c.bring.new.blocks in
    let h = c.args.g in
    let why = c.in-Err.why in
    let e = c.in-Err.ensures in
    let group : IsGroup now h = c.if-not-is_group.ensures.0 refl in
    let refused : BringsGroup d.medium h (Err (why_not_brought why)) now w s t = record {
      brings = brings-as d.medium error.NoRoom error.Disk why refusal.NoRoom refusal.Disk (why_not_brought why) h now w s t
          (room-why why) (disk-why why) (λ is. ap why_not_brought is) e.brings;
      no_group = λ none. absurd (none group);
      known = tt;
      not_short = λ is. not-short why (err-same (why_not_brought why) refusal.Short is);
      there = λ there. absurd (refused-not why (e.known there));
      row = λ known. e.row;
      ok = tt;
    } in
    subst (λ (r : Refusal). BringsGroup d.medium h (Err r) now w s t) (sym c.refusal.ensures) refused

pub returns-in-Ok : goal.returns-in-Ok
returns-in-Ok g c =
    let d = g.D.Device in
    let e = c.in-Ok.ensures in
    let group : IsGroup c.args.vm.now c.args.g = c.if-not-is_group.ensures.0 refl in
    record {
      brings = brings-on d.medium error.NoRoom error.Disk refusal.NoRoom refusal.Disk c.args.g c.args.vm.now
          c.bring.new.self c.args.blocks.now c.bring.new.blocks e.brings;
      no_group = λ none. absurd (none group);
      known = group;
      not_short = done-not refusal.Short;
      there = λ there. (done-not refusal.NoRoom, done-not refusal.Disk);
      row = λ known. e.row;
      ok = e.ok;
    }
