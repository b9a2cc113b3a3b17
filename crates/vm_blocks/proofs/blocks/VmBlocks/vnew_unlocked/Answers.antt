use Rattle.std.proofs.Common.{◌≡◌, ℕ, ◌<◌, refl, subst, sym, arith}
use Rattle.std.specs.Prelude.{Err, Ok, Result}
use Rattle.vm_blocks.specs.declared.error.NewError.{NewError}
use Rattle.vm_blocks.specs.declared.error.NewError.TheVariants.{NoHandle, NoRoom}
use Rattle.vm_blocks.specs.Blocks.{Adds, AllListed}
use Rattle.vm_blocks.specs.Room.{RemainOrNoRoom}
use Rattle.vm_blocks.specs.Tied.{IsTied}
use Rattle.vm_blocks.proofs.NewRows.{new-crowded, new-done, new-full}
use Rattle.vm_blocks.proofs.News.{added-tied}
use Rattle.vm_blocks.proofs.Thinning.{tied-thins}
use Rattle.vm_blocks.proofs.Wanting.{lowest-one, not-all, same-remain}
use Rattle.vm_blocks.proofs.blocks.VmBlocks.vnew_unlocked.Goals as goal

-- answers that are not the same
full-crowded : ◌≡◌ {A = Result ℕ NewError} (Err NoHandle) (Err NoRoom) → ⊥
full-crowded e = absurd cc

made-not : (h : ℕ) (why : NewError) → ◌≡◌ {A = Result ℕ NewError} (Ok h) (Err why) → ⊥
made-not h why e = absurd cc

pub returns-in_default : goal.returns-in_default
returns-in_default g c =
    let d = g.D.Device in
    let now = c.args.self.now in
    let s = c.args.blocks.now in
    let all : AllListed now = c.in_default.ensures.none in
    record {
      tied = c.requires;
      ok = tt;
      no_handle = ((λ is. all), (λ listed. refl));
      no_room = λ is. absurd (full-crowded is);
      wanted = λ h low. same-remain s s h 64 refl;
      stays = λ is. refl;
      err = refl;
      row = new-full d.medium now s c.requires c.args.uid 0 all;
    }

pub make_heap-requires : goal.make_heap-requires
make_heap-requires g c = let low = c.in-Some.ensures.found in record { tied = c.requires; handle = low.handle; free = low.free }

pub returns-in-Err : goal.returns-in-Err
returns-in-Err g c =
    let d = g.D.Device in
    let now = c.args.self.now in
    let s = c.args.blocks.now in
    let t = c.make_heap.new.blocks in
    let h = c.in-Some.h in
    let low = c.in-Some.ensures.found in
    let lacks = c.in-Err.ensures.err in
    record {
      tied = tied-thins d.medium now s t h c.requires lacks.thins;
      ok = tt;
      no_handle = ((λ is. absurd (full-crowded (sym is))), (λ all. absurd (not-all now h low all)));
      no_room = λ is. record { h = h; lowest = low; lacks = lacks };
      wanted = λ k other. subst (λ j. RemainOrNoRoom s t j 64) (lowest-one now h k low other) c.make_heap.ensures.wanted;
      stays = λ is. absurd (full-crowded (sym is));
      err = refl;
      row = new-crowded d.medium now s c.requires c.args.uid 0 h t low lacks;
    }

pub returns : goal.returns
returns g c =
    let d = g.D.Device in
    let now = c.args.self.now in
    let s = c.args.blocks.now in
    let w = c.put.new.self in
    let t = c.make_heap.new.blocks in
    let h = c.in-Some.h in
    let low = c.in-Some.ensures.found in
    let made = c.in-Ok.ensures in
    let word : c.args.uid < 65536 = omega arith in
    let adds : Adds now w s t c.args.uid 0 h = record { lowest = low; state = c.put.ensures; keeps = made.keeps; is = made.ok } in
    record {
      tied = subst (λ x. IsTied d.medium x t) (sym c.put.ensures)
          (added-tied d.medium now s t h c.args.uid low.handle c.requires low.free made.keeps made.ok);
      ok = adds;
      no_handle = ((λ is. absurd (made-not h NoHandle is)), (λ all. absurd (not-all now h low all)));
      no_room = λ is. absurd (made-not h NoRoom is);
      wanted = λ k other. subst (λ j. RemainOrNoRoom s t j 64) (lowest-one now h k low other) c.make_heap.ensures.wanted;
      stays = λ is. absurd (made-not h NoHandle is);
      err = tt;
      row = new-done d.medium now s c.requires c.args.uid 0 h w t word (omega arith) adds;
    }
