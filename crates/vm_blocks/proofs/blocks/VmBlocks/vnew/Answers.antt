use Rattle.std.specs.Prelude.{Err, Ok, Result}
use Rattle.vm_blocks.specs.declared.error.NewError.{NewError}
use Rattle.vm_blocks.specs.declared.error.NewError.TheVariants.{NoHandle, NoRoom}
use Rattle.std.proofs.Common.{◌≡◌, ◌∙◌, ℕ, ◌+◌, ◌<◌, ap, sym, subst, arith}
use Rattle.block_handles.specs.Change.{with_locks}
use Rattle.block_handles.specs.Names.{slot_of}
use Rattle.block_handles.specs.Store.{IsThere, locks_of}
use Rattle.vm_blocks.specs.View.{vm_slot}
use Rattle.vm_blocks.proofs.Counts.{locked-more, locked-tied}
use Rattle.vm_blocks.proofs.NewRows.{new-does, new-done}
use Rattle.vm_blocks.proofs.Wanting.{locked-remain, lowest-one, not-all}
use Rattle.vm_blocks.proofs.News.{locked-adds, locks-new, there-new}
use Rattle.vm_blocks.proofs.blocks.VmBlocks.vnew.Given.{Over}
use Rattle.vm_blocks.proofs.blocks.VmBlocks.vnew.Goals.{After-lock}
use Rattle.vm_blocks.proofs.blocks.VmBlocks.vnew.Goals as goal

-- it is locked once
taken : (g : Over) (c : After-lock g) → c.lock.new.self ≡ with_locks c.vnew_unlocked.new.blocks (vm_slot c.in-Ok.h) 1
taken g c =
    let t = c.vnew_unlocked.new.blocks in
    let u = c.lock.new.self in
    let h = c.in-Ok.h in
    let e = c.lock.ensures in
    let adds = c.in-Ok.ensures.ok in
    let slot : slot_of c.vm.result ≡ vm_slot h = ap slot_of c.vm.ensures in
    let none : locks_of t (slot_of c.vm.result) ≡ 0 = ap (locks_of t) slot ∙ locks-new t h 0 adds.is in
    let there : IsThere t (slot_of c.vm.result) = subst (IsThere t) (sym slot) (there-new t h 0 adds.is) in
    let more = locked-more t u (slot_of c.vm.result) c.lock.result e.ok e.bad_handle e.locked there (λ full. absurd (omega (arith, none, full))) in
    more ∙ ap (λ n. with_locks t (slot_of c.vm.result) (n + 1)) none ∙ ap (λ k. with_locks t k 1) slot

-- a block that was made was not refused
made-not : (h : ℕ) (why : NewError) → ◌≡◌ {A = Result ℕ NewError} (Ok h) (Err why) → ⊥
made-not h why e = absurd cc

pub returns-in-Ok : goal.returns-in-Ok
returns-in-Ok g c =
    let d = g.D.Device in
    let now = c.args.self.now in
    let s = c.args.blocks.now in
    let w = c.vnew_unlocked.new.self in
    let t = c.vnew_unlocked.new.blocks in
    let u = c.lock.new.self in
    let h = c.in-Ok.h in
    let adds = c.in-Ok.ensures.ok in
    let low = adds.lowest in
    let is = taken g (goal.at.returns-in-Ok g c).After-lock in
    let more = locked-adds now w s t u c.args.uid h adds is in
    let word : c.args.uid < 65536 = omega arith in
    record {
      tied = locked-tied d.medium w t u h 1 low.handle c.vnew_unlocked.ensures.tied (there-new t h 0 adds.is) is;
      ok = more;
      no_handle = ((λ none. absurd (made-not h NoHandle none)), (λ all. absurd (not-all now h low all)));
      no_room = λ none. absurd (made-not h NoRoom none);
      wanted = λ k other. locked-remain s t u k 64 1 other.handle (is ∙ ap (λ j. with_locks t (vm_slot j) 1) (lowest-one now h k low other))
          (c.vnew_unlocked.ensures.wanted k other);
      stays = λ none. absurd (made-not h NoHandle none);
      err = tt;
      row = new-done d.medium now s c.requires c.args.uid 1 h w u word (omega arith) more;
    }

pub returns-in-Err : goal.returns-in-Err
returns-in-Err g c =
    let d = g.D.Device in
    let now = c.args.self.now in
    let s = c.args.blocks.now in
    let w = c.vnew_unlocked.new.self in
    let t = c.vnew_unlocked.new.blocks in
    let e = c.in-Err.ensures in
    let word : c.args.uid < 65536 = omega arith in
    record {
      tied = e.tied;
      ok = tt;
      no_handle = e.no_handle;
      no_room = e.no_room;
      wanted = e.wanted;
      stays = e.stays;
      err = e.err;
      row = new-does d.medium now w s t c.args.uid 1 (Err c.in-Err.error) c.requires word (omega arith) tt e.no_handle.0 e.no_room e.stays e.err;
    }
