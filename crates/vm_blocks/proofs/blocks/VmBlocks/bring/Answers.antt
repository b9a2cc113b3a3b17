use Rattle.std.proofs.Common.{◌≡◌, ℕ, None, Some, false, refl, subst, sym, ◌∙◌}
use Rattle.std.specs.Prelude.{Err, IsTrue, Ok}
use Rattle.geos_terms.specs.Names.{vm}
use Rattle.geos_terms.specs.declared.name.Name.{Name}
use Rattle.block_handles.specs.Names.{slot_of}
use Rattle.block_handles.specs.Store.{Store, IsThere}
use Rattle.vm_blocks.specs.declared.error.BringError.TheVariants as error
use Rattle.vm_blocks.specs.View.{held_at, vm_slot}
use Rattle.vm_blocks.proofs.BringRows.{bring-there, bring-unknown}
use Rattle.vm_blocks.proofs.Bringing.{listed-there, not-changed, nothing-brings}
use Rattle.vm_blocks.proofs.blocks.VmBlocks.bring.Goals as goal

-- where a name is found of no block, the handle has none
not-there : (s : Store) (h : ℕ) (name : Name) → name ≡ vm h → (IsThere s (slot_of name) → IsTrue false) → IsThere s (vm_slot h) → ⊥
not-there s h name is has there = (let yes : IsTrue false = has (subst (λ (n : Name). IsThere s (slot_of n)) (sym is) there) in absurd cc)

pub returns-in_default : goal.returns-in_default
returns-in_default g c =
    let d = g.D.Device in
    let now = c.args.self.now in
    let s = c.args.blocks.now in
    let h = c.args.handle in
    let none : held_at now h ≡ None = sym c.in_default.ensures.held in
    record {
      brings = nothing-brings d.medium error.NoRoom error.Disk h (Err error.BadHandle) now s c.requires (not-changed s h)
          (λ is. absurd cc) (λ is. absurd cc);
      bad_handle = ((λ is. none), (λ is. refl));
      known = λ there. absurd (listed-there d.medium now s s h c.requires there none);
      ok = tt;
      row = bring-unknown d.medium now s h c.requires none;
    }

pub returns-then-has : goal.returns-then-has
returns-then-has g c =
    let d = g.D.Device in
    let now = c.args.self.now in
    let s = c.args.blocks.now in
    let h = c.args.handle in
    let listed : held_at now h ≡ Some c.in-Some.held = sym c.held.ensures.held ∙ c.in-Some.is in
    let there : IsThere s (vm_slot h) = subst (λ (name : Name). IsThere s (slot_of name)) c.vm.ensures (c.if-has.ensures.0 refl) in
    record {
      brings = nothing-brings d.medium error.NoRoom error.Disk h (Ok tt) now s c.requires tt (λ is. absurd cc) (λ is. absurd cc);
      bad_handle = ((λ is. absurd cc), (λ none. absurd (listed-there d.medium now s s h c.requires there none)));
      known = λ was. refl;
      ok = record { there = there; locks = refl; stays = λ was. refl };
      row = bring-there d.medium now s h c.requires c.in-Some.ensures.handle c.in-Some.held listed;
    }

pub fetch-requires : goal.fetch-requires
fetch-requires g c = record {
  tied = c.requires;
  listed = sym c.held.ensures.held ∙ c.in-Some.is;
  handle = c.in-Some.ensures.handle;
  absent = λ there. not-there c.args.blocks.now c.args.handle c.vm.result c.vm.ensures c.if-has.ensures.1 there;
}

pub returns : goal.returns
returns g c =
    let now = c.args.self.now in
    let f = c.fetch.ensures in
    let listed : held_at now c.args.handle ≡ Some c.in-Some.held = sym c.held.ensures.held ∙ c.in-Some.is in
    let absent : IsThere c.args.blocks.now (vm_slot c.args.handle) → ⊥ = not-there c.args.blocks.now c.args.handle
    c.vm.result c.vm.ensures c.if-has.ensures.1 in
    record {
      brings = f.brings;
      bad_handle = ((λ is. absurd (f.known is)), (λ none. (let no = sym none ∙ listed in absurd cc)));
      known = λ there. absurd (absent there);
      ok = f.ok;
      row = f.row;
    }
