use Rattle.std.proofs.Common.{◌≡◌, ◌∙◌, ℕ, List, length, ap, sym, subst, arith}
use Rattle.std.specs.Prelude.{OnOk, OnErr}
use Rattle.std.proofs.lemmas.Result.{on_ok_weaker}
use Rattle.geos_terms.specs.Block.{handle_word}
use Rattle.geos_terms.specs.Heap.{IsHeap}
use Rattle.vm_file.specs.Device.{Rose}
use Rattle.vm_file.specs.Directories.{directory_length}
use Rattle.vm_file.specs.State.{FileState, HasBlock, saved_block_at, bytes_of_block, pair_of, place_in}
use Rattle.vm_file.proofs.BlockLaws.{saved_there, saved_heap, saved_lies}
use Rattle.vm_file.proofs.Kept.{finds_during, finds_after, finds_at_stop}
use Rattle.vm_file.proofs.StateLaws.{read_file, read_sound, steadily_read}
use Rattle.vm_file.specs.Outcomes.{CausesNoBlock}
use Rattle.vm_file.proofs.Given.{why_at}
use Rattle.vm_file.proofs.file.VmFile.saved_block.Goals as goal

pub invariant_of-self : goal.invariant_of-self
invariant_of-self g c = (let d = g.D.Device in read_sound d.medium _ c.read_block.new.device c.self.invariant c.read_block.ensures.read.only)

pub returns-clause-bytes : goal.returns-clause-bytes
returns-clause-bytes g c =
    let d = g.D.Device in
    let n = length c.args.into.now in
    let H : FileState g.row.D.Denot → Type 0 = λ f. HasBlock f.saved c.args.handle n in
    let G : FileState g.row.D.Denot → Type 0 = λ f. d.medium.honest f.device
    → OnOk c.read_block.result (c.read_block.new.into ≡ bytes_of_block (pair_of d.medium.image f).saved.blocks c.args.handle) in
    let there = saved_there d.medium _ c.self.invariant c.args.handle n _ (subst H (sym c.self.view_is) c.requires)
    (omega (
      arith,
      c.base_of-base.ensures.exact,
      c.from.ensures,
      c.place_in.ensures.exact,
      ap (λ es. place_in es c.args.handle) c.deref.ensures.0,
      c.from-first.ensures,
      c.directory_length.ensures.exact,
      ap directory_length c.directory.ensures,
    )) in
    subst G c.self.view_is (λ h. on_ok_weaker c.read_block.result (λ e. e ∙ there) (c.read_block.ensures.bytes h))

pub returns-clause-cause : goal.returns-clause-cause
returns-clause-cause g c =
    let d = g.D.Device in
    let n = length c.args.into.now in
    let H : FileState g.row.D.Denot → Type 0 = λ f. HasBlock f.saved c.args.handle n in
    let G : FileState g.row.D.Denot → Type 0 = λ f. d.medium.honest f.device
    → OnErr c.read_block.result (Rose (d.medium.failed f.device) (d.medium.failed c.read_block.new.device)) in
    let has = subst H (sym c.self.view_is) c.requires in
    let there = saved_there d.medium _ c.self.invariant c.args.handle n _ has
    (omega (
      arith,
      c.base_of-base.ensures.exact,
      c.from.ensures,
      c.place_in.ensures.exact,
      ap (λ es. place_in es c.args.handle) c.deref.ensures.0,
      c.from-first.ensures,
      c.directory_length.ensures.exact,
      ap directory_length c.directory.ensures,
    )) in
    let P : List ℕ → Type 0 = λ x. IsHeap x in
    subst G c.self.view_is (λ h. let heap = saved_heap d.medium _ c.self.invariant c.args.handle n h has in
    c.read_block.ensures.cause h (subst P (sym there) heap.0) (ap handle_word there ∙ heap.1))

pub returns-clause-any_moment : goal.returns-clause-any_moment
returns-clause-any_moment g c = let d = g.D.Device in finds_during d.medium _ _ c.self.view_is c.self.invariant _ c.read_block.ensures.read.only

pub returns-clause-stop : goal.returns-clause-stop
returns-clause-stop g c = let d = g.D.Device in finds_after d.medium _ _ c.self.view_is c.self.invariant _ c.read_block.ensures.read.only

pub returns-clause-stopped : goal.returns-clause-stopped
returns-clause-stopped g c =
    let d = g.D.Device in
    finds_at_stop d.medium _ _ c.self.view_is c.self.invariant _ c.read_block.ensures.read.only (g.met.D.Device.at_once c.args.self.now.device)

pub returns-clause-no_block : goal.returns-clause-no_block
returns-clause-no_block g c =
    let d = g.D.Device in
    let i = c.self.inside in
    let f : FileState g.row.D.Denot = record {
      device = i.device;
      area = i.area;
      second = i.second;
      sure =
          i.sure;
      current = i.current;
      saved = i.saved;
    } in
    let G : FileState g.row.D.Denot → Type 0 = λ f. CausesNoBlock d.medium c.args.handle (saved_block_at f c.args.handle)
    f.device c.read_block.new.device c.read_block.new.into c.read_block.result in
    subst G c.self.view_is
    (why_at d.medium c.args.handle _ (saved_block_at f c.args.handle) _ _ _ c.read_block.result
    (omega (
      arith,
      c.base_of-base.ensures.exact,
      c.from.ensures,
      c.place_in.ensures.exact,
      ap (λ es. place_in es c.args.handle) c.deref.ensures.0,
      c.from-first.ensures,
      c.directory_length.ensures.exact,
      ap directory_length c.directory.ensures,
    )) c.read_block.ensures.no_block)

pub read_block-requires : goal.read_block-requires
read_block-requires g c =
    let d = g.D.Device in
    let n = length c.args.into.now in
    let H : FileState g.row.D.Denot → Type 0 = λ f. HasBlock f.saved c.args.handle n in
    saved_lies d.medium _ c.self.invariant c.args.handle n _ (subst H (sym c.self.view_is) c.requires)
    (omega (
      arith,
      c.base_of-base.ensures.exact,
      c.from.ensures,
      c.place_in.ensures.exact,
      ap (λ es. place_in es c.args.handle) c.deref.ensures.0,
      c.from-first.ensures,
      c.directory_length.ensures.exact,
      ap directory_length c.directory.ensures,
    ))

pub returns-clause-steadily : goal.returns-clause-steadily
returns-clause-steadily g c =
    let d = g.D.Device in
    let r = c.read_block.result in
    steadily_read d.medium r c.args.self.now _ (read_file d.medium r _ c.args.self.now c.read_block.new.device
    c.self.view_is c.read_block.ensures.read)
