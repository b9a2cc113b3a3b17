use Rattle.std.proofs.Common.{◌≡◌, ◌∙◌, ℕ, ◌+◌, List, [], ◌∷◌, ◌++◌, true, Result, Err, ap, sym, subst, arith}
use Rattle.std.specs.Prelude.{IsOkAnd}
use Rattle.vm_file.specs.declared.directory.Entry.{Entry}
use Rattle.vm_file.specs.declared.error.OpenError.{OpenError}
use Rattle.vm_file.specs.Directories.{is_entry, are_entries, entries_length}
use Rattle.vm_file.specs.Contents.{entry_of}
use Rattle.vm_file.specs.Outcomes.{Tells}
use Rattle.vm_file.specs.Reading.{block_at}
use Rattle.vm_file.proofs.Lengths.{stretch, last_handle, last_handle-push, are_entries-push, entries_length-append}
use Rattle.vm_file.proofs.EntrySteps.{Told, told_more, told_stop}
use Rattle.vm_file.proofs.Moments.{caused_on, reads_then}
use Rattle.vm_file.proofs.reader.read_entries.Goals as goal

pub returns-in-Err-clause-exact : goal.returns-in-Err-clause-exact
returns-in-Err-clause-exact g c = λ h.
    let i = c.loop.invariant in
    let image = g.D.Device.medium.image in
    let P : List ℕ → Type 0 = λ x. Tells entry_of (let r : Result Entry OpenError = Err c.in-Err.error in r)
    (block_at c.loop.last c.loop.from (stretch x c.loop.from c.args.end)) in
    told_stop (image c.args.device.now) c.args.at c.args.end c.args.count c.loop.counter c.loop.last c.loop.from
    c.loop.entries.items c.in-Err.error c.loop-test.true (i.told h)
    (subst P i.reads.same (c.in-Err.ensures.exact (i.reads.stays h)))

pub loop-preserved : goal.loop-preserved
loop-preserved g c =
    let i = c.loop.invariant in
    let d = g.D.Device in
    let e = c.in-Ok.entry in
    let items = c.loop.entries.items in
    let added = c.push.ensures.items in
    let sum = entries_length-append items (e ∷ []) in
    let total = ap entries_length added in
    let E : ℕ → Type 0 = λ x. is_entry x e ≡ true in
    let A : List Entry → Type 0 = λ xs. are_entries 0 xs ≡ true in
    let P : List ℕ → Type 0 = λ x. IsOkAnd (block_at c.loop.last c.loop.from (stretch x c.loop.from c.args.end)) (λ b. entry_of b ≡ e) in
    let Q : ℕ → Type 0 = λ n. Told (d.medium.image c.args.device.now) c.args.at c.args.end c.args.count
    (c.loop.counter + 1) e.h (c.loop.from + (6 + n)) (items ++ e ∷ []) in
    let R : List Entry → Type 0 = λ xs. Told (d.medium.image c.args.device.now) c.args.at c.args.end c.args.count
    (c.loop.counter + 1) e.h (c.loop.from + (6 + c.from.result)) xs in
    record {
      place = omega (arith, total, sum, c.from.ensures, i.place);
      within = omega (arith, c.in-Ok.ensures.legal.1, c.from.ensures);
      few = omega (arith, c.push.ensures.len, i.few);
      legal = subst A (sym added) (are_entries-push 0 items e i.legal (subst E i.last c.in-Ok.ensures.legal.0));
      last = sym (ap (last_handle 0) added ∙ last_handle-push 0 items e);
      reads = reads_then d.medium c.args.device.now c.loop.device c.read_entry.new.device i.reads c.in-Ok.ensures.reads;
      count = c.in-Ok.ensures.cause ∙ i.count;
      told = (λ h. subst R (sym added)
          (subst Q (sym c.from.ensures) (told_more (d.medium.image c.args.device.now) c.args.at c.args.end c.args.count
          c.loop.counter c.loop.last c.loop.from items e c.loop-test.true c.in-Ok.ensures.legal.1 (i.told h)
          (subst P i.reads.same (c.in-Ok.ensures.exact (i.reads.stays h))))));
    }

pub returns-in-Err-clause-reads : goal.returns-in-Err-clause-reads
returns-in-Err-clause-reads g c = reads_then g.D.Device.medium _ _ _ c.loop.invariant.reads c.in-Err.ensures.reads

pub returns-in-Err-clause-cause : goal.returns-in-Err-clause-cause
returns-in-Err-clause-cause g c = caused_on _ _ _ _ c.loop.invariant.count c.in-Err.ensures.cause
