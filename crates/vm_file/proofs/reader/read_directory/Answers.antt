use Rattle.std.proofs.Common.{◌≡◌, ◌≤◌, ◌∙◌, ℕ, ◌+◌, List, Result, Ok, Err, drop, map, refl, ap, sym, subst, arith}
use Rattle.std.specs.Prelude.{IsOkAnd}
use Rattle.vm_file.specs.declared.directory.Entry.{Entry}
use Rattle.vm_file.specs.declared.error.OpenError.{OpenError}
use Rattle.vm_file.specs.Contents.{entry_of}
use Rattle.vm_file.specs.Directories.{AreMaps, entries_length}
use Rattle.vm_file.specs.Outcomes.{Tells}
use Rattle.vm_file.specs.Reading.{count_at, blocks_at, maps_at}
use Rattle.geos_terms.proofs.HeapTests.{and-true}
use Rattle.vm_file.proofs.Lengths.{stretch, drop-stretch}
use Rattle.vm_file.proofs.EntrySteps.{contents_stop_any, contents_stop_blocks, contents_stop_maps_any, contents_read, ok_only}
use Rattle.vm_file.proofs.Moments.{caused_on, reads_then}
use Rattle.vm_file.proofs.reader.read_directory.Goals as goal

pub returns-in-Err-clause-exact : goal.returns-in-Err-clause-exact
returns-in-Err-clause-exact g c = λ h.
    contents_stop_any c.args.at (stretch (g.D.Device.medium.image c.args.device.now) c.args.at c.args.end) c.in-Err.error (c.in-Err.ensures.exact h)

pub returns-in-Err-read_entries-clause-exact : goal.returns-in-Err-read_entries-clause-exact
returns-in-Err-read_entries-clause-exact g c = λ h.
    let image = g.D.Device.medium.image c.args.device.now in
    let s = stretch image c.args.at c.args.end in
    let r = c.in-Ok.ensures in
    let count = ok_only (count_at c.args.at s) c.in-Ok.count (r.exact h) in
    let past = drop-stretch image c.args.at c.args.end 2 r.legal.1 in
    let P : List ℕ → Type 0 = λ x. Tells (map entry_of) (let e : Result (List Entry) OpenError = Err c.in-Err-read_entries.error in e)
    (blocks_at c.in-Ok.count 0 (c.args.at + 2) x) in
    let Q : List ℕ → Type 0 = λ x. P (stretch x (c.args.at + 2) c.args.end) in
    contents_stop_blocks c.args.at c.in-Ok.count s c.in-Err-read_entries.error count
    (subst P (sym past) (subst Q r.reads.same (c.in-Err-read_entries.ensures.exact (r.reads.stays h))))

-- the blocks that were read before the maps
module _ (image then : List ℕ) (at end count : ℕ) (items : List Entry) where
  pub blocks_then : at + 2 ≤ end → then ≡ image → IsOkAnd (blocks_at count 0 (at + 2) (stretch then (at + 2) end)) (λ bs. map entry_of bs ≡ items)
      → IsOkAnd (blocks_at count 0 (at + 2) (drop 2 (stretch image at end))) (λ bs. map entry_of bs ≡ items)
  blocks_then fits same read =
      let P : List ℕ → Type 0 = λ x. IsOkAnd (blocks_at count 0 (at + 2) x) (λ bs. map entry_of bs ≡ items) in
      let Q : List ℕ → Type 0 = λ x. P (stretch x (at + 2) end) in
      subst P (sym (drop-stretch image at end 2 fits)) (subst Q same read)

  pub maps_then : (r : Result (ℕ × (ℕ × ℕ)) ℕ) (from : ℕ) → from ≡ at + 2 + entries_length items
      → at + 2 + entries_length items ≤ end → then ≡ image → maps_at items from (stretch then from end) ≡ r →
      maps_at items (at + 2 + entries_length items) (drop (2 + entries_length items) (stretch image at end)) ≡ r
  maps_then r from place fits same read =
      let reached : at + (2 + entries_length items) ≡ at + 2 + entries_length items = omega arith in
      ap (maps_at items (at + 2 + entries_length items)) (drop-stretch image at end (2 + entries_length items) (omega arith)
      ∙ ap (λ k. stretch image k end) reached)
      ∙ ap (λ x. maps_at items (at + 2 + entries_length items) (stretch x (at + 2 + entries_length items) end)) (sym same)
      ∙ ap (λ k. maps_at items k (stretch then k end)) (sym place) ∙ read

pub returns-in-Err-read_maps-clause-exact : goal.returns-in-Err-read_maps-clause-exact
returns-in-Err-read_maps-clause-exact g c = λ h.
    let image = g.D.Device.medium.image c.args.device.now in
    let s = stretch image c.args.at c.args.end in
    let items = c.in-Ok-read_entries.entries.items in
    let then = g.D.Device.medium.image c.read_entries.new.device in
    let r1 = c.in-Ok.ensures in
    let r2 = c.in-Ok-read_entries.ensures in
    let from = c.args.at + 2 + c.from.result in
    let place : from ≡ c.args.at + 2 + entries_length items = ap (λ k. c.args.at + 2 + k) (c.from.ensures
    ∙ c.entries_length.ensures.exact ∙ ap entries_length c.deref.ensures.0) in
    let same : then ≡ image = r2.reads.same ∙ r1.reads.same in
    let E : List Entry → Type 0 = λ es. Tells (λ m. m) (let r : Result (ℕ × (ℕ × ℕ)) OpenError = Err c.in-Err-read_maps.error in r)
    (maps_at es from (stretch then from c.args.end)) in
    let told = subst E c.deref-2.ensures.0 (c.in-Err-read_maps.ensures.exact (r2.reads.stays (r1.reads.stays h))) in
    contents_stop_maps_any c.args.at c.in-Ok.count s items c.in-Err-read_maps.error (ok_only (count_at c.args.at s) c.in-Ok.count (r1.exact h))
    (blocks_then image (g.D.Device.medium.image c.read_count.new.device) c.args.at c.args.end c.in-Ok.count items
    r1.legal.1 r1.reads.same (r2.exact (r1.reads.stays h)))
    (maps_at items from (stretch then from c.args.end)) told
    (maps_then image then c.args.at c.args.end c.in-Ok.count items (maps_at items from (stretch then from c.args.end))
    from place r2.legal.1 same refl)

pub returns-in-Ok-read_maps-clause-exact : goal.returns-in-Ok-read_maps-clause-exact
returns-in-Ok-read_maps-clause-exact g c = λ h.
    let image = g.D.Device.medium.image c.args.device.now in
    let s = stretch image c.args.at c.args.end in
    let items = c.in-Ok-read_entries.entries.items in
    let then = g.D.Device.medium.image c.read_entries.new.device in
    let r1 = c.in-Ok.ensures in
    let r2 = c.in-Ok-read_entries.ensures in
    let from = c.args.at + 2 + c.from.result in
    let m : ℕ × (ℕ × ℕ) = (c.in-Ok-read_maps.map_block, c.in-Ok-read_maps.map_item) in
    let place : from ≡ c.args.at + 2 + entries_length items = ap (λ k. c.args.at + 2 + k) (c.from.ensures
    ∙ c.entries_length.ensures.exact ∙ ap entries_length c.deref.ensures.0) in
    let same : then ≡ image = r2.reads.same ∙ r1.reads.same in
    let E : List Entry → Type 0 = λ es. IsOkAnd (maps_at es from (stretch then from c.args.end)) (λ x. x ≡ m) in
    let told = ok_only (maps_at items from (stretch then from c.args.end)) m
    (subst E c.deref-2.ensures.0 (c.in-Ok-read_maps.ensures.exact (r2.reads.stays (r1.reads.stays h)))) in
    contents_read c.args.at c.in-Ok.count s items m (ok_only (count_at c.args.at s) c.in-Ok.count (r1.exact h))
    (blocks_then image (g.D.Device.medium.image c.read_count.new.device) c.args.at c.args.end c.in-Ok.count items
    r1.legal.1 r1.reads.same (r2.exact (r1.reads.stays h)))
    (maps_then image then c.args.at c.args.end c.in-Ok.count items (Ok m) from place r2.legal.1 same told)

pub returns-in-Ok-read_maps-clause-legal : goal.returns-in-Ok-read_maps-clause-legal
returns-in-Ok-read_maps-clause-legal g c =
    let items = c.in-Ok-read_entries.entries.items in
    let r2 = c.in-Ok-read_entries.ensures in
    let r3 = c.in-Ok-read_maps.ensures.legal in
    let A : List Entry → Type 0 = λ es. AreMaps es c.in-Ok-read_maps.map_block c.in-Ok-read_maps.map_item.0 c.in-Ok-read_maps.map_item.1 in
    let maps = subst A c.deref-2.ensures.0 r3.1 in
    let len = c.from.ensures ∙ c.entries_length.ensures.exact ∙ ap entries_length c.deref.ensures.0 in
    (and-true _ _ (and-true _ _ (and-true _ _ r2.legal.0 maps.0) maps.1) maps.2, omega (arith, r3.0, len))

pub returns-in-Err-read_entries-clause-reads : goal.returns-in-Err-read_entries-clause-reads
returns-in-Err-read_entries-clause-reads g c = reads_then g.D.Device.medium _ _ _ c.in-Ok.ensures.reads c.in-Err-read_entries.ensures.reads

pub returns-in-Err-read_entries-clause-cause : goal.returns-in-Err-read_entries-clause-cause
returns-in-Err-read_entries-clause-cause g c = caused_on _ _ _ _ c.in-Ok.ensures.cause c.in-Err-read_entries.ensures.cause

pub returns-in-Err-read_maps-clause-reads : goal.returns-in-Err-read_maps-clause-reads
returns-in-Err-read_maps-clause-reads g c = reads_then g.D.Device.medium _ _ _
    (reads_then g.D.Device.medium _ _ _ c.in-Ok.ensures.reads c.in-Ok-read_entries.ensures.reads) c.in-Err-read_maps.ensures.reads

pub returns-in-Err-read_maps-clause-cause : goal.returns-in-Err-read_maps-clause-cause
returns-in-Err-read_maps-clause-cause g c = caused_on _ _ _ _ (c.in-Ok-read_entries.ensures.cause ∙ c.in-Ok.ensures.cause)
    c.in-Err-read_maps.ensures.cause

pub returns-in-Ok-read_maps-clause-reads : goal.returns-in-Ok-read_maps-clause-reads
returns-in-Ok-read_maps-clause-reads g c = reads_then g.D.Device.medium _ _ _
    (reads_then g.D.Device.medium _ _ _ c.in-Ok.ensures.reads c.in-Ok-read_entries.ensures.reads) c.in-Ok-read_maps.ensures.reads

pub returns-in-Ok-read_maps-clause-cause : goal.returns-in-Ok-read_maps-clause-cause
returns-in-Ok-read_maps-clause-cause g c = c.in-Ok-read_maps.ensures.cause ∙ (c.in-Ok-read_entries.ensures.cause ∙ c.in-Ok.ensures.cause)
