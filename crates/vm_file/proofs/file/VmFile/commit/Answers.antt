use Rattle.std.proofs.Common.{◌≡◌, ◌≤◌, ◌<◌, ℕ, List, true, false, sym, subst}
use Rattle.vm_file.specs.Committing.{Spells, current_after, kept_after, length_after, saved_after}
use Rattle.vm_file.specs.State.{FileState}
use Rattle.vm_file.proofs.CommitEnds.{memory_first, not_selected, read_failed, selected, too_big_first, unsure_first}
use Rattle.vm_file.proofs.Kept.{cut_spells, finds_before, same_saved}
use Rattle.vm_file.proofs.file.VmFile.commit.Goals as goal

pub select-requires-clause-spelled : goal.select-requires-clause-spelled
select-requires-clause-spelled g c =
    let d = g.D.Device in
    let resident = g.S.Source.resident_bytes c.args.source.now in
    let cur = c.args.cur.now in
    let how = c.args.how in
    let old = c.args.self.now in
    let mid = c.spell.new.self in
    let r = c.in-Ok-spell.ensures in
    let after = kept_after d.medium.image resident how cur old in
    let S : List ℕ → Type 0 = λ l. Spells (current_after how cur old.saved) (saved_after how cur old.saved) after l in
    let spells = λ (h : d.medium.honest old.device). subst S (sym c.deref.ensures.value) (r.spelled h) in
    λ h. cut_spells how cur old.saved mid.saved after c.deref.result.now (same_saved d.medium.image old mid r.read.same)
    (spells (r.read.read.only.was h))

pub returns-then-not-self : goal.returns-then-not-self
returns-then-not-self g c =
    let d = g.D.Device in
    let resident = g.S.Source.resident_bytes c.args.source.now in
    let cur = c.args.cur.now in
    let how = c.args.how in
    let old = c.args.self.now in
    let T : FileState g.row.D.Denot → Type 0 = λ f. f.sure ≡ false in
    unsure_first d.medium how resident cur old (finds_before d.medium _ _ c.self.view_is c.self.invariant) (g.met.D.Device.at_once old.device)
    (subst T c.self.view_is c.if-not-self.true)

pub returns-then-self-length : goal.returns-then-self-length
returns-then-self-length g c =
    let d = g.D.Device in
    let resident = g.S.Source.resident_bytes c.args.source.now in
    let cur = c.args.cur.now in
    let how = c.args.how in
    let old = c.args.self.now in
    let T : FileState g.row.D.Denot → Type 0 = λ f. f.sure ≡ true in
    let Big : FileState g.row.D.Denot → Type 0 = λ f. f.area < length_after how cur f.saved in
    too_big_first d.medium how resident cur old (finds_before d.medium _ _ c.self.view_is c.self.invariant) (g.met.D.Device.at_once old.device)
    (subst T c.self.view_is c.if-not-self.false)
    (subst Big c.self.view_is (subst (λ n. c.self.inside.area < n) c.length_after-length.ensures.exact c.if-self-length.true))

pub returns-in-Err : goal.returns-in-Err
returns-in-Err g c =
    let d = g.D.Device in
    let resident = g.S.Source.resident_bytes c.args.source.now in
    let cur = c.args.cur.now in
    let how = c.args.how in
    let old = c.args.self.now in
    let T : FileState g.row.D.Denot → Type 0 = λ f. f.sure ≡ true in
    let Fits : FileState g.row.D.Denot → Type 0 = λ f. length_after how cur f.saved ≤ f.area in
    memory_first d.medium how resident cur old (finds_before d.medium _ _ c.self.view_is c.self.invariant) (g.met.D.Device.at_once old.device)
    (subst T c.self.view_is c.if-not-self.false)
    (subst Fits c.self.view_is (subst (λ n. n ≤ c.self.inside.area) c.length_after-length.ensures.exact c.if-self-length.false))

pub returns-in-Err-spell : goal.returns-in-Err-spell
returns-in-Err-spell g c =
    let d = g.D.Device in
    let resident = g.S.Source.resident_bytes c.args.source.now in
    let cur = c.args.cur.now in
    let how = c.args.how in
    let old = c.args.self.now in
    let T : FileState g.row.D.Denot → Type 0 = λ f. f.sure ≡ true in
    let Fits : FileState g.row.D.Denot → Type 0 = λ f. length_after how cur f.saved ≤ f.area in
    let r = c.in-Err-spell.ensures in
    read_failed d.medium how resident cur old (finds_before d.medium _ _ c.self.view_is c.self.invariant) (g.met.D.Device.at_once old.device)
    (subst T c.self.view_is c.if-not-self.false)
    (subst Fits c.self.view_is (subst (λ n. n ≤ c.self.inside.area) c.length_after-length.ensures.exact c.if-self-length.false))
    c.spell.new.self _ r.read r.cause r.no_block r.no_read

pub returns-in-Ok-select : goal.returns-in-Ok-select
returns-in-Ok-select g c =
    let d = g.D.Device in
    let resident = g.S.Source.resident_bytes c.args.source.now in
    let cur = c.args.cur.now in
    let how = c.args.how in
    let old = c.args.self.now in
    let T : FileState g.row.D.Denot → Type 0 = λ f. f.sure ≡ true in
    let Fits : FileState g.row.D.Denot → Type 0 = λ f. length_after how cur f.saved ≤ f.area in
    let r = c.in-Ok-spell.ensures in
    let s = c.in-Ok-select.ensures in
    let S : List ℕ → Type 0 = λ l. Spells (current_after how cur old.saved) (saved_after how cur old.saved)
    (kept_after d.medium.image resident how cur old) l in
    selected d.medium how resident cur old (finds_before d.medium _ _ c.self.view_is c.self.invariant) (g.met.D.Device.at_once old.device)
    (subst T c.self.view_is c.if-not-self.false)
    (subst Fits c.self.view_is (subst (λ n. n ≤ c.self.inside.area) c.length_after-length.ensures.exact c.if-self-length.false))
    c.spell.new.self _ r.read
    c.select.new.self c.deref.result.now r.read.read.ok (λ h. subst S (sym c.deref.ensures.value) (r.spelled h))
    s.either s.stop s.honest s.was_honest s.once s.steadily s.done s.pair s.bytes s.cause

pub returns : goal.returns
returns g c =
    let d = g.D.Device in
    let resident = g.S.Source.resident_bytes c.args.source.now in
    let cur = c.args.cur.now in
    let how = c.args.how in
    let old = c.args.self.now in
    let T : FileState g.row.D.Denot → Type 0 = λ f. f.sure ≡ true in
    let Fits : FileState g.row.D.Denot → Type 0 = λ f. length_after how cur f.saved ≤ f.area in
    let r = c.in-Ok-spell.ensures in
    let s = c.in-Err-select.ensures in
    let S : List ℕ → Type 0 = λ l. Spells (current_after how cur old.saved) (saved_after how cur old.saved)
    (kept_after d.medium.image resident how cur old) l in
    not_selected d.medium how resident cur old (finds_before d.medium _ _ c.self.view_is c.self.invariant) (g.met.D.Device.at_once old.device)
    (subst T c.self.view_is c.if-not-self.false)
    (subst Fits c.self.view_is (subst (λ n. n ≤ c.self.inside.area) c.length_after-length.ensures.exact c.if-self-length.false))
    c.spell.new.self _ r.read
    c.select.new.self c.deref.result.now r.read.read.ok (λ h. subst S (sym c.deref.ensures.value) (r.spelled h))
    s.either s.stop s.honest s.was_honest s.once s.steadily s.kept s.pair s.torn s.other s.cause
