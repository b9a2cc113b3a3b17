use Rattle.std.proofs.Common.{◌≡◌, ◌∙◌, ℕ, ◌≤◌, ◌++◌, arith, ap, sym, subst, inl, inr}
use Rattle.std.specs.Prelude.{OnErr, OnOk}
use Rattle.std.specs.Vec.{vec_items, vec_len}
use Rattle.vm_file.specs.declared.commit.How.{How}
use Rattle.vm_file.specs.declared.directory.Directory.{Directory}
use Rattle.vm_file.specs.Committing.{IsContentsOf, IsKept, NeedsNoRead, Spells, contents_from, current_after, kept_after, length_after, saved_after}
use Rattle.vm_file.specs.Contents.{contents_spelling}
use Rattle.vm_file.specs.Device.{Rose}
use Rattle.vm_file.specs.Directories.{directory_length}
use Rattle.vm_file.specs.State.{FileState, pair_of}
use Rattle.vm_file.proofs.CommitLaws.{spells_pair}
use Rattle.vm_file.proofs.StateLaws.{file_on}
use Rattle.std.specs.List.{Contains}
use Rattle.std.proofs.lemmas.Result.{on_ok_weaker, on_err_weaker}
use Rattle.vm_file.specs.declared.commit.How.TheVariants.{Update, Save, Revert}
use Rattle.vm_file.specs.declared.directory.Entry.{Entry}
use Rattle.vm_file.proofs.Given.{why_more, why_on}
use Rattle.vm_file.proofs.file.VmFile.spell.Goals as goal

pub returns-in-Ok-clause-read : goal.returns-in-Ok-clause-read
returns-in-Ok-clause-read g c = file_on g.D.Device.medium _ _ _ _ _ c.in-Ok.ensures.read c.spell_saved.ensures.read

pub returns-in-Ok-clause-spelled : goal.returns-in-Ok-clause-spelled
returns-in-Ok-clause-spelled g c = λ h.
    let d = g.D.Device in
    let resident = g.S.Source.resident_bytes c.args.source.now in
    let cur = c.args.cur.now in
    let old = c.args.self.now in
    let one = c.in-Ok.ensures in
    let two = c.spell_saved.ensures in
    let first = contents_from resident (pair_of d.medium.image old).cur.blocks cur in
    let then = (pair_of d.medium.image c.spell_current.new.self).saved in
    let second = (pair_of d.medium.image old).saved in
    let same : then ≡ second = ap (λ p. p.saved) one.read.pair in
    let legal : IsContentsOf old.saved second = subst (IsContentsOf old.saved) same
    (subst (λ (x : Directory). IsContentsOf x then) (ap (λ f. f.saved) one.read.same) (two.legal (one.read.read.only.stays h))) in
    let front = one.items h ∙ ap (λ xs. xs ++ contents_spelling first) c.requires.empty.0 in
    let S : How → Type 0 = λ k. OnOk c.spell_saved.result
    (Spells (current_after k cur old.saved) (saved_after k cur old.saved) (kept_after d.medium.image resident k cur old)
    (vec_items c.spell_saved.new.into)) in
    subst S (sym c.in-Update.is) (on_ok_weaker c.spell_saved.result
    (λ e. spells_pair cur old.saved first second _ (e ∙ ap (λ xs. xs ++ contents_spelling then) front
    ∙ ap (λ x. contents_spelling first ++ contents_spelling x) same) (one.legal h) legal)
    (two.items (one.read.read.only.stays h)))

pub returns-in-Ok-spell_current-clause-spelled : goal.returns-in-Ok-spell_current-clause-spelled
returns-in-Ok-spell_current-clause-spelled g c = λ h.
    let d = g.D.Device in
    let resident = g.S.Source.resident_bytes c.args.source.now in
    let cur = c.args.cur.now in
    let old = c.args.self.now in
    let one = c.in-Ok-spell_current.ensures in
    let x = contents_from resident (pair_of d.medium.image old).cur.blocks cur in
    let S : How → Type 0 = λ k. Spells (current_after k cur old.saved) (saved_after k cur old.saved)
    (kept_after d.medium.image resident k cur old) (vec_items c.put_again.new.into) in
    subst S (sym c.in-Save.is)
    (spells_pair cur cur x x _ (c.put_again.ensures.items
    ∙ ap (λ xs. xs ++ xs) (one.items h ∙ ap (λ xs. xs ++ contents_spelling x) c.requires.empty.0)) (one.legal h) (one.legal h))

pub returns-in-Ok-spell_saved-clause-spelled : goal.returns-in-Ok-spell_saved-clause-spelled
returns-in-Ok-spell_saved-clause-spelled g c = λ h.
    let d = g.D.Device in
    let resident = g.S.Source.resident_bytes c.args.source.now in
    let cur = c.args.cur.now in
    let old = c.args.self.now in
    let one = c.in-Ok-spell_saved.ensures in
    let x = (pair_of d.medium.image old).saved in
    let S : How → Type 0 = λ k. Spells (current_after k cur old.saved) (saved_after k cur old.saved)
    (kept_after d.medium.image resident k cur old) (vec_items c.put_again-in-Ok-spell_saved.new.into) in
    subst S (sym c.in-Revert.is) (spells_pair old.saved old.saved x x _ (c.put_again-in-Ok-spell_saved.ensures.items
    ∙ ap (λ xs. xs ++ xs) (one.items h ∙ ap (λ xs. xs ++ contents_spelling x) c.requires.empty.0)) (one.legal h) (one.legal h))

-- the room that is required, once it is known which pair is committed
room_of : (how way : How) (cur saved : Directory) (room : ℕ) → how ≡ way → length_after how cur saved ≤ room → length_after way cur saved ≤ room
room_of how way cur saved room is fits = subst (λ (k : How). length_after k cur saved ≤ room) is fits

pub spell_current-requires-clause-room : goal.spell_current-requires-clause-room
spell_current-requires-clause-room g c = omega (arith, room_of _ _ _ _ _ c.in-Update.is c.requires.room, c.requires.empty.1)

pub spell_saved-requires : goal.spell_saved-requires
spell_saved-requires g c =
    let one = c.in-Ok.ensures in
    omega (
      arith,
      room_of _ _ _ _ _ c.in-Update.is c.requires.room,
      c.requires.empty.1,
      one.len,
      one.room,
      ap (λ (f : FileState g.row.D.Denot). directory_length f.saved) one.read.same,
    )

pub spell_current-requires-in-Save-clause-room : goal.spell_current-requires-in-Save-clause-room
spell_current-requires-in-Save-clause-room g c = omega (arith, room_of _ _ _ _ _ c.in-Save.is c.requires.room, c.requires.empty.1)

pub returns-in-Ok-clause-len : goal.returns-in-Ok-clause-len
returns-in-Ok-clause-len g c =
    let one = c.in-Ok.ensures in
    let cur = c.args.cur.now in
    let saved = c.args.self.now.saved in
    let same = ap (λ (f : FileState g.row.D.Denot). directory_length f.saved) one.read.same in
    let L : How → Type 0 = λ k. OnOk c.spell_saved.result (vec_len c.spell_saved.new.into ≡ length_after k cur saved) in
    subst L (sym c.in-Update.is) (on_ok_weaker c.spell_saved.result (λ len. omega (arith, len, one.len, c.requires.empty.1, same))
    c.spell_saved.ensures.len)

pub returns-in-Ok-clause-cause : goal.returns-in-Ok-clause-cause
returns-in-Ok-clause-cause g c = λ h.
    let one = c.in-Ok.ensures in
    let R : ℕ → Type 0 = λ k. OnErr c.spell_saved.result (Rose k (g.D.Device.medium.failed c.spell_saved.new.self.device)) in
    subst R one.read.read.ok (c.spell_saved.ensures.cause (one.read.read.only.stays h))

pub returns-in-Ok-clause-no_read : goal.returns-in-Ok-clause-no_read
returns-in-Ok-clause-no_read g c =
    let resident = g.S.Source.resident_bytes c.args.source.now in
    let N : How → Type 0 = λ k. NeedsNoRead resident k c.args.cur.now c.args.self.now.saved → OnErr c.spell_saved.result ⊥ in
    subst N (sym c.in-Update.is)
    (λ needs. c.spell_saved.ensures.no_read (ap (λ (f : FileState g.row.D.Denot). f.saved.entries.items) c.in-Ok.ensures.read.same ∙ needs.1))

pub returns-in-Err-clause-no_read : goal.returns-in-Err-clause-no_read
returns-in-Err-clause-no_read g c =
    let N : How → Type 0 = λ k. NeedsNoRead (g.S.Source.resident_bytes c.args.source.now) k c.args.cur.now c.args.self.now.saved → ⊥ in
    subst N (sym c.in-Update.is) (λ needs. c.in-Err.ensures.resident needs.0)

pub returns-in-Err-spell_current-clause-no_read : goal.returns-in-Err-spell_current-clause-no_read
returns-in-Err-spell_current-clause-no_read g c =
    let N : How → Type 0 = λ k. NeedsNoRead (g.S.Source.resident_bytes c.args.source.now) k c.args.cur.now c.args.self.now.saved → ⊥ in
    subst N (sym c.in-Save.is) c.in-Err-spell_current.ensures.resident

pub returns-in-Err-spell_saved-clause-no_read : goal.returns-in-Err-spell_saved-clause-no_read
returns-in-Err-spell_saved-clause-no_read g c =
    let N : How → Type 0 = λ k. NeedsNoRead (g.S.Source.resident_bytes c.args.source.now) k c.args.cur.now c.args.self.now.saved → ⊥ in
    subst N (sym c.in-Revert.is) c.in-Err-spell_saved.ensures.no_read

-- an entry belongs to the pair to be committed, once it is known which pair this is
kept_here : (how way : How) (cur saved : Directory) (e : Entry) → how ≡ way → IsKept way cur saved e → IsKept how cur saved e
kept_here how way cur saved e is = subst (λ (k : How). IsKept k cur saved e) (sym is)

pub returns-in-Ok-clause-no_block : goal.returns-in-Ok-clause-no_block
returns-in-Ok-clause-no_block g c =
    let d = g.D.Device in
    let cur = c.args.cur.now in
    let old = c.args.self.now in
    let mid = c.spell_current.new.self in
    let one = c.in-Ok.ensures in
    let same = ap (λ (f : FileState g.row.D.Denot). f.saved) one.read.same in
    on_err_weaker c.spell_saved.result
    (why_on d.medium (Contains mid.saved.entries.items) (IsKept c.args.how cur old.saved) old.device mid.device c.spell_saved.new.self.device
    (λ e has. kept_here c.args.how Update cur old.saved e c.in-Update.is (inr (subst (λ (s : Directory). Contains s.entries.items e) same has)))
    one.read.read.only one.read.read.ok)
    c.spell_saved.ensures.no_block

pub returns-in-Err-clause-no_block : goal.returns-in-Err-clause-no_block
returns-in-Err-clause-no_block g c =
    let cur = c.args.cur.now in
    let old = c.args.self.now in
    why_more g.D.Device.medium (Contains cur.entries.items) (IsKept c.args.how cur old.saved) old.device c.spell_current.new.self.device
    (λ e has. kept_here c.args.how Update cur old.saved e c.in-Update.is (inl has)) c.in-Err.ensures.no_block

pub returns-in-Err-spell_current-clause-no_block : goal.returns-in-Err-spell_current-clause-no_block
returns-in-Err-spell_current-clause-no_block g c =
    let cur = c.args.cur.now in
    let old = c.args.self.now in
    why_more g.D.Device.medium (Contains cur.entries.items) (IsKept c.args.how cur old.saved) old.device c.spell_current-in-Save.new.self.device
    (λ e has. kept_here c.args.how Save cur old.saved e c.in-Save.is (inl has)) c.in-Err-spell_current.ensures.no_block

pub returns-in-Err-spell_saved-clause-no_block : goal.returns-in-Err-spell_saved-clause-no_block
returns-in-Err-spell_saved-clause-no_block g c =
    let cur = c.args.cur.now in
    let old = c.args.self.now in
    why_more g.D.Device.medium (Contains old.saved.entries.items) (IsKept c.args.how cur old.saved) old.device c.spell_saved-in-Revert.new.self.device
    (λ e has. kept_here c.args.how Revert cur old.saved e c.in-Revert.is (inl has)) c.in-Err-spell_saved.ensures.no_block
