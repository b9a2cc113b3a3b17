-- What a step tells of a note.
use Rattle.std.proofs.Common.{◌≡◌, ◌∙◌, ◌<◌, ◌+◌, ℕ, List, length, Option, Some, None, refl, ap, arith}
use Rattle.std.specs.Borrow.{Bor}
use Rattle.lmem_raw.specs.Bytes.{part}
use Rattle.host_device.specs.declared.step.Step.TheVariants as step
use Rattle.host_device.specs.Notes.{Note, Sync, Tells, Write}
use Rattle.takhvoi.specs.Journal.{HasBytes, IsStep, LacksBytes}

pub tells_write : (at : ℕ) (bytes : Bor (List ℕ)) (len : ℕ) (note : Option Note) → Tells (Some (step.Write at bytes)) note → len ≡ length bytes.now
    → IsStep note 1 at len
tells_write at bytes len None told long = absurd told
tells_write at bytes len (Some (Write from stood given)) told long = (refl, told.0, long ∙ ap length told.1)
tells_write at bytes len (Some Sync) told long = absurd told

pub tells_sync : (at len : ℕ) (note : Option Note) → Tells (Some step.Sync) note → IsStep note 2 at len
tells_sync at len None told = absurd told
tells_sync at len (Some (Write from stood given)) told = absurd told
tells_sync at len (Some Sync) told = refl

pub tells_none : (at len : ℕ) (note : Option Note) → Tells None note → IsStep note 0 at len
tells_none at len None told = refl
tells_none at len (Some note) told = absurd told

pub has_write : (at from : ℕ) (bytes : Bor (List ℕ)) (into : List ℕ) (note : Option Note) → Tells (Some (step.Write at bytes)) note
    → into ≡ part bytes.now from (length into) → HasBytes note from into
has_write at from bytes into None told is = absurd told
has_write at from bytes into (Some (Write other stood given)) told is = is ∙ ap (λ bs. part bs from (length into)) told.1
has_write at from bytes into (Some Sync) told is = absurd told

pub lacks_write : (at from n : ℕ) (bytes : Bor (List ℕ)) (note : Option Note) → Tells (Some (step.Write at bytes)) note
    → length bytes.now < from + n → LacksBytes note from n
lacks_write at from n bytes None told past = absurd told
lacks_write at from n bytes (Some (Write other stood given)) told past = omega (arith, past, ap length told.1)
lacks_write at from n bytes (Some Sync) told past = absurd told

pub lacks_sync : (from n : ℕ) (note : Option Note) → Tells (Some step.Sync) note → LacksBytes note from n
lacks_sync from n None told = absurd told
lacks_sync from n (Some (Write other stood given)) told = absurd told
lacks_sync from n (Some Sync) told = tt

pub lacks_none : (from n : ℕ) (note : Option Note) → Tells None note → LacksBytes note from n
lacks_none from n None told = tt
lacks_none from n (Some note) told = absurd told
