use Rattle.std.proofs.Common.{append_assoc, ◌≡◌, ◌∙◌, ◌∷◌, ◌++◌, [], All, length, map, ap, rules}
use Rattle.host_device.specs.declared.record.Record.TheVariants as kind
use Rattle.host_device.specs.Notes.{IsWithin, Write, note_in}
use Rattle.host_device.proofs.Logs.{on-err, one-more, same-notes}
use Rattle.host_device.proofs.log.Log.note_write.Goals as goal

pub returns-in_err-extend_from_slice-2-clause-still : goal.returns-in_err-extend_from_slice-2-clause-still
returns-in_err-extend_from_slice-2-clause-still c =
    let log = c.self-2.inside.bytes.items in
    let records = c.self-2.inside.records.items in
    let within : All (IsWithin (length log)) records = c.self-2.invariant in
    let first : c.extend_from_slice.new.self.items ≡ log ++ c.args.stood.now = search rules in
    let second : c.extend_from_slice-2.new.self.items ≡ c.extend_from_slice.new.self.items = search rules in
    let items : c.extend_from_slice-2.new.self.items ≡ log ++ c.args.stood.now = second ∙ first in
    let was : map (note_in log) records ≡ c.args.self.now = search rules in
    on-err _ (ap (λ bytes. map (note_in bytes) records) items ∙ same-notes log c.args.stood.now records within ∙ was)

pub returns-in_err-push-clause-still : goal.returns-in_err-push-clause-still
returns-in_err-push-clause-still c =
    let log = c.self-2.inside.bytes.items in
    let records = c.self-2.inside.records.items in
    let stood = c.args.stood.now in
    let given = c.args.given.now in
    let within : All (IsWithin (length log)) records = c.self-2.invariant in
    let first : c.extend_from_slice.new.self.items ≡ log ++ stood = search rules in
    let second : c.extend_from_slice-2.new.self.items ≡ c.extend_from_slice.new.self.items ++ given = search rules in
    let items : c.extend_from_slice-2.new.self.items ≡ log ++ (stood ++ given) =
    second ∙ ap (λ bytes. bytes ++ given) first ∙ append_assoc log stood given in
    let put : c.push.new.self.items ≡ records = search rules in
    let was : map (note_in log) records ≡ c.args.self.now = search rules in
    on-err _ ((λ k. map (note_in (items k)) (put k)) ∙ same-notes log (stood ++ given) records within ∙ was)

pub returns-clause-noted : goal.returns-clause-noted
returns-clause-noted c =
    let log = c.self-2.inside.bytes.items in
    let records = c.self-2.inside.records.items in
    let stood = c.args.stood.now in
    let given = c.args.given.now in
    let within : All (IsWithin (length log)) records = c.self-2.invariant in
    let first : c.extend_from_slice.new.self.items ≡ log ++ stood = search rules in
    let second : c.extend_from_slice-2.new.self.items ≡ c.extend_from_slice.new.self.items ++ given = search rules in
    let items : c.extend_from_slice-2.new.self.items ≡ (log ++ stood) ++ given = second ∙ ap (λ bytes. bytes ++ given) first in
    let put : c.push.new.self.items ≡ records ++ (kind.Write c.args.at (length log) (length given) ∷ []) = search rules in
    let was : map (note_in log) records ≡ c.args.self.now = search rules in
    (λ k. map (note_in (items k)) (put k)) ∙ one-more log stood given c.requires c.args.at records within
    ∙ ap (λ notes. notes ++ (Write c.args.at stood given ∷ [])) was
