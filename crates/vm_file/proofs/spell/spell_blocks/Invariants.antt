use Rattle.std.proofs.Common.{◌≡◌, ◌+◌, ◌≤◌, ◌++◌, take, map}
use Rattle.std.specs.List.{flat_map}
use Rattle.std.specs.Vec.{vec_items, vec_len, vec_capacity}
use Rattle.vm_file.specs.Committing.{block_read}
use Rattle.vm_file.specs.Contents.{block_spelling}
use Rattle.vm_file.specs.Directories.{entries_length}
use Rattle.vm_file.specs.Outcomes.{ReadsOnly}
use Rattle.vm_file.proofs.spell.spell_blocks.Given as goal

abbrev pub invariant-loop-e : goal.invariant-loop-e
invariant-loop-e g l =
    let d = g.D.Device in
    record {
      len : vec_len l.into ≡ vec_len l.fn.into + entries_length (take l.e-index l.entries);
      room : vec_capacity l.fn.into ≤ vec_capacity l.into;
      reads : ReadsOnly d.medium l.fn.device l.device;
      count : d.medium.failed l.device ≡ d.medium.failed l.fn.device;
      items : d.medium.honest l.fn.device → vec_items l.into ≡ vec_items l.fn.into ++ flat_map block_spelling
          (map (block_read (g.S.Source.resident_bytes l.source) (d.medium.image l.fn.device) l.kept.from l.kept.directory.now.entries.items)
          (take l.e-index l.entries));
    }
