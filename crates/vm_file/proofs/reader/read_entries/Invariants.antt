use Rattle.std.proofs.Common.{◌≡◌, ◌+◌, ◌≤◌, true, length}
use Rattle.vm_file.specs.Directories.{are_entries, entries_length}
use Rattle.vm_file.specs.Outcomes.{ReadsOnly}
use Rattle.vm_file.proofs.Lengths.{last_handle}
use Rattle.vm_file.proofs.EntrySteps.{Told}
use Rattle.vm_file.proofs.reader.read_entries.Given as goal

abbrev pub invariant-loop : goal.invariant-loop
invariant-loop g l =
    let d = g.D.Device in
    record {
      place : l.from ≡ l.at + entries_length l.entries.items;
      within : l.from ≤ l.end;
      few : length l.entries.items ≡ l.counter;
      legal : are_entries 0 l.entries.items ≡ true;
      last : l.last ≡ last_handle 0 l.entries.items;
      reads : ReadsOnly d.medium l.fn.device l.device;
      count : d.medium.failed l.device ≡ d.medium.failed l.fn.device;
      told : d.medium.honest l.fn.device → Told (d.medium.image l.fn.device) l.at l.end l.count l.counter l.last l.from l.entries.items;
    }
