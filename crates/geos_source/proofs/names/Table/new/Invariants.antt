use Rattle.std.proofs.Common.{◌≡◌, ◌≤◌, []}
use Rattle.std.specs.List.{All}
use Rattle.std.specs.Vec.{vec_len, vec_capacity}
use Rattle.geos_source.specs.declared.names.TheConstants.{TREES}
use Rattle.geos_source.proofs.names.Table.new.Given as goal

-- the trees so far are empty, and there is room for the others
abbrev pub invariant-loop : goal.invariant-loop
invariant-loop l = record {
  len : vec_len l.trees ≡ l.counter;
  room : TREES ≤ vec_capacity l.trees;
  empty : All (λ t. t.entries ≡ []) l.trees.items;
}
