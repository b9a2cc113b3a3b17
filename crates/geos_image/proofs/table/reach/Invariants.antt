use Rattle.std.proofs.Common.{◌≡◌, ◌≤◌, ◌-◌, ◌++◌, replicate}
use Rattle.std.specs.Vec.{vec_len, vec_capacity}
use Rattle.geos_image.proofs.table.reach.Given as goal

-- the item lies at each pc before this one that had none
abbrev pub invariant-loop : goal.invariant-loop
invariant-loop g l = record {
  len : vec_len l.items ≡ l.counter;
  more : vec_len l.fn.items ≤ l.counter;
  items : l.items.items ≡ l.fn.items.items ++ replicate (l.counter - vec_len l.fn.items) l.fn.rest;
  room : vec_capacity l.items ≡ vec_capacity l.fn.items;
}
