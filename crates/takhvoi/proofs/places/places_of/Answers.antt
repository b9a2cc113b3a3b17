-- They are sorted by where they begin.
use Rattle.std.proofs.Common.{◌≡◌, ◌≤◌, ap, arith, length, rules, subst}
use Rattle.std.specs.Prelude.{IsPermutation}
use Rattle.std.proofs.lemmas.List.Sorted.{IsNonDecreasingBy-from_sort_by_key}
use Rattle.takhvoi.specs.Records.{records_below}
use Rattle.takhvoi.specs.Shown.{place_in}
use Rattle.takhvoi.proofs.Listed.{few-records}
use Rattle.takhvoi.proofs.places.places_of.Goals as goal

pub returns-clause-are : goal.returns-clause-are
returns-clause-are c = record {
  every = subst (λ places. IsPermutation places c.sort_by_key.new.self.items) c.in_ok-places.ensures c.sort_by_key.ensures.permutation;
  ordered = IsNonDecreasingBy-from_sort_by_key (λ p. p.at) _ c.in_ok-sort_by_key.ensures.sorted (λ a r q k. search rules);
}

pub returns-clause-few : goal.returns-clause-few
returns-clause-few c =
    let is : length c.in_ok-places.places.items ≡ length (records_below (place_in c.args.blocks.now) 66561) =
    ap (λ xs. length xs) c.in_ok-places.ensures in
    let few : length (records_below (place_in c.args.blocks.now) 66561) ≤ 66561 = few-records (place_in c.args.blocks.now) 66561 in
    let len = c.sort_by_key.ensures.len in
    omega (arith, is, few, len)
