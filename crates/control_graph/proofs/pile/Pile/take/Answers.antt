use Rattle.std.proofs.Common.{◌≡◌, ◌<◌, ◌+◌, ◌-◌, false, length, ap, ◌∙◌, subst, arith}
use Rattle.std.proofs.lemmas.List.{length-set}
use Rattle.control_graph.proofs.Piled.{AreAmong, one-less, among-less}
use Rattle.control_graph.proofs.pile.Pile.take.Goals as goal

pub invariant_of-self : goal.invariant_of-self
invariant_of-self c =
    let pile = c.args.self.now in
    let place = c.at-pc.result in
    let inside : place.pc < length pile.has = omega (arith, pile.long, place.inside) in
    let less = one-less pile.has place.pc inside in
    let count : pile.count ≡ pile.count - 1 + 1 = omega (arith, c.if-self-eq0.false) in
    record {
      long = ap length c.set.ensures ∙ length-set pile.has place.pc false ∙ pile.long;
      few = rw c.set.ensures (omega (arith, less, pile.few));
      among = among-less pile.places pile.has c.set.new.self (pile.count - 1) place inside c.at-pc.ensures c.set.ensures
          (subst (AreAmong pile.places pile.has) count pile.among);
    }
