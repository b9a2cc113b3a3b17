use Rattle.std.proofs.Common.{◌≡◌, ◌<◌, true, false, length, sym, ap, ◌∙◌, arith}
use Rattle.std.specs.Prelude.{slice_index_or}
use Rattle.std.proofs.lemmas.List.{length-set}
use Rattle.control_graph.proofs.Piled.{some-room, one-more, among-more}
use Rattle.control_graph.proofs.pile.Pile.put.Goals as goal

pub set-requires : goal.set-requires
set-requires c =
    let pile = c.args.self.now in
    let room = some-room pile.has c.args.pc (omega (arith, pile.long, c.requires)) (sym (c.at.ensures false) ∙ c.if-at.false) in
    omega (arith, room, pile.few, pile.long)

pub invariant_of-self : goal.invariant_of-self
invariant_of-self c =
    let pile = c.args.self.now in
    let inside : c.args.pc < length pile.has = omega (arith, pile.long, c.requires) in
    let free : slice_index_or pile.has c.args.pc false ≡ false = sym (c.at.ensures false) ∙ c.if-at.false in
    let room = some-room pile.has c.args.pc inside free in
    let more = one-more pile.has c.args.pc inside free in
    record {
      long = ap length c.set-2.ensures ∙ length-set pile.has c.args.pc true ∙ pile.long;
      few = rw c.set-2.ensures (omega (arith, more, pile.few));
      among = among-more pile.places c.set.new.self pile.has c.set-2.new.self pile.count _
          (omega (arith, room, pile.few, pile.long, c.lengths.ensures)) c.set.ensures c.set-2.ensures pile.among;
    }
