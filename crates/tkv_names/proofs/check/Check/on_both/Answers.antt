use Rattle.std.proofs.Common.{◌∙◌}
use Rattle.tkv_names.specs.declared.seen.Seen.{Seen}
use Rattle.tkv_names.specs.Seen.{OnWords, OnBoth}
use Rattle.tkv_names.proofs.Cases.{some_map, chain}
use Rattle.tkv_names.proofs.check.Check.on_both.Goals as goal

pub returns : goal.returns
returns c = some_map (λ (next : Seen). OnWords c.args.self.now.placed.now c.args.opcode c.in_ok-both.both next)
    (λ (next : Seen). OnBoth c.args.self.now.text.now c.args.self.now.items.now c.args.self.now.placed.now c.args.opcode c.args.seen next)
    (λ next words. record {
      between = c.in_ok-both.both;
      same = c.in_ok-both.ensures.0 ∙ c.in_ok-left.ensures.0;
      leads = chain c.args.self.now.text.now c.args.self.now.items.now c.args.self.now.placed.now c.args.seen c.in_ok-left.left c.in_ok-both.both
          c.in_ok-left.ensures.1 c.in_ok-both.ensures.1;
      words = words;
    }) c.on_words.result c.on_words.ensures
