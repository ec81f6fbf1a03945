use Rattle.std.proofs.Common.{rules, ap}
use Rattle.wiring.specs.Words.{join_number}
use Rattle.wiring.proofs.WordLaws.{no_load, turned_few, load-count, join-count, load_code, join-code}
use Rattle.wiring.proofs.words.finish.Goals as goal

pub put-requires : goal.put-requires
put-requires c = search (turned_few, rules)

pub returns-in-Load-clause-value : goal.returns-in-Load-clause-value
returns-in-Load-clause-value c = load-count _ _ _ c.turn-turned.ensures.value (ap join_number c.in-Load.is)

pub returns-in-Load-clause-code_after : goal.returns-in-Load-clause-code_after
returns-in-Load-clause-code_after c = load_code _ _ _ c.turn-turned.ensures.value _ c.turn-turned.ensures.code_after (ap join_number c.in-Load.is)

pub returns-in_default : goal.returns-in_default
returns-in_default c =
    let h = no_load c.args.join c.in_default.not-Load in
    record {
      value = join-count _ _ _ c.turn-turned.ensures.value h c.put.ensures.value;
      code_after = join-code _ _ _ c.turn-turned.ensures.value _ c.turn-turned.ensures.code_after h (search rules) c.word.ensures c.put.ensures.code_after;
    }
