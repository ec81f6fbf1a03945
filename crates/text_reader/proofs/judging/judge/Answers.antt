use Rattle.std.proofs.Common.{rules}
use Rattle.text_reader.proofs.JudgeLaws.{judge_laws}
use Rattle.text_reader.proofs.judging.judge.Goals as goal

pub returns-then-depth-eq0 : goal.returns-then-depth-eq0
returns-then-depth-eq0 c = search (judge_laws, rules)

pub returns-then-second : goal.returns-then-second
returns-then-second c = search (judge_laws, rules)

pub returns-then-is_bad : goal.returns-then-is_bad
returns-then-is_bad c = search (judge_laws, rules)

pub loop-token-preserved-else-depth-eq0 : goal.loop-token-preserved-else-depth-eq0
loop-token-preserved-else-depth-eq0 c = search (judge_laws, rules)

pub loop-token-preserved-else-second : goal.loop-token-preserved-else-second
loop-token-preserved-else-second c = search (judge_laws, rules)

pub loop-token-preserved : goal.loop-token-preserved
loop-token-preserved c = search (judge_laws, rules)

pub returns : goal.returns
returns c = search (judge_laws, rules)

pub returns-then-second-2 : goal.returns-then-second-2
returns-then-second-2 c = search (judge_laws, rules)
