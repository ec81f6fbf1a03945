use Rattle.answer_line.proofs.Calls.{replaced_job}
use Rattle.std.proofs.Common.{rules}
use Rattle.replay.proofs.uses.replaced.Goals as goal

pub take_words-requires : goal.take_words-requires
take_words-requires c = search (replaced_job, rules)

pub returns : goal.returns
returns c = search (replaced_job, rules)
