use Rattle.std.proofs.Common.{◌∙◌}
use Rattle.meirhuppa.proofs.Wholes.{small-answer}
use Rattle.meirhuppa.proofs.answers.small_table.Goals as goal

pub returns : goal.returns
returns c = c.refused.ensures ∙ small-answer c.code.ensures
