use Rattle.meirhuppa.proofs.ShrinkAnswers.{shrink_laws}
use Rattle.std.proofs.Common.{rules}
use Rattle.meirhuppa.proofs.shrink.meirhuppa_shrink.Goals as goal

pub given_back-requires : goal.given_back-requires
given_back-requires c = search (shrink_laws, rules)

pub returns : goal.returns
returns c = search (shrink_laws, rules)
