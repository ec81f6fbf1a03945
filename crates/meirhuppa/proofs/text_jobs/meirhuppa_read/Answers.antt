use Rattle.meirhuppa.proofs.TextAnswers.{text_laws}
use Rattle.std.proofs.Common.{rules}
use Rattle.meirhuppa.proofs.text_jobs.meirhuppa_read.Goals as goal

pub read_text-requires : goal.read_text-requires
read_text-requires c = search (text_laws, rules)

pub given_back-requires : goal.given_back-requires
given_back-requires c = search (text_laws, rules)

pub returns : goal.returns
returns c = search (text_laws, rules)
