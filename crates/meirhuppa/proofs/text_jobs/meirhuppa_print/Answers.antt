use Rattle.meirhuppa.proofs.TextAnswers.{text_laws}
use Rattle.std.proofs.Common.{rules}
use Rattle.meirhuppa.proofs.text_jobs.meirhuppa_print.Goals as goal

pub print_image-requires : goal.print_image-requires
print_image-requires c = search (text_laws, rules)

pub given_back-requires : goal.given_back-requires
given_back-requires c = search (text_laws, rules)

pub returns : goal.returns
returns c = search (text_laws, rules)
