use Rattle.std.proofs.Common.{rules}
use Rattle.text_reader.proofs.JobLaws.{judged_laws}
use Rattle.text_reader.proofs.job.read_with.Goals as goal

pub returns-in-Err : goal.returns-in-Err
returns-in-Err c = search (judged_laws, rules)
