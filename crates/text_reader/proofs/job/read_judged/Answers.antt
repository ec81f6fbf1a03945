use Rattle.std.proofs.Common.{rules}
use Rattle.text_reader.proofs.JobLaws.{limited_laws}
use Rattle.text_reader.proofs.job.read_judged.Goals as goal

pub returns-in_err-count : goal.returns-in_err-count
returns-in_err-count c = search (limited_laws, rules)

pub write_image-requires : goal.write_image-requires
write_image-requires c = search (limited_laws, rules)

pub returns : goal.returns
returns c = search (limited_laws, rules, c.in_ok-count.was)
