use Rattle.std.proofs.Common.{rules}
use Rattle.text_reader.proofs.FoundLaws.{seek_laws}
use Rattle.text_reader.proofs.found.found_place.Goals as goal

pub returns-then-same_bytes : goal.returns-then-same_bytes
returns-then-same_bytes c = search (seek_laws, rules)

pub loop-i-preserved : goal.loop-i-preserved
loop-i-preserved c = search (seek_laws, rules)

pub returns : goal.returns
returns c = search (seek_laws, rules)
