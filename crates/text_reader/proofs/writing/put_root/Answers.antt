use Rattle.std.proofs.Common.{rules}
use Rattle.text_reader.proofs.WriteLaws.{root_laws}
use Rattle.text_reader.proofs.writing.put_root.Goals as goal

pub loop-item-preserved : goal.loop-item-preserved
loop-item-preserved c = search (root_laws, rules)
