use Rattle.std.proofs.Common.{rules}
use Rattle.expander.proofs.Bytes.{bytes_laws}
use Rattle.expander.proofs.line.put_line.Goals as goal

pub returns : goal.returns
returns c = search (bytes_laws, rules)
