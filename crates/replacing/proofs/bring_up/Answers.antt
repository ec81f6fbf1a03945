use Rattle.replacing.proofs.BringLaws.{bring_laws}
use Rattle.std.proofs.Common.{rules}
use Rattle.replacing.proofs.bring_up.Goals as goal

pub bring_with-requires-clause-room : goal.bring_with-requires-clause-room
bring_with-requires-clause-room c = search (bring_laws, rules)
