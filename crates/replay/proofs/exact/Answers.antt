use Rattle.replay.proofs.Behind.{given_laws}
use Rattle.std.proofs.Common.{rules}
use Rattle.replay.proofs.exact.Goals as goal

pub put_call-end-requires-clause-inputs : goal.put_call-end-requires-clause-inputs
put_call-end-requires-clause-inputs c =
    (search (given_laws, rules), search (given_laws, rules), search (given_laws, c.requires.2, rules))

pub put_call-end-requires-clause-room : goal.put_call-end-requires-clause-room
put_call-end-requires-clause-room c = (c.requires.0, c.requires.1)
