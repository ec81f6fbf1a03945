use Rattle.std.proofs.Common.{rules}
use Rattle.bits.proofs.gather.Goals as goal
use Rattle.bits.proofs.Gathering.{gathering_laws, midway_stops}

pub loop-init : goal.loop-init
loop-init c = search (gathering_laws, rules)

pub read_token-requires : goal.read_token-requires
read_token-requires c = search (gathering_laws, rules)

pub returns-in_default : goal.returns-in_default
returns-in_default c = midway_stops c.loop.invariant c.after.ensures c.loop-test.true c.read_token.ensures c.in_default.is

pub note-g-requires : goal.note-g-requires
note-g-requires c = search (gathering_laws, rules)

pub loop-preserved : goal.loop-preserved
loop-preserved c = search (gathering_laws, rules, c.in-Ok.is)

pub returns : goal.returns
returns c = search (gathering_laws, rules)
