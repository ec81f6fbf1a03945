use Rattle.asking.proofs.naming.has_meaning.Goals as goal
use Rattle.asking.proofs.naming.has_meaning.Goals.{in-Unknown, in_default}
use Rattle.asking.proofs.Stopping.{meaning-some, meaning-none}

pub returns : goal.returns
returns c = elim c.match-matches.branch [ in-Unknown w ↦ rw w.matches-is (meaning-none c.lookup.ensures w.in-Unknown.is) | in_default w ↦ rw w.matches-is (meaning-some c.lookup.ensures w.in_default.not-Unknown w.in_default.not-Unclear) ]
