use Rattle.ranking.proofs.MemberLaws.{member_laws}
use Rattle.std.proofs.Common.{rules}
use Rattle.ranking.proofs.numbered.put_members.Goals as goal

pub loop-left-init : goal.loop-left-init
loop-left-init c = search (member_laws, rules)

pub has-requires : goal.has-requires
has-requires c = search (member_laws, rules)

pub bounds-ranks-k : goal.bounds-ranks-k
bounds-ranks-k c = search (member_laws, rules)

pub put_number-here-requires : goal.put_number-here-requires
put_number-here-requires c = search (member_laws, rules)

pub loop-left-smaller-then-has : goal.loop-left-smaller-then-has
loop-left-smaller-then-has c = search (member_laws, rules)

pub loop-left-preserved-then-has : goal.loop-left-preserved-then-has
loop-left-preserved-then-has c = search (member_laws, rules)

pub loop-left-smaller : goal.loop-left-smaller
loop-left-smaller c = search (member_laws, rules)

pub loop-left-preserved : goal.loop-left-preserved
loop-left-preserved c = search (member_laws, rules)

pub returns : goal.returns
returns c = search (member_laws, rules)
