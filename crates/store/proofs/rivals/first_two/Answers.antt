use Rattle.store.proofs.rivals.first_two.Goals as goal
use Rattle.store.proofs.Competing.{first-none, first-within, second_none, both_found}

pub returns-in_default : goal.returns-in_default
returns-in_default c = first-none c.next_rival.ensures c.in_default.is c.none.ensures

pub next_rival-requires-2 : goal.next_rival-requires-2
next_rival-requires-2 c = (c.requires, first-within c.next_rival.ensures c.in-Some.is)

pub returns-in_default-next_rival : goal.returns-in_default-next_rival
returns-in_default-next_rival c = second_none c.next_rival.ensures c.in-Some.is c.next_rival-2.ensures c.in_default-next_rival.is c.none-in_default-next_rival.ensures

pub returns : goal.returns
returns c = both_found c.next_rival.ensures c.in-Some.is c.next_rival-2.ensures c.in-Some-next_rival.is
