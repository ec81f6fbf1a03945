use Rattle.std.proofs.Common.{rules}
use Rattle.profile.proofs.is_program.Goals as goal
use Rattle.roots.proofs.Trees.{none_is}
use Rattle.profile.proofs.Root.{root_laws, root_told}

pub returns-in_default : goal.returns-in_default
returns-in_default c = search (root_laws, rules, c.in_default.is)

pub after-requires : goal.after-requires
after-requires c = search (root_laws, rules, c.in-Ok.is)

pub returns : goal.returns
returns c = rw c.is_empty.ensures (root_told _ _ _ _ c.requires.1 none_is c.take_tree.ensures.value c.in-Ok.is c.after.ensures)
