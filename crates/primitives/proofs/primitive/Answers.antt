use Rattle.std.proofs.Common.{rules}
use Rattle.primitives.proofs.primitive.Goals as goal
use Rattle.primitives.proofs.Choosing.{laws}

-- src/lib.rt:270:14
pub stx_e-requires : goal.stx_e-requires
stx_e-requires c = search (laws, rules)

-- src/lib.rt:271:14
pub mk_stx-requires : goal.mk_stx-requires
mk_stx-requires c = search (laws, rules)

-- src/lib.rt:272:14
pub first-requires : goal.first-requires
first-requires c = search (laws, rules)

-- src/lib.rt:273:14
pub rest-requires : goal.rest-requires
rest-requires c = search (laws, rules)

-- src/lib.rt:274:14
pub link-requires : goal.link-requires
link-requires c = search (laws, rules)

-- src/lib.rt:275:14
pub same-requires : goal.same-requires
same-requires c = search (laws, rules)

-- src/lib.rt:276:14
pub pick-requires : goal.pick-requires
pick-requires c = search (laws, rules)

-- src/lib.rt:265:1
pub returns-in-0 : goal.returns-in-0
returns-in-0 c = search (laws, rules)

-- src/lib.rt:265:1
pub returns-in-1 : goal.returns-in-1
returns-in-1 c = search (laws, rules)

-- src/lib.rt:265:1
pub returns-in-2 : goal.returns-in-2
returns-in-2 c = search (laws, rules)

-- src/lib.rt:265:1
pub returns-in-3 : goal.returns-in-3
returns-in-3 c = search (laws, rules)

-- src/lib.rt:265:1
pub returns-in-4 : goal.returns-in-4
returns-in-4 c = search (laws, rules)

-- src/lib.rt:265:1
pub returns-in-5 : goal.returns-in-5
returns-in-5 c = search (laws, rules)

-- src/lib.rt:265:1
pub returns-in_default : goal.returns-in_default
returns-in_default c = search (laws, rules)
