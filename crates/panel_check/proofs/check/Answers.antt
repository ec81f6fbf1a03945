use Rattle.std.proofs.Common.{rules, arith}
use Rattle.panel_check.proofs.check.Goals as goal
use Rattle.panel_check.proofs.Checking.{good-fits, good-short, root_in_profile}

pub after-requires : goal.after-requires
after-requires c =
    let p = c.find_program.ensures.found c.in-Some.c c.in-Some.is in
    search (arith, rules, good-fits 0 p.good)

pub gather-requires-clause-image : goal.gather-requires-clause-image
gather-requires-clause-image c =
    let p = c.find_program.ensures.found c.in-Some.c c.in-Some.is in
    good-short p.good c.after.ensures

pub returns : goal.returns
returns c =
    let p = c.find_program.ensures.found c.in-Some.c c.in-Some.is in
    root_in_profile p c.after.ensures _ _ c.gather.ensures c.within.ensures
