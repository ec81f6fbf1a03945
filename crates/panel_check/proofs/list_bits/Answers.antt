use Rattle.std.proofs.Common.{rules, refl}
use Rattle.refusals.proofs.Handing.{handed_on}
use Rattle.bits.proofs.Gathering.{no-marks}
use Rattle.panel_check.proofs.list_bits.Goals as goal
use Rattle.panel_check.proofs.Names.{names-long, check_listed, check_refused, bits-few, bits-named}

pub check-requires : goal.check-requires
check-requires c = search (no-marks, names-long, rules)

pub returns-in_err-program : goal.returns-in_err-program
returns-in_err-program c = rw (handed_on c.from_residual.ensures.1 refl) (check_refused c.check.ensures c.in_err-program.was)

pub list_names-requires : goal.list_names-requires
list_names-requires c = search (bits-few, bits-named, rules, c.in_ok-program.was)

pub returns : goal.returns
returns c = search (check_listed, rules, c.in_ok-program.was)
