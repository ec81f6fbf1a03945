use Rattle.std.proofs.Common.{rules, refl}
use Rattle.refusals.proofs.Handing.{handed_on}
use Rattle.asking.proofs.open_parts.Goals as goal
use Rattle.asking.proofs.Pieces.{parts_laws, parts-refused}

pub none_yet-m-requires : goal.none_yet-m-requires
none_yet-m-requires c = search (parts_laws, rules)

pub stop_all-requires : goal.stop_all-requires
stop_all-requires c = search (parts_laws, rules)

pub returns-in_err-t : goal.returns-in_err-t
returns-in_err-t c = rw (handed_on c.from_residual.ensures.1 refl) (parts-refused _ c.requires c.none_yet-m.ensures c.stop_all.ensures c.in_err-t.was)

pub flipped-requires : goal.flipped-requires
flipped-requires c = search (parts_laws, rules, c.in_ok-t.was)

pub returns : goal.returns
returns c = search (parts_laws, rules, c.in_ok-t.was)
