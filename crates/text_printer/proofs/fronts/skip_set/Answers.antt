use Rattle.text_printer.proofs.FrontLaws.{set_laws}
use Rattle.std.proofs.Common.{rules}
use Rattle.text_printer.proofs.fronts.skip_set.Goals as goal

pub value_at-members-requires : goal.value_at-members-requires
value_at-members-requires c = search (set_laws, rules)

pub skip_number-first-requires : goal.skip_number-first-requires
skip_number-first-requires c = search (set_laws, rules)

pub skip_numbers-requires : goal.skip_numbers-requires
skip_numbers-requires c = search (set_laws, rules)

pub returns : goal.returns
returns c = search (set_laws, rules)
