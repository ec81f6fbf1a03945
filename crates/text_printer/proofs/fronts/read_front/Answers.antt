use Rattle.text_printer.proofs.FrontLaws.{front_laws}
use Rattle.std.proofs.Common.{rules}
use Rattle.text_printer.proofs.fronts.read_front.Goals as goal

pub value_at-tag-requires : goal.value_at-tag-requires
value_at-tag-requires c = search (front_laws, rules)

pub skip_number-at0-requires : goal.skip_number-at0-requires
skip_number-at0-requires c = search (front_laws, rules)

pub skip_set-at1-requires : goal.skip_set-at1-requires
skip_set-at1-requires c = search (front_laws, rules)

pub skip_set-at2-requires : goal.skip_set-at2-requires
skip_set-at2-requires c = search (front_laws, rules)

pub skip_set-behind-requires : goal.skip_set-behind-requires
skip_set-behind-requires c = search (front_laws, rules)

pub value_at-content-requires : goal.value_at-content-requires
value_at-content-requires c = search (front_laws, rules)

pub skip_number-past-requires : goal.skip_number-past-requires
skip_number-past-requires c = search (front_laws, rules)

pub returns : goal.returns
returns c = search (front_laws, rules)
