use Rattle.std.proofs.Common.{rules}
use Rattle.ladder.proofs.step.Goals as goal
use Rattle.ladder.proofs.ByTest.{by-contact, by_bit_contact, by_operation, by_point_coil, by_bit_coil, by-none, before_coils, before_bit_coils, contact-first, bit_contact_first, point-coil, no_point_coil, bit-coil, no_bit_coil, at_point_coil, reaches-contact, reaches-coil, point-small, bit-small}

pub take-requires : goal.take-requires
take-requires c = search (point-small, rules)

pub returns-in-0-to-2 : goal.returns-in-0-to-2
returns-in-0-to-2 c = record { values-are = search (by-contact, rules); points-are = search (before_coils, contact-first, rules); bits_are = search (before_bit_coils, contact-first, rules) }

pub bounds-bits-operand : goal.bounds-bits-operand
bounds-bits-operand c = search (reaches-contact, rules)

pub take-requires-in-0-to-5 : goal.take-requires-in-0-to-5
take-requires-in-0-to-5 c = search (bit-small, rules)

pub returns-in-0-to-5 : goal.returns-in-0-to-5
returns-in-0-to-5 c = record { values-are = search (by_bit_contact, rules); points-are = search (before_coils, bit_contact_first, rules); bits_are = search (before_bit_coils, bit_contact_first, rules) }

pub returns-in-0-to-8 : goal.returns-in-0-to-8
returns-in-0-to-8 c = record { values-are = search (by_operation, rules); points-are = search (before_coils, rules); bits_are = search (before_bit_coils, rules) }

pub returns-in-9 : goal.returns-in-9
returns-in-9 c = record { values-are = search (by_point_coil, rules); points-are = search (point-coil, rules); bits_are = search (at_point_coil, rules) }

pub write-requires-in-10 : goal.write-requires-in-10
write-requires-in-10 c = search (reaches-coil, rules)

pub returns-in-10 : goal.returns-in-10
returns-in-10 c = record { values-are = search (by_bit_coil, rules); points-are = search (no_point_coil, rules); bits_are = search (bit-coil, rules) }

pub returns-in_default : goal.returns-in_default
returns-in_default c = record { values-are = search (by-none, rules); points-are = search (no_point_coil, rules); bits_are = search (no_bit_coil, rules) }
