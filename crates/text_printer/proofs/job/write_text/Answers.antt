use Rattle.text_printer.proofs.PrintLaws.{write_laws}
use Rattle.std.proofs.Common.{rules}
use Rattle.text_printer.proofs.job.write_text.Goals as goal

pub room_in-room-requires : goal.room_in-room-requires
room_in-room-requires c = search (write_laws, rules)

pub text_len-len-requires : goal.text_len-len-requires
text_len-len-requires c = search (write_laws, rules)

pub returns-then-room-len : goal.returns-then-room-len
returns-then-room-len c = search (write_laws, rules)

pub put_all-requires : goal.put_all-requires
put_all-requires c = search (write_laws, rules)

pub overflow_cast-result : goal.overflow_cast-result
overflow_cast-result c = search (write_laws, rules)

pub returns : goal.returns
returns c = search (write_laws, rules)
