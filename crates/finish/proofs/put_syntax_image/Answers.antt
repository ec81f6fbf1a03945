use Rattle.finish.proofs.Finishing.{put_syntax_laws}
use Rattle.std.proofs.Common.{rules}
use Rattle.finish.proofs.put_syntax_image.Goals as goal

pub put_head-behind-requires : goal.put_head-behind-requires
put_head-behind-requires c = search (put_syntax_laws, rules)

pub put_number-first-requires : goal.put_number-first-requires
put_number-first-requires c = search (put_syntax_laws, rules)

pub overflow_cast-count : goal.overflow_cast-count
overflow_cast-count c = search (put_syntax_laws, rules)

pub put_bindings-root-requires-clause-room : goal.put_bindings-root-requires-clause-room
put_bindings-root-requires-clause-room c = search (put_syntax_laws, rules)

pub put_bindings-root-requires-clause-held : goal.put_bindings-root-requires-clause-held
put_bindings-root-requires-clause-held c = search (put_syntax_laws, rules)

pub put_object-requires : goal.put_object-requires
put_object-requires c = search (put_syntax_laws, rules)

pub returns : goal.returns
returns c = search (put_syntax_laws, rules)
