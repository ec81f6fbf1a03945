use Rattle.std.proofs.Common.{rules, refl}
use Rattle.refusals.proofs.Handing.{handed_on}
use Rattle.numbers.proofs.Answering.{answering}
use Rattle.jobs.proofs.Naming.{root-stops, root-other, root_sets_stop, root_symbol_stop, root_ends, read_laws}
use Rattle.jobs.proofs.resolving.resolve_root.Goals as goal

pub returns-in_err-tag : goal.returns-in_err-tag
returns-in_err-tag c = root-stops _ _ _ _ _ _ c.number_up_to.ensures c.in_err-tag.was (handed_on c.from_residual.ensures.1 refl)

pub returns-then-tag-ne0 : goal.returns-then-tag-ne0
returns-then-tag-ne0 c = root-other _ _ _ _ _ _ c.number_up_to.ensures c.in_ok-tag.was c.if-tag-ne0.true

pub after-rest-requires : goal.after-rest-requires
after-rest-requires c = search (answering, rules, c.in_ok-tag.was)

pub read_sets-requires : goal.read_sets-requires
read_sets-requires c = search (answering, rules, c.in_ok-tag.was)

pub returns-in_err-three : goal.returns-in_err-three
returns-in_err-three c = root_sets_stop _ _ _ _ _ _ c.number_up_to.ensures c.in_ok-tag.was c.if-tag-ne0.false c.after-rest.ensures c.read_sets.ensures c.in_err-three.was (handed_on c.from_residual-in_err-three.ensures.1 refl)

pub after-requires : goal.after-requires
after-requires c = search (read_laws, answering, rules, c.in_ok-tag.was, c.in_ok-three.was)

pub number_below-requires : goal.number_below-requires
number_below-requires c = search (read_laws, answering, rules, c.in_ok-tag.was, c.in_ok-three.was)

pub returns-in_err-x : goal.returns-in_err-x
returns-in_err-x c = root_symbol_stop _ _ _ _ _ _ c.number_up_to.ensures c.in_ok-tag.was c.if-tag-ne0.false c.after-rest.ensures c.read_sets.ensures c.in_ok-three.was c.after.ensures c.number_below.ensures c.in_err-x.was (handed_on c.from_residual-in_err-x.ensures.1 refl)

pub returns : goal.returns
returns c = root_ends _ _ _ _ _ _ c.number_up_to.ensures c.in_ok-tag.was c.if-tag-ne0.false c.after-rest.ensures c.read_sets.ensures c.in_ok-three.was c.after.ensures c.number_below.ensures c.in_ok-x.was c.set_at-set.ensures c.resolve_name.ensures
