use Rattle.std.proofs.Common.{arith, rules}
use Rattle.refusals.proofs.Handing.{handed_on}
use Rattle.numbers.proofs.Answering.{read-moved, read-within}
use Rattle.numbers.proofs.Tails.{num_tail}
use Rattle.places.proofs.Things.{thing-stops, thing-atom, thing-object, thing-other}
use Rattle.places.proofs.read_thing.Goals as goal

pub returns-in_err-tag : goal.returns-in_err-tag
returns-in_err-tag c = handed_on c.from_residual.ensures.1 (thing-stops _ _ c.number.ensures _ c.in_err-tag.was)

pub after-rest-requires : goal.after-rest-requires
after-rest-requires c = (read-moved _ _ _ c.number.ensures c.in_ok-tag.was (num_tail _), read-within _ _ _ c.number.ensures c.in_ok-tag.was (num_tail _))

pub returns-in-3 : goal.returns-in-3
returns-in-3 c = thing-atom _ _ c.number.ensures _ c.in_ok-tag.was c.after-rest.ensures c.in-3.is c.read_atom.ensures

pub returns-in-5 : goal.returns-in-5
returns-in-5 c = thing-object _ _ c.number.ensures _ c.in_ok-tag.was c.after-rest.ensures (λ z. omega arith) c.in-5.is c.read_object.ensures

pub returns-in_default : goal.returns-in_default
returns-in_default c = thing-other _ _ c.number.ensures _ c.in_ok-tag.was c.after-rest.ensures (search rules) (search rules) c.read_content.ensures
