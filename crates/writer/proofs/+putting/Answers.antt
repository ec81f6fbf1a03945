use Rattle.std.proofs.Common.{rules}
use Rattle.std.proofs.Common.{inl, inr}
use Rattle.writer.proofs.Putting.{laws, chain_laws}
use Rattle.writer.proofs.+putting.Goals as goal

pub put_thing-put_front-mid-requires : goal.put_thing-put_front-mid-requires
put_thing-put_front-mid-requires t c = search (laws, rules)

pub put_thing-put_things-requires : goal.put_thing-put_things-requires
put_thing-put_things-requires t c = search (laws, rules)

pub put_thing-put_things-requires-then-tag-eq-LIST_VALUE : goal.put_thing-put_things-requires-then-tag-eq-LIST_VALUE
put_thing-put_things-requires-then-tag-eq-LIST_VALUE t c = elim c.if-tag-eq-LIST_VALUE.either [ inl h ↦ search (laws, rules) | inr h ↦ search (laws, rules) ]

pub put_thing-put_thing-requires : goal.put_thing-put_thing-requires
put_thing-put_thing-requires t c = search (laws, rules)

pub put_thing-returns-then-tag-eq-LIST : goal.put_thing-returns-then-tag-eq-LIST
put_thing-returns-then-tag-eq-LIST t c = search (laws, rules)

pub put_thing-returns-then-tag-eq-LIST_VALUE : goal.put_thing-returns-then-tag-eq-LIST_VALUE
put_thing-returns-then-tag-eq-LIST_VALUE t c = elim c.if-tag-eq-LIST_VALUE.either [ inl h ↦ search (laws, rules) | inr h ↦ search (laws, rules) ]

pub put_thing-returns-then-tag-eq-FUNCTION : goal.put_thing-returns-then-tag-eq-FUNCTION
put_thing-returns-then-tag-eq-FUNCTION t c = search (laws, rules)

pub put_thing-returns-else-tag-eq-FUNCTION : goal.put_thing-returns-else-tag-eq-FUNCTION
put_thing-returns-else-tag-eq-FUNCTION t c = search (laws, rules)

pub put_things-put_thing-here-requires : goal.put_things-put_thing-here-requires
put_things-put_thing-here-requires t c = search (chain_laws, rules)

pub put_things-loop-place-smaller : goal.put_things-loop-place-smaller
put_things-loop-place-smaller t c = search (chain_laws, rules)

pub put_things-loop-place-preserved : goal.put_things-loop-place-preserved
put_things-loop-place-preserved t c = search (chain_laws, rules)

pub put_things-returns : goal.put_things-returns
put_things-returns t c = search (chain_laws, rules)
