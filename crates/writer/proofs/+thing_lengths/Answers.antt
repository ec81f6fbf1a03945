use Rattle.std.proofs.Common.{rules}
use Rattle.std.proofs.Common.{inl, inr}
use Rattle.writer.proofs.Counting.{laws, chain_laws}
use Rattle.writer.proofs.+thing_lengths.Goals as goal

pub thing_len-things_len-requires : goal.thing_len-things_len-requires
thing_len-things_len-requires t c = search (laws, rules)

pub thing_len-things_len-requires-then-tag-eq-LIST_VALUE : goal.thing_len-things_len-requires-then-tag-eq-LIST_VALUE
thing_len-things_len-requires-then-tag-eq-LIST_VALUE t c = elim c.if-tag-eq-LIST_VALUE.either [ inl h ↦ search (laws, rules) | inr h ↦ search (laws, rules) ]

pub thing_len-thing_len-requires : goal.thing_len-thing_len-requires
thing_len-thing_len-requires t c = search (laws, rules)

pub thing_len-returns-then-tag-eq-LIST : goal.thing_len-returns-then-tag-eq-LIST
thing_len-returns-then-tag-eq-LIST t c = search (laws, rules)

pub thing_len-returns-then-tag-eq-LIST_VALUE : goal.thing_len-returns-then-tag-eq-LIST_VALUE
thing_len-returns-then-tag-eq-LIST_VALUE t c = elim c.if-tag-eq-LIST_VALUE.either [ inl h ↦ search (laws, rules) | inr h ↦ search (laws, rules) ]

pub thing_len-returns-then-tag-eq-FUNCTION : goal.thing_len-returns-then-tag-eq-FUNCTION
thing_len-returns-then-tag-eq-FUNCTION t c = search (laws, rules)

pub thing_len-returns-else-tag-eq-FUNCTION : goal.thing_len-returns-else-tag-eq-FUNCTION
thing_len-returns-else-tag-eq-FUNCTION t c = search (laws, rules)

pub things_len-get_cell-cell-requires : goal.things_len-get_cell-cell-requires
things_len-get_cell-cell-requires t c = search (chain_laws, rules)

pub things_len-thing_len-m-requires : goal.things_len-thing_len-m-requires
things_len-thing_len-m-requires t c = search (chain_laws, rules)

pub things_len-loop-place-smaller : goal.things_len-loop-place-smaller
things_len-loop-place-smaller t c = search (chain_laws, rules)

pub things_len-loop-place-preserved : goal.things_len-loop-place-preserved
things_len-loop-place-preserved t c = search (chain_laws, rules)

pub things_len-returns-after-loop-place : goal.things_len-returns-after-loop-place
things_len-returns-after-loop-place t c = search (chain_laws, rules)
