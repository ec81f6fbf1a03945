use Rattle.replay.proofs.Behind.{behind-both, behind-one, first_few, front_half, same_room}
use Rattle.std.proofs.Common.{rules, refl, sym}
use Rattle.replay.proofs.inputs.read_inputs.Goals as goal

pub slice_bounds-bytes-end-2 : goal.slice_bounds-bytes-end-2
slice_bounds-bytes-end-2 c = front_half _ c.requires

pub returns-then-job-ne-REPLACE : goal.returns-then-job-ne-REPLACE
returns-then-job-ne-REPLACE c =
    behind-one (first_few c.args.behind.now c.requires (c.in_ok-first.ensures c.in_ok-first.first c.in_ok-first.next refl)) (sym c.if-not-has_more.ensures)

pub read_both-requires : goal.read_both-requires
read_both-requires c = (
  first_few c.args.behind.now c.requires (c.in_ok-first.ensures c.in_ok-first.first c.in_ok-first.next refl),
  same_room c.args.behind.now _ c.requires (search rules),
)

pub returns : goal.returns
returns c =
    behind-both (first_few c.args.behind.now c.requires (c.in_ok-first.ensures c.in_ok-first.first c.in_ok-first.next refl)) (sym c.if-not-has_more.ensures) c.if-job-ne-REPLACE.false c.read_both.ensures
