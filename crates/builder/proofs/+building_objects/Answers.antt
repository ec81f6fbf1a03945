use Rattle.builder.proofs.ObjectLaws.{object_laws}
use Rattle.std.proofs.Common.{rules}
use Rattle.builder.proofs.+building_objects.Goals as goal
use Rattle.builder.proofs.ChainLaws.{Chain-laws}

pub object-read_front-x-requires : goal.object-read_front-x-requires
object-read_front-x-requires t c = search (object_laws, rules)

pub object-objects-parts-requires : goal.object-objects-parts-requires
object-objects-parts-requires t c = search (object_laws, rules)

pub object-make_object-made-requires : goal.object-make_object-made-requires
object-make_object-made-requires t c = search (object_laws, rules)

pub object-returns-then-x-eq-LIST : goal.object-returns-then-x-eq-LIST
object-returns-then-x-eq-LIST t c = search (object_laws, rules)

pub object-make_object-made-requires-2 : goal.object-make_object-made-requires-2
object-make_object-made-requires-2 t c = search (object_laws, rules)

pub object-returns : goal.object-returns
object-returns t c = search (object_laws, rules)

pub objects-loop-init : goal.objects-loop-init
objects-loop-init t c = search (Chain-laws, rules)

pub objects-object-one-requires : goal.objects-object-one-requires
objects-object-one-requires t c = search (Chain-laws, rules)

pub objects-link-m-requires : goal.objects-link-m-requires
objects-link-m-requires t c = search (Chain-laws, rules)

pub objects-loop-preserved : goal.objects-loop-preserved
objects-loop-preserved t c = search (Chain-laws, rules)

pub objects-returns : goal.objects-returns
objects-returns t c = search (Chain-laws, rules)
