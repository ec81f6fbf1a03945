use Rattle.std.proofs.Common.{◌≡◌, refl, rules}
use Rattle.std.specs.Prelude.{Err}
use Rattle.refusals.proofs.Handing.{handed_on}
use Rattle.summaries.specs.declared.refusal.UsesRefusal.TheVariants.{Base}
use Rattle.replacing.proofs.ReplaceLaws.{replace_in_laws, in_fault, in_ready}
use Rattle.replacing.proofs.replace_in.Goals as goal

pub locate-spot-requires-clause-tree : goal.locate-spot-requires-clause-tree
locate-spot-requires-clause-tree c = search (replace_in_laws, rules)

pub returns-then-part-gt-MOST_IMAGE : goal.returns-then-part-gt-MOST_IMAGE
returns-then-part-gt-MOST_IMAGE c = search (replace_in_laws, rules)

pub returns-in_err-measure_whole_tree : goal.returns-in_err-measure_whole_tree
returns-in_err-measure_whole_tree c = let e : c.from_residual.result ≡ Err (Base c.in_err-measure_whole_tree.field-0.0) = handed_on c.from_residual.ensures.1 refl in rw e (in_fault _ _ _ _ _ c.requires c.type_inv.part c.if-part-gt-MOST_IMAGE.false c.after.ensures c.locate-spot.ensures c.measure_whole_tree.ensures c.in_err-measure_whole_tree.was)

pub put_part-requires : goal.put_part-requires
put_part-requires c = in_ready _ _ _ c.args.out.now _ c.requires c.type_inv.part c.if-part-gt-MOST_IMAGE.false c.after.ensures c.locate-spot.ensures c.measure_whole_tree.ensures c.in_ok-measure_whole_tree.was
