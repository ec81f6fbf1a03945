use Rattle.std.proofs.Common.{refl}
use Rattle.refusals.proofs.Handing.{handed_on}
use Rattle.image.proofs.Heads.{few-scopes, few-names, few_words, rest-fits, counted-scopes, counted-names}
use Rattle.summaries.proofs.OpenLaws.{open_long, open_head, open_root, root-tree, open_tree}
use Rattle.summaries.proofs.opening.open.Goals as goal

pub returns-then-image-gt-MOST_IMAGE : goal.returns-then-image-gt-MOST_IMAGE
returns-then-image-gt-MOST_IMAGE c = open_long _ c.if-image-gt-MOST_IMAGE.true

pub returns-in_err-h : goal.returns-in_err-h
returns-in_err-h c = rw (handed_on c.from_residual.ensures.1 refl) (open_head _ c.type_inv.image c.if-image-gt-MOST_IMAGE.false c.read_head.ensures c.in_err-h.was)

pub counts-counts-requires : goal.counts-counts-requires
counts-counts-requires c = few_words _ _ c.type_inv.image c.read_head.ensures c.in_ok-h.was

pub measure_tree_root-requires : goal.measure_tree_root-requires
measure_tree_root-requires c = (rest-fits _ _ c.type_inv.image c.read_head.ensures c.in_ok-h.was c.if-image-gt-MOST_IMAGE.false c.after-rest.ensures, counted-scopes _ c.counts-counts.ensures (few-scopes _ _ c.type_inv.image c.read_head.ensures c.in_ok-h.was), counted-names _ c.counts-counts.ensures (few-names _ _ c.type_inv.image c.read_head.ensures c.in_ok-h.was))

pub returns-in_err-measure_tree_root : goal.returns-in_err-measure_tree_root
returns-in_err-measure_tree_root c = rw (handed_on c.from_residual-in_err-measure_tree_root.ensures.1 refl) (open_root _ c.type_inv.image c.if-image-gt-MOST_IMAGE.false c.read_head.ensures c.in_ok-h.was c.after-rest.ensures c.counts-counts.ensures c.measure_tree_root.ensures c.in_err-measure_tree_root.was)

pub pass_over-span-requires-clause-image : goal.pass_over-span-requires-clause-image
pass_over-span-requires-clause-image c = (rest-fits _ _ c.type_inv.image c.read_head.ensures c.in_ok-h.was c.if-image-gt-MOST_IMAGE.false c.after-rest.ensures, counted-scopes _ c.counts-counts.ensures (few-scopes _ _ c.type_inv.image c.read_head.ensures c.in_ok-h.was))

pub pass_over-span-requires-clause-tree : goal.pass_over-span-requires-clause-tree
pass_over-span-requires-clause-tree c = root-tree _ c.type_inv.image c.if-image-gt-MOST_IMAGE.false c.read_head.ensures c.in_ok-h.was c.after-rest.ensures c.counts-counts.ensures c.measure_tree_root.ensures c.in_ok-measure_tree_root.was

pub returns : goal.returns
returns c = open_tree _ c.type_inv.image c.if-image-gt-MOST_IMAGE.false c.read_head.ensures c.in_ok-h.was c.after-rest.ensures c.counts-counts.ensures c.measure_tree_root.ensures c.in_ok-measure_tree_root.was c.pass_over-span.ensures
