use Rattle.std.proofs.Common.{rules, subst, sym}
use Rattle.text_reader.proofs.ItemLaws.{item_laws, item_end}
use Rattle.text_reader.specs.Items.{ItemIs}
use Rattle.text_reader.proofs.items.read_item.Goals as goal

pub returns-in_err-token : goal.returns-in_err-token
returns-in_err-token c = subst (ItemIs c.args.words.text.now c.args.words.spans.now c.args.words.count c.args.at) (sym c.from_residual.ensures) (item_end c.requires c.read_next.ensures c.in_err-token.was)

pub returns-then-n-gt-MOST_PARTS : goal.returns-then-n-gt-MOST_PARTS
returns-then-n-gt-MOST_PARTS c = search (item_laws, rules, c.in_ok-token.was)

pub returns-else-n-gt-MOST_PARTS : goal.returns-else-n-gt-MOST_PARTS
returns-else-n-gt-MOST_PARTS c = search (item_laws, rules, c.in_ok-token.was)

pub returns-in-Close : goal.returns-in-Close
returns-in-Close c = search (item_laws, rules, c.in_ok-token.was)

pub returns-in-Bad : goal.returns-in-Bad
returns-in-Bad c = search (item_laws, rules, c.in_ok-token.was)

pub returns-in-Word : goal.returns-in-Word
returns-in-Word c = search (item_laws, rules, c.in_ok-token.was)

pub returns-in-Atom : goal.returns-in-Atom
returns-in-Atom c = search (item_laws, rules, c.in_ok-token.was)

pub returns-in-Over : goal.returns-in-Over
returns-in-Over c = search (item_laws, rules, c.in_ok-token.was)
