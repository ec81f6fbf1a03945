use Rattle.std.proofs.Common.{rules}
use Rattle.text_reader.proofs.FoundLaws.{note_laws}
use Rattle.text_reader.proofs.found.note.Goals as goal

pub returns-then-known-count : goal.returns-then-known-count
returns-then-known-count c = search (note_laws, rules)

pub returns-then-count-ge-MOST_WORDS : goal.returns-then-count-ge-MOST_WORDS
returns-then-count-ge-MOST_WORDS c = search (note_laws, rules)

pub returns : goal.returns
returns c = search (note_laws, rules)
