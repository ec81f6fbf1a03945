use Rattle.head.proofs.read_after_kind.Goals as goal
use Rattle.refusals.proofs.Handing.{handed_on}
use Rattle.head.proofs.Reading.{count-stops, words_begin, words_stop, words-within, words-few, counts_go}

pub returns-in_err-words : goal.returns-in_err-words
returns-in_err-words c = handed_on c.from_residual.ensures.1 (count-stops _ _ c.requires.1 c.number_up_to.ensures c.in_err-words.was)

pub read_words-requires : goal.read_words-requires
read_words-requires c = words_begin _ _ c.requires.1 c.number_up_to.ensures c.in_ok-words.was c.requires.0

pub returns-in_err-behind : goal.returns-in_err-behind
returns-in_err-behind c = handed_on c.from_residual-in_err-behind.ensures.1 (words_stop _ _ c.requires.1 c.number_up_to.ensures c.in_ok-words.was c.read_words.ensures c.in_err-behind.was)

pub read_counts-requires : goal.read_counts-requires
read_counts-requires c =
    (c.requires.0, words-within _ _ c.requires.1 c.number_up_to.ensures c.in_ok-words.was c.read_words.ensures c.in_ok-behind.was, words-few _ _ c.requires.1 c.number_up_to.ensures c.in_ok-words.was c.read_words.ensures c.in_ok-behind.was)

pub returns : goal.returns
returns c = counts_go _ _ c.requires.1 c.number_up_to.ensures c.in_ok-words.was c.read_words.ensures c.in_ok-behind.was c.read_counts.ensures
