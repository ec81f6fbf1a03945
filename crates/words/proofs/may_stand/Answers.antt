use Rattle.std.proofs.Common.{sym, ◌∙◌}
use Rattle.words.proofs.may_stand.Goals as goal
use Rattle.words.proofs.Section.{stand_bad, stand_core, stand-other}
use Rattle.words.proofs.may_stand.Goals.{then-good_word, else-good_word}

pub returns-then-not-is_core : goal.returns-then-not-is_core
returns-then-not-is_core c =
    elim c.if-good_word.branch [ then-good_word w ↦ stand-other _ _ _ c.good_word.ensures w.if-good_word.true w.is_core.ensures (sym w.value-is ∙ c.if-not-is_core.true) c.is_old.ensures | else-good_word w ↦ absurd (cc) ]

pub returns-else-not-is_core : goal.returns-else-not-is_core
returns-else-not-is_core c =
    rw c.if-not-is_core.false (elim c.if-good_word.branch [ then-good_word w ↦ stand_core _ _ _ c.good_word.ensures w.if-good_word.true w.is_core.ensures (sym w.value-is ∙ c.if-not-is_core.false) | else-good_word w ↦ stand_bad _ _ _ c.good_word.ensures w.if-good_word.false ])
