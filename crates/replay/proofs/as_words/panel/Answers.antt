use Rattle.answer_line.proofs.Calls.{panel-laid}
use Rattle.std.proofs.Common.{arith, rules}
use Rattle.replay.proofs.as_words.panel.Goals as goal

pub returns : goal.returns
returns c =
    panel-laid _ _ _ (search rules) c.fill_words.ensures c.fill_bytes.ensures c.meirhuppa_panel-a.ensures (omega arith) c.put_words.ensures
