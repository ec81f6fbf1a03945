use Rattle.answer_line.proofs.Calls.{summary-laid}
use Rattle.std.proofs.Common.{arith, rules}
use Rattle.replay.proofs.as_words.summary.Goals as goal

pub returns : goal.returns
returns c =
    summary-laid _ _ _ (search rules) c.fill_words.ensures c.fill_bytes.ensures c.meirhuppa_summary-a.ensures (omega arith) c.put_words.ensures
