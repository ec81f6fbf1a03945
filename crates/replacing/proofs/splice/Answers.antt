use Rattle.numbers.proofs.Reading.{part-from}
use Rattle.replacing.proofs.BringLaws.{splice_placed}
use Rattle.std.proofs.Common.{rules}
use Rattle.replacing.proofs.splice.Goals as goal

pub returns : goal.returns
returns c = let far = c.requires in splice_placed _ _ _ _ _ far.0 far.1 far.2 (search rules) (search (part-from)) c.put_text.ensures c.put_text-2.ensures c.put_text-3.ensures
