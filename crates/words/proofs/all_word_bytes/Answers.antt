use Rattle.std.proofs.Common.{rules, ◌≡◌, true, false}
use Rattle.std.proofs.lemmas.Iterator.{cases_from_all, YieldsList-from_slice}
use Rattle.model.specs.Reading.{word_byte}
use Rattle.words.proofs.all_word_bytes.Goals as goal
use Rattle.words.proofs.Bytes.{all_from_cases}

pub returns : goal.returns
returns c =
    all_from_cases c.args.w.now _ (cases_from_all _ _ _ (λ b. word_byte b ≡ true) (λ b. word_byte b ≡ false) c.all.ensures.ran (YieldsList-from_slice c.args.w.now cc) (λ x q k. search rules) (λ x q k. search rules))
