use Rattle.std.proofs.Common.{rules, refl, ap, map, length}
use borrow.Author.Tests.{tests}
use Rattle.std.proofs.lemmas.Iterator.{YieldsList-from_slice}
use Rattle.std.proofs.lemmas.Iterator.Search.{position_from_yields_List}
use Rattle.model.specs.Reading.{same_bytes, core_words}
use Rattle.tokens.proofs.Names.{place_found}
use Rattle.text_reader.proofs.found.core_place.Goals as goal

pub returns : goal.returns
unfolding core_words
returns c =
    place_found c.args.w.now core_words 4 c.iter.result.rest.now (ap (map (λ v. v.now)) c.iter.ensures.rest) (ap length c.iter.ensures.rest)
    (position_from_yields_List (λ v. same_bytes c.args.w.now v.now) _ _ _ c.position.ensures.ran (YieldsList-from_slice c.iter.result.rest.now refl) (λ x b q k. search (rules, tests)))
