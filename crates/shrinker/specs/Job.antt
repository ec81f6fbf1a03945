-- The job of making an image smaller. There is room for any image in `scratch`.
use Rattle.std.specs.Prelude.{ℕ, ◌≤◌, ◌≡◌, List, length}
use Rattle.model.specs.Jobs.{fitted}
use Rattle.shrinking.specs.Shrunk.{smaller, shrink_ending}
use Rattle.numbers.specs.Limits.{most_image}
use Rattle.text.specs.Placing.{Placed}
use Rattle.image.specs.declared.Judgement.{Judgement}
use Rattle.finish.specs.declared.Ending.{Ending}
use Rattle.finish.specs.Ends.{EndsAs}
use Rattle.ranking.specs.Ranks.{Ranked}
use Rattle.marking.specs.declared.kept.Kept.{Kept}
use Rattle.shrinker.specs.Using.{remaining_in, Held, Unused, Uses}

pub record Roomy (image store : List ℕ) (j : Judgement) (scratch : List ℕ) : Type 0 where
  pub held : Held image store j
  pub room : most_image ≤ length scratch

pub record Begun (image store : List ℕ) (j : Judgement) (lasts befores marks scratch : List ℕ) : Type 0 where
  pub unused : Unused image store j lasts befores marks
  pub room : most_image ≤ length scratch

-- what is used is known
pub record Writable (image store : List ℕ) (j : Judgement) (marks : List ℕ) (k : Kept) (ranks scratch : List ℕ) : Type 0 where
  pub held : Held image store j
  pub unmarked : List ℕ
  pub marks-long : length unmarked ≡ j.bindings
  pub uses : Uses image store unmarked marks k
  pub ranked : Ranked (remaining_in image) ranks
  pub room : most_image ≤ length scratch

-- the smaller image stands at the start
pub record Makes (image scratch scratch' : List ℕ) (r : ℕ) : Type 0 where
  pub placed : Placed scratch 0 (smaller image) scratch' r
  pub short : r ≤ most_image

abbrev pub Shrinks : List ℕ → List ℕ → List ℕ → Ending → Type 0
Shrinks image out out' r = EndsAs (shrink_ending image (length out)) out out' r

abbrev pub Fits : List ℕ → List ℕ → List ℕ → Ending → Type 0
Fits bytes out out' r = EndsAs (fitted (length out) bytes 0) out out' r
