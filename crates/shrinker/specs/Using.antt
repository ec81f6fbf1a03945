-- What of a judged image is used: the bindings that are kept, marked, and the scopes that remain.
use Rattle.std.specs.Prelude.{ℕ, ◌≤◌, ◌≡◌, List, [], length, get_or}
use Rattle.model.specs.Scopes.{Scopes, no_scopes}
use Rattle.model.specs.Objects.{Stx}
use Rattle.model.specs.Resolving.{Bind}
use Rattle.model.specs.Reading.{Read, got, fault, Image, read_image, read_syntax}
use Rattle.shrinking.specs.Shrunk.{kept, remaining}
use Rattle.scopes.specs.Sets.{scopes_of}
use Rattle.store.specs.Sizes.{store_size}
use Rattle.head.specs.Fronts.{most_names}
use Rattle.image.specs.declared.Judgement.{Judgement}
use Rattle.image.specs.Judging.{syntax_kind, Good}
use Rattle.marking.specs.Kept.{kept_of}
use Rattle.marking.specs.declared.kept.Kept.{Kept}

unfoldable pub kept_read : Read (Image Stx) → List Bind
unfolding kept
kept_read (got i rest) = kept i.root i.binds
kept_read (fault r) = []

unfoldable pub remaining_read : Read (Image Stx) → Scopes
unfolding remaining
remaining_read (got i rest) = remaining i.binds i.root
remaining_read (fault r) = no_scopes

-- of an image's bytes
abbrev pub kept_in : List ℕ → List Bind
kept_in image = kept_read (read_image read_syntax image)

abbrev pub remaining_in : List ℕ → Scopes
remaining_in image = remaining_read (read_image read_syntax image)

-- judged without fault, with its bindings in the store
pub record Held (image store : List ℕ) (j : Judgement) : Type 0 where
  pub good : Good syntax_kind image store j
  pub long : store_size ≤ length store

-- no chain is begun and nothing is marked; there is a place for each binding
pub record Unused (image store : List ℕ) (j : Judgement) (lasts befores marks : List ℕ) : Type 0 where
  pub held : Held image store j
  pub symbols : most_names ≤ length lasts
  pub no-chain : (x : ℕ) → get_or lasts x 0 ≡ 0
  pub befores_long : length befores ≡ j.bindings
  pub marks-long : length marks ≡ j.bindings
  pub no_mark : (i : ℕ) → get_or marks i 0 ≡ 0

pub record Uses (image store marks marks' : List ℕ) (k : Kept) : Type 0 where
  pub long : length marks' ≡ length marks
  pub kept-are : kept_of marks' store ≡ kept_in image
  pub count-is : k.count ≡ length (kept_in image)
  pub few : k.count ≤ length marks
  pub scopes-are : scopes_of k.scopes ≡ remaining_in image
