-- Document 02, T-12: numbering must not matter. What it is to renumber an image, and the statement, `NumberingDoesNotMatter`; the theorem is
-- `numbering_does_not_matter` (proofs/Numbering).
use Rattle.std.specs.Prelude.{ℕ, ◌≤◌, ◌≡◌, ◌&&◌, List, [], ◌∷◌, leb, length}
use Rattle.model.specs.Choice.{when◌then◌else◌}
use Rattle.model.specs.Limits.{most_image}
use Rattle.model.specs.Scopes.{Scope}
use Rattle.model.specs.Objects.{Stx}
use Rattle.model.specs.Resolving.{Bind, insert}
use Rattle.model.specs.Reading.{Read, got, fault, Image, read_syntax, read_image}
use Rattle.model.specs.Writing.{syntax_bytes}
use Rattle.model.specs.Jobs.{Result, expand_job}
use Rattle.codec_laws.specs.WellFormed.{Bytes}
use Rattle.alike.specs.Renumbering.{renumber_stx, renumber_bind, SameBut}

-- ---- a rule

-- one-to-one on 1 to n. That every number of 1 to n is given follows, and is not asked for
pub record NumberingRule (n : ℕ) (f : Scope → Scope) : Type 0 where
  pub from_one : (k : Scope) → 1 ≤ k → k ≤ n → 1 ≤ f k
  pub up_to_lem : (k : Scope) → 1 ≤ k → k ≤ n → f k ≤ n
  pub one_to_one : (j k : Scope) → 1 ≤ j → j ≤ n → 1 ≤ k → k ≤ n → f j ≡ f k → j ≡ k

-- fresh scopes, all past n, are left as they are
unfoldable pub extended : ℕ → (Scope → Scope) → Scope → Scope
extended n f k = when leb 1 k && leb k n then f k else k

-- ---- an image: the sets of every object and binding, and then the bindings in order

unfoldable pub renumber_binds : (Scope → Scope) → List Bind → List Bind
unfolding insert renumber_bind
renumber_binds f [] = []
renumber_binds f (b ∷ l) = insert (renumber_bind f b) (renumber_binds f l)

unfoldable pub renumber_image : (Scope → Scope) → Image Stx → Image Stx
unfolding renumber_binds renumber_stx
renumber_image f i = record { head = i.head; binds = renumber_binds f i.binds; root = renumber_stx f i.root }

-- from bytes to bytes
unfoldable pub written_again : (Scope → Scope) → Read (Image Stx) → List ℕ
unfolding renumber_image syntax_bytes
written_again f (got i rest) = syntax_bytes (renumber_image f i).head (renumber_image f i).binds (renumber_image f i).root
written_again f (fault r) = []

unfoldable pub renumbered : (Scope → Scope) → List ℕ → List ℕ
unfolding written_again read_image read_syntax
renumbered f image = written_again f (read_image read_syntax image)

-- ---- the statement

-- Enough output, and a result within 65,536 bytes: the expand job answers 20 exactly where one of the two is not so.
abbrev pub EnoughOutput : Result → Type 0
EnoughOutput r = r.answer.code ≡ 20 → ⊥

-- by the rule f on the scopes of the image i, fresh scopes left as they are
abbrev pub renumbered_by : (Scope → Scope) → Image Stx → List ℕ → List ℕ
renumbered_by f i image = renumbered (extended i.head.scopes f) image

-- Of a well-formed image and any one-to-one rule on its scopes 1 to n: the image and the image renumbered, expanded with the same phase, budget and
-- table and enough output for either, agree in code, units and table, and their results are one the other under the same renumbering.
abbrev pub NumberingDoesNotMatter : Type 0
NumberingDoesNotMatter =
    (image rest : List ℕ) (i : Image Stx) → Bytes image → read_image read_syntax image ≡ got i rest
    → (f : Scope → Scope) → NumberingRule i.head.scopes f → length (renumbered_by f i image) ≤ most_image
    → (ph budget : ℕ) (table one two : List ℕ)
    → EnoughOutput (expand_job image ph budget table one) → EnoughOutput (expand_job (renumbered_by f i image) ph budget table two)
    → SameBut (renumbered_by f i) (expand_job image ph budget table one) (expand_job (renumbered_by f i image) ph budget table two)
