-- Document 01, 'The image': writing an image.
use Rattle.std.specs.Prelude.{ℕ, zero, suc, ◌+◌, ◌-◌, ◌/◌, ◌%◌, List, [], ◌∷◌, ◌++◌, ltb, length}
use Rattle.model.specs.Choice.{when◌then◌else◌}
use Rattle.model.specs.Limits.{core_names}
use Rattle.model.specs.Scopes.{Scopes, members}
use Rattle.model.specs.Objects.{tag_of, content_of, Sets, Stx, atom, list, Stxs, nil, cons, count}
use Rattle.model.specs.Trees.{Tree, var, app, fun, datum, lst, stx, Trees, tnil, tcons, tcount}
use Rattle.model.specs.Resolving.{Bind}
use Rattle.model.specs.Reading.{Head}

-- groups of seven bits, low group first, top bit set on all but the last; at most k groups before the last
-- (no number of 32 bits has more than four)
unfoldable pub groups_of : ℕ → ℕ → List ℕ
groups_of zero n = n ∷ []
groups_of (suc k) n = when ltb n 128 then n ∷ [] else (n % 128 + 128) ∷ groups_of k (n / 128)

unfoldable pub num_bytes : ℕ → List ℕ
unfolding groups_of
num_bytes n = groups_of 4 n

unfoldable pub nums_bytes : List ℕ → List ℕ
unfolding num_bytes
nums_bytes [] = []
nums_bytes (n ∷ l) = num_bytes n ++ nums_bytes l

unfoldable pub list_bytes : List ℕ → List ℕ
unfolding num_bytes nums_bytes
list_bytes l = num_bytes (length l) ++ nums_bytes l

unfoldable pub set_bytes : Scopes → List ℕ
unfolding list_bytes members
set_bytes m = list_bytes (members m)

unfoldable pub sets_bytes : Sets → List ℕ
unfolding set_bytes
sets_bytes c = set_bytes c.at0 ++ set_bytes c.at1 ++ set_bytes c.at2

unfoldable mutual
  unfolding num_bytes sets_bytes tag_of content_of count

  pub stx_bytes : Stx → List ℕ
  stx_bytes (atom c a) = num_bytes (tag_of a) ++ sets_bytes c ++ num_bytes (content_of a)
  stx_bytes (list c l) = num_bytes 5 ++ sets_bytes c ++ num_bytes (count l) ++ stxs_bytes l

  pub stxs_bytes : Stxs → List ℕ
  stxs_bytes nil = []
  stxs_bytes (cons s l) = stx_bytes s ++ stxs_bytes l

unfoldable mutual
  unfolding num_bytes stx_bytes tag_of content_of tcount

  pub tree_bytes : Tree → List ℕ
  tree_bytes (var n) = num_bytes 0 ++ num_bytes n
  tree_bytes (app h l) = num_bytes 1 ++ num_bytes (suc (tcount l)) ++ tree_bytes h ++ trees_bytes l
  tree_bytes (fun n b) = num_bytes 2 ++ num_bytes n ++ tree_bytes b
  tree_bytes (datum a) = num_bytes 3 ++ num_bytes (tag_of a) ++ num_bytes (content_of a)
  tree_bytes (lst l) = num_bytes 4 ++ num_bytes (tcount l) ++ trees_bytes l
  tree_bytes (stx s) = num_bytes 5 ++ stx_bytes s

  pub trees_bytes : Trees → List ℕ
  trees_bytes tnil = []
  trees_bytes (tcons t l) = tree_bytes t ++ trees_bytes l

unfoldable pub words_bytes : List (List ℕ) → List ℕ
unfolding num_bytes
words_bytes [] = []
words_bytes (w ∷ l) = num_bytes (length w) ++ w ++ words_bytes l

unfoldable pub bind_bytes : Bind → List ℕ
unfolding num_bytes set_bytes
bind_bytes b = num_bytes b.symb ++ num_bytes b.target ++ set_bytes b.set

unfoldable pub binds_bytes : List Bind → List ℕ
unfolding bind_bytes
binds_bytes [] = []
binds_bytes (b ∷ l) = bind_bytes b ++ binds_bytes l

unfoldable pub head_bytes : ℕ → Head → List ℕ
unfolding num_bytes words_bytes core_names
head_bytes kind h =
    num_bytes kind ++ num_bytes (length h.words) ++ words_bytes h.words
    ++ num_bytes (h.names - core_names - length h.words) ++ num_bytes h.scopes

-- kind 1
unfoldable pub syntax_bytes : Head → List Bind → Stx → List ℕ
unfolding head_bytes num_bytes binds_bytes stx_bytes
syntax_bytes h bs r = head_bytes 1 h ++ num_bytes (length bs) ++ binds_bytes bs ++ stx_bytes r

-- kind 2
unfoldable pub tree_image_bytes : Head → Tree → List ℕ
unfolding head_bytes tree_bytes
tree_image_bytes h r = head_bytes 2 h ++ tree_bytes r
