-- Sizes of chains: as trees, where a syntax value is 1, and as syntax objects, where what is no syntax value counts nothing.
use Rattle.std.specs.Prelude.{ℕ, ◌+◌}
use Rattle.model.specs.Objects.{size}
use Rattle.model.specs.Trees.{Tree, Trees, var, app, fun, datum, lst, stx, tnil, tcons, tsizes_by}

abbrev pub tsizes : Trees → ℕ
tsizes ts = tsizes_by (λ s. 1) ts

unfoldable pub weight : Tree → ℕ
unfolding size
weight (var n) = 0
weight (app h l) = 0
weight (fun n b) = 0
weight (datum a) = 0
weight (lst l) = 0
weight (stx s) = size s

unfoldable pub weights : Trees → ℕ
unfolding weight
weights tnil = 0
weights (tcons t ts) = weight t + weights ts
