use Rattle.table.specs.Words.{put_node}
use Rattle.table.proofs.put_node.Goals as goal
use native.Mathlib.Numerals.{towards_suc}
use Rattle.table.specs.Words.{node_words}

pub returns : goal.returns
unfolding put_node node_words
returns c = simp towards_suc
