-- How an answer stands for a tree or a chain.
use Rattle.std.specs.Prelude.{List, ℕ, ◌≤◌}
use Rattle.model.specs.Trees.{Tree, Trees}
use Rattle.steps.specs.Agreement.{Shape}
use Rattle.steps.specs.declared.Out.{Out}
use Rattle.things.specs.Rep.{Rep, RepP}
use Rattle.store.specs.Sizes.{most_bindings}

pub record ShownTree (l : List ℕ) (o : Out) (t : Tree) : Type 0 where
  pub rep : Rep l o.state.top o.at t
  pub few : o.state.bindings ≤ most_bindings

pub record ShownChain (l : List ℕ) (o : Out) (ts : Trees) : Type 0 where
  pub rep : RepP l o.state.top o.at ts
  pub few : o.state.bindings ≤ most_bindings

abbrev pub trees : Shape Tree Out
trees = record { shows = λ l o t. ShownTree l o t; state = λ o. o.state }

abbrev pub chains : Shape Trees Out
chains = record { shows = λ l o ts. ShownChain l o ts; state = λ o. o.state }
