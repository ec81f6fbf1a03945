-- Document 01's reading of bindings, over the counts that the code carries of a head.
use Rattle.std.specs.Prelude.{◌≡◌, List, [], ◌∷◌, ℕ, zero, suc, ◌-◌, ◌*◌, ◌<◌, get_or, Result}
use Rattle.model.specs.Limits.{most_bindings}
use Rattle.model.specs.Refusals.{layout, over_limit}
use Rattle.model.specs.Resolving.{Bind, bind_before}
use Rattle.model.specs.Reading.{Reader, ◌>>=◌, ◌>>◌, got, give, need, num_below, num_up_to, read_set}
use Rattle.numbers.specs.Answers.{place_at}
use Rattle.numbers.specs.declared.Cursor.{Cursor}
use Rattle.refusals.specs.declared.Refusal.{Refusal}
use Rattle.store.specs.Words.{binds_from, binds_of}
use Rattle.head.specs.declared.Counts.{Counts}
use Rattle.store.specs.Sizes.{binding_size}

unfoldable pub read_target : Counts → ℕ → Reader Bind
unfolding num_below read_set
read_target n x = do
  t ← num_below n.names
  s ← read_set n.scopes
  give (record { symb = x; target = t; set = s })

unfoldable pub read_one : Counts → Reader Bind
unfolding num_below read_target
read_one n = do
  x ← num_below n.symbols
  read_target n x

unfoldable pub read_more : Counts → ℕ → Bind → Reader (List Bind)
unfolding read_one bind_before
read_more n zero p = give []
read_more n (suc k) p = do
  b ← read_one n
  need layout (bind_before p b)
  r ← read_more n k b
  give (b ∷ r)

unfoldable pub read_some : Counts → ℕ → Reader (List Bind)
unfolding read_one read_more
read_some n zero = give []
read_some n (suc k) = do
  b ← read_one n
  r ← read_more n k b
  give (b ∷ r)

unfoldable pub read_all : Counts → Reader (List Bind)
unfolding num_up_to read_some most_bindings
read_all n = do
  k ← num_up_to over_limit most_bindings
  read_some n k

-- ---- what the code answers

-- the bindings from place i to place n have been read behind p
pub record MoreRead (c : Counts) (s : List ℕ) (end : ℕ) (p : Bind) (i n : ℕ) (was now : List ℕ) (r : Result Cursor Refusal) : Type 0 where
  pub kept : (k : ℕ) → k < i * binding_size → get_or now k 0 ≡ get_or was k 0
  pub place : r ≡ place_at end (read_more c (n - i) p s)
  pub held : (b : List Bind) (rest : List ℕ) → read_more c (n - i) p s ≡ got b rest → binds_from now i (n - i) ≡ b

pub record SomeRead (c : Counts) (s : List ℕ) (end n : ℕ) (now : List ℕ) (r : Result Cursor Refusal) : Type 0 where
  pub place : r ≡ place_at end (read_some c n s)
  pub held : (b : List Bind) (rest : List ℕ) → read_some c n s ≡ got b rest → binds_of now n ≡ b
