-- What the words of a store stand for.
use Rattle.std.specs.Prelude.{◌≡◌, List, [], ◌∷◌, ◌++◌, ℕ, zero, suc, ◌+◌, ◌-◌, ◌*◌, ◌%◌, ◌≤◌, ◌<◌, get_or, length}
use Rattle.model.specs.Scopes.{Scopes}
use Rattle.model.specs.Resolving.{Bind, insert}
use Rattle.scopes.specs.Sets.{scopes_of, words_from, word_digits, set_words}
use Rattle.store.specs.declared.bindings.Binding.{Binding}
use Rattle.store.specs.Sizes.{binding_size, most_bindings, store_size}

abbrev pub bind_of : Binding → Bind
bind_of b = record { symb = b.symbol.0; target = b.target.0; set = scopes_of b.set }

-- the binding at place i: symbol and target are numbers of 32 bits
unfoldable pub bind_at : List ℕ → ℕ → Bind
bind_at l i = record {
  symb = get_or l (i * binding_size) 0 % 4294967296;
  target = get_or l (i * binding_size + 1) 0 % 4294967296;
  set = words_from word_digits set_words l (i * binding_size + 2);
}

-- n bindings from place i on
unfoldable pub binds_from : List ℕ → ℕ → ℕ → List Bind
unfolding bind_at
binds_from l i zero = []
binds_from l i (suc n) = bind_at l i ∷ binds_from l (suc i) n

-- the first n bindings of the store l
unfoldable pub binds_of : List ℕ → ℕ → List Bind
unfolding binds_from
binds_of l n = binds_from l 0 n

-- the prunable set of the store l, behind the bindings
unfoldable pub prunable_of : List ℕ → Scopes
prunable_of l = words_from word_digits set_words l store_size

-- its use scopes, behind that
unfoldable pub uses_of : List ℕ → Scopes
uses_of l = words_from word_digits set_words l (store_size + set_words)

-- b is put at place i, and the other words stay
pub record Put (b : Bind) (was now : List ℕ) (i : ℕ) : Type 0 where
  pub long : length now ≡ length was
  pub before : (k : ℕ) → k < i * binding_size → get_or now k 0 ≡ get_or was k 0
  pub after : (k : ℕ) → i * binding_size + binding_size ≤ k → get_or now k 0 ≡ get_or was k 0
  pub there : bind_at now i ≡ b

-- place i is that of b among the first n
pub record Placed (b : Bind) (l : List ℕ) (n i : ℕ) : Type 0 where
  pub inside : i ≤ n
  pub there : insert b (binds_of l n) ≡ binds_from l 0 i ++ b ∷ binds_from l i (n - i)

-- the words from lo to hi stand one binding further on, the ones before and the ones behind are as they were
pub record Shifted (lo hi : ℕ) (was now : List ℕ) : Type 0 where
  pub kept : (k : ℕ) → k < lo → get_or now k 0 ≡ get_or was k 0
  pub moved : (k : ℕ) → lo ≤ k → k < hi → get_or now (k + binding_size) 0 ≡ get_or was k 0
  pub after : (k : ℕ) → hi + binding_size ≤ k → get_or now k 0 ≡ get_or was k 0

-- b is put in its place among the first n, and the words behind the one more stay
pub record Inserts (b : Bind) (n : ℕ) (was now : List ℕ) : Type 0 where
  pub binds : binds_of now (n + 1) ≡ insert b (binds_of was n)
  pub kept : (k : ℕ) → n * binding_size + binding_size ≤ k → get_or now k 0 ≡ get_or was k 0

-- the set s is put at place a, and the other words stay
pub record SetPut (s : Scopes) (was now : List ℕ) (a : ℕ) : Type 0 where
  pub before : (k : ℕ) → k < a → get_or now k 0 ≡ get_or was k 0
  pub after : (k : ℕ) → a + set_words ≤ k → get_or now k 0 ≡ get_or was k 0
  pub there : words_from word_digits set_words now a ≡ s

-- the prunable set is p, the use scopes are u, and the bindings stay
pub record Carries (p u : Scopes) (was now : List ℕ) : Type 0 where
  pub prunable : prunable_of now ≡ p
  pub uses : uses_of now ≡ u
  pub same : (n : ℕ) → n ≤ most_bindings → binds_of now n ≡ binds_of was n
