-- The prunable set and the use scopes, which lie behind the bindings.
use mathlib.Core.Path.{◌≡◌, ◌∙◌}
use mathlib.Core.List.{List}
use Prim.Native.Nat.{ℕ, ◌+◌, ◌*◌, ◌<◌}
use native.Mathlib.Omega.{arith}
use Rattle.model.specs.Scopes.{Scopes}
use Rattle.model.specs.Resolving.{Bind}
use Rattle.scopes.specs.Sets.{words_from, set_words}
use Rattle.scopes.proofs.Words.{words_same}
use Rattle.store.specs.Sizes.{binding_size, most_bindings, store_size}
use Rattle.store.specs.Words.{binds_of, prunable_of, uses_of, Inserts, SetPut, Carries}
use Rattle.store.proofs.Runs.{same-bind, same-run}

-- a binding more leaves both
pub prunable-kept : {b : Bind} {n : ℕ} {was now : List ℕ} → Inserts b n was now → n < most_bindings → prunable_of now ≡ prunable_of was
unfolding prunable_of
prunable-kept {n = n} {was} {now} w h = words_same 64 set_words now was store_size store_size (λ k p. w.kept (store_size + k) (omega arith))

pub uses-kept : {b : Bind} {n : ℕ} {was now : List ℕ} → Inserts b n was now → n < most_bindings → uses_of now ≡ uses_of was
unfolding uses_of
uses-kept {n = n} {was} {now} w h = words_same 64 set_words now was (store_size + set_words) (store_size + set_words) (λ k p. w.kept (store_size + set_words + k) (omega arith))

pub both-got : {p u : Scopes} (l : List ℕ) → p ≡ words_from 64 set_words l store_size → u ≡ words_from 64 set_words l (store_size + set_words) → (p ≡ prunable_of l) × (u ≡ uses_of l)
unfolding prunable_of uses_of
both-got l e f = (e, f)

module _ {p u : Scopes} {was mid now : List ℕ} (a : SetPut p was mid store_size) (b : SetPut u mid now (store_size + set_words)) where
  pub both_put : Carries p u was now
  unfolding prunable_of uses_of binds_of
  both_put = record {
    prunable = words_same 64 set_words now mid store_size store_size (λ k g. b.before (store_size + k) (omega arith)) ∙ a.there;
    uses = b.there;
    same = λ n g. same-run now was 0 0 n (λ k h. same-bind now was (0 + k) (0 + k) (λ j q. b.before ((0 + k) * binding_size + j) (omega arith) ∙ a.before ((0 + k) * binding_size + j) (omega arith)));
  }
