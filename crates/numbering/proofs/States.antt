-- States alike, and every step that changes one. Past the n scopes of the image the new numbers are the old ones.
use mathlib.Core.Path.{◌≡◌, refl, ap}
use Prim.Native.Nat.{ℕ, ◌+◌, ◌≤◌, ◌<◌}
use native.Mathlib.Omega.{arith}
use mathlib.Core.Bool.{Bool, true, false, true≢false, false≢true}
use mathlib.Core.List.{List}
use lib.Dec.{ltb}
use lib.ListN.{length}
use Rattle.model.specs.Choice.{when◌then◌else◌}
use Rattle.model.specs.Limits.{most_names, most_scopes, most_bindings}
use Rattle.model.specs.Refusals.{no_name_left, no_scope_left, no_binding_left}
use Rattle.model.specs.Scopes.{Scopes, no_scopes, add, flip, prune}
use Rattle.model.specs.Objects.{Sets, set_at, change_at, Stx, Stxs, size, on_sets, on_sets_all, add_scope, flip_scope, prune_scopes}
use Rattle.model.specs.Resolving.{Bind, insert, resolve}
use Rattle.model.specs.Competing.{no_rivals}
use Rattle.model.specs.Steps.{State, Out, ok, no, Step, after, add_to, flip_in, prune_from, fresh_name, fresh_scope, prunable_now, uses_now, carrying, use_scope, inside, bind, resolve_at}
use Rattle.model.specs.Expanding.{Binder, bind_fresh}
use Rattle.laws.proofs.StepLaws.{spend}
use Rattle.alike.proofs.Alike.{NewNumbers, SetAlike, SetsAlike, BindAlike, StxAlike, atoms, lists, StxsAlike, nils, conses, Same, same}
use Rattle.alike.proofs.SetLaws.{none_alike, add_alike, flip_alike, prune_alike, set_at_alike, change_at_alike}
use Rattle.alike.proofs.Stores.{StoreAlike, insert_alike, resolve_alike}
use Rattle.alike.proofs.Things.{size_alike}
use Rattle.alike.proofs.Runs.{Pairing, OutAlike, oks, nos, StepAlike, after_alike, then_alike, then_same, done_alike, charge_alike, charged_alike, resolve_at_agree}
use Rattle.numbering.proofs.Meanings.{ScopeAlike, scopes, BinderAlike, binders}

-- new numbers that leave every scope past the n-th as it is
pub record Renumbering : Type 0 where
  pub map : NewNumbers
  pub up_to : ℕ
  pub fixed : (k : ℕ) → up_to < k → map.to k ≡ k

-- the same units left, the same names and scopes reached, at least n; and bindings, the prunable set and the use scopes alike
pub data StateAlike (ρ : NewNumbers) (n : ℕ) : State → State → Type 0 where
  states : {left names reached : ℕ} {l r : List Bind} {p o u v : Scopes} → n ≤ reached → StoreAlike ρ l r → SetAlike ρ p o → SetAlike ρ u v
      → StateAlike ρ n (record { left = left; names = names; scopes = reached; binds = l; prunable = p; uses = u })
      (record { left = left; names = names; scopes = reached; binds = r; prunable = o; uses = v })

pub left-same : (ρ : NewNumbers) (n : ℕ) (s t : State) → StateAlike ρ n s t → s.left ≡ t.left
left-same ρ n s t (states b h i j) = refl

pub spent_alike : (ρ : NewNumbers) (n k : ℕ) (s t : State) → StateAlike ρ n s t → StateAlike ρ n (spend k s) (spend k t)
unfolding spend
spent_alike ρ n k s t (states b h i j) = states b h i j

unfoldable pub pairing : Renumbering → Pairing
pairing q = record { rel = StateAlike q.map q.up_to; left_is = left-same q.map q.up_to; spent = spent_alike q.map q.up_to }

module _ (q : Renumbering) where
  abbrev ρ : NewNumbers
  ρ = q.map

  abbrev W : Pairing
  W = pairing q

  -- ---- a fresh scope, and a binder, for what follows

  pub then_scope : {B : Type 0} {S : B → B → Type 0} {m n : Step ℕ} (f g : ℕ → Step B) → StepAlike W (ScopeAlike ρ) m n
      → ((k : ℕ) → ρ.to k ≡ k → StepAlike W S (f k) (g k)) → StepAlike W S (λ s. after (m s) f) (λ s. after (n s) g)
  then_scope {B} {S} f g h k = then_alike f g h go
    where
      go : (a b : ℕ) → ScopeAlike ρ a b → StepAlike W S (f a) (g b)
      go a b (scopes {k = j} e) = k j e

  pub then_binder : {B : Type 0} {S : B → B → Type 0} {m n : Step Binder} (f g : Binder → Step B) → StepAlike W (BinderAlike ρ) m n
      → ((x k : ℕ) (c d : Sets) → ρ.to k ≡ k → SetsAlike ρ c d
      → StepAlike W S (f (record { name = x; scope = k; sets = c })) (g (record { name = x; scope = k; sets = d })))
      → StepAlike W S (λ s. after (m s) f) (λ s. after (n s) g)
  then_binder {B} {S} f g h k = then_alike f g h go
    where
      go : (a b : Binder) → BinderAlike ρ a b → StepAlike W S (f a) (g b)
      go a b (binders {n} {k = j} {c} {d} e i) = k n j c d e i

  -- ---- scopes of a piece

  module _ (f g : Scopes → Scopes) (k : (a b : Scopes) → SetAlike ρ a b → SetAlike ρ (f a) (g b)) (ph : ℕ) where
    mutual
      unfolding on_sets

      changed_alike : {x y : Stx} → StxAlike ρ x y → StxAlike ρ (on_sets (change_at f ph) x) (on_sets (change_at g ph) y)
      changed_alike (atoms a h) = atoms a (change_at_alike ρ f g k ph _ _ h)
      changed_alike (lists h i) = lists (change_at_alike ρ f g k ph _ _ h) (all_changed_alike i)

      all_changed_alike : {l r : Stxs} → StxsAlike ρ l r → StxsAlike ρ (on_sets_all (change_at f ph) l) (on_sets_all (change_at g ph) r)
      all_changed_alike nils = nils
      all_changed_alike (conses h i) = conses (changed_alike h) (all_changed_alike i)

  pub add_to_alike : (k ph : ℕ) → ρ.to k ≡ k → (x y : Stx) → StxAlike ρ x y → StepAlike W (StxAlike ρ) (add_to k ph x) (add_to k ph y)
  unfolding add_to add_scope
  add_to_alike k ph f x y h =
      charged_alike (size x) (size y) (add_scope k ph x) (add_scope k ph y) (size_alike ρ h) (changed_alike (add k) (add k) (add_alike ρ k f) ph h)

  pub flip_in_alike : (k ph : ℕ) → ρ.to k ≡ k → (x y : Stx) → StxAlike ρ x y → StepAlike W (StxAlike ρ) (flip_in k ph x) (flip_in k ph y)
  unfolding flip_in flip_scope
  flip_in_alike k ph f x y h =
      charged_alike (size x) (size y) (flip_scope k ph x) (flip_scope k ph y) (size_alike ρ h) (changed_alike (flip k) (flip k) (flip_alike ρ k f) ph h)

  pub prune_from_alike : (a b : Scopes) → SetAlike ρ a b → (ph : ℕ) (x y : Stx) → StxAlike ρ x y
      → StepAlike W (StxAlike ρ) (prune_from a ph x) (prune_from b ph y)
  unfolding prune_from prune_scopes
  prune_from_alike a b i ph x y h =
      charged_alike (size x) (size y) (prune_scopes a ph x) (prune_scopes b ph y) (size_alike ρ h)
      (changed_alike (prune a) (prune b) (prune_alike ρ a b i) ph h)

  -- ---- the next name and the next scope

  pub fresh_name_alike : StepAlike W (Same {A = ℕ}) fresh_name fresh_name
  unfolding fresh_name pairing
  fresh_name_alike = record { run = go }
    where
      go : (s t : State) → StateAlike ρ q.up_to s t → OutAlike W (Same {A = ℕ}) (fresh_name s) (fresh_name t)
      go s t (states {left} {names} {reached} {l} {r} {p} {o} {u} {v} b h i j) = test (ltb names most_names)
        where
          named : List Bind → Scopes → Scopes → Bool → Out ℕ
          named z a c x =
              when x
              then ok names (record { left = left; names = names + 1; scopes = reached; binds = z; prunable = a; uses = c })
              else no no_name_left no_rivals left

          test : (x : Bool) → OutAlike W (Same {A = ℕ}) (named l p u x) (named r o v x)
          test true = oks same (states b h i j)
          test false = nos

  pub fresh_scope_alike : StepAlike W (ScopeAlike ρ) fresh_scope fresh_scope
  unfolding fresh_scope pairing
  fresh_scope_alike = record { run = go }
    where
      go : (s t : State) → StateAlike ρ q.up_to s t → OutAlike W (ScopeAlike ρ) (fresh_scope s) (fresh_scope t)
      go s t (states {left} {names} {reached} {l} {r} {p} {o} {u} {v} b h i j) = test (ltb reached most_scopes)
        where
          scoped : List Bind → Scopes → Scopes → Bool → Out ℕ
          scoped z a c x =
              when x
              then ok (reached + 1) (record { left = left; names = names; scopes = reached + 1; binds = z; prunable = a; uses = c })
              else no no_scope_left no_rivals left

          test : (x : Bool) → OutAlike W (ScopeAlike ρ) (scoped l p u x) (scoped r o v x)
          test true = oks (scopes (q.fixed (reached + 1) (omega arith))) (states {reached = reached + 1} (omega arith) h i j)
          test false = nos

  -- ---- the prunable set and the use scopes of the expansion in progress

  pub prunable_now_alike : StepAlike W (SetAlike ρ) prunable_now prunable_now
  unfolding prunable_now pairing
  prunable_now_alike = record { run = go }
    where
      go : (s t : State) → StateAlike ρ q.up_to s t → OutAlike W (SetAlike ρ) (prunable_now s) (prunable_now t)
      go s t (states b h i j) = oks i (states b h i j)

  pub uses_now_alike : StepAlike W (SetAlike ρ) uses_now uses_now
  unfolding uses_now pairing
  uses_now_alike = record { run = go }
    where
      go : (s t : State) → StateAlike ρ q.up_to s t → OutAlike W (SetAlike ρ) (uses_now s) (uses_now t)
      go s t (states b h i j) = oks j (states b h i j)

  carrying_alike : (a b c d : Scopes) → SetAlike ρ a b → SetAlike ρ c d → (s t : State) → StateAlike ρ q.up_to s t
      → StateAlike ρ q.up_to (carrying a c s) (carrying b d t)
  unfolding carrying
  carrying_alike a b c d m k s t (states e h i j) = states e h m k

  pub use_scope_alike : (k : ℕ) → ρ.to k ≡ k → StepAlike W (Same {A = Unit {0}}) (use_scope k) (use_scope k)
  unfolding use_scope pairing
  use_scope_alike k f = record { run = go }
    where
      go : (s t : State) → StateAlike ρ q.up_to s t → OutAlike W (Same {A = Unit {0}}) (use_scope k s) (use_scope k t)
      go s t (states {left} {names} {reached} {l} {r} {p} {o} {u} {v} b h i j) =
          oks same (carrying_alike _ _ _ _ (add_alike ρ k f p o i) (add_alike ρ k f u v j) _ _ (states b h i j))

  pub inside_alike : {A : Type 0} {R : A → A → Type 0} (f g : Scopes → Scopes) → ((a b : Scopes) → SetAlike ρ a b → SetAlike ρ (f a) (g b))
      → (m n : Step A) → StepAlike W R m n → StepAlike W R (inside f m) (inside g n)
  unfolding inside pairing
  inside_alike {A} {R} f g z m n w = record { run = go }
    where
      put : (a b c d : Scopes) → SetAlike ρ a b → SetAlike ρ c d → (e o : A) → R e o → StepAlike W R (λ t. ok e (carrying a c t)) (λ t. ok o (carrying b d t))
      put a b c d i j e o r = record { run = λ s t h. oks r (carrying_alike a b c d i j s t h) }

      go : (s t : State) → StateAlike ρ q.up_to s t → OutAlike W R (inside f m s) (inside g n t)
      go s t (states {left} {names} {reached} {l} {r} {p} {o} {u} {v} b h i j) =
          after_alike _ _ (w.run _ _ (carrying_alike (f p) (g o) no_scopes no_scopes (z p o i) (none_alike ρ) _ _ (states b h i j))) (λ x y e. put p o u v i j x y e)

  -- ---- bindings

  pub bind_alike : (a b : Bind) → BindAlike ρ a b → StepAlike W (Same {A = Unit {0}}) (bind a) (bind b)
  unfolding bind pairing
  bind_alike a b z = record { run = go }
    where
      go : (s t : State) → StateAlike ρ q.up_to s t → OutAlike W (Same {A = Unit {0}}) (bind a s) (bind b t)
      go s t (states {left} {names} {reached} {l} {r} {p} {o} {u} {v} e h i j) =
          test (ltb (length l) most_bindings) (ltb (length r) most_bindings) (ap (λ (x : ℕ). ltb x most_bindings) h.same_length)
        where
          bound : List Bind → Scopes → Scopes → Bool → Out (Unit {0})
          bound m c d x =
              when x
              then ok tt (record { left = left; names = names; scopes = reached; binds = m; prunable = c; uses = d })
              else no no_binding_left no_rivals left

          test : (x y : Bool) → x ≡ y → OutAlike W (Same {A = Unit {0}}) (bound (insert a l) p u x) (bound (insert b r) o v y)
          test true true x = oks same (states e (insert_alike ρ l r h a b z) i j)
          test true false x = absurd (true≢false x)
          test false true x = absurd (false≢true x)
          test false false x = nos

  pub agree_alike : (ph x : ℕ) (c d : Sets) → SetsAlike ρ c d → (s t : State) → StateAlike ρ q.up_to s t
      → resolve x (set_at ph c) s.binds ≡ resolve x (set_at ph d) t.binds
  agree_alike ph x c d i s t (states {left} {names} {reached} {l} {r} b h j k) =
      resolve_alike ρ l r h x (set_at ph c) (set_at ph d) (set_at_alike ρ ph c d i)

  pub resolve_at_alike : (ph : ℕ) (c d : Sets) → SetsAlike ρ c d → (x : ℕ) → StepAlike W (Same {A = ℕ}) (resolve_at ph c x) (resolve_at ph d x)
  unfolding pairing
  resolve_at_alike ph c d i x = resolve_at_agree ph c d x (λ s t h. agree_alike ph x c d i s t h)

  pub bind_fresh_alike : (ph : ℕ) (c d : Sets) → SetsAlike ρ c d → (x : ℕ) → StepAlike W (BinderAlike ρ) (bind_fresh ph c x) (bind_fresh ph d x)
  unfolding bind_fresh
  bind_fresh_alike ph c d h x =
      then_same _ _ fresh_name_alike (λ n.
      then_scope _ _ fresh_scope_alike (λ k f.
      then_same _ _ (charge_alike 1) (λ u.
      then_same _ _ (bind_alike _ _ (record { symb-is = refl; target_is = refl; set_like = set_at_alike ρ ph _ _ (sets k f) })) (λ v.
      done_alike (binders f (sets k f))))))
    where
      sets : (k : ℕ) → ρ.to k ≡ k → SetsAlike ρ (change_at (add k) ph c) (change_at (add k) ph d)
      sets k f = change_at_alike ρ (add k) (add k) (add_alike ρ k f) ph c d h
