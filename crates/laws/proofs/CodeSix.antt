-- Request T-04, of each job's work: with no refusal but 6 are places told; evaluating is never refused by 6; and what resolving and parsing tell
-- with 6 is told of the bindings that they started with. Three uses of the one walk.
use mathlib.Core.Path.{◌≡◌, refl, sym, ap, ◌∙◌}
use Prim.Native.Nat.{ℕ}
use native.Mathlib.Omega.{arith}
use mathlib.Core.Bool.{Bool, true, false}
use mathlib.Core.List.{List}
use lib.Dec.{leb, ltb}
use lib.ListN.{length}
use Rattle.model.specs.Choice.{when◌then◌else◌}
use Rattle.model.specs.Limits.{most_names, most_scopes, most_bindings}
use Rattle.model.specs.Refusals.{Refusal, over_budget, code_of}
use Rattle.model.specs.Scopes.{Scopes, no_scopes}
use Rattle.model.specs.Objects.{set_at, Stx}
use Rattle.model.specs.Trees.{Tree}
use Rattle.model.specs.Resolving.{Bind, Found, means, several, resolve}
use Rattle.model.specs.Competing.{Rivals, no_rivals, rivals}
use Rattle.model.specs.Steps.{State, Out, ok, no, Step, after, charge, fresh_name, fresh_scope, carrying, prunable_now, uses_now, use_scope, inside, bind, name_of, resolve_at}
use Rattle.model.specs.Jobs.{resolve_root, expand_root, parse_root, evaluate_root}
use Rattle.laws.proofs.Walk.{Walkable, Resolves, Makes, resolve_root_walks, expand_root_walks, parse_root_walks, evaluate_root_walks}
use Rattle.laws.proofs.StepLaws.{spend}

-- I of the state after what is granted, Q of a refusal and what is told with it
abbrev pub Ends : (State → Type 0) → (Refusal → Rivals → Type 0) → {A : Type 0} → Out A → Type 0
Ends I Q (ok a t) = I t
Ends I Q (no r p u) = Q r p

abbrev pub From : (State → Type 0) → (Refusal → Rivals → Type 0) → (A : Type 0) → Step A → Type 0
From I Q A m = (s : State) → I s → Ends I Q (m s)

module _ (I : State → Type 0) (Q : Refusal → Rivals → Type 0) where
  after-ends : {A B : Type 0} (o : Out A) (f : A → Step B) → Ends I Q o → ((a : A) → From I Q B (f a)) → Ends I Q (after o f)
  after-ends (ok a t) f h k = k a t h
  after-ends (no r p u) f h k = h

  choice_ends : {A : Type 0} (b : Bool) (x y : Out A) → Ends I Q x → Ends I Q y → Ends I Q (when b then x else y)
  choice_ends true x y h k = h
  choice_ends false x y h k = k

  -- where Q is of every refusal but 6 with nothing told, and a charge keeps I
  pub walkable : ((r : Refusal) → (code_of r ≡ 6 → ⊥) → Q r no_rivals) → ((n : ℕ) (s : State) → I s → I (spend n s)) → Walkable (From I Q)
  unfolding charge spend
  walkable plain spends = record {
    in_turn = λ m f h k s i. after-ends (m s) f (h s i) k;
    of_done = λ a s i. i;
    of_refuse = λ r n s i. plain r n;
    of_charge = λ n s i. choice_ends (leb n s.left) _ _ (spends n s i) (plain over_budget (λ e. omega arith));
  }

-- ---- places come with 6 and with no other

abbrev pub Always : State → Type 0
Always s = Unit {0}

abbrev pub NoneToldBut6 : Refusal → Rivals → Type 0
NoneToldBut6 r p = (code_of r ≡ 6 → ⊥) → p ≡ no_rivals

none_told : Walkable (From Always NoneToldBut6)
none_told = walkable Always NoneToldBut6 (λ r n m. refl) (λ n s i. tt)

named-told : (p : Rivals) (f : Found) → From Always NoneToldBut6 ℕ (name_of p f)
unfolding name_of
named-told p (means n) s i = tt
named-told p several s i = λ n. absurd (n refl)

none_told_resolving : Resolves (From Always NoneToldBut6)
unfolding resolve_at
none_told_resolving ph c x s i = named-told (rivals x (set_at ph c) s.binds) (resolve x (set_at ph c) s.binds) s i

put_back_ends : (Q : Refusal → Rivals → Type 0) {A : Type 0} (o : Out A) (p u : Scopes) → Ends Always Q o → Ends Always Q (after o (λ a t. ok a (carrying p u t)))
put_back_ends Q (ok a t) p u h = tt
put_back_ends Q (no r q v) p u h = h

none_told_making : Makes (From Always NoneToldBut6)
unfolding fresh_name fresh_scope bind prunable_now uses_now use_scope inside
none_told_making = record {
  of_fresh_name = λ s i. choice_ends Always NoneToldBut6 (ltb s.names most_names) _ _ tt (λ n. refl);
  of_fresh_scope = λ s i. choice_ends Always NoneToldBut6 (ltb s.scopes most_scopes) _ _ tt (λ n. refl);
  of_bind = λ b s i. choice_ends Always NoneToldBut6 (ltb (length s.binds) most_bindings) _ _ tt (λ n. refl);
  of_prunable_now = λ s i. tt;
  of_uses_now = λ s i. tt;
  of_use_scope = λ k s i. tt;
  of_inside = λ f m h s i. put_back_ends NoneToldBut6 (m (carrying (f s.prunable) no_scopes s)) s.prunable s.uses (h (carrying (f s.prunable) no_scopes s) tt);
}

pub resolve_tells_none_but_6 : (ph : ℕ) (x : Stx) (s : State) → Ends Always NoneToldBut6 (resolve_root ph x s)
resolve_tells_none_but_6 ph x s = resolve_root_walks (From Always NoneToldBut6) none_told none_told_resolving ph x s tt

pub parse_tells_none_but_6 : (x : Stx) (s : State) → Ends Always NoneToldBut6 (parse_root x s)
parse_tells_none_but_6 x s = parse_root_walks (From Always NoneToldBut6) none_told none_told_resolving x s tt

pub expand_tells_none_but_6 : (ph : ℕ) (x : Stx) (s : State) → Ends Always NoneToldBut6 (expand_root ph x s)
expand_tells_none_but_6 ph x s = expand_root_walks (From Always NoneToldBut6) none_told none_told_resolving none_told_making ph x s tt

-- ---- evaluating

abbrev pub Not6 : Refusal → Rivals → Type 0
Not6 r p = (code_of r ≡ 6 → ⊥) × (p ≡ no_rivals)

not_6 : Walkable (From Always Not6)
not_6 = walkable Always Not6 (λ r n. (n, refl)) (λ n s i. tt)

pub evaluate_is_never_refused_by_6 : (t : Tree) (s : State) → Ends Always Not6 (evaluate_root t s)
evaluate_is_never_refused_by_6 t s = evaluate_root_walks (From Always Not6) not_6 t s tt

-- ---- resolving and parsing

-- p are those that compete by the bindings bs, for some symbol and set
abbrev pub ToldBy : List Bind → Rivals → Type 0
ToldBy bs p = (x : ℕ) × (c : Scopes) × (resolve x c bs ≡ several) × (p ≡ rivals x c bs)

abbrev pub With6 : List Bind → Refusal → Rivals → Type 0
With6 bs r p = code_of r ≡ 6 → ToldBy bs p

abbrev pub Has : List Bind → State → Type 0
Has bs s = s.binds ≡ bs

module _ (bs : List Bind) where
  told-by : Walkable (From (Has bs) (With6 bs))
  unfolding spend
  told-by = walkable (Has bs) (With6 bs) (λ r n e. absurd (n e)) (λ n s i. i)

  told_by_resolving : Resolves (From (Has bs) (With6 bs))
  unfolding resolve_at name_of
  told_by_resolving ph c x s i = go (resolve x (set_at ph c) s.binds) refl
    where
      go : (f : Found) → resolve x (set_at ph c) s.binds ≡ f → Ends (Has bs) (With6 bs) (name_of (rivals x (set_at ph c) s.binds) f s)
      go (means n) e = i
      go several e = λ q. (x, set_at ph c, ap (resolve x (set_at ph c)) (sym i) ∙ e, ap (rivals x (set_at ph c)) i)

  pub resolve_tells_by_its_bindings : (ph : ℕ) (x : Stx) (s : State) → Has bs s → Ends (Has bs) (With6 bs) (resolve_root ph x s)
  resolve_tells_by_its_bindings = resolve_root_walks (From (Has bs) (With6 bs)) told-by told_by_resolving

  pub parse_tells_by_its_bindings : (x : Stx) (s : State) → Has bs s → Ends (Has bs) (With6 bs) (parse_root x s)
  parse_tells_by_its_bindings = parse_root_walks (From (Has bs) (With6 bs)) told-by told_by_resolving
