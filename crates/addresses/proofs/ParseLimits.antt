-- Parsing any object that keeps the limits gives a tree that keeps them.
use mathlib.Core.Path.{◌≡◌, sym, ap, ◌∙◌, subst, refl}
use Prim.Native.Nat.{ℕ, zero, suc, ◌≤◌, ◌<◌, zero-le, suc-le-suc}
use native.Mathlib.Nat.{le_refl, le_trans, le_of_eq}
use native.Mathlib.Omega.{arith}
use mathlib.Core.Option.{Option, none, some}
use mathlib.Core.List.{List}
use Rattle.model.specs.Refusals.{no_rule, too_many_entries}
use Rattle.model.specs.Scopes.{Scopes}
use Rattle.model.specs.Objects.{symbol, number, point, prim, rung, Sets, set_at, Stx, atom, list, Stxs, nil, cons, size, nesting, nestings}
use Rattle.model.specs.Trees.{Tree, var, app, fun, datum, stx, Trees, tnil, tcons, tnesting, tnestings, strip}
use Rattle.model.specs.Resolving.{Bind, Found, means, several, candidates, resolve}
use Rattle.model.specs.Competing.{no_rivals}
use Rattle.model.specs.Meanings.{Form, lambda, let_syntax, quote, syntax, form_of}
use Rattle.model.specs.Steps.{State, Out, Step, resolve_at}
use Rattle.model.specs.Parsing.{head_form, parse_all, parse_form, parse_entry, parse}
use Rattle.laws.specs.Ordered.{Sorted}
use Rattle.laws.proofs.ResolveRule.{Rule, free, found, unclear, resolve-is, candidates-sound}
use Rattle.codec_laws.specs.WellFormed.{StxFits, StxsFit, TreeFits, TreesFit, BindsFit}
use Rattle.addresses.proofs.Outcomes.{Outcome, gives, stops, chain, Kept, kept_refl, kept_same, kept_trans, charge-out, resolve_at-out, parts1-out, parts2-out, identifier-out}
use Rattle.addresses.proofs.Fitting.{strip-fits, strip-nesting}
use Rattle.addresses.proofs.States.{binds_in}
use Rattle.addresses.proofs.Results.{second-nesting, body_nesting, max-both}

-- the name of an identifier is declared: its symbol, or the target of a binding
resolve-declared : (k n m : ℕ) (l : List Bind) → BindsFit k n m l → k ≤ n → (x : ℕ) → x < k → (a : Scopes) (y : ℕ) → resolve x a l ≡ means y → y < n
resolve-declared k n m l f h x hx a y e = go (resolve x a l) (resolve-is x a l) e
  where
    no_name : several ≡ means y → ⊥
    no_name q = subst (λ (z : Found). named z) (sym q) tt
      where
        named : Found → Type 0
        named (means w) = Unit {0}
        named several = ⊥

    go : (r : Found) → Rule x (candidates x a l) r → r ≡ means y → y < n
    go r (free q) p = subst (λ (z : ℕ). z < n) (name_path x p) (le_trans hx h)
      where
        name_path : (w : ℕ) → means w ≡ means y → w ≡ y
        name_path w q = cc
    go r (found b g) p = subst (λ (z : ℕ). z < n) (name_path b.target p) (binds_in k n m l f b (candidates-sound x a l b g.here).stored).1
      where
        name_path : (w : ℕ) → means w ≡ means y → w ≡ y
        name_path w q = cc
    go r (unclear q g) p = absurd (no_name p)

module _ (k n m : ℕ) (bs : List Bind) (binds-fit : BindsFit k n m bs) (names-from : k ≤ n) (ascending : Sorted bs) where
  -- what parsing x from s gives
  abbrev pub Parsed : Stx → State → Tree → State → Type 0
  Parsed x s t u = TreeFits k n m t × (tnesting t ≤ nesting x) × Kept s u

  abbrev ParseGood : (Stx → Step Tree) → Type 0
  ParseGood self = (x : Stx) → StxFits k m x → (s : State) → s.binds ≡ bs → Outcome Tree (Parsed x s) (self x s)

  all-good : (self : Stx → Step Tree) → ParseGood self → (l : Stxs) → StxsFit k m l → (s : State) → s.binds ≡ bs
      → Outcome Trees (λ r u. TreesFit k n m r × (tnestings r ≤ nestings l) × Kept s u) (parse_all self l s)
  unfolding parse_all nesting tnesting
  all-good self h nil i s q = gives tnil s (tt, zero-le, kept_refl s)
  all-good self h (cons x l) i s q =
      chain _ (h x i.0 s q) (λ t u a. chain _ (all-good self h l i.1 u (sym a.2.binds-is ∙ q)) (λ r v b.
      gives (tcons t r) v ((a.0, b.0), max-both k a.1 b.1, kept_trans a.2 b.2)))

  in_order : (s : State) → s.binds ≡ bs → Sorted s.binds
  in_order s q = subst Sorted (sym q) ascending

  -- an identifier's name
  name_out : (ph : ℕ) (c : Sets) (x : ℕ) → x < k → (s : State) → s.binds ≡ bs → Outcome ℕ (λ y u. (y < n) × Kept s u) (resolve_at ph c x s)
  name_out ph c x hx s q = known (resolve_at-out ph c x s (in_order s q))
    where
      known : {o : Out ℕ} → Outcome ℕ (λ y t. (resolve x (set_at ph c) s.binds ≡ means y) × (s ≡ t)) o → Outcome ℕ (λ y u. (y < n) × Kept s u) o
      known (gives y t p) =
          gives y t (resolve-declared k n m bs binds-fit names-from x hx (set_at ph c) y (ap (resolve x (set_at ph c)) (sym q) ∙ p.0), kept_same p.1)
      known (stops r q u p) = stops r q u p

  head-out : (ph : ℕ) (h : Stx) (s : State) → s.binds ≡ bs → Outcome (Option Form) (λ f u. Kept s u) (head_form ph h s)
  unfolding head_form
  head-out ph (atom c (symbol x)) s q = chain _ (resolve_at-out ph c x s (in_order s q)) (λ y t p. gives (form_of y) t (kept_same p.1))
  head-out ph (atom c (number x)) s q = gives none s (kept_refl s)
  head-out ph (atom c (point x)) s q = gives none s (kept_refl s)
  head-out ph (atom c (prim x)) s q = gives none s (kept_refl s)
  head-out ph (atom c (rung x)) s q = gives none s (kept_refl s)
  head-out ph (list c l) s q = gives none s (kept_refl s)

  up : (a : ℕ) → a ≤ suc a
  up a = omega arith

  -- the list with sets c of head h and tail l
  form_good : (ph : ℕ) (self : Stx → Step Tree) → ParseGood self → (f : Option Form) (c : Sets) (h : Stx) (l : Stxs) → StxFits k m (list c (cons h l))
      → (s : State) → s.binds ≡ bs → Outcome Tree (Parsed (list c (cons h l)) s) (parse_form self ph f h l s)
  unfolding parse_form nesting tnesting
  form_good ph self rec none c h l i s q =
      chain _ (rec h i.1.0 s q) (λ t u a. chain _ (all-good self rec l i.1.1 u (sym a.2.binds-is ∙ q)) (λ r v b.
      gives (app t r) v ((a.0, b.0), suc-le-suc (max-both k a.1 b.1), kept_trans a.2 b.2)))
  form_good ph self rec (some lambda) c h l i s q =
      parts2-out l _ s (λ j body e. let w : StxsFit k m (cons j (cons body nil)) = subst (λ (z : Stxs). StxsFit k m z) e i.1.1 in
      identifier-out j _ s (λ cj x e'. let ij : StxFits k m (atom cj (symbol x)) = subst (λ (z : Stx). StxFits k m z) e' w.0 in
      chain _ (name_out ph cj x ij.1 s q) (λ y t a. chain _ (rec body w.1.0 t (sym a.1.binds-is ∙ q)) (λ b u d.
      gives (fun y b) u ((a.0, d.0), le_trans (suc-le-suc d.1) (subst (λ (z : Stxs). suc (nesting body) ≤ nesting (list c (cons h z))) (sym e) (body_nesting k c h j body)), kept_trans a.1 d.2)))))
  form_good ph self rec (some let_syntax) c h l i s q = stops no_rule no_rivals s.left refl
  form_good ph self rec (some quote) c h l i s q =
      parts1-out l _ s (λ d e. chain _ (charge-out (size d) s) (λ v u kp.
      gives (strip d) u (
        strip-fits k n m d (subst (λ (z : Stxs). StxsFit k m z) e i.1.1).0,
        le_trans (le_of_eq (strip-nesting d)) (deeper d e),
        kp,
      )))
    where
      deeper : (d : Stx) → l ≡ cons d nil → nesting d ≤ nesting (list c (cons h l))
      deeper d e = subst (λ (z : Stxs). nesting d ≤ nesting (list c (cons h z))) (sym e) (le_trans (up (nesting d)) (second-nesting k c h d nil))
  form_good ph self rec (some syntax) c h l i s q =
      parts1-out l _ s (λ d e. gives (stx d) s ((subst (λ (z : Stxs). StxsFit k m z) e i.1.1).0, deeper d e, kept_refl s))
    where
      deeper : (d : Stx) → l ≡ cons d nil → nesting d ≤ nesting (list c (cons h l))
      deeper d e = subst (λ (z : Stxs). nesting d ≤ nesting (list c (cons h z))) (sym e) (le_trans (up (nesting d)) (second-nesting k c h d nil))

  -- what was kept before
  since : (x : Stx) (s u : State) → Kept s u → {o : Out Tree} → Outcome Tree (Parsed x u) o → Outcome Tree (Parsed x s) o
  since x s u kp (gives t v p) = gives t v (p.0, p.1, kept_trans kp p.2)
  since x s u kp (stops r q v p) = stops r q v p

  entry_good : (ph : ℕ) (self : Stx → Step Tree) → ParseGood self → ParseGood (parse_entry self ph)
  unfolding parse_entry nesting tnesting
  entry_good ph self rec (atom c (symbol x)) i s q = chain _ (name_out ph c x i.1 s q) (λ y t a. gives (var y) t (a.0, le_refl 1, a.1))
  entry_good ph self rec (atom c (number x)) i s q = gives (datum (number x)) s (i.1, le_refl 1, kept_refl s)
  entry_good ph self rec (atom c (point x)) i s q = gives (datum (point x)) s (i.1, le_refl 1, kept_refl s)
  entry_good ph self rec (atom c (prim x)) i s q = gives (datum (prim x)) s (i.1, le_refl 1, kept_refl s)
  entry_good ph self rec (atom c (rung x)) i s q = gives (datum (rung x)) s (i.1, le_refl 1, kept_refl s)
  entry_good ph self rec (list c nil) i s q = stops no_rule no_rivals s.left refl
  entry_good ph self rec (list c (cons h l)) i s q =
      chain _ (head-out ph h s q) (λ f t kp. since (list c (cons h l)) s t kp (form_good ph self rec f c h l i t (sym kp.binds-is ∙ q)))

  pub parse_keeps_limits : (d ph : ℕ) → ParseGood (parse d ph)
  unfolding parse
  parse_keeps_limits zero ph x i s q = stops too_many_entries no_rivals s.left refl
  parse_keeps_limits (suc d) ph x i s q =
      chain _ (charge-out 1 s) (λ v t kp. since x s t kp (entry_good ph (λ y. parse d ph y) (parse_keeps_limits d ph) x i t (sym kp.binds-is ∙ q)))
