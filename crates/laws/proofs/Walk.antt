-- One walk over the rules: what holds of each step that they are made of, and of two in turn where it holds of both, holds of evaluating, parsing
-- and expanding. `Units` walks it twice, `CodeSix` three times.
use mathlib.Core.Path.{◌≡◌}
use Prim.Native.Nat.{ℕ, zero, suc, ◌+◌}
use native.Mathlib.Omega.{arith}
use mathlib.Core.Bool.{Bool, true, false}
use mathlib.Core.Option.{Option, none, some}
use mathlib.Core.List.{List, [], ◌∷◌}
use lib.Dec.{leb}
use Rattle.model.specs.Choice.{given}
use Rattle.model.specs.Limits.{most_entries, most_nesting, last_phase}
use Rattle.model.specs.Refusals.{Refusal, unowned, no_meaning, no_rule, no_syntax, not_applicable, wrong_argument, no_phase, too_deep, too_many_entries, outside_use, code_of}
use Rattle.model.specs.Scopes.{Scopes, no_scopes, add}
use Rattle.model.specs.Objects.{symbol, number, point, prim, rung, Sets, set_at, change_at, Stx, atom, list, Stxs, nil, cons, size, nesting}
use Rattle.model.specs.Trees.{Tree, var, app, fun, datum, lst, stx, Trees, tnil, tcons, tcount, tsize, tnesting, substitute, as_stx, as_list, strip, load_size}
use Rattle.model.specs.Resolving.{Bind}
use Rattle.model.specs.Meanings.{Form, lambda, let_syntax, quote, syntax, form_of, Meaning, core, variable, macro, stopped, unknown, meaning, meaning_among, Surroundings, of_root, with_stops, Place, nowhere, macro_use}
use Rattle.model.specs.Steps.{Step, after, done, refuse, unless, charge, made, made_tree, add_to, flip_in, prune_from, fresh_name, fresh_scope, prunable_now, uses_now, use_scope, inside, bind, resolve_at, parts1, parts2, parts3, identifier}
use Rattle.model.specs.Evaluating.{Local, meaning_of, expand_in, binder_of, Primitive, plain, local, primitive_of, primitive, or_wrong_kind, Expander, Id, as_id, as_ids, macro_value, value_of, known, stop_names, expand_within, fit_to_bind, apply_local, Evaluator, applicable, allowed, each_tree, argument, apply_primitive, apply, eval_entry}
use Rattle.model.specs.Parsing.{head_form, parse_all, parse_form, parse_entry, parse}
use Rattle.model.specs.Expanding.{head_meaning, expand_name, bind_fresh, of_right_hand_side, of_body, expand_all, expand_application, expand_function, expand_lambda, expand_syntax, expand_binding, expand_let_syntax, or_no_syntax, expand_macro, expand_form, expand_entry, expand, evaluate}
use Rattle.model.specs.Jobs.{resolve_root, expand_root, parse_root, evaluate_root}

-- a claim about steps that the walk carries from the single steps to the rules. Evaluating outside a macro use is made of these; it is never
-- refused by 6
pub record Walkable (P : (A : Type 0) → Step A → Type 0) : Type 1 where
  pub in_turn : {A B : Type 0} (m : Step A) (f : A → Step B) → P A m → ((a : A) → P B (f a)) → P B (λ s. after (m s) f)
  pub of_done : {A : Type 0} (a : A) → P A (done a)
  pub of_refuse : {A : Type 0} (r : Refusal) → (code_of r ≡ 6 → ⊥) → P A (refuse r)
  pub of_charge : (n : ℕ) → P (Unit {0}) (charge n)

-- parsing resolves as well
abbrev pub Resolves : ((A : Type 0) → Step A → Type 0) → Type 0
Resolves P = (ph : ℕ) (c : Sets) (x : ℕ) → P ℕ (resolve_at ph c x)

-- and expanding makes names, scopes and bindings, and hands the prunable set and the use scopes on
pub record Makes (P : (A : Type 0) → Step A → Type 0) : Type 1 where
  pub of_fresh_name : P ℕ fresh_name
  pub of_fresh_scope : P ℕ fresh_scope
  pub of_bind : (b : Bind) → P (Unit {0}) (bind b)
  pub of_prunable_now : P Scopes prunable_now
  pub of_uses_now : P Scopes uses_now
  pub of_use_scope : (k : ℕ) → P (Unit {0}) (use_scope k)
  pub of_inside : {A : Type 0} (f : Scopes → Scopes) (m : Step A) → P A m → P A (inside f m)

module _ (P : (A : Type 0) → Step A → Type 0) (walk : Walkable P) where
  unless_walks : (r : Refusal) → (code_of r ≡ 6 → ⊥) → (b : Bool) → P _ (unless r b)
  unless_walks r h true = walk.of_done tt
  unless_walks r h false = walk.of_refuse r h

  no_rule_walks : {A : Type 0} → P A (refuse no_rule)
  no_rule_walks = walk.of_refuse no_rule (λ e. omega arith)

  not_applicable_walks : {A : Type 0} → P A (refuse not_applicable)
  not_applicable_walks = walk.of_refuse not_applicable (λ e. omega arith)

  too_many_entries_walks : {A : Type 0} → P A (refuse too_many_entries)
  too_many_entries_walks = walk.of_refuse too_many_entries (λ e. omega arith)

  too_deep_walks : (b : Bool) → P _ (unless too_deep b)
  too_deep_walks b = unless_walks too_deep (λ e. omega arith) b

  made_walks : (x : Stx) → P _ (made x)
  unfolding made
  made_walks x =
      walk.in_turn (unless too_deep (leb (nesting x) most_nesting)) (λ u. done x) (too_deep_walks (leb (nesting x) most_nesting)) (λ u. walk.of_done x)

  made_tree_walks : (t : Tree) → P _ (made_tree t)
  unfolding made_tree
  made_tree_walks t =
      walk.in_turn (unless too_deep (leb (tnesting t) most_nesting)) (λ u. done t) (too_deep_walks (leb (tnesting t) most_nesting)) (λ u. walk.of_done t)

  -- a charge, then what is computed
  charged_walks : {A : Type 0} (n : ℕ) (a : A) → P _ (λ s. after (charge n s) (λ u. done a))
  charged_walks n a = walk.in_turn (charge n) _ (walk.of_charge n) (λ u. walk.of_done a)

  add_to_walks : (k ph : ℕ) (x : Stx) → P _ (add_to k ph x)
  unfolding add_to
  add_to_walks k ph x = charged_walks (size x) _

  flip_in_walks : (k ph : ℕ) (x : Stx) → P _ (flip_in k ph x)
  unfolding flip_in
  flip_in_walks k ph x = charged_walks (size x) _

  prune_from_walks : (p : Scopes) (ph : ℕ) (x : Stx) → P _ (prune_from p ph x)
  unfolding prune_from
  prune_from_walks p ph x = charged_walks (size x) _

  -- ---- shapes

  parts1_walks : {A : Type 0} (l : Stxs) (f : Stx → Step A) → ((a : Stx) → P _ (f a)) → P _ (parts1 l f)
  unfolding parts1
  parts1_walks nil f h = no_rule_walks
  parts1_walks (cons a nil) f h = h a
  parts1_walks (cons a (cons b l)) f h = no_rule_walks

  parts2_walks : {A : Type 0} (l : Stxs) (f : Stx → Stx → Step A) → ((a b : Stx) → P _ (f a b)) → P _ (parts2 l f)
  unfolding parts2
  parts2_walks nil f h = no_rule_walks
  parts2_walks (cons a nil) f h = no_rule_walks
  parts2_walks (cons a (cons b nil)) f h = h a b
  parts2_walks (cons a (cons b (cons c l))) f h = no_rule_walks

  parts3_walks : {A : Type 0} (l : Stxs) (f : Stx → Stx → Stx → Step A) → ((a b c : Stx) → P _ (f a b c)) → P _ (parts3 l f)
  unfolding parts3
  parts3_walks nil f h = no_rule_walks
  parts3_walks (cons a nil) f h = no_rule_walks
  parts3_walks (cons a (cons b nil)) f h = no_rule_walks
  parts3_walks (cons a (cons b (cons c nil))) f h = h a b c
  parts3_walks (cons a (cons b (cons c (cons d l)))) f h = no_rule_walks

  identifier_walks : {A : Type 0} (x : Stx) (f : Sets → ℕ → Step A) → ((c : Sets) (n : ℕ) → P _ (f c n)) → P _ (identifier x f)
  unfolding identifier
  identifier_walks (atom c (symbol x)) f h = h c x
  identifier_walks (atom c (number x)) f h = no_rule_walks
  identifier_walks (atom c (point x)) f h = no_rule_walks
  identifier_walks (atom c (prim x)) f h = no_rule_walks
  identifier_walks (atom c (rung x)) f h = no_rule_walks
  identifier_walks (list c l) f h = no_rule_walks

  -- ---- evaluating

  each_walks : (self : Tree → Step Tree) → ((t : Tree) → P _ (self t)) → (l : Trees) → P _ (each_tree self l)
  unfolding each_tree
  each_walks self h tnil = walk.of_done tnil
  each_walks self h (tcons t l) =
      walk.in_turn (self t) _ (h t) (λ v. walk.in_turn (each_tree self l) _ (each_walks self h l) (λ r. walk.of_done (tcons v r)))

  pub or_wrong_kind_walks : {A : Type 0} (o : Option A) (f : A → Step Tree) → ((a : A) → P _ (f a)) → P _ (or_wrong_kind o f)
  unfolding or_wrong_kind
  or_wrong_kind_walks none f h = walk.of_refuse wrong_argument (λ e. omega arith)
  or_wrong_kind_walks (some a) f h = h a

  -- at a place where trees walk, and primitives 7 to 9
  module _ (self : Evaluator) (expander : Expander) (place : Place) (h : (t : Tree) → P _ (self place t)) (locally : (p : Local) (a b : Tree) → P _ (apply_local expander place p a b)) where
    primitive_walks : (o : Option Primitive) (l : Trees) → P _ (apply_primitive expander place o l)
    unfolding apply_primitive
    primitive_walks none l = not_applicable_walks
    primitive_walks (some (plain p)) l =
        walk.in_turn (charge 1) _ (walk.of_charge 1) (λ u.
        or_wrong_kind_walks (primitive p (argument l 0) (argument l 1) (argument l 2)) made_tree made_tree_walks)
    primitive_walks (some (local p)) l =
        walk.in_turn (charge 1) _ (walk.of_charge 1) (λ u. locally p (argument l 0) (argument l 1))

    apply_walks : (f : Tree) (l : Trees) → P _ (apply self expander place f l)
    unfolding apply
    apply_walks (var m) l = not_applicable_walks
    apply_walks (app f k) l = not_applicable_walks
    apply_walks (fun n b) l =
        walk.in_turn (charge (tsize b)) _ (walk.of_charge (tsize b)) (λ u.
        walk.in_turn (made_tree (substitute n (argument l 0) b)) (self place) (made_tree_walks (substitute n (argument l 0) b)) h)
    apply_walks (datum (symbol x)) l = not_applicable_walks
    apply_walks (datum (number x)) l = not_applicable_walks
    apply_walks (datum (point x)) l = not_applicable_walks
    apply_walks (datum (prim p)) l = primitive_walks (primitive_of p) l
    apply_walks (datum (rung x)) l = not_applicable_walks
    apply_walks (lst k) l = not_applicable_walks
    apply_walks (stx s) l = not_applicable_walks

    pub eval_entry_walks : (t : Tree) → P _ (eval_entry self expander place t)
    unfolding eval_entry
    eval_entry_walks (var n) = walk.of_refuse unowned (λ e. omega arith)
    eval_entry_walks (app f l) =
        walk.in_turn (self place f) _ (h f) (λ v.
        walk.in_turn (unless not_applicable (applicable v (tcount l))) _ (unless_walks not_applicable (λ e. omega arith) (applicable v (tcount l))) (λ u.
        walk.in_turn (unless outside_use (allowed place v)) _ (unless_walks outside_use (λ e. omega arith) (allowed place v)) (λ w.
        walk.in_turn (each_tree (self place) l) _ (each_walks (self place) h l) (λ vs. apply_walks v vs))))
    eval_entry_walks (fun n b) = walk.of_done (fun n b)
    eval_entry_walks (datum a) = walk.of_done (datum a)
    eval_entry_walks (lst l) = walk.of_done (lst l)
    eval_entry_walks (stx s) = walk.of_done (stx s)

  -- outside a macro use nothing is resolved or made
  nowhere_walks : (expander : Expander) (p : Local) (a b : Tree) → P _ (apply_local expander nowhere p a b)
  unfolding apply_local
  nowhere_walks expander p a b = walk.of_refuse outside_use (λ e. omega arith)

  pub evaluate_nowhere_walks : (d : ℕ) (t : Tree) → P _ (evaluate d nowhere t)
  unfolding evaluate
  evaluate_nowhere_walks zero t = too_many_entries_walks
  evaluate_nowhere_walks (suc d) t =
      walk.in_turn (charge 1) _ (walk.of_charge 1) (λ u.
      eval_entry_walks (λ there x. evaluate d there x) (λ there x. expand d there x) nowhere (λ x. evaluate_nowhere_walks d x) (nowhere_walks (λ there x. expand d there x)) t)

  pub evaluate_root_walks : (t : Tree) → P _ (evaluate_root t)
  unfolding evaluate_root
  evaluate_root_walks t = walk.in_turn (charge (load_size t)) _ (walk.of_charge (load_size t)) (λ u. evaluate_nowhere_walks most_entries t)

  -- ---- resolving and parsing

  module _ (resolves : Resolves P) where
    pub resolve_root_walks : (ph : ℕ) (x : Stx) → P _ (resolve_root ph x)
    unfolding resolve_root
    resolve_root_walks ph x =
        walk.in_turn (charge (size x)) _ (walk.of_charge (size x)) (λ u. identifier_walks x _ (λ c n. resolves ph c n))

    head_form_walks : (ph : ℕ) (h : Stx) → P _ (head_form ph h)
    unfolding head_form
    head_form_walks ph (atom c (symbol x)) = walk.in_turn (resolve_at ph c x) _ (resolves ph c x) (λ n. walk.of_done (form_of n))
    head_form_walks ph (atom c (number x)) = walk.of_done none
    head_form_walks ph (atom c (point x)) = walk.of_done none
    head_form_walks ph (atom c (prim x)) = walk.of_done none
    head_form_walks ph (atom c (rung x)) = walk.of_done none
    head_form_walks ph (list c l) = walk.of_done none

    parse_all_walks : (self : Stx → Step Tree) → ((x : Stx) → P _ (self x)) → (l : Stxs) → P _ (parse_all self l)
    unfolding parse_all
    parse_all_walks self h nil = walk.of_done tnil
    parse_all_walks self h (cons x l) =
        walk.in_turn (self x) _ (h x) (λ t. walk.in_turn (parse_all self l) _ (parse_all_walks self h l) (λ r. walk.of_done (tcons t r)))

    parse_form_walks : (self : Stx → Step Tree) → ((x : Stx) → P _ (self x)) → (ph : ℕ) (f : Option Form) (h : Stx) (l : Stxs) → P _ (parse_form self ph f h l)
    unfolding parse_form
    parse_form_walks self k ph (some lambda) h l =
        parts2_walks l _ (λ i body. identifier_walks i _ (λ c x.
        walk.in_turn (resolve_at ph c x) _ (resolves ph c x) (λ n.
        walk.in_turn (self body) _ (k body) (λ b. walk.of_done (fun n b)))))
    parse_form_walks self k ph (some let_syntax) h l = no_rule_walks
    parse_form_walks self k ph (some quote) h l = parts1_walks l _ (λ x. charged_walks (size x) (strip x))
    parse_form_walks self k ph (some syntax) h l = parts1_walks l _ (λ x. walk.of_done (stx x))
    parse_form_walks self k ph none h l =
        walk.in_turn (self h) _ (k h) (λ f. walk.in_turn (parse_all self l) _ (parse_all_walks self k l) (λ r. walk.of_done (app f r)))

    pub parse_entry_walks : (self : Stx → Step Tree) → ((x : Stx) → P _ (self x)) → (ph : ℕ) (x : Stx) → P _ (parse_entry self ph x)
    unfolding parse_entry
    parse_entry_walks self k ph (atom c (symbol x)) = walk.in_turn (resolve_at ph c x) _ (resolves ph c x) (λ n. walk.of_done (var n))
    parse_entry_walks self k ph (atom c (number x)) = walk.of_done (datum (number x))
    parse_entry_walks self k ph (atom c (point x)) = walk.of_done (datum (point x))
    parse_entry_walks self k ph (atom c (prim x)) = walk.of_done (datum (prim x))
    parse_entry_walks self k ph (atom c (rung x)) = walk.of_done (datum (rung x))
    parse_entry_walks self k ph (list c nil) = no_rule_walks
    parse_entry_walks self k ph (list c (cons h l)) =
        walk.in_turn (head_form ph h) _ (head_form_walks ph h) (λ f. parse_form_walks self k ph f h l)

    pub parse_walks : (d ph : ℕ) (x : Stx) → P _ (parse d ph x)
    unfolding parse
    parse_walks zero ph x = too_many_entries_walks
    parse_walks (suc d) ph x =
        walk.in_turn (charge 1) _ (walk.of_charge 1) (λ u. parse_entry_walks (λ y. parse d ph y) (λ y. parse_walks d ph y) ph x)

    pub parse_root_walks : (x : Stx) → P _ (parse_root x)
    unfolding parse_root
    parse_root_walks x = walk.in_turn (charge (size x)) _ (walk.of_charge (size x)) (λ u. parse_walks most_entries 0 x)

    -- ---- expanding

    module _ (makes : Makes P) where
      head_meaning_walks : (here : Surroundings) (h : Stx) → P _ (head_meaning here h)
      unfolding head_meaning
      head_meaning_walks here (atom c (symbol x)) = walk.in_turn (resolve_at here.phase c x) _ (resolves here.phase c x) (λ n. walk.of_done _)
      head_meaning_walks here (atom c (number x)) = walk.of_done unknown
      head_meaning_walks here (atom c (point x)) = walk.of_done unknown
      head_meaning_walks here (atom c (prim x)) = walk.of_done unknown
      head_meaning_walks here (atom c (rung x)) = walk.of_done unknown
      head_meaning_walks here (list c l) = walk.of_done unknown

      expand_name_walks : (m : Meaning) → P _ (expand_name m)
      unfolding expand_name
      expand_name_walks (core f) = no_rule_walks
      expand_name_walks (variable c x) = walk.of_done (atom c (symbol x))
      expand_name_walks (macro v) = no_rule_walks
      expand_name_walks stopped = no_rule_walks
      expand_name_walks unknown = walk.of_refuse no_meaning (λ e. omega arith)

      bind_fresh_walks : (ph : ℕ) (c : Sets) (x : ℕ) → P _ (bind_fresh ph c x)
      unfolding bind_fresh
      bind_fresh_walks ph c x =
          walk.in_turn fresh_name _ makes.of_fresh_name (λ n.
          walk.in_turn fresh_scope _ makes.of_fresh_scope (λ k.
          walk.in_turn (charge 1) _ (walk.of_charge 1) (λ u.
          walk.in_turn (bind (record { symb = x; target = n; set = set_at ph (change_at (add k) ph c) })) _ (makes.of_bind _) (λ v.
          walk.of_done (record { name = n; scope = k; sets = change_at (add k) ph c })))))

      or_no_syntax_walks : (o : Option Stx) → P _ (or_no_syntax o)
      unfolding or_no_syntax
      or_no_syntax_walks none = walk.of_refuse no_syntax (λ e. omega arith)
      or_no_syntax_walks (some s) = walk.of_done s

      abbrev Steady : Expander → Type 0
      Steady self = (here : Surroundings) (x : Stx) → P _ (self here x)

      abbrev Settled : Evaluator → Type 0
      Settled value = (place : Place) (t : Tree) → P _ (value place t)

      -- ---- request T-08

      macro_value_walks : (m : Meaning) → P _ (macro_value m)
      unfolding macro_value
      macro_value_walks (core f) = walk.of_refuse wrong_argument (λ e. omega arith)
      macro_value_walks (variable c x) = walk.of_refuse wrong_argument (λ e. omega arith)
      macro_value_walks (macro v) = walk.of_done v
      macro_value_walks stopped = walk.of_refuse wrong_argument (λ e. omega arith)
      macro_value_walks unknown = walk.of_refuse wrong_argument (λ e. omega arith)

      value_of_walks : (here : Surroundings) (i : Id) → P _ (value_of here i)
      unfolding value_of
      value_of_walks here i =
          walk.in_turn (resolve_at here.phase i.sets i.symb) _ (resolves here.phase i.sets i.symb) (λ n. macro_value_walks (meaning_among n here.meanings here.stops))

      stop_names_walks : (here : Surroundings) (l : List Id) → P _ (stop_names here l)
      unfolding stop_names
      stop_names_walks here [] = walk.of_done []
      stop_names_walks here (i ∷ l) =
          walk.in_turn (resolve_at here.phase i.sets i.symb) _ (resolves here.phase i.sets i.symb) (λ n.
          walk.in_turn (unless wrong_argument (known (meaning n here.meanings))) _ (unless_walks wrong_argument (λ e. omega arith) (known (meaning n here.meanings))) (λ u.
          walk.in_turn (stop_names here l) _ (stop_names_walks here l) (λ r. walk.of_done (n ∷ r))))

      fit_to_bind_walks : (ph : ℕ) (i : Id) → P _ (fit_to_bind ph i)
      unfolding fit_to_bind
      fit_to_bind_walks ph i =
          walk.in_turn uses_now _ makes.of_uses_now (λ u.
          walk.in_turn (prune_from u ph (atom i.sets (symbol i.symb))) _ (prune_from_walks u ph (atom i.sets (symbol i.symb))) (λ y. walk.of_done (stx y)))

      expand_within_walks : (expander : Expander) → Steady expander → (intro : ℕ) (here : Surroundings) (x : Stx) (l : List Id) → P _ (expand_within expander intro here x l)
      unfolding expand_within
      expand_within_walks expander steady intro here x l =
          walk.in_turn (stop_names here l) _ (stop_names_walks here l) (λ z.
          walk.in_turn (flip_in intro here.phase x) _ (flip_in_walks intro here.phase x) (λ y.
          walk.in_turn (expander (with_stops z here) y) _ (steady (with_stops z here) y) (λ r.
          walk.in_turn (flip_in intro here.phase r) _ (flip_in_walks intro here.phase r) (λ b. walk.of_done (stx b)))))

      pub apply_local_walks : (expander : Expander) → Steady expander → (place : Place) (p : Local) (a b : Tree) → P _ (apply_local expander place p a b)
      unfolding apply_local
      apply_local_walks expander steady nowhere p a b = nowhere_walks expander p a b
      apply_local_walks expander steady (macro_use intro here) meaning_of a b = or_wrong_kind_walks (as_id a) _ (value_of_walks here)
      apply_local_walks expander steady (macro_use intro here) expand_in a b =
          or_wrong_kind_walks (as_stx a) _ (λ x. or_wrong_kind_walks (given (as_list b) as_ids) _ (expand_within_walks expander steady intro here x))
      apply_local_walks expander steady (macro_use intro here) binder_of a b = or_wrong_kind_walks (as_id a) _ (fit_to_bind_walks here.phase)

      -- ---- forms

      expand_all_walks : (self : Stx → Step Stx) → ((x : Stx) → P _ (self x)) → (l : Stxs) → P _ (expand_all self l)
      unfolding expand_all
      expand_all_walks self h nil = walk.of_done nil
      expand_all_walks self h (cons x l) =
          walk.in_turn (self x) _ (h x) (λ t. walk.in_turn (expand_all self l) _ (expand_all_walks self h l) (λ r. walk.of_done (cons t r)))

      module _ (self : Expander) (steady : Steady self) (value : Evaluator) (settled : Settled value) where
        inside_walks : (f : Scopes → Scopes) (here : Surroundings) (x : Stx) → P _ (inside f (self here x))
        inside_walks f here x = makes.of_inside f (self here x) (steady here x)

        application_walks : (here : Surroundings) (c : Sets) (l : Stxs) → P _ (expand_application self here c l)
        unfolding expand_application
        application_walks here c l =
            walk.in_turn (expand_all (λ x. inside (λ p. p) (self here x)) l) _ (expand_all_walks _ (inside_walks (λ p. p) here) l) (λ r. made_walks (list c r))

        function_walks : (here : Surroundings) (c : Sets) (h : Stx) (ci : Sets) (x : ℕ) (body : Stx) → P _ (expand_function self here c h ci x body)
        unfolding expand_function
        function_walks here c h ci x body =
            walk.in_turn (bind_fresh here.phase ci x) _ (bind_fresh_walks here.phase ci x) (λ b.
            walk.in_turn (add_to b.scope here.phase body) _ (add_to_walks b.scope here.phase body) (λ i.
            walk.in_turn (inside (add b.scope) (self (of_body b (variable b.sets x) here) i)) _ (inside_walks (add b.scope) _ i) (λ o. made_walks (list c (cons h (cons (atom b.sets (symbol x)) (cons o nil)))))))

        binding_walks : (d : ℕ) (here : Surroundings) (ci : Sets) (x : ℕ) (rhs body : Stx) → P _ (expand_binding self value d here ci x rhs body)
        unfolding expand_binding
        binding_walks d here ci x rhs body =
            walk.in_turn (bind_fresh here.phase ci x) _ (bind_fresh_walks here.phase ci x) (λ b.
            walk.in_turn (unless no_phase (leb (here.phase + 1) last_phase)) _ (unless_walks no_phase (λ e. omega arith) (leb (here.phase + 1) last_phase)) (λ u.
            walk.in_turn (inside (λ p. no_scopes) (self (of_right_hand_side here) rhs)) _ (inside_walks (λ p. no_scopes) (of_right_hand_side here) rhs) (λ r.
            walk.in_turn (parse d (here.phase + 1) r) _ (parse_walks d (here.phase + 1) r) (λ t.
            walk.in_turn (value nowhere t) _ (settled nowhere t) (λ v.
            walk.in_turn (add_to b.scope here.phase body) _ (add_to_walks b.scope here.phase body) (λ i. inside_walks (add b.scope) _ i))))))

        macro_walks : (here : Surroundings) (v : Tree) (form : Stx) → P _ (expand_macro self value here v form)
        unfolding expand_macro
        macro_walks here v form =
            walk.in_turn fresh_scope _ makes.of_fresh_scope (λ outer.
            walk.in_turn fresh_scope _ makes.of_fresh_scope (λ intro.
            walk.in_turn (add_to outer here.phase form) _ (add_to_walks outer here.phase form) (λ used.
            walk.in_turn (flip_in intro here.phase used) _ (flip_in_walks intro here.phase used) (λ marked.
            walk.in_turn (use_scope outer) _ (makes.of_use_scope outer) (λ u.
            walk.in_turn (value (macro_use intro here) (app v (tcons (stx marked) tnil))) _ (settled (macro_use intro here) _) (λ r.
            walk.in_turn (or_no_syntax (as_stx r)) _ (or_no_syntax_walks (as_stx r)) (λ s.
            walk.in_turn (flip_in intro here.phase s) _ (flip_in_walks intro here.phase s) (λ back. steady here back))))))))

        form_walks : (d : ℕ) (here : Surroundings) (c : Sets) (h : Stx) (l : Stxs) (m : Meaning) → P _ (expand_form self value d here c h l m)
        unfolding expand_form expand_lambda expand_let_syntax expand_syntax
        form_walks d here c h l (core lambda) =
            parts2_walks l _ (λ i body. identifier_walks i _ (λ ci x. function_walks here c h ci x body))
        form_walks d here c h l (core let_syntax) =
            parts3_walks l _ (λ i rhs body. identifier_walks i _ (λ ci x. binding_walks d here ci x rhs body))
        form_walks d here c h l (core quote) = parts1_walks l _ (λ s. walk.of_done (list c (cons h l)))
        form_walks d here c h l (core syntax) =
            parts1_walks l _ (λ s.
            walk.in_turn prunable_now _ makes.of_prunable_now (λ p.
            walk.in_turn (prune_from p here.phase s) _ (prune_from_walks p here.phase s) (λ t. walk.of_done _)))
        form_walks d here c h l (variable b x) = application_walks here c (cons h l)
        form_walks d here c h l (macro v) = macro_walks here v (list c (cons h l))
        form_walks d here c h l stopped = walk.of_done (list c (cons h l))
        form_walks d here c h l unknown = application_walks here c (cons h l)

        pub expand_entry_walks : (d : ℕ) (here : Surroundings) (x : Stx) → P _ (expand_entry self value d here x)
        unfolding expand_entry
        expand_entry_walks d here (atom c (symbol x)) =
            walk.in_turn (resolve_at here.phase c x) _ (resolves here.phase c x) (λ n. expand_name_walks (meaning_among n here.meanings here.stops))
        expand_entry_walks d here (atom c (number x)) = walk.of_done _
        expand_entry_walks d here (atom c (point x)) = walk.of_done _
        expand_entry_walks d here (atom c (prim x)) = walk.of_done _
        expand_entry_walks d here (atom c (rung x)) = walk.of_done _
        expand_entry_walks d here (list c nil) = no_rule_walks
        expand_entry_walks d here (list c (cons h l)) =
            walk.in_turn (head_meaning here h) _ (head_meaning_walks here h) (λ m. form_walks d here c h l m)

      mutual
        unfolding expand

        pub evaluate_walks : (d : ℕ) (place : Place) (t : Tree) → P _ (evaluate d place t)
        evaluate_walks zero place t = too_many_entries_walks
        evaluate_walks (suc d) place t =
            walk.in_turn (charge 1) _ (walk.of_charge 1) (λ u.
            eval_entry_walks (λ there x. evaluate d there x) (λ there x. expand d there x) place (λ x. evaluate_walks d place x)
            (apply_local_walks (λ there x. expand d there x) (λ there x. expand_walks d there x) place) t)

        pub expand_walks : (d : ℕ) (here : Surroundings) (x : Stx) → P _ (expand d here x)
        expand_walks zero here x = too_many_entries_walks
        expand_walks (suc d) here x =
            walk.in_turn (charge 1) _ (walk.of_charge 1) (λ u.
            expand_entry_walks (λ there y. expand d there y) (λ there y. expand_walks d there y) (λ there y. evaluate d there y) (λ there y. evaluate_walks d there y) d here x)

      pub expand_root_walks : (ph : ℕ) (x : Stx) → P _ (expand_root ph x)
      unfolding expand_root
      expand_root_walks ph x = walk.in_turn (charge (size x)) _ (walk.of_charge (size x)) (λ u. expand_walks most_entries (of_root ph) x)
