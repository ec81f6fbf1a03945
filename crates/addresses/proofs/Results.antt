-- What a successful expansion gives, and each kind of result: it keeps the limits, and it parses, whatever is bound later, to a tree
-- whose variables have their functions and whose functions' names rise from the names reached before.
use mathlib.Core.Path.{◌≡◌, refl, sym, ap, ◌∙◌, subst}
use Prim.Native.Nat.{ℕ, zero, suc, ◌+◌, ◌^◌, ◌≤◌, ◌<◌, zero-le, suc-le-suc, max}
use native.Mathlib.Nat.{le_refl, le_trans, le_of_eq, not-suc-le-zero, le_of_suc-le-suc, le-max_left, le-max_right, max-le}
use native.Mathlib.Omega.{arith}
use mathlib.Core.Bool.{true}
use mathlib.Core.Option.{none, some}
use mathlib.Core.List.{List, [], ◌∷◌, ◌++◌}
use lib.ListN.{length}
use Rattle.model.specs.Limits.{most_nesting, most_names}
use Rattle.model.specs.Objects.{Atom, symbol, number, point, prim, rung, Sets, set_at, Stx, atom, list, Stxs, nil, cons, count, size, nesting, nestings}
use Rattle.model.specs.Trees.{Tree, var, app, fun, datum, stx, Trees, tnil, tcons, tcount, tnesting, tnestings, strip, strip_all}
use Rattle.model.specs.Resolving.{Bind}
use Rattle.model.specs.Writing.{stx_bytes, stxs_bytes, tree_bytes, trees_bytes}
use Rattle.model.specs.Meanings.{lambda, quote, syntax, Env, extend, variable, is_among, Surroundings}
use Rattle.model.specs.Steps.{State, ok, resolve_at, parts1, parts2, identifier}
use Rattle.model.specs.Parsing.{head_form, parse_all, parse_form, parse_entry, parse}
use Rattle.model.specs.Expanding.{Binder}
use Rattle.model.specs.Jobs.{closed, closed_all}
use Rattle.laws.specs.Ordered.{SetsIn}
use Rattle.laws.proofs.Stable.{Later, later_trans, later_in}
use Rattle.laws.proofs.StepLaws.{spend}
use Rattle.codec_laws.specs.WellFormed.{StxFits, StxsFit, TreeFits, TreesFit}
use Rattle.addresses.specs.OneNameOneAddress.{function_names, function_names_all}
use Rattle.addresses.proofs.Outcomes.{Kept}
use Rattle.addresses.proofs.Fitting.{sets_more, stx-more, tree-more, strip-fits, strip-nesting}
use Rattle.laws.proofs.Tests.{both_true}
use Rattle.addresses.proofs.Owned.{strip-closed}
use Rattle.addresses.proofs.States.{StateFits, Grows, grows-refl, grows_trans, kept-grows, binds_in, Bound}
use Rattle.addresses.proofs.Meanings.{vars, MeaningGood, Stays, form_of_none, binder_resolves_to_its_name}
use Rattle.addresses.proofs.Costs.{Costs, free, charge_costs, costs_then, costs_map}
use Rattle.addresses.proofs.Shorter.{var_shorter, datum_shorter, quote_shorter, syntax_shorter, function_shorter, application_shorter, none_shorter, trees_shorter}

-- ---- names that rise

-- strictly ascending, from lo on and below hi
abbrev pub Rise : ℕ → ℕ → List ℕ → Type 0
Rise lo hi [] = lo ≤ hi
Rise lo hi (n ∷ l) = (lo ≤ n) × Rise (suc n) hi l

pub rise_lower : (lo lo' hi : ℕ) (l : List ℕ) → lo ≤ lo' → Rise lo' hi l → Rise lo hi l
rise_lower lo lo' hi [] h r = le_trans h r
rise_lower lo lo' hi (n ∷ l) h r = (le_trans h r.0, r.1)

rise_append : (lo mid hi : ℕ) (a b : List ℕ) → Rise lo mid a → Rise mid hi b → Rise lo hi (a ++ b)
rise_append lo mid hi [] b p q = rise_lower lo mid hi b p q
rise_append lo mid hi (n ∷ a) b p q = (p.0, rise_append (suc n) mid hi a b p.1 q)

-- stripped data has no functions
mutual
  unfolding strip function_names

  strip-names : (s : Stx) → function_names (strip s) ≡ []
  strip-names (atom c a) = refl
  strip-names (list c l) = strip_all-names l

  strip_all-names : (l : Stxs) → function_names_all (strip_all l) ≡ []
  strip_all-names nil = refl
  strip_all-names (cons s l) = rw (strip-names s) (strip_all-names l)

-- ---- parsing each kind of result, with m further entries to spare

-- what follows an entry's charge
entry_costs : {t : Tree} {u : ℕ} (m ph : ℕ) (x : Stx) (st : State) → Costs Tree t u (spend 1 st) (parse_entry (λ y. parse m ph y) ph x (spend 1 st))
    → Costs Tree t (1 + u) st (parse (suc m) ph x st)
unfolding parse
entry_costs m ph x st h = costs_then _ (charge_costs 1 st) h

id_entry : (m ph : ℕ) (c : Sets) (x n : ℕ) (s : State) → resolve_at ph c x s ≡ ok n s
    → Costs Tree (var n) 0 s (parse_entry (λ y. parse m ph y) ph (atom c (symbol x)) s)
unfolding parse_entry
id_entry m ph c x n s q = rw q (free (var n) s)

atom_entry : (m ph : ℕ) (c : Sets) (a : Atom) (s : State) → ((x : ℕ) → a ≡ symbol x → ⊥)
    → Costs Tree (datum a) 0 s (parse_entry (λ y. parse m ph y) ph (atom c a) s)
unfolding parse_entry
atom_entry m ph c (symbol x) s h = absurd (h x refl)
atom_entry m ph c (number x) s h = free (datum (number x)) s
atom_entry m ph c (point x) s h = free (datum (point x)) s
atom_entry m ph c (prim x) s h = free (datum (prim x)) s
atom_entry m ph c (rung x) s h = free (datum (rung x)) s

lambda_entry : (m ph : ℕ) (c b : Sets) (h out : Stx) (y n u : ℕ) (t : Tree) (s : State) → head_form ph h s ≡ ok (some lambda) s
    → resolve_at ph b y s ≡ ok n s → Costs Tree t u s (parse m ph out s)
    → Costs Tree (fun n t) u s (parse_entry (λ z. parse m ph z) ph (list c (cons h (cons (atom b (symbol y)) (cons out nil)))) s)
unfolding parse_entry parse_form parts2 identifier
lambda_entry m ph c b h out y n u t s p q r = rw (p, q) (costs_map (fun n) r)

quote_entry : (m ph : ℕ) (c : Sets) (h d : Stx) (s : State) → head_form ph h s ≡ ok (some quote) s
    → Costs Tree (strip d) (size d) s (parse_entry (λ z. parse m ph z) ph (list c (cons h (cons d nil))) s)
unfolding parse_entry parse_form parts1
quote_entry m ph c h d s p = rw p (costs_map (λ v. strip d) (charge_costs (size d) s))

syntax_entry : (m ph : ℕ) (c : Sets) (h d : Stx) (s : State) → head_form ph h s ≡ ok (some syntax) s
    → Costs Tree (stx d) 0 s (parse_entry (λ z. parse m ph z) ph (list c (cons h (cons d nil))) s)
unfolding parse_entry parse_form parts1
syntax_entry m ph c h d s p = rw p (free (stx d) s)

app_entry : (m ph : ℕ) (c : Sets) (h : Stx) (l : Stxs) (u v : ℕ) (t : Tree) (ts : Trees) (s : State) → head_form ph h s ≡ ok none s
    → Costs Tree t u s (parse m ph h s) → Costs Trees ts v (spend u s) (parse_all (λ x. parse m ph x) l (spend u s))
    → Costs Tree (app t ts) (u + v) s (parse_entry (λ z. parse m ph z) ph (list c (cons h l)) s)
unfolding parse_entry parse_form
app_entry m ph c h l u v t ts s p q r = rw p (costs_then _ q (costs_map (app t) r))

parse-id : (m ph : ℕ) (c : Sets) (x n : ℕ) (st : State) → resolve_at ph c x (spend 1 st) ≡ ok n (spend 1 st)
    → Costs Tree (var n) 1 st (parse (suc m) ph (atom c (symbol x)) st)
parse-id m ph c x n st q = entry_costs m ph (atom c (symbol x)) st (id_entry m ph c x n (spend 1 st) q)

parse-atom : (m ph : ℕ) (c : Sets) (a : Atom) (st : State) → ((x : ℕ) → a ≡ symbol x → ⊥) → Costs Tree (datum a) 1 st (parse (suc m) ph (atom c a) st)
parse-atom m ph c a st h = entry_costs m ph (atom c a) st (atom_entry m ph c a (spend 1 st) h)

parse-lambda : (m ph : ℕ) (c b : Sets) (h out : Stx) (y n u : ℕ) (t : Tree) (st : State)
    → head_form ph h (spend 1 st) ≡ ok (some lambda) (spend 1 st) → resolve_at ph b y (spend 1 st) ≡ ok n (spend 1 st)
    → Costs Tree t u (spend 1 st) (parse m ph out (spend 1 st))
    → Costs Tree (fun n t) (1 + u) st (parse (suc m) ph (list c (cons h (cons (atom b (symbol y)) (cons out nil)))) st)
parse-lambda m ph c b h out y n u t st p q r =
    entry_costs m ph (list c (cons h (cons (atom b (symbol y)) (cons out nil)))) st (lambda_entry m ph c b h out y n u t (spend 1 st) p q r)

parse-quote : (m ph : ℕ) (c : Sets) (h d : Stx) (st : State) → head_form ph h (spend 1 st) ≡ ok (some quote) (spend 1 st)
    → Costs Tree (strip d) (1 + size d) st (parse (suc m) ph (list c (cons h (cons d nil))) st)
parse-quote m ph c h d st p = entry_costs m ph (list c (cons h (cons d nil))) st (quote_entry m ph c h d (spend 1 st) p)

parse-syntax : (m ph : ℕ) (c : Sets) (h d : Stx) (st : State) → head_form ph h (spend 1 st) ≡ ok (some syntax) (spend 1 st)
    → Costs Tree (stx d) 1 st (parse (suc m) ph (list c (cons h (cons d nil))) st)
parse-syntax m ph c h d st p = entry_costs m ph (list c (cons h (cons d nil))) st (syntax_entry m ph c h d (spend 1 st) p)

parse-app : (m ph : ℕ) (c : Sets) (h : Stx) (l : Stxs) (u v : ℕ) (t : Tree) (ts : Trees) (st : State)
    → head_form ph h (spend 1 st) ≡ ok none (spend 1 st) → Costs Tree t u (spend 1 st) (parse m ph h (spend 1 st))
    → Costs Trees ts v (spend u (spend 1 st)) (parse_all (λ x. parse m ph x) l (spend u (spend 1 st)))
    → Costs Tree (app t ts) (1 + (u + v)) st (parse (suc m) ph (list c (cons h l)) st)
parse-app m ph c h l u v t ts st p q r = entry_costs m ph (list c (cons h l)) st (app_entry m ph c h l u v t ts (spend 1 st) p q r)

parse-cons : (m ph : ℕ) (x : Stx) (l : Stxs) (u v : ℕ) (t : Tree) (ts : Trees) (st : State)
    → Costs Tree t u st (parse m ph x st) → Costs Trees ts v (spend u st) (parse_all (λ y. parse m ph y) l (spend u st))
    → Costs Trees (tcons t ts) (u + v) st (parse_all (λ y. parse m ph y) (cons x l) st)
unfolding parse_all
parse-cons m ph x l u v t ts st q r = costs_then _ q (costs_map (tcons t) r)

parse-none : (m ph : ℕ) (st : State) → Costs Trees tnil 0 st (parse_all (λ x. parse m ph x) nil st)
unfolding parse_all
parse-none m ph st = free tnil st

-- ---- where k symbols are declared

module _ (k : ℕ) where
  -- what expanding gives: r and the state s', from the state s, with d entries to spare and the meanings e
  pub record Expanded (d ph : ℕ) (e : Env) (s : State) (r : Stx) (s' : State) : Type 0 where
    pub grows : Grows k s s'
    pub fits : StxFits k s'.scopes r
    pub shallow : nesting r ≤ most_nesting
    -- the tree that it parses to, at what cost: with at least as many entries to spare as expanding had, and whatever is bound later
    pub tree : Tree
    pub cost : ℕ
    pub parses : (m : ℕ) → d ≤ m → (st : State) → Later s'.scopes s'.binds st.binds → Costs Tree tree cost st (parse m ph r st)
    pub tree-fits : TreeFits k s'.names s'.scopes tree
    pub tree-shallow : tnesting tree ≤ nesting r
    pub tree_shorter : length (tree_bytes tree) ≤ length (stx_bytes r)
    -- each variable has its function, here or among the meanings
    pub owned : closed (vars e) tree ≡ true
    pub rises : Rise s.names s'.names (function_names tree)
    -- as the head of a list it makes no form
    pub plain : (st : State) → Later s'.scopes s'.binds st.binds → head_form ph r st ≡ ok none st

  -- work before, and perhaps fewer entries to spare
  pub expanded_after : (d d' ph : ℕ) (e : Env) (s t s' : State) (r : Stx) → d ≤ d' → Grows k s t → Expanded d ph e t r s' → Expanded d' ph e s r s'
  expanded_after d d' ph e s t s' r le w g = record {
    grows = grows_trans k s t s' w g.grows;
    fits = g.fits;
    shallow = g.shallow;
    tree = g.tree;
    cost = g.cost;
    parses = λ m h. g.parses m (le_trans le h);
    tree-fits = g.tree-fits;
    tree-shallow = g.tree-shallow;
    tree_shorter = g.tree_shorter;
    owned = g.owned;
    rises = rise_lower s.names t.names s'.names (function_names g.tree) w.names_le g.rises;
    plain = g.plain;
  }

  -- the same with meanings around that have the same variables
  pub expanded_vars : (d ph : ℕ) (e e' : Env) (s s' : State) (r : Stx) → vars e' ≡ vars e → Expanded d ph e' s r s' → Expanded d ph e s r s'
  expanded_vars d ph e e' s s' r q g = record {
    grows = g.grows;
    fits = g.fits;
    shallow = g.shallow;
    tree = g.tree;
    cost = g.cost;
    parses = g.parses;
    tree-fits = g.tree-fits;
    tree-shallow = g.tree-shallow;
    tree_shorter = g.tree_shorter;
    owned = ap (λ (z : List ℕ). closed z g.tree) (sym q) ∙ g.owned;
    rises = g.rises;
    plain = g.plain;
  }

  -- the prunable set and the use scopes differ afterwards
  pub expanded_kept : (d ph : ℕ) (e : Env) (s t u : State) (r : Stx) → Kept t u → Expanded d ph e s r t → Expanded d ph e s r u
  expanded_kept d ph e s t u r kp g = record {
    grows = grows_trans k s t u g.grows w;
    fits = stx-more k w.scopes_le r g.fits;
    shallow = g.shallow;
    tree = g.tree;
    cost = g.cost;
    parses = λ m h st l. g.parses m h st (back st l);
    tree-fits = tree-more k w.names_le w.scopes_le g.tree g.tree-fits;
    tree-shallow = g.tree-shallow;
    tree_shorter = g.tree_shorter;
    owned = g.owned;
    rises = subst (λ (z : ℕ). Rise s.names z (function_names g.tree)) kp.names-is g.rises;
    plain = λ st l. g.plain st (back st l);
  }
    where
      w : Grows k t u
      w = kept-grows k t u kp

      back : (st : State) → Later u.scopes u.binds st.binds → Later t.scopes t.binds st.binds
      back st l = later_trans t.scopes u.scopes t.binds u.binds st.binds w.scopes_le w.later l

  pub expanded_same : (d ph : ℕ) (e : Env) (s t u : State) (x y : Stx) → t ≡ u → x ≡ y → Expanded d ph e s x t → Expanded d ph e s y u
  expanded_same d ph e s t u x y a b w = subst (λ (z : Stx). Expanded d ph e s z u) b (subst (λ (z : State). Expanded d ph e s x z) a w)

  later_spend : (s st : State) (u : ℕ) → Later s.scopes s.binds st.binds → Later s.scopes s.binds (spend u st).binds
  unfolding spend
  later_spend s st u w = w

  atom-shallow : (c : Sets) (a : Atom) → nesting (atom c a) ≤ most_nesting
  unfolding nesting most_nesting
  atom-shallow c a = omega arith

  -- ---- a variable

  variable-plain : (ph n : ℕ) (c : Sets) (x : ℕ) (s st : State) → StateFits k s → MeaningGood k ph n s (variable c x)
      → Later s.scopes s.binds st.binds → head_form ph (atom c (symbol x)) st ≡ ok none st
  unfolding head_form
  variable-plain ph n c x s st g v w = rw (binder_resolves_to_its_name k ph n c x s st g v.1 w, form_of_none n v.0)

  pub variable_expanded : (d ph n : ℕ) (e : Env) (c : Sets) (x : ℕ) (s : State) → StateFits k s → MeaningGood k ph n s (variable c x)
      → is_among n (vars e) ≡ true → Expanded (suc d) ph e s (atom c (symbol x)) s
  unfolding function_names closed nesting tnesting most_names
  variable_expanded d ph n e c x s g v a = record {
    grows = grows-refl k s;
    fits = (v.2, binding.0);
    shallow = atom-shallow c (symbol x);
    tree = var n;
    cost = 1;
    parses = par;
    tree-fits = binding.1;
    tree-shallow = le_refl 1;
    tree_shorter = var_shorter n c x (omega (arith, binding.1, g.names-to));
    owned = a;
    rises = le_refl s.names;
    plain = λ st w. variable-plain ph n c x s st g v w;
  }
    where
      binding : (x < k) × (n < s.names) × (set_at ph c < 2 ^ s.scopes)
      binding = binds_in k s.names s.scopes s.binds g.binds-fit (record { symb = x; target = n; set = set_at ph c }) v.1

      par : (m : ℕ) → suc d ≤ m → (st : State) → Later s.scopes s.binds st.binds → Costs Tree (var n) 1 st (parse m ph (atom c (symbol x)) st)
      par zero h st w = absurd (not-suc-le-zero h)
      par (suc m) h st w = parse-id m ph c x n st (binder_resolves_to_its_name k ph n c x s (spend 1 st) g v.1 (later_spend s st 1 w))

  -- ---- any other atom

  pub atom_expanded : (d ph : ℕ) (e : Env) (c : Sets) (a : Atom) (s : State) → StxFits k s.scopes (atom c a) → ((x : ℕ) → a ≡ symbol x → ⊥)
      → ((st : State) → head_form ph (atom c a) st ≡ ok none st) → Expanded (suc d) ph e s (atom c a) s
  unfolding function_names closed nesting tnesting
  atom_expanded d ph e c a s i h hd = record {
    grows = grows-refl k s;
    fits = i;
    shallow = atom-shallow c a;
    tree = datum a;
    cost = 1;
    parses = par;
    tree-fits = i.1;
    tree-shallow = le_refl 1;
    tree_shorter = datum_shorter c a;
    owned = refl;
    rises = le_refl s.names;
    plain = λ st w. hd st;
  }
    where
      par : (m : ℕ) → suc d ≤ m → (st : State) → Later s.scopes s.binds st.binds → Costs Tree (datum a) 1 st (parse m ph (atom c a) st)
      par zero l st w = absurd (not-suc-le-zero l)
      par (suc m) l st w = parse-atom m ph c a st h

  -- ---- quote and syntax

  list-plain : (ph : ℕ) (c : Sets) (l : Stxs) (st : State) → head_form ph (list c l) st ≡ ok none st
  unfolding head_form
  list-plain ph c l st = refl

  -- the second part of a list is less deep than it
  pub second-nesting : (c : Sets) (h x : Stx) (l : Stxs) → suc (nesting x) ≤ nesting (list c (cons h (cons x l)))
  unfolding nesting
  second-nesting c h x l =
      suc-le-suc (le_trans (le-max_left (nesting x) (nestings l)) (le-max_right (nesting h) (nestings (cons x l))))

  pub body_nesting : (c : Sets) (h i out : Stx) → suc (nesting out) ≤ nesting (list c (cons h (cons i (cons out nil))))
  unfolding nesting
  body_nesting c h i out =
      suc-le-suc (le_trans (le-max_left (nesting out) (nestings nil)) (le_trans (le-max_right (nesting i) (nestings (cons out nil))) (le-max_right (nesting h) (nestings (cons i (cons out nil))))))

  up : (n : ℕ) → n ≤ suc n
  up n = omega arith

  pub quote_expanded : (d ph : ℕ) (e : Env) (c : Sets) (h x : Stx) (s : State) → StxFits k s.scopes (list c (cons h (cons x nil)))
      → nesting (list c (cons h (cons x nil))) ≤ most_nesting → Stays k ph h quote s → Expanded (suc d) ph e s (list c (cons h (cons x nil))) s
  quote_expanded d ph e c h x s i n hd = record {
    grows = grows-refl k s;
    fits = i;
    shallow = n;
    tree = strip x;
    cost = 1 + size x;
    parses = par;
    tree-fits = strip-fits k s.names s.scopes x i.1.1.0;
    tree-shallow = le_trans (le_of_eq (strip-nesting x)) (le_trans (up (nesting x)) (second-nesting c h x nil));
    tree_shorter = quote_shorter c h x;
    owned = strip-closed (vars e) x;
    rises = subst (λ (z : List ℕ). Rise s.names s.names z) (sym (strip-names x)) (le_refl s.names);
    plain = λ st w. list-plain ph c (cons h (cons x nil)) st;
  }
    where
      par : (m : ℕ) → suc d ≤ m → (st : State) → Later s.scopes s.binds st.binds
          → Costs Tree (strip x) (1 + size x) st (parse m ph (list c (cons h (cons x nil))) st)
      par zero l st w = absurd (not-suc-le-zero l)
      par (suc m) l st w = parse-quote m ph c h x st (hd (spend 1 st) (later_spend s st 1 w))

  pub syntax_expanded : (d ph : ℕ) (e : Env) (c : Sets) (h x : Stx) (s : State) → StxFits k s.scopes (list c (cons h (cons x nil)))
      → nesting (list c (cons h (cons x nil))) ≤ most_nesting → Stays k ph h syntax s → Expanded (suc d) ph e s (list c (cons h (cons x nil))) s
  unfolding function_names closed tnesting
  syntax_expanded d ph e c h x s i n hd = record {
    grows = grows-refl k s;
    fits = i;
    shallow = n;
    tree = stx x;
    cost = 1;
    parses = par;
    tree-fits = i.1.1.0;
    tree-shallow = le_trans (up (nesting x)) (second-nesting c h x nil);
    tree_shorter = syntax_shorter c h x;
    owned = refl;
    rises = le_refl s.names;
    plain = λ st w. list-plain ph c (cons h (cons x nil)) st;
  }
    where
      par : (m : ℕ) → suc d ≤ m → (st : State) → Later s.scopes s.binds st.binds → Costs Tree (stx x) 1 st (parse m ph (list c (cons h (cons x nil))) st)
      par zero l st w = absurd (not-suc-le-zero l)
      par (suc m) l st w = parse-syntax m ph c h x st (hd (spend 1 st) (later_spend s st 1 w))

  -- ---- the parts of an application

  pub record ExpandedAll (d ph : ℕ) (e : Env) (s : State) (l : Stxs) (s' : State) : Type 0 where
    pub grows : Grows k s s'
    pub fits : StxsFit k s'.scopes l
    pub trees : Trees
    pub cost : ℕ
    pub parses : (m : ℕ) → d ≤ m → (st : State) → Later s'.scopes s'.binds st.binds
        → Costs Trees trees cost st (parse_all (λ x. parse m ph x) l st)
    pub tree-fits : TreesFit k s'.names s'.scopes trees
    pub tree-shallow : tnestings trees ≤ nestings l
    pub tree_shorter : length (trees_bytes trees) ≤ length (stxs_bytes l)
    pub as_many : tcount trees ≡ count l
    pub owned : closed_all (vars e) trees ≡ true
    pub rises : Rise s.names s'.names (function_names_all trees)

  pub none_expanded : (d ph : ℕ) (e : Env) (s : State) → ExpandedAll d ph e s nil s
  unfolding function_names closed nesting tnesting tcount count
  none_expanded d ph e s = record {
    grows = grows-refl k s;
    fits = tt;
    trees = tnil;
    cost = 0;
    parses = λ m h st w. parse-none m ph st;
    tree-fits = tt;
    tree-shallow = zero-le;
    tree_shorter = none_shorter;
    as_many = refl;
    owned = refl;
    rises = le_refl s.names;
  }

  -- what is resolved from t on, where t grew to s', holds later than s'
  earlier : (t s' st : State) → Grows k t s' → Later s'.scopes s'.binds st.binds → Later t.scopes t.binds st.binds
  earlier t s' st w l = later_trans t.scopes s'.scopes t.binds s'.binds st.binds w.scopes_le w.later l

  pub max-both : {a b c d : ℕ} → a ≤ c → b ≤ d → max a b ≤ max c d
  max-both {c = c} {d = d} p q = max-le (le_trans p (le-max_left c d)) (le_trans q (le-max_right c d))

  pub cons_expanded : (d ph : ℕ) (e : Env) (s t s' : State) (x : Stx) (l : Stxs) → Expanded d ph e s x t → ExpandedAll d ph e t l s'
      → ExpandedAll d ph e s (cons x l) s'
  unfolding function_names closed nesting tnesting tcount count
  cons_expanded d ph e s t s' x l a b = record {
    grows = grows_trans k s t s' a.grows b.grows;
    fits = (stx-more k b.grows.scopes_le x a.fits, b.fits);
    trees = tcons a.tree b.trees;
    cost = a.cost + b.cost;
    parses = λ m h st w.
        parse-cons m ph x l a.cost b.cost a.tree b.trees st (a.parses m h st (earlier t s' st b.grows w))
        (b.parses m h (spend a.cost st) (later_spend s' st a.cost w));
    tree-fits = (tree-more k b.grows.names_le b.grows.scopes_le a.tree a.tree-fits, b.tree-fits);
    tree-shallow = max-both a.tree-shallow b.tree-shallow;
    tree_shorter = trees_shorter x l a.tree b.trees a.tree_shorter b.tree_shorter;
    as_many = ap suc b.as_many;
    owned = both_true (closed (vars e) a.tree) (closed_all (vars e) b.trees) a.owned b.owned;
    rises = rise_append s.names t.names s'.names (function_names a.tree) (function_names_all b.trees) a.rises b.rises;
  }

  pub application_expanded : (d ph : ℕ) (e : Env) (c : Sets) (s t s' : State) (h : Stx) (l : Stxs) → SetsIn s'.scopes c
      → nesting (list c (cons h l)) ≤ most_nesting → Expanded d ph e s h t → ExpandedAll d ph e t l s' → Expanded (suc d) ph e s (list c (cons h l)) s'
  unfolding function_names closed nesting tnesting
  application_expanded d ph e c s t s' h l i n a b = record {
    grows = grows_trans k s t s' a.grows b.grows;
    fits = (i, (stx-more k b.grows.scopes_le h a.fits, b.fits));
    shallow = n;
    tree = app a.tree b.trees;
    cost = 1 + (a.cost + b.cost);
    parses = par;
    tree-fits = (tree-more k b.grows.names_le b.grows.scopes_le a.tree a.tree-fits, b.tree-fits);
    tree-shallow = suc-le-suc (max-both a.tree-shallow b.tree-shallow);
    tree_shorter = application_shorter c h l a.tree b.trees b.as_many a.tree_shorter b.tree_shorter;
    owned = both_true (closed (vars e) a.tree) (closed_all (vars e) b.trees) a.owned b.owned;
    rises = rise_append s.names t.names s'.names (function_names a.tree) (function_names_all b.trees) a.rises b.rises;
    plain = λ st w. list-plain ph c (cons h l) st;
  }
    where
      par : (m : ℕ) → suc d ≤ m → (st : State) → Later s'.scopes s'.binds st.binds
          → Costs Tree (app a.tree b.trees) (1 + (a.cost + b.cost)) st (parse m ph (list c (cons h l)) st)
      par zero q st w = absurd (not-suc-le-zero q)
      par (suc m) q st w =
          let st₁ = spend 1 st in
          let w₁ : Later s'.scopes s'.binds st₁.binds = later_spend s' st 1 w in
          let w₀ : Later t.scopes t.binds st₁.binds = earlier t s' st₁ b.grows w₁ in
          parse-app m ph c h l a.cost b.cost a.tree b.trees st (a.plain st₁ w₀) (a.parses m (le_of_suc-le-suc q) st₁ w₀)
          (b.parses m (le_of_suc-le-suc q) (spend a.cost st₁) (later_spend s' st₁ a.cost w₁))

  -- ---- a function

  pub function_expanded : (d ph : ℕ) (e : Env) (c : Sets) (h : Stx) (x : ℕ) (b : Binder) (s t u s' : State) (out : Stx)
      → StateFits k s → SetsIn s.scopes c → StxFits k s.scopes h → x < k → Stays k ph h lambda s → Bound k ph x s b t → Kept t u
      → nesting (list c (cons h (cons (atom b.sets (symbol x)) (cons out nil)))) ≤ most_nesting
      → Expanded d ph (extend b.name (variable b.sets x) e) u out s'
      → Expanded (suc d) ph e s (list c (cons h (cons (atom b.sets (symbol x)) (cons out nil)))) s'
  unfolding function_names closed vars tnesting most_names
  function_expanded d ph e c h x b s t u s' out g i j hx hd bd kp n a = record {
    grows = all;
    fits = (sets_more all.scopes_le c i, (stx-more k all.scopes_le h j, ((sets_more from_t.scopes_le b.sets bd.sets_in, hx), (a.fits, tt))));
    shallow = n;
    tree = fun b.name a.tree;
    cost = 1 + a.cost;
    parses = par;
    tree-fits = (name_lt, a.tree-fits);
    tree-shallow = le_trans (suc-le-suc a.tree-shallow) (body_nesting c h (atom b.sets (symbol x)) out);
    tree_shorter = function_shorter c h (atom b.sets (symbol x)) out b.name a.tree (omega (arith, name_lt, (all.keeps g).names-to)) a.tree_shorter;
    owned = a.owned;
    rises = (le_of_eq (sym bd.name-is), rise_lower (suc b.name) u.names s'.names (function_names a.tree) (le_of_eq next) a.rises);
    plain = λ st w. list-plain ph c (cons h (cons (atom b.sets (symbol x)) (cons out nil))) st;
  }
    where
      from_t : Grows k t s'
      from_t = grows_trans k t u s' (kept-grows k t u kp) a.grows

      all : Grows k s s'
      all = grows_trans k s t s' bd.grows from_t

      next : suc b.name ≡ u.names
      next = ap suc bd.name-is ∙ sym bd.names-is ∙ kp.names-is

      name_lt : b.name < s'.names
      name_lt = le_trans (le_of_eq next) a.grows.names_le

      B : Bind
      B = record { symb = x; target = b.name; set = set_at ph b.sets }

      par : (m : ℕ) → suc d ≤ m → (st : State) → Later s'.scopes s'.binds st.binds
          → Costs Tree (fun b.name a.tree) (1 + a.cost) st (parse m ph (list c (cons h (cons (atom b.sets (symbol x)) (cons out nil)))) st)
      par zero q st w = absurd (not-suc-le-zero q)
      par (suc m) q st w =
          let st₁ = spend 1 st in
          let w₁ : Later s'.scopes s'.binds st₁.binds = later_spend s' st 1 w in
          parse-lambda m ph c b.sets h out x b.name a.cost a.tree st (hd st₁ (earlier s s' st₁ all w₁))
          (binder_resolves_to_its_name k ph b.name b.sets x s' st₁ (all.keeps g)
          (later_in t.scopes t.binds s'.binds from_t.later B bd.bound_in) w₁)
          (a.parses m (le_of_suc-le-suc q) st₁ w₁)

  -- ---- request T-08: with stops

  -- What expanding there gives. A form that is stopped inside stays as it is, so only where there are no stops is the result finished; with stops it
  -- is text like any other that keeps the limits.
  pub record Worked (d : ℕ) (here : Surroundings) (s : State) (r : Stx) (s' : State) : Type 0 where
    pub grows : Grows k s s'
    pub fits : StxFits k s'.scopes r
    pub shallow : nesting r ≤ most_nesting
    pub finished : here.stops ≡ [] → Expanded d here.phase here.meanings s r s'

  pub record WorkedAll (d : ℕ) (here : Surroundings) (s : State) (l : Stxs) (s' : State) : Type 0 where
    pub grows : Grows k s s'
    pub fits : StxsFit k s'.scopes l
    pub finished : here.stops ≡ [] → ExpandedAll d here.phase here.meanings s l s'

  pub worked : (d : ℕ) (here : Surroundings) (s : State) (r : Stx) (s' : State) → Expanded d here.phase here.meanings s r s' → Worked d here s r s'
  worked d here s r s' x = record { grows = x.grows; fits = x.fits; shallow = x.shallow; finished = λ q. x }

  pub worked-after : (d d' : ℕ) (here : Surroundings) (s t s' : State) (r : Stx) → d ≤ d' → Grows k s t → Worked d here t r s' → Worked d' here s r s'
  worked-after d d' here s t s' r le w g = record {
    grows = grows_trans k s t s' w g.grows;
    fits = g.fits;
    shallow = g.shallow;
    finished = λ q. expanded_after d d' here.phase here.meanings s t s' r le w (g.finished q);
  }

  pub worked_kept : (d : ℕ) (here : Surroundings) (s t u : State) (r : Stx) → Kept t u → Worked d here s r t → Worked d here s r u
  worked_kept d here s t u r kp g = record {
    grows = grows_trans k s t u g.grows (kept-grows k t u kp);
    fits = stx-more k (kept-grows k t u kp).scopes_le r g.fits;
    shallow = g.shallow;
    finished = λ q. expanded_kept d here.phase here.meanings s t u r kp (g.finished q);
  }

  pub worked_same : (d : ℕ) (here : Surroundings) (s t u : State) (x y : Stx) → t ≡ u → x ≡ y → Worked d here s x t → Worked d here s y u
  worked_same d here s t u x y a b w = subst (λ (v : Stx). Worked d here s v u) b (subst (λ (v : State). Worked d here s x v) a w)
