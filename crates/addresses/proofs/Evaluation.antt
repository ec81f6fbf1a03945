-- Evaluating keeps every limit and leaves no variable without its function; so it never comes to a free variable (code 3). Outside a macro use no
-- more than units are charged. In one, local expansion (request T-08) makes the state grow as expanding does; what it gives is text like any other:
-- nothing is claimed of it but the limits.
use mathlib.Core.Path.{◌≡◌, refl, ap, ◌∙◌, subst}
use Prim.Native.Nat.{ℕ, ◌≤◌}
use native.Mathlib.Nat.{le_trans}
use mathlib.Core.Bool.{false≢true}
use mathlib.Core.Option.{Option, none, some}
use mathlib.Core.List.{List, [], ◌∷◌}
use Rattle.model.specs.Choice.{given}
use Rattle.model.specs.Refusals.{not_applicable, wrong_argument, outside_use}
use Rattle.model.specs.Objects.{symbol, number, point, prim, rung, Stx, atom, list}
use Rattle.model.specs.Trees.{Tree, var, app, fun, datum, lst, stx, Trees, tnil, tcons, tcount, tsize, substitute, as_stx, as_list}
use Rattle.model.specs.Competing.{no_rivals}
use Rattle.model.specs.Meanings.{is_among, Meaning, core, variable, macro, stopped, unknown, meaning, meaning_among, Surroundings, with_stops, Place, nowhere, macro_use}
use Rattle.model.specs.Steps.{State, Out, ok, Step, after, charge, made_tree, flip_in, uses_now}
use Rattle.model.specs.Evaluating.{Local, meaning_of, expand_in, binder_of, Primitive, plain, local, primitive_of, primitive, or_wrong_kind, Expander, Id, id_of, as_id, as_ids, macro_value, value_of, known, stop_names, expand_within, fit_to_bind, apply_local, Evaluator, applicable, allowed, each_tree, argument, apply_primitive, apply, eval_entry}
use Rattle.model.specs.Jobs.{closed}
use Rattle.laws.specs.Ordered.{Sorted}
use Rattle.addresses.proofs.Outcomes.{Outcome, gives, stops, chain, weaken, Kept, kept_refl, kept_same, kept_trans, charge-out, unless-out, made_tree-out, flip_in-out, prune_from-out, resolve_at-out}
use Rattle.addresses.proofs.Evaluated.{TreeGood, ValueGood, TreesGood, ValuesGood, app-parts, primitive-made, argument-good, made-value, body_good, none≢some, some-value, given-some}
use Rattle.addresses.proofs.States.{StateFits, Grows, grows-refl, grows_trans, kept-grows}
use Rattle.addresses.proofs.Meanings.{EnvGood, env_grows, value_grows, macro-among}
use Rattle.addresses.proofs.Pieces.{Piece, flipped, pruned, value-piece, piece-value}

id-is : (x : Stx) (i : Id) → id_of x ≡ some i → x ≡ atom i.sets (symbol i.symb)
unfolding id_of
id-is (atom c (symbol n)) i e =
    let q : record { sets = c; symb = n } ≡ i = some-value (record { sets = c; symb = n }) i e in
    ap (λ (z : Id). atom z.sets (symbol z.symb)) q
id-is (atom c (number n)) i e = absurd (none≢some i e)
id-is (atom c (point n)) i e = absurd (none≢some i e)
id-is (atom c (prim n)) i e = absurd (none≢some i e)
id-is (atom c (rung n)) i e = absurd (none≢some i e)
id-is (list c l) i e = absurd (none≢some i e)

kind-out : {A : Type 0} {P : Tree → State → Type 0} (o : Option A) (f : A → Step Tree) (s : State) → ((a : A) → o ≡ some a → Outcome Tree P (f a s))
    → Outcome Tree P (or_wrong_kind o f s)
unfolding or_wrong_kind
kind-out none f s h = stops wrong_argument no_rivals s.left refl
kind-out (some a) f s h = h a refl

-- resolving stops changes nothing
stop_names-out : (here : Surroundings) (l : List Id) (s : State) → Sorted s.binds → Outcome (List ℕ) (λ z t. s ≡ t) (stop_names here l s)
unfolding stop_names
stop_names-out here [] s o = gives [] s refl
stop_names-out here (i ∷ l) s o =
    chain _ (resolve_at-out here.phase i.sets i.symb s o) (λ n t q.
    chain _ (unless-out wrong_argument refl (known (meaning n here.meanings)) t) (λ v u w.
    chain _ (stop_names-out here l u (subst (λ (z : State). Sorted z.binds) (q.1 ∙ w.1) o)) (λ r x y. gives (n ∷ r) x (q.1 ∙ w.1 ∙ y))))

-- ---- where k symbols are declared

module _ (k : ℕ) where
  -- a tree, a value, several of them, in the state s
  abbrev Good : State → Tree → Type 0
  Good s t = TreeGood k s.names s.scopes t

  abbrev Value : State → Tree → Type 0
  Value s v = ValueGood k s.names s.scopes v

  abbrev Values : State → Trees → Type 0
  Values s l = ValuesGood k s.names s.scopes l

  pub valued-grows : (s t : State) → Grows k s t → (v : Tree) → Value s v → Value t v
  valued-grows s t w v g = (value_grows k s t w v g.0, g.1)

  trees_grow : (s t : State) → Grows k s t → (l : Trees) → TreesGood k s.names s.scopes l → TreesGood k t.names t.scopes l
  trees_grow s t w tnil g = tt
  trees_grow s t w (tcons x l) g = (value_grows k s t w x g.0, trees_grow s t w l g.1)

  values_grow : (s t : State) → Grows k s t → (l : Trees) → Values s l → Values t l
  values_grow s t w tnil g = tt
  values_grow s t w (tcons x l) g = (valued-grows s t w x g.0, values_grow s t w l g.1)

  -- ---- places

  -- in a macro use the state keeps the limits, the introduction scope is reached, and the meanings are good
  abbrev pub PlaceGood : State → Place → Type 0
  PlaceGood s nowhere = Unit {0}
  PlaceGood s (macro_use intro here) = StateFits k s × (intro ≤ s.scopes) × EnvGood k here.phase s here.meanings

  pub place-grows : (s t : State) → Grows k s t → (a : Place) → PlaceGood s a → PlaceGood t a
  place-grows s t w nowhere g = tt
  place-grows s t w (macro_use intro here) g = (w.keeps g.0, le_trans g.1 w.scopes_le, env_grows k here.phase s t w here.meanings g.2)

  -- what evaluating there does to the state
  abbrev pub Moved : Place → State → State → Type 0
  Moved nowhere s t = Kept s t
  Moved (macro_use intro here) s t = Grows k s t

  pub moved-kept : (a : Place) (s t : State) → Kept s t → Moved a s t
  moved-kept nowhere s t w = w
  moved-kept (macro_use intro here) s t w = kept-grows k s t w

  moved_trans : (a : Place) (s t u : State) → Moved a s t → Moved a t u → Moved a s u
  moved_trans nowhere s t u p q = kept_trans p q
  moved_trans (macro_use intro here) s t u p q = grows_trans k s t u p q

  moved-grows : (a : Place) (s t : State) → Moved a s t → Grows k s t
  moved-grows nowhere s t w = kept-grows k s t w
  moved-grows (macro_use intro here) s t w = w

  -- a good value
  abbrev pub Gave : Place → State → Tree → State → Type 0
  Gave a s v u = ValueGood k u.names u.scopes v × Moved a s u

  abbrev pub EvalGood : Evaluator → Type 0
  EvalGood self = (a : Place) (t : Tree) (s : State) → PlaceGood s a → TreeGood k s.names s.scopes t → Outcome Tree (Gave a s) (self a t s)

  -- all that evaluating needs to know of an expansion
  abbrev pub ExpandKeeps : Expander → Type 0
  ExpandKeeps expander = (here : Surroundings) (x : Stx) (s : State) → StateFits k s → EnvGood k here.phase s here.meanings → Piece k s x
      → Outcome Stx (λ r u. Piece k u r × Grows k s u) (expander here x s)

  -- what came before
  pub since : (a : Place) (s u : State) → Moved a s u → {o : Out Tree} → Outcome Tree (Gave a u) o → Outcome Tree (Gave a s) o
  since a s u w h = weaken h (λ v z p. (p.0, moved_trans a s u z w p.1))

  pub kept_since : (a : Place) (s u : State) → Kept s u → {o : Out Tree} → Outcome Tree (Gave a u) o → Outcome Tree (Gave a s) o
  kept_since a s u w h = since a s u (moved-kept a s u w) h

  -- ---- local expansion

  id-piece : (s : State) (v : Tree) (i : Id) → Value s v → as_id v ≡ some i → Piece k s (atom i.sets (symbol i.symb))
  unfolding as_id
  id-piece s v i g e =
      let h = given-some (as_stx v) _ i e in
      subst (λ (z : Stx). Piece k s z) (id-is h.0 i h.2) (value-piece k s v h.0 g.0 h.1)

  stx-value : (s : State) (x : Stx) → Piece k s x → Value s (stx x)
  stx-value s x i = (piece-value k s x i, tt)

  module _ (intro : ℕ) (here : Surroundings) where
    macro_value-out : (m : Meaning) (s : State) → ((v : Tree) → m ≡ macro v → ValueGood k s.names s.scopes v) → Outcome Tree (Gave (macro_use intro here) s) (macro_value m s)
    unfolding macro_value
    macro_value-out (core f) s h = stops wrong_argument no_rivals s.left refl
    macro_value-out (variable c x) s h = stops wrong_argument no_rivals s.left refl
    macro_value-out (macro v) s h = gives v s (h v refl, grows-refl k s)
    macro_value-out stopped s h = stops wrong_argument no_rivals s.left refl
    macro_value-out unknown s h = stops wrong_argument no_rivals s.left refl

    value_of_out : (i : Id) (s : State) → PlaceGood s (macro_use intro here) → Outcome Tree (Gave (macro_use intro here) s) (value_of here i s)
    unfolding value_of
    value_of_out i s g =
        chain _ (resolve_at-out here.phase i.sets i.symb s g.0.ascending) (λ n t q.
        kept_since (macro_use intro here) s t (kept_same q.1) (macro_value-out (meaning_among n here.meanings here.stops) t (λ v p.
        macro-among k here.phase t n here.meanings here.stops (subst (λ (y : State). EnvGood k here.phase y here.meanings) q.1 g.2) v p)))

    fit_to_bind-out : (i : Id) (s : State) → Piece k s (atom i.sets (symbol i.symb)) → Outcome Tree (Gave (macro_use intro here) s) (fit_to_bind here.phase i s)
    unfolding fit_to_bind uses_now
    fit_to_bind-out i s g =
        chain _ (prune_from-out s.uses here.phase (atom i.sets (symbol i.symb)) s) (λ y t f.
        gives (stx y) t (stx-value t y (pruned k s.uses here.phase (atom i.sets (symbol i.symb)) y s t g f), kept-grows k s t f.1))

    expand_within-out : (expander : Expander) → ExpandKeeps expander → (x : Stx) (l : List Id) (s : State)
        → PlaceGood s (macro_use intro here) → Piece k s x → Outcome Tree (Gave (macro_use intro here) s) (expand_within expander intro here x l s)
    unfolding expand_within
    expand_within-out expander rec x l s g i =
        chain _ (stop_names-out here l s g.0.ascending) (λ z t₀ q. kept_since (macro_use intro here) s t₀ (kept_same q)
        (subst (λ (t : State). Outcome Tree (Gave (macro_use intro here) t) (after (flip_in intro here.phase x t) (λ y. λ u. after (expander (with_stops z here) y u) (λ r. λ w. after (flip_in intro here.phase r w) (λ b. λ n. ok (stx b) n))))) q
        (chain _ (flip_in-out intro here.phase x s) (λ y t fl.
        let w : Grows k s t = kept-grows k s t fl.1 in
        chain _ (rec (with_stops z here) y t (w.keeps g.0) (env_grows k here.phase s t w here.meanings g.2) (flipped k intro here.phase x y s t g.1 i fl)) (λ r u e.
        let all : Grows k s u = grows_trans k s t u w e.1 in
        chain _ (flip_in-out intro here.phase r u) (λ b n fb.
        gives (stx b) n (stx-value n b (flipped k intro here.phase r b u n (le_trans g.1 all.scopes_le) e.0 fb), grows_trans k s u n all (kept-grows k u n fb.1))))))))

  apply_local-out : (expander : Expander) → ExpandKeeps expander → (a : Place) (p : Local) (v w : Tree) (s : State) → PlaceGood s a
      → Value s v → Value s w → Outcome Tree (Gave a s) (apply_local expander a p v w s)
  unfolding apply_local
  apply_local-out expander rec nowhere p v w s g i j = stops outside_use no_rivals s.left refl
  apply_local-out expander rec (macro_use intro here) meaning_of v w s g i j = kind-out (as_id v) _ s (λ x q. value_of_out intro here x s g)
  apply_local-out expander rec (macro_use intro here) expand_in v w s g i j =
      kind-out (as_stx v) _ s (λ x q. kind-out (given (as_list w) as_ids) _ s (λ l r.
      expand_within-out intro here expander rec x l s g (value-piece k s v x i.0 q)))
  apply_local-out expander rec (macro_use intro here) binder_of v w s g i j =
      kind-out (as_id v) _ s (λ x q. fit_to_bind-out intro here x s (id-piece s v x i q))

  -- ---- one entry

  module _ (self : Evaluator) (good : EvalGood self) (expander : Expander) (keeps : ExpandKeeps expander) where
    each-good : (a : Place) (l : Trees) (s : State) → PlaceGood s a → TreesGood k s.names s.scopes l
        → Outcome Trees (λ r u. ValuesGood k u.names u.scopes r × Moved a s u) (each_tree (self a) l s)
    unfolding each_tree
    each-good a tnil s p g = gives tnil s (tt, moved-kept a s s (kept_refl s))
    each-good a (tcons t l) s p g =
        chain _ (good a t s p g.0) (λ v u x.
        let w : Grows k s u = moved-grows a s u x.1 in
        chain _ (each-good a l u (place-grows s u w a p) (trees_grow s u w l g.1)) (λ r n y.
        gives (tcons v r) n ((valued-grows u n (moved-grows a u n y.1) v x.0, y.0), moved_trans a s u n x.1 y.1)))

    primitive-good : (a : Place) (o : Option Primitive) (l : Trees) (s : State) → PlaceGood s a → Values s l
        → Outcome Tree (Gave a s) (apply_primitive expander a o l s)
    unfolding apply_primitive
    primitive-good a none l s p i = stops not_applicable no_rivals s.left refl
    primitive-good a (some (plain q)) l s p i =
        chain _ (charge-out 1 s) (λ c u kp. kept_since a s u kp (
        let arg : (j : ℕ) → ValueGood k u.names u.scopes (argument l j) = λ j. argument-good k u.names u.scopes l j (values_grow s u (kept-grows k s u kp) l i) in
        kind-out (primitive q (argument l 0) (argument l 1) (argument l 2)) _ u (λ w e.
        weaken (made-value k u.names u.scopes w (primitive-made k u.names u.scopes q (argument l 0) (argument l 1) (argument l 2) w (arg 0) (arg 1) (arg 2) e) u) (λ v n x.
        (valued-grows u n (kept-grows k u n (kept_same x.1)) v x.0, moved-kept a u n (kept_same x.1))))))
    primitive-good a (some (local q)) l s p i =
        chain _ (charge-out 1 s) (λ c u kp. kept_since a s u kp (
        let w : Grows k s u = kept-grows k s u kp in
        let arg : (j : ℕ) → ValueGood k u.names u.scopes (argument l j) = λ j. argument-good k u.names u.scopes l j (values_grow s u w l i) in
        apply_local-out expander keeps a q (argument l 0) (argument l 1) u (place-grows s u w a p) (arg 0) (arg 1)))

    function_good : (a : Place) (x : ℕ) (b v : Tree) (s : State) → PlaceGood s a → Good s (fun x b) → Value s v
        → Outcome Tree (Gave a s) (after (charge (tsize b) s) (λ c. λ u. after (made_tree (substitute x v b) u) (λ t. self a t)))
    function_good a x b v s p g i =
        chain _ (charge-out (tsize b) s) (λ c u kp. chain _ (made_tree-out (substitute x v b) u) (λ t n q.
        let kn : Kept s n = kept_trans kp (kept_same q.1) in
        let w : Grows k s n = kept-grows k s n kn in
        kept_since a s n kn (good a t n (place-grows s n w a p)
        (value_grows k s n w t (subst (TreeGood k s.names s.scopes) q.0 (body_good k s.names s.scopes x b v g i q.2))))))

    apply-good : (a : Place) (f : Tree) (l : Trees) (s : State) → PlaceGood s a → Value s f → Values s l
        → Outcome Tree (Gave a s) (apply self expander a f l s)
    unfolding apply
    apply-good a (var x) l s p g i = stops not_applicable no_rivals s.left refl
    apply-good a (app h t) l s p g i = stops not_applicable no_rivals s.left refl
    apply-good a (fun x b) l s p g i = function_good a x b (argument l 0) s p g.0 (argument-good k s.names s.scopes l 0 i)
    apply-good a (datum (symbol x)) l s p g i = stops not_applicable no_rivals s.left refl
    apply-good a (datum (number x)) l s p g i = stops not_applicable no_rivals s.left refl
    apply-good a (datum (point x)) l s p g i = stops not_applicable no_rivals s.left refl
    apply-good a (datum (prim n)) l s p g i = primitive-good a (primitive_of n) l s p i
    apply-good a (datum (rung x)) l s p g i = stops not_applicable no_rivals s.left refl
    apply-good a (lst t) l s p g i = stops not_applicable no_rivals s.left refl
    apply-good a (stx x) l s p g i = stops not_applicable no_rivals s.left refl

    -- an application, whose nesting need not be within the limit
    pub application_good : (a : Place) (h : Tree) (l : Trees) (s : State) → PlaceGood s a → TreeGood k s.names s.scopes h
        → TreesGood k s.names s.scopes l → Outcome Tree (Gave a s) (eval_entry self expander a (app h l) s)
    unfolding eval_entry
    application_good a h l s p g i =
        chain _ (good a h s p g) (λ v u x. chain _ (unless-out not_applicable refl (applicable v (tcount l)) u) (λ c u₁ y.
        chain _ (unless-out outside_use refl (allowed a v) u₁) (λ d u₂ z.
        let same : Moved a u u₂ = moved-kept a u u₂ (kept_same (y.1 ∙ z.1)) in
        let m₂ : Moved a s u₂ = moved_trans a s u u₂ x.1 same in
        let w : Grows k s u₂ = moved-grows a s u₂ m₂ in
        chain _ (each-good a l u₂ (place-grows s u₂ w a p) (trees_grow s u₂ w l i)) (λ vs n e.
        let all : Moved a s n = moved_trans a s u₂ n m₂ e.1 in
        since a s n all (apply-good a v vs n (place-grows s n (moved-grows a s n all) a p)
        (valued-grows u n (moved-grows a u n (moved_trans a u u₂ n same e.1)) v x.0) e.0)))))

    pub entry_good : EvalGood (eval_entry self expander)
    unfolding eval_entry closed is_among
    entry_good a (var x) s p g = absurd (false≢true g.owned)
    entry_good a (app h l) s p g = let q = app-parts k s.names s.scopes h l g in application_good a h l s p q.0 q.1
    entry_good a (fun x b) s p g = gives (fun x b) s ((g, tt), moved-kept a s s (kept_refl s))
    entry_good a (datum x) s p g = gives (datum x) s ((g, tt), moved-kept a s s (kept_refl s))
    entry_good a (lst l) s p g = gives (lst l) s ((g, tt), moved-kept a s s (kept_refl s))
    entry_good a (stx x) s p g = gives (stx x) s ((g, tt), moved-kept a s s (kept_refl s))
