-- Expanding, form by form: what it gives is `Worked`, and it is not refused by 3. Evaluating and expanding are proved together.
use mathlib.Core.Path.{◌≡◌, refl, sym, ap, ◌∙◌, subst}
use Prim.Native.Nat.{ℕ, zero, suc, ◌+◌, ◌≤◌, ◌<◌, max}
use native.Mathlib.Nat.{le_refl, le_trans, le_of_eq}
use native.Mathlib.Omega.{arith}
use mathlib.Core.Option.{Option, none, some}
use lib.Dec.{leb}
use Rattle.model.specs.Limits.{most_nesting, last_phase}
use Rattle.model.specs.Refusals.{no_meaning, no_rule, no_syntax, no_phase, too_many_entries, over_budget}
use Rattle.model.specs.Scopes.{Scopes, no_scopes, add}
use Rattle.model.specs.Objects.{Atom, symbol, number, point, prim, rung, Sets, Stx, atom, list, Stxs, nil, cons, nesting, prune_scopes}
use Rattle.model.specs.Trees.{Tree, app, stx, tnil, tcons, as_stx}
use Rattle.model.specs.Competing.{no_rivals}
use Rattle.model.specs.Meanings.{lambda, let_syntax, quote, syntax, Meaning, core, variable, macro, stopped, unknown, core_only, extend, meaning_among, Surroundings, Place, nowhere, macro_use}
use Rattle.model.specs.Steps.{State, Out, ok, Step, parts1, prunable_now, inside}
use Rattle.model.specs.Evaluating.{Expander, Evaluator}
use Rattle.model.specs.Parsing.{head_form}
use Rattle.model.specs.Expanding.{expand_name, of_right_hand_side, of_body, expand_all, expand_application, expand_function, expand_lambda, expand_syntax, expand_binding, expand_let_syntax, or_no_syntax, expand_macro, expand_form, expand_entry, evaluate, expand}
use Rattle.laws.specs.Ordered.{SetsIn}
use Rattle.laws.proofs.Stable.{later_trans, same}
use Rattle.laws.proofs.StepLaws.{spend}
use Rattle.codec_laws.specs.WellFormed.{StxFits}
use Rattle.addresses.proofs.Outcomes.{Outcome, gives, stops, chain, weaken, Kept, kept_same, kept_trans, kept_spend, use_scope-out, inside-out, charge-out, unless-out, made-out, add_to-out, flip_in-out, prune_from-out, resolve_at-out, parts1-out, parts2-out, parts3-out, identifier-out}
use Rattle.addresses.proofs.Fitting.{sets_more, stx-more, prune_scopes-fits, prune_scopes-nesting}
use Rattle.addresses.proofs.Evaluated.{TreeGood}
use Rattle.addresses.proofs.States.{StateFits, Grows, grows-refl, grows_trans, kept-grows, bind_fresh-out, fresh_scope-out}
use Rattle.addresses.proofs.Meanings.{vars, MeaningGood, EnvGood, meaning-grows, env_grows, value_grows, variable-among, Stays, HeadGood, head-out}
use Rattle.addresses.proofs.Pieces.{up, Piece, Pieces, piece-grows, pieces_grow, list-pieces, first_piece, other-pieces, added, flipped, value-piece, piece-value}
use Rattle.addresses.proofs.Evaluation.{PlaceGood, place-grows, Gave, EvalGood, ExpandKeeps, valued-grows, kept_since, application_good, entry_good}
use Rattle.addresses.proofs.Costs.{Costs, paid, short}
use Rattle.addresses.proofs.Results.{Expanded, expanded_after, expanded_vars, expanded_same, variable_expanded, atom_expanded, quote_expanded, syntax_expanded, none_expanded, cons_expanded, application_expanded, function_expanded, Worked, WorkedAll, worked, worked-after, worked_kept, worked_same}

-- ---- small laws

-- a step of known cost gives the one thing, or is refused by 19
costs_out : {A : Type 0} {a : A} {u : ℕ} {s : State} {o : Out A} → Costs A a u s o → Outcome A (λ x t. (a ≡ x) × Kept s t) o
costs_out {a = a} {u = u} {s = s} (paid h) = gives a (spend u s) (refl, kept_spend u s)
costs_out (short v h) = stops over_budget no_rivals v refl

syntax-out : (o : Option Stx) (s : State) → Outcome Stx (λ x t. (o ≡ some x) × (s ≡ t)) (or_no_syntax o s)
unfolding or_no_syntax
syntax-out none s = stops no_syntax no_rivals s.left refl
syntax-out (some x) s = gives x s (refl, refl)

-- an atom that is no symbol
atom-tag : Atom → ℕ
atom-tag (symbol x) = 0
atom-tag (number x) = 1
atom-tag (point x) = 1
atom-tag (prim x) = 1
atom-tag (rung x) = 1

no_symbol : (a : Atom) → atom-tag a ≡ 1 → (x : ℕ) → a ≡ symbol x → ⊥
unfolding atom-tag
no_symbol a t x q = clash (sym t ∙ ap atom-tag q)
  where
    clash : ◌≡◌ {A = ℕ} 1 0 → ⊥
    clash e = omega arith

-- ---- where k symbols are declared

module _ (k : ℕ) where
  -- the meanings around keep the limits in the state s
  abbrev pub MeanWell : Surroundings → State → Type 0
  MeanWell here s = EnvGood k here.phase s here.meanings

  -- what a further entry does: the claim of this file
  abbrev pub ExpandGood : ℕ → Expander → Type 0
  ExpandGood d self = (here : Surroundings) (x : Stx) (s : State) → StateFits k s → MeanWell here s → Piece k s x
      → Outcome Stx (Worked k d here s) (self here x s)

  -- what evaluating needs of it
  good-keeps : (d : ℕ) (self : Expander) → ExpandGood d self → ExpandKeeps k self
  good-keeps d self h here x s g v i = weaken (h here x s g v i) (λ r u a. (record { fits = a.fits; shallow = a.shallow }, a.grows))

  -- an expansion of its own
  inside-good : (d : ℕ) (self : Expander) → ExpandGood d self → (f : Scopes → Scopes) (here : Surroundings) (x : Stx) (s : State)
      → StateFits k s → MeanWell here s → Piece k s x → Outcome Stx (Worked k d here s) (inside f (self here x) s)
  inside-good d self h f here x s g v i =
      inside-out {P = λ t. Worked k d here t} f (self here x) s
      (λ t kp. let w : Grows k s t = kept-grows k s t kp in h here x t (w.keeps g) (env_grows k here.phase s t w here.meanings v) (piece-grows k s t x w i))
      (λ t kp r u n kn a. worked_kept k d here s u n r kn (worked-after k d d here s t u r (le_refl d) (kept-grows k s t kp) a))

  -- ---- applications

  abbrev part : Expander → Surroundings → Stx → Step Stx
  part self here x = inside (λ p. p) (self here x)

  all-out : (d : ℕ) (self : Expander) → ExpandGood d self → (here : Surroundings) (l : Stxs) (s : State)
      → StateFits k s → MeanWell here s → Pieces k s l → Outcome Stxs (WorkedAll k d here s) (expand_all (part self here) l s)
  unfolding expand_all
  all-out d self h here nil s g v i = gives nil s (record { grows = grows-refl k s; fits = tt; finished = λ q. none_expanded k d here.phase here.meanings s })
  all-out d self h here (cons x l) s g v i =
      chain _ (inside-good d self h (λ p. p) here x s g v (first_piece k s x l i)) (λ y t a.
      chain _ (all-out d self h here l t (a.grows.keeps g) (env_grows k here.phase s t a.grows here.meanings v) (pieces_grow k s t l a.grows (other-pieces k s x l i))) (λ r u b.
      gives (cons y r) u (record {
        grows = grows_trans k s t u a.grows b.grows;
        fits = (stx-more k b.grows.scopes_le y a.fits, b.fits);
        finished = λ q. cons_expanded k d here.phase here.meanings s t u y r (a.finished q) (b.finished q);
      })))

  -- a head and parts, each expanded
  record Parts (d : ℕ) (here : Surroundings) (s : State) (l : Stxs) (s' : State) : Type 0 where
    head : Stx
    tail : Stxs
    is : cons head tail ≡ l
    between : State
    first : Worked k d here s head between
    others : WorkedAll k d here between tail s'

  parts_out : (d : ℕ) (self : Expander) → ExpandGood d self → (here : Surroundings) (x : Stx) (l : Stxs) (s : State)
      → StateFits k s → MeanWell here s → Pieces k s (cons x l) → Outcome Stxs (Parts d here s) (expand_all (part self here) (cons x l) s)
  unfolding expand_all
  parts_out d self h here x l s g v i =
      chain _ (inside-good d self h (λ p. p) here x s g v (first_piece k s x l i)) (λ y t a.
      chain _ (all-out d self h here l t (a.grows.keeps g) (env_grows k here.phase s t a.grows here.meanings v) (pieces_grow k s t l a.grows (other-pieces k s x l i))) (λ r u b.
      gives (cons y r) u (record { head = y; tail = r; is = refl; between = t; first = a; others = b })))

  application_out : (d : ℕ) (self : Expander) → ExpandGood d self → (here : Surroundings) (c : Sets) (x : Stx) (l : Stxs) (s : State)
      → StateFits k s → MeanWell here s → SetsIn s.scopes c → Pieces k s (cons x l)
      → Outcome Stx (Worked k (suc d) here s) (expand_application self here c (cons x l) s)
  unfolding expand_application
  application_out d self h here c x l s g v i j =
      chain _ (parts_out d self h here x l s g v j) (λ r u q. weaken (made-out (list c r) u) (λ y t m. whole r u q y t m))
    where
      whole : (r : Stxs) (u : State) → Parts d here s r u → (y : Stx) (t : State) → (list c r ≡ y) × (u ≡ t) × (nesting (list c r) ≤ most_nesting)
          → Worked k (suc d) here s y t
      whole r u q y t m =
          let z = q.between in
          let all : Grows k s u = grows_trans k s z u q.first.grows q.others.grows in
          let deep : nesting (list c (cons q.head q.tail)) ≤ most_nesting = subst (λ (w : Stxs). nesting (list c w) ≤ most_nesting) (sym q.is) m.2 in
          worked_same k (suc d) here s u t (list c (cons q.head q.tail)) y m.1 (ap (list c) q.is ∙ m.0)
          (record {
            grows = all;
            fits = (sets_more all.scopes_le c i, (stx-more k q.others.grows.scopes_le q.head q.first.fits, q.others.fits));
            shallow = deep;
            finished = λ e. application_expanded k d here.phase here.meanings c s z u q.head q.tail (sets_more all.scopes_le c i) deep (q.first.finished e) (q.others.finished e);
          })

  -- ---- lambda

  function_out : (d : ℕ) (self : Expander) → ExpandGood d self → (here : Surroundings) (c : Sets) (h : Stx) (ci : Sets) (x : ℕ) (body : Stx) (s : State)
      → StateFits k s → MeanWell here s → SetsIn s.scopes c → StxFits k s.scopes h → SetsIn s.scopes ci → x < k → Piece k s body → Stays k here.phase h lambda s
      → Outcome Stx (Worked k (suc d) here s) (expand_function self here c h ci x body s)
  unfolding expand_function
  function_out d self rec here c h ci x body s g v i j ic hx ib hd =
      chain _ (bind_fresh-out k here.phase ci x s g hx ic) (λ b t bd. chain _ (add_to-out b.scope here.phase body t) (λ y u ad.
      let grown : Grows k s u = grows_trans k s t u bd.grows (kept-grows k t u ad.1) in
      let mean : MeaningGood k here.phase b.name u (variable b.sets x) =
      meaning-grows k here.phase b.name t u (kept-grows k t u ad.1) (variable b.sets x)
      (le_trans (le_trans g.core-first g.names-from) (le_of_eq (sym bd.name-is)), bd.bound_in, bd.sets_in) in
      chain _ (inside-good d self rec (add b.scope) (of_body b (variable b.sets x) here) y u (grown.keeps g) (mean, env_grows k here.phase s u grown here.meanings v)
      (added k b.scope here.phase body y s t u bd.scope_le bd.grows ib ad)) (λ out s' a.
      let from_t : Grows k t s' = grows_trans k t u s' (kept-grows k t u ad.1) a.grows in
      let all : Grows k s s' = grows_trans k s u s' grown a.grows in
      weaken (made-out (list c (cons h (cons (atom b.sets (symbol x)) (cons out nil)))) s') (λ r w m.
      worked_same k (suc d) here s s' w (list c (cons h (cons (atom b.sets (symbol x)) (cons out nil)))) r m.1 m.0
      (record {
        grows = all;
        fits = (sets_more all.scopes_le c i, (stx-more k all.scopes_le h j, ((sets_more from_t.scopes_le b.sets bd.sets_in, hx), (a.fits, tt))));
        shallow = m.2;
        finished = λ q. function_expanded k d here.phase here.meanings c h x b s t u s' out g i j hx hd bd ad.1 m.2 (a.finished q);
      })))))

  lambda-out : (d : ℕ) (self : Expander) → ExpandGood d self → (here : Surroundings) (c : Sets) (h : Stx) (l : Stxs) (s : State)
      → StateFits k s → MeanWell here s → SetsIn s.scopes c → StxFits k s.scopes h → Pieces k s l → Stays k here.phase h lambda s
      → Outcome Stx (Worked k (suc d) here s) (expand_lambda self here c h l s)
  unfolding expand_lambda
  lambda-out d self rec here c h l s g v i j m hd =
      parts2-out l _ s (λ a body q. let w : Pieces k s (cons a (cons body nil)) = subst (λ (z : Stxs). Pieces k s z) q m in
      identifier-out a _ s (λ ci x q'. let ia : StxFits k s.scopes (atom ci (symbol x)) = subst (λ (z : Stx). StxFits k s.scopes z) q' w.fits.0 in
      function_out d self rec here c h ci x body s g v i j ia.0 ia.1 (first_piece k s body nil (other-pieces k s a (cons body nil) w)) hd))

  -- ---- let-syntax

  -- the tree of a right-hand side keeps the limits, and none of its variables is free
  pub right_hand_side_has_no_free_variable : (d ph : ℕ) (s s' : State) (r : Stx) (x : Expanded k d ph core_only s r s') → TreeGood k s'.names s'.scopes x.tree
  unfolding vars
  right_hand_side_has_no_free_variable d ph s s' r x = record { fits = x.tree-fits; owned = x.owned; shallow = le_trans x.tree-shallow x.shallow }

  binding_out : (d : ℕ) (self : Expander) → ExpandGood d self → (value : Evaluator) → EvalGood k value → (here : Surroundings) (ci : Sets) (x : ℕ) (rhs body : Stx) (s : State)
      → StateFits k s → MeanWell here s → SetsIn s.scopes ci → x < k → Piece k s rhs → Piece k s body
      → Outcome Stx (Worked k (suc d) here s) (expand_binding self value d here ci x rhs body s)
  unfolding expand_binding vars
  binding_out d self rec value good here ci x rhs body s g v ic hx ir ib =
      chain _ (bind_fresh-out k here.phase ci x s g hx ic) (λ b t bd. chain _ (unless-out no_phase refl (leb (here.phase + 1) last_phase) t) (λ n t₂ un.
      let g₂ : Grows k s t₂ = subst (λ (z : State). Grows k s z) un.1 bd.grows in
      chain _ (inside-good d self rec (λ p. no_scopes) (of_right_hand_side here) rhs t₂ (g₂.keeps g) tt (piece-grows k s t₂ rhs g₂ ir)) (λ r t₃ wh.
      let rh : Expanded k d (here.phase + 1) core_only t₂ r t₃ = wh.finished refl in
      chain _ (costs_out (rh.parses d (le_refl d) t₃ same)) (λ tr t₄ pa.
      let g₃₄ : Grows k t₃ t₄ = kept-grows k t₃ t₄ pa.1 in
      let tree : TreeGood k t₄.names t₄.scopes tr = value_grows k t₃ t₄ g₃₄ tr (subst (TreeGood k t₃.names t₃.scopes) pa.0 (right_hand_side_has_no_free_variable d (here.phase + 1) t₂ t₃ r rh)) in
      chain _ (good nowhere tr t₄ tt tree) (λ val t₅ ev. chain _ (add_to-out b.scope here.phase body t₅) (λ y u ad.
      let kp₅ : Kept t₃ t₅ = kept_trans pa.1 ev.1 in
      let g₃ : Grows k s t₃ = grows_trans k s t₂ t₃ g₂ rh.grows in
      let g₅ : Grows k s t₅ = grows_trans k s t₃ t₅ g₃ (kept-grows k t₃ t₅ kp₅) in
      let g₅₆ : Grows k t₅ u = kept-grows k t₅ u ad.1 in
      let g₆ : Grows k s u = grows_trans k s t₅ u g₅ g₅₆ in
      let reached : b.scope ≤ t₅.scopes = le_trans (le_trans bd.scope_le (le_of_eq (ap (λ (z : State). z.scopes) un.1)))
      (le_trans rh.grows.scopes_le (le_of_eq kp₅.scopes-is)) in
      weaken (inside-good d self rec (add b.scope) (of_body b (macro val) here) y u (g₆.keeps g)
      (valued-grows k t₅ u g₅₆ val ev.0, env_grows k here.phase s u g₆ here.meanings v)
      (added k b.scope here.phase body y s t₅ u reached g₅ ib ad)) (λ out s' a. record {
        grows = grows_trans k s u s' g₆ a.grows;
        fits = a.fits;
        shallow = a.shallow;
        finished = λ q.
            expanded_vars k (suc d) here.phase here.meanings (extend b.name (macro val) here.meanings) s s' out refl
            (expanded_after k d (suc d) here.phase (extend b.name (macro val) here.meanings) s u s' out (up d) g₆ (a.finished q));
      })))))))

  let_out : (d : ℕ) (self : Expander) → ExpandGood d self → (value : Evaluator) → EvalGood k value → (here : Surroundings) (l : Stxs) (s : State)
      → StateFits k s → MeanWell here s → Pieces k s l → Outcome Stx (Worked k (suc d) here s) (expand_let_syntax self value d here l s)
  unfolding expand_let_syntax
  let_out d self rec value good here l s g v m =
      parts3-out l _ s (λ a rhs body q. let w : Pieces k s (cons a (cons rhs (cons body nil))) = subst (λ (z : Stxs). Pieces k s z) q m in
      let w₂ : Pieces k s (cons rhs (cons body nil)) = other-pieces k s a (cons rhs (cons body nil)) w in
      identifier-out a _ s (λ ci x q'. let ia : StxFits k s.scopes (atom ci (symbol x)) = subst (λ (z : Stx). StxFits k s.scopes z) q' w.fits.0 in
      binding_out d self rec value good here ci x rhs body s g v ia.0 ia.1 (first_piece k s rhs (cons body nil) w₂)
      (first_piece k s body nil (other-pieces k s rhs (cons body nil) w₂))))

  -- ---- macro uses

  -- an evaluator that also takes the application of a macro use, which is not tested for 17
  abbrev pub UseGood : Evaluator → Type 0
  UseGood value = (a : Place) (f x : Tree) (s : State) → PlaceGood k s a → TreeGood k s.names s.scopes f → TreeGood k s.names s.scopes x
      → Outcome Tree (Gave k a s) (value a (app f (tcons x tnil)) s)

  macro-out : (d : ℕ) (self : Expander) → ExpandGood d self → (value : Evaluator) → UseGood value → (here : Surroundings) (v : Tree) (form : Stx) (s : State)
      → StateFits k s → MeanWell here s → TreeGood k s.names s.scopes v → Piece k s form
      → Outcome Stx (Worked k (suc d) here s) (expand_macro self value here v form s)
  unfolding expand_macro
  macro-out d self rec value good here v form s g w gv i =
      chain _ (fresh_scope-out k s) (λ us t₁ f₁. chain _ (fresh_scope-out k t₁) (λ intro t₂ f₂.
      let g₂ : Grows k s t₂ = grows_trans k s t₁ t₂ f₁.0 f₂.0 in
      chain _ (add_to-out us here.phase form t₂) (λ used t₃ ad.
      let i₃ : Piece k t₃ used = added k us here.phase form used s t₂ t₃ (le_trans f₁.1 f₂.0.scopes_le) g₂ i ad in
      chain _ (flip_in-out intro here.phase used t₃) (λ marked t₄ fl.
      let i₄ : Piece k t₄ marked = flipped k intro here.phase used marked t₃ t₄ (le_trans f₂.1 (le_of_eq ad.1.scopes-is)) i₃ fl in
      chain _ (use_scope-out us t₄) (λ n t₅ kp₅.
      let kp₂₅ : Kept t₂ t₅ = kept_trans ad.1 (kept_trans fl.1 kp₅) in
      let g₅ : Grows k s t₅ = grows_trans k s t₂ t₅ g₂ (kept-grows k t₂ t₅ kp₂₅) in
      let i₅ : Piece k t₅ marked = piece-grows k t₄ t₅ marked (kept-grows k t₄ t₅ kp₅) i₄ in
      let reached : intro ≤ t₅.scopes = le_trans f₂.1 (le_of_eq kp₂₅.scopes-is) in
      chain _ (good (macro_use intro here) v (stx marked) t₅ (g₅.keeps g, reached, env_grows k here.phase s t₅ g₅ here.meanings w) (value_grows k s t₅ g₅ v gv) (piece-value k t₅ marked i₅)) (λ r t₆ ev.
      chain _ (syntax-out (as_stx r) t₆) (λ x t₇ sy.
      let g₆₇ : Grows k t₆ t₇ = kept-grows k t₆ t₇ (kept_same sy.1) in
      let g₅₇ : Grows k t₅ t₇ = grows_trans k t₅ t₆ t₇ ev.1 g₆₇ in
      let i₇ : Piece k t₇ x = piece-grows k t₆ t₇ x g₆₇ (value-piece k t₆ r x ev.0.0 sy.0) in
      chain _ (flip_in-out intro here.phase x t₇) (λ back t₈ fl₈.
      let i₈ : Piece k t₈ back = flipped k intro here.phase x back t₇ t₈ (le_trans reached g₅₇.scopes_le) i₇ fl₈ in
      let g₈ : Grows k s t₈ = grows_trans k s t₅ t₈ g₅ (grows_trans k t₅ t₇ t₈ g₅₇ (kept-grows k t₇ t₈ fl₈.1)) in
      weaken (rec here back t₈ (g₈.keeps g) (env_grows k here.phase s t₈ g₈ here.meanings w) i₈) (λ out s' a.
      worked-after k d (suc d) here s t₈ s' out (up d) g₈ a)))))))))

  -- ---- quote and syntax

  pruned_piece : (p : Scopes) (ph : ℕ) (c : Sets) (h x y : Stx) (s t : State) → Piece k s (list c (cons h (cons x nil))) → (prune_scopes p ph x ≡ y) × Kept s t
      → Piece k t (list c (cons h (cons y nil)))
  unfolding nesting
  pruned_piece p ph c h x y s t i f =
      let r : Piece k s (list c (cons h (cons (prune_scopes p ph x) nil))) = record {
        fits = (i.fits.0, (i.fits.1.0, (prune_scopes-fits k p s.scopes ph x i.fits.1.1.0, tt)));
        shallow = le_trans (le_of_eq (ap (λ (z : ℕ). suc (max (nesting h) (max z 0))) (prune_scopes-nesting p ph x))) i.shallow;
      } in
      subst (λ (z : Stx). Piece k t (list c (cons h (cons z nil)))) f.0
      (piece-grows k s t (list c (cons h (cons (prune_scopes p ph x) nil))) (kept-grows k s t f.1) r)

  syntax_form : (d : ℕ) (here : Surroundings) (c : Sets) (h : Stx) (l : Stxs) (s : State) → Piece k s (list c (cons h l)) → Stays k here.phase h syntax s
      → Outcome Stx (Expanded k (suc d) here.phase here.meanings s) (expand_syntax here.phase c h l s)
  unfolding expand_syntax prunable_now
  syntax_form d here c h l s i hd =
      parts1-out l _ s (λ x q. chain _ (prune_from-out s.prunable here.phase x s) (λ y t f.
      gives (list c (cons h (cons y nil))) t
      (expanded_after k (suc d) (suc d) here.phase here.meanings s t t (list c (cons h (cons y nil))) (le_refl (suc d)) (kept-grows k s t f.1)
      (syntax_expanded k d here.phase here.meanings c h y t (cut x y t q f).fits (cut x y t q f).shallow
      (λ st w. hd st (later_trans s.scopes t.scopes s.binds t.binds st.binds (kept-grows k s t f.1).scopes_le (kept-grows k s t f.1).later w))))))
    where
      cut : (x y : Stx) (t : State) → l ≡ cons x nil → (prune_scopes s.prunable here.phase x ≡ y) × Kept s t → Piece k t (list c (cons h (cons y nil)))
      cut x y t q f = pruned_piece s.prunable here.phase c h x y s t (subst (λ (z : Stxs). Piece k s (list c (cons h z))) q i) f

  quote_form : (d : ℕ) (here : Surroundings) (c : Sets) (h : Stx) (l : Stxs) (s : State) → Piece k s (list c (cons h l)) → Stays k here.phase h quote s
      → Outcome Stx (Expanded k (suc d) here.phase here.meanings s) (parts1 l (λ x. λ t. ok (list c (cons h l)) t) s)
  quote_form d here c h l s i hd =
      parts1-out l _ s (λ x q. let j : Piece k s (list c (cons h (cons x nil))) = subst (λ (z : Stxs). Piece k s (list c (cons h z))) q i in
      gives (list c (cons h l)) s
      (expanded_same k (suc d) here.phase here.meanings s s s (list c (cons h (cons x nil))) (list c (cons h l)) refl (ap (λ (z : Stxs). list c (cons h z)) (sym q))
      (quote_expanded k d here.phase here.meanings c h x s j.fits j.shallow hd)))

  -- a result that is finished whatever is stopped
  always : (d : ℕ) (here : Surroundings) (s : State) {o : Out Stx} → Outcome Stx (Expanded k d here.phase here.meanings s) o → Outcome Stx (Worked k d here s) o
  always d here s h = weaken h (λ r t x. worked k d here s r t x)

  -- ---- one entry

  module _ (d : ℕ) (self : Expander) (rec : ExpandGood d self) (value : Evaluator) (good : EvalGood k value) (use-good : UseGood value) where
    form_out : (here : Surroundings) (c : Sets) (h : Stx) (l : Stxs) (m : Meaning) (s : State)
        → StateFits k s → MeanWell here s → Piece k s (list c (cons h l)) → HeadGood k here.phase here.stops h s m
        → Outcome Stx (Worked k (suc d) here s) (expand_form self value d here c h l m s)
    unfolding expand_form
    form_out here c h l (core lambda) s g v i hm =
        lambda-out d self rec here c h l s g v i.fits.0 i.fits.1.0 (other-pieces k s h l (list-pieces k s c (cons h l) i)) hm
    form_out here c h l (core let_syntax) s g v i hm = let_out d self rec value good here l s g v (other-pieces k s h l (list-pieces k s c (cons h l) i))
    form_out here c h l (core quote) s g v i hm = always (suc d) here s (quote_form d here c h l s i hm)
    form_out here c h l (core syntax) s g v i hm = always (suc d) here s (syntax_form d here c h l s i hm)
    form_out here c h l (variable b x) s g v i hm = application_out d self rec here c h l s g v i.fits.0 (list-pieces k s c (cons h l) i)
    form_out here c h l (macro w) s g v i hm = macro-out d self rec value use-good here w (list c (cons h l)) s g v hm.0 i
    form_out here c h l stopped s g v i hm =
        gives (list c (cons h l)) s (record { grows = grows-refl k s; fits = i.fits; shallow = i.shallow; finished = λ q. absurd (hm q) })
    form_out here c h l unknown s g v i hm = application_out d self rec here c h l s g v i.fits.0 (list-pieces k s c (cons h l) i)

    name_out : (here : Surroundings) (n : ℕ) (m : Meaning) (s : State) → StateFits k s → MeanWell here s → meaning_among n here.meanings here.stops ≡ m
        → Outcome Stx (Worked k (suc d) here s) (expand_name m s)
    unfolding expand_name
    name_out here n (core f) s g v a = stops no_rule no_rivals s.left refl
    name_out here n (variable c x) s g v a =
        let q = variable-among k here.phase s n here.meanings here.stops v c x a in
        gives (atom c (symbol x)) s (worked k (suc d) here s (atom c (symbol x)) s (variable_expanded k d here.phase n here.meanings c x s g q.0 q.1))
    name_out here n (macro w) s g v a = stops no_rule no_rivals s.left refl
    name_out here n stopped s g v a = stops no_rule no_rivals s.left refl
    name_out here n unknown s g v a = stops no_meaning no_rivals s.left refl

    atom-out : (here : Surroundings) (c : Sets) (a : Atom) (s : State) → Piece k s (atom c a) → atom-tag a ≡ 1 → ((st : State) → head_form here.phase (atom c a) st ≡ ok none st)
        → Outcome Stx (Worked k (suc d) here s) (ok (atom c a) s)
    atom-out here c a s i t h =
        gives (atom c a) s (worked k (suc d) here s (atom c a) s (atom_expanded k d here.phase here.meanings c a s i.fits (no_symbol a t) h))

    entry_out : ExpandGood (suc d) (λ here x. expand_entry self value d here x)
    unfolding expand_entry head_form atom-tag
    entry_out here (atom c (symbol x)) s g v i =
        chain _ (resolve_at-out here.phase c x s g.ascending) (λ n t q.
        subst (λ (z : State). Outcome Stx (Worked k (suc d) here s) (expand_name (meaning_among n here.meanings here.stops) z)) q.1
        (name_out here n (meaning_among n here.meanings here.stops) s g v refl))
    entry_out here (atom c (number x)) s g v i = atom-out here c (number x) s i refl (λ st. refl)
    entry_out here (atom c (point x)) s g v i = atom-out here c (point x) s i refl (λ st. refl)
    entry_out here (atom c (prim x)) s g v i = atom-out here c (prim x) s i refl (λ st. refl)
    entry_out here (atom c (rung x)) s g v i = atom-out here c (rung x) s i refl (λ st. refl)
    entry_out here (list c nil) s g v i = stops no_rule no_rivals s.left refl
    entry_out here (list c (cons h l)) s g v i =
        chain _ (head-out k here h s g.ascending v i.fits.1.0) (λ m t q.
        subst (λ (z : State). Outcome Stx (Worked k (suc d) here s) (expand_form self value d here c h l m z)) q.1
        (form_out here c h l m s g v i q.0))

  -- ---- the theorem: evaluating and expanding, by induction on the entries to spare

  pub record Both (d : ℕ) : Type 0 where
    pub evaluates : EvalGood k (evaluate d)
    pub uses-macro : UseGood (evaluate d)
    pub expands : ExpandGood d (expand d)

  pub both-good : (d : ℕ) → Both d
  unfolding evaluate
  both-good zero = record {
    evaluates = λ a t s p g. stops too_many_entries no_rivals s.left refl;
    uses-macro = λ a h x s p g i. stops too_many_entries no_rivals s.left refl;
    expands = λ here x s g v i. stops too_many_entries no_rivals s.left refl;
  }
  both-good (suc d) = step (both-good d)
    where
      step : Both d → Both (suc d)
      step b = record {
        evaluates = λ a t s p g. chain _ (charge-out 1 s) (λ n u kp. let w : Grows k s u = kept-grows k s u kp in
            kept_since k a s u kp (entry_good k (λ there x. evaluate d there x) b.evaluates (λ there x. expand d there x) (good-keeps d (expand d) b.expands) a t u
            (place-grows k s u w a p) (value_grows k s u w t g)));
        uses-macro = λ a h x s p g i. chain _ (charge-out 1 s) (λ n u kp. let w : Grows k s u = kept-grows k s u kp in
            kept_since k a s u kp (application_good k (λ there x. evaluate d there x) b.evaluates (λ there x. expand d there x) (good-keeps d (expand d) b.expands) a h (tcons x tnil) u
            (place-grows k s u w a p) (value_grows k s u w h g) (value_grows k s u w x i, tt)));
        expands = λ here x s g v i. chain _ (charge-out 1 s) (λ n t kp. let w : Grows k s t = kept-grows k s t kp in
            weaken (entry_out d (λ there y. expand d there y) b.expands (λ there y. evaluate d there y) b.evaluates b.uses-macro here x t
            (w.keeps g) (env_grows k here.phase s t w here.meanings v) (piece-grows k s t x w i)) (λ r s' y.
            worked-after k (suc d) (suc d) here s t s' r (le_refl (suc d)) w y));
      }
