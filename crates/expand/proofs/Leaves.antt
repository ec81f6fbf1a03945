-- The functions that expand no part: one law for each way out.
use Rattle.std.specs.Prelude.{Result, Ok, Err, Option, Some, None}
use mathlib.Core.Path.{◌≡◌, refl, sym, ◌∙◌}
use mathlib.Core.List.{List}
use Prim.Native.Nat.{ℕ, ◌+◌, ◌*◌, ◌≤◌, ◌<◌}
use native.Mathlib.Omega.{arith}
use lib.ListN.{length}
use Rattle.model.specs.Objects.{Sets, symbol, Stx, atom, list, nil, cons, flip_scope, prune_scopes}
use Rattle.model.specs.Trees.{Tree, stx, from_stxs, as_stx}
use Rattle.model.specs.Steps as ms
use Rattle.model.specs.Refusals.{no_rule}
use Rattle.model.specs.Competing.{no_rivals}
use Rattle.model.specs.Steps.{ok, no, after, resolve_at, parts1, flip_in, prunable_now, prune_from}
use Rattle.model.specs.Meanings as m
use Rattle.model.specs.Expanding.{head_meaning, expand_name, expand_syntax, or_no_syntax}
use Rattle.refusals.specs.declared.Refusal.TheVariants.{NoMeaning, NoRule, NoSyntax}
use Rattle.model.specs.Scopes.{Scopes}
use Rattle.store.specs.Words.{prunable_of}
use Rattle.table.specs.Tags.{list_tag}
use Rattle.table.specs.Words.{get_node}
use Rattle.table.specs.declared.Node.{Node}
use Rattle.things.specs.Rep.{Rep, is-var, is-app, is-fun, is-lst, is-datum, is-atom, is-list}
use Rattle.things.specs.Measuring.{Seen, SeenP}
use Rattle.things.proofs.Frame.{below, carry}
use Rattle.things.proofs.ByTag.{tag_is, not-syntax}
use Rattle.store.specs.declared.rivals.Rivals.{Rivals}
use Rattle.steps.specs.States.{stop_of, ambiguous_of, Store, store_of, no_store, state_of}
use Rattle.steps.specs.Agreement.{Later, Gave, gives, stops}
use Rattle.steps.specs.declared.State.{State}
use Rattle.steps.specs.declared.Stop.{Stop}
use Rattle.steps.specs.declared.Out.{Out}
use Rattle.steps.proofs.Laws.{then_ok, then_no, later_refl, on_done, on_refused}
use Rattle.parse.specs.Parsing.{unpaid}
use Rattle.stops.specs.Stops.{KnownZ}
use Rattle.forms.specs.Shapes.{Single}
use Rattle.forms.proofs.Shapes.{on_one, on_not_one, not-parts1}
use Rattle.environment.specs.Meanings.{Known, MeansAt, HeadMeaning, has, MeaningIs}
use Rattle.environment.specs.declared.Meaning.{Meaning}
use Rattle.environment.specs.declared.Meaning.TheVariants as meant
use Rattle.environment.proofs.Laws.{on_lambda, on_let_syntax, on_quote, on_syntax, on_variable, on_macro, on_unknown, on_stopped, on_meaning_unclear, head-means, head-unclear}
use Rattle.scoping.specs.Changing.{objects, ReadyObject, change_rule, Changes}
use Rattle.steps.proofs.Laws.{after-after}
use Rattle.expand.specs.Making.{ReadyTwo, TwoLists}
use Rattle.expand.specs.Leaves.{around, ReadyName, name_rule, ExpandedName, ReadyTail, quote_rule, ExpandedQuote, ExpandedSyntax, ReadyPruned, pruned_rule, Pruned, ReadyBack, back_rule, Backs}
use Rattle.expand.specs.declared.Surroundings.{Surroundings}
use Rattle.expand.proofs.Agreeing.{Owed, beyond}
use Rattle.table.specs.Sizes.{two_cells, node_size, node_spare}
use Rattle.store.specs.Sizes.{binding_size}

-- an entry that makes nothing
unmade : (l : List ℕ) (s : State) → Later 1 two_cells l l (unpaid s) s
unfolding unpaid
unmade l s = record { kept = (later_refl l s).kept; grows = omega arith; fits = omega arith; spent = omega arith }

pub owes_none : (s : State) → Owed 0 s s
owes_none s = record { top = refl; left = omega arith }

pub owes_one : (s : State) → Owed 1 s (unpaid s)
unfolding unpaid
owes_one s = record { top = refl; left = refl }

pub owes_two : (s : State) → Owed 2 s (unpaid (unpaid s))
unfolding unpaid
owes_two s = record { top = refl; left = omega arith }

-- ---- an identifier

name_split : (here : m.Surroundings) (c : Sets) (x : ℕ) (y : ms.State) → name_rule here c x y ≡ after (head_meaning here (atom c (symbol x)) y) expand_name
unfolding name_rule head_meaning
name_split here c x y = sym (after-after (resolve_at here.phase c x y) _ _)

-- a name that means something, but no variable
record Other (q : HeadMeaning) : Type 0 where
  meaning : m.Meaning
  is : q ≡ has meaning
  refused : (y : ms.State) → expand_name meaning y ≡ no no_rule no_rivals y.left

other : {l : List ℕ} {top : ℕ} {q : HeadMeaning} (w : Meaning) → ((v : ℕ) → w ≡ meant.Variable v → ⊥) → (w ≡ meant.Unknown → ⊥) → ((v : Rivals) → w ≡ meant.Unclear v → ⊥) → MeaningIs l top q w → Other q
unfolding expand_name
other (meant.Variable v) a b d k = absurd (a v refl)
other meant.Unknown a b d k = absurd (b refl)
other (meant.Unclear v) a b d k = absurd (d v refl)
other meant.Lambda a b d k = record { meaning = m.core m.lambda; is = on_lambda k refl; refused = λ y. refl }
other meant.LetSyntax a b d k = record { meaning = m.core m.let_syntax; is = on_let_syntax k refl; refused = λ y. refl }
other meant.Quote a b d k = record { meaning = m.core m.quote; is = on_quote k refl; refused = λ y. refl }
other meant.Syntax a b d k = record { meaning = m.core m.syntax; is = on_syntax k refl; refused = λ y. refl }
other (meant.Macro v) a b d k = let q = on_macro k refl in record { meaning = m.macro q.value; is = q.is; refused = λ y. refl }
other meant.Stopped a b d k = record { meaning = m.stopped; is = on_stopped k refl; refused = λ y. refl }

module _ {l st : List ℕ} (s : State) {i : ℕ} {at : Surroundings} (r : ReadyName l st (unpaid s) i at) where
  pub name-seen : Seen l i
  unfolding unpaid
  name-seen = record { top = s.top; thing = stx (atom r.sets (symbol r.symb)); shown = r.shown; inside = omega (arith, r.within.room.fits); small = r.within.room.small }

  pub name-known : Known l at.meanings
  unfolding unpaid
  name-known = record { top = s.top; thing = r.within.meant.meanings; shown = r.within.known.meant; inside = omega (arith, r.within.room.fits); small = r.within.room.small }

  pub name-stops : KnownZ l at.stops
  unfolding unpaid
  name-stops = record { top = s.top; things = r.within.meant.stops; shown = r.within.known.stopped; inside = omega (arith, r.within.room.fits); small = r.within.room.small }

  pub name-held : s.bindings * binding_size ≤ length st
  unfolding unpaid
  name-held = omega (arith, r.within.held.few, r.within.held.wide)

  module _ {w : Meaning} (p : MeansAt at.phase st s.bindings l i at.meanings at.stops w) where
    pub name-variable : {v : ℕ} → w ≡ meant.Variable v → ExpandedName at st l s i (Ok (record { at = v; state = s }))
    unfolding expand_name unpaid
    name-variable z =
        record {
          means = λ c x e u k.
              let q = on_variable (p.means s.top (atom c (symbol x)) e.meanings e.stops u k.meant k.stopped) z in
              gives _ (record {
                value = atom q.sets (symbol q.symb);
                is = name_split (around e at) c x (state_of s (store_of st)) ∙ then_ok _ (head-means at.phase e.meanings e.stops (state_of s (store_of st)) (atom c (symbol x)) q.is);
                shown = record { rep = q.shown; few = r.within.held.few };
                later = unmade l s;
              });
        }

    pub name-unknown : {r : Result Out Stop} → w ≡ meant.Unknown → r ≡ Err (stop_of NoMeaning s) → ExpandedName at st l s i r
    unfolding expand_name
    name-unknown z same =
        rw same (record { means = λ c x e u k. stops _ (name_split (around e at) c x (state_of s (store_of st)) ∙ then_ok _ (head-means at.phase e.meanings e.stops (state_of s (store_of st)) (atom c (symbol x)) (on_unknown (p.means s.top (atom c (symbol x)) e.meanings e.stops u k.meant k.stopped) z))) })

    pub name-unclear : {r : Result Out Stop} {v : Rivals} → w ≡ meant.Unclear v → r ≡ Err (ambiguous_of v s) → ExpandedName at st l s i r
    name-unclear z same =
        rw same (record { means = λ c x e u k. stops _ (name_split (around e at) c x (state_of s (store_of st)) ∙ then_no _ (head-unclear at.phase e.meanings e.stops (state_of s (store_of st)) (atom c (symbol x)) (on_meaning_unclear (p.means s.top (atom c (symbol x)) e.meanings e.stops u k.meant k.stopped) z))) })

    pub name-other : {r : Result Out Stop} → ((v : ℕ) → w ≡ meant.Variable v → ⊥) → (w ≡ meant.Unknown → ⊥) → ((v : Rivals) → w ≡ meant.Unclear v → ⊥) → r ≡ Err (stop_of NoRule s) → ExpandedName at st l s i r
    name-other a b d same =
        rw same (record {
          means = λ c x e u k.
              let q = other w a b d (p.means s.top (atom c (symbol x)) e.meanings e.stops u k.meant k.stopped) in
              stops _ (name_split (around e at) c x (state_of s (store_of st)) ∙ then_ok _ (head-means at.phase e.meanings e.stops (state_of s (store_of st)) (atom c (symbol x)) q.is) ∙ q.refused (state_of s (store_of st)));
        })

-- ---- quote and syntax

module _ {l : List ℕ} (s : State) {i head tail : ℕ} (r : ReadyTail l (unpaid s) i head tail) where
  pub tail_seen : SeenP l tail
  unfolding unpaid
  tail_seen = record { top = s.top; thing = from_stxs r.others; shown = r.chain; inside = omega (arith, r.room.fits); small = r.room.small }

  module _ {d : Option ℕ} (h : Single l tail d) where
    pub quote_shape : {r : Result Out Stop} → d ≡ None → r ≡ Err (stop_of NoRule s) → ExpandedQuote l s i tail r
    unfolding quote_rule
    quote_shape e same = rw same (record { means = λ b x ps u w. stops _ (not-parts1 ps _ (state_of s b) (on_not_one (h.means s.top ps w) e)) })

    pub quote-is : {j : ℕ} → d ≡ Some j → ExpandedQuote l s i tail (Ok (record { at = i; state = s }))
    unfolding quote_rule parts1 unpaid
    quote-is e =
        record {
          means = λ b x ps u w.
              let q = on_one (h.means s.top ps w) e in
              rw q.is (gives _ (record { value = x; is = refl; shown = record { rep = u; few = r.few }; later = unmade l s }));
        }

    pub syntax_shape : {ph : ℕ} {st : List ℕ} {r : Result Out Stop} → d ≡ None → r ≡ Err (stop_of NoRule s) → ExpandedSyntax ph st l l s i head tail r
    unfolding expand_syntax
    syntax_shape {st = st} e same = rw same (record { means = λ k x ps u v w. stops _ (not-parts1 ps _ (state_of s (store_of st)) (on_not_one (h.means s.top ps w) e)) })

    module _ {j : ℕ} (e : d ≡ Some j) where
      pub pruned_ready : ReadyPruned l (unpaid s) i head j
      pruned_ready =
          let q = on_one (h.means (unpaid s).top r.others r.chain) e in
          record { sets = r.sets; first = r.first; thing = q.first; old = cons r.first r.others; shown = r.shown; shown-first = r.shown-first; shown-thing = q.shown; room = r.room; few = r.few }

      pub syntax_pruned : {ph : ℕ} {st l1 : List ℕ} {a : Result Out Stop} → Pruned ph st l l1 s i head j a → ExpandedSyntax ph st l l1 s i head tail a
      unfolding expand_syntax parts1 pruned_rule
      syntax_pruned a =
          record {
            means = λ k x ps u v w.
                let q = on_one (h.means s.top ps w) e in
                rw q.is (a.means k (cons x (cons q.first nil)) x q.first (rw q.is at u) v q.shown);
          }

module _ {l : List ℕ} (s : State) {i head x : ℕ} (r : ReadyPruned l (unpaid s) i head x) where
  pub prune-ready : ReadyObject l s x
  unfolding unpaid
  prune-ready = record { thing = r.thing; shown = r.shown-thing; room = record { fits = omega (arith, r.room.fits); small = r.room.small; low = r.room.low }; few = r.few }

  -- p is what is prunable
  module _ (ph : ℕ) (st : List ℕ) {l1 : List ℕ} {p : Scopes} {a : Result Out Stop} (same : p ≡ prunable_of st) (v : Changes (prune_scopes p ph) l l1 s x a) where
    changed : Changes (prune_scopes (prunable_of st) ph) l l1 s x a
    changed = rw same at v

    pub prune-refused : {r : Result Out Stop} {f : Stop} → a ≡ Err f → r ≡ Err f → Pruned ph st l l1 s i head x r
    unfolding pruned_rule prunable_now prune_from change_rule
    prune-refused e same = rw same (record { means = λ k qs h y u w z. stops _ (then_no _ (on_refused (changed.means (store_of st) y z) e)) })

    module _ {o : Out} (e : a ≡ Ok o) where
      pruned_to : (b : Store) (y : Stx) → Rep l s.top x (stx y) → Gave objects 1 node_spare l l1 s b (change_rule (prune_scopes (prunable_of st) ph) y (state_of s b)) o
      pruned_to b y w = on_done (changed.means b y w) e

      pub prune-two : length l1 ≡ length l → ReadyTwo l1 o.state i head o.at
      unfolding unpaid
      prune-two len =
          let g = pruned_to no_store r.thing r.shown-thing in
          record {
            sets = r.sets;
            old = r.old;
            first = r.first;
            second = g.value;
            shown = carry r.shown g.later.kept g.later.grows;
            shown-first = carry r.shown-first g.later.kept g.later.grows;
            shown-second = g.shown.rep;
            room = record { fits = omega (arith, g.later.fits, r.room.fits, len); small = omega (arith, r.room.small, len); low = omega (arith, r.room.low, g.later.grows) };
            free = omega (arith, g.later.fits, r.room.fits, len);
            few = g.shown.few;
          }

      pub prune-done : {l2 : List ℕ} {q : Result Out Stop} → TwoLists l1 l2 o.state i head o.at q → Pruned ph st l l2 s i head x q
      unfolding pruned_rule prunable_now prune_from change_rule unpaid
      prune-done {l2} {q} d =
          record {
            means = λ k qs h y u w z.
                let j = pruned_to (store_of st) y z in
                let t = d.means (store_of st) k qs h j.value (carry u j.later.kept j.later.grows) (carry w j.later.kept j.later.grows) j.shown.rep in
                beyond 1 two_cells 2 1 j.later (owes_two o.state) (owes_one s) (omega arith) (omega arith) (then_ok _ j.is) t;
          }

-- ---- back from a macro's use

record SyntaxIs (t : Tree) : Type 0 where
  it : Stx
  is : t ≡ stx it

is-syntax : {l : List ℕ} {top i : ℕ} {o : Node} {t : Tree} → Rep l top i t → o ≡ get_node l i → o.tag ≤ list_tag → SyntaxIs t
is-syntax (is-var a q) e h = absurd (omega (arith, tag_is e q))
is-syntax (is-app a q r) e h = absurd (omega (arith, tag_is e q))
is-syntax (is-fun a q y r) e h = absurd (omega (arith, tag_is e q))
is-syntax (is-datum {a = x} a q) e h = absurd (omega (arith, tag_is e q))
is-syntax (is-lst a q r) e h = absurd (omega (arith, tag_is e q))
is-syntax (is-atom {s = c} {a = x} a q y) e h = record { it = atom c x; is = refl }
is-syntax (is-list {s = c} {ps = ps} a q y r) e h = record { it = list c ps; is = refl }

pub back_inside : {l : List ℕ} {s : State} {i : ℕ} → ReadyBack l s i → i + node_size ≤ length l
back_inside r = omega (arith, below r.shown, r.room.fits)

module _ {l : List ℕ} {s : State} {i : ℕ} {o : Node} (e : o ≡ get_node l i) where
  pub back_none : {ph k : ℕ} {r : Result Out Stop} → list_tag < o.tag → r ≡ Err (stop_of NoSyntax s) → Backs ph k l l s i r
  unfolding back_rule or_no_syntax
  back_none h same = rw same (record { means = λ b t w. stops (stop_of NoSyntax s) (rw (not-syntax w e h) refl) })

  module _ (h : o.tag ≤ list_tag) where
    pub back_ready : ReadyBack l s i → ReadyObject l s i
    back_ready r = let q = is-syntax r.shown e h in record { thing = q.it; shown = rw q.is at r.shown; room = r.room; few = r.few }

    pub back_done : (ph k : ℕ) {l1 : List ℕ} {a : Result Out Stop} → Changes (flip_scope k ph) l l1 s i a → Backs ph k l l1 s i a
    unfolding back_rule or_no_syntax as_stx flip_in change_rule
    back_done ph k v = record { means = λ b t w. let q = is-syntax w e h in rw q.is (v.means b q.it (rw q.is at w)) }

pub ruleset laws = (
  name-seen,
  name-known,
  name-stops,
  name-held,
  name-variable,
  name-unknown,
  name-unclear,
  name-other,
  tail_seen,
  quote_shape,
  quote-is,
  syntax_shape,
  pruned_ready,
  syntax_pruned,
  prune-ready,
  prune-refused,
  prune-two,
  prune-done,
  back_inside,
  back_none,
  back_ready,
  back_done,
)
