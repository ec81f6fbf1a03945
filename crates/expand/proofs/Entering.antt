-- An entry: one law for each way through it, by the object's tag and by the meaning of a list's head.
use Rattle.std.specs.Prelude.{Result, Ok, Err}
use mathlib.Core.Path.{◌≡◌, refl, sym, ap, ◌∙◌}
use mathlib.Core.List.{List}
use Prim.Native.Nat.{ℕ, ◌+◌, ◌-◌, ◌*◌, ◌≤◌, ◌<◌}
use native.Mathlib.Omega.{arith}
use lib.ListN.{length}
use Rattle.model.specs.Objects as ob
use Rattle.model.specs.Objects.{symbol, tag_of, Sets, Stx, atom, list, Stxs, cons}
use Rattle.model.specs.Trees.{Tree, stx}
use Rattle.model.specs.Steps as ms
use Rattle.model.specs.Steps.{ok}
use Rattle.model.specs.Expanding.{expand_macro, expand_entry}
use Rattle.refusals.specs.declared.Refusal.TheVariants.{NoRule}
use Rattle.table.specs.Tags.{list_tag}
use Rattle.table.specs.Words.{get_node, get_cell}
use Rattle.table.specs.declared.Node.{Node}
use Rattle.table.specs.declared.Cell.{Cell}
use Rattle.things.specs.Rep.{Rep, is-atom, is-list}
use Rattle.things.specs.Measuring.{Seen}
use Rattle.things.proofs.Frame.{below}
use Rattle.things.proofs.ByTag.{tag_is, atom-at, list_at, stx-tag, same_object}
use Rattle.store.specs.declared.rivals.Rivals.{Rivals}
use Rattle.steps.specs.States.{stop_of, ambiguous_of, Store, store_of, state_of, enter_of}
use Rattle.steps.specs.Agreement.{Agrees, gives, stops}
use Rattle.steps.specs.declared.State.{State}
use Rattle.steps.specs.declared.Stop.{Stop}
use Rattle.steps.specs.declared.Out.{Out}
use Rattle.steps.proofs.Laws.{enter_spare, enter_went, entry_refused, entry_goes, later_refl}
use Rattle.parse.specs.Parsing.{unpaid}
use Rattle.stops.specs.Stops.{KnownZ}
use Rattle.parse.proofs.Laws.{unpaid-is, top-is}
use Rattle.forms.proofs.Shapes.{nil-at, first-at}
use Rattle.environment.specs.Meanings.{Known, MeansAt}
use Rattle.environment.specs.declared.Meaning.{Meaning}
use Rattle.environment.specs.declared.Meaning.TheVariants as meant
use Rattle.environment.proofs.Laws.{on_lambda, on_let_syntax, on_quote, on_syntax, on_variable, on_macro, on_unknown, on_stopped, on_meaning_unclear}
use Rattle.scoping.specs.Changing.{objects}
use Rattle.expand.specs.Leaves.{Around, around, ReadyName, ExpandedName, ReadyTail, ExpandedQuote, ExpandedSyntax}
use Rattle.expand.specs.Values.{evaluation}
use Rattle.expand.specs.InPlace.{ReadyMacro}
use Rattle.expand.specs.Cycle.{expansion, ReadyToExpand, ReadyChain, ReadyForm, ReadyLet, Expanded, ExpandedEntry, ExpandedList, ExpandedApplication, ExpandedLambda, ExpandedLetSyntax, ExpandedMacro}
use Rattle.expand.specs.declared.Surroundings.{Surroundings}
use Rattle.expand.proofs.Agreeing.{beyond}
use Rattle.expand.proofs.Leaves.{owes_none, owes_one}
use Rattle.expand.proofs.Rules.{expand_entry_lem, entry_atom, entry_symbol, entry_empty, list-means, list-unclear, form_lambda, form_let_syntax, form_quote, form_syntax, form_variable, form_macro, form_stopped, form_unknown}
use Rattle.table.specs.Sizes.{cell_size, two_cells, node_size}
use Rattle.store.specs.Sizes.{binding_size, held_size}
use Rattle.expand.proofs.Surrounding.{within-paid}

-- ---- expand

abbrev in_entry : Surroundings → Surroundings
in_entry at = record { entries = at.entries - 1; phase = at.phase; meanings = at.meanings; stops = at.stops }

module _ (at : Surroundings) (s : State) {u : State} {x : Result State Stop} (h : x ≡ enter_of at.entries s) (e : x ≡ Ok u) where
  pub enter_one : 1 ≤ at.entries
  enter_one = enter_spare at.entries s h e

  pub enter_less : {T : ℕ} → s.left * 32 ≡ T → u.left * 32 + 20 < T
  enter_less k = let q = enter_went at.entries s h e in omega (arith, q.enough, ap (λ (y : State). y.left) q.is)

  pub enter_ready : {l st : List ℕ} {i : ℕ} → ReadyToExpand l st s i at → ReadyToExpand l st (unpaid u) i (in_entry at)
  enter_ready r =
      rw (unpaid-is (enter_went at.entries s h e)) (record { thing = r.thing; shown = r.shown; within = record { meant = r.within.meant; known = r.within.known; room = r.within.room; held = r.within.held } })

  pub enter_goes : {st st1 l l1 : List ℕ} {i : ℕ} {r : Result Out Stop} → ExpandedEntry (in_entry at) st st1 l l1 u i r → Expanded at st st1 l l1 s i r
  enter_goes {st} {st1} {l} {l1} {i} {r} f =
      let w = enter_went at.entries s h e in
      record {
        means = λ y g q k.
            let a = f.means y g (rw (top-is w) q) (rw (top-is w) k) in
            let d : Agrees objects 1 two_cells l l1 s (store_of st1) (expand_entry (expansion (at.entries - 1)) (evaluation (at.entries - 1)) (at.entries - 1) (around g at) y (state_of u (store_of st))) r = rw (unpaid-is w) at a in
            rw (entry_goes (expand_entry_lem (around g at) y) at.entries s (store_of st) h e) d;
      }

pub enter_stops : {r : Result Out Stop} {at : Surroundings} {st : List ℕ} {s : State} {x : Result State Stop} {f : Stop} {l : List ℕ} {i : ℕ} → x ≡ enter_of at.entries s → x ≡ Err f
    → r ≡ Err f → Expanded at st st l l s i r
enter_stops {at = at} {st = st} {s = s} {f = f} h e same =
    rw same (record { means = λ y g q k. stops f (entry_refused (expand_entry_lem (around g at) y) at.entries s (store_of st) h e) })

-- ---- an entry by its tag

pub node-inside : {l st : List ℕ} (s : State) {i : ℕ} {at : Surroundings} → ReadyToExpand l st (unpaid s) i at → i + node_size ≤ length l
unfolding unpaid
node-inside s r = omega (arith, below r.shown, r.within.room.fits)

symbol-at : {l : List ℕ} {top i : ℕ} {o : Node} {x : Stx} → Rep l top i (stx x) → o ≡ get_node l i → o.tag ≡ 0 → (c : Sets) × ((n : ℕ) × (x ≡ atom c (symbol n)))
unfolding tag_of
symbol-at (is-atom {s = c} {a = ob.symbol n} a q y) e h = (c, (n, refl))
symbol-at (is-atom {a = ob.number n} a q y) e h = absurd (omega (arith, tag_is e q, h))
symbol-at (is-atom {a = ob.point n} a q y) e h = absurd (omega (arith, tag_is e q, h))
symbol-at (is-atom {a = ob.prim n} a q y) e h = absurd (omega (arith, tag_is e q, h))
symbol-at (is-atom {a = ob.rung n} a q y) e h = absurd (omega (arith, tag_is e q, h))
symbol-at (is-list a q y r) e h = absurd (omega (arith, tag_is e q, h))

module _ {st l : List ℕ} (s : State) {i : ℕ} {at : Surroundings} {o : Node} (e : o ≡ get_node l i) where
  pub entry_list_ready : ReadyToExpand l st (unpaid s) i at → o.tag ≡ list_tag → ReadyChain l st (unpaid s) i o.content at
  entry_list_ready r h =
      let q = list_at r.shown e h in
      record { sets = q.sets; parts = q.parts; shown = rw q.is at r.shown; chain = q.shown; within = r.within }

  pub entry_name_ready : ReadyToExpand l st (unpaid s) i at → o.tag ≡ 0 → ReadyName l st (unpaid s) i at
  entry_name_ready r h =
      let q = symbol-at r.shown e h in
      record { sets = q.0; symb = q.1.0; shown = rw q.1.1 at r.shown; within = r.within }

  module _ {l1 : List ℕ} {r : Result Out Stop} where
    pub entry_list : {st1 : List ℕ} → o.tag ≡ list_tag → ExpandedList at st st1 l l1 s i o.content r → ExpandedEntry at st st1 l l1 s i r
    entry_list h a =
        record { means = λ x g w k. let q = list_at w e h in rw (same_object q.is) (a.means q.sets q.parts g (rw q.is at w) q.shown k) }

  pub entry_name : {r : Result Out Stop} → o.tag ≡ 0 → ExpandedName at st l s i r → ExpandedEntry at st st l l s i r
  entry_name h a =
      record {
        means = λ x g w k.
            let q = symbol-at w e h in
            let w2 : Rep l s.top i (stx (atom q.0 (symbol q.1.0))) = rw q.1.1 at w in
            rw (q.1.1, entry_symbol (expansion at.entries) (evaluation at.entries) at.entries (around g at) (state_of s (store_of st)) q.0 q.1.0) (a.means q.0 q.1.0 g w2 k);
      }

  pub entry_other : ReadyToExpand l st (unpaid s) i at → ¬ (o.tag ≡ list_tag) → ¬ (o.tag ≡ 0) → ExpandedEntry at st st l l s i (Ok (record { at = i; state = s }))
  unfolding unpaid
  entry_other r n5 n0 =
      record {
        means = λ x g w k.
            let q = atom-at w e (omega (arith, stx-tag w e, n5)) in
            let rule : expand_entry (expansion at.entries) (evaluation at.entries) at.entries (around g at) x (state_of s (store_of st)) ≡ ok x (state_of s (store_of st)) =
            ap (λ (v : Stx). expand_entry (expansion at.entries) (evaluation at.entries) at.entries (around g at) v (state_of s (store_of st))) (same_object q.is)
            ∙ entry_atom (expansion at.entries) (evaluation at.entries) at.entries (around g at) (state_of s (store_of st)) q.sets q.value (λ t. n0 (q.tag ∙ t))
            ∙ ap (λ (v : Stx). ok v (state_of s (store_of st))) (sym (same_object q.is)) in
            gives _ (record {
              value = x;
              is = rule;
              shown = record { rep = w; few = r.within.held.few };
              later = record { kept = (later_refl l s).kept; grows = omega arith; fits = omega arith; spent = omega arith };
            });
      }

-- ---- a list by its head's meaning

same_form : (at : Surroundings) (g : Around) (y : ms.State) {l l1 : List ℕ} {s : State} {b : Store} {x : Result Out Stop} (t : Tree) (k : Sets) {ps qs : Stxs} → ps ≡ qs
    → Agrees objects 1 two_cells l l1 s b (expand_macro (expansion at.entries) (evaluation at.entries) (around g at) t (list k ps) y) x → Agrees objects 1 two_cells l l1 s b (expand_macro (expansion at.entries) (evaluation at.entries) (around g at) t (list k qs) y) x
same_form at g y t k e a = rw e at a

pub list-empty : {at : Surroundings} {st l : List ℕ} {s : State} {i c : ℕ} {r : Result Out Stop} → c ≡ 0 → r ≡ Err (stop_of NoRule s) → ExpandedList at st st l l s i c r
list-empty {at} {st} {l} {s} h same =
    rw same (record { means = λ k ps g u w z. rw (nil-at ps w h) (stops _ (entry_empty (expansion at.entries) (evaluation at.entries) at.entries (around g at) (state_of s (store_of st)) k)) })

module _ {st l : List ℕ} (s : State) {i c : ℕ} {at : Surroundings} where
  pub list_inside : ReadyChain l st (unpaid s) i c at → ¬ (c ≡ 0) → c + cell_size ≤ length l
  unfolding unpaid
  list_inside r h = omega (arith, (first-at r.parts r.chain h refl).cell.inside, r.within.room.fits)

  pub list-known : ReadyChain l st (unpaid s) i c at → Known l at.meanings
  unfolding unpaid
  list-known r = record { top = s.top; thing = r.within.meant.meanings; shown = r.within.known.meant; inside = omega (arith, r.within.room.fits); small = r.within.room.small }

  pub list-stops : ReadyChain l st (unpaid s) i c at → KnownZ l at.stops
  unfolding unpaid
  list-stops r = record { top = s.top; things = r.within.meant.stops; shown = r.within.known.stopped; inside = omega (arith, r.within.room.fits); small = r.within.room.small }

  pub list_held : ReadyChain l st (unpaid s) i c at → s.bindings * binding_size ≤ length st
  unfolding unpaid
  list_held r = omega (arith, r.within.held.few, r.within.held.wide)

  pub list-wide : ReadyChain l st (unpaid s) i c at → held_size ≤ length st
  list-wide r = r.within.held.wide

  module _ {x : Cell} (h : ¬ (c ≡ 0)) (e : x ≡ get_cell l c) where
    pub list_head_seen : ReadyChain l st (unpaid s) i c at → Seen l x.head
    unfolding unpaid
    list_head_seen r =
        let q = first-at r.parts r.chain h e in
        record { top = s.top; thing = stx q.first; shown = q.cell.shown; inside = omega (arith, r.within.room.fits); small = r.within.room.small }

    pub list_form_ready : ReadyChain l st (unpaid s) i c at → ReadyForm l st (unpaid s) i x.head x.tail at
    list_form_ready r =
        let q = first-at r.parts r.chain h e in
        let shown : Rep l (unpaid s).top i (stx (list r.sets (cons q.first q.others))) = rw q.is at r.shown in
        record { sets = r.sets; first = q.first; others = q.others; shown = shown; shown-first = q.cell.shown; shown-others = q.cell.shown-others; within = r.within }

    pub list_tail_ready : ReadyChain l st (unpaid s) i c at → ReadyTail l (unpaid s) i x.head x.tail
    list_tail_ready r =
        let q = list_form_ready r in
        record { sets = q.sets; first = q.first; others = q.others; shown = q.shown; shown-first = q.shown-first; chain = q.shown-others; room = r.within.room; few = r.within.held.few }

    pub list_let_ready : ReadyChain l st (unpaid s) i c at → ReadyLet l st (unpaid s) x.tail at
    list_let_ready r = let q = list_form_ready r in record { parts = q.others; shown = q.shown-others; within = r.within }

    module _ {w : Meaning} (p : MeansAt at.phase st s.bindings l x.head at.meanings at.stops w) where
      pub list_macro_ready : {v : ℕ} → ReadyChain l st (unpaid s) i c at → w ≡ meant.Macro v → ReadyMacro l st s i v at
      unfolding unpaid
      list_macro_ready r z =
          let q = first-at r.parts r.chain h e in
          let g = on_macro (p.means s.top q.first r.within.meant.meanings r.within.meant.stops q.cell.shown r.within.known.meant r.within.known.stopped) z in
          record { value = g.value; thing = list r.sets r.parts; shown = r.shown; shown-value = g.shown; within = within-paid s r.within }

      module _ {st1 l1 : List ℕ} {r : Result Out Stop} where
        pub list-lambda : w ≡ meant.Lambda → ExpandedLambda at st st1 l l1 s i x.head x.tail r → ExpandedList at st st1 l l1 s i c r
        list-lambda z a =
            record {
              means = λ k ps g u v y.
                  let q = first-at ps v h e in
                  let m = on_lambda (p.means s.top q.first g.meanings g.stops q.cell.shown y.meant y.stopped) z in
                  rw (q.is, list-means (expansion at.entries) (evaluation at.entries) at.entries (around g at) (state_of s (store_of st)) k q.first q.others m, form_lambda (expansion at.entries) (evaluation at.entries) at.entries (around g at) (state_of s (store_of st)) k q.first q.others)
                  (a.means k q.first q.others g (rw q.is at u) q.cell.shown q.cell.shown-others y);
            }

        pub list_let_syntax : w ≡ meant.LetSyntax → ExpandedLetSyntax at st st1 l l1 s x.tail r → ExpandedList at st st1 l l1 s i c r
        list_let_syntax z a =
            record {
              means = λ k ps g u v y.
                  let q = first-at ps v h e in
                  let m = on_let_syntax (p.means s.top q.first g.meanings g.stops q.cell.shown y.meant y.stopped) z in
                  rw (q.is, list-means (expansion at.entries) (evaluation at.entries) at.entries (around g at) (state_of s (store_of st)) k q.first q.others m, form_let_syntax (expansion at.entries) (evaluation at.entries) at.entries (around g at) (state_of s (store_of st)) k q.first q.others)
                  (a.means q.others g q.cell.shown-others y);
            }

        pub list-variable : {j : ℕ} → w ≡ meant.Variable j → ExpandedApplication at st st1 l l1 s i c r → ExpandedList at st st1 l l1 s i c r
        list-variable z a =
            record {
              means = λ k ps g u v y.
                  let q = first-at ps v h e in
                  let m = on_variable (p.means s.top q.first g.meanings g.stops q.cell.shown y.meant y.stopped) z in
                  let d = a.means k ps g u v y in
                  rw (q.is, list-means (expansion at.entries) (evaluation at.entries) at.entries (around g at) (state_of s (store_of st)) k q.first q.others m.is, form_variable (expansion at.entries) (evaluation at.entries) at.entries (around g at) (state_of s (store_of st)) k q.first q.others m.sets m.symb)
                  (rw q.is at d);
            }

        pub list-unknown : w ≡ meant.Unknown → ExpandedApplication at st st1 l l1 s i c r → ExpandedList at st st1 l l1 s i c r
        list-unknown z a =
            record {
              means = λ k ps g u v y.
                  let q = first-at ps v h e in
                  let m = on_unknown (p.means s.top q.first g.meanings g.stops q.cell.shown y.meant y.stopped) z in
                  let d = a.means k ps g u v y in
                  rw (q.is, list-means (expansion at.entries) (evaluation at.entries) at.entries (around g at) (state_of s (store_of st)) k q.first q.others m, form_unknown (expansion at.entries) (evaluation at.entries) at.entries (around g at) (state_of s (store_of st)) k q.first q.others)
                  (rw q.is at d);
            }

        pub list-macro : {j : ℕ} → w ≡ meant.Macro j → ExpandedMacro at st st1 l l1 s i j r → ExpandedList at st st1 l l1 s i c r
        list-macro z a =
            record {
              means = λ k ps g u v y.
                  let q = first-at ps v h e in
                  let m = on_macro (p.means s.top q.first g.meanings g.stops q.cell.shown y.meant y.stopped) z in
                  let d = a.means (list k ps) m.value g u m.shown y in
                  rw (q.is, list-means (expansion at.entries) (evaluation at.entries) at.entries (around g at) (state_of s (store_of st)) k q.first q.others m.is, form_macro (expansion at.entries) (evaluation at.entries) at.entries (around g at) (state_of s (store_of st)) k q.first q.others m.value)
                  (same_form at g (state_of s (store_of st)) m.value k q.is (beyond 1 two_cells 0 1 (later_refl l s) (owes_none s) (owes_one s) (omega arith) (omega arith) refl d));
            }

      pub list-stopped : ReadyChain l st (unpaid s) i c at → w ≡ meant.Stopped → ExpandedList at st st l l s i c (Ok (record { at = i; state = s }))
      unfolding unpaid
      list-stopped r z =
          record {
            means = λ k ps g u v y.
                let q = first-at ps v h e in
                let m = on_stopped (p.means s.top q.first g.meanings g.stops q.cell.shown y.meant y.stopped) z in
                rw q.is (gives _ (record {
                  value = list k (cons q.first q.others);
                  is =
                      list-means (expansion at.entries) (evaluation at.entries) at.entries (around g at) (state_of s (store_of st)) k q.first q.others m
                      ∙ form_stopped (expansion at.entries) (evaluation at.entries) at.entries (around g at) (state_of s (store_of st)) k q.first q.others;
                  shown = record { rep = rw q.is at u; few = r.within.held.few };
                  later = record { kept = (later_refl l s).kept; grows = omega arith; fits = omega arith; spent = omega arith };
                }));
          }

      pub list-quote : {r : Result Out Stop} → w ≡ meant.Quote → ExpandedQuote l s i x.tail r → ExpandedList at st st l l s i c r
      list-quote z a =
          record {
            means = λ k ps g u v y.
                let q = first-at ps v h e in
                let m = on_quote (p.means s.top q.first g.meanings g.stops q.cell.shown y.meant y.stopped) z in
                rw (q.is, list-means (expansion at.entries) (evaluation at.entries) at.entries (around g at) (state_of s (store_of st)) k q.first q.others m, form_quote (expansion at.entries) (evaluation at.entries) at.entries (around g at) (state_of s (store_of st)) k q.first q.others)
                (a.means (store_of st) (list k (cons q.first q.others)) q.others (rw q.is at u) q.cell.shown-others);
          }

      pub list-syntax : {l1 : List ℕ} {r : Result Out Stop} → w ≡ meant.Syntax → ExpandedSyntax at.phase st l l1 s i x.head x.tail r → ExpandedList at st st l l1 s i c r
      list-syntax z a =
          record {
            means = λ k ps g u v y.
                let q = first-at ps v h e in
                let m = on_syntax (p.means s.top q.first g.meanings g.stops q.cell.shown y.meant y.stopped) z in
                rw (q.is, list-means (expansion at.entries) (evaluation at.entries) at.entries (around g at) (state_of s (store_of st)) k q.first q.others m, form_syntax (expansion at.entries) (evaluation at.entries) at.entries (around g at) (state_of s (store_of st)) k q.first q.others)
                (a.means k q.first q.others (rw q.is at u) q.cell.shown q.cell.shown-others);
          }

      pub list_is_unclear : {r : Result Out Stop} {v : Rivals} → w ≡ meant.Unclear v → r ≡ Err (ambiguous_of v s) → ExpandedList at st st l l s i c r
      list_is_unclear z same =
          rw same (record {
            means = λ k ps g u v y.
                let q = first-at ps v h e in
                rw q.is (stops _ (list-unclear (expansion at.entries) (evaluation at.entries) at.entries (around g at) (state_of s (store_of st)) k q.first q.others (on_meaning_unclear (p.means s.top q.first g.meanings g.stops q.cell.shown y.meant y.stopped) z)));
          })

pub ruleset laws = (
  enter_one,
  enter_less,
  enter_ready,
  enter_goes,
  enter_stops,
  node-inside,
  entry_list_ready,
  entry_name_ready,
  entry_list,
  entry_name,
  entry_other,
  list-empty,
  list_inside,
  list-known,
  list-stops,
  list_held,
  list-wide,
  list_head_seen,
  list_form_ready,
  list_tail_ready,
  list_let_ready,
  list_macro_ready,
  list-lambda,
  list_let_syntax,
  list-variable,
  list-unknown,
  list-macro,
  list-quote,
  list-stopped,
  list-syntax,
  list_is_unclear,
)
