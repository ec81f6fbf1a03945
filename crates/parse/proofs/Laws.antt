-- One law for each way through the functions of parsing.
use mathlib.Core.Path.{◌≡◌, refl, sym, ap, ◌∙◌}
use mathlib.Core.List.{List}
use Prim.Native.Nat.{ℕ, ◌+◌, ◌-◌, ◌*◌, ◌^◌, ◌≤◌, ◌<◌}
use native.Mathlib.Omega.{arith}
use lib.ListN.{length}
use Rattle.std.specs.Prelude.{Result, Ok, Err, Option, Some, None}
use Rattle.model.specs.Objects as ob
use Rattle.model.specs.Objects.{Atom, symbol, tag_of, content_of, Stx, atom, list, Stxs, nil, cons, size, count}
use Rattle.model.specs.Trees.{var, app, fun, datum, stx, tcons, from_stxs, strip}
use Rattle.model.specs.Steps.{ok, parts1, parts2}
use Rattle.model.specs.Meanings.{form_of}
use Rattle.model.specs.Parsing.{parse_entry, parse}
use Rattle.refusals.specs.declared.Refusal.TheVariants.{NoRule}
use Rattle.scopes.specs.declared.Name.{Name}
use Rattle.store.specs.declared.rivals.Rivals.{Rivals}
use Rattle.steps.specs.States.{store_of, state_of, stop_of, ambiguous_of, paid, raised_to, charge_of, enter_of}
use Rattle.steps.specs.Agreement.{Later, Gave, Agrees, gives, stops}
use Rattle.steps.specs.declared.State.{State}
use Rattle.steps.specs.declared.Stop.{Stop}
use Rattle.steps.specs.declared.Out.{Out}
use Rattle.steps.proofs.Laws.{Went, charge_went, charge_failed, enter_spare, enter_went, entry_refused, entry_goes, charge-ok, charge-no, then_ok, then_no, later_refl, on_done, on_refused}
use Rattle.table.specs.Tags.{list_tag, variable_tag, application_tag, atom_value_tag}
use Rattle.table.specs.Words.{get_node, get_cell, Same}
use Rattle.table.specs.declared.Node.{Node}
use Rattle.table.specs.declared.Cell.{Cell}
use Rattle.table.proofs.Laws.{same_trans}
use Rattle.things.specs.Rep.{Rep, RepP, is-atom, is-list}
use Rattle.things.specs.Measuring.{Seen, SeenP, Measured}
use Rattle.things.specs.Making.{Roomy, Stored, Closable, Closed}
use Rattle.things.specs.declared.Extent.{Extent}
use Rattle.things.specs.declared.Made.{Made}
use Rattle.things.proofs.Frame.{below}
use Rattle.things.proofs.ByTag.{tag_is, atom-at, list_at, stx-tag, same_object}
use Rattle.things.proofs.Making.{made-var, made-app, made-datum}
use Rattle.things.proofs.Measuring.{charged-size, covered_size}
use Rattle.forms.specs.Shapes.{Single, Double}
use Rattle.forms.specs.Names.{Names, formed}
use Rattle.forms.specs.declared.Form.{Form}
use Rattle.forms.specs.declared.Form.TheVariants as form
use Rattle.forms.specs.declared.Naming.{Naming}
use Rattle.forms.specs.declared.Naming.TheVariants.{Named, Unclear, Unnamed}
use Rattle.forms.proofs.Shapes.{nil-at, first-at, on_one, on_not_one, on_two, on_not_two, not-parts1, not-parts2}
use Rattle.forms.proofs.Names.{on_named, on_unclear, on_unnamed, identifier-named, identifier-unclear, identifier_unnamed}
use Rattle.copying.specs.Copying.{Copyable, Copied}
use Rattle.parse.specs.Shown.{trees}
use Rattle.parse.specs.Parsing.{unpaid, ReadyToParse, ReadyParts, ReadyForm, ReadyChain, ReadyData, name_rule, function_rule, lambda_rule, data_rule, quote_rule, syntax_rule, Parsed, ParsedEntry, ParsedName, ParsedList, ParsedForm, ParsedLambda, ParsedFunction, ParsedQuote, ParsedData, ParsedSyntax, ParsedApplication, ParsedParts}
use Rattle.parse.proofs.Rules.{parse_entry_lem, entry_atom, entry_symbol, entry_empty, list-named, list-unclear, list_unnamed, form_lambda, form_let_syntax, form_quote, form_syntax, form_other, application_is, application_no}
use Rattle.table.specs.Sizes.{cell_size, two_cells, node_size, most_size}
use Rattle.store.specs.Sizes.{binding_size}

-- ---- the state before the entry was charged

pub unpaid-is : {s u : State} → Went 1 s u → unpaid u ≡ s
unfolding unpaid
unpaid-is {s} {u} w =
    let n : s.left - 1 + 1 ≡ s.left = omega (arith, w.enough) in
    rw w.is (λ j. record { top = s.top; left = n j; names = s.names; scopes = s.scopes; bindings = s.bindings })

pub top-is : {s u : State} → Went 1 s u → u.top ≡ s.top
top-is w = ap (λ (y : State). y.top) w.is

-- what an entry makes of one node
node-later : {l l1 : List ℕ} {top1 : ℕ} (s : State) → Same s.top l l1 → top1 ≡ s.top + node_size → Later 1 two_cells l l1 (unpaid s) (raised_to top1 s)
unfolding unpaid
node-later s k g = record { kept = k; grows = omega (arith, g); fits = omega (arith, g); spent = omega arith }

-- ---- what is read

pub node-inside : {l st : List ℕ} (s : State) {i : ℕ} → ReadyToParse l st (unpaid s) i → i + node_size ≤ length l
unfolding unpaid
node-inside s r = omega (arith, below r.shown, r.room.fits)

pub node_seen : {l st : List ℕ} (s : State) {i : ℕ} → ReadyToParse l st (unpaid s) i → Seen l i
unfolding unpaid
node_seen s r = record { top = s.top; thing = stx r.thing; shown = r.shown; inside = omega (arith, r.room.fits); small = r.room.small }

pub node-held : {l st : List ℕ} (s : State) {i : ℕ} → ReadyToParse l st (unpaid s) i → s.bindings * binding_size ≤ length st
unfolding unpaid
node-held s r = omega (arith, r.held.few, r.held.wide)

pub node_roomy : {l st : List ℕ} (s : State) {i : ℕ} → ReadyToParse l st (unpaid s) i → Roomy l s.top node_size
unfolding unpaid
node_roomy s r = record { fits = omega (arith, r.room.fits); small = r.room.small; low = r.room.low }

-- ---- parse

module _ (entries : ℕ) (s : State) {u : State} {x : Result State Stop} (h : x ≡ enter_of entries s) (e : x ≡ Ok u) where
  pub enter_one : 1 ≤ entries
  enter_one = enter_spare entries s h e

  pub enter_less : {T : ℕ} → s.left * 8 ≡ T → u.left * 8 + 6 < T
  enter_less k = let q = enter_went entries s h e in omega (arith, q.enough, ap (λ (y : State). y.left) q.is)

  pub enter_ready : {l st : List ℕ} {i : ℕ} → ReadyToParse l st s i → ReadyToParse l st (unpaid u) i
  enter_ready r = rw (unpaid-is (enter_went entries s h e)) r

  pub enter_goes : {ph : ℕ} {st l l1 : List ℕ} {i : ℕ} {r : Result Out Stop} → ParsedEntry (entries - 1) ph st l l1 u i r → Parsed entries ph st l l1 s i r
  enter_goes {ph} {st} {l} {l1} {i} {r} f =
      let w = enter_went entries s h e in
      record {
        means = λ y q.
            let a = f.means y (rw (top-is w) q) in
            let d : Agrees trees 1 two_cells l l1 s (store_of st) (parse_entry (λ z. parse (entries - 1) ph z) ph y (state_of u (store_of st))) r = rw (unpaid-is w) at a in
            rw (entry_goes (parse_entry_lem ph y) entries s (store_of st) h e) d;
      }

pub enter_stops : {entries ph : ℕ} {st : List ℕ} {s : State} {x : Result State Stop} {f : Stop} {l : List ℕ} {i : ℕ} → x ≡ enter_of entries s → x ≡ Err f
    → Parsed entries ph st l l s i (Err f)
enter_stops {entries} {ph} {st} {s} {f = f} h e = record { means = λ y q. stops f (entry_refused (parse_entry_lem ph y) entries s (store_of st) h e) }

-- ---- an entry by its tag

symbol-at : {l : List ℕ} {top i : ℕ} {o : Node} {x : Stx} → Rep l top i (stx x) → o ≡ get_node l i → o.tag ≡ 0 → (c : ob.Sets) × ((n : ℕ) × (x ≡ atom c (symbol n)))
unfolding tag_of
symbol-at (is-atom {s = c} {a = ob.symbol n} a q y) e h = (c, (n, refl))
symbol-at (is-atom {a = ob.number n} a q y) e h = absurd (omega (arith, tag_is e q, h))
symbol-at (is-atom {a = ob.point n} a q y) e h = absurd (omega (arith, tag_is e q, h))
symbol-at (is-atom {a = ob.prim n} a q y) e h = absurd (omega (arith, tag_is e q, h))
symbol-at (is-atom {a = ob.rung n} a q y) e h = absurd (omega (arith, tag_is e q, h))
symbol-at (is-list a q y r) e h = absurd (omega (arith, tag_is e q, h))

module _ {st l : List ℕ} (s : State) {i : ℕ} {o : Node} (e : o ≡ get_node l i) where
  pub entry_list_ready : ReadyToParse l st (unpaid s) i → o.tag ≡ list_tag → ReadyParts l st (unpaid s) o.content
  entry_list_ready r h = let q = list_at r.shown e h in record { thing = q.parts; shown = q.shown; room = r.room; held = r.held }

  pub entry_list : {entries ph : ℕ} {l1 : List ℕ} {r : Result Out Stop} → o.tag ≡ list_tag → ParsedList entries ph st l l1 s o.content r → ParsedEntry entries ph st l l1 s i r
  entry_list h a = record { means = λ x w. let q = list_at w e h in rw (same_object q.is) (a.means q.sets q.parts q.shown) }

  pub entry_name : {entries ph : ℕ} {l1 : List ℕ} {r : Result Out Stop} → o.tag ≡ 0 → ParsedName ph st l l1 s i r → ParsedEntry entries ph st l l1 s i r
  entry_name {entries} {ph} h a =
      record {
        means = λ x w.
            let q = symbol-at w e h in
            let same : parse_entry (λ y. parse entries ph y) ph x (state_of s (store_of st)) ≡ name_rule ph x (state_of s (store_of st)) =
            rw q.1.1 (entry_symbol (λ y. parse entries ph y) ph (state_of s (store_of st)) q.0 q.1.0) in
            rw same (a.means x w);
      }

  pub entry_value_tag : ReadyToParse l st (unpaid s) i → atom_value_tag + o.tag < 2 ^ 32
  entry_value_tag r = omega (arith, stx-tag r.shown e)

  pub entry_value : {entries ph : ℕ} {l1 : List ℕ} {k : Made} {z : State} → ReadyToParse l st (unpaid s) i → ¬ (o.tag ≡ list_tag) → ¬ (o.tag ≡ 0)
      → Stored l l1 s.top (record { tag = atom_value_tag + o.tag; content = o.content }) k.at k.top → z ≡ raised_to k.top s
      → ParsedEntry entries ph st l l1 s i (Ok (record { at = k.at; state = z }))
  unfolding unpaid
  entry_value {entries} {ph} {l1} {k} {z} r n5 n0 d g =
      record {
        means = λ x w.
            let q = atom-at w e (omega (arith, stx-tag w e, n5)) in
            let node : ◌≡◌ {A = Node} (record { tag = atom_value_tag + o.tag; content = o.content }) (record { tag = atom_value_tag + tag_of q.value; content = content_of q.value }) =
            λ j. record { tag = atom_value_tag + q.tag j; content = q.content j } in
            let d2 : Stored l l1 s.top (record { tag = atom_value_tag + tag_of q.value; content = content_of q.value }) k.at k.top = rw node at d in
            let rule : parse_entry (λ y. parse entries ph y) ph x (state_of s (store_of st)) ≡ ok (datum q.value) (state_of s (store_of st)) =
            ap (λ (v : Stx). parse_entry (λ y. parse entries ph y) ph v (state_of s (store_of st))) (same_object q.is)
            ∙ entry_atom (λ y. parse entries ph y) ph (state_of s (store_of st)) q.sets q.value (λ t. n0 (q.tag ∙ t)) in
            rw g (gives (record { at = k.at; state = raised_to k.top s }) (record {
              value = datum q.value;
              is = rule;
              shown = record { rep = made-datum q.value d2; few = r.held.few };
              later = node-later s d.kept d.grows;
            }));
      }

-- ---- a variable

module _ {ph : ℕ} {st l : List ℕ} (s : State) {i : ℕ} {n : Naming} (p : Names ph st s.bindings l i n) where
  pub name_unnamed : {r : Result Out Stop} → n ≡ Unnamed → r ≡ Err (stop_of NoRule s) → ParsedName ph st l l s i r
  unfolding name_rule
  name_unnamed e same = rw same (record { means = λ x w. stops _ (identifier_unnamed ph (state_of s (store_of st)) x _ (on_unnamed p w e)) })

  pub name-unclear : {r : Result Out Stop} {k : Rivals} → n ≡ Unclear k → r ≡ Err (ambiguous_of k s) → ParsedName ph st l l s i r
  unfolding name_rule
  name-unclear e same = rw same (record { means = λ x w. stops _ (identifier-unclear ph (state_of s (store_of st)) (λ k. λ z. ok (var k) z) x (on_unclear p w e)) })

  pub name-var : {v : Name} {l1 : List ℕ} {k : Made} {z : State} → ReadyToParse l st (unpaid s) i → n ≡ Named v
      → Stored l l1 s.top (record { tag = variable_tag; content = v.0 }) k.at k.top → z ≡ raised_to k.top s
      → ParsedName ph st l l1 s i (Ok (record { at = k.at; state = z }))
  unfolding name_rule unpaid
  name-var {v} {l1} {k} {z} r e d g =
      record {
        means = λ x w.
            rw g (gives (record { at = k.at; state = raised_to k.top s }) (record {
              value = var v.0;
              is = identifier-named ph (state_of s (store_of st)) (λ k. λ z. ok (var k) z) x (on_named p w e);
              shown = record { rep = made-var d; few = r.held.few };
              later = node-later s d.kept d.grows;
            }));
      }

-- ---- a list

pub list-empty : {entries ph : ℕ} {st l : List ℕ} {s : State} {c : ℕ} {r : Result Out Stop} → c ≡ 0 → r ≡ Err (stop_of NoRule s) → ParsedList entries ph st l l s c r
list-empty {entries} {ph} {st} {l} {s} h same =
    rw same
    (record { means = λ k ps w. rw (nil-at ps w h) (stops _ (entry_empty (λ y. parse entries ph y) ph (state_of s (store_of st)) k)) })

pub list_inside : {l st : List ℕ} (s : State) {c : ℕ} → ReadyParts l st (unpaid s) c → ¬ (c ≡ 0) → c + cell_size ≤ length l
unfolding unpaid
list_inside s r h = omega (arith, (first-at r.thing r.shown h refl).cell.inside, r.room.fits)

module _ {st l : List ℕ} (s : State) {c : ℕ} {x : Cell} (h : ¬ (c ≡ 0)) (e : x ≡ get_cell l c) where
  pub list_head_seen : ReadyParts l st (unpaid s) c → Seen l x.head
  unfolding unpaid
  list_head_seen r =
      let q = first-at r.thing r.shown h e in
      record { top = s.top; thing = stx q.first; shown = q.cell.shown; inside = omega (arith, r.room.fits); small = r.room.small }

  pub list_form_ready : ReadyParts l st (unpaid s) c → ReadyForm l st (unpaid s) c x.tail
  unfolding from_stxs
  list_form_ready r =
      let q = first-at r.thing r.shown h e in
      let all : RepP l (unpaid s).top c (tcons (stx q.first) (from_stxs q.others)) = rw q.is at r.shown in
      record { first = q.first; others = q.others; shown = all; shown-others = q.cell.shown-others; room = r.room; held = r.held }

  module _ {entries ph : ℕ} {n : Naming} (p : Names ph st s.bindings l x.head n) where
    pub list_is_unclear : {r : Result Out Stop} {k : Rivals} → n ≡ Unclear k → r ≡ Err (ambiguous_of k s) → ParsedList entries ph st l l s c r
    list_is_unclear z same =
        rw same
        (record {
          means = λ k ps w.
              let q = first-at ps w h e in
              rw q.is (stops _ (list-unclear (λ y. parse entries ph y) ph (state_of s (store_of st)) k q.first q.others (on_unclear p q.cell.shown z)));
        })

    pub list_applied : {l1 : List ℕ} {r : Result Out Stop} → n ≡ Unnamed → ParsedApplication entries ph st l l1 s c r → ParsedList entries ph st l l1 s c r
    unfolding from_stxs
    list_applied z a =
        record {
          means = λ k ps w.
              let q = first-at ps w h e in
              let all : RepP l s.top c (tcons (stx q.first) (from_stxs q.others)) = rw q.is at w in
              rw (q.is, list_unnamed (λ y. parse entries ph y) ph (state_of s (store_of st)) k q.first q.others (on_unnamed p q.cell.shown z))
              (a.means q.first q.others all);
        }

    pub list-formed : {v : Name} {l1 : List ℕ} {r : Result Out Stop} → n ≡ Named v → ParsedForm entries ph st l l1 s v.0 c x.tail r → ParsedList entries ph st l l1 s c r
    unfolding from_stxs
    list-formed z a =
        record {
          means = λ k ps w.
              let q = first-at ps w h e in
              let all : RepP l s.top c (tcons (stx q.first) (from_stxs q.others)) = rw q.is at w in
              rw (q.is, list-named (λ y. parse entries ph y) ph (state_of s (store_of st)) k q.first q.others (on_named p q.cell.shown z))
              (a.means q.first q.others all q.cell.shown-others);
        }

-- ---- forms

module _ {entries ph : ℕ} {st l : List ℕ} {s : State} {n : ℕ} {c tail : ℕ} {f : Form} (h : formed f ≡ form_of n) where
  pub form_is_lambda : {l1 : List ℕ} {r : Result Out Stop} → f ≡ form.Lambda → ParsedLambda entries ph st l l1 s tail r → ParsedForm entries ph st l l1 s n c tail r
  form_is_lambda z a =
      record { means = λ x ps u w. rw (form_lambda (λ y. parse entries ph y) ph (state_of s (store_of st)) x ps (sym (ap formed z) ∙ h)) (a.means ps w) }

  pub form_is_let_syntax : {r : Result Out Stop} → f ≡ form.LetSyntax → r ≡ Err (stop_of NoRule s) → ParsedForm entries ph st l l s n c tail r
  form_is_let_syntax z same = rw same (record { means = λ x ps u w. stops _ (form_let_syntax (λ y. parse entries ph y) ph (state_of s (store_of st)) x ps (sym (ap formed z) ∙ h)) })

  pub form_is_quote : {l1 : List ℕ} {r : Result Out Stop} → f ≡ form.Quote → ParsedQuote l l1 s tail r → ParsedForm entries ph st l l1 s n c tail r
  form_is_quote z a =
      record { means = λ x ps u w. rw (form_quote (λ y. parse entries ph y) ph (state_of s (store_of st)) x ps (sym (ap formed z) ∙ h)) (a.means (store_of st) ps w) }

  pub form_is_syntax : {r : Result Out Stop} → f ≡ form.Syntax → ParsedSyntax l s tail r → ParsedForm entries ph st l l s n c tail r
  form_is_syntax z a =
      record { means = λ x ps u w. rw (form_syntax (λ y. parse entries ph y) ph (state_of s (store_of st)) x ps (sym (ap formed z) ∙ h)) (a.means (store_of st) ps w) }

  pub form_is_other : {l1 : List ℕ} {r : Result Out Stop} → f ≡ form.Other → ParsedApplication entries ph st l l1 s c r → ParsedForm entries ph st l l1 s n c tail r
  form_is_other z a =
      record { means = λ x ps u w. rw (form_other (λ y. parse entries ph y) ph (state_of s (store_of st)) x ps (sym (ap formed z) ∙ h)) (a.means x ps u) }

module _ {l st : List ℕ} (s : State) {c tail : ℕ} (r : ReadyForm l st (unpaid s) c tail) where
  pub form_tail_ready : ReadyParts l st (unpaid s) tail
  form_tail_ready = record { thing = r.others; shown = r.shown-others; room = r.room; held = r.held }

  pub form_chain_ready : ReadyChain l (unpaid s) tail
  form_chain_ready = record { thing = r.others; shown = r.shown-others; room = r.room; few = r.held.few }

  pub form_all_ready : ReadyParts l st (unpaid s) c
  unfolding from_stxs
  form_all_ready = record { thing = cons r.first r.others; shown = r.shown; room = r.room; held = r.held }

-- ---- lambda

pub lambda-seen : {l st : List ℕ} (s : State) {c : ℕ} → ReadyParts l st (unpaid s) c → SeenP l c
unfolding unpaid
lambda-seen s r = record { top = s.top; thing = from_stxs r.thing; shown = r.shown; inside = omega (arith, r.room.fits); small = r.room.small }

pub parts_held : {l st : List ℕ} (s : State) {c : ℕ} → ReadyParts l st (unpaid s) c → s.bindings * binding_size ≤ length st
unfolding unpaid
parts_held s r = omega (arith, r.held.few, r.held.wide)

module _ {st l : List ℕ} (s : State) {c : ℕ} {d : Option (ℕ × ℕ)} (h : Double l c d) where
  pub lambda_shape : {entries ph : ℕ} {r : Result Out Stop} → d ≡ None → r ≡ Err (stop_of NoRule s) → ParsedLambda entries ph st l l s c r
  unfolding lambda_rule
  lambda_shape e same = rw same (record { means = λ ps w. stops _ (not-parts2 ps _ (state_of s (store_of st)) (on_not_two (h.means s.top ps w) e)) })

  module _ {i j : ℕ} (e : d ≡ Some (i, j)) where
    pub lambda_id_seen : ReadyParts l st (unpaid s) c → Seen l i
    unfolding unpaid
    lambda_id_seen r =
        let q = on_two (h.means s.top r.thing r.shown) e in
        record { top = s.top; thing = stx q.first; shown = q.shown; inside = omega (arith, r.room.fits); small = r.room.small }

    pub lambda_body_ready : ReadyParts l st (unpaid s) c → ReadyToParse l st (unpaid s) j
    lambda_body_ready r = let q = on_two (h.means (unpaid s).top r.thing r.shown) e in record { thing = q.second; shown = q.shown-second; room = r.room; held = r.held }

    module _ {entries ph : ℕ} {n : Naming} (p : Names ph st s.bindings l i n) where
      pub lambda_unnamed : {r : Result Out Stop} → n ≡ Unnamed → r ≡ Err (stop_of NoRule s) → ParsedLambda entries ph st l l s c r
      unfolding lambda_rule parts2
      lambda_unnamed z same =
          rw same
          (record {
            means = λ ps w.
                let q = on_two (h.means s.top ps w) e in
                rw q.is (stops _ (identifier_unnamed ph (state_of s (store_of st)) q.first _ (on_unnamed p q.shown z)));
          })

      pub lambda-unclear : {r : Result Out Stop} {k : Rivals} → n ≡ Unclear k → r ≡ Err (ambiguous_of k s) → ParsedLambda entries ph st l l s c r
      unfolding lambda_rule parts2
      lambda-unclear z same =
          rw same
          (record {
            means = λ ps w.
                let q = on_two (h.means s.top ps w) e in
                rw q.is (stops _ (identifier-unclear ph (state_of s (store_of st)) (λ k. function_rule (λ y. parse entries ph y) k q.second) q.first (on_unclear p q.shown z)));
          })

      pub lambda_function : {v : Name} {l1 : List ℕ} {r : Result Out Stop} → n ≡ Named v → ParsedFunction entries ph st l l1 s v.0 j r → ParsedLambda entries ph st l l1 s c r
      unfolding lambda_rule parts2
      lambda_function z a =
          record {
            means = λ ps w.
                let q = on_two (h.means s.top ps w) e in
                rw (q.is, identifier-named ph (state_of s (store_of st)) (λ k. function_rule (λ y. parse entries ph y) k q.second) q.first (on_named p q.shown z))
                (a.means q.second q.shown-second);
          }

-- ---- function

-- an entry's unit is not needed for what follows
pub later-ready : {l st : List ℕ} (s : State) {i : ℕ} → ReadyToParse l st (unpaid s) i → ReadyToParse l st s i
unfolding unpaid
later-ready s r = record { thing = r.thing; shown = r.shown; room = record { fits = omega (arith, r.room.fits); small = r.room.small; low = r.room.low }; held = record { few = r.held.few; wide = r.held.wide } }

module _ {entries ph : ℕ} {st l l1 : List ℕ} (s : State) {body : ℕ} {a : Result Out Stop} (v : Parsed entries ph st l l1 s body a) where
  pub function_refused : {n : ℕ} {f : Stop} → a ≡ Err f → ParsedFunction entries ph st l l1 s n body (Err f)
  unfolding function_rule
  function_refused e = record { means = λ x w. stops _ (then_no _ (on_refused (v.means x w) e)) }

  module _ {o : Out} (e : a ≡ Ok o) where
    function_gave : (x : Stx) → Rep l s.top body (stx x) → Gave trees 1 two_cells l l1 s (store_of st) (parse entries ph x (state_of s (store_of st))) o
    function_gave x w = on_done (v.means x w) e

    pub function_ready : ReadyToParse l st (unpaid s) body → length l1 ≡ length l → Closable l1 o.state.top o.at
    unfolding unpaid
    function_ready r len =
        let g = function_gave r.thing r.shown in
        record {
          thing = g.value;
          shown = g.shown.rep;
          room = record { fits = omega (arith, g.later.fits, r.room.fits, len); small = omega (arith, r.room.small, len); low = omega (arith, r.room.low, g.later.grows) };
        }

    pub function_made : {n : ℕ} {l2 : List ℕ} {k : Made} {z : State} → Closed l1 l2 o.state.top n o.at k.at k.top → z ≡ raised_to k.top o.state
        → ParsedFunction entries ph st l l2 s n body (Ok (record { at = k.at; state = z }))
    unfolding function_rule unpaid
    function_made {n} {l2} {k} d g =
        record {
          means = λ x w.
              let q = function_gave x w in
              rw g (gives (record { at = k.at; state = raised_to k.top o.state }) (record {
                value = fun n q.value;
                is = then_ok _ q.is;
                shown = record { rep = d.means q.value q.shown.rep; few = q.shown.few };
                later = record {
                  kept = same_trans s.top o.state.top l l1 l2 q.later.grows q.later.kept d.kept;
                  grows = omega (arith, q.later.grows, d.grows);
                  fits = omega (arith, q.later.fits, d.grows);
                  spent = omega (arith, q.later.spent);
                };
              }));
        }

-- ---- quote and syntax

pub chain-seen : {l : List ℕ} (s : State) {c : ℕ} → ReadyChain l (unpaid s) c → SeenP l c
unfolding unpaid
chain-seen s r = record { top = s.top; thing = from_stxs r.thing; shown = r.shown; inside = omega (arith, r.room.fits); small = r.room.small }

module _ {l : List ℕ} (s : State) {c : ℕ} {d : Option ℕ} (h : Single l c d) where
  pub syntax_shape : {r : Result Out Stop} → d ≡ None → r ≡ Err (stop_of NoRule s) → ParsedSyntax l s c r
  unfolding syntax_rule
  syntax_shape e same = rw same (record { means = λ b ps w. stops _ (not-parts1 ps _ (state_of s b) (on_not_one (h.means s.top ps w) e)) })

  pub quote_shape : {r : Result Out Stop} → d ≡ None → r ≡ Err (stop_of NoRule s) → ParsedQuote l l s c r
  unfolding quote_rule
  quote_shape e same = rw same (record { means = λ b ps w. stops _ (not-parts1 ps _ (state_of s b) (on_not_one (h.means s.top ps w) e)) })

  module _ {i : ℕ} (e : d ≡ Some i) where
    pub syntax-is : ReadyChain l (unpaid s) c → ParsedSyntax l s c (Ok (record { at = i; state = s }))
    unfolding syntax_rule parts1 unpaid
    syntax-is r =
        record {
          means = λ b ps w.
              let q = on_one (h.means s.top ps w) e in
              rw q.is (gives _ (record {
                value = stx q.first;
                is = refl;
                shown = record { rep = q.shown; few = r.few };
                later = record { kept = (later_refl l s).kept; grows = omega arith; fits = omega arith; spent = omega arith };
              }));
        }

    pub quote-ready : ReadyChain l (unpaid s) c → ReadyData l (unpaid s) i
    quote-ready r = let q = on_one (h.means (unpaid s).top r.thing r.shown) e in record { thing = q.first; shown = q.shown; room = r.room; few = r.few }

    pub quote-is : {l1 : List ℕ} {r : Result Out Stop} → ParsedData l l1 s i r → ParsedQuote l l1 s c r
    unfolding quote_rule parts1
    quote-is a = record { means = λ b ps w. let q = on_one (h.means s.top ps w) e in rw q.is (a.means b q.first q.shown) }

pub data-seen : {l : List ℕ} (s : State) {i : ℕ} → ReadyData l (unpaid s) i → Seen l i
unfolding unpaid
data-seen s r = record { top = s.top; thing = stx r.thing; shown = r.shown; inside = omega (arith, r.room.fits); small = r.room.small }

module _ {l : List ℕ} (s : State) {i : ℕ} {ex : Extent} (k : Measured l i ex) {y : Result State Stop} (f : y ≡ charge_of ex.weight s) (r : ReadyData l (unpaid s) i) where
  few-left : s.left < most_size
  unfolding unpaid
  few-left = omega (arith, r.room.fits, r.room.small)

  pub data-short : {t : Stop} → y ≡ Err t → ParsedData l l s i (Err t)
  unfolding data_rule
  data-short {t} g =
      let q = charge_failed ex.weight s f g in
      record { means = λ b x w. rw q.is (stops _ (then_no _ (charge-no (size x) s b (omega (arith, q.short, few-left, charged-size k x w))))) }

  module _ {u : State} (g : y ≡ Ok u) where
    went : Went ex.weight s u
    went = charge_went ex.weight s f g

    pub strip-ready : Copyable l u.top i
    unfolding unpaid
    strip-ready =
        let n : ex.weight ≡ size r.thing = covered_size k few-left went.enough r.thing r.shown in
        rw went.is (record { thing = r.thing; shown = r.shown; charged = omega (arith, n, went.enough, few-left); room = omega (arith, r.room.fits, went.enough, n); small = r.room.small; low = r.room.low })

    pub data-made : {l1 : List ℕ} {at : Made} {z : State} → Copied strip l l1 u.top i at.at at.top → z ≡ raised_to at.top u
        → ParsedData l l1 s i (Ok (record { at = at.at; state = z }))
    unfolding data_rule unpaid
    data-made {l1} {at} {z} v j =
        let ut : u.top ≡ s.top = ap (λ (y : State). y.top) went.is in
        let uu : u.left ≡ s.left - ex.weight = ap (λ (y : State). y.left) went.is in
        let ub : u.bindings ≡ s.bindings = ap (λ (y : State). y.bindings) went.is in
        let v2 : Copied strip l l1 s.top i at.at at.top = rw ut at v in
        record {
          means = λ b x w.
              let n : ex.weight ≡ size x = covered_size k few-left went.enough x w in
              let q = v2.means x w in
              let same : state_of (paid (size x) s) b ≡ state_of u b = rw went.is (ap (λ (k : ℕ). state_of (paid k s) b) (sym n)) in
              rw j (gives (record { at = at.at; state = raised_to at.top u }) (record {
                value = strip x;
                is = then_ok _ (charge-ok (size x) s b (omega (arith, n, went.enough))) ∙ ap (ok (strip x)) same;
                shown = record { rep = q.shown; few = omega (arith, ub, r.few) };
                later = record { kept = v2.kept; grows = v2.grows; fits = omega (arith, q.room, uu, n, went.enough); spent = omega (arith, uu) };
              }));
        }

-- ---- application

pub parts-ready : {l st : List ℕ} (s : State) {c : ℕ} → ReadyParts l st (unpaid s) c → ReadyParts l st s c
unfolding unpaid
parts-ready s r = record { thing = r.thing; shown = r.shown; room = record { fits = omega (arith, r.room.fits); small = r.room.small; low = r.room.low }; held = record { few = r.held.few; wide = r.held.wide } }

module _ {entries ph : ℕ} {st l l1 : List ℕ} (s : State) {c : ℕ} {a : Result Out Stop} (v : ParsedParts entries ph st l l1 s c a) where
  pub application_refused : {f : Stop} → a ≡ Err f → ParsedApplication entries ph st l l1 s c (Err f)
  unfolding from_stxs
  application_refused e =
      record { means = λ h ps w. stops _ (application_no (λ y. parse entries ph y) h ps (state_of s (store_of st)) (on_refused (v.means (cons h ps) w) e)) }

  module _ {o : Out} (e : a ≡ Ok o) where
    pub application_roomy : ReadyParts l st (unpaid s) c → length l1 ≡ length l → Roomy l1 o.state.top node_size
    unfolding unpaid
    application_roomy r len =
        let g = on_done (v.means r.thing r.shown) e in
        record { fits = omega (arith, g.later.fits, r.room.fits, len); small = omega (arith, r.room.small, len); low = omega (arith, r.room.low, g.later.grows) }

    pub application_made : {l2 : List ℕ} {k : Made} {z : State} → Stored l1 l2 o.state.top (record { tag = application_tag; content = o.at }) k.at k.top
        → z ≡ raised_to k.top o.state → ParsedApplication entries ph st l l2 s c (Ok (record { at = k.at; state = z }))
    unfolding from_stxs unpaid
    application_made {l2} {k} d g =
        record {
          means = λ h ps w.
              let q = on_done (v.means (cons h ps) w) e in
              let f = application_is (λ y. parse entries ph y) h ps (state_of s (store_of st)) q.is in
              let shown : RepP l1 o.state.top o.at (tcons f.first f.others) = rw f.is at q.shown.rep in
              rw g (gives (record { at = k.at; state = raised_to k.top o.state }) (record {
                value = app f.first f.others;
                is = f.rule;
                shown = record { rep = made-app d shown; few = q.shown.few };
                later = record {
                  kept = same_trans s.top o.state.top l l1 l2 q.later.grows q.later.kept d.kept;
                  grows = omega (arith, q.later.grows, d.grows);
                  fits = omega (arith, q.later.fits, d.grows);
                  spent = omega (arith, q.later.spent);
                };
              }));
        }

pub ruleset laws = (
  node-inside,
  node_seen,
  node-held,
  node_roomy,
  enter_one,
  enter_less,
  enter_ready,
  enter_goes,
  enter_stops,
  entry_list_ready,
  entry_list,
  entry_name,
  entry_value_tag,
  entry_value,
  name_unnamed,
  name-unclear,
  name-var,
  list-empty,
  list_inside,
  list_head_seen,
  list_form_ready,
  list_is_unclear,
  list_applied,
  list-formed,
  form_is_lambda,
  form_is_let_syntax,
  form_is_quote,
  form_is_syntax,
  form_is_other,
  form_tail_ready,
  form_chain_ready,
  form_all_ready,
  lambda-seen,
  parts_held,
  lambda_shape,
  lambda_id_seen,
  lambda_body_ready,
  lambda_unnamed,
  lambda-unclear,
  lambda_function,
  later-ready,
  function_refused,
  function_ready,
  function_made,
  chain-seen,
  syntax_shape,
  quote_shape,
  syntax-is,
  quote-ready,
  quote-is,
  data-seen,
  data-short,
  strip-ready,
  data-made,
  parts-ready,
  application_refused,
  application_roomy,
  application_made,
)
