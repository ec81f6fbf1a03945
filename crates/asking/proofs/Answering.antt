-- Primitives 7 and 9: one law for each way out; and what a caller knows of the rules.
use mathlib.Core.Path.{◌≡◌, refl, sym, ap, ◌∙◌}
use mathlib.Core.Bool.{Bool, true, false, not}
use mathlib.Core.List.{List}
use mathlib.Core.Option.{none}
use Prim.Native.Nat.{ℕ, ◌*◌, ◌≤◌}
use native.Mathlib.Omega.{arith}
use borrow.Author.Tests.{not-true, not-false, eq-eqb, ne_eqb}
use lib.ListN.{length}
use lib.Dec.{eqb}
use Rattle.std.specs.Prelude.{Result, Ok, Err}
use Rattle.model.specs.Choice.{when◌then◌else◌}
use Rattle.model.specs.Refusals.{wrong_argument}
use Rattle.model.specs.Objects.{symbol, Stx, atom, prune_scopes}
use Rattle.model.specs.Trees.{Tree, stx}
use Rattle.model.specs.Competing.{no_rivals}
use Rattle.model.specs.Meanings as m
use Rattle.model.specs.Meanings.{core, variable, macro, stopped, unknown, Env}
use Rattle.model.specs.Steps as ms
use Rattle.model.specs.Steps.{ok, no, after, charge, resolve_at, uses_now, prune_from}
use Rattle.model.specs.Evaluating as ev
use Rattle.model.specs.Evaluating.{Expander, Id, or_wrong_kind, as_id, macro_value, value_of, fit_to_bind, apply_local}
use Rattle.model.specs.Expanding.{head_meaning}
use Rattle.environment.specs.Meanings.{RepE, Known, HeadMeaning, has, meaning_found, MeansAt}
use Rattle.environment.specs.Places.{RepPlace, is_use_lem}
use Rattle.environment.specs.declared.Place.{Place}
use Rattle.environment.specs.declared.Meaning.{Meaning}
use Rattle.environment.specs.declared.Meaning.TheVariants as meant
use Rattle.environment.proofs.Laws.{on_variable, on_macro, on_lambda, on_let_syntax, on_quote, on_syntax, on_stopped, on_unknown, on_meaning_unclear, head-means, head-unclear}
use Rattle.forms.specs.Names.{name_found}
use Rattle.parse.specs.Shown.{trees}
use Rattle.parse.proofs.Laws.{top-is}
use Rattle.refusals.specs.declared.Refusal.TheVariants.{WrongArgument}
use Rattle.scopes.specs.Sets.{Declared}
use Rattle.scoping.specs.Changing.{objects, ReadyObject, change_rule, Changes}
use Rattle.steps.specs.States.{Store, store_of, state_of, stop_of, ambiguous_of, charge_of}
use Rattle.steps.specs.Agreement.{Agrees, gives, stops}
use Rattle.steps.specs.declared.State.{State}
use Rattle.steps.specs.declared.Stop.{Stop}
use Rattle.steps.specs.declared.Out.{Out}
use Rattle.steps.proofs.Laws.{charge_went, charge_failed, charge-ok, charge-no, then_ok, then_no, after-after, later_refl, later-paid, room-paid, since}
use Rattle.stops.specs.Stops.{RepZ, KnownZ}
use Rattle.store.specs.Sizes.{binding_size, held_size}
use Rattle.store.specs.Words.{binds_of, uses_of}
use Rattle.store.specs.declared.rivals.Rivals.{Rivals}
use Rattle.table.specs.Sizes.{unit_size}
use Rattle.things.specs.Rep.{Rep}
use Rattle.things.specs.Measuring.{Seen}
use Rattle.asking.specs.Kinds.{IdAt, IsId}
use Rattle.asking.specs.Answering.{around, ReadyId, AsksMeaning, FitsToBind, ReadyToAsk, asked_rule, answer_rule, AnswersPaid, Answers}
use Rattle.asking.proofs.ByKind.{id_as}

-- ---- a macro's use, by its parts

pub by_use : {l : List ℕ} {top : ℕ} {at : Place} {k : ℕ} {here : m.Surroundings} (P : ℕ → m.Surroundings → Type 0) → RepPlace l top at (m.macro_use k here)
    → ((e : Env) (zs : List ℕ) → Declared at.intro → RepE l top at.meanings e → RepZ l top at.stops zs → P at.intro.0 (around e zs at))
    → P k here
by_use P (is_use_lem {e = e} {zs = zs} d r z) f = f e zs d r z

-- ---- 7: an identifier

module _ {l st : List ℕ} {s : State} {i : ℕ} {at : Place} (r : ReadyId l st s i at) where
  pub id-seen : Seen l i
  id-seen = record { top = s.top; thing = stx (atom r.id.sets (symbol r.id.symb)); shown = r.shown; inside = omega (arith, r.room.fits); small = r.room.small }

  pub id-known : Known l at.meanings
  id-known = record { top = s.top; thing = r.meant; shown = r.known; inside = omega (arith, r.room.fits); small = r.room.small }

  pub id-stops : KnownZ l at.stops
  id-stops = record { top = s.top; things = r.names; shown = r.stopping; inside = omega (arith, r.room.fits); small = r.room.small }

  pub id-held : s.bindings * binding_size ≤ length st
  id-held = omega (arith, r.held.few, r.held.wide)

value_split : (here : m.Surroundings) (d : Id) (y : ms.State) → value_of here d y ≡ after (head_meaning here (atom d.sets (symbol d.symb)) y) macro_value
unfolding value_of head_meaning
value_split here d y = sym (after-after (resolve_at here.phase d.sets d.symb y) _ _)

abbrev found : Place → List ℕ → State → Id → Env → List ℕ → HeadMeaning
found at st s d e zs = meaning_found (name_found at.phase (binds_of st s.bindings) (atom d.sets (symbol d.symb))) e zs

-- a meaning that is no macro's value
record Wrong (q : HeadMeaning) : Type 0 where
  value : m.Meaning
  is : q ≡ has value
  wrong : (y : ms.State) → macro_value value y ≡ no wrong_argument no_rivals y.left

module _ {l st : List ℕ} {s : State} {i : ℕ} {at : Place} {w : Meaning} (p : MeansAt at.phase st s.bindings l i at.meanings at.stops w) where
  refused-by : {r : Result Out Stop} → r ≡ Err (stop_of WrongArgument s)
      → ((d : Id) (e : Env) (zs : List ℕ) → Rep l s.top i (stx (atom d.sets (symbol d.symb))) → RepE l s.top at.meanings e → RepZ l s.top at.stops zs → Wrong (found at st s d e zs))
      → AsksMeaning at st l s i r
  refused-by same f =
      rw same (record {
        means = λ d e zs a b c.
            let q = f d e zs a b c in
            let y = state_of s (store_of st) in
            stops _ (value_split (around e zs at) d y ∙ then_ok _ (head-means at.phase e zs y (atom d.sets (symbol d.symb)) q.is) ∙ q.wrong y);
      })

  module _ {r : Result Out Stop} (same : r ≡ Err (stop_of WrongArgument s)) where
    asked-lambda : w ≡ meant.Lambda → AsksMeaning at st l s i r
    unfolding macro_value
    asked-lambda z = refused-by same (λ d e zs a b c. record { value = core m.lambda; is = on_lambda (p.means s.top (atom d.sets (symbol d.symb)) e zs a b c) z; wrong = λ y. refl })

    asked_let_syntax : w ≡ meant.LetSyntax → AsksMeaning at st l s i r
    unfolding macro_value
    asked_let_syntax z = refused-by same (λ d e zs a b c. record { value = core m.let_syntax; is = on_let_syntax (p.means s.top (atom d.sets (symbol d.symb)) e zs a b c) z; wrong = λ y. refl })

    asked-quote : w ≡ meant.Quote → AsksMeaning at st l s i r
    unfolding macro_value
    asked-quote z = refused-by same (λ d e zs a b c. record { value = core m.quote; is = on_quote (p.means s.top (atom d.sets (symbol d.symb)) e zs a b c) z; wrong = λ y. refl })

    asked-syntax : w ≡ meant.Syntax → AsksMeaning at st l s i r
    unfolding macro_value
    asked-syntax z = refused-by same (λ d e zs a b c. record { value = core m.syntax; is = on_syntax (p.means s.top (atom d.sets (symbol d.symb)) e zs a b c) z; wrong = λ y. refl })

    asked-variable : {v : ℕ} → w ≡ meant.Variable v → AsksMeaning at st l s i r
    unfolding macro_value
    asked-variable z = refused-by same (λ d e zs a b c. let q = on_variable (p.means s.top (atom d.sets (symbol d.symb)) e zs a b c) z in record { value = variable q.sets q.symb; is = q.is; wrong = λ y. refl })

    asked-stopped : w ≡ meant.Stopped → AsksMeaning at st l s i r
    unfolding macro_value
    asked-stopped z = refused-by same (λ d e zs a b c. record { value = stopped; is = on_stopped (p.means s.top (atom d.sets (symbol d.symb)) e zs a b c) z; wrong = λ y. refl })

    asked-unknown : w ≡ meant.Unknown → AsksMeaning at st l s i r
    unfolding macro_value
    asked-unknown z = refused-by same (λ d e zs a b c. record { value = unknown; is = on_unknown (p.means s.top (atom d.sets (symbol d.symb)) e zs a b c) z; wrong = λ y. refl })

    pub asked-other : ((v : ℕ) → w ≡ meant.Macro v → ⊥) → ((v : Rivals) → w ≡ meant.Unclear v → ⊥) → AsksMeaning at st l s i r
    asked-other h k = by w refl
      where
        by : (x : Meaning) → w ≡ x → AsksMeaning at st l s i r
        by meant.Lambda e = asked-lambda e
        by meant.LetSyntax e = asked_let_syntax e
        by meant.Quote e = asked-quote e
        by meant.Syntax e = asked-syntax e
        by (meant.Variable v) e = asked-variable e
        by meant.Stopped e = asked-stopped e
        by meant.Unknown e = asked-unknown e
        by (meant.Macro v) e = absurd (h v e)
        by (meant.Unclear v) e = absurd (k v e)

  pub asked-unclear : {r : Result Out Stop} {v : Rivals} → r ≡ Err (ambiguous_of v s) → w ≡ meant.Unclear v → AsksMeaning at st l s i r
  asked-unclear same z =
      rw same (record {
        means = λ d e zs a b c.
            let y = state_of s (store_of st) in
            let x : Stx = atom d.sets (symbol d.symb) in
            stops _ (value_split (around e zs at) d y ∙ then_no _ (head-unclear at.phase e zs y x (on_meaning_unclear (p.means s.top x e zs a b c) z)));
      })

  pub asked-macro : {v : ℕ} → ReadyId l st s i at → w ≡ meant.Macro v → AsksMeaning at st l s i (Ok (record { at = v; state = s }))
  unfolding macro_value
  asked-macro r z =
      record {
        means = λ d e zs a b c.
            let y = state_of s (store_of st) in
            let x : Stx = atom d.sets (symbol d.symb) in
            let q = on_macro (p.means s.top x e zs a b c) z in
            gives _ (record {
              value = q.value;
              is = value_split (around e zs at) d y ∙ then_ok _ (head-means at.phase e zs y x q.is);
              shown = record { rep = q.shown; few = r.held.few };
              later = later_refl l s;
            });
      }

pub ruleset meaning_laws = (id-seen, id-known, id-stops, id-held, asked-unclear, asked-macro)

-- ---- 9: the use scopes taken off

-- an object made is a value
as_value : {n v : ℕ} {l l1 : List ℕ} {s : State} {b : Store} {q : ms.Out Stx} {q' : ms.Out Tree} {x : Result Out Stop} → Agrees objects n v l l1 s b q x → q' ≡ after q (λ y z. ok (stx y) z)
    → Agrees trees 0 0 l l1 s b q' x
as_value (gives o g) e =
    gives o (record {
      value = stx g.value;
      is = e ∙ then_ok _ g.is;
      shown = record { rep = g.shown.rep; few = g.shown.few };
      later = record { kept = g.later.kept; grows = g.later.grows; fits = omega (arith, g.later.fits); spent = omega (arith, g.later.spent) };
    })
as_value (stops f g) e = stops f (e ∙ then_no _ g)

fit_rule : (ph : ℕ) (d : Id) (u : ℕ) (y : ms.State) → u ≡ y.uses
    → fit_to_bind ph d y ≡ after (change_rule (prune_scopes u ph) (atom d.sets (symbol d.symb)) y) (λ z w. ok (stx z) w)
unfolding fit_to_bind uses_now prune_from change_rule
fit_rule ph d u y e = rw e refl

pub fit_gives : {ph : ℕ} {st l l1 : List ℕ} {s : State} {i u : ℕ} {r : Result Out Stop} → u ≡ uses_of st → Changes (prune_scopes u ph) l l1 s i r → FitsToBind ph st l l1 s i r
fit_gives {ph} {st} {s = s} {u = u} e v =
    record { means = λ d a. as_value (v.means (store_of st) (atom d.sets (symbol d.symb)) a) (fit_rule ph d u (state_of s (store_of st)) e) }

pub ruleset binder_laws = (fit_gives)

-- ---- after the charge

wrong-is : (p : ℕ) (here : m.Surroundings) (u : Tree) (y : ms.State) → as_id u ≡ none → asked_rule p here u y ≡ no wrong_argument no_rivals y.left
unfolding asked_rule or_wrong_kind
wrong-is p here u y e = rw e refl

asked_is : (p : ℕ) (here : m.Surroundings) (u : Tree) (d : IdAt u) (y : ms.State) → asked_rule p here u y ≡ (when eqb p 7 then value_of here d.id else fit_to_bind here.phase d.id) y
unfolding asked_rule or_wrong_kind
asked_is p here u d y = rw (id_as d) refl

module _ {l st : List ℕ} {s : State} {i : ℕ} {at : Place} (r : ReadyToAsk l st s i at) where
  pub ask_seen : Seen l i
  ask_seen = record { top = s.top; thing = r.thing; shown = r.shown; inside = omega (arith, r.room.fits); small = r.room.small }

  pub ask_wide : held_size ≤ length st
  ask_wide = r.held.wide

  module _ {t : Bool} (k : IsId l i t) where
    pub ask_wrong : {p : ℕ} {x : Result Out Stop} → not t ≡ true → x ≡ Err (stop_of WrongArgument s) → AnswersPaid p at st l l s i x
    ask_wrong {p} h same = rw same (record { means = λ u j here a g. stops _ (wrong-is p here u (state_of s (store_of st)) (k.no (not-true t h) s.top u a)) })

    module _ (g : not t ≡ false) where
      found-id : (u : Tree) → Rep l s.top i u → IdAt u
      found-id u a = k.yes (not-false t g) s.top u a

      pub ask_id_ready : ReadyId l st s i at
      ask_id_ready =
          let d = found-id r.thing r.shown in
          let a : Rep l s.top i (stx (atom d.id.sets (symbol d.id.symb))) = rw d.is at r.shown in
          by_use (λ (j : ℕ) (here : m.Surroundings). ReadyId l st s i at) r.used (λ e zs f b c. record { id = d.id; shown = a; meant = e; known = b; names = zs; stopping = c; room = r.room; held = r.held })

      pub ask_object_ready : ReadyObject l s i
      ask_object_ready =
          let d = found-id r.thing r.shown in
          let a : Rep l s.top i (stx (atom d.id.sets (symbol d.id.symb))) = rw d.is at r.shown in
          record { thing = atom d.id.sets (symbol d.id.symb); shown = a; room = r.room; few = r.held.few }

      module _ {p : ℕ} {x : Result Out Stop} where
        pub ask_meaning : p ≡ 7 → AsksMeaning at st l s i x → AnswersPaid p at st l l s i x
        ask_meaning z v = record {
          means = λ u j here a c.
              let d = found-id u a in
              let a2 : Rep l s.top i (stx (atom d.id.sets (symbol d.id.symb))) = rw d.is at a in
              let y = state_of s (store_of st) in
              by_use (λ (j : ℕ) (here : m.Surroundings). Agrees trees 0 0 l l s (store_of st) (asked_rule p here u y) x) c (λ e zs f b h.
              let q : asked_rule p (around e zs at) u y ≡ value_of (around e zs at) d.id y = asked_is p (around e zs at) u d y ∙ ap (λ (t : Bool). (when t then value_of (around e zs at) d.id else fit_to_bind at.phase d.id) y) (eq-eqb p 7 z) in
              since 0 0 (later_refl l s) (omega arith) (omega arith) q (v.means d.id e zs a2 b h));
        }

        pub ask_binder : {l1 : List ℕ} → ¬ (p ≡ 7) → FitsToBind at.phase st l l1 s i x → AnswersPaid p at st l l1 s i x
        ask_binder {l1} z v = record {
          means = λ u j here a c.
              let d = found-id u a in
              let a2 : Rep l s.top i (stx (atom d.id.sets (symbol d.id.symb))) = rw d.is at a in
              let y = state_of s (store_of st) in
              by_use (λ (j : ℕ) (here : m.Surroundings). Agrees trees 0 0 l l1 s (store_of st) (asked_rule p here u y) x) c (λ e zs f b h.
              let q : asked_rule p (around e zs at) u y ≡ fit_to_bind at.phase d.id y = asked_is p (around e zs at) u d y ∙ ap (λ (t : Bool). (when t then value_of (around e zs at) d.id else fit_to_bind at.phase d.id) y) (ne_eqb p 7 z) in
              since 0 0 (later_refl l s) (omega arith) (omega arith) q (v.means d.id a2));
        }

pub ruleset asked_laws = (ask_seen, ask_wide, ask_wrong, ask_id_ready, ask_object_ready, ask_meaning, ask_binder)

-- ---- with the charge

module _ {l st : List ℕ} {s : State} {i : ℕ} {at : Place} {y : Result State Stop} (f : y ≡ charge_of 1 s) where
  pub answer-refused : {p : ℕ} {g : Stop} → y ≡ Err g → Answers p at st l l s i (Err g)
  unfolding answer_rule
  answer-refused e =
      let q = charge_failed 1 s f e in
      rw q.is (record { means = λ t k here a b. stops _ (then_no _ (charge-no 1 s (store_of st) q.short)) })

  module _ {u : State} (e : y ≡ Ok u) where
    pub answer-ready : ReadyToAsk l st s i at → ReadyToAsk l st u i at
    answer-ready r =
        let w = charge_went 1 s f e in
        let was : u.top ≡ s.top = top-is w in
        let n : u.bindings ≡ s.bindings = ap (λ (z : State). z.bindings) w.is in
        record {
          thing = r.thing;
          shown = rw was r.shown;
          intro = r.intro;
          here = r.here;
          used = rw was r.used;
          room = room-paid r.room w;
          held = record { few = omega (arith, n, r.held.few); wide = r.held.wide };
        }

    pub answer-paid : {p : ℕ} {l1 : List ℕ} {x : Result Out Stop} → AnswersPaid p at st l l1 u i x → Answers p at st l l1 s i x
    unfolding answer_rule
    answer-paid {p} v =
        let w = charge_went 1 s f e in
        let was : u.top ≡ s.top = top-is w in
        record {
          means = λ t k here a b.
              since 1 unit_size (later-paid l w) (omega arith) (omega arith)
              (then_ok _ (charge-ok 1 s (store_of st) w.enough) ∙ ap (λ (z : State). asked_rule p here t (state_of z (store_of st))) (sym w.is))
              (v.means t k here (rw was a) (rw was b));
        }

pub ruleset answer_laws = (answer-refused, answer-ready, answer-paid)

-- ---- what a caller knows: 7, or else 9, is what the rules do in a macro's use

module _ {p : ℕ} (expander : Expander) (k : ℕ) (here : m.Surroundings) (t b : Tree) (y : ms.State) where
  pub answers_7 : p ≡ 7 → answer_rule p here t y ≡ after (charge 1 y) (λ z. apply_local expander (m.macro_use k here) ev.meaning_of t b)
  unfolding answer_rule asked_rule apply_local
  answers_7 h = rw (eq-eqb p 7 h) refl

  pub answers_9 : ¬ (p ≡ 7) → answer_rule p here t y ≡ after (charge 1 y) (λ z. apply_local expander (m.macro_use k here) ev.binder_of t b)
  unfolding answer_rule asked_rule apply_local
  answers_9 h = rw (ne_eqb p 7 h) refl
