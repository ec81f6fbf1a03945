-- A macro's use: one law for each way through it.
use Rattle.std.specs.Prelude.{Result, Ok, Err}
use mathlib.Core.Path.{◌≡◌, refl, sym, ap, ◌∙◌}
use mathlib.Core.List.{List}
use Prim.Native.Nat.{ℕ, ◌+◌, ◌-◌, ◌*◌, ◌≤◌, ◌<◌}
use native.Mathlib.Omega.{arith}
use lib.ListN.{length}
use Rattle.model.specs.Objects.{Stx}
use Rattle.model.specs.Trees.{Tree, stx, app, tnil, tcons}
use Rattle.model.specs.Meanings as m
use Rattle.model.specs.Expanding.{evaluate}
use Rattle.scopes.specs.Sets.{Declared}
use Rattle.things.specs.Rep.{Rep}
use Rattle.things.specs.declared.Made.{Made}
use Rattle.things.proofs.Frame.{carry}
use Rattle.steps.specs.States.{store_of, Held, state_of, enter_of, raised_to}
use Rattle.steps.specs.Agreement.{Later, Gave, Agrees, stops}
use Rattle.steps.specs.declared.State.{State}
use Rattle.steps.specs.declared.Stop.{Stop}
use Rattle.steps.specs.declared.Out.{Out}
use Rattle.steps.proofs.Laws.{Went, enter_spare, enter_went, entry_refused, entry_goes, then_ok, then_no, room-later, on_done, on_refused, since}
use Rattle.parse.specs.Shown.{trees}
use Rattle.environment.specs.declared.Place.{Place}
use Rattle.environment.specs.Places.{RepPlace, is_use_lem}
use Rattle.environment.proofs.Frame.{carry_place}
use Rattle.scoping.specs.Changing.{objects, ReadyObject}
use Rattle.scoping.specs.Fresh.{marks}
use Rattle.scoping.specs.declared.Mark.{Mark}
use Rattle.expand.specs.Making.{Chainable, Chained}
use Rattle.expand.specs.Leaves.{Around, around, RepA, used_rule, MarksUse, ReadyBack, back_rule, Backs}
use Rattle.expand.specs.Values.{evaluation, ReadyTranscribed, transcribe_rule, Transcribes}
use Rattle.expand.specs.InPlace.{ReadyMacro, rewritten_rule, Rewritten}
use Rattle.expand.specs.Evaluation.{ReadyApplication, Applies}
use Rattle.expand.specs.Cycle.{expansion, ReadyToExpand, Expanded, ExpandedMacro}
use Rattle.expand.specs.declared.Surroundings.{Surroundings}
use Rattle.expand.proofs.Rules.{evaluate_entry, macro_split}
use Rattle.expand.proofs.Surrounding.{carry_a}
use Rattle.table.specs.Sizes.{two_cells, node_spare, unit_size}

-- ---- the macro applied to the marked form

in_use : {l : List ℕ} {top : ℕ} {place : Place} {k : ℕ} {here : m.Surroundings} → RepPlace l top place (m.macro_use k here) → (place.intro.0 ≡ k) × (place.phase ≡ here.phase) × Declared place.intro
in_use (is_use_lem d e z) = (refl, refl, d)

back_at : {ph ph1 n n1 i : ℕ} {l l1 : List ℕ} {s : State} {r : Result Out Stop} → n ≡ n1 → ph ≡ ph1 → Backs ph n l l1 s i r → Backs ph1 n1 l l1 s i r
back_at e f b = rw (e, f) at b

pub transcribe_stops : {r : Result Out Stop} {entries : ℕ} {place : Place} {st l : List ℕ} {s : State} {v form : ℕ} {x : Result State Stop} {f : Stop} → x ≡ enter_of entries s → x ≡ Err f
    → r ≡ Err f → Transcribes entries place st st l l s v form r
unfolding transcribe_rule
transcribe_stops {entries = entries} {st = st} {s = s} h e same =
    rw same (record { means = λ t y k here a b w. stops _ (then_no _ (entry_refused (evaluate_entry (m.macro_use k here) (app t (tcons (stx y) tnil))) entries s (store_of st) h e)) })

module _ (entries : ℕ) (s : State) {u : State} {x : Result State Stop} (h : x ≡ enter_of entries s) (e : x ≡ Ok u) where
  went : Went 1 s u
  went = enter_went entries s h e

  left_is : u.left ≡ s.left - 1
  left_is = ap (λ (y : State). y.left) went.is

  top-is : u.top ≡ s.top
  top-is = ap (λ (y : State). y.top) went.is

  few-is : u.bindings ≡ s.bindings
  few-is = ap (λ (y : State). y.bindings) went.is

  pub transcribe_one : 1 ≤ entries
  transcribe_one = enter_spare entries s h e

  module _ {l : List ℕ} {v form : ℕ} where
    pub transcribe_chain : {st : List ℕ} {place : Place} → ReadyTranscribed l st s v form place → Chainable l u.top v form
    transcribe_chain r =
        rw went.is (record {
          first = r.value;
          second = stx r.thing;
          shown = r.shown;
          shown-second = r.shown_form;
          room = record { fits = omega (arith, went.enough, r.room.fits); small = r.room.small; low = r.room.low };
        })

    module _ {l1 : List ℕ} {c : Made} {s1 : State} (k : Chained l l1 u.top v form c.at c.top) (raised : s1 ≡ raised_to c.top u) where
      chained : Chained l l1 s.top v form c.at c.top
      chained = rw top-is at k

      -- the unit of the entry pays for the chain
      later : Later 1 (unit_size - two_cells) l l1 s (raised_to c.top u)
      later = record { kept = chained.kept; grows = omega (arith, chained.grows); fits = omega (arith, chained.grows, left_is, went.enough); spent = omega (arith, left_is, went.enough) }

      pub transcribe_head : {st : List ℕ} {place : Place} → ReadyTranscribed l st s v form place → length l1 ≡ length l → ReadyApplication l1 st s1 c.at place
      transcribe_head r len =
          rw raised (record {
            first = r.value;
            others = tcons (stx r.thing) tnil;
            shown = chained.means r.value (stx r.thing) r.shown r.shown_form;
            placed = record {
              where_it_is = m.macro_use r.intro r.here;
              stands = carry_place r.used chained.kept (omega (arith, chained.grows));
              room = room-later r.room later len;
              few = omega (arith, few-is, r.held.few);
              wide = λ n here z. r.held.wide;
            };
          })

      pub transcribe_less : {T : ℕ} → s.left * 32 + 16 ≡ T → s1.left * 32 + 2 < T
      transcribe_less z = rw raised (omega (arith, left_is, went.enough))

      module _ {place : Place} {st st1 l2 : List ℕ} {a : Result Out Stop} (d : Applies (entries - 1) place st st1 l1 l2 s1 c.at a) where
        -- evaluating the application, from before the entry
        evaluated : (t : Tree) (y : Stx) (q : m.Place) → Rep l s.top v t → Rep l s.top form (stx y) → RepPlace l s.top place q
            → Agrees trees 1 (unit_size - two_cells) l l2 s (store_of st1) (evaluate entries q (app t (tcons (stx y) tnil)) (state_of s (store_of st))) a
        evaluated t y q p w j =
            let d2 : Applies (entries - 1) place st st1 l1 l2 (raised_to c.top u) c.at a = rw raised at d in
            since 1 (unit_size - two_cells) later (omega arith) (omega arith) (entry_goes (evaluate_entry q (app t (tcons (stx y) tnil))) entries s (store_of st) h e)
            (d2.means t (tcons (stx y) tnil) q (chained.means t (stx y) p w) (carry_place j chained.kept (omega (arith, chained.grows))))

        pub transcribe_refused : {r : Result Out Stop} {f : Stop} → a ≡ Err f → r ≡ Err f → Transcribes entries place st st1 l l2 s v form r
        unfolding transcribe_rule
        transcribe_refused z same = rw same (record { means = λ t y n here p w j. stops _ (then_no _ (on_refused (evaluated t y (m.macro_use n here) p w j) z)) })

        module _ {o : Out} (z : a ≡ Ok o) where
          evaluated_to : (t : Tree) (y : Stx) (q : m.Place) → Rep l s.top v t → Rep l s.top form (stx y) → RepPlace l s.top place q
              → Gave trees 1 (unit_size - two_cells) l l2 s (store_of st1) (evaluate entries q (app t (tcons (stx y) tnil)) (state_of s (store_of st))) o
          evaluated_to t y q p w j = on_done (evaluated t y q p w j) z

          pub transcribe_back : ReadyTranscribed l st s v form place → length l1 ≡ length l → length l2 ≡ length l1 → ReadyBack l2 o.state o.at
          transcribe_back r len len2 =
              let g = evaluated_to r.value r.thing (m.macro_use r.intro r.here) r.shown r.shown_form r.used in
              record { thing = g.value; shown = g.shown.rep; room = room-later r.room g.later (len2 ∙ len); few = g.shown.few }

          pub transcribe_done : {l3 : List ℕ} {b : Result Out Stop} → Backs place.phase place.intro.0 l2 l3 o.state o.at b → Transcribes entries place st st1 l l3 s v form b
          unfolding transcribe_rule
          transcribe_done {l3} {b} f =
              record {
                means = λ t y n here p w j.
                    let g = evaluated_to t y (m.macro_use n here) p w j in
                    let k = in_use j in
                    let back : Agrees objects 1 node_spare l2 l3 o.state (store_of st1) (back_rule here.phase n g.value (state_of o.state (store_of st1))) b =
                    (back_at k.0 k.1 f).means (store_of st1) g.value g.shown.rep in
                    since 1 node_spare g.later (omega arith) (omega arith) (then_ok _ g.is) back;
              }

pub transcribe_declared : {l st : List ℕ} {s : State} {v form : ℕ} {place : Place} → ReadyTranscribed l st s v form place → Declared place.intro
transcribe_declared r = (in_use r.used).2

-- ---- what a macro makes of its use

pub rewrite_object : {l st : List ℕ} {s : State} {i w : ℕ} {at : Surroundings} → ReadyMacro l st s i w at → ReadyObject l s i
rewrite_object r = record { thing = r.thing; shown = r.shown; room = r.within.room; few = r.within.held.few }

pub rewrite_held : {l st : List ℕ} {s : State} {i w : ℕ} {at : Surroundings} → ReadyMacro l st s i w at → Held st s
rewrite_held r = r.within.held

-- where a macro is used
abbrev pub use_at : Surroundings → Mark → Place
use_at at o = record { intro = o.intro; phase = at.phase; meanings = at.meanings; stops = at.stops }

module _ (at : Surroundings) {st st1 l l1 : List ℕ} {s : State} {i : ℕ} {z : Result Mark Stop} (v : MarksUse at.phase st st1 l l1 s i z) where
  pub rewrite_unmarked : {r : Result Out Stop} {w : ℕ} {f : Stop} → z ≡ Err f → r ≡ Err f → Rewritten at st st1 l l1 s i w r
  unfolding rewritten_rule
  rewrite_unmarked e same = rw same (record { means = λ x t g a b k. stops _ (then_no _ (on_refused (v.means x a) e)) })

  module _ {o : Mark} (e : z ≡ Ok o) where
    marked-to : (x : Stx) → Rep l s.top i (stx x) → Gave marks 1 node_spare l l1 s (store_of st1) (used_rule at.phase x (state_of s (store_of st))) o
    marked-to x a = on_done (v.means x a) e

    used : (g : Around) (x : Stx) (a : Rep l s.top i (stx x)) → RepA l s.top at g → RepPlace l1 o.state.top (use_at at o) (m.macro_use (marked-to x a).value.intro (around g at))
    used g x a k =
        let j = marked-to x a in
        let c = carry_a k j.later.kept j.later.grows in
        rw (sym j.shown.intro) (is_use_lem j.shown.intro-declared c.meant c.stopped)

    pub rewrite_ready : {w : ℕ} → ReadyMacro l st s i w at → length l1 ≡ length l → length st1 ≡ length st → ReadyTranscribed l1 st1 o.state w o.at (use_at at o)
    rewrite_ready r len len2 =
        let g = marked-to r.thing r.shown in
        record {
          value = r.value;
          thing = g.value.object;
          intro = g.value.intro;
          here = around r.within.meant at;
          shown = carry r.shown-value g.later.kept g.later.grows;
          shown_form = g.shown.rep;
          used = used r.within.meant r.thing r.shown r.within.known;
          room = room-later r.within.room g.later len;
          held = record { few = g.shown.few; wide = omega (arith, r.within.held.wide, len2) };
        }

    pub rewrite_less : {w T : ℕ} → ReadyMacro l st s i w at → s.left * 32 + 17 ≡ T → o.state.left * 32 + 16 < T
    rewrite_less r y = omega (arith, (marked-to r.thing r.shown).later.spent)

    pub rewrite_done : {w : ℕ} {st2 l2 : List ℕ} {a : Result Out Stop} → Transcribes at.entries (use_at at o) st1 st2 l1 l2 o.state w o.at a → Rewritten at st st2 l l2 s i w a
    unfolding rewritten_rule
    rewrite_done d =
        record {
          means = λ x t g p b k.
              let j = marked-to x p in
              since 1 node_spare j.later (omega arith) (omega arith) (then_ok _ j.is)
              (d.means t j.value.object j.value.intro (around g at) (carry b j.later.kept j.later.grows) j.shown.rep (used g x p k));
        }

-- ---- and its expansion

pub macro_less : (s : State) {T : ℕ} → s.left * 32 + 18 ≡ T → s.left * 32 + 17 < T
macro_less s z = omega arith

module _ {at : Surroundings} {st st1 l l1 : List ℕ} {s : State} {i w : ℕ} {a : Result Out Stop} (v : Rewritten at st st1 l l1 s i w a) where
  pub macro-refused : {r : Result Out Stop} {f : Stop} → a ≡ Err f → r ≡ Err f → ExpandedMacro at st st1 l l1 s i w r
  macro-refused e same =
      rw same (record {
        means = λ y t g p u k.
            stops _ (macro_split (expansion at.entries) (evaluation at.entries) at.entries (around g at) (state_of s (store_of st)) t y ∙ then_no _ (on_refused (v.means y t g p u k) e));
      })

  module _ {o : Out} (e : a ≡ Ok o) where
    rewritten_to : (y : Stx) (t : Tree) (g : Around) → Rep l s.top i (stx y) → Rep l s.top w t → RepA l s.top at g
        → Gave objects 1 node_spare l l1 s (store_of st1) (rewritten_rule (evaluation at.entries) (around g at) t y (state_of s (store_of st))) o
    rewritten_to y t g p u k = on_done (v.means y t g p u k) e

    pub macro-ready : ReadyMacro l st s i w at → length l1 ≡ length l → length st1 ≡ length st → ReadyToExpand l1 st1 o.state o.at at
    macro-ready r len len2 =
        let g = rewritten_to r.thing r.value r.within.meant r.shown r.shown-value r.within.known in
        record {
          thing = g.value;
          shown = g.shown.rep;
          within = record {
            meant = r.within.meant;
            known = carry_a r.within.known g.later.kept g.later.grows;
            room = room-later r.within.room g.later len;
            held = record { few = g.shown.few; wide = omega (arith, r.within.held.wide, len2) };
          };
        }

    pub macro_expand_less : {T : ℕ} → ReadyMacro l st s i w at → s.left * 32 + 18 ≡ T → o.state.left * 32 < T
    macro_expand_less r z = omega (arith, (rewritten_to r.thing r.value r.within.meant r.shown r.shown-value r.within.known).later.spent)

    pub macro_expanded : {st2 l2 : List ℕ} {q : Result Out Stop} → Expanded at st1 st2 l1 l2 o.state o.at q → ExpandedMacro at st st2 l l2 s i w q
    macro_expanded d =
        record {
          means = λ y t g p u k.
              let j = rewritten_to y t g p u k in
              since 1 two_cells j.later (omega arith) (omega arith)
              (macro_split (expansion at.entries) (evaluation at.entries) at.entries (around g at) (state_of s (store_of st)) t y ∙ then_ok _ j.is)
              (d.means j.value g j.shown.rep (carry_a k j.later.kept j.later.grows));
        }

pub ruleset transcribe_laws = (transcribe_stops, transcribe_one, transcribe_chain, transcribe_head, transcribe_less, transcribe_refused, transcribe_back, transcribe_done, transcribe_declared)

pub ruleset rewrite_laws = (rewrite_object, rewrite_held, rewrite_unmarked, rewrite_ready, rewrite_less, rewrite_done)

pub ruleset macro_laws = (macro_less, macro-refused, macro-ready, macro_expand_less, macro_expanded)
