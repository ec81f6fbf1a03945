-- Applications evaluated: one law for each way through head, call, values and apply.
use Rattle.std.specs.Prelude.{Result, Ok, Err}
use mathlib.Core.Path.{◌≡◌, refl, sym, ap, ◌∙◌}
use mathlib.Core.List.{List}
use mathlib.Core.Bool.{Bool, true, false}
use Prim.Native.Nat.{ℕ, suc, ◌+◌, ◌*◌, ◌≤◌, ◌<◌}
use native.Mathlib.Omega.{arith}
use lib.ListN.{length}
use Rattle.refusals.specs.declared.Refusal.TheVariants.{NotApplicable, OutsideUse}
use Rattle.steps.specs.declared.State.{State}
use Rattle.steps.specs.declared.Stop.{Stop}
use Rattle.steps.specs.declared.Out.{Out}
use Rattle.steps.specs.States.{store_of, state_of, stop_of}
use Rattle.steps.specs.Agreement.{Gave, gives, stops}
use Rattle.model.specs.Refusals.{not_applicable, outside_use}
use Rattle.model.specs.Meanings as m
use Rattle.model.specs.Steps as ms
use Rattle.model.specs.Steps.{ok, no, after, Step}
use Rattle.model.specs.Trees.{Tree, Trees, tnil, tcons, tcount}
use Rattle.model.specs.Evaluating.{applicable, each_tree, apply, eval_entry}
use Rattle.model.specs.Expanding.{evaluate}
use Rattle.table.specs.Words.{get_cell}
use Rattle.table.specs.declared.Cell.{Cell}
use Rattle.things.specs.Rep.{Rep, RepP}
use Rattle.things.specs.Measuring.{Seen}
use Rattle.things.proofs.Frame.{carry, carry_p}
use Rattle.things.proofs.ByTag.{cons-at, part_at, none-at}
use Rattle.primitives.specs.Working.{no_more, one_more}
use Rattle.steps.proofs.Laws.{later_refl, later_trans, room-later, on_done, on_refused, since, then_ok, then_no, unless-ok, unless-no}
use Rattle.parse.specs.Shown.{trees}
use Rattle.environment.specs.declared.Place.{Place}
use Rattle.environment.specs.Places.{RepPlace}
use Rattle.environment.proofs.Frame.{carry_place}
use Rattle.applying.specs.declared.Values.{Values}
use Rattle.applying.specs.Testing.{Sought, TestedP, Permitted}
use Rattle.expand.specs.Values.{evaluation}
use Rattle.expand.specs.Evaluation.{ReadyToEvaluate, ReadyApplication, ReadyCall, ReadyEach, ReadyApply, call_of, valued, Evaluates, Applies, Calls, Gathers, Does}
use Rattle.expand.specs.Cycle.{expansion}
use Rattle.expand.proofs.Evaluating.{placed-later, form_less}
use Rattle.table.specs.Sizes.{cell_size, unit_size}

-- ---- what an evaluation gave

module _ {entries : ℕ} {place : Place} {st st1 l l1 : List ℕ} {s : State} {i : ℕ} {a : Result Out Stop} (v : Evaluates entries place st st1 l l1 s i a) {o : Out} (k : a ≡ Ok o) where
  evaluated_to : (t : Tree) (q : m.Place) → Rep l s.top i t → RepPlace l s.top place q → Gave trees 1 unit_size l l1 s (store_of st1) (evaluate entries q t (state_of s (store_of st))) o
  evaluated_to t q w p = on_done (v.means t q w p) k

-- ---- the head

pub head-inside : {l st : List ℕ} {s : State} {c : ℕ} {place : Place} → ReadyApplication l st s c place → c + cell_size ≤ length l
head-inside r = omega (arith, (cons-at r.shown refl).inside, r.placed.room.fits)

pub head_less : (s : State) {T : ℕ} → s.left * 32 + 2 ≡ T → s.left * 32 < T
head_less s z = omega arith

module _ {st l : List ℕ} {s : State} {c : ℕ} {place : Place} {x : Cell} (e : x ≡ get_cell l c) where
  pub head-ready : ReadyApplication l st s c place → ReadyToEvaluate l st s x.head place
  head-ready r = record { thing = r.first; shown = (cons-at r.shown e).shown; placed = r.placed }

  module _ {entries : ℕ} {st1 l1 : List ℕ} {a : Result Out Stop} (v : Evaluates entries place st st1 l l1 s x.head a) where
    pub head-refused : {r : Result Out Stop} {f : Stop} → a ≡ Err f → r ≡ Err f → Applies entries place st st1 l l1 s c r
    unfolding eval_entry
    head-refused {f = f} k same = rw same (record { means = λ t ts q w p. stops f (then_no _ (on_refused (v.means t q (cons-at w e).shown p) k)) })

    module _ {o : Out} (k : a ≡ Ok o) where
      pub call_ready : ReadyApplication l st s c place → length l1 ≡ length l → length st1 ≡ length st → ReadyCall l1 st1 o.state o.at x.tail place
      call_ready r len len2 =
          let p = cons-at r.shown e in
          let g = evaluated_to v k r.first r.placed.where_it_is p.shown r.placed.stands in
          record {
            value = g.value;
            things = r.others;
            shown = g.shown.rep;
            shown-parts = carry_p p.shown-others g.later.kept g.later.grows;
            placed = placed-later r.placed g.later g.shown.few len len2;
          }

      pub call_less : {T : ℕ} → ReadyApplication l st s c place → s.left * 32 + 2 ≡ T → o.state.left * 32 + 3 < T
      call_less r z = omega (arith, (evaluated_to v k r.first r.placed.where_it_is (cons-at r.shown e).shown r.placed.stands).later.spent)

      pub head_called : {st2 l2 : List ℕ} {r : Result Out Stop} → Calls entries place st1 st2 l1 l2 o.state o.at x.tail r → Applies entries place st st2 l l2 s c r
      unfolding eval_entry call_of
      head_called d =
          record {
            means = λ t ts q w p.
                let j = cons-at w e in
                let g = evaluated_to v k t q j.shown p in
                since 0 0 g.later (omega arith) (omega arith) (then_ok _ g.is)
                (d.means g.value ts q g.shown.rep (carry_p j.shown-others g.later.kept g.later.grows) (carry_place p g.later.kept g.later.grows));
          }

-- ---- as many values as trees

each-rest : (vs : Trees) (y : ms.State) (v : Tree) (o : ms.Out Trees) (n : ℕ) → ((r : Trees) (z : ms.State) → o ≡ ok r z → tcount r ≡ n)
    → after o (λ r. λ z. ok (tcons v r) z) ≡ ok vs y → tcount vs ≡ suc n
unfolding tcount
each-rest vs y v (ok r z) n k h = let w : vs ≡ tcons v r = cc in rw w (ap suc (k r z refl))
each-rest vs y v (no c p u) n k h = let w : ◌≡◌ {A = ℕ} 0 1 = cc in absurd (omega arith)

each_first : (self : Tree → Step Tree) (l vs : Trees) (y : ms.State) (o : ms.Out Tree) (n : ℕ) → ((r : Trees) (w z : ms.State) → each_tree self l w ≡ ok r z → tcount r ≡ n)
    → after o (λ v. λ w. after (each_tree self l w) (λ r. λ z. ok (tcons v r) z)) ≡ ok vs y → tcount vs ≡ suc n
each_first self l vs y (ok v w) n k h = each-rest vs y v (each_tree self l w) n (λ r z. k r w z) h
each_first self l vs y (no c p u) n k h = let w : ◌≡◌ {A = ℕ} 0 1 = cc in absurd (omega arith)

each-count : (self : Tree → Step Tree) (ts vs : Trees) (x y : ms.State) → each_tree self ts x ≡ ok vs y → tcount vs ≡ tcount ts
unfolding each_tree tcount
each-count self tnil vs x y h = let z : vs ≡ tnil = cc in rw z refl
each-count self (tcons t l) vs x y h = each_first self l vs y (self t x) (tcount l) (λ r w z. each-count self l r w z) h

-- ---- the call

module _ {l st : List ℕ} {s : State} {f c : ℕ} {place : Place} (r : ReadyCall l st s f c place) where
  pub call_sought : Sought l f c
  call_sought =
      record {
        top = s.top;
        value = r.value;
        things = r.things;
        shown = r.shown;
        shown-parts = r.shown-parts;
        inside = omega (arith, r.placed.room.fits);
        small = r.placed.room.small;
      }

  pub call_seen : Seen l f
  call_seen = record { top = s.top; thing = r.value; shown = r.shown; inside = omega (arith, r.placed.room.fits); small = r.placed.room.small }

  pub call_each : ReadyEach l st s c place
  call_each = record { things = r.things; shown = r.shown-parts; placed = r.placed }

module _ {entries : ℕ} {place : Place} {st l : List ℕ} {s : State} {f c : ℕ} {y : Bool} (h : TestedP l f c y) where
  pub call_refused : {r : Result Out Stop} → y ≡ false → r ≡ Err (stop_of NotApplicable s) → Calls entries place st st l l s f c r
  unfolding call_of
  call_refused k same =
      rw same
      (record { means = λ t ts q a d p. stops (stop_of NotApplicable s) (then_no _ (unless-no not_applicable (state_of s (store_of st)) (sym (h.means s.top t ts a d) ∙ k))) })

  module _ (k : y ≡ true) {x : Bool} (j : Permitted l f place x) where
    pub call_outside : {r : Result Out Stop} → x ≡ false → r ≡ Err (stop_of OutsideUse s) → Calls entries place st st l l s f c r
    unfolding call_of
    call_outside i same =
        rw same
        (record {
          means = λ t ts q a d p.
              stops (stop_of OutsideUse s)
              (then_ok _ (unless-ok not_applicable (state_of s (store_of st)) (sym (h.means s.top t ts a d) ∙ k))
              ∙ then_no _ (unless-no outside_use (state_of s (store_of st)) (sym (j.means s.top t q a p) ∙ i)));
        })

    module _ (i : x ≡ true) {st1 l1 : List ℕ} {a : Result Values Stop} (v : Gathers entries place st st1 l l1 s c a) where
      -- both tests have passed
      passed : (t : Tree) (ts : Trees) (q : m.Place) → Rep l s.top f t → RepP l s.top c ts → RepPlace l s.top place q
          → call_of (evaluation entries) (expansion entries) q t ts (state_of s (store_of st)) ≡ after (each_tree (evaluation entries q) ts (state_of s (store_of st))) (λ vs. apply (evaluation entries) (expansion entries) q t vs)
      unfolding call_of
      passed t ts q b d p =
          then_ok _ (unless-ok not_applicable (state_of s (store_of st)) (sym (h.means s.top t ts b d) ∙ k)) ∙ then_ok _ (unless-ok outside_use (state_of s (store_of st)) (sym (j.means s.top t q b p) ∙ i))

      pub call_values_refused : {r : Result Out Stop} {e : Stop} → a ≡ Err e → r ≡ Err e → Calls entries place st st1 l l1 s f c r
      call_values_refused {e = e} z same = rw same (record { means = λ t ts q b d p. stops e (passed t ts q b d p ∙ then_no _ (on_refused (v.means ts q d p) z)) })

      module _ {o : Values} (z : a ≡ Ok o) where
        values-to : (ts : Trees) (q : m.Place) → RepP l s.top c ts → RepPlace l s.top place q
            → Gave valued 0 0 l l1 s (store_of st1) (each_tree (evaluation entries q) ts (state_of s (store_of st))) o
        values-to ts q d p = on_done (v.means ts q d p) z

        pub apply-ready : ReadyCall l st s f c place → length l1 ≡ length l → length st1 ≡ length st → ReadyApply l1 st1 f o place
        apply-ready r len len2 =
            let g = values-to r.things r.placed.where_it_is r.shown-parts r.placed.stands in
            record {
              value = r.value;
              values = g.value;
              shown = carry r.shown g.later.kept g.later.grows;
              given = g.shown.given;
              able =
                  rw (each-count (evaluation entries r.placed.where_it_is) r.things g.value (state_of s (store_of st)) (state_of o.state (store_of st1)) g.is)
                  (sym (h.means s.top r.value r.things r.shown r.shown-parts) ∙ k);
              placed = record {
                where_it_is = r.placed.where_it_is;
                stands = carry_place r.placed.stands g.later.kept g.later.grows;
                room = room-later r.placed.room g.later len;
                few = g.shown.few;
                wide = λ n here e. omega (arith, r.placed.wide n here e, len2);
              };
              permitted = sym (j.means s.top r.value r.placed.where_it_is r.shown r.placed.stands) ∙ i;
            }

        pub apply_less : {T : ℕ} → ReadyCall l st s f c place → s.left * 32 + 3 ≡ T → o.state.left * 32 + 2 < T
        apply_less r w = omega (arith, (values-to r.things r.placed.where_it_is r.shown-parts r.placed.stands).later.spent)

        pub call_applied : {st2 l2 : List ℕ} {r : Result Out Stop} → Does entries place st1 st2 l1 l2 f o r → Calls entries place st st2 l l2 s f c r
        call_applied d =
            record {
              means = λ t ts q b w p.
                  let g = values-to ts q w p in
                  let able : applicable t (tcount ts) ≡ true = sym (h.means s.top t ts b w) ∙ k in
                  since 0 0 g.later (omega arith) (omega arith) (passed t ts q b w p ∙ then_ok _ g.is)
                  (d.means t g.value q (carry b g.later.kept g.later.grows) g.shown.given (carry_place p g.later.kept g.later.grows)
                  (rw (each-count (evaluation entries q) ts g.value (state_of s (store_of st)) (state_of o.state (store_of st1)) g.is) able)
                  (sym (j.means s.top t q b p) ∙ i));
            }

-- ---- the values

pub values-none : {entries : ℕ} {place : Place} {st l : List ℕ} {s : State} {c : ℕ} → ReadyEach l st s c place → c ≡ 0 → Gathers entries place st st l l s c (Ok (record { x = 0; y = 0; z = 0; state = s }))
unfolding each_tree
values-none {entries} {place} {st} {l} {s} k h =
    record {
      means = λ ts q r p.
          rw (none-at r h) (gives (record { x = 0; y = 0; z = 0; state = s }) (record { value = tnil; is = refl; shown = record { given = no_more; few = k.placed.few }; later = later_refl l s }));
    }

pub values-inside : {l st : List ℕ} {s : State} {c : ℕ} {place : Place} → ReadyEach l st s c place → ¬ (c ≡ 0) → c + cell_size ≤ length l
values-inside r h = omega (arith, (part_at r.shown h refl).cell.inside, r.placed.room.fits)

module _ {st l : List ℕ} {s : State} {c : ℕ} {place : Place} {x : Cell} (n : ¬ (c ≡ 0)) (e : x ≡ get_cell l c) where
  pub values_head_ready : ReadyEach l st s c place → ReadyToEvaluate l st s x.head place
  values_head_ready r = let p = part_at r.shown n e in record { thing = p.first; shown = p.cell.shown; placed = r.placed }

  module _ {entries : ℕ} {st1 l1 : List ℕ} {a : Result Out Stop} (v : Evaluates entries place st st1 l l1 s x.head a) where
    pub values_head_refused : {r : Result Values Stop} {f : Stop} → a ≡ Err f → r ≡ Err f → Gathers entries place st st1 l l1 s c r
    unfolding each_tree
    values_head_refused {f = f} k same =
        rw same (record { means = λ ts q w y. let p = part_at w n e in rw p.is (stops f (then_no _ (on_refused (v.means p.first q p.cell.shown y) k))) })

    module _ {o : Out} (k : a ≡ Ok o) where
      pub values_tail_ready : ReadyEach l st s c place → length l1 ≡ length l → length st1 ≡ length st → ReadyEach l1 st1 o.state x.tail place
      values_tail_ready r len len2 =
          let p = part_at r.shown n e in
          let g = evaluated_to v k p.first r.placed.where_it_is p.cell.shown r.placed.stands in
          record { things = p.others; shown = carry_p p.cell.shown-others g.later.kept g.later.grows; placed = placed-later r.placed g.later g.shown.few len len2 }

      pub values_tail_less : {T : ℕ} → ReadyEach l st s c place → s.left * 32 + 2 ≡ T → o.state.left * 32 + 2 < T
      values_tail_less r z =
          let p = part_at r.shown n e in
          omega (arith, (evaluated_to v k p.first r.placed.where_it_is p.cell.shown r.placed.stands).later.spent)

      module _ {st2 l2 : List ℕ} {d : Result Values Stop} (w : Gathers entries place st1 st2 l1 l2 o.state x.tail d) where
        pub values_tail_refused : {r : Result Values Stop} {f : Stop} → d ≡ Err f → r ≡ Err f → Gathers entries place st st2 l l2 s c r
        unfolding each_tree
        values_tail_refused {f = f} z same =
            rw same (record {
              means = λ ts q y b.
                  let p = part_at y n e in
                  let g = evaluated_to v k p.first q p.cell.shown b in
                  let h = on_refused (w.means p.others q (carry_p p.cell.shown-others g.later.kept g.later.grows) (carry_place b g.later.kept g.later.grows)) z in
                  rw p.is (stops f (then_ok _ g.is ∙ then_no _ h));
            })

        pub values-more : {u : Values} → d ≡ Ok u → Gathers entries place st st2 l l2 s c (Ok (record { x = o.at; y = u.x; z = u.y; state = u.state }))
        unfolding each_tree
        values-more {u} z =
            record {
              means = λ ts q y b.
                  let p = part_at y n e in
                  let g = evaluated_to v k p.first q p.cell.shown b in
                  let h = on_done (w.means p.others q (carry_p p.cell.shown-others g.later.kept g.later.grows) (carry_place b g.later.kept g.later.grows)) z in
                  rw p.is (gives (record { x = o.at; y = u.x; z = u.y; state = u.state }) (record {
                    value = tcons g.value h.value;
                    is = then_ok _ g.is ∙ then_ok _ h.is;
                    shown = record { given = one_more (carry g.shown.rep h.later.kept h.later.grows) h.shown.given; few = h.shown.few };
                    later = later_trans 0 0 g.later h.later (omega arith) (omega arith);
                  }));
            }

pub ruleset head_laws = (head-inside, head_less, head-ready, head-refused, call_ready, call_less, head_called)

pub ruleset call_laws = (call_sought, call_seen, call_each, form_less, call_refused, call_outside, call_values_refused, apply-ready, apply_less, call_applied)

pub ruleset values_laws = (values-none, values-inside, head_less, values_head_ready, values_head_refused, values_tail_ready, values_tail_less, values_tail_refused, values-more)
