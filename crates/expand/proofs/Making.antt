-- Lists made anew: one law for each way out.
use Rattle.std.specs.Prelude.{Result, Ok, Err}
use mathlib.Core.Path.{◌≡◌, refl, sym, ap, ◌∙◌}
use mathlib.Core.List.{List}
use Prim.Native.Nat.{ℕ, suc, ◌+◌, ◌-◌, ◌*◌, ◌≤◌, ◌<◌}
use native.Mathlib.Omega.{arith}
use borrow.Author.Tests.{le-leb, lt-leb}
use lib.ListN.{length}
use Rattle.model.specs.Limits.{most_nesting}
use Rattle.model.specs.Refusals as ref
use Rattle.model.specs.Objects.{Sets, Stx, list, Stxs, nil, cons, nesting}
use Rattle.model.specs.Trees.{stx, tnil, tcons, from_stxs}
use Rattle.model.specs.Steps.{made}
use Rattle.refusals.specs.declared.Refusal.TheVariants.{TooDeep}
use Rattle.table.specs.Tags.{list_tag}
use Rattle.table.specs.Words.{get_sets, Same}
use Rattle.table.specs.declared.Sets as tb
use Rattle.table.proofs.Laws.{same_trans}
use Rattle.things.specs.Rep.{Rep, RepP, is-list, is_none, sets_of}
use Rattle.things.specs.Measuring.{SeenP, MeasuredP}
use Rattle.things.specs.Making.{Roomy, StoredObject, Linkable, Linked}
use Rattle.things.specs.declared.Extent.{Extent}
use Rattle.things.specs.declared.Made.{Made}
use Rattle.things.proofs.Frame.{below, carry}
use Rattle.things.proofs.Making.{made_list}
use Rattle.things.proofs.Weighing.{nest_from}
use Rattle.steps.specs.States.{stop_of, state_of, raised_to}
use Rattle.steps.specs.Agreement.{Later, gives, stops}
use Rattle.steps.specs.declared.State.{State}
use Rattle.steps.specs.declared.Out.{Out}
use Rattle.steps.specs.declared.Stop.{Stop}
use Rattle.steps.proofs.Laws.{then_ok, then_no, unless-ok, unless-no, since}
use Rattle.parse.specs.Parsing.{unpaid}
use Rattle.expand.specs.Making.{Relistable, Relisted, Chainable, Chained, ReadyList, Lists, ReadyTwo, TwoLists, ReadyThree, ThreeLists}
use Rattle.table.specs.Sizes.{cell_size, node_size, triple_spare, unit_size}

-- ---- relist

sets-at : {l : List ℕ} {top i : ℕ} {k : Sets} {ps : Stxs} → Rep l top i (stx (list k ps)) → sets_of (get_sets l i) ≡ k
sets-at (is-list a q y r) = y

pub relist_inside : {l : List ℕ} {top i : ℕ} → Relistable l top i → i + node_size ≤ length l
relist_inside r = omega (arith, below r.shown, r.room.fits)

pub relist_room : {l : List ℕ} {top i : ℕ} → Relistable l top i → Roomy l top node_size
relist_room r = r.room

pub relisted : {l l1 : List ℕ} {top i c at top1 : ℕ} {d : tb.Sets} → d ≡ get_sets l i → StoredObject l l1 top (record { tag = list_tag; content = c }) d at top1 → Relisted l l1 top i c at top1
relisted e s =
    record {
      kept = s.stored.kept;
      grows = s.stored.grows;
      means = λ k qs ps u w. made_list (ap sets_of e ∙ sets-at u) s w;
    }

-- ---- chain

module _ {l : List ℕ} {top a b : ℕ} (r : Chainable l top a b) where
  pub chain_second : Linkable l top b 0
  chain_second =
      record { thing = r.second; others = tnil; shown = r.shown-second; shown-others = is_none; room = record { fits = omega (arith, r.room.fits); small = r.room.small; low = r.room.low } }

  pub chain_first : {l1 : List ℕ} {m : Made} → Linked l l1 top b 0 m.at m.top → length l1 ≡ length l → Linkable l1 m.top a m.at
  chain_first k len =
      record {
        thing = r.first;
        others = tcons r.second tnil;
        shown = carry r.shown k.kept (omega (arith, k.grows));
        shown-others = k.means r.second tnil r.shown-second is_none;
        room = record { fits = omega (arith, r.room.fits, k.grows, len); small = omega (arith, r.room.small, len); low = omega (arith, r.room.low, k.grows) };
      }

pub chained : {l l1 l2 : List ℕ} {top a b : ℕ} {m n : Made} → Linked l l1 top b 0 m.at m.top → Linked l1 l2 m.top a m.at n.at n.top → Chained l l2 top a b n.at n.top
chained {l} {l1} {l2} {top} {m = m} k j =
    record {
      kept = same_trans top m.top l l1 l2 (omega (arith, k.grows)) k.kept j.kept;
      grows = omega (arith, k.grows, j.grows);
      means = λ t y u w. j.means t (tcons y tnil) (carry u k.kept (omega (arith, k.grows))) (k.means y tnil w is_none);
    }

-- ---- a list of new parts

module _ {l : List ℕ} {s : State} {i c : ℕ} (r : ReadyList l s i c) where
  pub list-seen : SeenP l c
  list-seen = record { top = s.top; thing = from_stxs r.parts; shown = r.chain; inside = omega (arith, r.free); small = r.room.small }

  pub list_relist : Relistable l s.top i
  list_relist = record { sets = r.sets; parts = r.old; shown = r.shown; room = record { fits = omega (arith, r.free); small = r.room.small; low = r.room.low } }

  module _ {ex : Extent} (k : MeasuredP l c ex) where
    nests : (d : Sets) (ps : Stxs) → RepP l s.top c (from_stxs ps) → nesting (list d ps) ≡ suc ex.nesting
    unfolding nesting
    nests d ps w = ap suc (sym (nest_from ps) ∙ sym (k.means s.top (from_stxs ps) w).nesting)

    pub list_deep : {r : Result Out Stop} → 64 ≤ ex.nesting → r ≡ Err (stop_of TooDeep s) → Lists l l s i c r
    unfolding made most_nesting
    list_deep h same = rw same (record { means = λ b d qs ps u w. stops _ (then_no _ (unless-no ref.too_deep (state_of s b) (lt-leb (nesting (list d ps)) 64 (omega (arith, nests d ps w))))) })

    pub list-made : {l1 : List ℕ} {m : Made} {z : State} → ex.nesting < 64 → Relisted l l1 s.top i c m.at m.top → z ≡ raised_to m.top s
        → Lists l l1 s i c (Ok (record { at = m.at; state = z }))
    unfolding made most_nesting unpaid
    list-made {m = m} h d e =
        record {
          means = λ b f qs ps u w.
              rw e (gives (record { at = m.at; state = raised_to m.top s }) (record {
                value = list f ps;
                is = then_ok _ (unless-ok ref.too_deep (state_of s b) (le-leb (nesting (list f ps)) 64 (omega (arith, nests f ps w))));
                shown = record { rep = d.means f qs ps u w; few = r.few };
                later = record { kept = d.kept; grows = omega (arith, d.grows); fits = omega (arith, d.grows); spent = omega arith };
              }));
        }

-- ---- two parts

module _ {l : List ℕ} {s : State} {i a c : ℕ} (r : ReadyTwo l s i a c) where
  pub two-chain : Chainable l s.top a c
  two-chain = record { first = stx r.first; second = stx r.second; shown = r.shown-first; shown-second = r.shown-second; room = record { fits = omega (arith, r.free); small = r.room.small; low = r.room.low } }

  module _ {l1 : List ℕ} {m : Made} (k : Chained l l1 s.top a c m.at m.top) where
    pub two_relist : length l1 ≡ length l → Relistable l1 m.top i
    two_relist len =
        record {
          sets = r.sets;
          parts = r.old;
          shown = carry r.shown k.kept (omega (arith, k.grows));
          room = record { fits = omega (arith, r.free, k.grows, len); small = omega (arith, r.room.small, len); low = omega (arith, r.room.low, k.grows) };
        }

    pub two_made : {l2 : List ℕ} {n : Made} {z : State} → Relisted l1 l2 m.top i m.at n.at n.top → z ≡ raised_to n.top s
        → TwoLists l l2 s i a c (Ok (record { at = n.at; state = z }))
    unfolding unpaid from_stxs
    two_made {l2} {n} d e =
        record {
          means = λ b f qs x y u v w.
              rw e (gives (record { at = n.at; state = raised_to n.top s }) (record {
                value = list f (cons x (cons y nil));
                is = refl;
                shown = record { rep = d.means f qs (cons x (cons y nil)) (carry u k.kept (omega (arith, k.grows))) (k.means (stx x) (stx y) v w); few = r.few };
                later = record {
                  kept = same_trans s.top m.top l l1 l2 (omega (arith, k.grows)) k.kept d.kept;
                  grows = omega (arith, k.grows, d.grows);
                  fits = omega (arith, k.grows, d.grows);
                  spent = omega arith;
                };
              }));
        }

-- ---- three parts

module _ {l : List ℕ} {s : State} {i a c f : ℕ} (r : ReadyThree l s i a c f) where
  pub three_chain : Chainable l s.top c f
  three_chain = record { first = stx r.second; second = stx r.third; shown = r.shown-second; shown-second = r.shown-third; room = record { fits = omega (arith, r.free); small = r.room.small; low = r.room.low } }

  module _ {l1 : List ℕ} {m : Made} (k : Chained l l1 s.top c f m.at m.top) where
    pub three_link : length l1 ≡ length l → Linkable l1 m.top a m.at
    unfolding from_stxs
    three_link len =
        record {
          thing = stx r.first;
          others = from_stxs (cons r.second (cons r.third nil));
          shown = carry r.shown-first k.kept (omega (arith, k.grows));
          shown-others = k.means (stx r.second) (stx r.third) r.shown-second r.shown-third;
          room = record { fits = omega (arith, r.free, k.grows, len); small = omega (arith, r.room.small, len); low = omega (arith, r.room.low, k.grows) };
        }

    module _ {l2 : List ℕ} {n : Made} (j : Linked l1 l2 m.top a m.at n.at n.top) {t : State} (e : t ≡ raised_to n.top s) where
      linked-parts : (x y z : Stx) → Rep l s.top a (stx x) → Rep l s.top c (stx y) → Rep l s.top f (stx z) → RepP l2 n.top n.at (from_stxs (cons x (cons y (cons z nil))))
      unfolding from_stxs
      linked-parts x y z u v w = j.means (stx x) (from_stxs (cons y (cons z nil))) (carry u k.kept (omega (arith, k.grows))) (k.means (stx y) (stx z) v w)

      below-kept : Same s.top l l2
      below-kept = same_trans s.top m.top l l1 l2 (omega (arith, k.grows)) k.kept j.kept

      pub three_list_ready : length l1 ≡ length l → length l2 ≡ length l1 → ReadyList l2 t i n.at
      three_list_ready len len2 =
          rw e (record {
            sets = r.sets;
            old = r.old;
            parts = cons r.first (cons r.second (cons r.third nil));
            shown = carry r.shown below-kept (omega (arith, k.grows, j.grows));
            chain = linked-parts r.first r.second r.third r.shown-first r.shown-second r.shown-third;
            room = record { fits = omega (arith, r.free, k.grows, j.grows, len, len2); small = omega (arith, r.room.small, len, len2); low = omega (arith, r.room.low, k.grows, j.grows) };
            free = omega (arith, r.free, k.grows, j.grows, len, len2);
            few = r.few;
          })

      pub three_made : {l3 : List ℕ} {q : Result Out Stop} → Lists l2 l3 t i n.at q → ThreeLists l l3 s i a c f q
      unfolding unpaid
      three_made {l3} {q} d =
          let d2 : Lists l2 l3 (raised_to n.top s) i n.at q = rw e at d in
          let on : Later 1 (unit_size - 3 * cell_size) l l2 (unpaid (unpaid s)) (unpaid (raised_to n.top s)) =
          record { kept = below-kept; grows = omega (arith, k.grows, j.grows); fits = omega (arith, k.grows, j.grows); spent = omega arith } in
          record {
            means = λ b h qs x y z u v w o.
                since 2 triple_spare on (omega arith) (omega arith) refl
                (d2.means b h qs (cons x (cons y (cons z nil))) (carry u below-kept (omega (arith, k.grows, j.grows))) (linked-parts x y z v w o));
          }

pub ruleset laws = (relist_inside, relist_room, relisted, chain_second, chain_first, chained, list-seen, list_relist, list_deep, list-made, two-chain, two_relist, two_made, three_chain, three_link, three_list_ready, three_made)
