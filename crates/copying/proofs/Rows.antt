-- Copies in a row, and the chain of them: one law for each way out.
use mathlib.Core.Path.{◌≡◌, refl, ap, ◌∙◌}
use mathlib.Core.List.{List}
use Prim.Native.Nat.{ℕ, ◌+◌, ◌*◌, ◌-◌, ◌^◌, ◌≤◌, ◌<◌, max}
use native.Mathlib.Omega.{arith}
use lib.ListN.{length}
use Rattle.model.specs.Objects.{Stx, Stxs, nil, cons, size, sizes, nestings, on_sets, on_sets_all}
use Rattle.model.specs.Trees.{tnil, tcons, from_stxs, tsize, strip, strip_all}
use Rattle.laws.proofs.Sizes.{size-some}
use Rattle.table.specs.Words.{Same}
use Rattle.table.proofs.Laws.{same_refl, same_under, same_trans}
use Rattle.things.specs.Weights.{weight}
use Rattle.things.specs.Rep.{Rep, RepP, is_none}
use Rattle.things.specs.Measuring.{Seen, Measured}
use Rattle.things.specs.Making.{Linkable, Linked}
use Rattle.things.specs.declared.Extent.{Extent}
use Rattle.things.proofs.Weighing.{size-stx, weight-stx}
use Rattle.things.proofs.Frame.{up, stays}
use Rattle.copying.specs.Reaching.{Copying, changing, stripping, copy_of, copies_of}
use Rattle.copying.specs.Rows.{Laid, laid_none, laid_one, Sized, Row, Chained}
use Rattle.copying.proofs.Sizes.{sizes-nil, sizes-cons, nestings-cons, size-on_sets, size-strip, weight-strip}
use Rattle.table.specs.Sizes.{cell_size, node_size, part_size, most_budget}

-- ---- what is copied, by the first part

pub copies_nil : (w : Copying) → copies_of w nil ≡ tnil
unfolding copies_of from_stxs on_sets_all strip_all
copies_nil (changing f) = refl
copies_nil stripping = refl

pub copies_cons : (w : Copying) (x : Stx) (ps : Stxs) → copies_of w (cons x ps) ≡ tcons (copy_of w x) (copies_of w ps)
unfolding copy_of copies_of from_stxs on_sets strip
copies_cons (changing f) x ps = refl
copies_cons stripping x ps = refl

-- ---- a copy's size

copy_size : (w : Copying) (x : Stx) → max (tsize (copy_of w x)) (weight (copy_of w x)) ≡ size x
unfolding copy_of
copy_size (changing f) x = omega (arith, size-stx (on_sets f x), weight-stx (on_sets f x), size-on_sets f x, size-some x)
copy_size stripping x = omega (arith, size-strip x, weight-strip x)

module _ {l : List ℕ} {i : ℕ} {n : Extent} (m : Measured l i n) where
  pub sized-weight : n.size < n.weight → Sized l i n.weight
  sized-weight h =
      record {
        means = λ w top x r few.
            let e = m.means top (copy_of w x) r in
            omega (arith, e.size, e.weight, copy_size w x);
      }

  pub sized-size : n.weight ≤ n.size → Sized l i n.size
  sized-size h =
      record {
        means = λ w top x r few.
            let e = m.means top (copy_of w x) r in
            omega (arith, e.size, e.weight, copy_size w x);
      }

-- ---- a row

pub laid-grows : {w : Copying} {l : List ℕ} {from : ℕ} {ps : Stxs} {end : ℕ} {rest : Stxs} → Laid w l from ps end rest → from ≤ end
laid-grows laid_none = omega arith
laid-grows (laid_one {x = x} d p q r) = omega (arith, laid-grows d, size-some x)

-- what the rest would want still fits
pub laid-room : {w : Copying} {l : List ℕ} {from : ℕ} {ps : Stxs} {end : ℕ} {rest : Stxs} → Laid w l from ps end rest → end + part_size * sizes rest ≤ from + part_size * sizes ps
laid-room laid_none = omega arith
laid-room (laid_one {x = x} {rest = rest} d p q r) = omega (arith, laid-room d, sizes-cons x rest)

pub laid-flat : {w : Copying} {l : List ℕ} {from : ℕ} {ps : Stxs} {end : ℕ} {rest : Stxs} → Laid w l from ps end rest → nestings rest ≤ nestings ps
laid-flat laid_none = omega arith
laid-flat (laid_one {x = x} {rest = rest} d p q r) = omega (arith, laid-flat d, nestings-cons x rest)

pub laid_stays : {w : Copying} {l l' : List ℕ} {from : ℕ} {ps : Stxs} {end : ℕ} {rest : Stxs} → Laid w l from ps end rest → Same end l l' → Laid w l' from ps end rest
laid_stays laid_none e = laid_none
laid_stays {l = l} {l' = l'} (laid_one {b = b} {end = end} {x = x} d p q r) e =
    laid_one (laid_stays d (same_under b end l l' (omega (arith, size-some x)) e)) p q (stays r e)

-- its last copy
record LastOf (w : Copying) (l : List ℕ) (from : ℕ) (ps : Stxs) (end : ℕ) (rest : Stxs) : Type 0 where
  begin : ℕ
  thing : Stx
  before : Laid w l from ps begin (cons thing rest)
  span : end + cell_size ≡ begin + part_size * size thing
  high : from + node_size ≤ end
  shown : Rep l end (end - node_size) (copy_of w thing)

last_of : {w : Copying} {l : List ℕ} {from end : ℕ} {ps rest : Stxs} → Laid w l from ps end rest → ¬ (end ≡ from) → LastOf w l from ps end rest
last_of laid_none h = absurd (h refl)
last_of {w} {l} {from} (laid_one {b = b} {at = at} {end = end} {x = x} d p q r) h =
    let e : end - node_size ≡ at = omega arith in
    record { begin = b; thing = x; before = d; span = q; high = omega (arith, laid-grows d, size-some x); shown = rw e r }

-- what was copied there has the size that is found
last-size : {w : Copying} {l : List ℕ} {from end n : ℕ} {ps rest : Stxs} → Sized l (end - node_size) n → (z : LastOf w l from ps end rest) → sizes ps ≤ most_budget → n ≡ size z.thing
last-size {w} {end = end} {rest = rest} s z few =
    let h : size z.thing ≤ most_budget = omega (arith, laid-room z.before, laid-grows z.before, sizes-cons z.thing rest) in
    s.means w end z.thing z.shown h

all-linked : {w : Copying} {l : List ℕ} {from end : ℕ} {ps rest : Stxs} → Laid w l from ps end rest → end ≡ from → rest ≡ ps
all-linked laid_none h = refl
all-linked (laid_one {x = x} d p q r) h = absurd (omega (arith, laid-grows d, size-some x))

-- ---- the chain so far: `at` stands for the rest, which lay from `last` on

pub record Tied (w : Copying) (l : List ℕ) (from : ℕ) (ps : Stxs) (at top last : ℕ) : Type 0 where
  pub rest : Stxs
  pub laid : Laid w l from ps last rest
  pub shown : RepP l top at (copies_of w rest)
  pub room : top ≡ last + part_size * sizes rest

pub record Tying (l l' : List ℕ) (from end at top last : ℕ) : Type 0 where
  pub long : length l' ≡ length l
  pub kept : Same end l l'
  pub grows : end ≤ top
  pub means : (w : Copying) (ps : Stxs) → Laid w l from ps end nil → sizes ps ≤ most_budget → Tied w l' from ps at top last

pub none_tied : {l : List ℕ} {from end : ℕ} → Tying l l from end 0 end end
none_tied {l} {from} {end} =
    record {
      long = refl;
      kept = same_refl end l;
      grows = omega arith;
      means = λ w ps d few. record { rest = nil; laid = d; shown = rw (copies_nil w) is_none; room = omega (arith, sizes-nil) };
    }

module _ {l l1 : List ℕ} {from end at top last : ℕ} (r : Row l from end) (d : Tying l l1 from end at top last) where
  module _ (h : ¬ (last ≡ from)) where
    pub last-node : node_size ≤ last
    last-node = let k = d.means r.by r.thing r.laid r.charged in let z = last_of k.laid h in omega (arith, z.high)

    pub last-seen : Seen l1 (last - node_size)
    last-seen =
        let k = d.means r.by r.thing r.laid r.charged in
        let z = last_of k.laid h in
        record { top = last; thing = copy_of r.by z.thing; shown = z.shown; inside = omega (arith, d.long, laid-room k.laid, r.room); small = omega (arith, d.long, r.small) }

    pub last_linkable : Linkable l1 top (last - node_size) at
    last_linkable =
        let k = d.means r.by r.thing r.laid r.charged in
        let z = last_of k.laid h in
        record {
          thing = copy_of r.by z.thing;
          others = copies_of r.by k.rest;
          shown = up z.shown (omega (arith, k.room));
          shown-others = k.shown;
          room = record {
            fits = omega (arith, k.room, z.span, laid-room z.before, sizes-cons z.thing k.rest, r.room, d.long);
            small = omega (arith, d.long, r.small);
            low = omega (arith, r.low, z.high, k.room);
          };
        }

    module _ {n : ℕ} (s : Sized l1 (last - node_size) n) where
      pub last_fits : last + cell_size < 2 ^ 32
      last_fits = let k = d.means r.by r.thing r.laid r.charged in omega (arith, laid-room k.laid, r.room, r.small)

      pub size_fits : part_size * n < 2 ^ 32
      size_fits =
          let k = d.means r.by r.thing r.laid r.charged in
          let z = last_of k.laid h in
          omega (arith, last-size s z r.charged, z.span, laid-room k.laid, r.room, r.small)

      pub last_begins : part_size * n ≤ last + cell_size
      last_begins =
          let k = d.means r.by r.thing r.laid r.charged in
          let z = last_of k.laid h in
          omega (arith, last-size s z r.charged, z.span)

      pub last-falls : last + cell_size - part_size * n < last
      last-falls =
          let k = d.means r.by r.thing r.laid r.charged in
          let z = last_of k.laid h in
          omega (arith, last-size s z r.charged, z.span, size-some z.thing)

      pub last_tied : {l2 : List ℕ} {at2 top2 : ℕ} → Linked l1 l2 top (last - node_size) at at2 top2 → length l2 ≡ length l1 → Tying l l2 from end at2 top2 (last + cell_size - part_size * n)
      last_tied {l2} {at2} {top2} m len =
          record {
            long = len ∙ d.long;
            kept = same_trans end top l l1 l2 d.grows d.kept m.kept;
            grows = omega (arith, d.grows, m.grows);
            means = λ w ps u few.
                let k = d.means w ps u few in
                let z = last_of k.laid h in
                let e : last + cell_size - part_size * n ≡ z.begin = omega (arith, last-size s z few, z.span) in
                let low : z.begin ≤ top = omega (arith, z.span, size-some z.thing, k.room) in
                let high : last ≤ top = omega (arith, k.room) in
                rw e (record {
                  rest = cons z.thing k.rest;
                  laid = laid_stays z.before (same_under z.begin top l1 l2 low m.kept);
                  shown = rw (copies_cons w z.thing k.rest) (m.means (copy_of w z.thing) (copies_of w k.rest) (up z.shown high) k.shown);
                  room = omega (arith, m.grows, k.room, z.span, sizes-cons z.thing k.rest);
                });
          }

  pub all_tied : last ≡ from → Chained l l1 from end at top
  all_tied h =
      record {
        kept = d.kept;
        grows = d.grows;
        means = λ w ps u few.
            let k = d.means w ps u few in
            let e = all-linked k.laid h in
            record { shown = rw e at k.shown; room = omega (arith, k.room, ap sizes e) };
      }

pub ruleset laws = (sized-weight, sized-size, none_tied, last-node, last-seen, last_linkable, last_fits, size_fits, last_begins, last-falls, last_tied, all_tied)
