-- Building so many things, whichever they are: what the loop knows, and one law for each of its needs.
use mathlib.Core.Path.{◌≡◌, refl, sym, ap, ◌∙◌, subst}
use mathlib.Core.List.{List}
use Prim.Native.Nat.{ℕ, ◌+◌, ◌-◌, ◌*◌, ◌≤◌, ◌<◌}
use native.Mathlib.Omega.{arith}
use lib.ListN.{length, drop}
use Rattle.model.specs.Trees.{Tree, Trees, tnil, tcons, load_size}
use Rattle.table.specs.Sizes.{cell_size, turned_size}
use Rattle.table.specs.Words.{Same}
use Rattle.table.proofs.Laws.{same_refl, same_trans}
use Rattle.things.specs.Making.{Linkable, Linked}
use Rattle.things.specs.Rep.{RepP, is_none}
use Rattle.things.specs.Turning.{turn_onto, counts, Turnable, Turned}
use Rattle.things.proofs.Frame.{carry_p}
use Rattle.things.proofs.Turning.{count-more, turn_more}
use Rattle.builder.specs.Fronts.{Within}
use Rattle.builder.specs.declared.Built.{Built}
use Rattle.builder.specs.Building.{load_sizes, Judged, JudgedAll, Builds, BuildsAll}
use Rattle.builder.proofs.Inverting.{Part, Ends, Steps, object_steps, objects-end, tree_steps, trees-end}
use Rattle.builder.proofs.Sizes.{loads_none, loads_cons}

-- of ts the things `todo` still stand in the image, and `turned` is what was built of the others, the last first
pub record Half (RP : ℕ → List ℕ → Trees → List ℕ → Type 0) (l : List ℕ) (top end : ℕ) (image : List ℕ) (past left turned : ℕ) (ts : Trees) (rest : List ℕ) : Type 0 where
  pub todo : Trees
  pub done : Trees
  pub read : RP left (drop past image) todo rest
  pub made : RepP l end turned done
  pub whole : turn_onto done todo ≡ ts
  pub room : end + turned_size * load_sizes todo + cell_size * counts done ≤ top + turned_size * load_sizes ts

pub record Going (RP : ℕ → List ℕ → Trees → List ℕ → Type 0) (count : ℕ) (l : List ℕ) (top : ℕ) (image : List ℕ) (at : ℕ) (l' : List ℕ) (end past left turned : ℕ) : Type 0 where
  pub kept : Same top l l'
  pub grows : top ≤ end
  pub long : length l' ≡ length l
  pub from : at ≤ past
  pub place : Within image past
  pub means : (ts : Trees) (rest : List ℕ) → RP count (drop at image) ts rest → Half RP l' top end image past left turned ts rest

pub going_start : {RP : ℕ → List ℕ → Trees → List ℕ → Type 0} {count : ℕ} {l : List ℕ} {top : ℕ} {image : List ℕ} {at scopes : ℕ} → JudgedAll RP count l top image at scopes
    → Going RP count l top image at l top at (count - 0) 0
unfolding turn_onto counts
going_start {count = count} {l = l} {top = top} s = record {
  kept = same_refl top l;
  grows = omega arith;
  long = refl;
  from = omega arith;
  place = s.room.place;
  means = λ ts rest x. record { todo = ts; done = tnil; read = rw (let z : count - 0 ≡ count = omega arith in z) x; made = is_none; whole = refl; room = omega arith };
}

module _ {R : List ℕ → Tree → List ℕ → Type 0} {RP : ℕ → List ℕ → Trees → List ℕ → Type 0} (S : Steps R RP) {count : ℕ} {l : List ℕ} {top : ℕ} {image : List ℕ} {at : ℕ} {l1 : List ℕ} {end past i turned : ℕ} (h : i < count)
    (g : Going RP count l top image at l1 end past (count - i) turned) where
  module _ {scopes : ℕ} (s : JudgedAll RP count l top image at scopes) where
    some-left : ¬ (count - i ≡ 0)
    some-left e = omega arith

    half : Half RP l1 top end image past (count - i) turned s.thing s.rest
    half = g.means s.thing s.rest s.read

    part : Part R RP (count - i) (drop past image) half.todo s.rest
    part = S.some some-left half.read

    sum : load_sizes half.todo ≡ load_size part.first + load_sizes part.others
    sum = ap load_sizes part.is ∙ loads_cons part.first part.others

    pub one-judged : Judged R l1 end image past scopes
    one-judged =
        record {
          thing = part.first;
          rest = part.between;
          read = part.first_read;
          room = record {
            fits = omega (arith, s.room.fits, sum, half.room, g.long);
            small = omega (arith, s.room.small, g.long);
            low = omega (arith, s.room.low, g.grows);
            place = g.place;
            few = s.room.few;
          };
        }

    pub one_later : {t : ℕ} → (length image - at) * 3 + 1 ≡ t → (length image - past) * 3 < t
    one_later z = omega (arith, g.from, g.place.inside)

    pub one_linkable : {l2 : List ℕ} {r : Built} → Builds R l1 l2 end image past (past + 1) r → length l2 ≡ length l1 → Linkable l2 r.top r.at turned
    one_linkable {l2} {r} b q =
        let w = b.means part.first part.between part.first_read in
        record {
          thing = part.first;
          others = half.done;
          shown = w.shown;
          shown-others = carry_p half.made b.kept b.rises;
          room = record {
            fits = omega (arith, s.room.fits, sum, half.room, w.grows, g.long, q);
            small = omega (arith, s.room.small, g.long, q);
            low = omega (arith, s.room.low, g.grows, b.rises);
          };
        }

    pub one_more : {l2 l3 : List ℕ} {r : Built} {at3 top3 : ℕ} → Builds R l1 l2 end image past (past + 1) r → length l2 ≡ length l1
        → Linked l2 l3 r.top r.at turned at3 top3 → length l3 ≡ length l2 → Going RP count l top image at l3 top3 r.past (count - (i + 1)) at3
    one_more {l2} {l3} {r} {at3} {top3} b q k q3 =
        let v = b.means part.first part.between part.first_read in
        let fewer : count - i - 1 ≡ count - (i + 1) = omega arith in
        record {
          kept = same_trans top end l l1 l3 g.grows g.kept (same_trans end r.top l1 l2 l3 b.rises b.kept k.kept);
          grows = omega (arith, g.grows, b.rises, k.grows);
          long = q3 ∙ q ∙ g.long;
          from = omega (arith, g.from, v.left.moved);
          place = record { inside = v.left.inside; short = g.place.short };
          means = λ ts rest x.
              let y = g.means ts rest x in
              let p = S.some some-left y.read in
              let w = b.means p.first p.between p.first_read in
              let big : load_sizes y.todo ≡ load_size p.first + load_sizes p.others = ap load_sizes p.is ∙ loads_cons p.first p.others in
              let more = count-more p.first y.done in
              record {
                todo = p.others;
                done = tcons p.first y.done;
                read = subst (λ (k : ℕ). RP k (drop r.past image) p.others rest) fewer (subst (λ (u : List ℕ). RP (count - i - 1) u p.others rest) w.left.is p.others-read);
                made = k.means p.first y.done w.shown (carry_p y.made b.kept b.rises);
                whole = turn_more p.first y.done p.others ∙ ap (turn_onto y.done) (sym p.is) ∙ y.whole;
                room = omega (arith, big, more, y.room, w.grows, k.grows);
              };
        }

module _ {RP : ℕ → List ℕ → Trees → List ℕ → Type 0} (E : Ends RP) {count : ℕ} {l : List ℕ} {top : ℕ} {image : List ℕ} {at : ℕ} {l1 : List ℕ} {end past i turned : ℕ} (over : count ≤ i)
    (g : Going RP count l top image at l1 end past (count - i) turned) where
  z : count - i ≡ 0
  z = omega arith

  pub all_turnable : {scopes : ℕ} → JudgedAll RP count l top image at scopes → Turnable l1 end turned
  all_turnable s =
      let y = g.means s.thing s.rest s.read in
      let none : load_sizes y.todo ≡ 0 = ap load_sizes (E.none z y.read).0 ∙ loads_none in
      record {
        thing = y.done;
        shown = y.made;
        room = omega (arith, none, y.room, s.room.fits, g.long);
        small = omega (arith, s.room.small, g.long);
        low = omega (arith, s.room.low, g.grows);
      }

  pub all-built : {l2 : List ℕ} {at2 top2 : ℕ} → Turned l1 l2 end turned at2 top2 → BuildsAll RP count l l2 top image at (record { at = at2; top = top2; past = past })
  all-built {l2} {at2} {top2} t =
      record {
        kept = same_trans top end l l1 l2 g.grows g.kept t.kept;
        rises = omega (arith, g.grows, t.grows);
        means = λ ts rest x.
            let y = g.means ts rest x in
            let q = E.none z y.read in
            let d = t.means y.done y.made in
            let none : load_sizes y.todo ≡ 0 = ap load_sizes q.0 ∙ loads_none in
            let same : turn_onto y.done tnil ≡ ts = ap (turn_onto y.done) (sym q.0) ∙ y.whole in
            record {
              shown = rw same at d.0;
              grows = omega (arith, none, y.room, d.1);
              left = record { moved = g.from; inside = g.place.inside; is = q.1 };
            };
      }

pub ruleset Chain-laws = (object_steps, objects-end, tree_steps, trees-end, going_start, one-judged, one_later, one_linkable, one_more, all_turnable, all-built)
