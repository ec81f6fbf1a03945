-- Writing: one law for each way out.
use mathlib.Core.Path.{◌≡◌, refl, sym, ap, ◌∙◌}
use mathlib.Core.Bool.{Bool, true, false}
use mathlib.Core.List.{List, [], ◌++◌}
use Prim.Native.Nat.{ℕ, ◌+◌, ◌-◌, ◌*◌, ◌≤◌, ◌<◌}
use native.Mathlib.Omega.{arith}
use lib.ListN.{length, length-append}
use lib.Seq.{sets, length-sets}
use Rattle.model.specs.Objects.{tag_of}
use Rattle.model.specs.Trees.{Tree, Trees, stx, tcons, from_stxs}
use Rattle.model.specs.Writing.{num_bytes, sets_bytes, stx_bytes, tree_bytes}
use Rattle.numbers.proofs.Writing.{sets_append}
use Rattle.table.specs.Tags.{list_tag, variable_tag, application_tag, function_tag, list_value_tag, atom_value_tag}
use Rattle.table.specs.Words.{get_node, get_sets, get_body, get_cell}
use Rattle.table.specs.declared.Node.{Node}
use Rattle.table.specs.declared.Sets.{Sets}
use Rattle.table.specs.declared.Body.{Body}
use Rattle.table.specs.declared.Cell.{Cell}
use Rattle.things.specs.Rep.{Rep, RepP, is-var, is-app, is-fun, is-lst, is-datum, is-atom, is-list, sets_of}
use Rattle.things.specs.Measuring.{Seen}
use Rattle.things.proofs.Frame.{below}
use Rattle.things.proofs.ByTag.{tag-low, tag_is, app-at, fun-at, lst-at, list_at, PartAt, part_at, none-at}
use Rattle.writer.specs.Bytes.{leading, prefix_stx, prefix, front, parts, written, written_all}
use Rattle.writer.specs.Counting.{NumberIs}
use Rattle.writer.specs.Putting.{Fitting, FittingP, FittingPrefix, FittingObject, Wrote, Puts, PutsP, PutsObject}
use Rattle.writer.proofs.Bytes.{written-stx, written-tree, front_long, written-long, all_none, all-long, parts-list, parts-app, parts-lst, parts-fun}
use Rattle.writer.proofs.Counting.{no-parts, list_less, app_less, lst_less, fun_less}
use Rattle.table.specs.Sizes.{cell_size, node_size}

-- ---- one run of bytes behind another

pub run : {xs ys out l1 l2 : List ℕ} {at mid r : ℕ} → Wrote xs out l1 at mid → Wrote ys l1 l2 mid r → Wrote (xs ++ ys) out l2 at r
run {xs} {ys} {out} {l1} {l2} {at} {mid} {r} w v =
    record {
      past_is = rw length-append (omega (arith, w.past_is, v.past_is));
      out-is = v.out-is ∙ (λ j. sets (w.out-is j) (w.past_is j) ys) ∙ sets_append xs ys out at;
    }

same_length : {xs out l1 : List ℕ} {at mid : ℕ} → Wrote xs out l1 at mid → length l1 ≡ length out
same_length {xs} {out} {l1} {at} w = ap length w.out-is ∙ length-sets out at xs

as_wrote : {xs ys out l1 : List ℕ} {at mid : ℕ} → xs ≡ ys → Wrote xs out l1 at mid → Wrote ys out l1 at mid
as_wrote e w = rw (← e) w

-- ---- what is put stands in the table

pub fitting-seen : {bytes : Tree → List ℕ} {l : List ℕ} {i : ℕ} {out : List ℕ} {at : ℕ} → Fitting bytes l i out at → Seen l i
fitting-seen s = record { top = s.top; thing = s.thing; shown = s.shown; inside = s.inside; small = s.small }

pub fitting-inside : {bytes : Tree → List ℕ} {l : List ℕ} {i : ℕ} {out : List ℕ} {at : ℕ} → Fitting bytes l i out at → i + node_size ≤ length l
fitting-inside s = omega (arith, below s.shown, s.inside)

-- ---- the prefix of an object

module _ {l : List ℕ} {i : ℕ} {o : Node} (e : o ≡ get_node l i) (h : o.tag ≤ list_tag) where
  object-prefix : {top : ℕ} {t : Tree} → Rep l top i t → prefix false t ≡ num_bytes o.tag ++ sets_bytes (sets_of (get_sets l i))
  unfolding prefix prefix_stx leading
  object-prefix (is-var a q) = absurd (omega (arith, tag_is e q))
  object-prefix (is-app a q r) = absurd (omega (arith, tag_is e q))
  object-prefix (is-fun a q y r) = absurd (omega (arith, tag_is e q))
  object-prefix (is-datum {a = x} a q) = absurd (omega (arith, tag_is e q))
  object-prefix (is-lst a q r) = absurd (omega (arith, tag_is e q))
  object-prefix (is-atom a q y) = sym (λ j. num_bytes (tag_is e q j) ++ sets_bytes (y j))
  object-prefix (is-list a q y r) = sym (λ j. num_bytes (tag_is e q j) ++ sets_bytes (y j))

  led_prefix : {top : ℕ} {t : Tree} → Rep l top i t → prefix true t ≡ num_bytes 5 ++ prefix false t
  unfolding prefix leading
  led_prefix (is-var a q) = absurd (omega (arith, tag_is e q))
  led_prefix (is-app a q r) = absurd (omega (arith, tag_is e q))
  led_prefix (is-fun a q y r) = absurd (omega (arith, tag_is e q))
  led_prefix (is-datum {a = x} a q) = absurd (omega (arith, tag_is e q))
  led_prefix (is-lst a q r) = absurd (omega (arith, tag_is e q))
  led_prefix (is-atom a q y) = refl
  led_prefix (is-list a q y r) = refl

module _ {l : List ℕ} {i : ℕ} {out : List ℕ} {at tag : ℕ} (s : FittingPrefix l i out at tag) where
  split : {top : ℕ} {t : Tree} → Rep l top i t → prefix false t ≡ num_bytes tag ++ sets_bytes (sets_of (get_sets l i))
  split r =
      let h : (get_node l i).tag ≤ list_tag = omega (arith, s.tag_is, s.object) in
      object-prefix refl h r ∙ ap (λ (n : ℕ). num_bytes n ++ sets_bytes (sets_of (get_sets l i))) (sym s.tag_is)

  long : length (prefix false s.fitting.thing) ≡ length (num_bytes tag) + length (sets_bytes (sets_of (get_sets l i)))
  long = ap length (split s.fitting.shown) ∙ length-append (num_bytes tag) (sets_bytes (sets_of (get_sets l i)))

  pub tag_fits : at + length (num_bytes tag) ≤ length out
  tag_fits = omega (arith, long, s.fitting.fits)

  pub object-inside : i + node_size ≤ length l
  object-inside = fitting-inside s.fitting

  module _ {l1 : List ℕ} {mid : ℕ} (p1 : mid ≡ at + length (num_bytes tag)) (o1 : l1 ≡ sets out at (num_bytes tag)) where
    module _ {c : Sets} (e : c ≡ get_sets l i) where
      pub sets-fit : mid + length (sets_bytes (sets_of c)) ≤ length l1
      sets-fit =
          omega (arith, long, s.fitting.fits, p1, ap length o1 ∙ length-sets out at (num_bytes tag), ap (λ (x : Sets). length (sets_bytes (sets_of x))) e)

      pub object_prefix_put : {l2 : List ℕ} {r : ℕ} → r ≡ mid + length (sets_bytes (sets_of c)) → l2 ≡ sets l1 mid (sets_bytes (sets_of c)) → Puts (prefix false) l i out l2 at r
      object_prefix_put {l2} {r} p2 o2 =
          let w1 : Wrote (num_bytes tag) out l1 at mid = record { past_is = p1; out-is = o1 } in
          let w2 : Wrote (sets_bytes (sets_of c)) l1 l2 mid r = record { past_is = p2; out-is = o2 } in
          record { means = λ top t x. as_wrote (ap (λ (y : Sets). num_bytes tag ++ sets_bytes (sets_of y)) e ∙ sym (split x)) (run w1 w2) }

-- ---- the prefix of any thing

module _ {l : List ℕ} {i : ℕ} {lead : Bool} {o : Node} (e : o ≡ get_node l i) (h : o.tag ≤ list_tag) where
  pub bare_fitting : {out : List ℕ} {at : ℕ} → lead ≡ false → Fitting (prefix lead) l i out at → FittingPrefix l i out at o.tag
  bare_fitting {out} {at} b s =
      let f : Fitting (prefix false) l i out at = rw (← b) s in
      record { fitting = f; tag_is = ap (λ (x : Node). x.tag) e; object = h }

  pub bare_put : {out out' : List ℕ} {at r : ℕ} → lead ≡ false → Puts (prefix false) l i out out' at r → Puts (prefix lead) l i out out' at r
  bare_put b w = rw b w

  module _ {out : List ℕ} {at : ℕ} (b : lead ≡ true) (s : Fitting (prefix lead) l i out at) where
    led_long : length (prefix lead s.thing) ≡ length (num_bytes 5) + length (prefix false s.thing)
    led_long =
        ap (λ (x : Bool). length (prefix x s.thing)) b ∙ ap length (led_prefix e h s.shown) ∙ length-append (num_bytes 5) (prefix false s.thing)

    pub led_fits : at + length (num_bytes 5) ≤ length out
    led_fits = omega (arith, led_long, s.fits)

    pub led_fitting : {l1 : List ℕ} {mid : ℕ} → mid ≡ at + length (num_bytes 5) → l1 ≡ sets out at (num_bytes 5) → FittingPrefix l i l1 mid o.tag
    led_fitting {l1} {mid} p1 o1 =
        record {
          fitting = record {
            top = s.top;
            thing = s.thing;
            shown = s.shown;
            inside = s.inside;
            small = s.small;
            fits = omega (arith, led_long, s.fits, p1, ap length o1 ∙ length-sets out at (num_bytes 5));
          };
          tag_is = ap (λ (x : Node). x.tag) e;
          object = h;
        }

  pub led_put : {out l1 l2 : List ℕ} {at mid r : ℕ} → lead ≡ true → mid ≡ at + length (num_bytes 5) → l1 ≡ sets out at (num_bytes 5)
      → Puts (prefix false) l i l1 l2 mid r → Puts (prefix lead) l i out l2 at r
  led_put {out} {l1} {l2} {at} {mid} {r} b p1 o1 w =
      let w1 : Wrote (num_bytes 5) out l1 at mid = record { past_is = p1; out-is = o1 } in
      rw b (record { means = λ top t x. as_wrote (sym (led_prefix e h x)) (run w1 (w.means top t x)) })

-- variable, application and function
module _ {l : List ℕ} {i : ℕ} (lead : Bool) {o : Node} (e : o ≡ get_node l i) (h : list_tag < o.tag) where
  low-prefix : {top : ℕ} {t : Tree} → o.tag < list_value_tag → Rep l top i t → prefix lead t ≡ num_bytes (o.tag - variable_tag)
  unfolding prefix
  low-prefix k (is-var a q) = ap (λ (n : ℕ). num_bytes (n - variable_tag)) (sym (tag_is e q))
  low-prefix k (is-app a q r) = ap (λ (n : ℕ). num_bytes (n - variable_tag)) (sym (tag_is e q))
  low-prefix k (is-fun a q y r) = ap (λ (n : ℕ). num_bytes (n - variable_tag)) (sym (tag_is e q))
  low-prefix k (is-datum {a = x} a q) = absurd (omega (arith, tag_is e q))
  low-prefix k (is-lst a q r) = absurd (omega (arith, tag_is e q))
  low-prefix k (is-atom {a = x} a q y) = absurd (omega (arith, tag_is e q, tag-low x))
  low-prefix k (is-list a q y r) = absurd (omega (arith, tag_is e q))

  lst-prefix : {top : ℕ} {t : Tree} → o.tag ≡ list_value_tag → Rep l top i t → prefix lead t ≡ num_bytes 4
  unfolding prefix
  lst-prefix k r = let p = lst-at r e k in ap (prefix lead) p.is

  datum-prefix : {top : ℕ} {t : Tree} → list_value_tag ≤ o.tag → ¬ (o.tag ≡ list_value_tag) → Rep l top i t → prefix lead t ≡ num_bytes 3 ++ num_bytes (o.tag - atom_value_tag)
  unfolding prefix
  datum-prefix k n (is-var a q) = absurd (omega (arith, tag_is e q))
  datum-prefix k n (is-app a q r) = absurd (omega (arith, tag_is e q))
  datum-prefix k n (is-fun a q y r) = absurd (omega (arith, tag_is e q))
  datum-prefix k n (is-datum {a = x} a q) =
      let z : tag_of x ≡ o.tag - atom_value_tag = omega (arith, tag_is e q) in
      ap (λ (y : ℕ). num_bytes 3 ++ num_bytes y) z
  datum-prefix k n (is-lst a q r) = absurd (n (tag_is e q))
  datum-prefix k n (is-atom {a = x} a q y) = absurd (omega (arith, tag_is e q, tag-low x))
  datum-prefix k n (is-list a q y r) = absurd (omega (arith, tag_is e q))

  pub low_fits : (out : List ℕ) {at : ℕ} → o.tag < list_value_tag → Fitting (prefix lead) l i out at → at + length (num_bytes (o.tag - variable_tag)) ≤ length out
  low_fits out k s = omega (arith, s.fits, ap length (low-prefix k s.shown))

  pub low_put : {out l1 : List ℕ} {at r : ℕ} → o.tag < list_value_tag → r ≡ at + length (num_bytes (o.tag - variable_tag)) → l1 ≡ sets out at (num_bytes (o.tag - variable_tag))
      → Puts (prefix lead) l i out l1 at r
  low_put k p1 o1 = record { means = λ top t x. as_wrote (sym (low-prefix k x)) (record { past_is = p1; out-is = o1 }) }

  pub lst-fits : (out : List ℕ) {at : ℕ} → o.tag ≡ list_value_tag → Fitting (prefix lead) l i out at → at + length (num_bytes 4) ≤ length out
  lst-fits out k s = omega (arith, s.fits, ap length (lst-prefix k s.shown))

  pub lst_put : {out l1 : List ℕ} {at r : ℕ} → o.tag ≡ list_value_tag → r ≡ at + length (num_bytes 4) → l1 ≡ sets out at (num_bytes 4) → Puts (prefix lead) l i out l1 at r
  lst_put k p1 o1 = record { means = λ top t x. as_wrote (sym (lst-prefix k x)) (record { past_is = p1; out-is = o1 }) }

  module _ (k : list_value_tag ≤ o.tag) (n : ¬ (o.tag ≡ list_value_tag)) where
    module _ {out : List ℕ} {at : ℕ} (s : Fitting (prefix lead) l i out at) where
      datum-long : length (prefix lead s.thing) ≡ length (num_bytes 3) + length (num_bytes (o.tag - atom_value_tag))
      datum-long = ap length (datum-prefix k n s.shown) ∙ length-append (num_bytes 3) (num_bytes (o.tag - atom_value_tag))

      pub atom-fits : at + length (num_bytes 3) ≤ length out
      atom-fits = omega (arith, s.fits, datum-long)

      pub datum-fits : {l1 : List ℕ} {mid : ℕ} → mid ≡ at + length (num_bytes 3) → l1 ≡ sets out at (num_bytes 3) → mid + length (num_bytes (o.tag - atom_value_tag)) ≤ length l1
      datum-fits {l1} {mid} p1 o1 = omega (arith, s.fits, datum-long, p1, ap length o1 ∙ length-sets out at (num_bytes 3))

    pub datum_put : {out l1 l2 : List ℕ} {at mid r : ℕ} → mid ≡ at + length (num_bytes 3) → l1 ≡ sets out at (num_bytes 3)
        → r ≡ mid + length (num_bytes (o.tag - atom_value_tag)) → l2 ≡ sets l1 mid (num_bytes (o.tag - atom_value_tag)) → Puts (prefix lead) l i out l2 at r
    datum_put {out} {l1} {l2} {at} {mid} {r} p1 o1 p2 o2 =
        let w1 : Wrote (num_bytes 3) out l1 at mid = record { past_is = p1; out-is = o1 } in
        let w2 : Wrote (num_bytes (o.tag - atom_value_tag)) l1 l2 mid r = record { past_is = p2; out-is = o2 } in
        record { means = λ top t x. as_wrote (sym (datum-prefix k n x)) (run w1 w2) }

pub atom-tag : {n : ℕ} → list_value_tag ≤ n → ¬ (n ≡ list_value_tag) → atom_value_tag ≤ n
atom-tag k n = omega arith

-- ---- prefix and number

pub prefix-fitting : {l : List ℕ} {i : ℕ} (lead : Bool) {out : List ℕ} {at : ℕ} → Fitting (front lead) l i out at → Fitting (prefix lead) l i out at
prefix-fitting lead s =
    record { top = s.top; thing = s.thing; shown = s.shown; inside = s.inside; small = s.small; fits = omega (arith, s.fits, front_long lead s.thing) }

module _ {l : List ℕ} {i : ℕ} (lead : Bool) {out l1 : List ℕ} {at mid k : ℕ} (w : Puts (prefix lead) l i out l1 at mid) (q : NumberIs l i k) where
  pub number_fits : Fitting (front lead) l i out at → mid + length (num_bytes k) ≤ length l1
  number_fits s =
      let v = w.means s.top s.thing s.shown in
      omega (arith, s.fits, front_long lead s.thing, v.past_is, same_length v, ap (λ (n : ℕ). length (num_bytes n)) (q.means s.top s.thing s.shown))

  pub front_put : {l2 : List ℕ} {r : ℕ} → r ≡ mid + length (num_bytes k) → l2 ≡ sets l1 mid (num_bytes k) → Puts (front lead) l i out l2 at r
  unfolding front
  front_put {l2} {r} p1 o1 =
      let v : Wrote (num_bytes k) l1 l2 mid r = record { past_is = p1; out-is = o1 } in
      record { means = λ top t x. run (w.means top t x) (as_wrote (ap num_bytes (q.means top t x)) v) }

-- ---- a thing

pub front-fitting : {l : List ℕ} {i : ℕ} (lead : Bool) {out : List ℕ} {at : ℕ} → Fitting (written lead) l i out at → Fitting (front lead) l i out at
front-fitting lead s =
    record { top = s.top; thing = s.thing; shown = s.shown; inside = s.inside; small = s.small; fits = omega (arith, s.fits, written-long lead s.thing) }

module _ {l : List ℕ} {i : ℕ} (lead : Bool) {out l1 : List ℕ} {at mid : ℕ} {o : Node} (e : o ≡ get_node l i) (w : Puts (front lead) l i out l1 at mid) where
  module _ (s : Fitting (written lead) l i out at) where
    -- there is room for the parts
    behind : (ps : List ℕ) → parts s.thing ≡ ps → mid + length ps ≤ length l1
    behind ps y =
        let v = w.means s.top s.thing s.shown in
        omega (arith, s.fits, written-long lead s.thing, v.past_is, same_length v, ap length y)

    pub list-fitting : o.tag ≡ list_tag → FittingP (written_all false) l o.content l1 mid
    list-fitting h =
        let p = list_at s.shown e h in
        record {
          top = s.top;
          thing = from_stxs p.parts;
          shown = p.shown;
          inside = s.inside;
          small = s.small;
          fits = behind (written_all false (from_stxs p.parts)) (ap parts p.is ∙ parts-list p.sets p.parts);
        }

    pub app-fitting : o.tag ≡ application_tag → FittingP (written_all true) l o.content l1 mid
    app-fitting h =
        let p = app-at s.shown e h in
        record {
          top = s.top;
          thing = tcons p.first p.others;
          shown = p.shown;
          inside = s.inside;
          small = s.small;
          fits = behind (written_all true (tcons p.first p.others)) (ap parts p.is ∙ parts-app p.first p.others);
        }

    pub lst-fitting : o.tag ≡ list_value_tag → FittingP (written_all true) l o.content l1 mid
    lst-fitting h =
        let p = lst-at s.shown e h in
        record {
          top = s.top;
          thing = p.parts;
          shown = p.shown;
          inside = s.inside;
          small = s.small;
          fits = behind (written_all true p.parts) (ap parts p.is ∙ parts-lst p.parts);
        }

    pub fun-fitting : {y : Body} → o.tag ≡ function_tag → y ≡ get_body l i → Fitting (written true) l y.at l1 mid
    fun-fitting h f =
        let p = fun-at s.shown e h f in
        record {
          top = s.top;
          thing = p.body;
          shown = p.shown;
          inside = s.inside;
          small = s.small;
          fits = behind (written true p.body) (ap parts p.is ∙ parts-fun o.content p.body);
        }

  -- the parts were put behind the front
  whole : {l2 : List ℕ} {r top : ℕ} {t : Tree} (ps : List ℕ) → Rep l top i t → parts t ≡ ps → Wrote ps l1 l2 mid r → Wrote (written lead t) out l2 at r
  unfolding written
  whole {top = top} {t = t} ps x y v = run (w.means top t x) (as_wrote (sym y) v)

  pub list_puts : {l2 : List ℕ} {r : ℕ} → o.tag ≡ list_tag → PutsP (written_all false) l o.content l1 l2 mid r → Puts (written lead) l i out l2 at r
  list_puts h q =
      record {
        means = λ top t x.
            let p = list_at x e h in
            whole (written_all false (from_stxs p.parts)) x (ap parts p.is ∙ parts-list p.sets p.parts) (q.means top (from_stxs p.parts) p.shown);
      }

  pub app-puts : {l2 : List ℕ} {r : ℕ} → o.tag ≡ application_tag → PutsP (written_all true) l o.content l1 l2 mid r → Puts (written lead) l i out l2 at r
  app-puts h q =
      record {
        means = λ top t x.
            let p = app-at x e h in
            whole (written_all true (tcons p.first p.others)) x (ap parts p.is ∙ parts-app p.first p.others) (q.means top (tcons p.first p.others) p.shown);
      }

  pub lst-puts : {l2 : List ℕ} {r : ℕ} → o.tag ≡ list_value_tag → PutsP (written_all true) l o.content l1 l2 mid r → Puts (written lead) l i out l2 at r
  lst-puts h q =
      record {
        means = λ top t x.
            let p = lst-at x e h in
            whole (written_all true p.parts) x (ap parts p.is ∙ parts-lst p.parts) (q.means top p.parts p.shown);
      }

  pub fun-puts : {l2 : List ℕ} {r : ℕ} {y : Body} → o.tag ≡ function_tag → y ≡ get_body l i → Puts (written true) l y.at l1 l2 mid r → Puts (written lead) l i out l2 at r
  fun-puts h f q =
      record {
        means = λ top t x.
            let p = fun-at x e h f in
            whole (written true p.body) x (ap parts p.is ∙ parts-fun o.content p.body) (q.means top p.body p.shown);
      }

  pub plain-puts : ¬ (o.tag ≡ list_tag) → ¬ (o.tag ≡ application_tag) → ¬ (o.tag ≡ list_value_tag) → ¬ (o.tag ≡ function_tag) → Puts (written lead) l i out l1 at mid
  plain-puts n5 n7 n9 n8 =
      let z : Wrote [] l1 l1 mid mid = record { past_is = omega arith; out-is = refl } in
      record { means = λ top t x. whole [] x (no-parts e n5 n7 n9 n8 x) z }

-- ---- a chain: what is left of it is to be put from a place on

pub record Unput (lead : Bool) (l : List ℕ) (out₀ : List ℕ) (at top place : ℕ) (out : List ℕ) (here : ℕ) (ts : Trees) : Type 0 where
  pub others : Trees
  pub shown : RepP l top place others
  pub past_is : here + length (written_all lead others) ≡ at + length (written_all lead ts)
  pub out-is : sets out here (written_all lead others) ≡ sets out₀ at (written_all lead ts)

pub record Put (lead : Bool) (l : List ℕ) (c : ℕ) (out₀ : List ℕ) (at place : ℕ) (out : List ℕ) (here : ℕ) : Type 0 where
  pub ready : FittingP (written_all lead) l place out here
  pub same : length out ≡ length out₀
  pub so_far : place ≤ c
  pub left : (top : ℕ) (ts : Trees) → RepP l top c ts → Unput lead l out₀ at top place out here ts

pub put_start : {l : List ℕ} {c : ℕ} {out : List ℕ} {at : ℕ} (lead : Bool) → FittingP (written_all lead) l c out at → Put lead l c out at c out at
put_start lead s = record { ready = s; same = refl; so_far = omega arith; left = λ top ts r. record { others = ts; shown = r; past_is = refl; out-is = refl } }

module _ {l : List ℕ} {c : ℕ} {out₀ : List ℕ} {at place : ℕ} {out : List ℕ} {here : ℕ} (lead : Bool) (w : Put lead l c out₀ at place out here) where
  pub put_same : length out ≡ length out₀
  put_same = w.same

  pub put_done : place ≡ 0 → PutsP (written_all lead) l c out₀ out at here
  put_done h =
      record {
        means = λ top ts r.
            let k = w.left top ts r in
            let z : written_all lead k.others ≡ [] = ap (written_all lead) (none-at k.shown h) ∙ all_none lead in
            record {
              past_is = omega (arith, k.past_is, ap length z);
              out-is = ap (λ (bs : List ℕ). sets out here bs) (sym z) ∙ k.out-is;
            };
      }

  module _ (h : ¬ (place ≡ 0)) where
    pub part-inside : place + cell_size ≤ length l
    part-inside = let p = part_at w.ready.shown h refl in omega (arith, p.cell.inside, w.ready.inside)

    module _ {x : Cell} (e : x ≡ get_cell l place) where
      part : PartAt l w.ready.top place x w.ready.thing
      part = part_at w.ready.shown h e

      whole_long : length (written_all lead w.ready.thing) ≡ length (written lead part.first) + length (written_all lead part.others)
      whole_long = ap (λ (y : Trees). length (written_all lead y)) part.is ∙ all-long lead part.first part.others

      pub head-fitting : Fitting (written lead) l x.head out here
      head-fitting =
          record {
            top = w.ready.top;
            thing = part.first;
            shown = part.cell.shown;
            inside = w.ready.inside;
            small = w.ready.small;
            fits = omega (arith, w.ready.fits, whole_long);
          }

      pub head_less : {t : ℕ} → c * 2 ≡ t → x.head * 2 + 1 < t
      head_less z = omega (arith, part.cell.low.0, w.so_far)

      pub tail_less : x.tail < place
      tail_less = part.cell.low.1

      pub put_more : {out' : List ℕ} {here' : ℕ} → Puts (written lead) l x.head out out' here here' → Put lead l c out₀ at x.tail out' here'
      unfolding written_all
      put_more {out'} {here'} q =
          let v = q.means w.ready.top part.first part.cell.shown in
          record {
            ready = record {
              top = w.ready.top;
              thing = part.others;
              shown = part.cell.shown-others;
              inside = w.ready.inside;
              small = w.ready.small;
              fits = omega (arith, w.ready.fits, whole_long, v.past_is, same_length v);
            };
            same = same_length v ∙ w.same;
            so_far = omega (arith, part.cell.low.1, w.so_far);
            left = λ top ts r.
                let k = w.left top ts r in
                let p = part_at k.shown h e in
                let u = q.means top p.first p.cell.shown in
                let rest : Wrote (written_all lead p.others) out' (sets out' here' (written_all lead p.others)) here' (here' + length (written_all lead p.others)) =
                record { past_is = refl; out-is = refl } in
                let b = as_wrote (ap (written_all lead) (sym p.is)) (run u rest) in
                record {
                  others = p.others;
                  shown = p.cell.shown-others;
                  past_is = b.past_is ∙ k.past_is;
                  out-is = b.out-is ∙ k.out-is;
                };
          }

-- ---- by the definitions' names

pub object-fitting : {l : List ℕ} {i : ℕ} {out : List ℕ} {at : ℕ} → FittingObject stx_bytes l i out at → Fitting (written false) l i out at
object-fitting s =
    record { top = s.top; thing = stx s.thing; shown = s.shown; inside = s.inside; small = s.small; fits = omega (arith, s.fits, ap length (written-stx s.thing)) }

pub object-puts : {l : List ℕ} {i : ℕ} {out out' : List ℕ} {at r : ℕ} → Puts (written false) l i out out' at r → PutsObject stx_bytes l i out out' at r
object-puts q = record { means = λ top x r. as_wrote (written-stx x) (q.means top (stx x) r) }

pub tree-fitting : {l : List ℕ} {i : ℕ} {out : List ℕ} {at : ℕ} → Fitting tree_bytes l i out at → Fitting (written true) l i out at
tree-fitting s =
    record { top = s.top; thing = s.thing; shown = s.shown; inside = s.inside; small = s.small; fits = omega (arith, s.fits, ap length (written-tree s.thing)) }

pub tree-puts : {l : List ℕ} {i : ℕ} {out out' : List ℕ} {at r : ℕ} → Puts (written true) l i out out' at r → Puts tree_bytes l i out out' at r
tree-puts q = record { means = λ top t r. as_wrote (written-tree t) (q.means top t r) }

pub ruleset fronts = (fitting-seen, fitting-inside, tag_fits, object-inside, sets-fit, object_prefix_put, bare_fitting, bare_put, led_fits, led_fitting, led_put, low_fits, low_put, lst-fits, lst_put, atom-fits, datum-fits, datum_put, atom-tag, prefix-fitting, number_fits, front_put)

pub ruleset laws = (fitting-seen, fitting-inside, front-fitting, list-fitting, app-fitting, lst-fitting, fun-fitting, list_puts, app-puts, lst-puts, fun-puts, plain-puts, list_less, app_less, lst_less, fun_less, object-fitting, object-puts, tree-fitting, tree-puts)

pub ruleset chain_laws = (put_start, put_same, put_done, part-inside, head-fitting, head_less, tail_less, put_more)
