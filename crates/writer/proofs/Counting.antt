-- Counting: one law for each way out.
use mathlib.Core.Path.{◌≡◌, refl, sym, ap, ◌∙◌}
use mathlib.Core.Bool.{Bool, true, false}
use mathlib.Core.List.{List, []}
use Prim.Native.Nat.{ℕ, suc, ◌+◌, ◌*◌, ◌≤◌, ◌<◌, ◌^◌, min}
use native.Mathlib.Omega.{arith}
use lib.ListN.{length}
use Rattle.numbers.specs.Limits.{most_image}
use Rattle.sets.specs.Writing.{longest_sets}
use Rattle.model.specs.Objects.{list}
use Rattle.model.specs.Trees.{Tree, Trees, app, lst, stx, tnil, tcons, tcount, from_stxs}
use Rattle.model.specs.Writing.{num_bytes, groups_of, sets_bytes, stx_bytes, tree_bytes}
use Rattle.numbers.proofs.Writing.{num-short}
use Rattle.table.specs.Tags.{list_tag, application_tag, function_tag, list_value_tag, atom_value_tag}
use Rattle.table.specs.Words.{get_node, get_sets, get_body, get_cell}
use Rattle.table.specs.declared.Node.{Node}
use Rattle.table.specs.declared.Sets.{Sets}
use Rattle.table.specs.declared.Body.{Body}
use Rattle.table.specs.declared.Cell.{Cell}
use Rattle.things.specs.Rep.{Rep, RepP, is-var, is-app, is-fun, is-lst, is-datum, is-atom, is-list, sets_of}
use Rattle.things.specs.Measuring.{Seen, SeenP}
use Rattle.things.proofs.ByTag.{tag-low, tag_is, content-is, app-at, fun-at, lst-at, list_at, PartAt, part_at, none-at}
use Rattle.things.proofs.Measuring.{node-inside, stx-seen, app-seen, lst-seen}
use Rattle.writer.specs.Bytes.{leading, prefix, number, number_stx, front, parts, parts_stx, written, written_all}
use Rattle.writer.specs.Counting.{PartsAre, NumberIs, LengthIs, Countable, CountableP, Counts, CountsP, CountsObject, longest_prefix, longest_front}
use Rattle.writer.proofs.Bytes.{written-stx, written-tree, count-from, prefix-atom, prefix-list, prefix-datum, leading-yes, leading-no, front_long, written-long, all_none, all-long, parts-list, parts-app, parts-lst, parts-fun}
use Rattle.table.specs.Sizes.{cell_size}

-- ---- how many parts: the walk along a chain

pub record Left (l : List ℕ) (top place n : ℕ) (ts : Trees) : Type 0 where
  pub others : Trees
  pub shown : RepP l top place others
  pub sum : n + tcount others ≡ tcount ts

pub record Walk (l : List ℕ) (c place n : ℕ) : Type 0 where
  pub seen : SeenP l place
  pub so_far : n + place ≤ c
  pub left : (top : ℕ) (ts : Trees) → RepP l top c ts → Left l top place n ts

pub walk_start : {l : List ℕ} {c : ℕ} → SeenP l c → Walk l c c 0
walk_start s = record { seen = s; so_far = omega arith; left = λ top ts r. record { others = ts; shown = r; sum = omega arith } }

tcount-cons : (t : Tree) (ts : Trees) → tcount (tcons t ts) ≡ suc (tcount ts)
unfolding tcount
tcount-cons t ts = refl

tcount-none : tcount tnil ≡ 0
unfolding tcount
tcount-none = refl

module _ {l : List ℕ} {c place n : ℕ} (w : Walk l c place n) where
  module _ (h : ¬ (place ≡ 0)) where
    pub walk_inside : place + cell_size ≤ length l
    walk_inside = let p = part_at w.seen.shown h refl in omega (arith, p.cell.inside, w.seen.inside)

    module _ {x : Cell} (e : x ≡ get_cell l place) where
      pub walk_less : x.tail < place
      walk_less = (part_at w.seen.shown h e).cell.low.1

      pub walk_more : Walk l c x.tail (n + 1)
      walk_more =
          let p = part_at w.seen.shown h e in
          record {
            seen = record { top = w.seen.top; thing = p.others; shown = p.cell.shown-others; inside = w.seen.inside; small = w.seen.small };
            so_far = omega (arith, w.so_far, p.cell.low.1);
            left = λ top ts r.
                let k = w.left top ts r in
                let q = part_at k.shown h e in
                record { others = q.others; shown = q.cell.shown-others; sum = omega (arith, k.sum, ap tcount q.is, tcount-cons q.first q.others) };
          }

  pub walk_fits : c < 2 ^ 32 → ¬ (place ≡ 0) → n + 1 < 2 ^ 32
  walk_fits f h = omega (arith, w.so_far)

  pub walk_done : place ≡ 0 → PartsAre l c n
  walk_done h =
      record { means = λ top ts r. let k = w.left top ts r in omega (arith, k.sum, ap tcount (none-at k.shown h), tcount-none) }

-- ---- the number

module _ {l : List ℕ} {i : ℕ} {o : Node} (e : o ≡ get_node l i) where
  pub stx-number : {r : ℕ} → o.tag ≡ list_tag → PartsAre l o.content r → NumberIs l i r
  unfolding number number_stx
  stx-number {r} h q =
      record {
        means = λ top t x.
            let p = list_at x e h in
            let w : r ≡ number (stx (list p.sets p.parts)) = q.means top (from_stxs p.parts) p.shown ∙ count-from p.parts in
            w ∙ ap number (sym p.is);
      }

  pub app-number : {r : ℕ} → o.tag ≡ application_tag → PartsAre l o.content r → NumberIs l i r
  unfolding number tcount
  app-number {r} h q =
      record {
        means = λ top t x.
            let p = app-at x e h in
            let w : r ≡ number (app p.first p.others) = q.means top (tcons p.first p.others) p.shown in
            w ∙ ap number (sym p.is);
      }

  pub lst-number : {r : ℕ} → o.tag ≡ list_value_tag → PartsAre l o.content r → NumberIs l i r
  unfolding number
  lst-number {r} h q =
      record {
        means = λ top t x.
            let p = lst-at x e h in
            let w : r ≡ number (lst p.parts) = q.means top p.parts p.shown in
            w ∙ ap number (sym p.is);
      }

  module _ (n5 : ¬ (o.tag ≡ list_tag)) (n7 : ¬ (o.tag ≡ application_tag)) (n9 : ¬ (o.tag ≡ list_value_tag)) where
    own_is : {top : ℕ} {t : Tree} → Rep l top i t → o.content ≡ number t
    unfolding number number_stx
    own_is (is-var a q) = content-is e q
    own_is (is-app a q r) = absurd (n7 (tag_is e q))
    own_is (is-fun a q y r) = content-is e q
    own_is (is-datum a q) = content-is e q
    own_is (is-lst a q r) = absurd (n9 (tag_is e q))
    own_is (is-atom a q y) = content-is e q
    own_is (is-list a q y r) = absurd (n5 (tag_is e q))

    pub own_number : NumberIs l i o.content
    own_number = record { means = λ top t r. own_is r }

-- ---- the prefix

pub sets-counted : (l : List ℕ) (i : ℕ) {n : ℕ} {c : Sets} → c ≡ get_sets l i → n ≡ length (sets_bytes (sets_of c)) → n ≡ length (sets_bytes (sets_of (get_sets l i)))
sets-counted l i e f = rw (← e) f

module _ {l : List ℕ} {i : ℕ} {o : Node} (e : o ≡ get_node l i) where
  object-prefix : (lead : Bool) {top : ℕ} {t : Tree} → o.tag ≤ list_tag → Rep l top i t → length (prefix lead t) ≡ length (leading lead) + 1 + length (sets_bytes (sets_of (get_sets l i)))
  object-prefix lead h (is-var a q) = absurd (omega (arith, tag_is e q))
  object-prefix lead h (is-app a q r) = absurd (omega (arith, tag_is e q))
  object-prefix lead h (is-fun a q y r) = absurd (omega (arith, tag_is e q))
  object-prefix lead h (is-datum {a = x} a q) = absurd (omega (arith, tag_is e q))
  object-prefix lead h (is-lst a q r) = absurd (omega (arith, tag_is e q))
  object-prefix lead h (is-atom {s = s} {a = x} a q y) = rw y (prefix-atom lead s x)
  object-prefix lead h (is-list {s = s} {ps = ps} a q y r) = rw y (prefix-list lead s ps)

  pub led_prefix : {lead : Bool} {n : ℕ} → o.tag ≤ list_tag → lead ≡ true → n ≡ length (sets_bytes (sets_of (get_sets l i))) → n ≤ longest_sets → LengthIs (prefix lead) longest_prefix l i (n + 2)
  led_prefix {lead} h b q s = record { means = λ top t r. omega (arith, object-prefix lead h r, leading-yes b); short = omega arith }

  pub bare_prefix : {lead : Bool} {n : ℕ} → o.tag ≤ list_tag → lead ≡ false → n ≡ length (sets_bytes (sets_of (get_sets l i))) → n ≤ longest_sets → LengthIs (prefix lead) longest_prefix l i (n + 1)
  bare_prefix {lead} h b q s = record { means = λ top t r. omega (arith, object-prefix lead h r, leading-no b); short = omega arith }

  tree-prefix : (lead : Bool) {top : ℕ} {t : Tree} → list_tag < o.tag → o.tag < atom_value_tag → Rep l top i t → 1 ≡ length (prefix lead t)
  unfolding prefix num_bytes groups_of
  tree-prefix lead h k (is-var a q) = refl
  tree-prefix lead h k (is-app a q r) = refl
  tree-prefix lead h k (is-fun a q y r) = refl
  tree-prefix lead h k (is-datum {a = x} a q) = absurd (omega (arith, tag_is e q))
  tree-prefix lead h k (is-lst a q r) = refl
  tree-prefix lead h k (is-atom {a = x} a q y) = absurd (omega (arith, tag_is e q, tag-low x))
  tree-prefix lead h k (is-list a q y r) = absurd (omega (arith, tag_is e q))

  pub one-prefix : (lead : Bool) → list_tag < o.tag → o.tag < atom_value_tag → LengthIs (prefix lead) longest_prefix l i 1
  one-prefix lead h k = record { means = λ top t r. tree-prefix lead h k r; short = omega arith }

  datum-prefix : (lead : Bool) {top : ℕ} {t : Tree} → atom_value_tag ≤ o.tag → Rep l top i t → 2 ≡ length (prefix lead t)
  datum-prefix lead h (is-var a q) = absurd (omega (arith, tag_is e q))
  datum-prefix lead h (is-app a q r) = absurd (omega (arith, tag_is e q))
  datum-prefix lead h (is-fun a q y r) = absurd (omega (arith, tag_is e q))
  datum-prefix lead h (is-datum {a = x} a q) = sym (prefix-datum lead x)
  datum-prefix lead h (is-lst a q r) = absurd (omega (arith, tag_is e q))
  datum-prefix lead h (is-atom {a = x} a q y) = absurd (omega (arith, tag_is e q, tag-low x))
  datum-prefix lead h (is-list a q y r) = absurd (omega (arith, tag_is e q))

  pub two-prefix : (lead : Bool) → atom_value_tag ≤ o.tag → LengthIs (prefix lead) longest_prefix l i 2
  two-prefix lead h = record { means = λ top t r. datum-prefix lead h r; short = omega arith }

-- ---- prefix and number

module _ {l : List ℕ} {i : ℕ} (lead : Bool) {a b : ℕ} (k : ℕ) (p : LengthIs (prefix lead) longest_prefix l i a) (f : b ≡ length (num_bytes k)) where
  pub front_fits : a + b < 2 ^ 64
  front_fits = omega (arith, p.short, num-short k)

  pub front-counted : NumberIs l i k → LengthIs (front lead) longest_front l i (a + b)
  front-counted q =
      record {
        means = λ top t r. omega (arith, p.means top t r, front_long lead t, f, ap (λ (n : ℕ). length (num_bytes n)) (q.means top t r));
        short = omega (arith, p.short, num-short k);
      }

pub front-short : {l : List ℕ} {i : ℕ} (lead : Bool) {a : ℕ} → LengthIs (front lead) longest_front l i a → a ≤ most_image
front-short lead p = omega (arith, p.short)

-- ---- a thing

pub no-parts : {l : List ℕ} {top i : ℕ} {t : Tree} {o : Node} → o ≡ get_node l i → ¬ (o.tag ≡ list_tag) → ¬ (o.tag ≡ application_tag) → ¬ (o.tag ≡ list_value_tag)
    → ¬ (o.tag ≡ function_tag) → Rep l top i t → parts t ≡ []
unfolding parts parts_stx
no-parts e n5 n7 n9 n8 (is-var a q) = refl
no-parts e n5 n7 n9 n8 (is-app a q r) = absurd (n7 (tag_is e q))
no-parts e n5 n7 n9 n8 (is-fun a q y r) = absurd (n8 (tag_is e q))
no-parts e n5 n7 n9 n8 (is-datum a q) = refl
no-parts e n5 n7 n9 n8 (is-lst a q r) = absurd (n9 (tag_is e q))
no-parts e n5 n7 n9 n8 (is-atom a q y) = refl
no-parts e n5 n7 n9 n8 (is-list a q y r) = absurd (n5 (tag_is e q))

module _ {l : List ℕ} {i n m cap : ℕ} (k : ℕ) {o : Node} (e : o ≡ get_node l i) (s : Countable l i n cap) (z : m ≡ min (cap + 1) (n + k)) where
  pub list_countable : o.tag ≡ list_tag → CountableP l o.content m cap
  list_countable h = record { seen = stx-seen e s.seen h; so_far = omega arith; most = s.most }

  pub app_countable : o.tag ≡ application_tag → CountableP l o.content m cap
  app_countable h = record { seen = app-seen e s.seen h; so_far = omega arith; most = s.most }

  pub lst_countable : o.tag ≡ list_value_tag → CountableP l o.content m cap
  lst_countable h = record { seen = lst-seen e s.seen h; so_far = omega arith; most = s.most }

  pub fun_countable : {y : Body} → o.tag ≡ function_tag → y ≡ get_body l i → Countable l y.at m cap
  fun_countable h f =
      let p = fun-at s.seen.shown e h f in
      record { seen = record { top = s.seen.top; thing = p.body; shown = p.shown; inside = s.seen.inside; small = s.seen.small }; so_far = omega arith; most = s.most }

  module _ (lead : Bool) (f : LengthIs (front lead) longest_front l i k) where
    -- the parts are counted behind the front
    behind : {top r : ℕ} {t : Tree} (ps : List ℕ) → Rep l top i t → parts t ≡ ps → r ≡ min (cap + 1) (m + length ps) → r ≡ min (cap + 1) (n + length (written lead t))
    behind {top} {r} {t} ps x y w = omega (arith, z, f.means top t x, written-long lead t, ap length y)

    pub list_counts : {r : ℕ} → o.tag ≡ list_tag → CountsP (written_all false) l o.content m cap r → Counts (written lead) l i n cap r
    list_counts h q =
        record {
          means = λ top t x.
              let p = list_at x e h in
              behind (written_all false (from_stxs p.parts)) x (ap parts p.is ∙ parts-list p.sets p.parts) (q.means top (from_stxs p.parts) p.shown);
        }

    pub app-counts : {r : ℕ} → o.tag ≡ application_tag → CountsP (written_all true) l o.content m cap r → Counts (written lead) l i n cap r
    app-counts h q =
        record {
          means = λ top t x.
              let p = app-at x e h in
              behind (written_all true (tcons p.first p.others)) x (ap parts p.is ∙ parts-app p.first p.others) (q.means top (tcons p.first p.others) p.shown);
        }

    pub lst-counts : {r : ℕ} → o.tag ≡ list_value_tag → CountsP (written_all true) l o.content m cap r → Counts (written lead) l i n cap r
    lst-counts h q =
        record {
          means = λ top t x.
              let p = lst-at x e h in
              behind (written_all true p.parts) x (ap parts p.is ∙ parts-lst p.parts) (q.means top p.parts p.shown);
        }

    pub fun-counts : {r : ℕ} {y : Body} → o.tag ≡ function_tag → y ≡ get_body l i → Counts (written true) l y.at m cap r → Counts (written lead) l i n cap r
    fun-counts h g q =
        record {
          means = λ top t x.
              let p = fun-at x e h g in
              behind (written true p.body) x (ap parts p.is ∙ parts-fun o.content p.body) (q.means top p.body p.shown);
        }

    module _ (n5 : ¬ (o.tag ≡ list_tag)) (n7 : ¬ (o.tag ≡ application_tag)) (n9 : ¬ (o.tag ≡ list_value_tag)) (n8 : ¬ (o.tag ≡ function_tag)) where
      pub plain-counts : Counts (written lead) l i n cap m
      plain-counts = record { means = λ top t x. behind [] x (no-parts e n5 n7 n9 n8 x) (omega (arith, z)) }

-- ---- a chain: m bytes are counted up to a place of it

pub record Uncounted (lead : Bool) (l : List ℕ) (n cap top place m : ℕ) (ts : Trees) : Type 0 where
  pub others : Trees
  pub shown : RepP l top place others
  pub sum : min (cap + 1) (m + length (written_all lead others)) ≡ min (cap + 1) (n + length (written_all lead ts))

pub record Count (lead : Bool) (l : List ℕ) (c n cap place m : ℕ) : Type 0 where
  pub ready : CountableP l place m cap
  pub so_far : place ≤ c
  pub left : (top : ℕ) (ts : Trees) → RepP l top c ts → Uncounted lead l n cap top place m ts

pub count-start : {l : List ℕ} {c n cap : ℕ} (lead : Bool) → CountableP l c n cap → Count lead l c n cap c n
count-start lead s = record { ready = s; so_far = omega arith; left = λ top ts r. record { others = ts; shown = r; sum = refl } }

module _ {l : List ℕ} {c n cap place m : ℕ} (lead : Bool) (w : Count lead l c n cap place m) where
  pub count-over : cap < m → CountsP (written_all lead) l c n cap m
  count-over h = record { means = λ top ts r. let k = w.left top ts r in omega (arith, w.ready.so_far, k.sum) }

  pub count-done : place ≡ 0 → CountsP (written_all lead) l c n cap m
  count-done h =
      record {
        means = λ top ts r.
            let k = w.left top ts r in
            omega (arith, w.ready.so_far, k.sum, ap (λ (x : Trees). length (written_all lead x)) (none-at k.shown h), ap length (all_none lead));
      }

  module _ (h : ¬ (place ≡ 0)) where
    pub part-inside : place + cell_size ≤ length l
    part-inside = let p = part_at w.ready.seen.shown h refl in omega (arith, p.cell.inside, w.ready.seen.inside)

    module _ {x : Cell} (e : x ≡ get_cell l place) where
      part : PartAt l w.ready.seen.top place x w.ready.seen.thing
      part = part_at w.ready.seen.shown h e

      pub head_countable : Countable l x.head m cap
      head_countable =
          record {
            seen = record { top = w.ready.seen.top; thing = part.first; shown = part.cell.shown; inside = w.ready.seen.inside; small = w.ready.seen.small };
            so_far = w.ready.so_far;
            most = w.ready.most;
          }

      pub head_less : {t : ℕ} → c * 2 ≡ t → x.head * 2 + 1 < t
      head_less z = omega (arith, part.cell.low.0, w.so_far)

      pub tail_less : x.tail < place
      tail_less = part.cell.low.1

      pub count-more : {m' : ℕ} → Counts (written lead) l x.head m cap m' → Count lead l c n cap x.tail m'
      count-more q =
          record {
            ready = record {
              seen = record { top = w.ready.seen.top; thing = part.others; shown = part.cell.shown-others; inside = w.ready.seen.inside; small = w.ready.seen.small };
              so_far = omega (arith, q.means w.ready.seen.top part.first part.cell.shown);
              most = w.ready.most;
            };
            so_far = omega (arith, part.cell.low.1, w.so_far);
            left = λ top ts r.
                let k = w.left top ts r in
                let p = part_at k.shown h e in
                record {
                  others = p.others;
                  shown = p.cell.shown-others;
                  sum = omega (
                    arith,
                    k.sum,
                    q.means top p.first p.cell.shown,
                    ap (λ (y : Trees). length (written_all lead y)) p.is,
                    all-long lead p.first p.others,
                  );
                };
          }

-- ---- what is called lies lower

module _ {l : List ℕ} {i t : ℕ} {o : Node} (e : o ≡ get_node l i) (s : Seen l i) (z : i * 2 + 1 ≡ t) where
  pub list_less : o.tag ≡ list_tag → o.content * 2 < t
  list_less h = omega (arith, (list_at s.shown e h).low)

  pub app_less : o.tag ≡ application_tag → o.content * 2 < t
  app_less h = omega (arith, (app-at s.shown e h).low)

  pub lst_less : o.tag ≡ list_value_tag → o.content * 2 < t
  lst_less h = omega (arith, (lst-at s.shown e h).low)

  pub fun_less : {y : Body} → o.tag ≡ function_tag → y ≡ get_body l i → y.at * 2 + 1 < t
  fun_less h f = omega (arith, (fun-at s.shown e h f).low)

-- ---- by the definitions' names

pub object-counts : {l : List ℕ} {i n cap r : ℕ} → Counts (written false) l i n cap r → CountsObject stx_bytes l i n cap r
object-counts q = record { means = λ top x r. omega (arith, q.means top (stx x) r, ap length (written-stx x)) }

pub tree-counts : {l : List ℕ} {i n cap r : ℕ} → Counts (written true) l i n cap r → Counts tree_bytes l i n cap r
tree-counts q = record { means = λ top t r. omega (arith, q.means top t r, ap length (written-tree t)) }

pub ruleset walking = (walk_start, walk_inside, walk_less, walk_more, walk_fits, walk_done)

pub ruleset laws = (node-inside, stx-seen, app-seen, lst-seen, stx-number, app-number, lst-number, own_number, sets-counted, led_prefix, bare_prefix, one-prefix, two-prefix, front_fits, front-counted, front-short, list_countable, app_countable, lst_countable, fun_countable, list_counts, app-counts, lst-counts, fun-counts, plain-counts, list_less, app_less, lst_less, fun_less, object-counts, tree-counts)

pub ruleset chain_laws = (count-start, count-over, count-done, part-inside, head_countable, head_less, tail_less, count-more)
