-- A place found: the tree that holds it is among the trees from here on, and is entered or passed over.
use Prim.Native.Nat.{ℕ, zero, suc, ◌+◌, ◌-◌, ◌≤◌, ◌<◌}
use mathlib.Core.Path.{◌≡◌, refl, sym, ap, ◌∙◌, subst}
use mathlib.Core.Bool.{Bool, true, false}
use mathlib.Core.List.{List, [], ◌∷◌, ◌++◌, append_assoc, append-nil}
use native.Mathlib.Omega.{arith}
use lib.Dec.{ltb}
use lib.ListN.{length, drop, length-drop, length-append}
use lib.Seq.{drop-drop, drop_at}
use borrow.Author.Tests.{lt-ltb, le-ltb}
use Rattle.model.specs.Choice.{when◌then◌else◌}
use Rattle.model.specs.Limits.{most_nesting}
use Rattle.model.specs.Trees as m
use Rattle.model.specs.Trees.{var, app, fun, datum, lst, stx, Trees, tnil, tcons, tcount, tsize, tsize_by, tsizes_by, tnesting, tnestings}
use Rattle.model.specs.Writing.{num_bytes, tree_bytes, trees_bytes}
use Rattle.codec_laws.proofs.NumberTrip.{fault≢got, got-value, got-rest}
use Rattle.requests.specs.Uses as u
use Rattle.requests.specs.Uses.{things}
use Rattle.requests.specs.Replacing as q
use Rattle.requests.specs.Replacing.{spot, spot_among, spot_in, replaced, replaced_among}
use Rattle.requests.proofs.Uses.{tsizes, size-things}
use Rattle.refusals.specs.declared.Refusal.{Refusal}
use Rattle.refusals.specs.Refusing.{refusal_of}
use Rattle.numbers.specs.declared.Cursor.{Cursor}
use Rattle.numbers.proofs.Answering.{Took, took, refused, read_shape}
use Rattle.numbers.specs.Answers.{read_at}
use Rattle.std.specs.Prelude.{Result, Ok, Err}
use Rattle.head.specs.declared.Counts.{Counts}
use Rattle.places.specs.declared.Thing.{Thing}
use Rattle.places.specs.declared.Span.{Span}
use Rattle.places.specs.Reading.{read_thing, thing_of, along}
use Rattle.places.specs.Standing.{At, Tree, Passes}
use Rattle.places.proofs.Things.{thing_tail}
use Rattle.places.proofs.Standing.{front, front_bytes, parts, bytes_parted, size_parted, AllAt, thing-read, parts_at, first-at, others-at}
use Rattle.places.proofs.Along.{step, tree-along}
use Rattle.replacing.specs.Locating.{lowest, Inside, Found, Locates}

-- ---- a tree entered: its parts hold the place

size-some : (t : m.Tree) → 1 ≤ tsize t
size-some t = omega (arith, size_parted t)

parts-levels : (t : m.Tree) (n : ℕ) → tnesting t ≤ n → 1 < tsize t → tnestings (parts t) + 1 ≤ n
unfolding tnesting tnestings parts tsize tsize_by
parts-levels (var x) n h k = absurd (omega arith)
parts-levels (app g l) n h k = omega arith
parts-levels (fun x b) n h k = omega arith
parts-levels (datum a) n h k = absurd (omega arith)
parts-levels (lst l) n h k = omega arith
parts-levels (stx s) n h k = absurd (omega arith)

enter_spot : (levels low : ℕ) (t : m.Tree) (p : ℕ) → suc p < tsize t → spot levels low t (suc p) ≡ spot_among (levels - 1) (lowest (front t)) (parts t) p
unfolding spot spot_among lowest front parts tsize tsize_by
enter_spot levels low (var n) p h = absurd (omega arith)
enter_spot levels low (app g l) p h = refl
enter_spot levels low (fun n b) p h = rw (lt-ltb p (tsize b) (omega arith)) refl
enter_spot levels low (datum a) p h = absurd (omega arith)
enter_spot levels low (lst l) p h = refl
enter_spot levels low (stx s) p h = absurd (omega arith)

same_count : (u : m.Tree) (l : Trees) (p : ℕ) → tcount (replaced_among u l p) ≡ tcount l
unfolding replaced_among tcount
same_count u tnil p = refl
same_count u (tcons t l) p = go (ltb p (tsize t)) (same_count u l (p - tsize t))
  where
    go : (b : Bool) → tcount (replaced_among u l (p - tsize t)) ≡ tcount l → tcount (when b then tcons (replaced u t p) l else tcons t (replaced_among u l (p - tsize t))) ≡ suc (tcount l)
    go true e = refl
    go false e = ap suc e

enter_bytes : (u t : m.Tree) (p : ℕ) → suc p < tsize t → tree_bytes (replaced u t (suc p)) ≡ front_bytes t ++ trees_bytes (replaced_among u (parts t) p)
unfolding replaced replaced_among parts front_bytes tree_bytes trees_bytes tsize tsize_by
enter_bytes u (var n) p h = absurd (omega arith)
enter_bytes u (app g l) p h = go (ltb p (tsize g))
  where
    go : (b : Bool) → tree_bytes (when b then app (replaced u g p) l else app g (replaced_among u l (p - tsize g)))
        ≡ (num_bytes 1 ++ num_bytes (suc (tcount l))) ++ trees_bytes (when b then tcons (replaced u g p) l else tcons g (replaced_among u l (p - tsize g)))
    go true = append_assoc (num_bytes 1 ++ num_bytes (suc (tcount l))) (tree_bytes (replaced u g p)) (trees_bytes l)
    go false =
        ap (λ (n : ℕ). num_bytes 1 ++ num_bytes (suc n) ++ tree_bytes g ++ trees_bytes (replaced_among u l (p - tsize g))) (same_count u l (p - tsize g))
        ∙ append_assoc (num_bytes 1 ++ num_bytes (suc (tcount l))) (tree_bytes g) (trees_bytes (replaced_among u l (p - tsize g)))
enter_bytes u (fun n b) p h =
    rw (lt-ltb p (tsize b) (omega arith)) (ap (λ (z : List ℕ). (num_bytes 2 ++ num_bytes n) ++ z) (sym (append-nil (tree_bytes (replaced u b p)))))
enter_bytes u (datum a) p h = absurd (omega arith)
enter_bytes u (lst l) p h = ap (λ (n : ℕ). num_bytes 4 ++ num_bytes n ++ trees_bytes (replaced_among u l p)) (same_count u l p)
enter_bytes u (stx s) p h = absurd (omega arith)

-- ---- things met, and others behind them

-- a things of the list b are read on from v, and then v' is left
read_on : (k : Counts) (s v v' : List ℕ) (met b : List u.Thing) (n a : ℕ) → length b ≡ a → along k (length met + (a + n)) s ≡ met ++ along k (a + n) v → along k (a + n) v ≡ b ++ along k n v'
    → along k (length (met ++ b) + n) s ≡ (met ++ b) ++ along k n v'
read_on k s v v' met b n a h p q =
    ap (λ (j : ℕ). along k j s) (let z : length (met ++ b) + n ≡ length met + (a + n) = omega (arith, length-append met b) in z) ∙ p ∙ ap (λ (l : List u.Thing). met ++ l) q
    ∙ sym (append_assoc met b (along k n v'))

-- ---- the trees from here on, of which one holds the place

pub record Way (k : Counts) (at : ℕ) (s : List ℕ) (place : ℕ) (t : m.Tree) (rest : List ℕ) (here left levels low : ℕ) : Type 0 where
  pub trees : Trees
  pub before : List ℕ
  pub behind : List ℕ
  pub are : AllAt k (drop (here - at) s) trees (behind ++ rest)
  pub inside : left < tsizes trees
  pub nested : tnestings trees ≤ levels
  pub spot_is : spot_in place t ≡ spot_among levels low trees left
  pub long : at + length before ≡ here
  pub bytes : tree_bytes t ≡ before ++ (trees_bytes trees ++ behind)
  pub puts : (u : m.Tree) → tree_bytes (replaced u t place) ≡ before ++ (trees_bytes (replaced_among u trees left) ++ behind)
  pub met : List u.Thing
  pub met-long : length met + left ≡ place
  pub reads : (n : ℕ) → along k (length met + n) s ≡ met ++ along k n (drop (here - at) s)

pub record Midway (k : Counts) (at : ℕ) (s : List ℕ) (place here left levels low : ℕ) : Type 0 where
  pub moved : at ≤ here
  pub within : here ≤ at + length s
  pub way : (t : m.Tree) (rest : List ℕ) → At k s t rest → place < tsize t → Way k at s place t rest here left levels low

start_way : {k : Counts} {at : ℕ} {s : List ℕ} {place : ℕ} (t : m.Tree) (rest : List ℕ) → At k s t rest → place < tsize t → Way k at s place t rest at place 64 0
unfolding tsizes tsizes_by tnestings trees_bytes spot_in spot_among replaced_among most_nesting tsize tsize_by
start_way {k} {at} {s} {place} t rest a h =
    let e : at - at ≡ 0 = omega arith in
    let l = lt-ltb place (tsize t) h in
    record {
      trees = tcons t tnil;
      before = [];
      behind = [];
      are = record {
        declared = a.declared;
        is = rw e (a.is ∙ ap (λ (z : List ℕ). z ++ rest) (sym (append-nil (tree_bytes t))));
        fits = (a.fits, tt);
        shallow = omega (arith, a.shallow);
        short = omega (arith, a.short, length-append (tree_bytes t) []);
      };
      inside = omega arith;
      nested = omega (arith, a.shallow);
      spot_is = rw l refl;
      long = omega arith;
      bytes = sym (append-nil (tree_bytes t ++ []) ∙ append-nil (tree_bytes t));
      puts = λ u. rw l (sym (append-nil (tree_bytes (replaced u t place) ++ []) ∙ append-nil (tree_bytes (replaced u t place))));
      met = [];
      met-long = omega arith;
      reads = λ n. (let z : 0 + n ≡ n = omega arith in rw (e, z) refl);
    }

pub locate_start : {k : Counts} {at : ℕ} {s : List ℕ} {place : ℕ} → Midway k at s place at place 64 0
locate_start = record { moved = omega arith; within = omega arith; way = start_way }

module _ {k : Counts} {at : ℕ} {s : List ℕ} {place : ℕ} {t : m.Tree} {rest : List ℕ} {here levels low : ℕ} {v : List ℕ} (i : v ≡ drop (here - at) s) (moved : at ≤ here) where
  -- a tree that ends before the place is passed over
  skip_way : (left : ℕ) {sp : Span} → Passes k v here sp → sp.size ≤ left → Way k at s place t rest here left levels low → Way k at s place t rest sp.end.at (left - sp.size) levels low
  unfolding tsizes tsizes_by tnestings trees_bytes spot_among replaced_among tsize tsize_by
  skip_way left {sp} P h w = by-trees w.trees w.are w.inside w.nested w.spot_is w.bytes w.puts
    where
      by-trees : (x : Trees) → AllAt k (drop (here - at) s) x (w.behind ++ rest) → left < tsizes x → tnestings x ≤ levels → spot_in place t ≡ spot_among levels low x left
          → tree_bytes t ≡ w.before ++ (trees_bytes x ++ w.behind) → ((u : m.Tree) → tree_bytes (replaced u t place) ≡ w.before ++ (trees_bytes (replaced_among u x left) ++ w.behind))
          → Way k at s place t rest sp.end.at (left - sp.size) levels low
      by-trees tnil a n d o b p = absurd (omega arith)
      by-trees (tcons f l) a n d o b p =
          let Q = P f (trees_bytes l ++ (w.behind ++ rest)) (subst (λ (z : List ℕ). At k z f (trees_bytes l ++ (w.behind ++ rest))) (sym i) (first-at a)) in
          let z = Q.size_is in
          let e = Q.end_is in
          let tests : ltb left (tsize f) ≡ false = le-ltb left (tsize f) (omega arith) in
          let y : here - at + length (tree_bytes f) ≡ sp.end.at - at = omega arith in
          let d' : drop (sp.end.at - at) s ≡ trees_bytes l ++ (w.behind ++ rest) =
          ap (λ (j : ℕ). drop j s) (sym y) ∙ sym (drop-drop (length (tree_bytes f)) (here - at) s)
          ∙ ap (drop (length (tree_bytes f))) (first-at a).is ∙ drop_at (tree_bytes f) (trees_bytes l ++ (w.behind ++ rest)) (length (tree_bytes f)) refl in
          let c = others-at a in
          record {
            trees = l;
            before = w.before ++ tree_bytes f;
            behind = w.behind;
            are = record { declared = c.declared; is = d'; fits = c.fits; shallow = c.shallow; short = c.short };
            inside = omega arith;
            nested = omega arith;
            spot_is = o ∙ rw (tests, z) refl;
            long = omega (arith, w.long, length-append w.before (tree_bytes f));
            bytes = b ∙ ap (λ (x : List ℕ). w.before ++ x) (append_assoc (tree_bytes f) (trees_bytes l) w.behind) ∙ sym (append_assoc w.before (tree_bytes f) (trees_bytes l ++ w.behind));
            puts = λ u. p u ∙ rw (tests, z) (ap (λ (x : List ℕ). w.before ++ x) (append_assoc (tree_bytes f) (trees_bytes (replaced_among u l (left - tsize f))) w.behind)
                ∙ sym (append_assoc w.before (tree_bytes f) (trees_bytes (replaced_among u l (left - tsize f)) ++ w.behind)));
            met = w.met ++ things f;
            met-long = omega (arith, w.met-long, length-append w.met (things f), size-things f);
            reads = λ n. read_on k s (drop (here - at) s) (drop (sp.end.at - at) s) w.met (things f) n (tsize f) (size-things f) (w.reads (tsize f + n)) ((tree-along f (first-at a)).read n ∙ ap (λ (j : List ℕ). things f ++ along k n j) (sym d'));
          }

  -- the tree that holds the place is entered
  enter_way : (p : ℕ) {sp : Span} → Passes k v here sp → suc p < sp.size → {x : Thing} {past : ℕ} → Took here v (read_thing k v) x past
      → Way k at s place t rest here (suc p) levels low → Way k at s place t rest past p (levels - 1) (lowest x)
  unfolding tsizes tsizes_by tnestings trees_bytes spot_among replaced_among tsize tsize_by
  enter_way p {sp} P h {x} {past} T w = by-trees w.trees w.are w.inside w.nested w.spot_is w.bytes w.puts
    where
      by-trees : (y : Trees) → AllAt k (drop (here - at) s) y (w.behind ++ rest) → suc p < tsizes y → tnestings y ≤ levels → spot_in place t ≡ spot_among levels low y (suc p)
          → tree_bytes t ≡ w.before ++ (trees_bytes y ++ w.behind) → ((u : m.Tree) → tree_bytes (replaced u t place) ≡ w.before ++ (trees_bytes (replaced_among u y (suc p)) ++ w.behind))
          → Way k at s place t rest past p (levels - 1) (lowest x)
      by-trees tnil a n d o b g = absurd (omega arith)
      by-trees (tcons f l) a n d o b g =
          let A : At k v f (trees_bytes l ++ (w.behind ++ rest)) = subst (λ (z : List ℕ). At k z f (trees_bytes l ++ (w.behind ++ rest))) (sym i) (first-at a) in
          let Q = P f (trees_bytes l ++ (w.behind ++ rest)) A in
          let z = Q.size_is in
          let tests : ltb (suc p) (tsize f) ≡ true = lt-ltb (suc p) (tsize f) (omega arith) in
          let e = thing-read A in
          let rest₁ = trees_bytes l ++ (w.behind ++ rest) in
          let same : x ≡ front f = got-value x (front f) (drop (past - here) v) (trees_bytes (parts f) ++ rest₁) (sym T.is ∙ e) in
          let left : drop (past - here) v ≡ trees_bytes (parts f) ++ rest₁ = got-rest x (front f) (drop (past - here) v) (trees_bytes (parts f) ++ rest₁) (sym T.is ∙ e) in
          let y : here - at + (past - here) ≡ past - at = omega (arith, T.moved) in
          let d' : drop (past - at) s ≡ trees_bytes (parts f) ++ ((trees_bytes l ++ w.behind) ++ rest) =
          ap (λ (j : ℕ). drop j s) (sym y) ∙ sym (drop-drop (past - here) (here - at) s) ∙ ap (drop (past - here)) (sym i) ∙ left
          ∙ ap (λ (j : List ℕ). trees_bytes (parts f) ++ j) (sym (append_assoc (trees_bytes l) w.behind rest)) in
          let c = parts_at A in
          let whole : length v ≡ length (tree_bytes f) + length rest₁ = ap length A.is ∙ length-append (tree_bytes f) rest₁ in
          let after : length (drop (past - here) v) ≡ length (trees_bytes (parts f)) + length rest₁ = ap length left ∙ length-append (trees_bytes (parts f)) rest₁ in
          let fronts : length (tree_bytes f) ≡ length (front_bytes f) + length (trees_bytes (parts f)) = ap length (bytes_parted f) ∙ length-append (front_bytes f) (trees_bytes (parts f)) in
          record {
            trees = parts f;
            before = w.before ++ front_bytes f;
            behind = trees_bytes l ++ w.behind;
            are = record { declared = c.declared; is = d'; fits = c.fits; shallow = c.shallow; short = c.short };
            inside = omega (arith, size_parted f);
            nested = omega (arith, parts-levels f levels (omega arith) (omega arith));
            spot_is = o ∙ rw (tests, same) (enter_spot levels low f p (omega arith));
            long = omega (arith, w.long, length-append w.before (front_bytes f), T.ends, T.moved);
            bytes = b ∙ regrouped (tree_bytes f) (front_bytes f) (trees_bytes (parts f)) (bytes_parted f);
            puts = λ u. g u ∙ rw tests (regrouped (tree_bytes (replaced u f (suc p))) (front_bytes f) (trees_bytes (replaced_among u (parts f) p)) (enter_bytes u f p (omega arith)));
            met = w.met ++ thing_of (front f) ∷ [];
            met-long = omega (arith, w.met-long, length-append w.met (thing_of (front f) ∷ []));
            reads = λ n. read_on k s (drop (here - at) s) (drop (past - at) s) w.met (thing_of (front f) ∷ []) n 1 refl (w.reads (1 + n)) (ap (λ (j : ℕ). along k j (drop (here - at) s)) (let z : 1 + n ≡ suc n = omega arith in z) ∙ step k n (drop (here - at) s) f rest₁ (first-at a) ∙ ap (λ (j : List ℕ). thing_of (front f) ∷ along k n j) (sym (d' ∙ ap (λ (j : List ℕ). trees_bytes (parts f) ++ j) (append_assoc (trees_bytes l) w.behind rest))));
          }
        where
          regrouped : (whole front inner : List ℕ) → whole ≡ front ++ inner → w.before ++ ((whole ++ trees_bytes l) ++ w.behind) ≡ (w.before ++ front) ++ (inner ++ (trees_bytes l ++ w.behind))
          regrouped whole front inner e =
              ap (λ (j : List ℕ). w.before ++ ((j ++ trees_bytes l) ++ w.behind)) e
              ∙ ap (λ (j : List ℕ). w.before ++ j) (append_assoc (front ++ inner) (trees_bytes l) w.behind ∙ append_assoc front inner (trees_bytes l ++ w.behind))
              ∙ sym (append_assoc w.before front (inner ++ (trees_bytes l ++ w.behind)))

-- ---- nothing is left before the place: it is here

here-spot : (levels low : ℕ) (t : m.Tree) → spot levels low t 0 ≡ record { levels = levels; low = low; part = t }
unfolding spot
here-spot levels low (var n) = refl
here-spot levels low (app g l) = refl
here-spot levels low (fun n b) = refl
here-spot levels low (datum a) = refl
here-spot levels low (lst l) = refl
here-spot levels low (stx s) = refl

here_put : (u t : m.Tree) → replaced u t 0 ≡ u
unfolding replaced
here_put u (var n) = refl
here_put u (app g l) = refl
here_put u (fun n b) = refl
here_put u (datum a) = refl
here_put u (lst l) = refl
here_put u (stx s) = refl

module _ {k : Counts} {at : ℕ} {s : List ℕ} {place : ℕ} {t : m.Tree} {rest : List ℕ} {here levels low : ℕ} where
  found_here : {end : Cursor} → end.at ≡ here → at ≤ here → here ≤ at + length s → Way k at s place t rest here 0 levels low
      → Found k s at place t rest (record { at = end; levels = levels; low = low })
  unfolding tsizes tsizes_by trees_bytes spot_among replaced_among tsize tsize_by
  found_here {end} e from within y = by-trees y.trees y.are y.inside y.spot_is y.bytes y.puts
    where
      by-trees : (x : Trees) → AllAt k (drop (here - at) s) x (y.behind ++ rest) → 0 < tsizes x → spot_in place t ≡ spot_among levels low x 0
          → tree_bytes t ≡ y.before ++ (trees_bytes x ++ y.behind) → ((u : m.Tree) → tree_bytes (replaced u t place) ≡ y.before ++ (trees_bytes (replaced_among u x 0) ++ y.behind))
          → Found k s at place t rest (record { at = end; levels = levels; low = low })
      by-trees tnil b n o d g = absurd (omega arith)
      by-trees (tcons f l) b n o d g =
          let tests : ltb 0 (tsize f) ≡ true = lt-ltb 0 (tsize f) (size-some f) in
          let S : spot_in place t ≡ record { levels = levels; low = low; part = f } = o ∙ rw tests (here-spot levels low f) in
          let A = first-at b in
          record {
            levels-are = sym (ap (λ (z : q.Spot). z.levels) S);
            low-is = sym (ap (λ (z : q.Spot). z.low) S);
            from = omega arith;
            within = omega arith;
            before = y.before;
            behind = trees_bytes l ++ y.behind;
            part_at = rw (S, e) (subst (λ (z : List ℕ). At k (drop (here - at) s) f z) (sym (append_assoc (trees_bytes l) y.behind rest)) A);
            long = y.long ∙ sym e;
            bytes = rw S (d ∙ ap (λ (z : List ℕ). y.before ++ z) (append_assoc (tree_bytes f) (trees_bytes l) y.behind));
            puts = λ u. g u ∙ rw (tests, here_put u f) (ap (λ (z : List ℕ). y.before ++ z) (append_assoc (tree_bytes u) (trees_bytes l) y.behind));
            met = y.met;
            met-long = omega (arith, y.met-long);
            reads = λ j. (let z : place + j ≡ length y.met + j = omega (arith, y.met-long) in rw (z, e) (y.reads j));
          }

-- ---- one law for each way on and out

module _ {k : Counts} {at : ℕ} {s : List ℕ} {place here left levels low : ℕ} (w : Midway k at s place here left levels low) where
  pub locate_ends : {end : Cursor} → end.at ≡ here → left ≤ 0 → Locates k s at place (record { at = end; levels = levels; low = low })
  locate_ends {end} e h t rest a p = by_left left refl (w.way t rest a p)
    where
      by_left : (n : ℕ) → left ≡ n → Way k at s place t rest here n levels low → Found k s at place t rest (record { at = end; levels = levels; low = low })
      by_left zero z y = found_here e w.moved w.within y
      by_left (suc n) z y = absurd (omega arith)

  module _ {v : List ℕ} (i : v ≡ drop (here - at) s) where
    ends : here + length v ≡ at + length s
    ends = let l = ap length i ∙ length-drop (here - at) s in omega (arith, w.moved, w.within)

    -- of the tree that is known to be there
    module _ (I : Inside k s place) where
      known : Way k at s place I.here.tree I.here.rest here left levels low
      known = w.way I.here.tree I.here.rest I.here.at I.inside

      first : (x : Trees) → AllAt k (drop (here - at) s) x (known.behind ++ I.here.rest) → left < tsizes x → Tree k v
      unfolding tsizes tsizes_by
      first tnil a n = absurd (omega arith)
      first (tcons f l) a n =
          record { tree = f; rest = trees_bytes l ++ (known.behind ++ I.here.rest); at = subst (λ (z : List ℕ). At k z f (trees_bytes l ++ (known.behind ++ I.here.rest))) (sym i) (first-at a) }

      pub locate_tree : Tree k v
      locate_tree = first known.trees known.are known.inside

      module _ {sp : Span} (P : Passes k v here sp) where
        passed_size : sp.size ≡ tsize locate_tree.tree
        passed_size = (P locate_tree.tree locate_tree.rest locate_tree.at).size_is

        passed_end : sp.end.at ≡ here + length (tree_bytes locate_tree.tree)
        passed_end = (P locate_tree.tree locate_tree.rest locate_tree.at).end_is

        pub skip_less : sp.size ≤ left → left - sp.size < left
        skip_less h = omega (arith, passed_size, size-some locate_tree.tree)

        pub skip_more : sp.size ≤ left → Midway k at s place sp.end.at (left - sp.size) levels low
        skip_more h = record {
          moved = omega (arith, passed_end, w.moved);
          within = let y = ends in omega (arith, passed_end, ap length locate_tree.at.is, length-append (tree_bytes locate_tree.tree) locate_tree.rest);
          way = λ t rest a p. skip_way i w.moved left P h (w.way t rest a p);
        }

        module _ (h : left < sp.size) (some : 0 < left) where
          pub enter_levels : 1 ≤ levels
          unfolding tnestings tsizes tsizes_by
          enter_levels = by-trees known.trees known.are known.nested known.inside
            where
              by-trees : (x : Trees) → AllAt k (drop (here - at) s) x (known.behind ++ I.here.rest) → tnestings x ≤ levels → left < tsizes x → 1 ≤ levels
              by-trees tnil a n d = absurd (omega arith)
              by-trees (tcons f l) a n d =
                  let Q = P f (trees_bytes l ++ (known.behind ++ I.here.rest)) (subst (λ (z : List ℕ). At k z f (trees_bytes l ++ (known.behind ++ I.here.rest))) (sym i) (first-at a)) in
                  omega (arith, parts-levels f levels (omega arith) (omega (arith, Q.size_is)))

          module _ {r : Result (Thing × Cursor) Refusal} (a : r ≡ read_at (here + length v) (read_thing k v)) where
            pub enter_sure : {f : Refusal} → r ≡ Err f → ⊥
            enter_sure {f} e =
                fault≢got (refusal_of f) (front locate_tree.tree) (trees_bytes (parts locate_tree.tree) ++ locate_tree.rest)
                (sym (refused read_shape (here + length v) (read_thing k v) a e) ∙ thing-read locate_tree.at)

            pub enter_more : {x : Thing} {past : Cursor} {n : ℕ} → r ≡ Ok (x, past) → n ≡ lowest x → Midway k at s place past.at (left - 1) (levels - 1) n
            enter_more {x} {past} {n} e z =
                let T : Took here v (read_thing k v) x past.at = took read_shape a e (thing_tail k v) in
                let y = ends in
                record {
                  moved = omega (arith, T.moved, w.moved);
                  within = omega (arith, T.within);
                  way = λ t rest b p. (by_left T left refl t rest b p);
                }
              where
                by_left : Took here v (read_thing k v) x past.at → (j : ℕ) → left ≡ j → (t : m.Tree) (rest : List ℕ) → At k s t rest → place < tsize t → Way k at s place t rest past.at (left - 1) (levels - 1) n
                by_left T j q t rest b p = step j q (w.way t rest b p) T
                  where
                    step : (j : ℕ) → left ≡ j → Way k at s place t rest here left levels low → Took here v (read_thing k v) x past.at → Way k at s place t rest past.at (left - 1) (levels - 1) n
                    step zero q y T = absurd (omega arith)
                    step (suc j) q y T =
                        let d : left - 1 ≡ j = omega arith in
                        let c : Way k at s place t rest here (suc j) levels low = subst (λ (i : ℕ). Way k at s place t rest here i levels low) q y in
                        let g = enter_way i w.moved j P (omega arith) T c in
                        subst (λ (b : ℕ). Way k at s place t rest past.at b (levels - 1) n) (sym d) (subst (λ (b : ℕ). Way k at s place t rest past.at j (levels - 1) b) (sym z) g)

pub ruleset locate_laws = (locate_start, locate_ends, locate_tree, skip_less, skip_more, enter_levels, enter_sure, enter_more)
