-- Passing over a tree: what is still to come is always some trees, and nothing is left at the end.
use Prim.Native.Nat.{ℕ, ◌+◌, ◌-◌, ◌≤◌, ◌<◌}
use mathlib.Core.Path.{◌≡◌, refl, sym, ap, ◌∙◌}
use mathlib.Core.List.{List, [], ◌++◌, append_assoc, append-nil}
use native.Mathlib.Omega.{arith}
use native.Mathlib.Nat.{max-le}
use lib.ListN.{length, drop, length-drop, length-append}
use lib.Seq.{drop-drop}
use Rattle.model.specs.Limits.{most_nesting}
use Rattle.model.specs.Trees as m
use Rattle.model.specs.Trees.{var, app, fun, datum, lst, stx, Trees, tnil, tcons, tcount, tsize, tsize_by, tsizes_by, tnesting, tnestings}
use Rattle.model.specs.Reading as r
use Rattle.model.specs.Reading.{got}
use Rattle.model.specs.Writing.{tree_bytes, trees_bytes}
use Rattle.codec_laws.specs.WellFormed.{TreesFit}
use Rattle.codec_laws.proofs.NumberTrip.{fault≢got, got-value, got-rest}
use Rattle.codec_laws.proofs.Lengths.{tcount_le}
use Rattle.requests.proofs.Uses.{tsizes}
use Rattle.refusals.specs.declared.Refusal.{Refusal}
use Rattle.refusals.specs.Refusing.{refusal_of}
use Rattle.numbers.specs.declared.Cursor.{Cursor}
use Rattle.numbers.specs.Answers.{read_at}
use Rattle.std.specs.Prelude.{Result, Ok, Err}
use Rattle.numbers.proofs.Tails.{Shrinks, shrinks_got, shrinks_fault}
use Rattle.numbers.proofs.Answering.{Took, took, refused, read_shape}
use Rattle.head.specs.declared.Counts.{Counts}
use Rattle.places.specs.Reading.{read_thing, parts_of}
use Rattle.places.specs.Standing.{At, Tree, Passed, Passes}
use Rattle.places.specs.declared.Thing.{Thing}
use Rattle.places.proofs.Things.{thing_tail, thing_shrinks}
use Rattle.places.proofs.Standing.{front, front_bytes, parts, bytes_parted, front-some, parts-count, size_parted, AllAt, thing-read, parts_at, first-at, others-at}

-- ---- the trees of a, and behind them those of b

unfoldable joined : Trees → Trees → Trees
joined tnil b = b
joined (tcons t a) b = tcons t (joined a b)

joined_bytes : (a b : Trees) → trees_bytes (joined a b) ≡ trees_bytes a ++ trees_bytes b
unfolding joined trees_bytes
joined_bytes tnil b = refl
joined_bytes (tcons t a) b = ap (λ (z : List ℕ). tree_bytes t ++ z) (joined_bytes a b) ∙ sym (append_assoc (tree_bytes t) (trees_bytes a) (trees_bytes b))

joined-count : (a b : Trees) → tcount (joined a b) ≡ tcount a + tcount b
unfolding joined tcount
joined-count tnil b = omega arith
joined-count (tcons t a) b = omega (arith, joined-count a b)

joined-size : (a b : Trees) → tsizes (joined a b) ≡ tsizes a + tsizes b
unfolding joined tsizes tsizes_by
joined-size tnil b = omega arith
joined-size (tcons t a) b = omega (arith, joined-size a b)

joined-fit : (x y z : ℕ) (a b : Trees) → TreesFit x y z a → TreesFit x y z b → TreesFit x y z (joined a b)
unfolding joined
joined-fit x y z tnil b f g = g
joined-fit x y z (tcons t a) b f g = (f.0, joined-fit x y z a b f.1 g)

joined_nested : (n : ℕ) (a b : Trees) → tnestings a ≤ n → tnestings b ≤ n → tnestings (joined a b) ≤ n
unfolding joined tnestings
joined_nested n tnil b h k = k
joined_nested n (tcons t a) b h k = let r = joined_nested n a b (omega arith) k in omega arith

-- ---- what is still to come of t, which stands at the front of s

pub record Coming (k : Counts) (at : ℕ) (s : List ℕ) (t : m.Tree) (rest : List ℕ) (here pending size : ℕ) : Type 0 where
  pub trees : Trees
  pub are : AllAt k (drop (here - at) s) trees rest
  pub count : pending ≡ tcount trees
  pub sum : size + tsizes trees ≡ tsize t
  pub bytes : here + length (trees_bytes trees) ≡ at + length (tree_bytes t)

pub record Midway (k : Counts) (at : ℕ) (s : List ℕ) (here pending size : ℕ) : Type 0 where
  pub moved : at ≤ here
  pub within : here ≤ at + length s
  pub coming : (t : m.Tree) (rest : List ℕ) → At k s t rest → Coming k at s t rest here pending size

one_comes : {k : Counts} {at : ℕ} {s : List ℕ} (t : m.Tree) (rest : List ℕ) → At k s t rest → Coming k at s t rest at 1 0
unfolding tcount tsizes tsizes_by trees_bytes tnestings tsize tsize_by
one_comes {k} {at} {s} t rest a =
    let e : at - at ≡ 0 = omega arith in
    record {
      trees = tcons t tnil;
      are = record {
        declared = a.declared;
        is = rw e (a.is ∙ ap (λ (z : List ℕ). z ++ rest) (sym (append-nil (tree_bytes t))));
        fits = (a.fits, tt);
        shallow = max-le a.shallow (omega arith);
        short = omega (arith, a.short, length-append (tree_bytes t) []);
      };
      count = refl;
      sum = omega arith;
      bytes = omega (arith, length-append (tree_bytes t) []);
    }

pub passing-start : {k : Counts} {at : ℕ} {s : List ℕ} → Midway k at s at 1 0
passing-start = record { moved = omega arith; within = omega arith; coming = one_comes }

mutual
  unfolding tsize tsizes tsize_by tsizes_by trees_bytes parts

  pub size_le : (t : m.Tree) → tsize t ≤ length (tree_bytes t)
  size_le (var n) = omega (arith, ap length (bytes_parted (var n)), length-append (front_bytes (var n)) [], front-some (var n))
  size_le (app h l) =
      omega (
        arith,
        ap length (bytes_parted (app h l)),
        length-append (front_bytes (app h l)) (tree_bytes h ++ trees_bytes l),
        length-append (tree_bytes h) (trees_bytes l),
        front-some (app h l),
        size_le h,
        sizes_le l,
      )
  size_le (fun n b) =
      omega (arith, ap length (bytes_parted (fun n b)), length-append (front_bytes (fun n b)) (tree_bytes b ++ []), length-append (tree_bytes b) [], front-some (fun n b), size_le b)
  size_le (datum a) = omega (arith, ap length (bytes_parted (datum a)), length-append (front_bytes (datum a)) [], front-some (datum a))
  size_le (lst l) = omega (arith, ap length (bytes_parted (lst l)), length-append (front_bytes (lst l)) (trees_bytes l), front-some (lst l), sizes_le l)
  size_le (stx x) = omega (arith, ap length (bytes_parted (stx x)), length-append (front_bytes (stx x)) [], front-some (stx x))

  sizes_le : (l : Trees) → tsizes l ≤ length (trees_bytes l)
  sizes_le tnil = omega arith
  sizes_le (tcons t l) = omega (arith, length-append (tree_bytes t) (trees_bytes l), size_le t, sizes_le l)

-- ---- a thing is read: its parts come instead of the tree that it begins

module _ {k : Counts} {at : ℕ} {s : List ℕ} {t : m.Tree} {rest : List ℕ} {here pending : ℕ} (size : ℕ) {v : List ℕ} (i : v ≡ drop (here - at) s) where
  module _ (moved : at ≤ here) (some : 0 < pending) {x : Thing} {past : ℕ} (T : Took here v (read_thing k v) x past) where
    next_of : (l : Trees) → AllAt k (drop (here - at) s) l rest → pending ≡ tcount l → size + tsizes l ≡ tsize t → here + length (trees_bytes l) ≡ at + length (tree_bytes t) → Coming k at s t rest past (pending - 1 + parts_of x) (size + 1)
    unfolding tcount tsizes tsizes_by trees_bytes tsize tsize_by
    next_of tnil a c n b = absurd (omega arith)
    next_of (tcons f l) a c n b =
        let e : read_thing k v ≡ got (front f) (trees_bytes (parts f) ++ (trees_bytes l ++ rest)) = rw i (thing-read (first-at a)) in
        let same : x ≡ front f = got-value x (front f) (drop (past - here) v) (trees_bytes (parts f) ++ (trees_bytes l ++ rest)) (sym T.is ∙ e) in
        let left : drop (past - here) v ≡ trees_bytes (parts f) ++ (trees_bytes l ++ rest) = got-rest x (front f) (drop (past - here) v) (trees_bytes (parts f) ++ (trees_bytes l ++ rest)) (sym T.is ∙ e) in
        let z : here - at + (past - here) ≡ past - at = omega (arith, T.moved) in
        let d : drop (past - at) s ≡ drop (past - here) v = sym (ap (drop (past - here)) i ∙ drop-drop (past - here) (here - at) s ∙ ap (λ (y : ℕ). drop y s) z) in
        let w : trees_bytes (joined (parts f) l) ++ rest ≡ trees_bytes (parts f) ++ (trees_bytes l ++ rest) = ap (λ (y : List ℕ). y ++ rest) (joined_bytes (parts f) l) ∙ append_assoc (trees_bytes (parts f)) (trees_bytes l) rest in
        let is' : drop (past - at) s ≡ trees_bytes (joined (parts f) l) ++ rest = d ∙ left ∙ sym w in
        let p = parts_at (first-at a) in
        let o = others-at a in
        let whole : length v ≡ length (tree_bytes f ++ trees_bytes l) + length rest = ap length (i ∙ a.is) ∙ length-append (tree_bytes f ++ trees_bytes l) rest in
        let after : length (drop (past - here) v) ≡ length (trees_bytes (joined (parts f) l)) + length rest = ap length (left ∙ sym w) ∙ length-append (trees_bytes (joined (parts f) l)) rest in
        record {
          trees = joined (parts f) l;
          are = record {
            declared = a.declared;
            is = is';
            fits = joined-fit k.symbols k.names k.scopes (parts f) l p.fits o.fits;
            shallow = joined_nested most_nesting (parts f) l p.shallow o.shallow;
            short = omega (arith, a.short, ap length (joined_bytes (parts f) l), length-append (trees_bytes (parts f)) (trees_bytes l), length-append (tree_bytes f) (trees_bytes l), ap length (bytes_parted f), length-append (front_bytes f) (trees_bytes (parts f)));
          };
          count = rw same (omega (arith, parts-count f, joined-count (parts f) l));
          sum = omega (arith, size_parted f, joined-size (parts f) l);
          bytes = omega (arith, T.ends);
        }

-- a thing takes a byte at least
thing_moves : (k : Counts) (here : ℕ) (v : List ℕ) (x : Thing) (past : ℕ) → Took here v (read_thing k v) x past → here < past
thing_moves k here v x past T = by_read (read_thing k v) (thing_shrinks k v) T.is
  where
    by_read : (g : r.Read Thing) → Shrinks v g → g ≡ got x (drop (past - here) v) → here < past
    by_read (got a rest) (shrinks_got h) e = let l = ap length (got-rest a x rest (drop (past - here) v) e) in omega (arith, T.ends, T.moved)
    by_read (r.fault c) shrinks_fault e = absurd (fault≢got c x (drop (past - here) v) e)

-- ---- one law for each way on and out

module _ {k : Counts} {at : ℕ} {s : List ℕ} {here pending size : ℕ} (w : Midway k at s here pending size) where
  pub passing-ends : {end : Cursor} → end.at ≡ here → pending ≤ 0 → Passes k s at (record { size = size; end = end })
  unfolding tcount tsizes tsizes_by trees_bytes
  passing-ends {end} e h t rest a = by-trees (w.coming t rest a).trees (w.coming t rest a).count (w.coming t rest a).sum (w.coming t rest a).bytes
    where
      by-trees : (l : Trees) → pending ≡ tcount l → size + tsizes l ≡ tsize t → here + length (trees_bytes l) ≡ at + length (tree_bytes t) → Passed at t (record { size = size; end = end })
      by-trees tnil c n b = record { size_is = omega arith; end_is = omega arith }
      by-trees (tcons f l) c n b = absurd (omega arith)

  pub passing-size : Tree k s → size + 1 < 4294967296
  passing-size T =
      let c = w.coming T.tree T.rest T.at in
      omega (arith, c.sum, size_le T.tree, T.at.short)

  module _ {v : List ℕ} (i : v ≡ drop (here - at) s) where
    ends : here + length v ≡ at + length s
    ends = let l = ap length i ∙ length-drop (here - at) s in omega (arith, w.moved, w.within)

    module _ (some : 0 < pending) {r : Result (Thing × Cursor) Refusal} (h : r ≡ read_at (here + length v) (read_thing k v)) where
      -- no tree's thing is refused
      pub passing-sure : {f : Refusal} → r ≡ Err f → Tree k s → ⊥
      unfolding tcount
      passing-sure {f} e T = let c = w.coming T.tree T.rest T.at in by-trees c.trees c.count c.are
        where
          by-trees : (l : Trees) → pending ≡ tcount l → AllAt k (drop (here - at) s) l T.rest → ⊥
          by-trees tnil c o = omega arith
          by-trees (tcons g l) c o =
              fault≢got (refusal_of f) (front g) (trees_bytes (parts g) ++ (trees_bytes l ++ T.rest))
              (sym (refused read_shape (here + length v) (read_thing k v) h e) ∙ ap (read_thing k) i ∙ thing-read (first-at o))

      module _ {x : Thing} {past : Cursor} (e : r ≡ Ok (x, past)) where
        took_it : Took here v (read_thing k v) x past.at
        took_it = took read_shape h e (thing_tail k v)

        comes : (t : m.Tree) (rest : List ℕ) → At k s t rest → Coming k at s t rest past.at (pending - 1 + parts_of x) (size + 1)
        comes t rest a = let c = w.coming t rest a in next_of size i w.moved some took_it c.trees c.are c.count c.sum c.bytes

        pub passing-more : {n : ℕ} → n ≡ parts_of x → Midway k at s past.at (pending - 1 + n) (size + 1)
        passing-more q = record { moved = omega (arith, took_it.moved, w.moved); within = let y = ends in omega (arith, took_it.within); coming = rw q comes }

        pub passing_pending : {n : ℕ} → n ≡ parts_of x → Tree k s → pending - 1 + n < 4294967296
        passing_pending q T =
            let c = comes T.tree T.rest T.at in
            rw q (omega (arith, c.count, tcount_le c.trees, c.are.short))

        pub passing_less : at + length s - past.at < at + length s - here
        passing_less = let y = ends in omega (arith, took_it.within, w.moved, thing_moves k here v x past.at took_it)

pub ruleset passing_laws = (passing-start, passing-ends, passing-size, passing-sure, passing-more, passing_pending, passing_less)
