-- The whole tree image: one law for each way out.
use Rattle.std.specs.Prelude.{Result, Ok, Err}
use Prim.Native.Nat.{ℕ, ◌+◌, ◌-◌, ◌≤◌, ◌<◌}
use mathlib.Core.Path.{◌≡◌, refl, sym, ap, ◌∙◌}
use mathlib.Core.List.{List, []}
use native.Mathlib.Omega.{arith}
use lib.ListN.{length, drop, get_or, length-drop}
use mir.Syntax.{w8}
use mir.Val.{Fits}
use Rattle.model.specs.Limits.{most_nesting}
use mathlib.Core.Bool.{true, false}
use Rattle.model.specs.Refusals as r
use Rattle.model.specs.Trees.{Tree, load_size}
use Rattle.model.specs.Reading as m
use Rattle.model.specs.Reading.{Read, Reader, got, fault, next, Image, at_end, read_head, read_tree, read_tree_image}
use Rattle.model.specs.Jobs.{closed}
use Rattle.refusals.specs.Refusing.{refusal_of}
use Rattle.refusals.specs.declared.Refusal.{Refusal}
use Rattle.refusals.specs.declared.Refusal.TheVariants as refusal
use Rattle.numbers.specs.declared.Cursor.{Cursor}
use Rattle.numbers.specs.Answers.{read_at, kept}
use Rattle.numbers.proofs.Answering.{Kept}
use Rattle.head.specs.Heads.{head_at, declares}
use Rattle.head.specs.declared.Head.{Head}
use Rattle.head.specs.declared.Counts.{Counts}
use Rattle.roots.specs.declared.Extent.{Extent}
use Rattle.roots.specs.Measuring.{measure_tree, then_end, none_around, whole_tree}
use Rattle.roots.proofs.Kept.{counts_of, extent_of, around-none, tree_is}
use Rattle.roots.proofs.Spans.{tree-small}
use Rattle.roots.proofs.Whole.{tree-refused, tree-read}
use Rattle.store.specs.Words.{binds_from, binds_of}
use Rattle.image.specs.declared.Judgement.{Judgement}
use Rattle.image.specs.Judging.{read_owned, tree_kind, Good, JudgesTree}
use Rattle.image.proofs.Answers.{bad-image, too_long_lem, good-image}
use Rattle.image.proofs.BehindHeads.{then_whole}
use Rattle.image.proofs.Heads.{bytes_of, image-short, HeadHere, head-here, head-fault, name-count, scope-count, symbol-count, names-from, names-to, scopes-to, headed-by, headed-words, behind-head}

-- ---- behind the head h

abbrev pub image_of : m.Head → Tree → Image Tree
image_of h x = record { head = h; binds = []; root = x }

rooted : (h : m.Head) (g : Read Tree) → next g (λ x t. next (at_end t) (λ y w. got (image_of h x) w)) ≡ kept (image_of h) (next g (λ x t. next (at_end t) (λ y w. got x w)))
rooted h (fault f) = refl
rooted h (got x t) = go (at_end t)
  where
    go : (g : Read (Unit {0})) → next g (λ y w. got (image_of h x) w) ≡ kept (image_of h) (next g (λ y w. got x w))
    go (got y w) = refl
    go (fault f) = refl

abbrev behind : m.Head → Reader (Image Tree)
behind h t = next (read_tree most_nesting h 0 t) (λ x u. next (at_end u) (λ y w. got (image_of h x) w))

root_is : (h : m.Head) (t : List ℕ) → behind h t ≡ kept (image_of h) (then_end (read_tree 64 h 0) t)
unfolding most_nesting then_end
root_is h t = rooted h (read_tree 64 h 0 t)

-- ---- code 3

owned-stops : (s : List ℕ) {f : r.Refusal} → read_tree_image s ≡ fault f → read_owned s ≡ fault f
unfolding read_owned
owned-stops s e = rw e

owned-goes : (s : List ℕ) {i : Image Tree} → read_tree_image s ≡ got i [] → closed [] i.root ≡ true → read_owned s ≡ got i []
unfolding read_owned
owned-goes s e o = rw (e, o)

owned-not : (s : List ℕ) {i : Image Tree} → read_tree_image s ≡ got i [] → closed [] i.root ≡ false → read_owned s ≡ fault r.unowned
unfolding read_owned
owned-not s e o = rw (e, o)

-- ---- the ways out

module _ (s : List ℕ) (known : (i : ℕ) → Fits w8 (get_or s i 0)) (short : length s ≤ 65536) {q : Result (Head × Cursor) Refusal} (a : q ≡ head_at (length s) (read_head 2 s)) where
  pub head-refused : {f : Refusal} → q ≡ Err f → read_tree_image s ≡ fault (refusal_of f)
  unfolding read_tree_image
  head-refused e = rw (head-fault 2 s a e)

  pub head-stops : {f : Refusal} {x : Result Judgement Refusal} → q ≡ Err f → x ≡ Err f → JudgesTree s x
  head-stops {f} e y = rw y (record { judges = λ st. bad-image tree_kind s st (image-short read_owned s short ∙ owned-stops s (head-refused e)) })

  module _ {h : Head} {c : Cursor} (e : q ≡ Ok (h, c)) where
    pub H : HeadHere 2 s h c.at
    H = head-here 2 s (bytes_of s known) a e

    few : H.head.names ≤ 1024
    few = omega (arith, name-count H, names-to H)

    from-head : read_tree_image s ≡ kept (image_of H.head) (then_end (read_tree 64 H.head 0) (drop c.at s))
    unfolding read_tree_image
    from-head = ap (λ (g : Read m.Head). next g behind) H.reads ∙ root_is H.head (drop c.at s)

    module _ {u : List ℕ} (i : u ≡ drop (c.at - 0) s) {n : Counts} (ne : n ≡ declares h) {x : Result (Extent × Cursor) Refusal} (w : x ≡ read_at (c.at + length u) (whole_tree n 64 0 u)) where
      measured : x ≡ read_at (c.at + length (drop c.at s)) (whole_tree (counts_of H.head) 64 0 (drop c.at s))
      measured =
          w ∙ ap (λ (k : Counts). read_at (c.at + length u) (whole_tree k 64 0 u)) (ne ∙ (λ k. record { symbols = symbol-count H k; names = name-count H k; scopes = scope-count H k }))
          ∙ ap (λ (v : List ℕ). read_at (c.at + length v) (whole_tree (counts_of H.head) 64 0 v)) (behind-head s c.at i)

      pub root-refused : {f : Refusal} → x ≡ Err f → read_tree_image s ≡ fault (refusal_of f)
      root-refused {f} d =
          let g : then_end (read_tree 64 H.head 0) (drop c.at s) ≡ fault (refusal_of f) = tree-refused H.head few 64 0 c.at (drop c.at s) measured d in
          from-head ∙ ap (kept (image_of H.head)) g

      pub root-stops : {f : Refusal} {y : Result Judgement Refusal} → x ≡ Err f → y ≡ Err f → JudgesTree s y
      root-stops {f} d y = rw y (record { judges = λ st. bad-image tree_kind s st (image-short read_owned s short ∙ owned-stops s (root-refused d)) })

      module _ {y : Extent} {past : Cursor} (d : x ≡ Ok (y, past)) where
        K : Kept (extent_of []) (then_end (read_tree 64 H.head 0) (drop c.at s)) y (drop (past.at - c.at) (drop c.at s))
        K = tree-read H.head few 64 0 c.at (drop c.at s) measured d

        pub root : Tree
        root = K.value

        pub root-reads : read_tree 64 H.head 0 (drop c.at s) ≡ got root []
        unfolding root then_end
        root-reads = then_whole (read_tree 64 H.head 0 (drop c.at s)) K.value (drop (past.at - c.at) (drop c.at s)) K.is

        pub all_read : read_tree_image s ≡ got (image_of H.head root) []
        unfolding then_end at_end
        all_read =
            let g : then_end (read_tree 64 H.head 0) (drop c.at s) ≡ got root [] = rw root-reads in
            from-head ∙ ap (kept (image_of H.head)) g

        size_is : y.size ≡ load_size root
        unfolding root
        size_is = sym (ap (λ (z : Extent). z.size) K.value-is)

        owned-is : y.owned ≡ closed [] root
        unfolding root
        owned-is = sym (ap (λ (z : Extent). z.owned) K.value-is)

        size-to : y.size ≤ 65536
        size-to =
            let g : measure_tree (counts_of H.head) 64 0 none_around (drop c.at s) ≡ got (extent_of [] root) [] =
            sym (tree_is H.head 64 0 none_around [] (around-none few) (drop c.at s)) ∙ ap (kept (extent_of [])) root-reads in
            let p = tree-small (counts_of H.head) 64 0 none_around (drop c.at s) g in
            let k = length-drop c.at s in
            omega (arith, p, size_is)

        one_byte : 2 < 128
        one_byte = omega arith

        pub unowned : y.owned ≡ false → JudgesTree s (Err refusal.Unowned)
        unowned o = record { judges = λ st. bad-image tree_kind s st (image-short read_owned s short ∙ owned-not s all_read (sym owned-is ∙ o)) }

        good : (st : List ℕ) → y.owned ≡ true → Good tree_kind s st (record { front = record { head = h; end = c.at }; root = c.at; size = y.size; bindings = 0 })
        unfolding most_nesting binds_of binds_from
        good st o = record {
          image = image_of H.head root;
          reads = image-short read_owned s short ∙ owned-goes s all_read (sym owned-is ∙ o);
          bytes = bytes_of s known;
          short = short;
          head-is = H.is;
          head-fits = H.fits;
          headed = headed-by H one_byte short;
          same-words = headed-words H one_byte short;
          names-from = names-from H;
          names-to = names-to H;
          scopes-to = scopes-to H;
          binds-are = refl;
          few-binds = omega arith;
          root-within = H.within;
          root-reads = root-reads;
          size_is = size_is;
          size-to = size-to;
        }

        pub all-good : y.owned ≡ true → JudgesTree s (Ok (record { front = record { head = h; end = c.at }; root = c.at; size = y.size; bindings = 0 }))
        unfolding good
        all-good o = record { judges = λ st. good-image tree_kind s st (good st o) H.reads }

pub tree-long : (s : List ℕ) → 65536 < length s → JudgesTree s (Err refusal.OverLimit)
tree-long s h = record { judges = λ st. too_long_lem tree_kind s st h }
