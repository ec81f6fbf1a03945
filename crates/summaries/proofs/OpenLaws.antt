-- A tree image opened: one law for each way out.
use Prim.Native.Nat.{ℕ, ◌+◌, ◌-◌, ◌≤◌, ◌<◌}
use mathlib.Core.Path.{◌≡◌, sym, ap, ◌∙◌, subst}
use mathlib.Core.List.{List, [], ◌++◌, append-nil}
use native.Mathlib.Omega.{arith}
use lib.ListN.{length, drop, get_or, length-drop}
use lib.Seq.{drop_at}
use mir.Syntax.{w8}
use mir.Val.{Fits}
use Rattle.std.specs.Prelude.{Result, Ok, Err}
use Rattle.model.specs.Trees as m
use Rattle.model.specs.Reading.{got, fault, Image, read_head, read_tree_image, read_image}
use Rattle.model.specs.Writing.{head_bytes, tree_bytes, tree_image_bytes}
use Rattle.refusals.specs.Refusing.{refusal_of}
use Rattle.refusals.specs.declared.Refusal.{Refusal}
use Rattle.refusals.specs.declared.Refusal.TheVariants as refusal
use Rattle.numbers.specs.declared.Cursor.{Cursor}
use Rattle.numbers.specs.Answers.{read_at}
use Rattle.numbers.proofs.Answering.{err_same, ok_same, ok-err}
use Rattle.numbers.specs.Limits.{most_image}
use Rattle.codec_laws.specs.WellFormed.{TreeFits, TreeImageFits}
use Rattle.codec_laws.proofs.ImageLaws.{tree_read_keeps_limits, tree_read_then_written}
use Rattle.head.specs.Heads.{head_at, declares}
use Rattle.head.specs.declared.Head.{Head}
use Rattle.head.specs.declared.Counts.{Counts}
use Rattle.roots.specs.declared.Extent.{Extent}
use Rattle.roots.specs.Measuring.{whole_tree}
use Rattle.roots.proofs.Kept.{counts_of}
use Rattle.image.proofs.Heads.{bytes_of, image-short, image-long, HeadHere, name-count, scope-count, symbol-count, names-from, names-to, scopes-to, behind-head}
use Rattle.image.proofs.TreeImages.{image_of, head-refused, H, root-refused, root, all_read}
use Rattle.places.specs.Standing.{Declared, At, Tree, Passed, Passes}
use Rattle.places.specs.declared.Span.{Span}
use Rattle.places.proofs.Passing.{size_le}
use Rattle.summaries.specs.declared.opening.Opened.{Opened}
use Rattle.summaries.specs.Opening.{OpenedAt, Opens}

fault_opens : (s : List ℕ) (f : Refusal) → read_image read_tree_image s ≡ fault (refusal_of f) → Opens s (Err f)
fault_opens s f e = record { tree = λ o q. absurd (ok-err (sym q)); refused = λ g q. e ∙ ap (λ (x : Refusal). fault (refusal_of x)) (err_same q) }

tree_opens : (s : List ℕ) (o : Opened) → OpenedAt s o → Opens s (Ok o)
tree_opens s o a = record { tree = λ p q. rw (← ok_same q) a; refused = λ f q. absurd (ok-err q) }

pub open_long : (s : List ℕ) → 65536 < length s → Opens s (Err refusal.OverLimit)
open_long s h = fault_opens s refusal.OverLimit (image-long read_tree_image s h)

module _ (s : List ℕ) (known : (i : ℕ) → Fits w8 (get_or s i 0)) (short : length s ≤ 65536) {q : Result (Head × Cursor) Refusal} (a : q ≡ head_at (length s) (read_head 2 s)) where
  pub open_head : {f : Refusal} → q ≡ Err f → Opens s (Err f)
  open_head {f} e = fault_opens s f (image-short read_tree_image s short ∙ head-refused s known short a e)

  module _ {h : Head} {c : Cursor} (e : q ≡ Ok (h, c)) {u : List ℕ} (i : u ≡ drop (c.at - 0) s) {n : Counts} (ne : n ≡ declares h) {x : Result (Extent × Cursor) Refusal} (w : x ≡ read_at (c.at + length u) (whole_tree n 64 0 u)) where
    pub open_root : {f : Refusal} → x ≡ Err f → Opens s (Err f)
    open_root {f} d = fault_opens s f (image-short read_tree_image s short ∙ root-refused s known short a e i ne w d)

    module _ {y : Extent} {past : Cursor} (d : x ≡ Ok (y, past)) where
      abbrev K : HeadHere 2 s h c.at
      K = H s known short a e

      abbrev read : Image m.Tree
      read = image_of K.head (root s known short a e i ne w d)

      reads : read_image read_tree_image s ≡ got read []
      reads = image-short read_tree_image s short ∙ all_read s known short a e i ne w d

      limits : TreeImageFits K.head read.root
      limits = tree_read_keeps_limits s [] read (bytes_of s known) reads

      written : s ≡ tree_image_bytes K.head read.root
      written = sym (tree_read_then_written s [] read (bytes_of s known) reads)

      declared : Declared n
      declared =
          let z = symbol-count K in
          let b = name-count K in
          let f = scope-count K in
          rw ne (record {
            head = K.head;
            symbols-are = z;
            names-are = b;
            scopes-are = f;
            scopes-few = scopes-to K;
            names-few = names-to K;
            symbols-few = omega (arith, names-from K, names-to K);
          })

      behind : drop c.at s ≡ tree_bytes read.root ++ []
      unfolding tree_image_bytes
      behind =
          ap (drop c.at) written ∙ drop_at (head_bytes 2 K.head) (tree_bytes read.root) c.at (sym K.ends) ∙ sym (append-nil (tree_bytes read.root))

      counts-are : n ≡ counts_of K.head
      counts-are = ne ∙ (λ k. record { symbols = symbol-count K k; names = name-count K k; scopes = scope-count K k })

      fits : TreeFits n.symbols n.names n.scopes read.root
      fits = subst (λ (k : Counts). TreeFits k.symbols k.names k.scopes read.root) (sym counts-are) limits.root-fits

      root-at : At n (drop c.at s) read.root []
      root-at = record { declared = declared; is = behind; fits = fits; shallow = limits.shallow; short = small }
        where
          small : length (tree_bytes read.root) ≤ most_image
          small = let l = ap length behind ∙ ap length (append-nil (tree_bytes read.root)) in omega (arith, length-drop c.at s)

      pub root-tree : Tree n u
      root-tree = subst (λ (v : List ℕ). Tree n v) (sym (behind-head s c.at i)) (record { tree = read.root; rest = []; at = root-at })

      pub open_tree : {sp : Span} → Passes n u c.at sp → Opens s (Ok (record { root = c.at; counts = n; size = sp.size }))
      open_tree {sp} p =
          tree_opens s (record { root = c.at; counts = n; size = sp.size }) (record {
            read = read;
            reads = reads;
            bytes = bytes_of s known;
            short = short;
            head-fits = K.fits;
            written = written;
            root_is = K.ends;
            root-within = K.within;
            at = root-at;
            counts-are = counts-are;
            names-are = declared-names;
            size_is = (passed p).size_is;
            size-to = size_small p;
          })
        where
          passed : Passes n u c.at sp → Passed c.at read.root sp
          passed p = p read.root [] (subst (λ (v : List ℕ). At n v read.root []) (sym (behind-head s c.at i)) root-at)

          size_small : Passes n u c.at sp → sp.size ≤ most_image
          size_small p = omega (arith, (passed p).size_is, size_le read.root, root-at.short)

          declared-names : n.names ≡ K.head.names
          declared-names = ap (λ (z : Counts). z.names) ne ∙ name-count K

pub ruleset open_laws = (open_long, open_head, open_root, root-tree, open_tree)
