-- The whole syntax image: one law for each way out.
use Rattle.std.specs.Prelude.{Result, Ok, Err}
use Prim.Native.Nat.{ℕ, ◌+◌, ◌-◌, ◌≤◌, ◌<◌}
use mathlib.Core.Path.{◌≡◌, refl, sym, ap, ◌∙◌, subst}
use mathlib.Core.List.{List, []}
use native.Mathlib.Omega.{arith}
use lib.ListN.{length, drop, get_or, length-drop}
use lib.Seq.{drop-drop}
use mir.Syntax.{w8}
use mir.Val.{Fits}
use Rattle.model.specs.Limits.{most_nesting}
use Rattle.model.specs.Refusals as r
use Rattle.model.specs.Objects.{Stx, size}
use Rattle.model.specs.Resolving.{Bind}
use Rattle.model.specs.Reading as m
use Rattle.model.specs.Reading.{Read, got, fault, next, Image, symbols, at_end, read_head, read_binds, read_stx, read_syntax}
use Rattle.refusals.specs.Refusing.{refusal_of}
use Rattle.refusals.specs.declared.Refusal.{Refusal}
use Rattle.numbers.specs.declared.Cursor.{Cursor}
use Rattle.numbers.specs.Answers.{kept}
use Rattle.numbers.proofs.Answering.{Kept, kept-got}
use Rattle.store.specs.Words.{binds_of}
use Rattle.roots.specs.MeasuredObjects.{measure_stx}
use Rattle.roots.proofs.ObjectSizes.{object-sized, sized-is}
use Rattle.roots.proofs.ObjectsKept.{stx-is}
use Rattle.roots.specs.Measuring.{then_end, whole_syntax}
use Rattle.bindings.specs.Sections.{read_all}
use Rattle.head.specs.declared.Counts.{Counts}
use Rattle.bindings.proofs.Definition.{reads-binds}
use Rattle.head.specs.Heads.{head_at, declares}
use Rattle.head.specs.declared.Head.{Head}
use Rattle.head.specs.declared.Front.{Front}
use Rattle.image.specs.Judging.{measure_rest, size_in, RestGood, BehindHead, syntax_kind, Good, Judges}
use Rattle.image.proofs.Answers.{bad-image, good-image}
use Rattle.image.proofs.Heads.{bytes_of, image-short, HeadHere, head-here, head-fault, name-count, scope-count, symbol-count, names-from, names-to, scopes-to, headed-by, headed-words, behind-head}
use Rattle.image.specs.declared.Judgement.{Judgement}

-- ---- behind the head h, whose counts are n

abbrev finish : m.Head → List Bind → Stx → List ℕ → Read (Image Stx)
finish h bs x t = next (at_end t) (λ y w. got (record { head = h; binds = bs; root = x }) w)

record Agree (n : Counts) (h : m.Head) : Type 0 where
  symbols-are : n.symbols ≡ symbols h
  names-are : n.names ≡ h.names
  scopes-are : n.scopes ≡ h.scopes

module _ (n : Counts) (h : m.Head) (ag : Agree n h) where
  same-binds : (u : List ℕ) → read_all n u ≡ read_binds h u
  same-binds u = reads-binds n h ag.symbols-are ag.names-are ag.scopes-are u

  same-root : (v : List ℕ) → kept size (read_stx most_nesting h v) ≡ measure_stx n.symbols n.scopes 64 v
  unfolding most_nesting
  same-root v = stx-is h 64 v ∙ rw (← ag.symbols-are, ← ag.scopes-are)

  rest-fault : (u : List ℕ) (f : r.Refusal) → measure_rest n u ≡ fault f → next (read_binds h u) (λ bs v. next (read_stx most_nesting h v) (finish h bs)) ≡ fault f
  unfolding measure_rest whole_syntax then_end
  rest-fault u f e = go (read_binds h u) (subst (λ (g : Read (List Bind)). next {B = ℕ} g (λ b. whole_syntax n) ≡ fault f) (same-binds u) e)
    where
      ended : (x : Stx) (bs : List Bind) (g : Read (Unit {0})) → next g (λ y w. got (size x) w) ≡ fault f → next {B = Image Stx} g (λ y w. got (record { head = h; binds = bs; root = x }) w) ≡ fault f
      ended x bs (fault y) e = let i : y ≡ f = cc in ap fault i
      ended x bs (got y w) e = let z : ◌≡◌ {A = ℕ} 0 1 = cc in absurd (omega arith)

      rooted : (bs : List Bind) (g : Read Stx) → next (kept size g) (λ k t. next (at_end t) (λ x w. got k w)) ≡ fault f → next g (finish h bs) ≡ fault f
      rooted bs (fault x) e = let i : x ≡ f = cc in ap fault i
      rooted bs (got x t) e = ended x bs (at_end t) e

      go : (g : Read (List Bind)) → next {B = ℕ} g (λ b. whole_syntax n) ≡ fault f → next g (λ bs v. next (read_stx most_nesting h v) (finish h bs)) ≡ fault f
      go (fault x) e = let i : x ≡ f = cc in ap fault i
      go (got bs v) e = rooted bs (read_stx most_nesting h v) (subst (λ (g : Read ℕ). next {B = ℕ} g (λ k t. next (at_end t) (λ x w. got k w)) ≡ fault f) (sym (same-root v)) e)

-- ---- the ways out

module _ (s l : List ℕ) (known : (i : ℕ) → Fits w8 (get_or s i 0)) (short : length s ≤ 65536) {q : Result (Head × Cursor) Refusal} (a : q ≡ head_at (length s) (read_head 1 s)) where
  pub head-stops : {f : Refusal} {x : Result Judgement Refusal} → q ≡ Err f → x ≡ Err f → Judges syntax_kind s l x
  unfolding read_syntax
  head-stops {f} e y = rw y (bad-image syntax_kind s l (image-short read_syntax s short ∙ rw (head-fault 1 s a e)))

  module _ {h : Head} {c : Cursor} (e : q ≡ Ok (h, c)) where
    H : HeadHere 1 s h c.at
    H = head-here 1 s (bytes_of s known) a e

    abbrev front : Front
    front = record { head = h; end = c.at }

    agree : Agree (declares h) H.head
    agree = record { symbols-are = symbol-count H; names-are = name-count H; scopes-are = scope-count H }

    from-head : read_syntax s ≡ next (read_binds H.head (drop c.at s)) (λ bs v. next (read_stx most_nesting H.head v) (finish H.head bs))
    unfolding read_syntax
    from-head = rw H.reads

    module _ {u : List ℕ} (i : u ≡ drop (c.at - 0) s) {x : Result Judgement Refusal} (w : BehindHead (record { head = h; end = c.at }) u l x) where
      here : u ≡ drop c.at s
      here = behind-head s c.at i

      stopped : {f : Refusal} → x ≡ Err f → Judges syntax_kind s l (Err f)
      stopped {f} d =
          bad-image syntax_kind s l (image-short read_syntax s short ∙ from-head ∙ rest-fault (declares h) H.head agree (drop c.at s) (refusal_of f)
          (subst (λ (v : List ℕ). measure_rest (declares h) v ≡ fault (refusal_of f)) here (w.is ∙ ap size_in d)))

      module _ {j : Judgement} (d : x ≡ Ok j) where
        R : RestGood front u l j
        R = w.good j d

        at-root : drop (j.root - c.at) u ≡ drop j.root s
        at-root =
            let p : c.at + (j.root - c.at) ≡ j.root = omega (arith, R.behind) in
            ap (drop (j.root - c.at)) here ∙ drop-drop (j.root - c.at) c.at s ∙ ap (λ (k : ℕ). drop k s) p

        root_measured : measure_stx (h.words + 4) h.scopes 64 (drop j.root s) ≡ got j.size []
        root_measured = subst (λ (v : List ℕ). measure_stx (h.words + 4) h.scopes 64 v ≡ got j.size []) at-root R.root_measured

        root-here : Kept size (read_stx most_nesting H.head (drop j.root s)) j.size []
        root-here = kept-got size (read_stx most_nesting H.head (drop j.root s)) j.size [] (same-root (declares h) H.head agree (drop j.root s) ∙ root_measured)

        binds-here : read_binds H.head (drop c.at s) ≡ got (binds_of l j.bindings) (drop j.root s)
        binds-here =
            sym (same-binds (declares h) H.head agree (drop c.at s)) ∙ ap (read_all (declares h)) (sym here) ∙ R.binds-read ∙ ap (got (binds_of l j.bindings)) at-root

        whole-image : Image Stx
        whole-image = record { head = H.head; binds = binds_of l j.bindings; root = root-here.value }

        all_read : read_syntax s ≡ got whole-image []
        unfolding whole-image at_end
        all_read = from-head ∙ rw (binds-here, root-here.is)

        size-to : j.size ≤ 65536
        size-to =
            let p = sized-is (object-sized (h.words + 4) h.scopes 64 (drop j.root s)) root_measured in
            let k = length-drop j.root s in
            omega (arith, p)

        one_byte : 1 < 128
        one_byte = omega arith

        root-within : j.root ≤ length s
        root-within =
            let k = ap length here ∙ length-drop c.at s in
            omega (arith, k, R.within, H.within)

        abbrev same : Judgement
        same = record { front = front; root = j.root; size = j.size; bindings = j.bindings }

        good : Good syntax_kind s l same
        unfolding whole-image
        good = record {
          image = whole-image;
          reads = image-short read_syntax s short ∙ all_read;
          bytes = bytes_of s known;
          short = short;
          head-is = H.is;
          head-fits = H.fits;
          headed = headed-by H one_byte short;
          same-words = headed-words H one_byte short;
          names-from = names-from H;
          names-to = names-to H;
          scopes-to = scopes-to H;
          binds-are = refl;
          few-binds = R.few-binds;
          root-within = root-within;
          root-reads = root-here.is;
          size_is = sym root-here.value-is;
          size-to = size-to;
        }

        all-good : Judges syntax_kind s l (Ok j)
        unfolding whole-image good
        all-good =
            let p : same ≡ j = (λ k. record { front = sym R.front-is k; root = j.root; size = j.size; bindings = j.bindings }) in
            subst (λ (y : Judgement). Judges syntax_kind s l (Ok y)) p (good-image syntax_kind s l good H.reads)

      pub rest-judged : Judges syntax_kind s l x
      rest-judged = go x refl
        where
          go : (y : Result Judgement Refusal) → x ≡ y → Judges syntax_kind s l x
          go (Ok j) d = subst (Judges syntax_kind s l) (sym d) (all-good d)
          go (Err f) d = subst (Judges syntax_kind s l) (sym d) (stopped d)
