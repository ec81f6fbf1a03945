-- What a judged image uses, by the steps that the code takes.
use Prim.Native.Nat.{ℕ, zero, suc, ◌+◌, ◌*◌, ◌≤◌, ◌<◌}
use mathlib.Core.Path.{◌≡◌, refl, sym, ap, ap₂, ◌∙◌, subst}
use mathlib.Core.Bool.{Bool, not, ◌||◌, or-false}
use mathlib.Core.List.{List, [], ◌∷◌, ◌++◌, append-nil}
use native.Mathlib.Omega.{arith}
use lib.Dec.{eqb}
use lib.Bits.{bit_or}
use lib.ListN.{length, drop, length-drop}
use Rattle.model.specs.Choice.{when◌then◌else◌}
use Rattle.model.specs.Limits.{most_nesting, most_scopes, most_names}
use Rattle.model.specs.Scopes.{Scopes}
use Rattle.model.specs.Objects.{Stx}
use Rattle.model.specs.Resolving.{Bind}
use Rattle.model.specs.Reading.{got, Head, symbols, Image, read_image, read_syntax}
use Rattle.model.specs.Writing.{stx_bytes}
use Rattle.codec_laws.specs.WellFormed.{BindsFit, SyntaxFits}
use Rattle.codec_laws.proofs.Sequence.{bytes_drop}
use Rattle.codec_laws.proofs.ObjectTrip.{stx_w}
use Rattle.codec_laws.proofs.ImageLaws.{syntax_read_keeps_limits}
use Rattle.shrinking.specs.Shrunk.{used_in, kept, scopes_in, scopes_bound, remaining}
use Rattle.pieces.specs.Pieces.{pieces, pieces_read, root_pieces, pieces_bytes, PiecesFit, used_among, scopes_among}
use Rattle.pieces.proofs.PieceLaws.{no_bytes, none-used, no-scopes, pieces-bytes, pieces-fit, used-among, scopes-among, join-none}
use Rattle.scopes.specs.Sets.{scopes_of}
use Rattle.scopes.specs.declared.ScopeSet.{ScopeSet}
use Rattle.store.specs.Words.{bind_at, binds_from, binds_of}
use Rattle.image.specs.declared.Judgement.{Judgement}
use Rattle.image.specs.Judging.{syntax_kind, Good}
use Rattle.marking.specs.Chains.{Unchained, Chains}
use Rattle.marking.specs.Marks.{marked}
use Rattle.marking.specs.Roots.{RootAt, RootMarkable, MarksRoot}
use Rattle.marking.specs.Kept.{kept_from, kept_of, Keeps}
use Rattle.marking.specs.declared.kept.Kept.{Kept}
use Rattle.shrinker.specs.Using.{kept_read, remaining_read, kept_in, remaining_in, Held, Unused, Uses}

-- ---- a judged image

pub root-pieces : (image rest : List ℕ) (i : Image Stx) → read_image read_syntax image ≡ got i rest → root_pieces image ≡ pieces i.root []
unfolding root_pieces pieces_read
root-pieces image rest i e = ap pieces_read e

pub kept_in_lem : (image rest : List ℕ) (i : Image Stx) → read_image read_syntax image ≡ got i rest → kept_in image ≡ kept i.root i.binds
unfolding kept_read
kept_in_lem image rest i e = ap kept_read e

pub remaining_in_lem : (image rest : List ℕ) (i : Image Stx) → read_image read_syntax image ≡ got i rest → remaining_in image ≡ remaining i.binds i.root
unfolding remaining_read
remaining_in_lem image rest i e = ap remaining_read e

few-scopes : (h : Head) → h.scopes ≤ most_scopes → h.scopes ≤ 256
unfolding most_scopes
few-scopes h l = l

few-names : (h : Head) → h.names ≤ most_names → h.names ≤ 1024
unfolding most_names
few-names h l = l

module _ {image store : List ℕ} {j : Judgement} (h : Held image store j) where
  abbrev pub G : Good syntax_kind image store j
  G = h.good

  abbrev pub I : Image Stx
  I = h.good.image

  pub fits : SyntaxFits I.head I.binds I.root
  fits = syntax_read_keeps_limits image [] I G.bytes G.reads

  pub scopes-few : I.head.scopes ≤ 256
  scopes-few = few-scopes I.head fits.head-fits.scopes-to

  pub symbols-few : symbols I.head ≤ 1024
  symbols-few = let a = fits.head-fits.names-from in let b = few-names I.head fits.head-fits.names-to in omega arith

  same-scopes : j.front.head.scopes ≡ I.head.scopes
  same-scopes = ap (λ x. x.scopes) G.head-is

  pub root-ahead : RootAt image j.front.head.scopes j.root
  root-ahead =
      let t = stx_w most_nesting I.head scopes-few I.root (drop j.root image) [] (bytes_drop j.root image G.bytes) G.root-reads in
      let b : drop j.root image ≡ stx_bytes I.root = t.0.0 ∙ append-nil (stx_bytes I.root) in
      let r = root-pieces image [] I G.reads in
      record {
        few = G.scopes-to;
        short = G.short;
        inside = G.root-within;
        bytes = b ∙ sym (append-nil (stx_bytes I.root)) ∙ ap (λ (s : List ℕ). stx_bytes I.root ++ s) (sym no_bytes) ∙ sym (pieces-bytes I.root []) ∙ ap pieces_bytes (sym r);
        fit = subst (λ (n : ℕ). PiecesFit n (root_pieces image)) (sym same-scopes)
            (subst (PiecesFit I.head.scopes) (sym r) (pieces-fit (symbols I.head) I.head.scopes symbols-few I.root t.1 (short b) [] tt));
      }
    where
      short : drop j.root image ≡ stx_bytes I.root → length (stx_bytes I.root) ≤ 65536
      short b = let d = length-drop j.root image in let l = ap length b in let s = h.good.short in omega arith

-- ---- chains

symbol-fits : (k n m : ℕ) (store : List ℕ) (i c : ℕ) → BindsFit k n m (binds_from store i c) → (p : ℕ) → p < c → (bind_at store (i + p)).symb < k
unfolding binds_from
symbol-fits k n m store i zero f p l = absurd (none p l)
  where
    none : (p : ℕ) → p < 0 → ⊥
    none p l = omega arith
symbol-fits k n m store i (suc c) f zero l = subst (λ (q : ℕ). (bind_at store q).symb < k) (let z : i ≡ i + 0 = omega arith in z) f.0.0
symbol-fits k n m store i (suc c) f (suc p) l =
    subst (λ (q : ℕ). (bind_at store q).symb < k) (let z : suc i + p ≡ i + suc p = omega arith in z) (symbol-fits k n m store (suc i) c f.1 p (omega arith))

module _ {image store : List ℕ} {j : Judgement} {lasts befores marks : List ℕ} (y : Unused image store j lasts befores marks) where
  pub use_unchained : Unchained store lasts befores
  unfolding binds_of
  use_unchained = record {
    held = let a = y.held.good.few-binds in let b = y.held.long in let e = y.befores_long in omega arith;
    symbols = λ i l.
        let f = subst (BindsFit (symbols (I y.held).head) (I y.held).head.names (I y.held).head.scopes) (sym (G y.held).binds-are) (fits y.held).binds-fit in
        let s = symbol-fits (symbols (I y.held).head) (I y.held).head.names (I y.held).head.scopes store 0 j.bindings f i (let e = y.befores_long in omega arith) in
        let a = symbols-few y.held in
        let b = y.symbols in
        small i s a b;
    empty = y.no-chain;
  }
    where
      small : (i : ℕ) → (bind_at store (0 + i)).symb < symbols (I y.held).head → symbols (I y.held).head ≤ 1024 → 1024 ≤ length lasts → (bind_at store i).symb < length lasts
      small i s a b = let e : (bind_at store (0 + i)).symb ≡ (bind_at store i).symb = ap (λ (q : ℕ). (bind_at store q).symb) (let z : 0 + i ≡ i = omega arith in z) in omega arith

  module _ {lasts' befores' : List ℕ} (c : Chains store lasts befores lasts' befores') where
    pub use_markable : RootMarkable store image j.front.head.scopes j.root lasts' befores' marks
    use_markable = record {
      markable = record { chained = c.chained; long = y.marks-long ∙ sym (c.befores_long ∙ y.befores_long) };
      symbols = let a = c.lasts_long in let b = y.symbols in omega arith;
      ahead = root-ahead y.held;
    }

  -- ---- what is kept

  module _ {marks' : List ℕ} {used : ScopeSet} (m : MarksRoot store image marks marks' used) where
    pub use_held : length marks' * 6 ≤ length store
    use_held = let a = y.held.good.few-binds in let b = y.held.long in let e = y.marks-long in let f = m.long in omega arith

    pub use_same : length marks' ≡ length marks
    use_same = m.long

    abbrev X : Stx
    X = (I y.held).root

    pieces_are : root_pieces image ≡ pieces X []
    pieces_are = root-pieces image [] (I y.held) (G y.held).reads

    mark_is : (i : ℕ) → i < length marks → marked marks' i ≡ used_in (bind_at store i) X
    mark_is i l =
        m.are i l
        ∙ ap (λ (v : ℕ). not (eqb v 0) || used_among (bind_at store i) (root_pieces image)) (y.no_mark i)
        ∙ ap (used_among (bind_at store i)) pieces_are ∙ used-among (bind_at store i) X []
        ∙ ap (λ (t : Bool). used_in (bind_at store i) X || t) (none-used (bind_at store i)) ∙ or-false (used_in (bind_at store i) X)

    kept_from_lem : (i c : ℕ) → i + c ≡ length marks → kept_from marks' i (binds_from store i c) ≡ kept X (binds_from store i c)
    unfolding kept_from binds_from kept
    kept_from_lem i zero e = refl
    kept_from_lem i (suc c) e =
        (λ z. when mark_is i (omega arith) z then bind_at store i ∷ kept_from_lem (suc i) c (omega arith) z else kept_from_lem (suc i) c (omega arith) z)

    kept-are : kept_of marks' store ≡ kept_in image
    unfolding binds_of
    kept-are =
        ap (λ (n : ℕ). kept_from marks' 0 (binds_from store 0 n)) m.long ∙ kept_from_lem 0 (length marks) (omega arith)
        ∙ ap (λ (n : ℕ). kept X (binds_from store 0 n)) y.marks-long ∙ ap (kept X) (G y.held).binds-are
        ∙ sym (kept_in_lem image [] (I y.held) (G y.held).reads)

    scopes-are : scopes_of used ≡ scopes_in X
    scopes-are = m.scopes-are ∙ ap scopes_among pieces_are ∙ scopes-among X [] ∙ ap (bit_or (scopes_in X)) no-scopes ∙ join-none (scopes_in X)

    remaining-are : bit_or (scopes_bound (kept_in image)) (scopes_in X) ≡ remaining_in image
    unfolding remaining
    remaining-are =
        ap (λ (l : List Bind). bit_or (scopes_bound l) (scopes_in X)) (kept_in_lem image [] (I y.held) (G y.held).reads) ∙ sym (remaining_in_lem image [] (I y.held) (G y.held).reads)

    pub use_kept : {r : Kept} → Keeps store marks' (scopes_of used) r → Uses image store marks marks' r
    use_kept k = record {
      long = m.long;
      kept-are = kept-are;
      count-is = k.count-is ∙ ap length kept-are;
      few = let a = k.few in let b = m.long in omega arith;
      scopes-are = k.scopes-are ∙ ap₂ (λ (l : List Bind) (s : Scopes). bit_or (scopes_bound l) s) kept-are scopes-are ∙ remaining-are;
    }

pub ruleset use_laws = (use_unchained, use_markable, use_held, use_same, use_kept)
