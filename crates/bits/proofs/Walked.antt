-- The bytes of a tree that has neither list nor syntax values, outside or inside, are its tokens, a whole before its parts.
use Prim.Native.Nat.{ℕ, zero, suc, ◌+◌, ◌-◌, ◌≤◌, ◌<◌}
use mathlib.Core.Path.{◌≡◌, refl, ap, ◌∙◌}
use mathlib.Core.Bool.{false}
use mathlib.Core.List.{List, [], ◌++◌, append_assoc}
use native.Mathlib.Omega.{arith}
use lib.Dec.{eqb}
use lib.ListN.{length, length-append}
use Rattle.model.specs.Limits.{last_point, last_primitive, last_rung_word}
use Rattle.model.specs.Objects.{Atom, symbol, number, point, prim, rung, tag_of, content_of}
use Rattle.model.specs.Trees.{Tree, var, app, fun, datum, lst, stx, Trees, tnil, tcons, tcount, tsize_by, tsizes_by}
use Rattle.model.specs.Reading.{Head, got, num, byte, symbols}
use Rattle.model.specs.Writing.{num_bytes, stx_bytes, tree_bytes, trees_bytes}
use Rattle.codec_laws.specs.WellFormed.{AtomFits, TreeFits, TreesFit}
use Rattle.codec_laws.proofs.NumberTrip.{num_back}
use Rattle.codec_laws.proofs.Lengths.{left_le, right_le, num-some, tcount_le}
use Rattle.codec_laws.proofs.ObjectTrip.{tag_le}
use Rattle.codec_laws.proofs.TreeTrip.{Counts}
use Rattle.numbers.specs.Limits.{most_image}
use Rattle.bits.specs.Tokens.{read_content, read_kind, read_behind, read_token}
use Rattle.bits.specs.Meeting.{Met, meet, along}
use Rattle.bits.specs.declared.Token.{Token}

abbrev mutual
  pub Plain : Tree → Type 0
  Plain (var n) = Unit {0}
  Plain (app h l) = Plain h × PlainAll l
  Plain (fun n b) = Plain b
  Plain (datum a) = Unit {0}
  Plain (lst l) = ⊥
  Plain (stx s) = ⊥

  pub PlainAll : Trees → Type 0
  PlainAll tnil = Unit {0}
  PlainAll (tcons t l) = Plain t × PlainAll l

-- a token that is no atom
abbrev pub token : ℕ → ℕ → Token
token tag x = record { tag = tag; kind = 0; content = x }

abbrev pub atom_token : ℕ → ℕ → Token
atom_token kind x = record { tag = 3; kind = kind; content = x }

-- ---- the tokens, met in turn

unfoldable mutual
  unfolding meet tcount tag_of content_of

  pub walked : Tree → Met → Met
  walked (var n) m = meet m (token 0 n)
  walked (app h l) m = walked_all l (walked h (meet m (token 1 (suc (tcount l)))))
  walked (fun n b) m = walked b (meet m (token 2 n))
  walked (datum a) m = meet m (atom_token (tag_of a) (content_of a))
  walked (lst l) m = m
  walked (stx s) m = m

  pub walked_all : Trees → Met → Met
  walked_all tnil m = m
  walked_all (tcons t l) m = walked_all l (walked t m)

-- as many as the tree's size
unfoldable tokens : Tree → ℕ
unfolding tsize_by
tokens t = tsize_by (λ s. 1) t

unfoldable tokens_all : Trees → ℕ
unfolding tsizes_by
tokens_all l = tsizes_by (λ s. 1) l

mutual
  unfolding tokens tokens_all tsize_by tsizes_by tree_bytes trees_bytes

  tokens-fit : (t : Tree) → tokens t ≤ length (tree_bytes t)
  tokens-fit (var n) = omega (arith, length-append (num_bytes 0) (num_bytes n), num-some 0)
  tokens-fit (app h l) =
      omega (
        arith,
        length-append (num_bytes 1 ++ num_bytes (suc (tcount l)) ++ tree_bytes h) (trees_bytes l),
        length-append (num_bytes 1 ++ num_bytes (suc (tcount l))) (tree_bytes h),
        length-append (num_bytes 1) (num_bytes (suc (tcount l))),
        num-some 1,
        tokens-fit h,
        all_tokens_fit l,
      )
  tokens-fit (fun n b) = omega (arith, length-append (num_bytes 2 ++ num_bytes n) (tree_bytes b), length-append (num_bytes 2) (num_bytes n), num-some 2, tokens-fit b)
  tokens-fit (datum a) = omega (arith, length-append (num_bytes 3 ++ num_bytes (tag_of a)) (num_bytes (content_of a)), length-append (num_bytes 3) (num_bytes (tag_of a)), num-some 3)
  tokens-fit (lst l) = omega (arith, length-append (num_bytes 4 ++ num_bytes (tcount l)) (trees_bytes l), length-append (num_bytes 4) (num_bytes (tcount l)), num-some 4, all_tokens_fit l)
  tokens-fit (stx s) = omega (arith, length-append (num_bytes 5) (stx_bytes s), num-some 5)

  all_tokens_fit : (l : Trees) → tokens_all l ≤ length (trees_bytes l)
  all_tokens_fit tnil = omega arith
  all_tokens_fit (tcons t l) = omega (arith, length-append (tree_bytes t) (trees_bytes l), tokens-fit t, all_tokens_fit l)

-- ---- a token written is read back

pub token_back : (tag x : ℕ) (rest : List ℕ) → eqb tag 3 ≡ false → tag < 4294967296 → x < 4294967296 → read_token ((num_bytes tag ++ num_bytes x) ++ rest) ≡ got (token tag x) rest
unfolding read_token read_behind read_content
token_back tag x rest e h k = rw (append_assoc (num_bytes tag) (num_bytes x) rest, num_back tag (num_bytes x ++ rest) h, e, num_back x rest k)

pub atom_token_back : (kind x : ℕ) (rest : List ℕ) → kind < 4294967296 → x < 4294967296 → read_token ((num_bytes 3 ++ num_bytes kind ++ num_bytes x) ++ rest) ≡ got (atom_token kind x) rest
unfolding read_token read_behind read_kind read_content
atom_token_back kind x rest h k =
    rw (
      append_assoc (num_bytes 3 ++ num_bytes kind) (num_bytes x) rest,
      append_assoc (num_bytes 3) (num_bytes kind) (num_bytes x ++ rest),
      num_back 3 (num_bytes kind ++ (num_bytes x ++ rest)) (omega arith),
      num_back kind (num_bytes x ++ rest) h,
      num_back x rest k,
    )

pub content-small : (k : ℕ) (a : Atom) → k < 4294967296 → AtomFits k a → content_of a < 4294967296
unfolding content_of last_point last_primitive last_rung_word
content-small k (symbol x) h f = omega arith
content-small k (number x) h f = f
content-small k (point x) h f = omega arith
content-small k (prim x) h f = omega arith
content-small k (rung x) h f = omega arith

-- ---- along the bytes

along-step : (fuel left : ℕ) (m : Met) (s rest : List ℕ) (t : Token) → fuel ≡ suc left → read_token s ≡ got t rest → along fuel m s ≡ along left (meet m t) rest
unfolding along
along-step fuel left m s rest t e r = rw (e, r)

mutual
  unfolding tree_bytes trees_bytes walked walked_all tokens tokens_all tsize_by tsizes_by

  tree-along : (h : Head) → Counts h → (t : Tree) → TreeFits (symbols h) h.names h.scopes t → Plain t → length (tree_bytes t) ≤ most_image
      → (fuel left : ℕ) → fuel ≡ tokens t + left → (m : Met) (rest : List ℕ) → along fuel m (tree_bytes t ++ rest) ≡ along left (walked t m) rest
  tree-along h k (var n) f p s fuel left e m rest =
      along-step fuel left m ((num_bytes 0 ++ num_bytes n) ++ rest) rest (token 0 n) (omega arith) (token_back 0 n rest refl (omega arith) (omega (arith, k.names-few)))
  tree-along h k (app g l) f p s fuel left e m rest =
      let short : length (trees_bytes l) ≤ most_image = right_le most_image (num_bytes 1 ++ num_bytes (suc (tcount l)) ++ tree_bytes g) (trees_bytes l) s in
      let before = left_le most_image (num_bytes 1 ++ num_bytes (suc (tcount l)) ++ tree_bytes g) (trees_bytes l) s in
      ap (along fuel m)
      (append_assoc (num_bytes 1 ++ num_bytes (suc (tcount l)) ++ tree_bytes g) (trees_bytes l) rest ∙ append_assoc (num_bytes 1 ++ num_bytes (suc (tcount l))) (tree_bytes g) (trees_bytes l ++ rest))
      ∙ along-step fuel (tokens g + (tokens_all l + left)) m ((num_bytes 1 ++ num_bytes (suc (tcount l))) ++ (tree_bytes g ++ (trees_bytes l ++ rest))) (tree_bytes g ++ (trees_bytes l ++ rest)) (token 1 (suc (tcount l)))
      (omega arith) (token_back 1 (suc (tcount l)) (tree_bytes g ++ (trees_bytes l ++ rest)) refl (omega arith) (omega (arith, short, tcount_le l)))
      ∙ tree-along h k g f.0 p.0 (right_le most_image (num_bytes 1 ++ num_bytes (suc (tcount l))) (tree_bytes g) before) (tokens g + (tokens_all l + left)) (tokens_all l + left) refl (meet m (token 1 (suc (tcount l)))) (trees_bytes l ++ rest)
      ∙ trees-along h k l f.1 p.1 short (tokens_all l + left) left refl (walked g (meet m (token 1 (suc (tcount l))))) rest
  tree-along h k (fun n b) f p s fuel left e m rest =
      ap (along fuel m) (append_assoc (num_bytes 2 ++ num_bytes n) (tree_bytes b) rest)
      ∙ along-step fuel (tokens b + left) m ((num_bytes 2 ++ num_bytes n) ++ (tree_bytes b ++ rest)) (tree_bytes b ++ rest) (token 2 n) (omega arith)
      (token_back 2 n (tree_bytes b ++ rest) refl (omega arith) (omega (arith, f.0, k.names-few)))
      ∙ tree-along h k b f.1 p (right_le most_image (num_bytes 2 ++ num_bytes n) (tree_bytes b) s) (tokens b + left) left refl (meet m (token 2 n)) rest
  tree-along h k (datum a) f p s fuel left e m rest =
      along-step fuel left m ((num_bytes 3 ++ num_bytes (tag_of a) ++ num_bytes (content_of a)) ++ rest) rest (atom_token (tag_of a) (content_of a)) (omega arith)
      (atom_token_back (tag_of a) (content_of a) rest (omega (arith, tag_le a)) (content-small (symbols h) a k.symbols-few f))
  tree-along h k (lst l) f p s fuel left e m rest = absurd p
  tree-along h k (stx x) f p s fuel left e m rest = absurd p

  trees-along : (h : Head) → Counts h → (l : Trees) → TreesFit (symbols h) h.names h.scopes l → PlainAll l → length (trees_bytes l) ≤ most_image
      → (fuel left : ℕ) → fuel ≡ tokens_all l + left → (m : Met) (rest : List ℕ) → along fuel m (trees_bytes l ++ rest) ≡ along left (walked_all l m) rest
  trees-along h k tnil f p s fuel left e m rest = let q : fuel ≡ left = omega arith in ap (λ (z : ℕ). along z m rest) q
  trees-along h k (tcons t l) f p s fuel left e m rest =
      ap (along fuel m) (append_assoc (tree_bytes t) (trees_bytes l) rest)
      ∙ tree-along h k t f.0 p.0 (left_le most_image (tree_bytes t) (trees_bytes l) s) fuel (tokens_all l + left) (omega arith) m (trees_bytes l ++ rest)
      ∙ trees-along h k l f.1 p.1 (right_le most_image (tree_bytes t) (trees_bytes l) s) (tokens_all l + left) left refl (walked t m) rest

along-end : (fuel : ℕ) (m : Met) → along fuel m [] ≡ m
unfolding along read_token num byte
along-end zero m = refl
along-end (suc fuel) m = refl

pub tree_walked : (h : Head) → Counts h → (t : Tree) → TreeFits (symbols h) h.names h.scopes t → Plain t → length (tree_bytes t) ≤ most_image
    → (m : Met) → along (length (tree_bytes t)) m (tree_bytes t ++ []) ≡ walked t m
tree_walked h k t f p s m =
    tree-along h k t f p s (length (tree_bytes t)) (length (tree_bytes t) - tokens t) (omega (arith, tokens-fit t)) m [] ∙ along-end (length (tree_bytes t) - tokens t) (walked t m)
