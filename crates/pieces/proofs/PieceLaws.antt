-- What is said of an object is said of its pieces.
use Prim.Native.Nat.{ℕ, suc, ◌+◌, ◌≤◌, ◌<◌}
use mathlib.Core.Path.{◌≡◌, refl, sym, ap, ◌∙◌}
use mathlib.Core.Bool.{Bool, false, ◌||◌, or_assoc, or-false}
use mathlib.Core.List.{List, [], ◌∷◌, ◌++◌, append_assoc}
use native.Mathlib.Omega.{arith}
use lib.Bits.{bit_or}
use lib.ListN.{length, length-append}
use Rattle.model.specs.Limits.{last_point, last_primitive, last_rung_word}
use Rattle.model.specs.Scopes.{Scope, Scopes, has}
use Rattle.model.specs.Objects.{Atom, symbol, number, point, prim, rung, tag_of, content_of, Sets, Stx, atom, list, Stxs, nil, cons, count, on_sets, on_sets_all}
use Rattle.model.specs.Resolving.{Bind}
use Rattle.model.specs.Writing.{num_bytes, sets_bytes, stx_bytes, stxs_bytes}
use Rattle.laws.proofs.ScopeSets.{set_ext, has-none, has-or}
use Rattle.codec_laws.specs.WellFormed.{AtomFits, StxFits, StxsFit}
use Rattle.codec_laws.proofs.Lengths.{count_le}
use Rattle.codec_laws.proofs.ObjectTrip.{tag_le}
use Rattle.alike.specs.Renumbering.{renumber_sets, renumber_stx}
use Rattle.shrinking.specs.Shrunk.{used_in, used_in_any, joined, scopes_in, scopes_in_all}
use Rattle.pieces.specs.Pieces.{Piece, pieces, pieces_all, piece_bytes, pieces_bytes, PiecesFit, used_at, used_among, scopes_among, renumber_piece, renumber_pieces}

-- ---- of no pieces

pub no_bytes : pieces_bytes [] ≡ []
unfolding pieces_bytes
no_bytes = refl

pub none-used : (b : Bind) → used_among b [] ≡ false
unfolding used_among
none-used b = refl

pub no-scopes : scopes_among [] ≡ 0
unfolding scopes_among
no-scopes = refl

-- ---- their bytes are the object's

mutual
  unfolding pieces pieces_bytes piece_bytes stx_bytes

  pub pieces-bytes : (x : Stx) (l : List Piece) → pieces_bytes (pieces x l) ≡ stx_bytes x ++ pieces_bytes l
  pieces-bytes (atom c a) l = refl
  pieces-bytes (list c p) l =
      ap (λ (s : List ℕ). (num_bytes 5 ++ sets_bytes c ++ num_bytes (count p)) ++ s) (all-bytes p l)
      ∙ sym (append_assoc (num_bytes 5 ++ sets_bytes c ++ num_bytes (count p)) (stxs_bytes p) (pieces_bytes l))

  all-bytes : (p : Stxs) (l : List Piece) → pieces_bytes (pieces_all p l) ≡ stxs_bytes p ++ pieces_bytes l
  all-bytes nil l = refl
  all-bytes (cons x p) l =
      pieces-bytes x (pieces_all p l) ∙ ap (λ (s : List ℕ). stx_bytes x ++ s) (all-bytes p l) ∙ sym (append_assoc (stx_bytes x) (stxs_bytes p) (pieces_bytes l))

-- ---- they fit where the object does

content-small : (k : ℕ) → k ≤ 1024 → (a : Atom) → AtomFits k a → content_of a < 4294967296
unfolding content_of last_point last_primitive last_rung_word
content-small k l (symbol x) f = omega arith
content-small k l (number x) f = f
content-small k l (point x) f = omega arith
content-small k l (prim x) f = omega arith
content-small k l (rung x) f = omega arith

symbol-small : (k : ℕ) → k ≤ 1024 → (a : Atom) → AtomFits k a → tag_of a ≡ 0 → content_of a < 1024
unfolding content_of tag_of
symbol-small k l (symbol x) f e = omega arith
symbol-small k l (number x) f e = absurd (omega arith)
symbol-small k l (point x) f e = absurd (omega arith)
symbol-small k l (prim x) f e = absurd (omega arith)
symbol-small k l (rung x) f e = absurd (omega arith)

module _ (k n : ℕ) (few : k ≤ 1024) where
  mutual
    unfolding pieces stx_bytes

    pub pieces-fit : (x : Stx) → StxFits k n x → length (stx_bytes x) ≤ 65536 → (l : List Piece) → PiecesFit n l → PiecesFit n (pieces x l)
    pieces-fit (atom c a) f s l g =
        let t = tag_le a in
        (record { tag_small = omega arith; symbol-small = symbol-small k few a f.1; sets_in = f.0; content-small = content-small k few a f.1 }, g)
    pieces-fit (list c p) f s l g =
        let e = length-append (num_bytes 5 ++ sets_bytes c ++ num_bytes (count p)) (stxs_bytes p) in
        let m = count_le p in
        (record { tag_small = omega arith; symbol-small = λ e. absurd (no e); sets_in = f.0; content-small = omega arith }, all_fit p f.1 (omega arith) l g)
      where
        no : ◌≡◌ {A = ℕ} 5 0 → ⊥
        no e = omega arith

    all_fit : (p : Stxs) → StxsFit k n p → length (stxs_bytes p) ≤ 65536 → (l : List Piece) → PiecesFit n l → PiecesFit n (pieces_all p l)
    all_fit nil f s l g = g
    all_fit (cons x p) f s l g =
        let e = length-append (stx_bytes x) (stxs_bytes p) in
        pieces-fit x f.0 (omega arith) (pieces_all p l) (all_fit p f.1 (omega arith) l g)

-- ---- what is used in the object is used among them

mutual
  unfolding pieces used_among used_at used_in tag_of content_of

  pub used-among : (b : Bind) (x : Stx) (l : List Piece) → used_among b (pieces x l) ≡ (used_in b x || used_among b l)
  used-among b (atom c (symbol x)) l = refl
  used-among b (atom c (number x)) l = refl
  used-among b (atom c (point x)) l = refl
  used-among b (atom c (prim x)) l = refl
  used-among b (atom c (rung x)) l = refl
  used-among b (list c p) l = used_all b p l

  used_all : (b : Bind) (p : Stxs) (l : List Piece) → used_among b (pieces_all p l) ≡ (used_in_any b p || used_among b l)
  used_all b nil l = refl
  used_all b (cons x p) l =
      used-among b x (pieces_all p l) ∙ ap (λ (t : Bool). used_in b x || t) (used_all b p l) ∙ sym (or_assoc (used_in b x) (used_in_any b p) (used_among b l))

-- ---- and so for scopes

pub join_assoc : (a b c : Scopes) → bit_or (bit_or a b) c ≡ bit_or a (bit_or b c)
join_assoc a b c = set_ext _ _ (λ k. has-or k (bit_or a b) c ∙ ap (λ (t : Bool). t || has k c) (has-or k a b) ∙ or_assoc (has k a) (has k b) (has k c)
    ∙ ap (λ (t : Bool). has k a || t) (sym (has-or k b c)) ∙ sym (has-or k a (bit_or b c)))

pub join-none : (a : Scopes) → bit_or a 0 ≡ a
join-none a = set_ext _ _ (λ k. has-or k a 0 ∙ ap (λ (t : Bool). has k a || t) (has-none k) ∙ or-false (has k a))

mutual
  unfolding pieces scopes_among scopes_in

  pub scopes-among : (x : Stx) (l : List Piece) → scopes_among (pieces x l) ≡ bit_or (scopes_in x) (scopes_among l)
  scopes-among (atom c a) l = refl
  scopes-among (list c p) l =
      ap (bit_or (joined c)) (scopes-all p l) ∙ sym (join_assoc (joined c) (scopes_in_all p) (scopes_among l))

  scopes-all : (p : Stxs) (l : List Piece) → scopes_among (pieces_all p l) ≡ bit_or (scopes_in_all p) (scopes_among l)
  scopes-all nil l = refl
  scopes-all (cons x p) l =
      scopes-among x (pieces_all p l) ∙ ap (bit_or (scopes_in x)) (scopes-all p l) ∙ sym (join_assoc (scopes_in x) (scopes_in_all p) (scopes_among l))

-- ---- renumbered, they are those of the object renumbered

count_on : (g : Sets → Sets) (p : Stxs) → count (on_sets_all g p) ≡ count p
unfolding count on_sets
count_on g nil = refl
count_on g (cons x p) = ap suc (count_on g p)

mutual
  unfolding pieces renumber_pieces renumber_piece on_sets

  on_pieces : (f : Scope → Scope) (x : Stx) (l : List Piece) → pieces (on_sets (renumber_sets f) x) (renumber_pieces f l) ≡ renumber_pieces f (pieces x l)
  on_pieces f (atom c a) l = refl
  on_pieces f (list c p) l =
      (λ i. record { tag = 5; sets = renumber_sets f c; content = count_on (renumber_sets f) p i } ∷ on_all f p l i)

  on_all : (f : Scope → Scope) (p : Stxs) (l : List Piece) → pieces_all (on_sets_all (renumber_sets f) p) (renumber_pieces f l) ≡ renumber_pieces f (pieces_all p l)
  on_all f nil l = refl
  on_all f (cons x p) l = ap (pieces (on_sets (renumber_sets f) x)) (on_all f p l) ∙ on_pieces f x (pieces_all p l)

pub pieces-renumbered : (f : Scope → Scope) (x : Stx) (l : List Piece) → pieces (renumber_stx f x) (renumber_pieces f l) ≡ renumber_pieces f (pieces x l)
unfolding renumber_stx
pieces-renumbered f x l = on_pieces f x l
