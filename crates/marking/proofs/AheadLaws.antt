-- The pieces ahead, by the tests that the code makes.
use Prim.Native.Nat.{ℕ, ◌-◌, ◌≤◌, ◌<◌}
use mathlib.Core.Path.{◌≡◌, refl, sym, ap, ◌∙◌, subst}
use mathlib.Core.List.{List, [], ◌∷◌, ◌++◌, append_assoc}
use native.Mathlib.Omega.{arith}
use lib.ListN.{length, drop, length-drop, length-append, drop_of_length-le}
use Rattle.model.specs.Reading.{num}
use Rattle.model.specs.Writing.{num_bytes, sets_bytes}
use Rattle.codec_laws.proofs.NumberTrip.{num_back}
use Rattle.codec_laws.proofs.Lengths.{num-some}
use Rattle.codec_laws.proofs.ObjectTrip.{sets_back}
use Rattle.table.specs.declared.Sets.{Sets}
use Rattle.things.specs.Rep.{sets_of}
use Rattle.builder.specs.Fronts.{ObjectFront, FrontHere, FrontIs, FrontRead}
use Rattle.pieces.specs.Pieces.{Piece, piece_bytes, pieces_bytes, PieceFits, PiecesFit}
use Rattle.marking.specs.Roots.{Ahead}

piece_bytes_lem : (p : Piece) (rest : List ℕ) → piece_bytes p ++ rest ≡ num_bytes p.tag ++ (sets_bytes p.sets ++ (num_bytes p.content ++ rest))
unfolding piece_bytes
piece_bytes_lem p rest = regroup (num_bytes p.tag) (sets_bytes p.sets) (num_bytes p.content) rest
  where
    regroup : (a b c d : List ℕ) → (a ++ b ++ c) ++ d ≡ a ++ (b ++ (c ++ d))
    regroup a b c d = simp append_assoc

pub piece-front : (n : ℕ) (p : Piece) (s rest : List ℕ) → n ≤ 256 → PieceFits n p → s ≡ piece_bytes p ++ rest → ObjectFront n s p.tag p.sets p.content rest
piece-front n p s rest few f e = record {
  behind-tag = sets_bytes p.sets ++ (num_bytes p.content ++ rest);
  behind-sets = num_bytes p.content ++ rest;
  tag_read = ap num (e ∙ piece_bytes_lem p rest) ∙ num_back p.tag _ f.tag_small;
  sets-read = sets_back n p.sets (num_bytes p.content ++ rest) few f.sets_in;
  number_read = num_back p.content rest f.content-small;
}

-- ---- none is ahead at the end, and one before it

no_bytes : (l : List Piece) → pieces_bytes l ≡ [] → l ≡ []
unfolding pieces_bytes
no_bytes [] e = refl
no_bytes (p ∷ l) e =
    let a = ap length (sym (piece_bytes_lem p (pieces_bytes l)) ∙ e) in
    let b = length-append (num_bytes p.tag) (sets_bytes p.sets ++ (num_bytes p.content ++ pieces_bytes l)) in
    let c = num-some p.tag in
    absurd (omega arith)

-- the next piece and those behind it
pub record Next (l : List Piece) : Type 0 where
  pub piece : Piece
  pub behind : List Piece
  pub is : l ≡ piece ∷ behind

some-ahead : (l : List Piece) → 0 < length (pieces_bytes l) → Next l
unfolding pieces_bytes
some-ahead [] h = absurd (omega arith)
some-ahead (p ∷ l) h = record { piece = p; behind = l; is = refl }

module _ {image : List ℕ} {scopes at : ℕ} {l : List Piece} (a : Ahead image scopes at l) where
  pub ahead-end : length image ≤ at → l ≡ []
  ahead-end h = no_bytes l (sym a.bytes ∙ drop_of_length-le image h)

  module _ (h : at < length image) where
    pub next : Next l
    next = some-ahead l (let e = ap length a.bytes in let d = length-drop at image in omega arith)

    next-bytes : drop at image ≡ piece_bytes next.piece ++ pieces_bytes next.behind
    unfolding pieces_bytes
    next-bytes = a.bytes ∙ ap pieces_bytes next.is

    next-fit : PiecesFit scopes (next.piece ∷ next.behind)
    next-fit = subst (PiecesFit scopes) next.is a.fit

    front : ObjectFront scopes (drop at image) next.piece.tag next.piece.sets next.piece.content (pieces_bytes next.behind)
    front = piece-front scopes next.piece (drop at image) (pieces_bytes next.behind) a.few next-fit.0 next-bytes

    pub front-here : FrontHere image at scopes
    front-here = record {
      place = record { inside = a.inside; short = a.short };
      few = a.few;
      tag = next.piece.tag;
      sets = next.piece.sets;
      n = next.piece.content;
      rest = pieces_bytes next.behind;
      is = front;
    }

    module _ {tag : ℕ} {sets : Sets} {number past : ℕ} (r : FrontRead image at scopes tag sets number past) where
      read : FrontIs image at tag sets number past next.piece.tag next.piece.sets next.piece.content (pieces_bytes next.behind)
      read = r.means next.piece.tag next.piece.sets next.piece.content (pieces_bytes next.behind) front

      pub tag_is : tag ≡ next.piece.tag
      tag_is = read.tag_is

      pub sets-are : sets_of sets ≡ next.piece.sets
      sets-are = read.sets-are

      pub number_is : number ≡ next.piece.content
      number_is = read.number_is

      pub ahead_past : at < past
      ahead_past = let m = read.left.moved in omega arith

      pub ahead_less : length image - past < length image - at
      ahead_less = let m = read.left.moved in omega arith

      pub ahead_on : Ahead image scopes past next.behind
      ahead_on = record { few = a.few; short = a.short; inside = read.left.inside; bytes = sym read.left.is; fit = next-fit.1 }

      pub symbol-below : tag ≡ 0 → number < 1024
      symbol-below e = let s = next-fit.0.symbol-small (sym tag_is ∙ e) in let n = number_is in omega arith
