-- An object as the list of its pieces, a whole before its parts: each is what stands in an image up to the next.
use Rattle.std.specs.Prelude.{ℕ, ◌<◌, ◌≡◌, Bool, false, ◌&&◌, ◌||◌, List, [], ◌∷◌, ◌++◌, eqb}
use Rattle.std.specs.Int.Bits.{bit_or}
use Rattle.model.specs.Scopes.{Scope, Scopes, no_scopes}
use Rattle.model.specs.Objects.{tag_of, content_of, Sets, Stx, atom, list, Stxs, nil, cons, count}
use Rattle.model.specs.Resolving.{Bind}
use Rattle.model.specs.Reading.{Read, got, fault, Image, read_image, read_syntax}
use Rattle.model.specs.Writing.{num_bytes, sets_bytes}
use Rattle.laws.specs.Ordered.{SetsIn}
use Rattle.alike.specs.Renumbering.{renumber_sets}
use Rattle.shrinking.specs.Shrunk.{contains, joined}

-- tag, sets, and an atom's content or the count of a list's parts
pub record Piece : Type 0 where
  pub tag : ℕ
  pub sets : Sets
  pub content : ℕ

-- those of an object, and `l` behind them
unfoldable mutual
  unfolding tag_of content_of count

  pub pieces : Stx → List Piece → List Piece
  pieces (atom c a) l = record { tag = tag_of a; sets = c; content = content_of a } ∷ l
  pieces (list c p) l = record { tag = 5; sets = c; content = count p } ∷ pieces_all p l

  pub pieces_all : Stxs → List Piece → List Piece
  pieces_all nil l = l
  pieces_all (cons x p) l = pieces x (pieces_all p l)

-- those of an image's root
unfoldable pub pieces_read : Read (Image Stx) → List Piece
unfolding pieces
pieces_read (got i s) = pieces i.root []
pieces_read (fault r) = []

unfoldable pub root_pieces : List ℕ → List Piece
unfolding pieces_read read_image read_syntax
root_pieces image = pieces_read (read_image read_syntax image)

-- ---- their bytes

unfoldable pub piece_bytes : Piece → List ℕ
unfolding num_bytes sets_bytes
piece_bytes p = num_bytes p.tag ++ sets_bytes p.sets ++ num_bytes p.content

unfoldable pub pieces_bytes : List Piece → List ℕ
unfolding piece_bytes
pieces_bytes [] = []
pieces_bytes (p ∷ l) = piece_bytes p ++ pieces_bytes l

-- where n scopes are declared
pub record PieceFits (n : ℕ) (p : Piece) : Type 0 where
  pub tag_small : p.tag < 4294967296
  pub symbol-small : p.tag ≡ 0 → p.content < 1024
  pub sets_in : SetsIn n p.sets
  pub content-small : p.content < 4294967296

abbrev pub PiecesFit : ℕ → List Piece → Type 0
PiecesFit n [] = Unit {0}
PiecesFit n (p ∷ l) = PieceFits n p × PiecesFit n l

-- ---- what is used of bindings and scopes

-- an identifier of b's symbol, whose sets contain that of b at some phase
unfoldable pub used_at : Bind → Piece → Bool
unfolding contains
used_at b p = eqb p.tag 0 && (eqb b.symb p.content && contains b.set p.sets)

unfoldable pub used_among : Bind → List Piece → Bool
unfolding used_at
used_among b [] = false
used_among b (p ∷ l) = used_at b p || used_among b l

unfoldable pub scopes_among : List Piece → Scopes
unfolding joined
scopes_among [] = no_scopes
scopes_among (p ∷ l) = bit_or (joined p.sets) (scopes_among l)

-- ---- renumbered

unfoldable pub renumber_piece : (Scope → Scope) → Piece → Piece
unfolding renumber_sets
renumber_piece f p = record { tag = p.tag; sets = renumber_sets f p.sets; content = p.content }

unfoldable pub renumber_pieces : (Scope → Scope) → List Piece → List Piece
unfolding renumber_piece
renumber_pieces f [] = []
renumber_pieces f (p ∷ l) = renumber_piece f p ∷ renumber_pieces f l
