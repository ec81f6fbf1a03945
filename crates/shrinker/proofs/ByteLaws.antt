-- What is written with new numbers is the smaller image.
use Prim.Native.Nat.{ℕ, ◌^◌, ◌≤◌, ◌<◌}
use mathlib.Core.Path.{◌≡◌, refl, sym, ap, ap₂, ◌∙◌}
use mathlib.Core.List.{List, [], ◌∷◌, ◌++◌, append-nil}
use mathlib.Core.Logic.{inl, inr}
use lib.ListN.{length}
use Rattle.model.specs.Scopes.{Scopes, members}
use Rattle.model.specs.Objects.{Sets, Stx}
use Rattle.model.specs.Resolving.{Bind}
use Rattle.model.specs.Reading.{Image}
use Rattle.model.specs.Writing.{num_bytes, list_bytes, set_bytes, sets_bytes, stx_bytes, bind_bytes, binds_bytes, head_bytes, syntax_bytes}
use Rattle.laws.specs.Ordered.{SetsIn}
use Rattle.laws.proofs.ScopeSets.{Sub}
use Rattle.laws.proofs.Members.{Asc, Small, asc_of}
use Rattle.alike.specs.Renumbering.{mapped, renumber_set, renumber_sets, renumber_stx, renumber_bind}
use Rattle.alike.proofs.RenumberedSets.{small_of}
use Rattle.shrinking.specs.Shrunk.{joined, kept, remaining, rank, renumber_each, with_scopes, shrunk, bytes_of}
use Rattle.shrinking.proofs.Within.{sub_trans, or_sub_left, or_sub_right, BindsUnder, members-new, each-length}
use Rattle.pieces.specs.Pieces.{Piece, pieces, piece_bytes, pieces_bytes, PieceFits, PiecesFit, scopes_among, renumber_piece, renumber_pieces}
use Rattle.pieces.proofs.PieceLaws.{no_bytes, pieces-bytes, pieces-renumbered}
use Rattle.ranking.specs.Ranks.{Ranked}
use Rattle.ranking.specs.Numbered.{numbered, set_by, sets_by, piece_by, pieces_by, bind_by, binds_by}

module _ (u : Scopes) (small : Small u) (ranks : List ℕ) (r : Ranked u ranks) (n : ℕ) (few : n ≤ 256) where
  -- ---- a set within the scopes that remain

  numbers-are : (p : ℕ) (l : List ℕ) → Asc p 256 l → mapped (numbered ranks) l ≡ mapped (rank u) l
  unfolding mapped
  numbers-are p [] a = refl
  numbers-are p (k ∷ l) a = (λ i. r.are k a.1 i ∷ numbers-are k l a.2 i)

  set-by : (m : Scopes) → m < 2 ^ n → Sub m u → set_by ranks m ≡ set_bytes (renumber_set (rank u) m)
  unfolding set_by set_bytes
  set-by m l s =
      let w : Small m = small_of n m few l in
      ap list_bytes (numbers-are 0 (members m) (asc_of m 256 w) ∙ sym (members-new u small m w s))

  sets-by : (c : Sets) → SetsIn n c → Sub (joined c) u → sets_by ranks c ≡ sets_bytes (renumber_sets (rank u) c)
  unfolding sets_by sets_bytes renumber_sets joined
  sets-by c f s =
      let a = set-by c.at0 f.0 (sub_trans _ _ u (or_sub_left c.at0 _) s) in
      let b = set-by c.at1 f.1 (sub_trans _ _ u (sub_trans _ _ _ (or_sub_left c.at1 c.at2) (or_sub_right c.at0 _)) s) in
      let d = set-by c.at2 f.2 (sub_trans _ _ u (sub_trans _ _ _ (or_sub_right c.at1 c.at2) (or_sub_right c.at0 _)) s) in
      (λ i. a i ++ b i ++ d i)

  -- ---- pieces and bindings

  piece-by : (p : Piece) → PieceFits n p → Sub (joined p.sets) u → piece_by ranks p ≡ piece_bytes (renumber_piece (rank u) p)
  unfolding piece_by piece_bytes renumber_piece
  piece-by p f s = ap (λ (b : List ℕ). num_bytes p.tag ++ b ++ num_bytes p.content) (sets-by p.sets f.sets_in s)

  pub pieces-by : (l : List Piece) → PiecesFit n l → Sub (scopes_among l) u → pieces_by ranks l ≡ pieces_bytes (renumber_pieces (rank u) l)
  unfolding pieces_by pieces_bytes renumber_pieces scopes_among
  pieces-by [] f s = refl
  pieces-by (p ∷ l) f s =
      ap₂ (λ (a b : List ℕ). a ++ b) (piece-by p f.0 (sub_trans _ _ u (or_sub_left (joined p.sets) (scopes_among l)) s))
      (pieces-by l f.1 (sub_trans _ _ u (or_sub_right (joined p.sets) (scopes_among l)) s))

  bind-by : (b : Bind) → b.set < 2 ^ n → Sub b.set u → bind_by ranks b ≡ bind_bytes (renumber_bind (rank u) b)
  unfolding bind_by bind_bytes renumber_bind
  bind-by b f s = ap (λ (z : List ℕ). num_bytes b.symb ++ num_bytes b.target ++ z) (set-by b.set f s)

  pub binds-by : (l : List Bind) → BindsUnder u n l → binds_by ranks l ≡ binds_bytes (renumber_each (rank u) l)
  unfolding binds_by binds_bytes renumber_each
  binds-by [] w = refl
  binds-by (b ∷ l) w =
      let h = w b (inl refl) in
      ap₂ (λ (x y : List ℕ). x ++ y) (bind-by b h.0 h.1) (binds-by l (λ c i. w c (inr i)))

-- ---- the whole image

no_pieces : (f : ℕ → ℕ) → renumber_pieces f [] ≡ []
unfolding renumber_pieces
no_pieces f = refl

pub root-bytes : (f : ℕ → ℕ) (x : Stx) → pieces_bytes (renumber_pieces f (pieces x [])) ≡ stx_bytes (renumber_stx f x)
root-bytes f x =
    ap pieces_bytes (sym (pieces-renumbered f x []) ∙ ap (pieces (renumber_stx f x)) (no_pieces f))
    ∙ pieces-bytes (renumber_stx f x) [] ∙ ap (λ (s : List ℕ). stx_bytes (renumber_stx f x) ++ s) no_bytes ∙ append-nil (stx_bytes (renumber_stx f x))

pub parts : (i : Image Stx)
    → bytes_of (shrunk i)
    ≡ head_bytes 1 (with_scopes (length (members (remaining i.binds i.root))) i.head) ++ num_bytes (length (kept i.root i.binds))
    ++ binds_bytes (renumber_each (rank (remaining i.binds i.root)) (kept i.root i.binds)) ++ stx_bytes (renumber_stx (rank (remaining i.binds i.root)) i.root)
unfolding bytes_of shrunk syntax_bytes
parts i =
    ap (λ (k : ℕ). head_bytes 1 (with_scopes (length (members (remaining i.binds i.root))) i.head) ++ num_bytes k
    ++ binds_bytes (renumber_each (rank (remaining i.binds i.root)) (kept i.root i.binds)) ++ stx_bytes (renumber_stx (rank (remaining i.binds i.root)) i.root))
    (each-length (rank (remaining i.binds i.root)) (kept i.root i.binds))
