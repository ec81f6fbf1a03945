-- Pieces of text that keep the limits, and what stays of that when scopes are added, flipped or pruned.
use mathlib.Core.Path.{◌≡◌, refl, subst}
use Prim.Native.Nat.{ℕ, suc, ◌≤◌, suc-le-suc}
use native.Mathlib.Nat.{le_trans, le_of_eq, le-max_left, le-max_right}
use native.Mathlib.Omega.{arith}
use mathlib.Core.Option.{some}
use Rattle.model.specs.Limits.{most_nesting}
use Rattle.model.specs.Scopes.{Scopes}
use Rattle.model.specs.Objects.{Sets, Stx, list, Stxs, cons, nesting, nestings, add_scope, flip_scope, prune_scopes}
use Rattle.model.specs.Trees.{Tree, stx, tnesting, as_stx}
use Rattle.model.specs.Steps.{State}
use Rattle.model.specs.Jobs.{closed}
use Rattle.codec_laws.specs.WellFormed.{StxFits, StxsFit}
use Rattle.addresses.proofs.Outcomes.{Kept}
use Rattle.addresses.proofs.Fitting.{stx-more, stxs_more, add_scope_fits, flip_scope-fits, prune_scopes-fits, add_scope_nesting, flip_scope-nesting, prune_scopes-nesting}
use Rattle.addresses.proofs.Evaluated.{TreeGood, stx-is}
use Rattle.addresses.proofs.States.{Grows, kept-grows}

pub up : (n : ℕ) → n ≤ suc n
up n = omega arith

-- ---- where k symbols are declared

module _ (k : ℕ) where
  -- a piece that keeps the limits in the state s
  pub record Piece (s : State) (x : Stx) : Type 0 where
    pub fits : StxFits k s.scopes x
    pub shallow : nesting x ≤ most_nesting

  pub record Pieces (s : State) (l : Stxs) : Type 0 where
    pub fits : StxsFit k s.scopes l
    pub shallow : suc (nestings l) ≤ most_nesting

  pub piece-grows : (s t : State) (x : Stx) → Grows k s t → Piece s x → Piece t x
  piece-grows s t x w i = record { fits = stx-more k w.scopes_le x i.fits; shallow = i.shallow }

  pub pieces_grow : (s t : State) (l : Stxs) → Grows k s t → Pieces s l → Pieces t l
  pieces_grow s t l w i = record { fits = stxs_more k w.scopes_le l i.fits; shallow = i.shallow }

  pub list-pieces : (s : State) (c : Sets) (l : Stxs) → Piece s (list c l) → Pieces s l
  unfolding nesting
  list-pieces s c l i = record { fits = i.fits.1; shallow = i.shallow }

  pub first_piece : (s : State) (x : Stx) (l : Stxs) → Pieces s (cons x l) → Piece s x
  unfolding nesting
  first_piece s x l i = record {
    fits = i.fits.0;
    shallow = le_trans (le_trans (le-max_left (nesting x) (nestings l)) (up (nestings (cons x l)))) i.shallow;
  }

  pub other-pieces : (s : State) (x : Stx) (l : Stxs) → Pieces s (cons x l) → Pieces s l
  unfolding nesting
  other-pieces s x l i =
      record { fits = i.fits.1; shallow = le_trans (suc-le-suc (le-max_right (nesting x) (nestings l))) i.shallow }

  -- a scope that is reached, added or flipped
  pub added : (j ph : ℕ) (x y : Stx) (s t u : State) → j ≤ t.scopes → Grows k s t → Piece s x → (add_scope j ph x ≡ y) × Kept t u → Piece u y
  added j ph x y s t u h w i ad =
      let r : Piece t (add_scope j ph x) = record {
        fits = add_scope_fits k j t.scopes ph h x (stx-more k w.scopes_le x i.fits);
        shallow = le_trans (le_of_eq (add_scope_nesting j ph x)) i.shallow;
      } in
      subst (λ (z : Stx). Piece u z) ad.0 (piece-grows t u (add_scope j ph x) (kept-grows k t u ad.1) r)

  pub flipped : (j ph : ℕ) (x y : Stx) (s u : State) → j ≤ s.scopes → Piece s x → (flip_scope j ph x ≡ y) × Kept s u → Piece u y
  flipped j ph x y s u h i f =
      let r : Piece s (flip_scope j ph x) = record {
        fits = flip_scope-fits k j s.scopes ph h x i.fits;
        shallow = le_trans (le_of_eq (flip_scope-nesting j ph x)) i.shallow;
      } in
      subst (λ (z : Stx). Piece u z) f.0 (piece-grows s u (flip_scope j ph x) (kept-grows k s u f.1) r)

  pub pruned : (p : Scopes) (ph : ℕ) (x y : Stx) (s u : State) → Piece s x → (prune_scopes p ph x ≡ y) × Kept s u → Piece u y
  pruned p ph x y s u i f =
      let r : Piece s (prune_scopes p ph x) = record {
        fits = prune_scopes-fits k p s.scopes ph x i.fits;
        shallow = le_trans (le_of_eq (prune_scopes-nesting p ph x)) i.shallow;
      } in
      subst (λ (z : Stx). Piece u z) f.0 (piece-grows s u (prune_scopes p ph x) (kept-grows k s u f.1) r)

  -- ---- as values

  pub value-piece : (s : State) (v : Tree) (x : Stx) → TreeGood k s.names s.scopes v → as_stx v ≡ some x → Piece s x
  unfolding tnesting
  value-piece s v x g q =
      let h : TreeGood k s.names s.scopes (stx x) = subst (TreeGood k s.names s.scopes) (stx-is v x q) g in
      record { fits = h.fits; shallow = h.shallow }

  pub piece-value : (s : State) (x : Stx) → Piece s x → TreeGood k s.names s.scopes (stx x)
  unfolding tnesting closed
  piece-value s x i = record { fits = i.fits; owned = refl; shallow = i.shallow }
