-- What a caller knows of what comes next.
use Prim.Native.Nat.{ℕ, ◌-◌, ◌<◌, ◌≤◌}
use mathlib.Core.Path.{◌≡◌, subst}
use mathlib.Core.Bool.{true, false}
use mathlib.Core.List.{List, []}
use native.Mathlib.Omega.{arith}
use lib.ListN.{length, drop}
use Rattle.std.specs.Prelude.{Option, None, Some}
use Rattle.requests.specs.Tokens.{Leaf, word, opening, closing, bad, one, tokens}
use Rattle.tokens.specs.Pieces.{means, is_bad}
use Rattle.tokens.specs.Nexts.{Goes, part, PieceAt, ShowsToken, ShowsNext, NextIs}
use Rattle.tokens.specs.declared.pieces.Piece as pieces
use Rattle.tokens.specs.declared.pieces.Piece.TheVariants.{Bad, Word, Atom, Over}
use Rattle.tokens.specs.declared.Token.{Token}
use Rattle.tokens.specs.declared.Token.TheVariants.{Open, Close, Piece}

module _ {text : List ℕ} {at : ℕ} {r : Option (Token × ℕ)} (h : NextIs text at r) where
  pub next-end : r ≡ None → tokens (drop at text) ≡ []
  next-end e = subst (ShowsNext text at) e h.is

  module _ {t : Token} {to : ℕ} (e : r ≡ Some (t, to)) where
    next-shown : ShowsToken text at to t
    next-shown = subst (ShowsNext text at) e h.is

    pub next_open : t ≡ Open → Goes text at to opening
    next_open i = subst (ShowsToken text at to) i next-shown

    pub next_close : t ≡ Close → Goes text at to closing
    next_close i = subst (ShowsToken text at to) i next-shown

    pub next-piece : {p : pieces.Piece} {from : ℕ} → t ≡ Piece p from → PieceAt text at p from to
    next-piece i = subst (ShowsToken text at to) i next-shown

    onward : (at < to) × (to ≤ length text)
    onward = go t next-shown
      where
        go : (t : Token) → ShowsToken text at to t → (at < to) × (to ≤ length text)
        go Open g = (g.onward, g.within)
        go Close g = (g.onward, g.within)
        go (Piece p from) g = (g.goes.onward, g.goes.within)

    -- a loop from token to token ends
    pub less-next : length text - to < length text - at
    less-next = let o = onward in omega (arith, o.0, o.1)

pub ruleset onward_laws = (less-next)

-- ---- pieces

module _ {text : List ℕ} {at from to : ℕ} {p : pieces.Piece} (a : PieceAt text at p from to) where
  pub piece-bad : is_bad p ≡ true → a.token ≡ bad
  piece-bad e = go p e a.means.is
    where
      go : (p : pieces.Piece) → is_bad p ≡ true → means a.token (part text from to) p → a.token ≡ bad
      go Bad e m = m
      go Word e m = absurd (let z : ◌≡◌ {A = ℕ} 0 1 = cc in omega arith)
      go (Atom g n) e m = absurd (let z : ◌≡◌ {A = ℕ} 0 1 = cc in omega arith)
      go Over e m = absurd (let z : ◌≡◌ {A = ℕ} 0 1 = cc in omega arith)

  pub piece-leaf : is_bad p ≡ false → (l : Leaf) × (a.token ≡ one l)
  piece-leaf e = go p e a.means.is
    where
      go : (p : pieces.Piece) → is_bad p ≡ false → means a.token (part text from to) p → (l : Leaf) × (a.token ≡ one l)
      go Bad e m = absurd (let z : ◌≡◌ {A = ℕ} 0 1 = cc in omega arith)
      go Word e m = (word (part text from to), m)
      go (Atom g n) e m = (m.leaf, m.is)
      go Over e m = (m.leaf, m.is)
