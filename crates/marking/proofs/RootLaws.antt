-- The root marked piece by piece, by the steps that the code takes.
use Prim.Native.Nat.{ℕ, ◌-◌, ◌≤◌, ◌<◌}
use mathlib.Core.Path.{◌≡◌, refl, sym, ap, ap₂, ◌∙◌}
use mathlib.Core.Bool.{Bool, false, ◌&&◌, ◌||◌, or_assoc, or-false}
use mathlib.Core.List.{List, ◌∷◌}
use native.Mathlib.Omega.{arith}
use lib.Dec.{eqb}
use lib.Bits.{bit_or}
use lib.ListN.{length}
use borrow.Author.Tests.{eq-eqb, ne_eqb}
use Rattle.model.specs.Scopes.{Scopes}
use Rattle.model.specs.Objects as m
use Rattle.model.specs.Resolving.{Bind}
use Rattle.shrinking.specs.Shrunk.{contains, joined}
use Rattle.scopes.specs.Sets.{scopes_of}
use Rattle.scopes.specs.declared.ScopeSet.{ScopeSet}
use Rattle.table.specs.declared.Sets.{Sets}
use Rattle.things.specs.Rep.{sets_of}
use Rattle.store.specs.Words.{bind_at}
use Rattle.builder.specs.Fronts.{FrontHere, FrontRead}
use Rattle.pieces.specs.Pieces.{Piece, root_pieces, used_at, used_among, scopes_among}
use Rattle.pieces.proofs.PieceLaws.{none-used, no-scopes, join_assoc, join-none}
use Rattle.marking.specs.Marks.{marked, used_by, Markable, Identifies, Marks}
use Rattle.marking.specs.Roots.{Ahead, RootMarkable, MarksRoot}
use Rattle.marking.proofs.AheadLaws.{Next, next, front-here, tag_is, sets-are, number_is, ahead_less, ahead_on, ahead-end, symbol-below}

-- ---- one piece

used-more : (b : Bind) (p : Piece) (l : List Piece) → used_among b (p ∷ l) ≡ (used_at b p || used_among b l)
unfolding used_among
used-more b p l = refl

scopes-more : (p : Piece) (l : List Piece) → scopes_among (p ∷ l) ≡ bit_or (joined p.sets) (scopes_among l)
unfolding scopes_among
scopes-more p l = refl

none-join : (a : Scopes) → bit_or 0 a ≡ a
none-join a = refl

used-symbol : (b : Bind) (p : Piece) → p.tag ≡ 0 → used_at b p ≡ used_by p.content p.sets b
unfolding used_at
used-symbol b p e = ap (λ (t : Bool). t && (eqb b.symb p.content && contains b.set p.sets)) (eq-eqb p.tag 0 e)

used-other : (b : Bind) (p : Piece) → (p.tag ≡ 0 → ⊥) → used_at b p ≡ false
unfolding used_at
used-other b p n = ap (λ (t : Bool). t && (eqb b.symb p.content && contains b.set p.sets)) (ne_eqb p.tag 0 n)

-- ---- all of them

pub record Rooting (store image : List ℕ) (scopes : ℕ) (lasts befores marks₀ marks : List ℕ) (at : ℕ) (used : Scopes) : Type 0 where
  pub markable : Markable store lasts befores marks₀
  pub symbols : 1024 ≤ length lasts
  pub long : length marks ≡ length marks₀
  pub rest : List Piece
  pub ahead : Ahead image scopes at rest
  pub are : (i : ℕ) → i < length marks₀ → (marked marks i || used_among (bind_at store i) rest) ≡ (marked marks₀ i || used_among (bind_at store i) (root_pieces image))
  pub scopes-are : bit_or used (scopes_among rest) ≡ scopes_among (root_pieces image)

pub rooting_start : {store image lasts befores marks : List ℕ} {scopes root : ℕ} {used : Scopes} → RootMarkable store image scopes root lasts befores marks → used ≡ 0
    → Rooting store image scopes lasts befores marks marks root used
rooting_start {image = image} r e = record {
  markable = r.markable;
  symbols = r.symbols;
  long = refl;
  rest = root_pieces image;
  ahead = r.ahead;
  are = λ i l. refl;
  scopes-are = ap (λ (u : Scopes). bit_or u (scopes_among (root_pieces image))) e ∙ none-join (scopes_among (root_pieces image));
}

module _ {store image : List ℕ} {scopes : ℕ} {lasts befores marks₀ marks : List ℕ} {at : ℕ} {used : Scopes} (r : Rooting store image scopes lasts befores marks₀ marks at used) where
  pub rooting_long : length marks ≡ length marks₀
  rooting_long = r.long

  pub rooting_end : {u : ScopeSet} → scopes_of u ≡ used → length image ≤ at → MarksRoot store image marks₀ marks u
  rooting_end {u} q h =
      let e = ahead-end r.ahead h in
      record {
        long = r.long;
        are = λ i l. sym (ap (λ (t : List Piece). marked marks i || used_among (bind_at store i) t) e ∙ ap (λ (t : Bool). marked marks i || t) (none-used (bind_at store i)) ∙ or-false (marked marks i)) ∙ r.are i l;
        scopes-are = q ∙ sym (ap (λ (t : List Piece). bit_or used (scopes_among t)) e ∙ ap (bit_or used) no-scopes ∙ join-none used) ∙ r.scopes-are;
      }

  module _ (h : at < length image) where
    pub rooting_here : FrontHere image at scopes
    rooting_here = front-here r.ahead h

    module _ {tag : ℕ} {sets : Sets} {number past : ℕ} (f : FrontRead image at scopes tag sets number past) where
      pub rooting_less : length image - past < length image - at
      rooting_less = ahead_less r.ahead h f

      pub rooting_identifies : tag ≡ 0 → Identifies store lasts befores marks number
      rooting_identifies e = record {
        markable = record { chained = r.markable.chained; long = r.long ∙ r.markable.long };
        below = let n = symbol-below r.ahead h f e in let s = r.symbols in omega arith;
      }

      abbrev N : Next r.rest
      N = next r.ahead h

      onward : {j u : Scopes} (marks' : List ℕ) → length marks' ≡ length marks → j ≡ joined (sets_of sets) → u ≡ bit_or used j
          → ((i : ℕ) → i < length marks₀ → marked marks' i ≡ (marked marks i || used_at (bind_at store i) N.piece))
          → Rooting store image scopes lasts befores marks₀ marks' past u
      onward {j} {u} marks' l e g k = record {
        markable = r.markable;
        symbols = r.symbols;
        long = l ∙ r.long;
        rest = N.behind;
        ahead = ahead_on r.ahead h f;
        are = λ i b.
            ap (λ (t : Bool). t || used_among (bind_at store i) N.behind) (k i b)
            ∙ or_assoc (marked marks i) (used_at (bind_at store i) N.piece) (used_among (bind_at store i) N.behind)
            ∙ ap (λ (t : Bool). marked marks i || t) (sym (used-more (bind_at store i) N.piece N.behind))
            ∙ ap (λ (t : List Piece). marked marks i || used_among (bind_at store i) t) (sym N.is) ∙ r.are i b;
        scopes-are =
            ap (λ (t : Scopes). bit_or t (scopes_among N.behind)) (g ∙ ap (bit_or used) (e ∙ ap joined (sets-are r.ahead h f)))
            ∙ join_assoc used (joined N.piece.sets) (scopes_among N.behind)
            ∙ ap (bit_or used) (sym (scopes-more N.piece N.behind) ∙ ap scopes_among (sym N.is)) ∙ r.scopes-are;
      }

      module _ {j u : Scopes} (e : j ≡ joined (sets_of sets)) (g : u ≡ bit_or used j) where
        pub rooting_other : (tag ≡ 0 → ⊥) → Rooting store image scopes lasts befores marks₀ marks past u
        rooting_other n =
            onward marks refl e g
            (λ i b. sym (ap (λ (t : Bool). marked marks i || t) (used-other (bind_at store i) N.piece (λ z. n (tag_is r.ahead h f ∙ z))) ∙ or-false (marked marks i)))

        pub rooting_symbol : {marks' : List ℕ} → tag ≡ 0 → Marks store number (sets_of sets) marks marks' → Rooting store image scopes lasts befores marks₀ marks' past u
        rooting_symbol {marks'} t k =
            onward marks' k.long e g
            (λ i b. k.are i (let l = r.long in omega arith)
            ∙ ap (λ (q : Bool). marked marks i || q)
            (ap₂ (λ (x : ℕ) (c : m.Sets). used_by x c (bind_at store i)) (number_is r.ahead h f) (sets-are r.ahead h f) ∙ sym (used-symbol (bind_at store i) N.piece (sym (tag_is r.ahead h f) ∙ t))))

pub ruleset root_laws = (rooting_start, rooting_long, rooting_end, rooting_here, rooting_less, rooting_identifies, rooting_other, rooting_symbol)
