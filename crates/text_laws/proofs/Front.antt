-- Document 02, T-05: 26 or 27 is the first from the front. What is refused has a first token with which it cannot become an object any more,
-- whatever comes after it, and the refusal is that token's; or only the end is missing.
use mathlib.Core.Path.{◌≡◌, refl, sym, ap, ◌∙◌, subst}
use Prim.Native.Nat.{ℕ, zero, suc}
use mathlib.Core.Bool.{Bool, true, false, ◌&&◌}
use mathlib.Core.List.{List, [], ◌∷◌, ◌++◌}
use mathlib.Core.Option.{none, some}
use lib.Dec.{eqb}
use Rattle.model.specs.Choice.{when◌then◌else◌}
use Rattle.requests.specs.Tokens.{Leaf, number, Token, opening, closing, bad, one}
use Rattle.requests.specs.FromText.{TextRefusal, bad_text, unbalanced, unless_second, at_last, judged}

-- with d parentheses open, tokens that more can follow so that there is no fault
abbrev pub Continues : ℕ → Bool → List Token → Type 0
Continues d begun ts = (us : List Token) × (judged d begun (ts ++ us) ≡ none)

pub data FirstFrom (d : ℕ) (begun : Bool) (ts : List Token) (r : TextRefusal) : Type 0 where
  with_token : (before : List Token) (k : Token) (after : List Token) → ts ≡ before ++ (k ∷ after) → Continues d begun before
      → ((us : List Token) → judged d begun (before ++ (k ∷ us)) ≡ some r) → FirstFrom d begun ts r
  at_the_end : Continues d begun ts → FirstFrom d begun ts r

-- where something is open, an object has begun
abbrev Met : ℕ → Bool → Type 0
Met zero begun = Unit {0}
Met (suc d) begun = begun ≡ true

closings : ℕ → List Token
closings zero = []
closings (suc d) = closing ∷ closings d

shut : (d : ℕ) → judged d true (closings d) ≡ none
unfolding judged at_last closings
shut zero = refl
shut (suc d) = shut d

-- from anywhere it can go on
goes_on : (d : ℕ) (begun : Bool) → Met d begun → Continues d begun []
unfolding judged unless_second at_last
goes_on zero true m = ([], refl)
goes_on zero false m = (one (number 0) ∷ [], refl)
goes_on (suc d) begun m = (closings (suc d), ap (λ (b : Bool). judged (suc d) b (closings (suc d))) m ∙ shut (suc d))

-- one token more in front, which is no fault
one_more : (d e : ℕ) (b c : Bool) (k : Token) (ts : List Token) (r : TextRefusal) → ((us : List Token) → judged d b (k ∷ us) ≡ judged e c us) → FirstFrom e c ts r → FirstFrom d b (k ∷ ts) r
one_more d e b c k ts r s (with_token before x after i g f) =
    with_token (k ∷ before) x after (ap (λ (l : List Token). k ∷ l) i) (g.0, s (before ++ g.0) ∙ g.1) (λ us. s (before ++ (x ∷ us)) ∙ f us)
one_more d e b c k ts r s (at_the_end g) = at_the_end (g.0, s (ts ++ g.0) ∙ g.1)

-- a token that is a fault, whatever comes after it
this_one : (d : ℕ) (b : Bool) (k : Token) (ts : List Token) (r : TextRefusal) → Met d b → ((us : List Token) → judged d b (k ∷ us) ≡ some r) → FirstFrom d b (k ∷ ts) r
this_one d b k ts r m f = with_token [] k ts refl (goes_on d b m) f

same : (a b : TextRefusal) → some a ≡ some b → a ≡ b
same a b e = cc

second-leaf : (d : ℕ) (b s : Bool) (l : Leaf) (us : List Token) → (b && eqb d 0) ≡ s → judged d b (one l ∷ us) ≡ (when s then some bad_text else judged d true us)
unfolding judged unless_second
second-leaf d b s l us e = rw e

second-list : (d : ℕ) (b s : Bool) (us : List Token) → (b && eqb d 0) ≡ s → judged d b (opening ∷ us) ≡ (when s then some bad_text else judged (suc d) true us)
unfolding judged unless_second
second-list d b s us e = rw e

met-more : (d : ℕ) → Met d true
met-more zero = tt
met-more (suc d) = refl

first-from : (ts : List Token) (d : ℕ) (b : Bool) (r : TextRefusal) → Met d b → judged d b ts ≡ some r → FirstFrom d b ts r
unfolding judged
first-from [] d b r m e = at_the_end (goes_on d b m)
first-from (bad ∷ ts) d b r m e = this_one d b bad ts r m (λ us. ap some (same bad_text r e))
first-from (closing ∷ ts) zero b r m e = this_one 0 b closing ts r m (λ us. ap some (same unbalanced r e))
first-from (closing ∷ ts) (suc d) b r m e =
    one_more (suc d) d b b closing ts r (λ us. refl) (first-from ts d b r (subst (Met d) (sym m) (met-more d)) e)
first-from (one l ∷ ts) d b r m e = go (b && eqb d 0) refl (sym (second-leaf d b (b && eqb d 0) l ts refl) ∙ e) (first-from ts d true r (met-more d))
  where
    go : (s : Bool) → (b && eqb d 0) ≡ s → (when s then some bad_text else judged d true ts) ≡ some r → (judged d true ts ≡ some r → FirstFrom d true ts r) → FirstFrom d b (one l ∷ ts) r
    go true q f below = this_one d b (one l) ts r m (λ us. second-leaf d b true l us q ∙ ap some (same bad_text r f))
    go false q f below = one_more d d b true (one l) ts r (λ us. second-leaf d b false l us q) (below f)
first-from (opening ∷ ts) d b r m e = go (b && eqb d 0) refl (sym (second-list d b (b && eqb d 0) ts refl) ∙ e) (first-from ts (suc d) true r refl)
  where
    go : (s : Bool) → (b && eqb d 0) ≡ s → (when s then some bad_text else judged (suc d) true ts) ≡ some r → (judged (suc d) true ts ≡ some r → FirstFrom (suc d) true ts r) → FirstFrom d b (opening ∷ ts) r
    go true q f below = this_one d b opening ts r m (λ us. second-list d b true us q ∙ ap some (same bad_text r f))
    go false q f below = one_more d (suc d) b true opening ts r (λ us. second-list d b false us q) (below f)

-- the tokens of a text that is refused with 26 or 27
abbrev pub FirstFault : List Token → TextRefusal → Type 0
FirstFault ts r = FirstFrom 0 false ts r

pub first-fault : (ts : List Token) (r : TextRefusal) → judged 0 false ts ≡ some r → FirstFault ts r
first-fault ts r e = first-from ts 0 false r tt e
