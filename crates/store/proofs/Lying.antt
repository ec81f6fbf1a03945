-- How a set lies in a store: its words, one after another.
use mathlib.Core.Path.{◌≡◌, refl, sym, ap, ◌∙◌, subst}
use mathlib.Core.List.{List, [], ◌∷◌}
use Prim.Native.Nat.{ℕ, zero, suc, ◌+◌, ◌≤◌, ◌<◌}
use native.Mathlib.Omega.{arith}
use lib.ListN.{length, get_or}
use lib.Seq.{sets}
use Rattle.scopes.specs.Sets.{scopes_of, words_from, set_words}
use Rattle.scopes.specs.declared.ScopeSet.{ScopeSet}
use Rattle.scopes.proofs.Stores.{stores_before, stores_after, stores_at}
use Rattle.scopes.proofs.Words.{words_same}
use Rattle.store.specs.Words.{SetPut}

-- the words of a set, stored one by one
abbrev pub set_list : ScopeSet → List ℕ
set_list s = get_or s.words 0 0 ∷ get_or s.words 1 0 ∷ get_or s.words 2 0 ∷ get_or s.words 3 0 ∷ []

pub listed : (s : ScopeSet) (k : ℕ) → k < set_words → get_or (set_list s) k 0 ≡ get_or s.words (0 + k) 0
listed s zero g = refl
listed s (suc zero) g = refl
listed s (suc (suc zero)) g = refl
listed s (suc (suc (suc zero))) g = refl
listed s (suc (suc (suc (suc k)))) g = absurd (omega arith)

-- a set whose words are those of the store, from place a on
pub set_there : (l : List ℕ) (a b c d : ℕ) → b ≡ a + 1 → c ≡ a + 2 → d ≡ a + 3
    → words_from 64 set_words (get_or l a 0 ∷ get_or l b 0 ∷ get_or l c 0 ∷ get_or l d 0 ∷ []) 0 ≡ words_from 64 set_words l a
set_there l a b c d p q r = words_same 64 set_words _ l 0 a go
  where
    go : (k : ℕ) → k < set_words → get_or (get_or l a 0 ∷ get_or l b 0 ∷ get_or l c 0 ∷ get_or l d 0 ∷ []) (0 + k) 0 ≡ get_or l (a + k) 0
    go zero g = ap (λ (n : ℕ). get_or l n 0) (let e : a ≡ a + 0 = omega arith in e)
    go (suc zero) g = ap (λ (n : ℕ). get_or l n 0) p
    go (suc (suc zero)) g = ap (λ (n : ℕ). get_or l n 0) q
    go (suc (suc (suc zero))) g = ap (λ (n : ℕ). get_or l n 0) r
    go (suc (suc (suc (suc k)))) g = absurd (omega arith)

pub set_put : (l : List ℕ) (a : ℕ) (s : ScopeSet) {l' : List ℕ} → a + set_words ≤ length l → l' ≡ sets l a (set_list s) → SetPut (scopes_of s) l l' a
set_put l a s h e =
    subst (λ (z : List ℕ). SetPut (scopes_of s) l z a) (sym e) (record {
      before = λ k g. stores_before (set_list s) l a k g;
      after = λ k g. stores_after (set_list s) l a k g;
      there = words_same 64 set_words (sets l a (set_list s)) s.words a 0 (λ k g. stores_at (set_list s) l a k h g ∙ listed s k g);
    })
