-- Request T-04: what is known of two bindings that compete.
use Rattle.std.specs.Prelude.{ℕ, suc, ◌<◌, ◌≡◌, true, false, List, ◌∷◌}
use Rattle.model.specs.Scopes.{Scopes, within}
use Rattle.model.specs.Resolving.{Bind, several, resolve}
use Rattle.model.specs.Competing.{Rivals, competes, rivals}
use Rattle.laws.specs.Ordered.{Sorted}

-- b stands at place k of l, counted from 1
pub data At (b : Bind) : ℕ → List Bind → Type 0 where
  front : {l : List Bind} → At b 1 (b ∷ l)
  behind : {k : ℕ} {c : Bind} {l : List Bind} → At b k l → At b (suc k) (c ∷ l)

-- p are the places of two bindings of bs, in their order. Each competes for the symbol x with set s: it is a candidate, and no other candidate
-- contains it. Neither contains the other, and of those that compete these are the first two: what competes before the second is the first.
pub record Compete (x : ℕ) (s : Scopes) (bs : List Bind) (p : Rivals) : Type 0 where
  pub one : Bind
  pub other : Bind
  pub first-place : At one p.first bs
  pub second-place : At other p.second bs
  pub in_order : p.first < p.second
  pub one-competes : competes x s bs one ≡ true
  pub other-competes : competes x s bs other ≡ true
  pub not_under : within one.set other.set ≡ false
  pub not-over : within other.set one.set ≡ false
  pub none_before : (b : Bind) (k : ℕ) → At b k bs → competes x s bs b ≡ true → k < p.second → k ≡ p.first

-- p are those that compete for a symbol and set by some bindings in the order of an image
pub record Told (p : Rivals) : Type 0 where
  pub symb : ℕ
  pub set : Scopes
  pub store : List Bind
  pub ascending : Sorted store
  pub unclear : resolve symb set store ≡ several
  pub is : p ≡ rivals symb set store
