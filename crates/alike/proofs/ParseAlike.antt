-- Parsing objects alike, where the identifiers that are seen resolve to the same names: both are refused by the same code with the same units
-- left, or give trees alike. Of the state only the units and the bindings matter, so states with other counts may belong together.
use mathlib.Core.Path.{◌≡◌}
use Prim.Native.Nat.{ℕ, zero, suc}
use mathlib.Core.Option.{Option, none, some}
use Rattle.model.specs.Refusals.{no_rule, too_many_entries}
use Rattle.model.specs.Objects.{symbol, number, point, prim, rung, Sets, set_at, Stx, atom, list, Stxs, nil, cons, size}
use Rattle.model.specs.Trees.{Tree, strip}
use Rattle.model.specs.Resolving.{resolve}
use Rattle.model.specs.Meanings.{Form, lambda, let_syntax, quote, syntax}
use Rattle.model.specs.Steps.{State, Step, resolve_at, parts1, parts2, identifier}
use Rattle.model.specs.Parsing.{head_form, parse_all, parse_form, parse_entry, parse}
use Rattle.alike.proofs.Alike.{NewNumbers, SetsAlike, StxAlike, atoms, lists, StxsAlike, nils, conses, TreeAlike, vars, apps, funs, datums, stxs, TreesAlike, tnils, tconses, Same, same}
use Rattle.alike.proofs.Things.{size_alike, strip_alike}
use Rattle.alike.proofs.Runs.{Pairing, StepAlike, then_alike, then_same, done_alike, refuse_alike, charge_alike, charged_alike, resolve_at_agree}

-- P of every identifier
abbrev mutual
  pub Seen : (Sets → ℕ → Type 0) → Stx → Type 0
  Seen P (atom c (symbol x)) = P c x
  Seen P (atom c (number x)) = Unit {0}
  Seen P (atom c (point x)) = Unit {0}
  Seen P (atom c (prim x)) = Unit {0}
  Seen P (atom c (rung x)) = Unit {0}
  Seen P (list c l) = SeenAll P l

  pub SeenAll : (Sets → ℕ → Type 0) → Stxs → Type 0
  SeenAll P nil = Unit {0}
  SeenAll P (cons s l) = Seen P s × SeenAll P l

-- the identifiers that P is true of resolve alike
abbrev pub Agree : Pairing → NewNumbers → (Sets → ℕ → Type 0) → ℕ → Type 0
Agree w ρ P ph =
    (s t : State) → w.rel s t → (c d : Sets) (x : ℕ) → P c x → SetsAlike ρ c d
    → resolve x (set_at ph c) s.binds ≡ resolve x (set_at ph d) t.binds

module _ (w : Pairing) (ρ : NewNumbers) (P : Sets → ℕ → Type 0) (ph : ℕ) (agree : Agree w ρ P ph) where
  named : (c d : Sets) (x : ℕ) → P c x → SetsAlike ρ c d → StepAlike w (Same {A = ℕ}) (resolve_at ph c x) (resolve_at ph d x)
  named c d x p h = resolve_at_agree ph c d x (λ s t i. agree s t i c d x p h)

  head_alike : (x y : Stx) → StxAlike ρ x y → Seen P x → StepAlike w (Same {A = Option Form}) (head_form ph x) (head_form ph y)
  unfolding head_form
  head_alike x y (atoms {c} {d} (symbol n) h) p = then_same _ _ (named c d n p h) (λ m. done_alike same)
  head_alike x y (atoms (number n) h) p = done_alike same
  head_alike x y (atoms (point n) h) p = done_alike same
  head_alike x y (atoms (prim n) h) p = done_alike same
  head_alike x y (atoms (rung n) h) p = done_alike same
  head_alike x y (lists h i) p = done_alike same

  module _ (self other : Stx → Step Tree) (k : (x y : Stx) → StxAlike ρ x y → Seen P x → StepAlike w (TreeAlike ρ) (self x) (other y)) where
    all_alike : {l r : Stxs} → StxsAlike ρ l r → SeenAll P l → StepAlike w (TreesAlike ρ) (parse_all self l) (parse_all other r)
    unfolding parse_all
    all_alike nils p = done_alike tnils
    all_alike (conses {x} {y} h i) p =
        then_alike _ _ (k x y h p.0) (λ t u a. then_alike _ _ (all_alike i p.1) (λ m n b. done_alike (tconses a b)))

    lambda_alike : (x y : Stx) {l r : Stxs} → StxsAlike ρ l r → SeenAll P l
        → StepAlike w (TreeAlike ρ) (parse_form self ph (some lambda) x l) (parse_form other ph (some lambda) y r)
    unfolding parse_form parts2 identifier
    lambda_alike x y nils p = refuse_alike no_rule
    lambda_alike x y (conses h nils) p = refuse_alike no_rule
    lambda_alike x y (conses (atoms {c} {d} (symbol n) h) (conses {x = s} {y = t} i nils)) p =
        then_same _ _ (named c d n p.0 h) (λ m. then_alike _ _ (k s t i p.1.0) (λ b e a. done_alike (funs a)))
    lambda_alike x y (conses (atoms (number n) h) (conses i nils)) p = refuse_alike no_rule
    lambda_alike x y (conses (atoms (point n) h) (conses i nils)) p = refuse_alike no_rule
    lambda_alike x y (conses (atoms (prim n) h) (conses i nils)) p = refuse_alike no_rule
    lambda_alike x y (conses (atoms (rung n) h) (conses i nils)) p = refuse_alike no_rule
    lambda_alike x y (conses (lists h j) (conses i nils)) p = refuse_alike no_rule
    lambda_alike x y (conses h (conses i (conses j l))) p = refuse_alike no_rule

    form_alike : (f : Option Form) (x y : Stx) {l r : Stxs} → StxAlike ρ x y → Seen P x → StxsAlike ρ l r → SeenAll P l
        → StepAlike w (TreeAlike ρ) (parse_form self ph f x l) (parse_form other ph f y r)
    unfolding parse_form parts1
    form_alike (some lambda) x y h p i q = lambda_alike x y i q
    form_alike (some let_syntax) x y h p i q = refuse_alike no_rule
    form_alike (some quote) x y h p nils q = refuse_alike no_rule
    form_alike (some quote) x y h p (conses {x = s} {y = t} a nils) q =
        charged_alike (size s) (size t) (strip s) (strip t) (size_alike ρ a) (strip_alike ρ a)
    form_alike (some quote) x y h p (conses a (conses b i)) q = refuse_alike no_rule
    form_alike (some syntax) x y h p nils q = refuse_alike no_rule
    form_alike (some syntax) x y h p (conses a nils) q = done_alike (stxs a)
    form_alike (some syntax) x y h p (conses a (conses b i)) q = refuse_alike no_rule
    form_alike none x y h p i q = then_alike _ _ (k x y h p) (λ f g a. then_alike _ _ (all_alike i q) (λ m n b. done_alike (apps a b)))

    entry_alike : (x y : Stx) → StxAlike ρ x y → Seen P x → StepAlike w (TreeAlike ρ) (parse_entry self ph x) (parse_entry other ph y)
    unfolding parse_entry
    entry_alike x y (atoms {c} {d} (symbol n) h) p = then_same _ _ (named c d n p h) (λ m. done_alike vars)
    entry_alike x y (atoms (number n) h) p = done_alike datums
    entry_alike x y (atoms (point n) h) p = done_alike datums
    entry_alike x y (atoms (prim n) h) p = done_alike datums
    entry_alike x y (atoms (rung n) h) p = done_alike datums
    entry_alike x y (lists h nils) p = refuse_alike no_rule
    entry_alike x y (lists h (conses {x = s} {y = t} i j)) p = then_same _ _ (head_alike s t i p.0) (λ f. form_alike f s t i p.0 j p.1)

  pub parse_alike : (n : ℕ) (x y : Stx) → StxAlike ρ x y → Seen P x → StepAlike w (TreeAlike ρ) (parse n ph x) (parse n ph y)
  unfolding parse
  parse_alike zero x y h p = refuse_alike too_many_entries
  parse_alike (suc n) x y h p =
      then_same _ _ (charge_alike 1) (λ u. entry_alike (λ a. parse n ph a) (λ b. parse n ph b) (λ a b i q. parse_alike n a b i q) x y h p)
