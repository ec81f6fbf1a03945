-- An array that was made by a function of the place.
use Rattle.std.proofs.Common.{refl, ◌≡◌, ℕ, suc, zero, ◌+◌, ◌<◌, List, [], ◌∷◌, length, get_or, sym, ◌∙◌, subst, arith}
use Rattle.std.specs.Array.{IsFromFnResult, IsFromFnResultFrom}
use Rattle.std.specs.Fn.{Called}
use denote.Param.Members.{Mut}

module _ {F : Type 0} (g : Mut F (ℕ × Unit {0}) ℕ) (P : ℕ → ℕ) where
  -- the function stays the same from call to call, and gives P
  abbrev Steady : F → Type 0
  Steady f = (k y : ℕ) (q : F) → Called g f (k, tt) y q → (q ≡ f) × (y ≡ P k)

  made_from : (f : F) (ys : List ℕ) (i n : ℕ) → Steady f → IsFromFnResultFrom g f ys i n → (k : ℕ) → k < n → get_or ys (i + k) 0 ≡ P (i + k)
  made_from f ys i zero h e k lt = absurd (omega arith)
  made_from f ys i (suc n) h (q, y, at, c, rest) zero lt =
      let e : i + 0 ≡ i = omega arith in
      rw e (at.1 0 ∙ (h i y q c).1)
  made_from f ys i (suc n) h (q, y, at, c, rest) (suc k) lt =
      let e : i + suc k ≡ i + 1 + k = omega arith in
      rw e (made_from q ys (i + 1) n (subst (λ (s : F). Steady s) (sym (h i y q c).0) h) rest k (omega arith))

  pub made_at : {f : F} {ys : List ℕ} {n : ℕ} → ((k y : ℕ) (q : F) → Called g f (k, tt) y q → (q ≡ f) × (y ≡ P k)) → IsFromFnResult g f ys n → (k : ℕ) → k < n → get_or ys k 0 ≡ P k
  made_at {f} {ys} {n} h w k lt = let e : 0 + k ≡ k = omega arith in rw e at (made_from f ys 0 n h w.each k lt)

pub of_four : (ys : List ℕ) → length ys ≡ 4 → ys ≡ get_or ys 0 0 ∷ get_or ys 1 0 ∷ get_or ys 2 0 ∷ get_or ys 3 0 ∷ []
of_four [] h = absurd (omega arith)
of_four (a ∷ []) h = absurd (omega arith)
of_four (a ∷ b ∷ []) h = absurd (omega arith)
of_four (a ∷ b ∷ c ∷ []) h = absurd (omega arith)
of_four (a ∷ b ∷ c ∷ d ∷ []) h = refl
of_four (a ∷ b ∷ c ∷ d ∷ e ∷ l) h = absurd (omega arith)
