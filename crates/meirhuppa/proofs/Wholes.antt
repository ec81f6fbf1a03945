-- From how the work ends to the whole result: answer, output and table.
use Prim.Native.Nat.{ℕ, ◌*◌, ◌≤◌, ◌<◌}
use mathlib.Core.Path.{◌≡◌, refl, sym, ap, ◌∙◌, subst}
use mathlib.Core.List.{List, ◌++◌}
use mathlib.Core.Bool.{false}
use native.Mathlib.Omega.{arith}
use lib.ListN.{length, take, drop, replicate}
use lib.Seq.{drop_at, length-take-le}
use lib.Dec.{leb}
use borrow.Author.Tests.{le-leb, lt-leb}
use mir.Syntax.{w32}
use mir.Val.{Fits}
use Rattle.model.specs.Limits.{most_budget, words_per_unit}
use Rattle.model.specs.Refusals.{code_of, small_table}
use Rattle.model.specs.Competing.{no_rivals}
use Rattle.model.specs.Jobs as m
use Rattle.model.specs.Jobs.{answer_of, cleared, budget_fits, lent}
use Rattle.refusals.specs.declared.Refusal.{Refusal}
use Rattle.refusals.specs.Refusing.{refusal_of}
use Rattle.table.specs.Lending.{Lent}
use Rattle.scopes.specs.declared.Name.{Name}
use Rattle.store.specs.declared.rivals.Rivals.{Rivals}
use Rattle.finish.specs.declared.Ending.{Ending}
use Rattle.finish.specs.declared.Ending.TheVariants.{Refused, Stopped, Named, Written}
use Rattle.finish.specs.Ends.{length_of, EndsAs}
use Rattle.finish.proofs.Ends.{and_no}
use Rattle.meirhuppa.specs.Endings.{answer_for}

-- ---- answers

pub small-answer : {k : ℕ} → k ≡ 5 → record { code = k; units = 0; name = 0; len = 0; first = 0; second = 0 } ≡ answer_of (m.refused small_table no_rivals 0)
unfolding answer_of
small-answer e = ap (λ (k : ℕ). record { code = k; units = 0; name = 0; len = 0; first = 0; second = 0 }) e

pub refused-answer : {e : Ending} {f : Refusal} {k u : ℕ} → e ≡ Refused f u → k ≡ code_of (refusal_of f) → record { code = k; units = u; name = 0; len = 0; first = 0; second = 0 } ≡ answer_for e
refused-answer {u = u} e q = ap (λ (k : ℕ). record { code = k; units = u; name = 0; len = 0; first = 0; second = 0 }) q ∙ sym (ap answer_for e)

pub stopped-answer : {e : Ending} {f : Refusal} {p : Rivals} {k u : ℕ} → e ≡ Stopped f p u → k ≡ code_of (refusal_of f)
    → record { code = k; units = u; name = 0; len = 0; first = p.first; second = p.second } ≡ answer_for e
stopped-answer {p = p} {u = u} e q = ap (λ (k : ℕ). record { code = k; units = u; name = 0; len = 0; first = p.first; second = p.second }) q ∙ sym (ap answer_for e)

pub written-answer : {e : Ending} {n u : ℕ} → e ≡ Written n u → record { code = 0; units = u; name = 0; len = n; first = 0; second = 0 } ≡ answer_for e
written-answer e = sym (ap answer_for e)

pub named-answer : {e : Ending} {n : Name} {u : ℕ} → e ≡ Named n u → record { code = 0; units = u; name = n.0; len = 0; first = 0; second = 0 } ≡ answer_for e
named-answer e = sym (ap answer_for e)

pub length-fits : {e : Ending} {n u : ℕ} → length_of e ≤ 65536 → e ≡ Written n u → Fits w32 n
length-fits s e = let h = subst (λ (x : Ending). length_of x ≤ 65536) e s in omega arith

pub ruleset answer_laws = (small-answer, refused-answer, stopped-answer, named-answer, written-answer, length-fits)

-- ---- the whole

pub ends-short : {q : m.Ending} {out out' : List ℕ} {e : Ending} → EndsAs q out out' e → length_of e ≤ 65536
ends-short w = w.short

pub answer-is : {q : m.Ending} {out out' : List ℕ} (e : Ending) → EndsAs q out out' e → answer_for e ≡ answer_of q
unfolding answer_of
answer-is (Refused f u) w = ap answer_of w.is
answer-is (Stopped f p u) w = ap answer_of w.is
answer-is (Named n u) w = ap answer_of w.is
answer-is {out' = out'} (Written n u) w = ap (λ (k : ℕ). record { code = 0; units = u; name = 0; len = k; first = 0; second = 0 }) (sym (length-take-le n out' w.inside)) ∙ ap answer_of w.is

module _ (budget : ℕ) (table out : List ℕ) (q : m.Ending) {a : m.Answer} where
  lent-no : budget_fits budget (length table) ≡ false → a ≡ answer_of (m.refused small_table no_rivals 0) → record { answer = a; output = out; table = table } ≡ lent budget table out q
  unfolding lent
  lent-no n e = rw n (ap (λ (x : m.Answer). record { answer = x; output = out; table = table }) e)

  pub over : 4096 < budget → a ≡ answer_of (m.refused small_table no_rivals 0) → record { answer = a; output = out; table = table } ≡ lent budget table out q
  unfolding budget_fits most_budget
  over h e = lent-no (rw (lt-leb budget 4096 h) refl) e

  pub few_words : length table < budget * 40 → a ≡ answer_of (m.refused small_table no_rivals 0) → record { answer = a; output = out; table = table } ≡ lent budget table out q
  unfolding budget_fits words_per_unit
  few_words h e =
      let l : length table < 40 * budget = omega arith in
      lent-no (rw (lt-leb (40 * budget) (length table) l) (and_no (leb budget most_budget))) e

  -- u is the table before it was cleared
  done : budget ≤ 4096 → budget * 40 ≤ length table → (u : List ℕ) → drop (40 * budget) u ≡ drop (40 * budget) table → {t' out' : List ℕ} {e : Ending} → t' ≡ cleared budget u
      → EndsAs q out out' e → a ≡ answer_for e → record { answer = a; output = out'; table = t' } ≡ lent budget table out q
  unfolding lent budget_fits most_budget words_per_unit cleared
  done h k u rest c w e =
      let l : 40 * budget ≤ length table = omega arith in
      rw (le-leb budget 4096 h, le-leb (40 * budget) (length table) l)
      (λ i. record { answer = (e ∙ answer-is _ w) i; output = w.left i; table = (c ∙ ap (λ (x : List ℕ). replicate (40 * budget) 0 ++ x) rest) i })

  pub named : {t' : List ℕ} {e : Ending} → budget ≤ 4096 → budget * 40 ≤ length table → t' ≡ cleared budget table → {out' : List ℕ} → EndsAs q out out' e → a ≡ answer_for e
      → record { answer = a; output = out'; table = t' } ≡ lent budget table out q
  named h k c w e = done h k table refl c w e

  pub worked : (p : List ℕ) {t' out' : List ℕ} {e : Ending} → budget ≤ 4096 → budget * 40 ≤ length table → length p ≡ length (take (budget * 40) table) → t' ≡ cleared budget (p ++ drop (budget * 40) table)
      → EndsAs q out out' e → a ≡ answer_for e → record { answer = a; output = out'; table = t' } ≡ lent budget table out q
  worked p h k len c w e =
      let long : length p ≡ budget * 40 = len ∙ length-take-le (budget * 40) table k in
      let turn : 40 * budget ≡ budget * 40 = omega arith in
      let rest : drop (40 * budget) (p ++ drop (budget * 40) table) ≡ drop (40 * budget) table =
      drop_at p (drop (budget * 40) table) (40 * budget) (long ∙ sym turn) ∙ ap (λ (n : ℕ). drop n table) (sym turn) in
      done h k (p ++ drop (budget * 40) table) rest c w e

-- the part of the table that is lent for the work
pub part-long : (budget : ℕ) (table : List ℕ) → budget * 40 ≤ length table → budget * 40 ≡ length (take (budget * 40) table)
part-long budget table k = sym (length-take-le (budget * 40) table k)

pub part-lent : (budget : ℕ) (table : List ℕ) → budget ≤ 4096 → budget * 40 ≤ length table → Lent (take (budget * 40) table) budget
part-lent budget table h k = let l = part-long budget table k in record { room = omega arith; small = omega arith }

pub ruleset lent_laws = (over, few_words, worked, part-long, part-lent, ends-short)

pub ruleset named_laws = (over, few_words, named, ends-short)
