-- The marked bindings counted and joined, the last first, by the steps that the code takes.
use Prim.Native.Nat.{ℕ, suc, ◌+◌, ◌-◌, ◌≤◌, ◌<◌}
use mathlib.Core.Path.{◌≡◌, refl, sym, ap, ◌∙◌}
use mathlib.Core.Bool.{Bool, true, false, not}
use mathlib.Core.List.{List, [], ◌∷◌}
use native.Mathlib.Omega.{arith}
use lib.Bits.{bit_or}
use lib.ListN.{length, get_or}
use borrow.Author.Tests.{eq-eqb, ne_eqb}
use Rattle.model.specs.Choice.{when◌then◌else◌}
use Rattle.model.specs.Scopes.{Scopes}
use Rattle.model.specs.Resolving.{Bind}
use Rattle.shrinking.specs.Shrunk.{scopes_bound}
use Rattle.scopes.specs.declared.ScopeSet.{ScopeSet}
use Rattle.scopes.specs.Sets.{scopes_of}
use Rattle.store.specs.Words.{bind_at, binds_from, binds_of}
use Rattle.pieces.proofs.PieceLaws.{join_assoc}
use Rattle.marking.specs.Marks.{marked}
use Rattle.marking.specs.Kept.{kept_from, kept_of, Keeps}

-- of the bindings from place i on
abbrev pub kept_behind : List ℕ → List ℕ → ℕ → List Bind
kept_behind store marks i = kept_from marks i (binds_from store i (length marks - i))

pub kept-none : (store marks : List ℕ) (i : ℕ) → i ≡ length marks → kept_behind store marks i ≡ []
unfolding kept_from binds_from
kept-none store marks i e =
    let z : length marks - i ≡ 0 = omega arith in
    ap (λ (n : ℕ). kept_from marks i (binds_from store i n)) z

kept_next : (store marks : List ℕ) (i : ℕ) → i < length marks
    → kept_behind store marks i ≡ (when marked marks i then bind_at store i ∷ kept_behind store marks (suc i) else kept_behind store marks (suc i))
unfolding kept_from binds_from
kept_next store marks i h =
    let z : length marks - i ≡ suc (length marks - suc i) = omega arith in
    ap (λ (n : ℕ). kept_from marks i (binds_from store i n)) z

marked-is : (marks : List ℕ) (i : ℕ) → (get_or marks i 0 ≡ 0 → ⊥) → marked marks i ≡ true
marked-is marks i n = ap not (ne_eqb (get_or marks i 0) 0 n)

unmarked-is : (marks : List ℕ) (i : ℕ) → get_or marks i 0 ≡ 0 → marked marks i ≡ false
unmarked-is marks i e = ap not (eq-eqb (get_or marks i 0) 0 e)

module _ (store marks : List ℕ) (i : ℕ) (h : i < length marks) where
  pub kept_there : (get_or marks i 0 ≡ 0 → ⊥) → kept_behind store marks i ≡ bind_at store i ∷ kept_behind store marks (suc i)
  kept_there n = kept_next store marks i h ∙ ap (λ (t : Bool). when t then bind_at store i ∷ kept_behind store marks (suc i) else kept_behind store marks (suc i)) (marked-is marks i n)

  pub kept_absent : get_or marks i 0 ≡ 0 → kept_behind store marks i ≡ kept_behind store marks (suc i)
  kept_absent e = kept_next store marks i h ∙ ap (λ (t : Bool). when t then bind_at store i ∷ kept_behind store marks (suc i) else kept_behind store marks (suc i)) (unmarked-is marks i e)

bound_more : (b : Bind) (l : List Bind) → scopes_bound (b ∷ l) ≡ bit_or b.set (scopes_bound l)
unfolding scopes_bound
bound_more b l = refl

none_bound : (u : Scopes) → u ≡ bit_or (scopes_bound []) u
unfolding scopes_bound
none_bound u = refl

-- those from place i on are gathered
pub record Gathering (store marks : List ℕ) (used : Scopes) (count : ℕ) (scopes : Scopes) (i : ℕ) : Type 0 where
  pub inside : i ≤ length marks
  pub count-is : count ≡ length (kept_behind store marks i)
  pub few : count + i ≤ length marks
  pub scopes-are : scopes ≡ bit_or (scopes_bound (kept_behind store marks i)) used

pub gathering_start : (store marks : List ℕ) (used : Scopes) → Gathering store marks used 0 used (length marks)
gathering_start store marks used =
    let e = kept-none store marks (length marks) refl in
    record {
      inside = omega arith;
      count-is = sym (ap length e);
      few = omega arith;
      scopes-are = none_bound used ∙ ap (λ (l : List Bind). bit_or (scopes_bound l) used) (sym e);
    }

module _ {store marks : List ℕ} {used : Scopes} {count : ℕ} {scopes : Scopes} {i : ℕ} (g : Gathering store marks used count scopes i) where
  pub gathering_end : {s : ScopeSet} → scopes_of s ≡ scopes → i ≤ 0 → Keeps store marks used (record { count = count; scopes = s })
  unfolding binds_of
  gathering_end {s} q h =
      let z : i ≡ 0 = omega arith in
      let e : kept_behind store marks i ≡ kept_of marks store = ap (kept_behind store marks) z ∙ ap (λ (n : ℕ). kept_from marks 0 (binds_from store 0 n)) (let k : length marks - 0 ≡ length marks = omega arith in k) in
      record {
        count-is = g.count-is ∙ ap length e;
        few = let f = g.few in omega arith;
        scopes-are = q ∙ g.scopes-are ∙ ap (λ (l : List Bind). bit_or (scopes_bound l) used) e;
      }

  module _ (h : 0 < i) where
    one_back : suc (i - 1) ≡ i
    one_back = omega arith

    gathering_place : i - 1 < length marks
    gathering_place = let a = g.inside in omega arith

    behind-is : kept_behind store marks (suc (i - 1)) ≡ kept_behind store marks i
    behind-is = ap (kept_behind store marks) one_back

    pub gathering_absent : get_or marks (i - 1) 0 ≡ 0 → Gathering store marks used count scopes (i - 1)
    gathering_absent e =
        let k : kept_behind store marks (i - 1) ≡ kept_behind store marks i = kept_absent store marks (i - 1) gathering_place e ∙ behind-is in
        record {
          inside = let a = g.inside in omega arith;
          count-is = g.count-is ∙ ap length (sym k);
          few = let a = g.few in omega arith;
          scopes-are = g.scopes-are ∙ ap (λ (l : List Bind). bit_or (scopes_bound l) used) (sym k);
        }

    pub gathering_there : {x y : ℕ} {s v : Scopes} → (get_or marks (i - 1) 0 ≡ 0 → ⊥) → record { symb = x; target = y; set = s } ≡ bind_at store (i - 1)
        → v ≡ bit_or s scopes → Gathering store marks used (count + 1) v (i - 1)
    gathering_there {x} {y} {s} {v} n b e =
        let k : kept_behind store marks (i - 1) ≡ bind_at store (i - 1) ∷ kept_behind store marks i =
        kept_there store marks (i - 1) gathering_place n ∙ ap (λ (l : List Bind). bind_at store (i - 1) ∷ l) behind-is in
        record {
          inside = let a = g.inside in omega arith;
          count-is = let l = ap length k in let a = g.count-is in omega arith;
          few = let a = g.few in omega arith;
          scopes-are =
              e ∙ ap (bit_or s) g.scopes-are ∙ sym (join_assoc s (scopes_bound (kept_behind store marks i)) used)
              ∙ ap (λ (z : Bind). bit_or (bit_or z.set (scopes_bound (kept_behind store marks i))) used) b
              ∙ ap (λ (z : Scopes). bit_or z used) (sym (bound_more (bind_at store (i - 1)) (kept_behind store marks i)))
              ∙ ap (λ (l : List Bind). bit_or (scopes_bound l) used) (sym k);
        }

pub ruleset kept_laws = (gathering_start, gathering_end, gathering_absent, gathering_there)
