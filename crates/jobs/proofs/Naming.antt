-- The root of the job resolve, read again: one law for each way out.
use mathlib.Core.Path.{◌≡◌, refl, sym, ap, ◌∙◌}
use mathlib.Core.Bool.{Bool, true, false}
use mathlib.Core.List.{List, []}
use Prim.Native.Nat.{ℕ, zero, suc, ◌+◌, ◌-◌}
use native.Mathlib.Omega.{arith}
use lib.Dec.{eqb}
use Rattle.std.specs.Prelude.{Result, Ok, Err}
use lib.ListN.{length, drop}
use Rattle.model.specs.Limits.{most_nesting}
use Rattle.model.specs.Refusals as m
use Rattle.model.specs.Refusals.{layout, no_rule}
use Rattle.model.specs.Scopes.{Scopes}
use Rattle.model.specs.Objects.{symbol, number, point, prim, rung, set_at, Sets, Stx, Stxs, atom, list}
use Rattle.model.specs.Resolving.{Bind}
use Rattle.model.specs.Competing.{no_rivals}
use Rattle.model.specs.Reading.{Read, Reader, got, fault, next, num, num_up_to, num_below, Head, symbols, read_sets, read_atom, read_parts, read_content, read_stx}
use Rattle.model.specs.Jobs as j
use Rattle.refusals.specs.Refusing.{refusal_of}
use Rattle.refusals.specs.declared.Refusal.{Refusal}
use Rattle.refusals.specs.declared.Refusal.TheVariants as refusal
use Rattle.numbers.specs.declared.Cursor.{Cursor}
use Rattle.numbers.specs.Answers.{read_at, seen}
use Rattle.numbers.proofs.Tails.{below_tail, up_to_tail}
use Rattle.numbers.proofs.Answering.{Took, took, refused, read_shape, whole, seen-refused}
use Rattle.sets.proofs.Reading.{sets_tail}
use Rattle.table.specs.declared.Sets as tb
use Rattle.table.specs.Words.{sets_of}
use Rattle.head.specs.declared.Counts.{Counts}
use Rattle.store.specs.Rivalry.{decided}
use Rattle.finish.specs.Ends.{ending_of}
use Rattle.jobs.specs.Naming.{found_ending, root_ending, Agree, RootEnds}
use Rattle.finish.specs.declared.Ending.{Ending}
use Rattle.finish.specs.declared.Ending.TheVariants.{Refused}

-- ---- an object behind its tag

behind-tag : (h : Head) (t : ℕ) → Reader Stx
behind-tag h t v = next (read_sets h.scopes v) (λ c w. read_content h (λ z. read_stx 63 h z) c t (eqb t 5) w)

stx-step : (h : Head) (s : List ℕ) → read_stx most_nesting h s ≡ next (num_up_to layout 5 s) (behind-tag h)
unfolding read_stx most_nesting behind-tag
stx-step h s = refl

never : {x : Stx} {rest : List ℕ} {c : m.Refusal} {A : Type 0} → ◌≡◌ {A = Read Stx} (fault c) (got x rest) → A
never e = let z : ◌≡◌ {A = ℕ} 0 1 = cc in absurd (omega arith)

-- ---- what is no identifier has no rule

other-atom : (h : Head) (ph : ℕ) (bs : List Bind) (u : ℕ) (c : Sets) (t : ℕ) (w : List ℕ) (x : Stx) (rest : List ℕ) → (t ≡ 0 → ⊥)
    → next (read_atom h t w) (λ a v. got (atom c a) v) ≡ got x rest → j.refused no_rule no_rivals u ≡ root_ending ph x bs u
unfolding read_atom root_ending
other-atom h ph bs u c zero w x rest n e = absurd (n refl)
other-atom h ph bs u c (suc zero) w x rest n e = go (num w) e
  where
    go : (g : Read ℕ) → next (next g (λ k v. got (number k) v)) (λ a v. got (atom c a) v) ≡ got x rest → j.refused no_rule no_rivals u ≡ root_ending ph x bs u
    go (got k v) f = let z : atom c (number k) ≡ x = cc in ap (λ (y : Stx). root_ending ph y bs u) z
    go (fault d) f = never f
other-atom h ph bs u c (suc (suc zero)) w x rest n e = go (num_up_to m.over_limit _ w) e
  where
    go : (g : Read ℕ) → next (next g (λ k v. got (point k) v)) (λ a v. got (atom c a) v) ≡ got x rest → j.refused no_rule no_rivals u ≡ root_ending ph x bs u
    go (got k v) f = let z : atom c (point k) ≡ x = cc in ap (λ (y : Stx). root_ending ph y bs u) z
    go (fault d) f = never f
other-atom h ph bs u c (suc (suc (suc zero))) w x rest n e = go (num_up_to m.over_limit _ w) e
  where
    go : (g : Read ℕ) → next (next g (λ k v. got (prim k) v)) (λ a v. got (atom c a) v) ≡ got x rest → j.refused no_rule no_rivals u ≡ root_ending ph x bs u
    go (got k v) f = let z : atom c (prim k) ≡ x = cc in ap (λ (y : Stx). root_ending ph y bs u) z
    go (fault d) f = never f
other-atom h ph bs u c (suc (suc (suc (suc zero)))) w x rest n e = go (num_up_to m.over_limit _ w) e
  where
    go : (g : Read ℕ) → next (next g (λ k v. got (rung k) v)) (λ a v. got (atom c a) v) ≡ got x rest → j.refused no_rule no_rivals u ≡ root_ending ph x bs u
    go (got k v) f = let z : atom c (rung k) ≡ x = cc in ap (λ (y : Stx). root_ending ph y bs u) z
    go (fault d) f = never f
other-atom h ph bs u c (suc (suc (suc (suc (suc t))))) w x rest n e = never e

a_list : (h : Head) (ph : ℕ) (bs : List Bind) (u : ℕ) (part : Reader Stx) (c : Sets) (w : List ℕ) (x : Stx) (rest : List ℕ)
    → next (num w) (λ n v. next (read_parts n part v) (λ r y. got (list c r) y)) ≡ got x rest → j.refused no_rule no_rivals u ≡ root_ending ph x bs u
unfolding root_ending
a_list h ph bs u part c w x rest e = go (num w) e
  where
    inner : (g : Read Stxs) → next g (λ r y. got (list c r) y) ≡ got x rest → j.refused no_rule no_rivals u ≡ root_ending ph x bs u
    inner (got r y) f = let z : list c r ≡ x = cc in ap (λ (k : Stx). root_ending ph k bs u) z
    inner (fault d) f = never f

    go : (g : Read ℕ) → next g (λ n v. next (read_parts n part v) (λ r y. got (list c r) y)) ≡ got x rest → j.refused no_rule no_rivals u ≡ root_ending ph x bs u
    go (got n v) f = inner (read_parts n part v) f
    go (fault d) f = never f

other-root : (h : Head) (ph : ℕ) (bs : List Bind) (u t : ℕ) (v : List ℕ) (x : Stx) (rest : List ℕ) → (t ≡ 0 → ⊥) → behind-tag h t v ≡ got x rest
    → j.refused no_rule no_rivals u ≡ root_ending ph x bs u
unfolding behind-tag read_content
other-root h ph bs u t v x rest n e = go (read_sets h.scopes v) e
  where
    by : (c : Sets) (w : List ℕ) (b : Bool) → read_content h (λ z. read_stx 63 h z) c t b w ≡ got x rest → j.refused no_rule no_rivals u ≡ root_ending ph x bs u
    by c w true f = a_list h ph bs u (λ z. read_stx 63 h z) c w x rest f
    by c w false f = other-atom h ph bs u c t w x rest n f

    go : (g : Read Sets) → next g (λ c w. read_content h (λ z. read_stx 63 h z) c t (eqb t 5) w) ≡ got x rest → j.refused no_rule no_rivals u ≡ root_ending ph x bs u
    go (got c w) f = by c w (eqb t 5) f
    go (fault d) f = never f

-- ---- an identifier

identifier-root : (h : Head) (t : ℕ) (v w rest2 : List ℕ) (c : Sets) (y : ℕ) (x : Stx) (rest : List ℕ) → t ≡ 0 → read_sets h.scopes v ≡ got c w
    → num_below (symbols h) w ≡ got y rest2 → behind-tag h t v ≡ got x rest → x ≡ atom c (symbol y)
unfolding behind-tag read_content read_atom
identifier-root h t v w rest2 c y x rest z p q e =
    let f : next (read_sets h.scopes v) (λ d k. read_content h (λ i. read_stx 63 h i) d 0 false k) ≡ got x rest = rw z at e in
    let g : ◌≡◌ {A = Read Stx} (got (atom c (symbol y)) rest2) (got x rest) = rw (p, q) at f in
    let d : atom c (symbol y) ≡ x = cc in
    sym d

-- ---- the ways out

module _ (n : Counts) (s : List ℕ) (at ph : ℕ) (bs : List Bind) (u : ℕ) {r : Result (ℕ × Cursor) Refusal} (h : r ≡ read_at (at + length s) (num_up_to layout 5 s)) where
  pub root-stops : {o : Result Ending Refusal} {f : Refusal} → r ≡ Err f → o ≡ Err f → RootEnds n s ph bs u o
  root-stops {f = f} e same = rw same (record {
    means = λ hd ag x rest k.
        let g : num_up_to layout 5 s ≡ fault (refusal_of f) = refused read_shape (at + length s) (num_up_to layout 5 s) h e in
        let i : read_stx most_nesting hd s ≡ fault (refusal_of f) = stx-step hd s ∙ rw g in
        never (sym i ∙ k);
  })

  module _ {t : ℕ} {past : Cursor} (e : r ≡ Ok (t, past)) where
    tagged : Took at s (num_up_to layout 5 s) t past.at
    tagged = took read_shape h e (up_to_tail layout 5 s)

    from-tag : (hd : Head) → read_stx most_nesting hd s ≡ behind-tag hd t (drop (past.at - at) s)
    from-tag hd = stx-step hd s ∙ rw tagged.is

    pub root-other : (t ≡ 0 → ⊥) → RootEnds n s ph bs u (Ok (Refused refusal.NoRule u))
    root-other z = record { means = λ hd ag x rest k. other-root hd ph bs u t (drop (past.at - at) s) x rest z (sym (from-tag hd) ∙ k) }

    module _ (z : t ≡ 0) {v : List ℕ} (i : v ≡ drop (past.at - at) s) where
      on_tag : (hd : Head) → Agree n hd → read_stx most_nesting hd s ≡ next (read_sets n.scopes v) (λ d w. read_content hd (λ y. read_stx 63 hd y) d t (eqb t 5) w)
      unfolding behind-tag
      on_tag hd ag = from-tag hd ∙ rw (← i, ag.scopes-are)

      module _ {q : Result (tb.Sets × Cursor) Refusal} (k : seen sets_of q ≡ read_at (past.at + length v) (read_sets n.scopes v)) where
        pub root_sets_stop : {o : Result Ending Refusal} {f : Refusal} → q ≡ Err f → o ≡ Err f → RootEnds n s ph bs u o
        root_sets_stop {f = f} g same = rw same (record {
          means = λ hd ag x rest o.
              let l : read_sets n.scopes v ≡ fault (refusal_of f) = seen-refused sets_of (past.at + length v) (read_sets n.scopes v) k g in
              let y : read_stx most_nesting hd s ≡ fault (refusal_of f) = on_tag hd ag ∙ rw l in
              never (sym y ∙ o);
        })

        module _ {three : tb.Sets} {behind : Cursor} (g : q ≡ Ok (three, behind)) {w : List ℕ} (l : w ≡ drop (behind.at - past.at) v) {r2 : Result (ℕ × Cursor) Refusal}
            (o : r2 ≡ read_at (behind.at + length w) (num_below n.symbols w)) where
          three_are : read_sets n.scopes v ≡ got (sets_of three) w
          three_are =
              let T : Took past.at v (read_sets n.scopes v) (sets_of three) behind.at =
              took read_shape k (whole sets_of past.at v (read_sets n.scopes v) k g (sets_tail n.scopes v)) (sets_tail n.scopes v) in
              T.is ∙ ap (got (sets_of three)) (sym l)

          pub root_symbol_stop : {p : Result Ending Refusal} {f : Refusal} → r2 ≡ Err f → p ≡ Err f → RootEnds n s ph bs u p
          unfolding read_content read_atom
          root_symbol_stop {f = f} y same = rw same (record {
            means = λ hd ag x rest d.
                let B : num_below n.symbols w ≡ fault (refusal_of f) = refused read_shape (behind.at + length w) (num_below n.symbols w) o y in
                let E : read_stx most_nesting hd s ≡ fault (refusal_of f) = on_tag hd ag ∙ rw (three_are, z, ← ag.symbols-are, B) in
                never (sym E ∙ d);
          })

          pub root_ends : {y : ℕ} {past2 : Cursor} {set : Scopes} {d : Ending} → r2 ≡ Ok (y, past2) → set ≡ set_at ph (sets_of three)
              → ending_of [] d ≡ found_ending (decided y set bs) u → RootEnds n s ph bs u (Ok d)
          unfolding root_ending
          root_ends {y} {past2} {set} {d} p sp ed = record {
            means = λ hd ag x rest f.
                let T : Took behind.at w (num_below n.symbols w) y past2.at = took read_shape o p (below_tail n.symbols w) in
                let A : read_sets hd.scopes v ≡ got (sets_of three) w = rw (← ag.scopes-are) three_are in
                let B : num_below (symbols hd) w ≡ got y (drop (past2.at - behind.at) w) = rw (← ag.symbols-are) T.is in
                let C : behind-tag hd t v ≡ got x rest = rw i (sym (from-tag hd) ∙ f) in
                let D : x ≡ atom (sets_of three) (symbol y) =
                identifier-root hd t v w (drop (past2.at - behind.at) w) (sets_of three) y x rest z A B C in
                ed ∙ ap (λ (m : Scopes). found_ending (decided y m bs) u) sp ∙ sym (ap (λ (X : Stx). root_ending ph X bs u) D);
          }

pub ruleset read_laws = (root-stops, root-other, root_sets_stop, root_symbol_stop, root_ends, sets_tail, up_to_tail, below_tail)
