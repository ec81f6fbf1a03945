-- The loop along the tokens: one law for each way on and out.
use Prim.Native.Nat.{ℕ, zero, suc, ◌+◌, ◌-◌, ◌≤◌, ◌<◌}
use mathlib.Core.Path.{◌≡◌, refl, ap, ◌∙◌}
use mathlib.Core.Bool.{false}
use mathlib.Core.List.{List}
use native.Mathlib.Omega.{arith}
use lib.ListN.{length, drop, replicate, length-drop, length-replicate, get_or-replicate}
use lib.Seq.{drop-drop}
use Rattle.std.specs.Prelude.{Result, Ok, Err}
use Rattle.model.specs.Meanings.{is_among}
use Rattle.requests.specs.Panel.{all_differ}
use Rattle.refusals.specs.declared.Refusal.{Refusal}
use Rattle.numbers.specs.declared.Cursor.{Cursor}
use Rattle.numbers.specs.Limits.{most_image}
use Rattle.numbers.specs.Answers.{read_at}
use Rattle.numbers.proofs.Answering.{read_shape, Took, took, refused}
use Rattle.bits.specs.Tokens.{read_token}
use Rattle.bits.specs.Meeting.{points, room, Met, none, meet, go_on, along, NoMarks, Holds, Noted}
use Rattle.bits.specs.declared.Token.{Token}
use Rattle.bits.specs.declared.Gathered.{Gathered}
use Rattle.bits.proofs.Tokens.{token_tail}

along-none : (left : ℕ) (met : Met) (s : List ℕ) → left ≡ 0 → along left met s ≡ met
unfolding along
along-none left met s e = rw e

along-more : (left : ℕ) (met : Met) (s : List ℕ) → 0 < left → along left met s ≡ go_on met (read_token s) (λ t rest. along (left - 1) (meet met t) rest)
unfolding along
along-more zero met s h = absurd (omega arith)
along-more (suc left) met s h = let e : left ≡ suc left - 1 = omega arith in ap (λ (k : ℕ). go_on met (read_token s) (λ t rest. along k (meet met t) rest)) e

-- what was met by `done` tokens is kept, and with what lies from the place reached on it comes to what is met along all of s
pub record Midway (at : ℕ) (s : List ℕ) (place done : ℕ) (marks names : List ℕ) (g : Gathered) : Type 0 where
  pub moved : at ≤ place
  pub within : place ≤ at + length s
  pub few : g.bits ≤ done
  pub marks-room : points ≤ length marks
  pub names-room : room ≤ length names
  pub met : Met
  pub holds : Holds met marks names g
  pub is : along (length s) none s ≡ along (length s - done) met (drop (place - at) s)

-- what a new array has
pub no-marks : NoMarks (replicate points 0)
no-marks = record { long = (let e : length (replicate {A = ℕ} points 0) ≡ points = length-replicate {A = ℕ} points 0 in omega arith); clear = λ x l. get_or-replicate points x 0 0 l }

nothing-held : {marks names : List ℕ} → NoMarks marks → Holds none marks names (record { bits = 0; twice = false; driving = false })
unfolding all_differ is_among
nothing-held c = record { counted = refl; named = λ l. refl; twice-is = refl; marked = c.clear; driving-is = refl }

pub midway_start : {at : ℕ} {s marks names : List ℕ} → NoMarks marks → room ≤ length names
    → Midway at s at 0 marks names (record { bits = 0; twice = false; driving = false })
midway_start {at} {s} c l =
    let e : at - at ≡ 0 = omega arith in
    let z : length s - 0 ≡ length s = omega arith in
    record {
      moved = omega arith;
      within = omega arith;
      few = omega arith;
      marks-room = c.long;
      names-room = l;
      met = none;
      holds = nothing-held c;
      is = rw (e, z);
    }

module _ {at : ℕ} {s : List ℕ} {place done : ℕ} {marks names : List ℕ} {g : Gathered} (w : Midway at s place done marks names g) where
  pub midway_ends : length s ≤ done → Holds (along (length s) none s) marks names g
  midway_ends h =
      let e : length s - done ≡ 0 = omega arith in
      rw (w.is, along-none (length s - done) w.met (drop (place - at) s) e) w.holds

  pub midway_small : at + length s ≤ most_image → done < length s → g.bits < 4294967295
  midway_small h k = let f = w.few in omega arith

  module _ {u : List ℕ} (i : u ≡ drop (place - at) s) where
    ends : place + length u ≡ at + length s
    ends = let l = ap length i ∙ length-drop (place - at) s in omega (arith, w.moved, w.within)

    pub midway_fits : {k : ℕ} → at + length s ≤ k → place + length u ≤ k
    midway_fits h = let e = ends in omega arith

    some : done < length s → 0 < length s - done
    some h = omega arith

    module _ (more : done < length s) {r : Result (Token × Cursor) Refusal} (h : r ≡ read_at (place + length u) (read_token u)) where
      pub midway_stops : {f : Refusal} → r ≡ Err f → Holds (along (length s) none s) marks names g
      midway_stops e = rw (w.is, ← i, along-more (length s - done) w.met u (some more), refused read_shape (place + length u) (read_token u) h e) w.holds

      pub midway_more : {t : Token} {past : Cursor} {marks' names' : List ℕ} {g' : Gathered} → r ≡ Ok (t, past) → Noted marks names g t marks' names' g'
          → length marks' ≡ length marks → length names' ≡ length names → Midway at s past.at (done + 1) marks' names' g'
      midway_more {t} {past} e n p q =
          let T : Took place u (read_token u) t past.at = took read_shape h e (token_tail u) in
          let z : place - at + (past.at - place) ≡ past.at - at = omega (arith, T.moved, w.moved) in
          let k : length s - done - 1 ≡ length s - (done + 1) = omega arith in
          let v : drop (past.at - place) u ≡ drop (past.at - at) s = ap (drop (past.at - place)) i ∙ drop-drop (past.at - place) (place - at) s ∙ ap (λ (y : ℕ). drop y s) z in
          record {
            moved = omega (arith, T.moved, w.moved);
            within = let y = ends in omega (arith, T.within);
            few = let y = n.more in let f = w.few in omega arith;
            marks-room = let y = w.marks-room in omega arith;
            names-room = let y = w.names-room in omega arith;
            met = meet w.met t;
            holds = n.keeps w.met w.holds;
            is = w.is ∙ rw (← i, along-more (length s - done) w.met u (some more), T.is, v, k);
          }

pub ruleset gathering_laws = (midway_start, midway_ends, midway_small, midway_fits, midway_stops, midway_more)
