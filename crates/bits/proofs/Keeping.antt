-- What the code keeps of one token more.
use Prim.Native.Nat.{ℕ, ◌+◌, ◌≤◌, ◌<◌}
use mathlib.Core.Path.{◌≡◌, refl, sym, ◌∙◌}
use mathlib.Core.Bool.{Bool, true, false, not, ◌&&◌, ◌||◌, or-false}
use mathlib.Core.List.{List, [], ◌∷◌, ◌++◌}
use native.Mathlib.Omega.{arith}
use native.Mathlib.Numerals.{add-one}
use lib.Dec.{eqb, ltb}
use lib.ListN.{length, get_or, set, take, length-append}
use lib.Seq.{get_or-set_same, get_or-set_other, take-suc-set}
use borrow.Author.Tests.{eq-eqb, ne_eqb, lt-ltb, ltb-true, eqb-true, eqb-false}
use Rattle.model.specs.Choice.{when◌then◌else◌}
use Rattle.model.specs.Meanings.{is_among}
use Rattle.laws.proofs.Tests.{and_both, among-more}
use Rattle.requests.specs.Panel.{all_differ}
use Rattle.bits.specs.Meeting.{points, room, is_out, meet, marked_at, driven_before, counted_at, named_at, Noted}
use Rattle.bits.specs.declared.Token.{Token}
use Rattle.bits.specs.declared.Gathered.{Gathered}

-- ---- one more at the end of a list

eqb_turned : (x y : ℕ) → eqb x y ≡ eqb y x
eqb_turned x y = go (eqb x y) refl
  where
    go : (b : Bool) → eqb x y ≡ b → eqb x y ≡ eqb y x
    go true e = e ∙ sym (eq-eqb y x (sym (eqb-true x y e)))
    go false e = e ∙ sym (ne_eqb y x (λ q. eqb-false x y e (sym q)))

pub differ-more : (l : List ℕ) (x : ℕ) → not (all_differ (l ++ x ∷ [])) ≡ (not (all_differ l) || is_among x l)
unfolding all_differ is_among
differ-more [] x = refl
differ-more (n ∷ l) x = rw (among-more n x l, eqb_turned x n) (go (is_among n l) (eqb n x) (all_differ l) (is_among x l) (all_differ (l ++ x ∷ [])) (differ-more l x))
  where
    go : (a e d i w : Bool) → not w ≡ (not d || i) → not (not (a || e) && w) ≡ (not (not a && d) || (e || i))
    go true e d i w h = refl
    go false true true i w h = refl
    go false true false i w h = refl
    go false false d i w h = h

-- ---- points

mark_told : (b : Bool) → not (eqb (when b then 1 else 0) 0) ≡ b
mark_told true = refl
mark_told false = refl

module _ (marks seen : List ℕ) (long : points ≤ length marks) (have : (y : ℕ) → y < points → get_or marks y 0 ≡ (when is_among y seen then 1 else 0)) (x : ℕ) where
  twice-more : (b : Bool) → (b ≡ true → x < points) → {w : Bool} → w ≡ not (all_differ seen)
      → (w || (b && not (eqb (get_or marks x 0) 0))) ≡ not (all_differ (when b then seen ++ x ∷ [] else seen))
  twice-more true h e = rw (e, have x (h refl), mark_told (is_among x seen)) (sym (differ-more seen x))
  twice-more false h {w} e = or-false w ∙ e

  marked_more : (b : Bool) → (b ≡ true → x < points) → (y : ℕ) → y < points
      → get_or (when b then set marks x 1 else marks) y 0 ≡ (when is_among y (when b then seen ++ x ∷ [] else seen) then 1 else 0)
  marked_more true h y l = rw (among-more y x seen) (go (eqb y x) refl)
    where
      always : (a : Bool) → ◌≡◌ {A = ℕ} 1 (when a || true then 1 else 0)
      always true = refl
      always false = refl

      as_before : (a : Bool) → ◌≡◌ {A = ℕ} (when a then 1 else 0) (when a || false then 1 else 0)
      as_before true = refl
      as_before false = refl

      go : (b : Bool) → eqb y x ≡ b → get_or (set marks x 1) y 0 ≡ (when is_among y seen || b then 1 else 0)
      go true e =
          let q : y ≡ x = eqb-true y x e in
          let k : x < length marks = let z = h refl in omega arith in
          rw (q, get_or-set_same marks x 1 0 k) (always (is_among x seen))
      go false e = get_or-set_other marks x y 1 0 (eqb-false y x e) ∙ have y l ∙ as_before (is_among y seen)
  marked_more false h y l = have y l

-- ---- names

module _ (names kept : List ℕ) (bits x : ℕ) (e : bits ≡ length kept) where
  counted-more : (b : Bool) → (when b then bits + 1 else bits) ≡ length (when b then kept ++ x ∷ [] else kept)
  counted-more true = let l = length-append kept (x ∷ []) in omega arith
  counted-more false = e

  named_more : room ≤ length names → (length kept ≤ room → take bits names ≡ kept) → (b : Bool) → length (when b then kept ++ x ∷ [] else kept) ≤ room
      → take (when b then bits + 1 else bits) (when b && ltb bits room then set names bits x else names) ≡ (when b then kept ++ x ∷ [] else kept)
  named_more long h true l =
      let k = length-append kept (x ∷ []) in
      let s : bits < room = omega arith in
      let q : length kept ≤ room = omega arith in
      let p : bits < length names = omega arith in
      rw (lt-ltb bits room s, add-one bits, take-suc-set names bits x p, h q)
  named_more long h false l = h l

-- ---- a token more

few : {x : ℕ} (d : Bool) → (d && ltb x points) ≡ true → x < points
few {x} d e = ltb-true x points (and_both d (ltb x points) e).1

counted-few : (b : Bool) (n : ℕ) → (when b then n + 1 else n) ≤ n + 1
counted-few true n = omega arith
counted-few false n = omega arith

module _ {marks₀ names₀ marks names : List ℕ} {g : Gathered} {t : Token} {bits : ℕ} {again twice driving : Bool} where
  pub noted : points ≤ length marks₀ → room ≤ length names₀ → again ≡ driven_before marks₀ g.driving t.content → marks ≡ marked_at marks₀ g.driving t.content
      → bits ≡ counted_at g.bits t → names ≡ named_at names₀ g.bits t → twice ≡ (g.twice || again) → driving ≡ is_out t
      → Noted marks₀ names₀ g t marks names (record { bits = bits; twice = twice; driving = driving })
  unfolding driven_before marked_at counted_at named_at meet
  noted long room-there a i b n w d =
      record {
        more = rw b (counted-few (eqb t.tag 2) g.bits);
        keeps = λ m h.
            let q = h.driving-is in
            record {
              counted = b ∙ counted-more names₀ m.names g.bits t.content h.counted (eqb t.tag 2);
              named = λ l. rw (b, n) (named_more names₀ m.names g.bits t.content h.counted room-there h.named (eqb t.tag 2) l);
              twice-is = w ∙ rw (a, q) (twice-more marks₀ m.seen long h.marked t.content (m.driving && ltb t.content points) (few m.driving) h.twice-is);
              marked = λ y l. rw (i, q) (marked_more marks₀ m.seen long h.marked t.content (m.driving && ltb t.content points) (few m.driving) y l);
              driving-is = d;
            };
      }
