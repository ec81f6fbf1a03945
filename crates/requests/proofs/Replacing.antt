-- T-10: where a part is replaced, the things before it and behind it stay; and the summary brought up to date is the summary of the new
-- tree, after one replacement and after any number of them.
use Prim.Native.Nat.{ℕ, zero, suc, ◌+◌, ◌-◌, ◌≤◌, ◌<◌}
use mathlib.Core.Path.{◌≡◌, refl, sym, ap, ap₂, ◌∙◌}
use mathlib.Core.Bool.{Bool, true, false, not, ◌&&◌}
use mathlib.Core.List.{List, [], ◌∷◌, ◌++◌, append_assoc, append-nil}
use native.Mathlib.Omega.{arith}
use lib.Dec.{eqb, ltb}
use lib.ListN.{length, drop, length-append}
use lib.Seq.{drop_at}
use borrow.Author.Tests.{eq-eqb, ne_eqb, lt-ltb, le-ltb, le-leb, ltb-true, ltb-false}
use Rattle.model.specs.Choice.{when◌then◌else◌}
use Rattle.model.specs.Objects.{Name}
use Rattle.model.specs.Trees.{Tree, var, app, fun, datum, lst, stx, Trees, tnil, tcons, tsize, tsize_by, tsizes_by}
use Rattle.requests.specs.Uses.{Thing, other, things, things_all, uses, first_use, Entry, entry_of, entry_words, summary_words, summary_of, entry_in}
use Rattle.requests.specs.Replacing.{spot, spot_among, spot_in, replaced, replaced_among, Change, largest, capped, count_after, searched, first_after, entry_after, brought_up, change_of}
use Rattle.requests.proofs.Uses.{tsizes, size-things, uses-few, uses_append, first-within, first-left, first_right, first-none, question_counts_the_tree}

-- ---- before and behind the place p

pub record Parted (whole part : List Thing) (p : ℕ) (put : Tree → List Thing) : Type 0 where
  pub before : List Thing
  pub behind : List Thing
  pub splits : whole ≡ before ++ (part ++ behind)
  pub puts : (u : Tree) → put u ≡ before ++ (things u ++ behind)
  pub long : length before ≡ p

here_parted : (t : Tree) → Parted (things t) (things t) 0 (λ u. things u)
here_parted t = record { before = []; behind = []; splits = sym (append-nil (things t)); puts = λ u. sym (append-nil (things u)); long = refl }

-- things `front` come before, and things `end` behind
around : {whole part : List Thing} {p : ℕ} {put : Tree → List Thing} (front end : List Thing) → Parted whole part p put
    → Parted (front ++ (whole ++ end)) part (length front + p) (λ u. front ++ (put u ++ end))
around {whole} {part} {p} {put} front end h = record {
  before = front ++ h.before;
  behind = h.behind ++ end;
  splits = ap (λ (z : List Thing). front ++ (z ++ end)) h.splits ∙ moved part;
  puts = λ u. ap (λ (z : List Thing). front ++ (z ++ end)) (h.puts u) ∙ moved (things u);
  long = omega (arith, length-append front h.before, h.long);
}
  where
    moved : (x : List Thing) → front ++ ((h.before ++ (x ++ h.behind)) ++ end) ≡ (front ++ h.before) ++ (x ++ (h.behind ++ end))
    moved x =
        ap (λ (z : List Thing). front ++ z) (append_assoc h.before (x ++ h.behind) end ∙ ap (λ (z : List Thing). h.before ++ z) (append_assoc x h.behind end))
        ∙ sym (append_assoc front h.before (x ++ (h.behind ++ end)))

-- the same list, place and lists put in
same_parted : {a b part : List Thing} {p q : ℕ} {put get : Tree → List Thing} → Parted a part p put → a ≡ b → p ≡ q → ((u : Tree) → put u ≡ get u) → Parted b part q get
same_parted h e r f = record { before = h.before; behind = h.behind; splits = sym e ∙ h.splits; puts = λ u. sym (f u) ∙ h.puts u; long = h.long ∙ r }

mutual
  unfolding things things_all tsize tsizes tsize_by tsizes_by spot spot_among replaced replaced_among

  pub parted : (l low : ℕ) (t : Tree) (p : ℕ) → p < tsize t → Parted (things t) (things (spot l low t p).part) p (λ u. things (replaced u t p))
  parted l low (var n) zero h = here_parted (var n)
  parted l low (var n) (suc p) h = absurd (omega arith)
  parted l low (app g r) zero h = here_parted (app g r)
  parted l low (app g r) (suc p) h = by_test (ltb p (tsize g)) refl (λ k. parted (l - 1) 0 g p k) (λ k. among_parted (l - 1) 0 r (p - tsize g) k)
    where
      Goal : Bool → Type 0
      Goal b = Parted (other ∷ (things g ++ things_all r)) (things (when b then spot (l - 1) 0 g p else spot_among (l - 1) 0 r (p - tsize g)).part) (suc p)
          (λ u. things (when b then app (replaced u g p) r else app g (replaced_among u r (p - tsize g))))

      by_test : (b : Bool) → ltb p (tsize g) ≡ b
          → (p < tsize g → Parted (things g) (things (spot (l - 1) 0 g p).part) p (λ u. things (replaced u g p)))
          → (p - tsize g < tsizes r → Parted (things_all r) (things (spot_among (l - 1) 0 r (p - tsize g)).part) (p - tsize g) (λ u. things_all (replaced_among u r (p - tsize g))))
          → Goal b
      by_test true e x y = same_parted (around (other ∷ []) (things_all r) (x (ltb-true p (tsize g) e))) refl (omega arith) (λ u. refl)
      by_test false e x y =
          let k = ltb-false p (tsize g) e in
          same_parted (around (other ∷ things g) [] (y (omega arith)))
          (ap (λ (z : List Thing). other ∷ (things g ++ z)) (append-nil (things_all r))) (omega (arith, size-things g))
          (λ u. ap (λ (z : List Thing). other ∷ (things g ++ z)) (append-nil (things_all (replaced_among u r (p - tsize g)))))
  parted l low (fun n b) zero h = here_parted (fun n b)
  parted l low (fun n b) (suc p) h =
      same_parted (around (other ∷ []) [] (parted (l - 1) 0 b p (omega arith))) (ap (λ (z : List Thing). other ∷ z) (append-nil (things b))) (omega arith)
      (λ u. ap (λ (z : List Thing). other ∷ z) (append-nil (things (replaced u b p))))
  parted l low (datum a) zero h = here_parted (datum a)
  parted l low (datum a) (suc p) h = absurd (omega arith)
  parted l low (lst r) zero h = here_parted (lst r)
  parted l low (lst r) (suc p) h =
      same_parted (around (other ∷ []) [] (among_parted (l - 1) 2 r p (omega arith))) (ap (λ (z : List Thing). other ∷ z) (append-nil (things_all r))) (omega arith)
      (λ u. ap (λ (z : List Thing). other ∷ z) (append-nil (things_all (replaced_among u r p))))
  parted l low (stx s) zero h = here_parted (stx s)
  parted l low (stx s) (suc p) h = absurd (omega arith)

  pub among_parted : (l low : ℕ) (r : Trees) (p : ℕ) → p < tsizes r → Parted (things_all r) (things (spot_among l low r p).part) p (λ u. things_all (replaced_among u r p))
  among_parted l low tnil p h = absurd (omega arith)
  among_parted l low (tcons t r) p h = by_test (ltb p (tsize t)) refl (λ k. parted l low t p k) (λ k. among_parted l low r (p - tsize t) k)
    where
      by_test : (b : Bool) → ltb p (tsize t) ≡ b
          → (p < tsize t → Parted (things t) (things (spot l low t p).part) p (λ u. things (replaced u t p)))
          → (p - tsize t < tsizes r → Parted (things_all r) (things (spot_among l low r (p - tsize t)).part) (p - tsize t) (λ u. things_all (replaced_among u r (p - tsize t))))
          → Parted (things t ++ things_all r) (things (when b then spot l low t p else spot_among l low r (p - tsize t)).part) p
          (λ u. things_all (when b then tcons (replaced u t p) r else tcons t (replaced_among u r (p - tsize t))))
      by_test true e x y = same_parted (around [] (things_all r) (x (ltb-true p (tsize t) e))) refl (omega arith) (λ u. refl)
      by_test false e x y =
          let k = ltb-false p (tsize t) e in
          same_parted (around (things t) [] (y (omega arith))) (ap (λ (z : List Thing). things t ++ z) (append-nil (things_all r))) (omega (arith, size-things t))
          (λ u. ap (λ (z : List Thing). things t ++ z) (append-nil (things_all (replaced_among u r (p - tsize t)))))

-- ---- one name: `b` stands before, `o` was replaced by `w`, `a` stands behind

capped_small : (n : ℕ) → n ≤ largest → capped n ≡ n
unfolding capped
capped_small n h = rw (le-leb n largest h) refl

module _ (n : Name) (b o w a : List Thing) where
  abbrev change : Change
  change = record { place = length b; old = o; new = w; behind = a }

  -- the uses before and after
  was : uses n (b ++ (o ++ a)) ≡ uses n b + (uses n o + uses n a)
  was = uses_append n b (o ++ a) ∙ ap (λ (z : ℕ). uses n b + z) (uses_append n o a)

  is : uses n (b ++ (w ++ a)) ≡ uses n b + (uses n w + uses n a)
  is = uses_append n b (w ++ a) ∙ ap (λ (z : ℕ). uses n b + z) (uses_append n w a)

  count_brought_up : length (b ++ (w ++ a)) ≤ largest → count_after change n (uses n (b ++ (o ++ a))) ≡ uses n (b ++ (w ++ a))
  unfolding count_after
  count_brought_up h =
      let e : uses n (b ++ (o ++ a)) - uses n o + uses n w ≡ uses n (b ++ (w ++ a)) = omega (arith, was, is) in
      ap capped e ∙ capped_small (uses n (b ++ (w ++ a))) (omega (arith, uses-few n (b ++ (w ++ a))))

  -- the first of them, by where it was
  first-before : (x : List Thing) → 0 < uses n b → first_use n (b ++ (x ++ a)) ≡ first_use n b
  first-before x h = first-left n b (x ++ a) h

  first_in : (x : List Thing) → uses n b ≡ 0 → 0 < uses n x → first_use n (b ++ (x ++ a)) ≡ length b + first_use n x
  first_in x h k = first_right n b (x ++ a) h (omega (arith, uses_append n x a)) ∙ ap (λ (z : ℕ). length b + z) (first-left n x a k)

  first-behind : (x : List Thing) → uses n b ≡ 0 → uses n x ≡ 0 → 0 < uses n a → first_use n (b ++ (x ++ a)) ≡ length b + (length x + first_use n a)
  first-behind x h k q = first_right n b (x ++ a) h (omega (arith, uses_append n x a)) ∙ ap (λ (z : ℕ). length b + z) (first_right n x a k q)

  abbrev before_entry : Entry
  before_entry = record { count = uses n (b ++ (o ++ a)); first = first_use n (b ++ (o ++ a)) }

  -- one law for each way through the tests
  module _ (h : length (b ++ (w ++ a)) ≤ largest) where
    none_left : uses n (b ++ (w ++ a)) ≡ 0 → first_after change n before_entry ≡ first_use n (b ++ (w ++ a))
    unfolding first_after
    none_left z = rw (count_brought_up h, eq-eqb (uses n (b ++ (w ++ a))) 0 z) (sym (first-none n (b ++ (w ++ a)) z))

    module _ (some : 0 < uses n (b ++ (w ++ a))) where
      before_stays : 0 < uses n b → first_after change n before_entry ≡ first_use n (b ++ (w ++ a))
      unfolding first_after
      before_stays k =
          let f : first_use n (b ++ (o ++ a)) < length b = omega (arith, first-before o k, first-within n b k) in
          rw (
            count_brought_up h,
            ne_eqb (uses n (b ++ (w ++ a))) 0 (λ q. omega arith),
            ne_eqb (uses n (b ++ (o ++ a))) 0 (λ q. omega (arith, was)),
            lt-ltb (first_use n (b ++ (o ++ a))) (length b) f,
          )
          (first-before o k ∙ sym (first-before w k))

      module _ (none : uses n b ≡ 0) where
        -- the second test fails: nothing of it stands before
        not-before : (not (eqb (uses n (b ++ (o ++ a))) 0) && ltb (first_use n (b ++ (o ++ a))) (length b)) ≡ false
        not-before = by_count (uses n o) refl (uses n a) refl
          where
            by_count : (i : ℕ) → uses n o ≡ i → (j : ℕ) → uses n a ≡ j → (not (eqb (uses n (b ++ (o ++ a))) 0) && ltb (first_use n (b ++ (o ++ a))) (length b)) ≡ false
            by_count zero p zero q = rw (eq-eqb (uses n (b ++ (o ++ a))) 0 (omega (arith, was))) refl
            by_count zero p (suc j) q =
                let f = first-behind o none p (omega arith) in
                rw (ne_eqb (uses n (b ++ (o ++ a))) 0 (λ z. omega (arith, was)), le-ltb (first_use n (b ++ (o ++ a))) (length b) (omega arith)) refl
            by_count (suc i) p j q =
                let f = first_in o none (omega arith) in
                rw (ne_eqb (uses n (b ++ (o ++ a))) 0 (λ z. omega (arith, was)), le-ltb (first_use n (b ++ (o ++ a))) (length b) (omega arith)) refl

        in_new : 0 < uses n w → first_after change n before_entry ≡ first_use n (b ++ (w ++ a))
        unfolding first_after
        in_new k =
            rw (count_brought_up h, ne_eqb (uses n (b ++ (w ++ a))) 0 (λ q. omega arith), not-before, ne_eqb (uses n w) 0 (λ q. omega arith)) (sym (first_in w none k))

        module _ (no : uses n w ≡ 0) where
          left : 0 < uses n a
          left = omega (arith, is)

          from_old : 0 < uses n o → first_after change n before_entry ≡ first_use n (b ++ (w ++ a))
          unfolding first_after searched
          from_old k =
              let f = first_in o none k in
              rw (
                count_brought_up h,
                ne_eqb (uses n (b ++ (w ++ a))) 0 (λ q. omega arith),
                not-before,
                eq-eqb (uses n w) 0 no,
                lt-ltb (first_use n (b ++ (o ++ a))) (length b + length o) (omega (arith, first-within n o k)),
                ne_eqb (uses n a) 0 (λ q. omega (arith, left)),
              )
              (omega (arith, first-behind w none no left))

          moves : uses n o ≡ 0 → first_after change n before_entry ≡ first_use n (b ++ (w ++ a))
          unfolding first_after
          moves k =
              let f = first-behind o none k left in
              let g = first-behind w none no left in
              let e : first_use n (b ++ (o ++ a)) - length o + length w ≡ first_use n (b ++ (w ++ a)) = omega arith in
              let s = first-within n (b ++ (w ++ a)) some in
              rw (
                count_brought_up h,
                ne_eqb (uses n (b ++ (w ++ a))) 0 (λ q. omega arith),
                not-before,
                eq-eqb (uses n w) 0 no,
                le-ltb (first_use n (b ++ (o ++ a))) (length b + length o) (omega arith),
                e,
              )
              (capped_small (first_use n (b ++ (w ++ a))) (omega arith))

    first_brought_up : first_after change n before_entry ≡ first_use n (b ++ (w ++ a))
    first_brought_up = by-uses (uses n (b ++ (w ++ a))) refl (uses n b) refl (uses n w) refl (uses n o) refl
      where
        by-uses : (i : ℕ) → uses n (b ++ (w ++ a)) ≡ i → (j : ℕ) → uses n b ≡ j → (k : ℕ) → uses n w ≡ k → (m : ℕ) → uses n o ≡ m
            → first_after change n before_entry ≡ first_use n (b ++ (w ++ a))
        by-uses zero p j q k r m s = none_left p
        by-uses (suc i) p (suc j) q k r m s = before_stays (omega arith) (omega arith)
        by-uses (suc i) p zero q (suc k) r m s = in_new (omega arith) q (omega arith)
        by-uses (suc i) p zero q zero r (suc m) s = from_old (omega arith) q r (omega arith)
        by-uses (suc i) p zero q zero r zero s = moves (omega arith) q r s

    pub entry_brought_up : entry_after change (entry_of (b ++ (o ++ a))) n ≡ entry_of (b ++ (w ++ a)) n
    unfolding entry_after entry_of
    entry_brought_up = ap₂ (λ (x y : ℕ). record { count = x; first = y }) (count_brought_up h) first_brought_up

-- ---- the whole summary

entries_same : (k : ℕ) (n : Name) (e f : Name → Entry) → ((i : ℕ) → n ≤ i → i < n + k → e i ≡ f i) → entry_words k n e ≡ entry_words k n f
unfolding entry_words
entries_same zero n e f h = refl
entries_same (suc k) n e f h =
    rw (h n (omega arith) (omega arith)) (ap (λ (z : List ℕ). (f n).count ∷ (f n).first ∷ z) (entries_same k (suc n) e f (λ i g l. h i (omega arith) (omega arith))))

alike_entries : (c : Change) (e f : Name → Entry) (n : Name) → e n ≡ f n → entry_after c e n ≡ entry_after c f n
unfolding entry_after
alike_entries c e f n h = rw h refl

-- the tree with u in the place p, as lists of things
module _ (t u : Tree) (p : ℕ) (inside : p < tsize t) where
  abbrev parts : Parted (things t) (things (spot_in p t).part) p (λ v. things (replaced v t p))
  unfolding spot_in
  parts = parted 64 0 t p inside

  abbrev old : List Thing
  old = things (spot_in p t).part

  behind-is : drop (p + length old) (things t) ≡ parts.behind
  behind-is =
      ap (drop (p + length old)) (parts.splits ∙ sym (append_assoc parts.before old parts.behind))
      ∙ drop_at (parts.before ++ old) parts.behind (p + length old) (omega (arith, length-append parts.before old, parts.long))

  pub new-size : tsize (replaced u t p) ≡ tsize t - length old + tsize u
  new-size =
      omega (
        arith,
        size-things (replaced u t p),
        ap length (parts.puts u),
        length-append parts.before (things u ++ parts.behind),
        length-append (things u) parts.behind,
        size-things t,
        ap length parts.splits,
        length-append parts.before (old ++ parts.behind),
        length-append old parts.behind,
        size-things u,
      )

  change-is : change_of p u t ≡ record { place = length parts.before; old = old; new = things u; behind = parts.behind }
  unfolding change_of
  change-is = rw (behind-is, parts.long) refl

  size-after : tsize t - length (change_of p u t).old + length (change_of p u t).new ≡ tsize (replaced u t p)
  unfolding change_of
  size-after = omega (arith, new-size, size-things u)

  module _ (small : tsize (replaced u t p) ≤ largest) where
    entry_after_lem : (e : Name → Entry) (n : Name) → e n ≡ entry_of (things t) n → entry_after (change_of p u t) e n ≡ entry_of (things (replaced u t p)) n
    entry_after_lem e n h =
        let l : length (parts.before ++ (things u ++ parts.behind)) ≤ largest = omega (arith, ap length (parts.puts u), size-things (replaced u t p)) in
        alike_entries (change_of p u t) e (entry_of (things t)) n h
        ∙ ap (λ (c : Change). entry_after c (entry_of (things t)) n) change-is
        ∙ ap (λ (z : List Thing). entry_after (record { place = length parts.before; old = old; new = things u; behind = parts.behind }) (entry_of z) n) parts.splits
        ∙ entry_brought_up n parts.before old (things u) parts.behind l
        ∙ ap (λ (z : List Thing). entry_of z n) (sym (parts.puts u))

    -- after a replacement the summary brought up to date is the summary of the new tree
    pub summary_brought_up : (names : ℕ) (behind : List ℕ) → brought_up (change_of p u t) names (summary_of names t ++ behind) ≡ summary_of names (replaced u t p)
    unfolding brought_up summary_of summary_words
    summary_brought_up names behind =
        ap₂ (λ (x : ℕ) (l : List ℕ). x ∷ names ∷ l) size-after
        (entries_same names 0 (entry_after (change_of p u t) (entry_in (summary_of names t ++ behind))) (entry_of (things (replaced u t p)))
        (λ i g l. entry_after_lem (entry_in (summary_of names t ++ behind)) i (question_counts_the_tree names t behind i (omega arith))))

-- ---- any number of replacements: `Follows names t w v x` where v comes of t by replacements, and the words x of w by bringing up to
-- date each time

pub data Follows (names : ℕ) : Tree → List ℕ → Tree → List ℕ → Type 0 where
  none : {t : Tree} {w : List ℕ} → Follows names t w t w
  more : {t v : Tree} {w x : List ℕ} (u : Tree) (p : ℕ) → p < tsize v → tsize (replaced u v p) ≤ largest → Follows names t w v x
      → Follows names t w (replaced u v p) (brought_up (change_of p u v) names x)

pub summary_follows : (names : ℕ) {t v : Tree} {w x : List ℕ} → Follows names t w v x → w ≡ summary_of names t → x ≡ summary_of names v
summary_follows names none e = e
summary_follows names (more {t} {v} {w} {x} u p inside small f) e =
    ap (brought_up (change_of p u v) names) (summary_follows names f e ∙ sym (append-nil (summary_of names v))) ∙ summary_brought_up v u p inside small names []
