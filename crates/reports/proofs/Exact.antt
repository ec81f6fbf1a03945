-- The totals are the sums over the list of answers, or the top where those are over it; so the report of a file is that of its totals
-- wherever 64 bits hold them.
use mathlib.Core.Path.{◌≡◌, refl, sym, ap, ◌∙◌}
use Prim.Native.Nat.{ℕ, zero, suc, ◌+◌, ◌≤◌, ◌<◌}
use native.Mathlib.Omega.{arith}
use mathlib.Core.Bool.{Bool, true, false}
use mathlib.Core.Option.{Option, none, some}
use mathlib.Core.List.{List, [], ◌∷◌, ◌++◌, append_assoc, append-nil}
use lib.Dec.{eqb, leb}
use lib.ListN.{length, get_or, length-set, length-append, get_or-replicate, length-replicate}
use lib.Seq.{get_or-set_same, get_or-set_other}
use borrow.Author.Tests.{le-leb, lt-leb, leb-true, leb-false, eq-eqb, ne_eqb, eqb-true, eqb-false}
use Rattle.model.specs.Choice.{given}
use Rattle.model.specs.Jobs.{Line}
use Rattle.requests.specs.Report.{images_of, single, answers_to, answers_in, one_if, times_given, units_of, last_code, code_line, code_lines, units_line, mean_line, report_of, report_from, report}
use Rattle.requests.proofs.Report.{single-listed, times_of_both, units_of_both}
use Rattle.reports.specs.declared.division.Reading.TheVariants.{Between}
use Rattle.reports.specs.Dividing.{answers_from}
use Rattle.reports.specs.Totals.{codes, top, capped, Totals, no_totals, counted, counted_all, totals_from, reported}

-- ---- numbers that stand still at the top

capped_small : (n : ℕ) → n ≤ top → capped n ≡ n
unfolding capped
capped_small n h = rw (le-leb n top h)

capped-large : (n : ℕ) → top < n → capped n ≡ top
unfolding capped
capped-large n h = rw (lt-leb n top h)

capped_sum : (m n : ℕ) → capped (capped m + n) ≡ capped (m + n)
capped_sum m n = by (leb m top) refl
  where
    by : (t : Bool) → leb m top ≡ t → capped (capped m + n) ≡ capped (m + n)
    by true e = let h = leb-true m top e in ap (λ (k : ℕ). capped (k + n)) (capped_small m h)
    by false e =
        let h = leb-false m top e in
        ap (λ (k : ℕ). capped (k + n)) (capped-large m h) ∙ both n h
      where
        both : (n : ℕ) → top < m → capped (top + n) ≡ capped (m + n)
        both zero h = capped_small (top + 0) (omega arith) ∙ sym (capped-large (m + 0) (omega arith))
        both (suc k) h = capped-large (top + suc k) (omega arith) ∙ sym (capped-large (m + suc k) (omega arith))

-- ---- the totals of a list of answers

pub record TotalsOf (l : List Line) (t : Totals) : Type 0 where
  pub long : length t.counts ≡ codes
  pub times : (c : ℕ) → c < codes → get_or t.counts c 0 ≡ capped (times_given c l)
  pub units : t.units ≡ capped (units_of l)
  pub images : t.images ≡ capped (length l)

times_so : (c : ℕ) (l : List Line) (a : Line) → c ≡ a.code → times_given c (l ++ a ∷ []) ≡ times_given c l + 1
unfolding times_given one_if
times_so c l a e = times_of_both c l (a ∷ []) ∙ rw (eq-eqb c a.code e)

times_not : (c : ℕ) (l : List Line) (a : Line) → (c ≡ a.code → ⊥) → times_given c (l ++ a ∷ []) ≡ times_given c l
unfolding times_given one_if
times_not c l a h = times_of_both c l (a ∷ []) ∙ rw (ne_eqb c a.code h) (omega arith)

units-one : (l : List Line) (a : Line) → units_of (l ++ a ∷ []) ≡ units_of l + a.units
unfolding units_of
units-one l a = let h = units_of_both l (a ∷ []) in omega arith

none_yet : TotalsOf [] no_totals
unfolding times_given units_of capped
none_yet = record { long = length-replicate {A = ℕ} codes 0; times = λ c h. get_or-replicate {A = ℕ} codes c 0 0 h; units = refl; images = refl }

module _ {l : List Line} {t : Totals} (w : TotalsOf l t) (a : Line) (h : a.code < codes) where
  one_time : (c : ℕ) → c < codes → (b : Bool) → eqb c a.code ≡ b → get_or (counted a t).counts c 0 ≡ capped (times_given c (l ++ a ∷ []))
  unfolding counted
  one_time c k true e =
      let q = eqb-true c a.code e in
      let i : a.code < length t.counts = (let n = w.long in omega arith) in
      ap (λ (j : ℕ). get_or (counted a t).counts j 0) q
      ∙ get_or-set_same t.counts a.code _ 0 i
      ∙ ap (λ (n : ℕ). capped (n + 1)) (w.times a.code h)
      ∙ capped_sum (times_given a.code l) 1
      ∙ ap (λ (j : ℕ). capped (times_given j l + 1)) (sym q)
      ∙ ap capped (sym (times_so c l a q))
  one_time c k false e =
      let q = eqb-false c a.code e in
      get_or-set_other t.counts a.code c _ 0 q ∙ w.times c k ∙ ap capped (sym (times_not c l a q))

  one_more : TotalsOf (l ++ a ∷ []) (counted a t)
  unfolding counted
  one_more = record {
    long = length-set t.counts a.code _ ∙ w.long;
    times = λ c k. one_time c k (eqb c a.code) refl;
    units = ap (λ (n : ℕ). capped (n + a.units)) w.units ∙ capped_sum (units_of l) a.units ∙ ap capped (sym (units-one l a));
    images = ap (λ (n : ℕ). capped (n + 1)) w.images ∙ capped_sum (length l) 1 ∙ ap capped (sym (length-append l (a ∷ [])));
  }

listed : (i : List ℕ) → (single i).code < codes
unfolding last_code
listed i = let h = single-listed i in omega arith

-- each code is one that is counted
abbrev AllListed : List Line → Type 0
AllListed [] = Unit {0}
AllListed (a ∷ l) = (a.code < codes) × AllListed l

all_listed : (images : List (List ℕ)) → AllListed (answers_to images)
unfolding answers_to
all_listed [] = tt
all_listed (i ∷ l) = (listed i, all_listed l)

lines_more : {done : List Line} {t : Totals} (l : List Line) → AllListed l → TotalsOf done t → TotalsOf (done ++ l) (counted_all l t)
unfolding counted_all
lines_more {done} {t} [] h w = rw append-nil w
lines_more {done} {t} (a ∷ l) h w = rw (← append_assoc done (a ∷ []) l) (lines_more {done = done ++ a ∷ []} {t = counted a t} l h.1 (one_more w a h.0))

-- all answers to images
all_more : {done : List Line} {t : Totals} (images : List (List ℕ)) → TotalsOf done t → TotalsOf (done ++ answers_to images) (counted_all (answers_to images) t)
all_more images w = lines_more (answers_to images) (all_listed images) w

pub totals_are : (images : List (List ℕ)) → TotalsOf (answers_to images) (counted_all (answers_to images) no_totals)
totals_are images = all_more images none_yet

-- ---- the report, where 64 bits hold the totals

pub record Held (l : List Line) : Type 0 where
  pub units : units_of l ≤ top
  pub images : length l ≤ top

one_at_most : (b : Bool) → one_if b ≤ 1
unfolding one_if
one_at_most true = omega arith
one_at_most false = omega arith

times_few : (c : ℕ) (l : List Line) → times_given c l ≤ length l
unfolding times_given
times_few c [] = omega arith
times_few c (a ∷ l) = let h = times_few c l in let o = one_at_most (eqb c a.code) in omega arith

same_codes : (k c : ℕ) (f g : ℕ → ℕ) (after : List ℕ) → ((j : ℕ) → j < c + k → f j ≡ g j) → code_lines k c f after ≡ code_lines k c g after
unfolding code_lines
same_codes zero c f g after h = refl
same_codes (suc k) c f g after h =
    ap (λ (n : ℕ). code_line c n (code_lines k (suc c) f after)) (h c (omega arith))
    ∙ ap (code_line c (g c)) (same_codes k (suc c) f g after (λ j i. h j (omega arith)))

totals_reported : (l : List Line) (t : Totals) → TotalsOf l t → Held l → reported (some t) ≡ report_from (some l)
unfolding reported report_from report_of last_code
totals_reported l t w h =
    let u = w.units ∙ capped_small (units_of l) h.units in
    let i = w.images ∙ capped_small (length l) h.images in
    same_codes codes 0 (λ c. get_or t.counts c 0) (λ c. times_given c l) _ (λ c k.
    w.times c (omega arith) ∙ capped_small (times_given c l) (let f = times_few c l in let g = h.images in omega arith))
    ∙ ap (λ (n : ℕ). code_lines codes 0 (λ c. times_given c l) (units_line n (mean_line t.images n))) u
    ∙ ap (λ (n : ℕ). code_lines codes 0 (λ c. times_given c l) (units_line (units_of l) (mean_line n (units_of l)))) i

-- what is printed of a file that was read from its start
pub report-exact : (room file : List ℕ) → ((l : List Line) → answers_in file ≡ some l → Held l)
    → reported (totals_from Between room no_totals file) ≡ report file
unfolding totals_from answers_from report reported report_from answers_in
report-exact room file h = by (images_of file) refl
  where
    by : (o : Option (List (List ℕ))) → images_of file ≡ o → reported (given (given o (λ l. some (answers_to l))) (λ l. some (counted_all l no_totals)))
        ≡ report_from (given o (λ l. some (answers_to l)))
    by none e = refl
    by (some images) e =
        totals_reported (answers_to images) (counted_all (answers_to images) no_totals) (totals_are images)
        (h (answers_to images) (ap (λ (o : Option (List (List ℕ))). given o (λ l. some (answers_to l))) e))
