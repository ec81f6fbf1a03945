-- The words of a summary: cleared, filled, and what they are in the end.
use Prim.Native.Nat.{ℕ, zero, suc, ◌+◌, ◌-◌, ◌*◌, ◌≤◌, ◌<◌}
use mathlib.Core.Path.{◌≡◌, refl, sym, ap, ◌∙◌}
use mathlib.Core.Bool.{Bool, true, false}
use mathlib.Core.List.{List, ◌++◌}
use native.Mathlib.Omega.{arith}
use lib.Dec.{leb, ltb}
use lib.ListN.{length, take, drop, get_or, set, replicate, length-set, length-drop, length-append, length-replicate, get_or-append, get_or-replicate}
use borrow.Rule.Slice.PartMut.{put_mid}
use Rattle.std.proofs.Common.{rules}
use Rattle.std.proofs.lemmas.List.{places}
use lib.Seq.{length-take-le, get_or-set_same, get_or-set_other, get_or-append-add, get_or-drop, ext_get_or}
use borrow.Author.Tests.{le-leb, lt-leb, ltb-true, ltb-false}
use Rattle.std.specs.Prelude.{Result, Ok, Err}
use Rattle.model.specs.Trees.{tsize}
use Rattle.model.specs.Reading.{read_tree_image, read_image}
use Rattle.requests.specs.Uses as u
use Rattle.requests.specs.Uses.{things, uses, first_use, Entry, entry_of, entry_words, summary_words, summary_of, uses_code, refused_answer, summary_in, summary_answer, summary_after}
use Rattle.requests.proofs.Uses.{summary-length, summary-count, summary-first}
use Rattle.refusals.specs.declared.Refusal as declared
use Rattle.refusals.specs.declared.Refusal.TheVariants as base
use Rattle.numbers.specs.Limits.{most_image}
use Rattle.scopes.specs.Sets.{set_scopes}
use Rattle.places.specs.Reading.{along}
use Rattle.places.specs.Counting.{Room, Clear, Tallied}
use Rattle.places.proofs.Along.{along-tree}
use Rattle.summaries.specs.declared.opening.Opened.{Opened}
use Rattle.summaries.specs.declared.refusal.UsesRefusal.{UsesRefusal}
use Rattle.summaries.specs.declared.refusal.UsesRefusal.TheVariants.{Base}
use Rattle.summaries.specs.Opening.{OpenedAt, Opens}
use Rattle.summaries.specs.Making.{Clears, Makes}

-- ---- the entries cleared

module _ (k : ℕ) (xs ys : List ℕ) (i : ℕ) (h : 2 + k ≤ length xs) (n : length ys ≡ k) where
  mid-before : i < 2 → get_or (put_mid 2 k xs ys) i 0 ≡ get_or xs i 0
  mid-before l = search (rules, places)

  mid-inside : 2 ≤ i → i < 2 + k → get_or (put_mid 2 k xs ys) i 0 ≡ get_or ys (i - 2) 0
  mid-inside l m = search (rules, places)

  mid-behind : 2 + k ≤ i → get_or (put_mid 2 k xs ys) i 0 ≡ get_or xs i 0
  mid-behind l = search (rules, places)

pub filled : {names end : ℕ} {words v : List ℕ} → Room names words → end ≡ 2 + 2 * names → v ≡ replicate (length (take (end - 2) (drop 2 words))) 0 → Clears names words (put_mid 2 (end - 2) words v)
unfolding uses first_use
filled {names} {end} {words} {v} r e f =
    let l : length (take (end - 2) (drop 2 words)) ≡ end - 2 = length-take-le (end - 2) (drop 2 words) (omega (arith, r.long, length-drop 2 words)) in
    let n : length v ≡ end - 2 = ap length f ∙ length-replicate (length (take (end - 2) (drop 2 words))) 0 ∙ l in
    let h : 2 + (end - 2) ≤ length words = omega (arith, r.long) in
    record {
      kept = record {
        long = omega (arith, length-append (take 2 words) (v ++ drop (end - 2) (drop 2 words)), length-append v (drop (end - 2) (drop 2 words)), length-take-le 2 words (omega arith), length-drop (end - 2) (drop 2 words), length-drop 2 words);
        before = λ i b. mid-before (end - 2) words v i h n b;
        behind = λ i b. mid-behind (end - 2) words v i h n (omega arith);
      };
      clear = record {
        counts = λ j b. mid-inside (end - 2) words v (2 + 2 * j) h n (omega arith) (omega arith) ∙ zeros (2 + 2 * j - 2) (omega arith);
        firsts = λ j b. mid-inside (end - 2) words v (3 + 2 * j) h n (omega arith) (omega arith) ∙ zeros (3 + 2 * j - 2) (omega arith);
      };
    }
  where
    zeros : (i : ℕ) → i < length (take (end - 2) (drop 2 words)) → get_or v i 0 ≡ 0
    zeros i b = rw f (get_or-replicate (length (take (end - 2) (drop 2 words))) i 0 0 b)

-- ---- what words are a summary, and behind it what was there before

pub record Written (size names : ℕ) (e : ℕ → Entry) (words words' : List ℕ) : Type 0 where
  pub room : 2 + 2 * names ≤ length words
  pub long : length words' ≡ length words
  pub size-at : get_or words' 0 0 ≡ size
  pub names_at : get_or words' 1 0 ≡ names
  pub counts : (n : ℕ) → n < names → get_or words' (2 + 2 * n) 0 ≡ (e n).count
  pub firsts : (n : ℕ) → n < names → get_or words' (3 + 2 * n) 0 ≡ (e n).first
  pub behind : (i : ℕ) → 2 + 2 * names ≤ i → get_or words' i 0 ≡ get_or words i 0

-- a place among the entries is that of a count or of a first place
data Half (i : ℕ) : Type 0 where
  even : (n : ℕ) → i ≡ 2 * n → Half i
  odd : (n : ℕ) → i ≡ 1 + 2 * n → Half i

half : (i : ℕ) → Half i
half zero = even 0 refl
half (suc i) = more (half i)
  where
    more : Half i → Half (suc i)
    more (even n e) = odd n (omega arith)
    more (odd n e) = even (suc n) (omega arith)

module _ {size names : ℕ} {e : ℕ → Entry} {words words' : List ℕ} (w : Written size names e words words') where
  whole : List ℕ
  whole = summary_words size names e ++ drop (2 + 2 * names) words

  among : (i : ℕ) → i < 2 * names → get_or words' (2 + i) 0 ≡ get_or (summary_words size names e) (2 + i) 0
  among i h = by-half (half i)
    where
      by-half : Half i → get_or words' (2 + i) 0 ≡ get_or (summary_words size names e) (2 + i) 0
      by-half (even n q) =
          let z : 2 + i ≡ 2 + 2 * n = omega arith in
          rw z (w.counts n (omega arith) ∙ sym (summary-count size names e n (omega arith)))
      by-half (odd n q) =
          let z : 2 + i ≡ 3 + 2 * n = omega arith in
          rw z (w.firsts n (omega arith) ∙ sym (summary-first size names e n (omega arith)))

  front_same : (i : ℕ) → i < 2 + 2 * names → get_or words' i 0 ≡ get_or (summary_words size names e) i 0
  unfolding summary_words
  front_same zero h = w.size-at
  front_same (suc zero) h = w.names_at
  front_same (suc (suc i)) h =
      let z : 2 + i ≡ suc (suc i) = omega arith in
      rw (← z) (among i (omega arith))

  at_place : (i : ℕ) → i < length words' → get_or words' i 0 ≡ get_or whole i 0
  unfolding whole
  at_place i h = by_test (ltb i (2 + 2 * names)) refl
    where
      by_test : (b : Bool) → ltb i (2 + 2 * names) ≡ b → get_or words' i 0 ≡ get_or (summary_words size names e ++ drop (2 + 2 * names) words) i 0
      by_test true q =
          let l = ltb-true i (2 + 2 * names) q in
          front_same i l ∙ sym (get_or-append (summary_words size names e) (drop (2 + 2 * names) words) 0 i (omega (arith, summary-length size names e)))
      by_test false q =
          let l = ltb-false i (2 + 2 * names) q in
          let s = summary-length size names e in
          let z : length (summary_words size names e) + (i - (2 + 2 * names)) ≡ i = omega arith in
          let y : 2 + 2 * names + (i - (2 + 2 * names)) ≡ i = omega arith in
          w.behind i l
          ∙ sym (ap (λ (k : ℕ). get_or (summary_words size names e ++ drop (2 + 2 * names) words) k 0) (sym z)
          ∙ get_or-append-add (summary_words size names e) (drop (2 + 2 * names) words) (i - (2 + 2 * names)) 0
          ∙ get_or-drop (2 + 2 * names) words (i - (2 + 2 * names)) 0 ∙ ap (λ (k : ℕ). get_or words k 0) y)

  pub written_is : words' ≡ summary_words size names e ++ drop (length (summary_words size names e)) words
  unfolding whole
  written_is =
      let s = summary-length size names e in
      ext_get_or 0 words' whole (omega (arith, w.long, w.room, length-append (summary_words size names e) (drop (2 + 2 * names) words), length-drop (2 + 2 * names) words)) at_place
      ∙ ap (λ (k : ℕ). summary_words size names e ++ drop k words) (sym s)

-- ---- the summary made

pub make_few : {image : List ℕ} {o : Opened} → OpenedAt image o → o.counts.names ≤ 1024
make_few g = g.at.declared.names-few

pub tally_image : {image : List ℕ} {o : Opened} {s : List ℕ} → OpenedAt image o → s ≡ drop (o.root - 0) image → o.root + length s ≤ most_image
tally_image {image} {o} g e = let l = ap length e ∙ length-drop (o.root - 0) image in omega (arith, g.short, g.root-within)

pub tally_scopes : {image : List ℕ} {o : Opened} → OpenedAt image o → o.counts.scopes ≤ set_scopes
tally_scopes g = g.at.declared.scopes-few

pub tally_size : {image : List ℕ} {o : Opened} → OpenedAt image o → o.size ≤ most_image
tally_size g = g.size-to

same-summary : {image : List ℕ} {o : Opened} (g : OpenedAt image o) → summary_of g.read.head.names g.read.root ≡ summary_words o.size o.counts.names (entry_of (things g.read.root))
unfolding summary_of
same-summary g = rw (← g.names-are, ← g.size_is) refl

module _ {image words : List ℕ} {o : Opened} (g : OpenedAt image o) {i : ℕ} (at : i ≡ 2 + 2 * o.counts.names) where
  pub make_short : length words < i → Makes image words words (Err (Base base.TooLong))
  unfolding summary_in summary_answer summary_after
  make_short h =
      let z : leb (2 + 2 * g.read.head.names) (length words) ≡ false = rw (← g.names-are) (lt-leb (2 + 2 * o.counts.names) (length words) (omega arith)) in
      record { few = λ n q. absurd (apart n q); answer = rw (g.reads, z) refl; left = rw (g.reads, z) refl }
    where
      apart : (n : ℕ) → ◌≡◌ {A = Result ℕ UsesRefusal} (Err (Base base.TooLong)) (Ok n) → ⊥
      apart n q = let z : ◌≡◌ {A = ℕ} 0 1 = cc in omega arith

  module _ (long : i ≤ length words) where
    pub make_room : Room o.counts.names words
    make_room = record { few = g.at.declared.names-few; long = omega arith }

    module _ {cleared : List ℕ} (c : Clears o.counts.names words cleared) where
      pub size_fits : 0 < length cleared
      size_fits = omega (arith, c.kept.long)

      pub names-fits : 1 < length (set cleared 0 o.size)
      names-fits = omega (arith, c.kept.long, length-set cleared 0 o.size)

      abbrev headed : List ℕ
      headed = set (set cleared 0 o.size) 1 o.counts.names

      headed-kept : (j : ℕ) → 2 ≤ j → get_or headed j 0 ≡ get_or cleared j 0
      headed-kept j h = get_or-set_other (set cleared 0 o.size) 1 j o.counts.names 0 (λ q. omega arith) ∙ get_or-set_other cleared 0 j o.size 0 (λ q. omega arith)

      headed-long : length headed ≡ length words
      headed-long = length-set (set cleared 0 o.size) 1 o.counts.names ∙ length-set cleared 0 o.size ∙ c.kept.long

      pub headed-room : Room o.counts.names headed
      headed-room = record { few = g.at.declared.names-few; long = omega (arith, headed-long) }

      pub headed-clear : Clear o.counts.names headed
      headed-clear = record {
        counts = λ n l. headed-kept (2 + 2 * n) (omega arith) ∙ c.clear.counts n l;
        firsts = λ n l. headed-kept (3 + 2 * n) (omega arith) ∙ c.clear.firsts n l;
      }

      module _ {s : List ℕ} (e : s ≡ drop (o.root - 0) image) {words' : List ℕ} (t : Tallied o.counts.names (along o.counts o.size s) headed words') where
        things-are : along o.counts o.size s ≡ things g.read.root
        things-are =
            let z : o.root - 0 ≡ o.root = omega arith in
            ap (λ (n : ℕ). along o.counts n s) g.size_is ∙ ap (along o.counts (tsize g.read.root)) (e ∙ ap (λ (k : ℕ). drop k image) z) ∙ along-tree g.at

        made : Written o.size o.counts.names (entry_of (things g.read.root)) words words'
        unfolding entry_of
        made = record {
          room = omega arith;
          long = t.kept.long ∙ headed-long;
          size-at = t.kept.before 0 (omega arith) ∙ get_or-set_other (set cleared 0 o.size) 1 0 o.counts.names 0 (λ q. omega arith) ∙ get_or-set_same cleared 0 o.size 0 size_fits;
          names_at = t.kept.before 1 (omega arith) ∙ get_or-set_same (set cleared 0 o.size) 1 o.counts.names 0 names-fits;
          counts = λ n l. t.holds.counts n l ∙ ap (uses n) things-are;
          firsts = λ n l. t.holds.firsts n l ∙ ap (first_use n) things-are;
          behind = λ j l. t.kept.behind j l ∙ headed-kept j (omega arith) ∙ c.kept.behind j l;
        }

        ending : u.SummaryEnding
        ending = summary_in (length words) (read_image read_tree_image image)

        ending-is : ending ≡ u.made (summary_words o.size o.counts.names (entry_of (things g.read.root)))
        unfolding ending summary_in
        ending-is =
            let z : leb (2 + 2 * g.read.head.names) (length words) ≡ true = rw (← g.names-are) (le-leb (2 + 2 * o.counts.names) (length words) (omega arith)) in
            rw (g.reads, z) (ap u.made (same-summary g))

        pub made-long : length words' ≡ length words
        made-long = t.kept.long ∙ headed-long

        pub make_made : Makes image words words' (Ok o.counts.names)
        unfolding ending summary_answer summary_after
        make_made =
            let l = summary-length o.size o.counts.names (entry_of (things g.read.root)) in
            record {
              few = λ n q. (let p = same n q in omega (arith, g.at.declared.names-few));
              answer = rw (ending-is, l) refl;
              left = rw ending-is (written_is made);
            }
          where
            same : (n : ℕ) → ◌≡◌ {A = Result ℕ UsesRefusal} (Ok o.counts.names) (Ok n) → o.counts.names ≡ n
            same n q = cc

pub ruleset make_from_laws = (make_short, make_few, tally_image, tally_scopes, tally_size, make_room, size_fits, names-fits, headed-room, headed-clear, made-long, make_made)

module _ (image words : List ℕ) {q : Result Opened declared.Refusal} (h : Opens image q) where
  pub make_refused : {f : declared.Refusal} → q ≡ Err f → Makes image words words (Err (Base f))
  unfolding summary_in summary_answer summary_after
  make_refused {f} e = record { few = λ n z. absurd (apart n z); answer = rw (h.refused f e) refl; left = rw (h.refused f e) refl }
    where
      apart : (n : ℕ) → ◌≡◌ {A = Result ℕ UsesRefusal} (Err (Base f)) (Ok n) → ⊥
      apart n z = let y : ◌≡◌ {A = ℕ} 0 1 = cc in omega arith

  pub make_opened : {o : Opened} → q ≡ Ok o → OpenedAt image o
  make_opened {o} e = h.tree o e

pub ruleset make_laws = (make_refused, make_opened)
