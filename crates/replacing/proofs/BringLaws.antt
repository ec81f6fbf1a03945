-- The summary brought up to date: what both parts have is tallied, the entries are renewed, and the size is told.
use Prim.Native.Nat.{ℕ, zero, suc, ◌+◌, ◌-◌, ◌*◌, ◌≤◌, ◌<◌}
use mathlib.Core.Path.{◌≡◌, refl, sym, ap, ◌∙◌, subst}
use mathlib.Core.List.{List, [], ◌++◌}
use native.Mathlib.Omega.{arith}
use lib.ListN.{length, take, drop, get_or, set, replicate, length-set, length-drop, length-append, length-replicate, get_or-replicate}
use lib.Seq.{get_or-set_same, get_or-set_other, length-take-le}
use Rattle.model.specs.Trees.{tsize}
use Rattle.model.specs.Writing.{tree_bytes}
use Rattle.requests.specs.Uses.{things, uses, first_use, summary_words, entry_in}
use Rattle.requests.specs.Replacing as q
use Rattle.requests.specs.Replacing.{spot_in, change_of, count_after, first_after, entry_after, brought_up}
use Rattle.requests.proofs.Uses.{size-things, first-within, first-none, summary-length}
use Rattle.numbers.specs.Limits.{most_image}
use Rattle.scopes.specs.Sets.{set_scopes}
use Rattle.places.specs.Reading.{along}
use Rattle.places.specs.Counting.{Room, Holds, Clear, Tallied}
use Rattle.places.proofs.Along.{along-tree}
use Rattle.places.proofs.Passing.{size_le}
use Rattle.text.specs.Placing.{Placed}
use Rattle.text.proofs.Placing.{placed_then, placed-length}
use Rattle.summaries.specs.declared.opening.Opened.{Opened}
use Rattle.summaries.proofs.MakeLaws.{Written, written_is}
use Rattle.replacing.specs.declared.updating.Change.{Change}
use Rattle.replacing.specs.Updating.{Small, Firsts, Means, Tells, Renewed, Renews}
use Rattle.replacing.specs.Replacing.{Parted, Held, Cleared, Told, RenewsFrom, BringsUp}

-- ---- three pieces one behind another

module _ (image part : List ℕ) (from to : ℕ) where
  first-long : {x : List ℕ} → from ≤ length image → x ≡ take from image → length x ≡ from
  first-long h e = ap length e ∙ length-take-le from image h

  pub splice_from : from ≤ to → to ≤ length image → from ≤ length image
  splice_from h k = omega arith

  pub splice_count : (x : List ℕ) → x ≡ take from image → from ≤ to → to ≤ length image → length x ≡ from
  splice_count x e h k = first-long (omega arith) e

  module _ (out : List ℕ) (h : from ≤ to) (k : to ≤ length image) (l : from + length part + (length image - to) ≤ length out) where
    pub splice_first : {x : List ℕ} → x ≡ take from image → 0 + length x ≤ length out
    splice_first e = let z = first-long (omega arith) e in omega arith

    pub splice_second : {x out₁ : List ℕ} {a : ℕ} → Placed out 0 x out₁ a → from + length part ≤ length out₁
    splice_second p = omega (arith, placed-length p)

    pub splice_third : {x y out₁ out₂ : List ℕ} {a b : ℕ} → Placed out 0 x out₁ a → Placed out₁ from part out₂ b → y ≡ drop to image → from + length part + length y ≤ length out₂
    splice_third p q f = let d = ap length f ∙ length-drop to image in omega (arith, placed-length p, placed-length q)

    pub splice_placed : {x y out₁ out₂ out₃ : List ℕ} {a b c : ℕ} → x ≡ take from image → y ≡ drop to image
        → Placed out 0 x out₁ a → Placed out₁ from part out₂ b → Placed out₂ (from + length part) y out₃ c → Placed out 0 (take from image ++ (part ++ drop to image)) out₃ c
    splice_placed {x} {y} {out₁} {out₂} {out₃} {a} {b} {c} e f p q r =
        let z = first-long (omega arith) e in
        let i : from ≡ a = omega (arith, p.ends) in
        let j : from + length part ≡ b = omega (arith, q.ends) in
        let q' : Placed out₁ a part out₂ b = subst (λ (n : ℕ). Placed out₁ n part out₂ b) i q in
        let r' : Placed out₂ b y out₃ c = subst (λ (n : ℕ). Placed out₂ n y out₃ c) j r in
        subst (λ (l : List ℕ). Placed out 0 (l ++ (part ++ drop to image)) out₃ c) e (subst (λ (l : List ℕ). Placed out 0 (x ++ (part ++ l)) out₃ c) f (placed_then p (placed_then q' r')))

pub ruleset splice_laws = (splice_from, splice_count, splice_first, splice_second, splice_third, splice_placed)

-- ---- the entries of no things

pub nothing-clear : (names : ℕ) → names ≤ 1024 → Clear names (replicate 2050 0)
unfolding uses first_use
nothing-clear names h = record {
  counts = λ n l. get_or-replicate 2050 (2 + 2 * n) 0 0 (omega arith);
  firsts = λ n l. get_or-replicate 2050 (3 + 2 * n) 0 0 (omega arith);
}

pub nothing-room : (names : ℕ) → names ≤ 1024 → Room names (replicate 2050 0)
nothing-room names h = record { few = h; long = let e : length (replicate {A = ℕ} 2050 0) ≡ 2050 = length-replicate {A = ℕ} 2050 0 in omega arith }

module _ {image : List ℕ} {o : Opened} {at end : ℕ} {part : List ℕ} {c : Change} (P : Parted image o at end part c) where
  pub names-few : o.counts.names ≤ 1024
  names-few = P.opened.at.declared.names-few

  pub scopes-few : o.counts.scopes ≤ set_scopes
  scopes-few = P.opened.at.declared.scopes-few

  pub at-within : at ≤ 0 + length image
  at-within = omega (arith, P.from, P.to)

  pub end-within : end ≤ 0 + length image
  end-within = omega (arith, P.to)

  pub at-fits : {s : List ℕ} → s ≡ drop (at - 0) image → at + length s ≤ most_image
  at-fits e = let l = ap length e ∙ length-drop (at - 0) image in omega (arith, P.from, P.to, P.opened.short)

  pub end_fits : {s : List ℕ} → s ≡ drop (end - 0) image → end + length s ≤ most_image
  end_fits e = let l = ap length e ∙ length-drop (end - 0) image in omega (arith, P.from, P.to, P.opened.short)

  part-short : length part ≤ most_image
  part-short = omega (arith, P.new-at.short, ap length P.new-at.is, length-append (tree_bytes P.new) [])

  pub part-fits : 0 + length part ≤ most_image
  part-fits = omega (arith, part-short)

  pub old-few : c.old ≤ most_image
  old-few = omega (arith, P.old-is, size_le (spot_in c.place P.opened.read.root).part, P.old-at.short)

  pub new-few : c.new ≤ most_image
  new-few = omega (arith, P.new_is, size_le P.new, P.new-at.short)

  pub change-small : Small c
  change-small = record { place-to = omega (arith, P.sums, P.opened.size-to); old-to = old-few; new-to = new-few }

  pub behind-few : o.size - c.place - c.old ≤ most_image
  behind-few = omega (arith, P.opened.size-to)

  pub size_small : o.size - c.old + c.new < 4294967296
  size_small = omega (arith, P.opened.size-to, new-few)

  -- what is tallied
  module _ {s gone₀ come₀ gone come : List ℕ} (e : s ≡ drop (at - 0) image) (g : Tallied o.counts.names (along o.counts c.old s) gone₀ gone) (h : Tallied o.counts.names (along o.counts c.new part) come₀ come) where
    old-things : along o.counts c.old s ≡ things (spot_in c.place P.opened.read.root).part
    old-things =
        let z : at - 0 ≡ at = omega arith in
        ap (λ (n : ℕ). along o.counts n s) P.old-is ∙ ap (along o.counts (tsize (spot_in c.place P.opened.read.root).part)) (e ∙ ap (λ (j : ℕ). drop j image) z) ∙ along-tree P.old-at

    new-things : along o.counts c.new part ≡ things P.new
    new-things = ap (λ (n : ℕ). along o.counts n part) P.new_is ∙ along-tree P.new-at

    pub gone-room : Room o.counts.names gone₀ → Room o.counts.names gone
    gone-room r = record { few = names-few; long = omega (arith, g.kept.long, r.long) }

    pub come-room : Room o.counts.names come₀ → Room o.counts.names come
    come-room r = record { few = names-few; long = omega (arith, h.kept.long, r.long) }

    pub come-firsts : Firsts o.counts.names come
    come-firsts n l = by-uses (uses n (things P.new)) refl
      where
        first : get_or come (3 + 2 * n) 0 ≡ first_use n (things P.new)
        first = h.holds.firsts n l ∙ ap (first_use n) new-things

        by-uses : (k : ℕ) → uses n (things P.new) ≡ k → get_or come (3 + 2 * n) 0 ≤ most_image
        by-uses zero z = omega (arith, first, first-none n (things P.new) z)
        by-uses (suc k) z = omega (arith, first, first-within n (things P.new) (omega arith), size-things P.new, P.new_is, new-few)

  -- from here on what is held of both parts
  abbrev M : q.Change
  M = change_of c.place P.new P.opened.read.root

  tells : {gone come : List ℕ} → Holds o.counts.names (things (spot_in c.place P.opened.read.root).part) gone → Holds o.counts.names (things P.new) come → Tells M o.counts.names gone come
  unfolding change_of
  tells g h = record { gone = g.counts; come = h.counts; come-first = h.firsts }

  module _ {v : List ℕ} (f : v ≡ drop (end - 0) image) where
    means : Means M c (o.size - c.place - c.old) v o.counts
    unfolding change_of
    means =
        let z : end - 0 ≡ end = omega arith in
        let ol = size-things (spot_in c.place P.opened.read.root).part in
        let b : drop (c.place + c.old) (things P.opened.read.root) ≡ drop (c.place + length (things (spot_in c.place P.opened.read.root).part)) (things P.opened.read.root) =
        ap (λ (j : ℕ). drop (c.place + j) (things P.opened.read.root)) (P.old-is ∙ sym ol) in
        record {
          place_is = refl;
          old-is = P.old-is ∙ sym ol;
          new_is = P.new_is ∙ sym (size-things P.new);
          behind-is = ap (along o.counts (o.size - c.place - c.old)) (f ∙ ap (λ (j : ℕ). drop j image) z) ∙ P.behind-is ∙ b;
          behind-count = omega (arith, ap length (sym b), length-drop (c.place + c.old) (things P.opened.read.root), size-things P.opened.read.root, P.opened.size_is, P.sums);
        }

    module _ {gone come words words₁ : List ℕ} (H : Held o words) (R : Renews gone come c (o.size - c.place - c.old) v o.counts words words₁)
        (g : Holds o.counts.names (things (spot_in c.place P.opened.read.root).part) gone) (h : Holds o.counts.names (things P.new) come) where
      abbrev after : List ℕ
      after = set words₁ 0 (o.size - c.old + c.new)

      after_same : (j : ℕ) → 1 ≤ j → get_or after j 0 ≡ get_or words₁ j 0
      after_same j l = get_or-set_other words₁ 0 j (o.size - c.old + c.new) 0 (λ z. omega arith)

      renewed : Renewed M o.counts.names words words₁
      renewed = R.renewed M means (tells g h)

      written : Written (o.size - c.old + c.new) o.counts.names (entry_after M (entry_in words)) words after
      unfolding entry_after entry_in
      written = record {
        room = H.room.long;
        long = length-set words₁ 0 (o.size - c.old + c.new) ∙ R.kept.long;
        size-at = get_or-set_same words₁ 0 (o.size - c.old + c.new) 0 (omega (arith, R.kept.long, H.room.long));
        names_at = after_same 1 (omega arith) ∙ R.kept.before 1 (omega arith) ∙ H.names-told;
        counts = λ n l. after_same (2 + 2 * n) (omega arith) ∙ renewed.counts n l;
        firsts = λ n l. after_same (3 + 2 * n) (omega arith) ∙ renewed.firsts n l;
        behind = λ j l. after_same j (omega arith) ∙ R.kept.behind j l;
      }

      size_now : o.size - c.old + c.new ≡ get_or words 0 0 - length M.old + length M.new
      size_now = omega (arith, H.size-told, means.old-is, means.new_is)

      after_is : after ≡ brought_up M o.counts.names words ++ drop (2 + 2 * o.counts.names) words
      unfolding brought_up
      after_is =
          written_is written
          ∙ ap (λ (j : ℕ). summary_words (o.size - c.old + c.new) o.counts.names (entry_after M (entry_in words)) ++ drop j words) (summary-length (o.size - c.old + c.new) o.counts.names (entry_after M (entry_in words)))
          ∙ ap (λ (j : ℕ). summary_words j o.counts.names (entry_after M (entry_in words)) ++ drop (2 + 2 * o.counts.names) words) size_now

-- ---- what the code asks where it renews

module _ {image : List ℕ} {o : Opened} {end : ℕ} {c : Change} {gone come : List ℕ} (T : Told image o end c gone come) where
  pub told-end : end ≤ 0 + length image
  told-end = end-within T.parts

  pub told-place : c.place ≤ o.size
  told-place = omega (arith, T.parts.sums)

  pub told-rest : c.old ≤ o.size - c.place
  told-rest = omega (arith, T.parts.sums)

  pub told-old : c.old ≤ o.size
  told-old = omega (arith, T.parts.sums)

  pub told-size : o.size - c.old + c.new < 4294967296
  told-size = size_small T.parts

  pub told-image : {s : List ℕ} → s ≡ drop (end - 0) image → (end + length s ≤ most_image) × (o.counts.scopes ≤ set_scopes) × (o.size - c.place - c.old ≤ most_image) × Small c
  told-image e = (end_fits T.parts e, scopes-few T.parts, behind-few T.parts, change-small T.parts)

  module _ {words : List ℕ} (H : Held o words) where
    pub told_rooms : Room o.counts.names words × Room o.counts.names gone × Room o.counts.names come
    told_rooms = (H.room, T.gone-room, T.come-room)

    module _ {v words₁ : List ℕ} (f : v ≡ drop (end - 0) image) (R : Renews gone come c (o.size - c.place - c.old) v o.counts words words₁) where
      pub told-first : 0 < length words₁
      told-first = omega (arith, R.kept.long, H.room.long)

      pub told-long : length words₁ ≡ length words
      told-long = R.kept.long

      pub told-renewed : RenewsFrom image o end c gone come words (set words₁ 0 (o.size - c.old + c.new))
      told-renewed at part P g h = after_is P f H R g h

pub told-firsts : {image : List ℕ} {o : Opened} {end : ℕ} {c : Change} {gone come : List ℕ} → Told image o end c gone come → Firsts o.counts.names come
told-firsts T = T.firsts

pub ruleset renew_from_laws = (told-end, told-place, told-rest, told-old, told-size, told-image, told_rooms, told-firsts, told-first, told-long, told-renewed)

-- ---- and where it tallies

module _ {image : List ℕ} {o : Opened} {at end : ℕ} {part : List ℕ} {c : Change} {s gone₀ come₀ gone come : List ℕ} (e : s ≡ drop (at - 0) image)
    (g : Tallied o.counts.names (along o.counts c.old s) gone₀ gone) (h : Tallied o.counts.names (along o.counts c.new part) come₀ come) where
  pub bring_told : Parted image o at end part c → Cleared o gone₀ → Cleared o come₀ → Told image o end c gone come
  bring_told P x y = record { at = at; part = part; parts = P; gone-room = gone-room P e g h x.room; come-room = come-room P e g h y.room; firsts = come-firsts P e g h }

  pub bring_done : (words words' : List ℕ) → RenewsFrom image o end c gone come words words' → BringsUp image o at end part c words words'
  bring_done words words' R Q =
      R at part Q (record { counts = λ n l. g.holds.counts n l ∙ ap (uses n) (old-things Q e g h); firsts = λ n l. g.holds.firsts n l ∙ ap (first_use n) (old-things Q e g h) })
      (record { counts = λ n l. h.holds.counts n l ∙ ap (uses n) (new-things Q e g h); firsts = λ n l. h.holds.firsts n l ∙ ap (first_use n) (new-things Q e g h) })

pub cleared-room : {o : Opened} {words : List ℕ} → Cleared o words → Room o.counts.names words
cleared-room C = C.room

pub cleared-clear : {o : Opened} {words : List ℕ} → Cleared o words → Clear o.counts.names words
cleared-clear C = C.clear

pub bring_cleared : {image : List ℕ} {o : Opened} {at end : ℕ} {part : List ℕ} {c : Change} → Parted image o at end part c → Cleared o (replicate 2050 0)
bring_cleared {o = o} P = record { room = nothing-room o.counts.names (names-few P); clear = nothing-clear o.counts.names (names-few P) }

pub ruleset bring_laws = (at-within, at-fits, scopes-few, old-few, part-fits, new-few, cleared-room, cleared-clear, bring_cleared, bring_told, bring_done)
