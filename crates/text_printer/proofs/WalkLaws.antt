-- A step of the walk, by the tests that the code makes.
use Prim.Native.Nat.{ℕ, suc, ◌+◌, ◌-◌, ◌≤◌, ◌<◌}
use mathlib.Core.Path.{◌≡◌, refl, sym, ap, ◌∙◌, subst}
use mathlib.Core.List.{List, [], ◌∷◌, ◌++◌, append_assoc}
use native.Mathlib.Omega.{arith}
use native.Mathlib.Nat.{le-max_left, le-max_right}
use lib.ListN.{length, drop, get_or, set, length-set, length-drop, length-append}
use lib.Seq.{get_or-set_same, get_or-set_other}
use Rattle.model.specs.Limits.{last_point, last_primitive, last_rung_word}
use Rattle.model.specs.Objects.{Atom, symbol, number, point, prim, rung, tag_of, content_of, Sets, Stx, atom, list, Stxs, nil, cons, count, nesting, nestings}
use Rattle.model.specs.Writing.{num_bytes, sets_bytes, stxs_bytes}
use Rattle.codec_laws.specs.WellFormed.{AtomFits}
use Rattle.codec_laws.proofs.Lengths.{num-some, count_le}
use Rattle.codec_laws.proofs.ObjectTrip.{tag_le}
use Rattle.text_printer.specs.declared.fronts.Front.{Front}
use Rattle.text_printer.specs.declared.walking.Walk.{Walk}
use Rattle.text_printer.specs.declared.walking.Step.TheVariants.{Open, Close}
use Rattle.std.specs.Prelude.{None, Some}
use Rattle.text_printer.specs.declared.walking.Step.TheVariants as step
use Rattle.text_printer.specs.Fronts.{Inside, After, FrontIs}
use Rattle.text_printer.specs.Walking.{bytes_ahead, Counted, Shallow, Standing, Walkable, Opens, Closes, Meets, Steps}
use Rattle.text_printer.proofs.FrontLaws.{Fronted, fronted}

-- ---- counts in the array

counted-other : (left : List ℕ) (i v d : ℕ) (ls : List Stxs) → d ≤ i → Counted left d ls → Counted (set left i v) d ls
counted-other left i v d [] l c = c
counted-other left i v d (x ∷ ls) l c =
    let p = c.0 in
    (c.0, get_or-set_other left i (d - 1) v 0 (λ e. omega arith) ∙ c.1, counted-other left i v (d - 1) ls (omega arith) c.2)

no-parts : (l : Stxs) → count l ≡ 0 → l ≡ nil
unfolding count
no-parts nil e = refl
no-parts (cons x l) e = absurd (omega arith)

-- ---- what an atom's content can be

content-small : (k : ℕ) → k < 4294967296 → (a : Atom) → AtomFits k a → content_of a < 4294967296
unfolding content_of last_point last_primitive last_rung_word
content-small k l (symbol x) f = omega arith
content-small k l (number x) f = f
content-small k l (point x) f = omega arith
content-small k l (prim x) f = omega arith
content-small k l (rung x) f = omega arith

-- ---- the bytes of what comes next

atom-bytes : (c : Sets) (a : Atom) (l : Stxs) (ls : List Stxs)
    → bytes_ahead (cons (atom c a) l ∷ ls) ≡ num_bytes (tag_of a) ++ (sets_bytes c ++ (num_bytes (content_of a) ++ bytes_ahead (l ∷ ls)))
unfolding bytes_ahead stxs_bytes
atom-bytes c a l ls = regroup (num_bytes (tag_of a)) (sets_bytes c) (num_bytes (content_of a)) (stxs_bytes l) (bytes_ahead ls)
  where
    regroup : (p q r s t : List ℕ) → (((p ++ q) ++ r) ++ s) ++ t ≡ p ++ (q ++ (r ++ (s ++ t)))
    regroup p q r s t = simp append_assoc

list-bytes : (c : Sets) (p l : Stxs) (ls : List Stxs)
    → bytes_ahead (cons (list c p) l ∷ ls) ≡ num_bytes 5 ++ (sets_bytes c ++ (num_bytes (count p) ++ bytes_ahead (p ∷ l ∷ ls)))
unfolding bytes_ahead stxs_bytes
list-bytes c p l ls = regroup (num_bytes 5) (sets_bytes c) (num_bytes (count p)) (stxs_bytes p) (stxs_bytes l) (bytes_ahead ls)
  where
    regroup : (a b d e f g : List ℕ) → ((((a ++ b) ++ d) ++ e) ++ f) ++ g ≡ a ++ (b ++ (d ++ (e ++ (f ++ g))))
    regroup a b d e f g = simp append_assoc

no_bytes : (ls : List Stxs) → bytes_ahead (nil ∷ ls) ≡ bytes_ahead ls
unfolding bytes_ahead stxs_bytes
no_bytes ls = refl

first-bytes : (l : Stxs) (ls : List Stxs) → bytes_ahead (l ∷ ls) ≡ stxs_bytes l ++ bytes_ahead ls
unfolding bytes_ahead
first-bytes l ls = refl

deep_list : (d : ℕ) (c : Sets) (p l : Stxs) → d + nestings (cons (list c p) l) ≤ 65 → (d + 1 + nestings p ≤ 65) × (d + nestings l ≤ 65)
unfolding nesting
deep_list d c p l h =
    let a = le-max_left (suc (nestings p)) (nestings l) in
    let b = le-max_right (suc (nestings p)) (nestings l) in
    (omega arith, omega arith)

deep_rest : (d : ℕ) (x : Stx) (l : Stxs) → d + nestings (cons x l) ≤ 65 → d + nestings l ≤ 65
unfolding nesting
deep_rest d x l h = let b = le-max_right (nesting x) (nestings l) in omega arith

count-cons : (x : Stx) (l : Stxs) → count (cons x l) ≡ suc (count l)
unfolding count
count-cons x l = refl

-- ---- what the code asks

module _ {image left : List ℕ} {w : Walk} (y : Walkable image left w) where
  pub walk_deep : 1 ≤ w.depth
  walk_deep = y.stands.counts.0

  pub top-there : w.depth - 1 < length left
  top-there =
      let a = y.stands.room in
      let b = y.stands.shallow.0 in
      let c = y.stands.counts.0 in
      omega arith

  pub walk_inside : Inside image w.at
  walk_inside = record { within = y.stands.within; short = y.stands.short }

-- where a list is to come, its count has a place
module _ {image left : List ℕ} {w : Walk} (y : Walkable image left w) where
  more_than_none : (l : Stxs) → (count l ≡ 0 → ⊥) → 1 ≤ nestings l
  unfolding count nesting
  more_than_none nil n = absurd (n refl)
  more_than_none (cons (atom c a) l) n = let h = le-max_left 1 (nestings l) in h
  more_than_none (cons (list c p) l) n = let h = le-max_left (suc (nestings p)) (nestings l) in omega arith

  pub next-there : (v : ℕ) → (get_or left (w.depth - 1) 0 ≡ 0 → ⊥) → w.depth < length (set left (w.depth - 1) v)
  next-there v n =
      let a = y.stands.room in
      let b = y.stands.shallow.0 in
      let e = y.stands.counts.1 in
      let m = more_than_none y.first (λ z. n (e ∙ z)) in
      let s = length-set left (w.depth - 1) v in
      omega arith

-- ---- the ways out

-- the counts where one part less is to come of the innermost list
abbrev one_less : List ℕ → Walk → List ℕ
one_less left w = set left (w.depth - 1) (get_or left (w.depth - 1) 0 - 1)

counts_less : (left : List ℕ) (w : Walk) (y : Stx) (l : Stxs) (ls : List Stxs) → length left ≡ 65 → w.depth ≤ 65 → Counted left w.depth (cons y l ∷ ls) → Counted (one_less left w) w.depth (l ∷ ls)
counts_less left w y l ls r b c =
    let p = c.0 in
    let e = c.1 ∙ count-cons y l in
    let g = get_or-set_same left (w.depth - 1) (get_or left (w.depth - 1) 0 - 1) 0 (omega arith) in
    (p, omega arith, counted-other left (w.depth - 1) (get_or left (w.depth - 1) 0 - 1) (w.depth - 1) ls (omega arith) c.2)

-- the place past a front is further on
past_onward : (image : List ℕ) (at past t m : ℕ) (q : List ℕ) (c : Sets) → at ≤ length image → drop at image ≡ num_bytes t ++ (sets_bytes c ++ (num_bytes m ++ q)) → After image past q → at < past
past_onward image at past t m q c i e a =
    let d₁ = length-drop at image in
    let d₂ = length-drop past image in
    let b = ap length a.is in
    let g = ap length e in
    let a₁ = length-append (num_bytes t) (sets_bytes c ++ (num_bytes m ++ q)) in
    let a₂ = length-append (sets_bytes c) (num_bytes m ++ q) in
    let a₃ = length-append (num_bytes m) q in
    let h = num-some t in
    let j = a.within in
    omega arith

module _ {image left : List ℕ} {w : Walk} where
  pub step_end : get_or left (w.depth - 1) 0 ≡ 0 → w.depth - 1 ≡ 0 → Steps image left w left None
  step_end z d = record { same = refl; is = λ k n l ls s. (no-parts l (sym s.counts.1 ∙ z), none ls (subst (λ (m : ℕ). Counted left m ls) d s.counts.2)) }
    where
      none : (ls : List Stxs) → Counted left 0 ls → ls ≡ []
      none [] c = refl
      none (x ∷ ls) c = absurd (no c.0)
        where
          no : 0 < 0 → ⊥
          no h = omega arith

  pub step_close : get_or left (w.depth - 1) 0 ≡ 0 → (w.depth - 1 ≡ 0 → ⊥) → Steps image left w left (Some (Close, record { at = w.at; depth = w.depth - 1 }))
  step_close z d = record { same = refl; is = λ k n l ls s. closes k n l ls s }
    where
      closes : (k n : ℕ) (l : Stxs) (ls : List Stxs) → Standing k n image left w l ls → Closes k n image w l ls left (record { at = w.at; depth = w.depth - 1 })
      closes k n l [] s = absurd (d s.counts.2)
      closes k n l (x ∷ ls) s =
          let e : l ≡ nil = no-parts l (sym s.counts.1 ∙ z) in
          let p = s.counts.0 in
          record {
            next = x;
            others = ls;
            is = e;
            around = refl;
            same = refl;
            higher = omega arith;
            stands = record {
              symbols-few = s.symbols-few;
              scopes-few = s.scopes-few;
              within = s.within;
              short = s.short;
              room = s.room;
              bytes = s.bytes ∙ ap (λ (m : Stxs). bytes_ahead (m ∷ x ∷ ls)) e ∙ no_bytes (x ∷ ls);
              counts = s.counts.2;
              shallow = s.shallow.1;
              fits = s.fits.1;
            };
          }

  -- one part less is to come of the innermost list
  module _ (some : get_or left (w.depth - 1) 0 ≡ 0 → ⊥) {x : Front} (f : FrontIs image w.at x) where
    none_left : (l : Stxs) {k n : ℕ} {ls : List Stxs} → Standing k n image left w l ls → l ≡ nil → ⊥
    unfolding count
    none_left l s e = some (s.counts.1 ∙ ap count e)

    atom-front : (k n : ℕ) (c : Sets) (a : Atom) (l : Stxs) (ls : List Stxs) → Standing k n image left w (cons (atom c a) l) ls → Fronted image x (tag_of a) (content_of a) (bytes_ahead (l ∷ ls))
    atom-front k n c a l ls s =
        let t = tag_le a in
        fronted n (tag_of a) (content_of a) c (bytes_ahead (l ∷ ls)) f s.scopes-few s.fits.0.0.0 (omega arith) (content-small k s.symbols-few a s.fits.0.0.1)
        (s.bytes ∙ atom-bytes c a l ls)

    few-parts : (k n : ℕ) (c : Sets) (p l : Stxs) (ls : List Stxs) → Standing k n image left w (cons (list c p) l) ls → count p < 4294967296
    few-parts k n c p l ls s =
        let e = ap length (s.bytes ∙ list-bytes c p l ls) in
        let d = length-drop w.at image in
        let a₁ = length-append (num_bytes 5) (sets_bytes c ++ (num_bytes (count p) ++ bytes_ahead (p ∷ l ∷ ls))) in
        let a₂ = length-append (sets_bytes c) (num_bytes (count p) ++ bytes_ahead (p ∷ l ∷ ls)) in
        let a₃ = length-append (num_bytes (count p)) (bytes_ahead (p ∷ l ∷ ls)) in
        let a₄ = ap length (first-bytes p (l ∷ ls)) in
        let a₅ = length-append (stxs_bytes p) (bytes_ahead (l ∷ ls)) in
        let b = count_le p in
        let h = s.short in
        omega arith

    list-front : (k n : ℕ) (c : Sets) (p l : Stxs) (ls : List Stxs) → Standing k n image left w (cons (list c p) l) ls → Fronted image x 5 (count p) (bytes_ahead (p ∷ l ∷ ls))
    list-front k n c p l ls s =
        fronted n 5 (count p) c (bytes_ahead (p ∷ l ∷ ls)) f s.scopes-few s.fits.0.0.0 (omega arith) (few-parts k n c p l ls s) (s.bytes ∙ list-bytes c p l ls)

    pub step-atom : (x.tag ≡ 5 → ⊥) → Steps image left w (set left (w.depth - 1) (get_or left (w.depth - 1) 0 - 1)) (Some (step.Atom x.tag x.content, record { at = x.past; depth = w.depth }))
    step-atom u = record { same = length-set left (w.depth - 1) (get_or left (w.depth - 1) 0 - 1); is = λ k n l ls s. meets k n l ls s }
      where
        meets : (k n : ℕ) (l : Stxs) (ls : List Stxs) → Standing k n image left w l ls → Meets k n image w l ls (one_less left w) x.tag x.content (record { at = x.past; depth = w.depth })
        meets k n nil ls s = absurd (none_left nil s refl)
        meets k n (cons (list c p) l) ls s = absurd (u (list-front k n c p l ls s).tag_is)
        meets k n (cons (atom c a) l) ls s =
            let g = atom-front k n c a l ls s in
            record {
              sets = c;
              met = a;
              after = l;
              is = refl;
              tag_is = sym g.tag_is;
              content-is = sym g.content-is;
              atom-fits = s.fits.0.0.1;
              onward = past_onward image w.at x.past (tag_of a) (content_of a) (bytes_ahead (l ∷ ls)) c s.within (s.bytes ∙ atom-bytes c a l ls) g.past_is;
              level = refl;
              stands = record {
                symbols-few = s.symbols-few;
                scopes-few = s.scopes-few;
                within = g.past_is.within;
                short = s.short;
                room = length-set left (w.depth - 1) (get_or left (w.depth - 1) 0 - 1) ∙ s.room;
                bytes = g.past_is.is;
                counts = counts_less left w (atom c a) l ls s.room (let b = s.shallow.0 in omega arith) s.counts;
                shallow = (deep_rest w.depth (atom c a) l s.shallow.0, s.shallow.1);
                fits = (s.fits.0.1, s.fits.1);
              };
            }

    pub step_open : x.tag ≡ 5
        → Steps image left w (set (set left (w.depth - 1) (get_or left (w.depth - 1) 0 - 1)) w.depth x.content) (Some (Open, record { at = x.past; depth = w.depth + 1 }))
    step_open u = record {
      same = length-set (one_less left w) w.depth x.content ∙ length-set left (w.depth - 1) (get_or left (w.depth - 1) 0 - 1);
      is = λ k n l ls s. opens k n l ls s;
    }
      where
        opens : (k n : ℕ) (l : Stxs) (ls : List Stxs) → Standing k n image left w l ls → Opens k n image w l ls (set (one_less left w) w.depth x.content) (record { at = x.past; depth = w.depth + 1 })
        opens k n nil ls s = absurd (none_left nil s refl)
        opens k n (cons (atom c a) l) ls s =
            let g = atom-front k n c a l ls s in
            absurd (no x.tag (tag_of a) g.tag_is (tag_le a) u)
          where
            no : (p q : ℕ) → p ≡ q → q ≤ 4 → p ≡ 5 → ⊥
            no p q e l i = omega arith
        opens k n (cons (list c p) l) ls s =
            let g = list-front k n c p l ls s in
            let b = deep_list w.depth c p l s.shallow.0 in
            let r = s.room in
            let y = counts_less left w (list c p) l ls r (let b = s.shallow.0 in omega arith) s.counts in
            let z : w.depth + 1 - 1 ≡ w.depth = omega arith in
            let e = get_or-set_same (one_less left w) w.depth x.content 0 (let q = length-set left (w.depth - 1) (get_or left (w.depth - 1) 0 - 1) in let b₀ = b.0 in omega arith) in
            record {
              sets = c;
              parts = p;
              after = l;
              is = refl;
              onward = past_onward image w.at x.past 5 (count p) (bytes_ahead (p ∷ l ∷ ls)) c s.within (s.bytes ∙ list-bytes c p l ls) g.past_is;
              deeper = refl;
              stands = record {
                symbols-few = s.symbols-few;
                scopes-few = s.scopes-few;
                within = g.past_is.within;
                short = s.short;
                room = length-set (one_less left w) w.depth x.content ∙ length-set left (w.depth - 1) (get_or left (w.depth - 1) 0 - 1) ∙ r;
                bytes = g.past_is.is;
                counts = (
                  omega arith,
                  ap (λ (m : ℕ). get_or (set (one_less left w) w.depth x.content) m 0) z ∙ e ∙ g.content-is,
                  subst (λ (m : ℕ). Counted (set (one_less left w) w.depth x.content) m (l ∷ ls)) (sym z) (counted-other (one_less left w) w.depth x.content w.depth (l ∷ ls) (omega arith) y),
                );
                shallow = (b.0, subst (λ (m : ℕ). Shallow m (l ∷ ls)) (sym z) (b.1, s.shallow.1));
                fits = (s.fits.0.0.1, (s.fits.0.1, s.fits.1));
              };
            }

pub ruleset step_laws = (walk_deep, top-there, walk_inside, next-there, step_end, step_close, step-atom, step_open)
