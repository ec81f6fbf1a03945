-- The text measured and written, by the steps that the code takes.
use Prim.Native.Nat.{ℕ, ◌+◌, ◌-◌, ◌*◌, ◌≤◌, ◌<◌}
use mathlib.Core.Path.{◌≡◌, refl, sym, ap, ap₂, ◌∙◌, subst}
use mathlib.Core.Bool.{Bool, true, false}
use mathlib.Core.List.{List, [], ◌∷◌, ◌++◌}
use native.Mathlib.Omega.{arith}
use mir.Syntax.{w64}
use mir.Val.{Fits}
use lib.ListN.{length, set, length-set, length-append}
use lib.Seq.{sets}
use Rattle.text.specs.Placing.{Placed}
use Rattle.text.proofs.Placing.{placed_then, placed-length, Placing, begun, ended}
use Rattle.numbers.proofs.Writing.{sets_append}
use Rattle.text_endings.specs.Ending.{Measured}
use Rattle.text_laws.specs.Single.{space_if}
use Rattle.text_printer.specs.declared.walking.Walk.{Walk}
use Rattle.text_printer.specs.declared.walking.Step.{Step}
use Rattle.text_printer.specs.declared.walking.Step.TheVariants.{Open, Close}
use Rattle.std.specs.Prelude.{Option, None, Some}
use Rattle.text_printer.specs.declared.walking.Step.TheVariants as step
use Rattle.text_printer.specs.Walking.{Walkable, Steps}
use Rattle.text_printer.specs.Spelling.{spelling, Spelled}
use Rattle.text_printer.specs.Atoms.{atom_text, Printable, AtomRoom}
use Rattle.text_printer.specs.Printing.{print_of, SpacedRoom, TextReady, TextRoom}
use Rattle.text_printer.proofs.AheadLaws.{space-long, space-few, Ahead, Onward, ahead_walkable, ahead-end, ahead_open, ahead_close, ahead-atom, ahead-printable, ahead-start}

-- ---- the space that is due

pub space-due : {due : Bool} → due ≡ true → 1 ≡ length (space_if due [])
unfolding space_if
space-due e = rw e

pub space-none : {due : Bool} → due ≡ false → 0 ≡ length (space_if due [])
unfolding space_if
space-none e = rw e

pub ruleset space_laws = (space-due, space-none)

-- ---- measured

pub record Measuring (image starts : List ℕ) (n : ℕ) (left₀ : List ℕ) (most : ℕ) (left : List ℕ) (w : Walk) (due : Bool) (len : ℕ) : Type 0 where
  pub rest : List ℕ
  pub ahead : Ahead image starts n left w due rest
  pub words : Spelled image starts n
  pub same : length left ≡ length left₀
  pub most-small : most ≤ 65536
  pub small : len ≤ 65569
  pub total : len + length rest ≡ length (print_of image)

pub measuring_start : {image starts : List ℕ} {n root most : ℕ} (left : List ℕ) → TextReady image starts n left root most
    → Measuring image starts n (set left 0 1) most (set left 0 1) (record { at = root; depth = 1 }) false 0
measuring_start {image} left y = record {
  rest = print_of image;
  ahead = ahead-start y.ready left y.room;
  words = y.ready.words;
  same = refl;
  most-small = y.most-small;
  small = omega arith;
  total = omega arith;
}

pub first-there : {image starts : List ℕ} {n root most : ℕ} {left : List ℕ} → TextReady image starts n left root most → 0 < length left
first-there y = let h = y.room in omega arith

module _ {image starts : List ℕ} {n : ℕ} {left₀ : List ℕ} {most : ℕ} {left : List ℕ} {w : Walk} {due : Bool} {len : ℕ} (m : Measuring image starts n left₀ most left w due len) where
  pub measuring_walkable : Walkable image left w
  measuring_walkable = ahead_walkable m.ahead

  pub measuring_same : length left ≡ length left₀
  measuring_same = m.same

  pub measuring_counts : length left ≡ 65
  measuring_counts = m.ahead.stands.room

  pub measuring_over : most < len → Measured (print_of image) most len
  measuring_over h = let t = m.total in record { exact = λ l. absurd (no l); long = λ l. omega arith }
    where
      no : len ≤ most → ⊥
      no l = omega arith

  module _ {left' : List ℕ} {r : Option (Step × Walk)} (s : Steps image left w left' r) where
    pub measuring_end : r ≡ None → Measured (print_of image) most len
    measuring_end e =
        let t = m.total in
        let z = ap length (ahead-end m.ahead s e) in
        record { exact = λ l. omega arith; long = λ l. omega arith }

    pub measuring_end_same : length left' ≡ length left₀
    measuring_end_same = s.same ∙ m.same

    pub measuring_end_counts : length left' ≡ 65
    measuring_end_counts = s.same ∙ m.ahead.stands.room

    -- `piece` is next, of k bytes
    on : {piece : List ℕ} {w' : Walk} {due' : Bool} (k : ℕ) → k ≡ length piece → k ≤ 33 → len ≤ most
        → Onward image starts n w m.rest piece left' w' due' → Measuring image starts n left₀ most left' w' due' (len + k)
    on {piece} k e f l o =
        let t = m.total in
        let h = m.most-small in
        let a = ap length o.parts in
        let b = length-append piece o.further in
        record { rest = o.further; ahead = o.ahead; words = m.words; same = s.same ∙ m.same; most-small = h; small = omega arith; total = omega arith }

    module _ (l : len ≤ most) where
      pub measuring_open : {w' : Walk} {k : ℕ} {x : Step} → r ≡ Some (x, w') → x ≡ Open → k ≡ length (space_if due []) → Measuring image starts n left₀ most left' w' false (len + (1 + k))
      measuring_open {w'} {k} e i q =
          let a = space-long due (40 ∷ []) in
          let b = space-few due in
          on (1 + k) (omega arith) (omega arith) l (ahead_open m.ahead s e i)

      pub measuring_close : {w' : Walk} {x : Step} → r ≡ Some (x, w') → x ≡ Close → Measuring image starts n left₀ most left' w' true (len + 1)
      measuring_close e i = on 1 refl (omega arith) l (ahead_close m.ahead s e i)

      pub measuring_atom : {w' : Walk} {tag content k a : ℕ} {x : Step} → r ≡ Some (x, w') → x ≡ step.Atom tag content → k ≡ length (space_if due []) → a ≡ length (atom_text (spelling image starts n) tag content) → a ≤ 32
          → Measuring image starts n left₀ most left' w' true (len + (k + a))
      measuring_atom {w'} {tag} {content} {k} {a} e i q p f =
          let x = space-long due (atom_text (spelling image starts n) tag content) in
          let b = space-few due in
          on (k + a) (omega arith) (omega arith) l (ahead-atom m.ahead s e i)

    pub measuring_printable : {w' : Walk} {tag content : ℕ} {x : Step} → r ≡ Some (x, w') → x ≡ step.Atom tag content → Printable image starts n tag content
    measuring_printable e i = ahead-printable m.ahead s e i m.words

    pub measuring_less_open : {w' : Walk} {x : Step} → r ≡ Some (x, w') → x ≡ Open → (length image - w'.at) * 2 + w'.depth < (length image - w.at) * 2 + w.depth
    measuring_less_open e i = (ahead_open m.ahead s e i).less

    pub measuring_less_close : {w' : Walk} {x : Step} → r ≡ Some (x, w') → x ≡ Close → (length image - w'.at) * 2 + w'.depth < (length image - w.at) * 2 + w.depth
    measuring_less_close e i = (ahead_close m.ahead s e i).less

    pub measuring_less_atom : {w' : Walk} {tag content : ℕ} {x : Step} → r ≡ Some (x, w') → x ≡ step.Atom tag content → (length image - w'.at) * 2 + w'.depth < (length image - w.at) * 2 + w.depth
    measuring_less_atom e i = (ahead-atom m.ahead s e i).less

  module _ (l : len ≤ most) where
    pub open_fits : {k : ℕ} → k ≡ length (space_if due []) → Fits w64 (len + (1 + k))
    open_fits q = let b = space-few due in let h = m.most-small in omega arith

    pub close_fits : Fits w64 (len + 1)
    close_fits = let h = m.most-small in omega arith

    pub atom-fits : {k a : ℕ} → k ≡ length (space_if due []) → a ≤ 32 → Fits w64 (len + (k + a))
    atom-fits q f = let b = space-few due in let h = m.most-small in omega arith

-- the array keeps its length
pub counts_same : (left : List ℕ) (i v : ℕ) {k : ℕ} → k ≡ length (set left i v) → k ≡ length left
counts_same left i v e = e ∙ length-set left i v

pub one-fits : {k : ℕ} (due : Bool) → k ≡ length (space_if due []) → Fits w64 (1 + k)
one-fits due q = let b = space-few due in omega arith

pub spaced-fits : {k a : ℕ} (due : Bool) → k ≡ length (space_if due []) → a ≤ 32 → Fits w64 (k + a)
spaced-fits due q f = let b = space-few due in omega arith

pub ruleset measuring_laws = (counts_same, first-there, measuring_start, measuring_walkable, measuring_same, measuring_counts, measuring_over, measuring_end, measuring_end_same, measuring_end_counts, measuring_open, measuring_close, measuring_atom, open_fits, close_fits, atom-fits, measuring_printable, measuring_less_open, measuring_less_close, measuring_less_atom, one-fits, spaced-fits)

-- ---- a space, a parenthesis, an atom

module _ (out : List ℕ) (at : ℕ) {due : Bool} (e : due ≡ true) where
  pub space-there : at + length (space_if due []) ≤ length out → at < length out
  space-there h = let a = space-due e in omega arith

  pub space-fits : at + length (space_if due []) ≤ length out → Fits w64 (length out) → Fits w64 (at + 1)
  space-fits h f = let a = space-due e in omega arith

  pub space-placed : Placed out at (space_if due []) (set out at 32) (at + 1)
  unfolding space_if
  space-placed = subst (λ (d : Bool). Placed out at (space_if d []) (set out at 32) (at + 1)) (sym e) (record { ends = refl; is = refl })

pub none-placed : (out : List ℕ) (at : ℕ) {due : Bool} → due ≡ false → Placed out at (space_if due []) out at
unfolding space_if
none-placed out at e = subst (λ (d : Bool). Placed out at (space_if d []) out at) (sym e) (record { ends = omega arith; is = refl })

pub ruleset put_space_laws = (space-there, space-fits, space-placed, none-placed)

space_then : (due : Bool) (a : List ℕ) → space_if due [] ++ a ≡ space_if due a
unfolding space_if
space_then true a = refl
space_then false a = refl

module _ (out : List ℕ) (at : ℕ) (due : Bool) (paren : ℕ) (h : at + length (space_if due (paren ∷ [])) ≤ length out) where
  pub before-room : at + length (space_if due []) ≤ length out
  before-room = let a = space-long due (paren ∷ []) in omega arith

  module _ {o₁ : List ℕ} {p₁ : ℕ} (w : Placed out at (space_if due []) o₁ p₁) where
    pub paren-there : p₁ < length o₁
    paren-there = let a = space-long due (paren ∷ []) in let b = w.ends in let c = placed-length w in omega arith

    pub paren-fits : Fits w64 (length out) → Fits w64 (p₁ + 1)
    paren-fits f = let a = space-long due (paren ∷ []) in let b = w.ends in omega arith

    pub paren-placed : Placed out at (space_if due (paren ∷ [])) (set o₁ p₁ paren) (p₁ + 1)
    paren-placed =
        subst (λ (b : List ℕ). Placed out at b (set o₁ p₁ paren) (p₁ + 1)) (space_then due (paren ∷ [])) (placed_then w (record { ends = refl; is = refl }))

    pub paren-length : length (set o₁ p₁ paren) ≡ length out
    paren-length = length-set o₁ p₁ paren ∙ placed-length w

pub ruleset paren_laws = (before-room, paren-there, paren-fits, paren-placed, paren-length)

module _ {out : List ℕ} {at : ℕ} {due : Bool} {image starts : List ℕ} {n tag x : ℕ} (h : SpacedRoom out at due image starts n tag x) where
  pub spaced-before : at + length (space_if due []) ≤ length out
  spaced-before = let a = space-long due (atom_text (spelling image starts n) tag x) in let b = h.room in omega arith

  module _ {o₁ : List ℕ} {p₁ : ℕ} (w : Placed out at (space_if due []) o₁ p₁) where
    pub spaced-room : AtomRoom o₁ p₁ image starts n tag x
    spaced-room =
        let a = space-long due (atom_text (spelling image starts n) tag x) in
        let b = h.room in
        let c = w.ends in
        let d = placed-length w in
        record { printable = h.printable; room = omega arith }

    module _ {o₂ : List ℕ} {p₂ : ℕ} (q : Placed o₁ p₁ (atom_text (spelling image starts n) tag x) o₂ p₂) where
      pub spaced-placed : Placed out at (space_if due (atom_text (spelling image starts n) tag x)) o₂ p₂
      spaced-placed = subst (λ (b : List ℕ). Placed out at b o₂ p₂) (space_then due (atom_text (spelling image starts n) tag x)) (placed_then w q)

      pub spaced-length : length o₂ ≡ length out
      spaced-length = placed-length q ∙ placed-length w

pub ruleset spaced_laws = (spaced-before, spaced-room, spaced-placed, spaced-length)

-- ---- written

pub record Writing (out₀ image starts : List ℕ) (n : ℕ) (left₀ out left : List ℕ) (w : Walk) (due : Bool) (to : ℕ) : Type 0 where
  pub rest : List ℕ
  pub ahead : Ahead image starts n left w due rest
  pub words : Spelled image starts n
  pub same : length left ≡ length left₀
  pub room : length (print_of image) ≤ length out₀
  pub placing : Placing out₀ 0 (print_of image) out to rest

pub writing_start : {out image starts : List ℕ} {n root : ℕ} (left : List ℕ) → TextRoom out image starts n left root
    → Writing out image starts n (set left 0 1) out (set left 0 1) (record { at = root; depth = 1 }) false 0
writing_start {image = image} left y = record {
  rest = print_of image;
  ahead = ahead-start y.ready left y.counts-room;
  words = y.ready.words;
  same = refl;
  room = y.room;
  placing = begun;
}

pub first-room : {out image starts : List ℕ} {n root : ℕ} {left : List ℕ} → TextRoom out image starts n left root → 0 < length left
first-room y = let h = y.counts-room in omega arith

module _ {out₀ image starts : List ℕ} {n : ℕ} {left₀ out left : List ℕ} {w : Walk} {due : Bool} {to : ℕ} (m : Writing out₀ image starts n left₀ out left w due to) where
  pub writing_walkable : Walkable image left w
  writing_walkable = ahead_walkable m.ahead

  pub writing_length : length out ≡ length out₀
  writing_length = m.placing.same

  pub writing_same : length left ≡ length left₀
  writing_same = m.same

  module _ {left' : List ℕ} {r : Option (Step × Walk)} (s : Steps image left w left' r) where
    pub writing_end : r ≡ None → Placed out₀ 0 (print_of image) out to
    writing_end e = ended (subst (Placing out₀ 0 (print_of image) out to) (ahead-end m.ahead s e) m.placing)

    pub writing_end_same : length left' ≡ length left₀
    writing_end_same = s.same ∙ m.same

    pub writing_less_open : {w' : Walk} {x : Step} → r ≡ Some (x, w') → x ≡ Open → (length image - w'.at) * 2 + w'.depth < (length image - w.at) * 2 + w.depth
    writing_less_open e i = (ahead_open m.ahead s e i).less

    pub writing_less_close : {w' : Walk} {x : Step} → r ≡ Some (x, w') → x ≡ Close → (length image - w'.at) * 2 + w'.depth < (length image - w.at) * 2 + w.depth
    writing_less_close e i = (ahead_close m.ahead s e i).less

    pub writing_less_atom : {w' : Walk} {tag content : ℕ} {x : Step} → r ≡ Some (x, w') → x ≡ step.Atom tag content → (length image - w'.at) * 2 + w'.depth < (length image - w.at) * 2 + w.depth
    writing_less_atom e i = (ahead-atom m.ahead s e i).less

    -- `piece` is next
    module _ {piece : List ℕ} {w' : Walk} {due' : Bool} (o : Onward image starts n w m.rest piece left' w' due') where
      next-room : to + length piece ≤ length out
      next-room =
          let h = m.room in
          let a = m.placing.ends in
          let b = m.placing.same in
          let c = ap length o.parts in
          let d = length-append piece o.further in
          omega arith

      next-written : {out' : List ℕ} {to' : ℕ} → Placed out to piece out' to' → Writing out₀ image starts n left₀ out' left' w' due' to'
      next-written {out'} {to'} p =
          let a = m.placing.ends in
          let b = p.ends in
          let c = ap length o.parts in
          let d = length-append piece o.further in
          record {
            rest = o.further;
            ahead = o.ahead;
            words = m.words;
            same = s.same ∙ m.same;
            room = m.room;
            placing = record {
              same = placed-length p ∙ m.placing.same;
              ends = omega arith;
              is = ap₂ (λ (l : List ℕ) (k : ℕ). sets l k o.further) p.is b ∙ sets_append piece o.further out to
                  ∙ ap (sets out to) (sym o.parts) ∙ m.placing.is;
            };
          }

    module _ {w' : Walk} {x : Step} (e : r ≡ Some (x, w')) (i : x ≡ Open) where
      pub open_room : to + length (space_if due (40 ∷ [])) ≤ length out
      open_room = next-room (ahead_open m.ahead s e i)

      pub open_written : {out' : List ℕ} {to' : ℕ} → Placed out to (space_if due (40 ∷ [])) out' to' → Writing out₀ image starts n left₀ out' left' w' false to'
      open_written p = next-written (ahead_open m.ahead s e i) p

    module _ {w' : Walk} {x : Step} (e : r ≡ Some (x, w')) (i : x ≡ Close) where
      pub close_room : to + length (space_if false (41 ∷ [])) ≤ length out
      unfolding space_if
      close_room = next-room (ahead_close m.ahead s e i)

      pub close_written : {out' : List ℕ} {to' : ℕ} → Placed out to (space_if false (41 ∷ [])) out' to' → Writing out₀ image starts n left₀ out' left' w' true to'
      unfolding space_if
      close_written p = next-written (ahead_close m.ahead s e i) p

    module _ {w' : Walk} {tag content : ℕ} {x : Step} (e : r ≡ Some (x, w')) (i : x ≡ step.Atom tag content) where
      pub atom-room : SpacedRoom out to due image starts n tag content
      atom-room = record { printable = ahead-printable m.ahead s e i m.words; room = next-room (ahead-atom m.ahead s e i) }

      pub atom-written : {out' : List ℕ} {to' : ℕ} → Placed out to (space_if due (atom_text (spelling image starts n) tag content)) out' to' → Writing out₀ image starts n left₀ out' left' w' true to'
      atom-written p = next-written (ahead-atom m.ahead s e i) p

pub ruleset writing_laws = (counts_same, first-room, writing_start, writing_walkable, writing_length, writing_same, writing_end, writing_end_same, writing_less_open, writing_less_close, writing_less_atom, open_room, open_written, close_room, close_written, atom-room, atom-written, placed-length)
