-- What the root has for each token, by the tests that the code makes.
use Prim.Native.Nat.{ℕ, zero, suc, ◌+◌, ◌-◌, ◌≤◌, ◌<◌}
use mathlib.Core.Path.{◌≡◌, refl, sym, ap, ◌∙◌, subst}
use mathlib.Core.Bool.{Bool, true, false, ◌&&◌, false≢true}
use mathlib.Core.List.{List, [], ◌∷◌, ◌++◌}
use native.Mathlib.Omega.{arith}
use native.Mathlib.Numerals.{add-one}
use lib.ListN.{length, drop, length-append}
use Rattle.model.specs.Choice.{when◌then◌else◌}
use Rattle.model.specs.Objects.{tag_of, content_of, no_sets, atom}
use Rattle.model.specs.Writing.{stx_bytes}
use Rattle.laws.proofs.Tests.{and_both}
use Rattle.requests.specs.Tokens.{Leaf, word, Token, opening, closing, bad, one, place, tokens}
use Rattle.requests.specs.FromText.{atom_of, leaf_fits, all_fit}
use Rattle.text_laws.specs.Passes.{parts_left, token_bytes}
use Rattle.text_laws.proofs.PassLaws.{parts-short}
use Rattle.tokens.specs.declared.pieces.Piece as pieces
use Rattle.tokens.specs.declared.pieces.Piece.TheVariants as piece
use Rattle.std.specs.Prelude.{Option, None, Some}
use Rattle.tokens.specs.declared.Token as code
use Rattle.tokens.specs.declared.Token.TheVariants.{Open, Close, Piece}
use Rattle.tokens.specs.Pieces.{is_bad, means, AtomToken, OverToken}
use Rattle.tokens.specs.Nexts.{Goes, part, PieceAt, NextIs}
use Rattle.tokens.proofs.Uses.{next-end, next_open, next_close, next-piece, piece-bad, piece-leaf, onward_laws}
use Rattle.text_reader.specs.Found.{all_words, Sought, Numbered}
use Rattle.text_reader.specs.Items.{directly, Counts, Parts, root_from, thing_bytes, Sound, Steps, ItemIs}
use Rattle.text_reader.specs.declared.items.Item.TheVariants.{Nothing, Thing, Long}

-- ---- one part more

pub directly-one : (count : ℕ) {depth : ℕ} → depth ≡ 0 → count + 1 ≡ count + directly depth
unfolding directly
directly-one count e = rw e

pub directly-none : (count depth : ℕ) → (depth ≡ 0 → ⊥) → count ≡ count + directly depth
unfolding directly
directly-none count zero n = absurd (n refl)
directly-none count (suc d) n = omega arith

module _ {count depth : ℕ} {p : pieces.Piece} {b : Bool} (q : b ≡ is_bad p) where
  pub count-bad : b ≡ true → Counts count depth p count
  count-bad e =
      let z : (when is_bad p then 0 else directly depth) ≡ 0 = ap (λ (t : Bool). when t then 0 else directly depth) (sym q ∙ e) in
      record { is = omega arith }

  pub count-leaf : {r : ℕ} → b ≡ false → r ≡ count + directly depth → Counts count depth p r
  count-leaf e h = record { is = h ∙ ap (λ (t : Bool). count + (when t then 0 else directly depth)) (sym (sym q ∙ e)) }

pub ruleset count_laws = (directly-one, directly-none, count-bad, count-leaf)

-- ---- the parts of a list

parts_none : (d : ℕ) → parts_left d [] ≡ 0
unfolding parts_left
parts_none zero = refl
parts_none (suc d) = refl

parts-opening : (d : ℕ) (ts : List Token) → parts_left d (opening ∷ ts) ≡ directly d + parts_left (d + 1) ts
unfolding parts_left directly
parts-opening zero ts = let z : 1 ≡ 0 + 1 = omega arith in ap (λ (k : ℕ). suc (parts_left k ts)) z ∙ omega arith
parts-opening (suc d) ts = ap (λ (k : ℕ). parts_left k ts) (sym (add-one (suc d))) ∙ omega arith

parts_own : (d : ℕ) (ts : List Token) → d ≡ 0 → parts_left d (closing ∷ ts) ≡ 0
unfolding parts_left
parts_own d ts e = rw e

parts-closing : (d : ℕ) (ts : List Token) → (d ≡ 0 → ⊥) → parts_left d (closing ∷ ts) ≡ parts_left (d - 1) ts
unfolding parts_left
parts-closing zero ts n = absurd (n refl)
parts-closing (suc d) ts n = ap (λ (k : ℕ). parts_left k ts) (omega arith)

parts-leaf : (d : ℕ) (l : Leaf) (ts : List Token) → parts_left d (one l ∷ ts) ≡ directly d + parts_left d ts
unfolding parts_left directly
parts-leaf zero l ts = omega arith
parts-leaf (suc d) l ts = omega arith

parts-bad : (d : ℕ) (ts : List Token) → parts_left d (bad ∷ ts) ≡ parts_left d ts
unfolding parts_left
parts-bad zero ts = refl
parts-bad (suc d) ts = refl

-- of the parts `count` are counted before `here`
pub record Counting (text : List ℕ) (at here depth count : ℕ) : Type 0 where
  pub within : here ≤ length text
  pub shallow : depth ≤ here
  pub few : count ≤ 65537
  pub so_far : parts_left 0 (tokens (drop at text)) ≡ count + parts_left depth (tokens (drop here text))

pub parts-start : {text : List ℕ} {at : ℕ} → at ≤ length text → Counting text at at 0 0
parts-start h = record { within = h; shallow = omega arith; few = omega arith; so_far = omega arith }

at_most_one : (d : ℕ) → directly d ≤ 1
unfolding directly
at_most_one zero = omega arith
at_most_one (suc d) = omega arith

module _ {text : List ℕ} {at here depth count : ℕ} (j : Counting text at here depth count) where
  pub parts_many : 65536 < count → Parts text at count
  parts_many h =
      let e = j.so_far in
      record { exact = λ l. absurd (no l); large = λ l. omega arith }
    where
      no : count ≤ 65536 → ⊥
      no l = omega arith

  counted : parts_left depth (tokens (drop here text)) ≡ 0 → Parts text at count
  counted z = let e = j.so_far in record { exact = λ l. omega arith; large = λ l. omega arith }

  module _ {r : Option (code.Token × ℕ)} (h : NextIs text here r) where
    pub parts-end : r ≡ None → Parts text at count
    parts-end e = counted (ap (parts_left depth) (next-end h e) ∙ parts_none depth)

    module _ {to : ℕ} {k : Token} (g : Goes text here to k) where
      on : {d c : ℕ} → d ≤ to → c ≤ 65537 → count + parts_left depth (k ∷ tokens (drop to text)) ≡ c + parts_left d (tokens (drop to text)) → Counting text at to d c
      on a b e = record { within = g.within; shallow = a; few = b; so_far = j.so_far ∙ ap (λ (ts : List Token). count + parts_left depth ts) g.here ∙ e }

    pub parts_open : {to c : ℕ} {t : code.Token} → r ≡ Some (t, to) → t ≡ Open → count ≤ 65536 → c ≡ count + directly depth → Counting text at to (depth + 1) c
    parts_open {to} {c} e i l q =
        let g = next_open h e i in
        let a = j.shallow in
        let b = g.onward in
        let d = at_most_one depth in
        let f = parts-opening depth (tokens (drop to text)) in
        on g (omega arith) (omega arith) (omega arith)

    module _ {to : ℕ} {t : code.Token} (e : r ≡ Some (t, to)) (i : t ≡ Close) where
      pub parts_stop : depth ≡ 0 → Parts text at count
      parts_stop z = counted (ap (parts_left depth) (next_close h e i).here ∙ parts_own depth (tokens (drop to text)) z)

      pub parts_close : (depth ≡ 0 → ⊥) → Counting text at to (depth - 1) count
      parts_close n =
          let g = next_close h e i in
          let a = j.shallow in
          let b = g.onward in
          on g (omega arith) j.few (ap (λ (k : ℕ). count + k) (parts-closing depth (tokens (drop to text)) n))

    pub parts-piece : {p : pieces.Piece} {from to c : ℕ} {t : code.Token} → r ≡ Some (t, to) → t ≡ Piece p from → count ≤ 65536 → Counts count depth p c → Counting text at to depth c
    parts-piece {p} {from} {to} {c} e i l q =
        let a = next-piece h e i in
        let x = j.shallow in
        let y = a.goes.onward in
        on a.goes (omega arith) (few (is_bad p) q.is) (go (is_bad p) refl q.is)
      where
        few : (t : Bool) → c ≡ count + (when t then 0 else directly depth) → c ≤ 65537
        few true w = omega arith
        few false w = let d = at_most_one depth in omega arith

        go : (t : Bool) → is_bad p ≡ t → c ≡ count + (when t then 0 else directly depth)
            → count + parts_left depth ((next-piece h e i).token ∷ tokens (drop to text)) ≡ c + parts_left depth (tokens (drop to text))
        go true v w =
            let f = ap (λ (k : Token). parts_left depth (k ∷ tokens (drop to text))) (piece-bad (next-piece h e i) v) ∙ parts-bad depth (tokens (drop to text)) in
            omega arith
        go false v w =
            let m = piece-leaf (next-piece h e i) v in
            let f = ap (λ (k : Token). parts_left depth (k ∷ tokens (drop to text))) m.1 ∙ parts-leaf depth m.0 (tokens (drop to text)) in
            omega arith

pub ruleset parts_laws = (parts-start, parts_many, parts-end, parts_open, parts_stop, parts_close, parts-piece, onward_laws)

-- ---- the root's bytes

bytes-end : (all : List (List ℕ)) → token_bytes all [] ≡ []
unfolding token_bytes
bytes-end all = refl

bytes-opening : (all : List (List ℕ)) (ts : List Token) → token_bytes all (opening ∷ ts) ≡ thing_bytes 5 (parts_left 0 ts) ++ token_bytes all ts
unfolding token_bytes
bytes-opening all ts = refl

bytes-closing : (all : List (List ℕ)) (ts : List Token) → token_bytes all (closing ∷ ts) ≡ token_bytes all ts
unfolding token_bytes
bytes-closing all ts = refl

bytes-bad : (all : List (List ℕ)) (ts : List Token) → token_bytes all (bad ∷ ts) ≡ token_bytes all ts
unfolding token_bytes
bytes-bad all ts = refl

bytes-leaf : (all : List (List ℕ)) (l : Leaf) (ts : List Token) → token_bytes all (one l ∷ ts) ≡ stx_bytes (atom no_sets (atom_of all l)) ++ token_bytes all ts
unfolding token_bytes
bytes-leaf all l ts = refl

bytes_word : (all : List (List ℕ)) (w : List ℕ) → stx_bytes (atom no_sets (atom_of all (word w))) ≡ thing_bytes 0 (place w all)
unfolding stx_bytes atom_of tag_of content_of
bytes_word all w = refl

fits-opening : (ts : List Token) → all_fit (opening ∷ ts) ≡ all_fit ts
unfolding all_fit
fits-opening ts = refl

fits-closing : (ts : List Token) → all_fit (closing ∷ ts) ≡ all_fit ts
unfolding all_fit
fits-closing ts = refl

fits-bad : (ts : List Token) → all_fit (bad ∷ ts) ≡ all_fit ts
unfolding all_fit
fits-bad ts = refl

fits-leaf : (l : Leaf) (ts : List Token) → all_fit (one l ∷ ts) ≡ (leaf_fits l && all_fit ts)
unfolding all_fit
fits-leaf l ts = refl

module _ {text spans : List ℕ} {n at : ℕ} (s : Sound text spans n at) where
  pub sound-within : at ≤ length text
  sound-within = s.within

  module _ {r : Option (code.Token × ℕ)} (h : NextIs text at r) where
    pub item_end : r ≡ None → ItemIs text spans n at None
    item_end e = record { is = ap (token_bytes (all_words text spans n)) (next-end h e) ∙ bytes-end (all_words text spans n) }

    module _ {to : ℕ} {k : Token} (g : Goes text at to k) where
      goes_on : (b : List ℕ) → all_fit (tokens (drop to text)) ≡ true → token_bytes (all_words text spans n) (k ∷ tokens (drop to text)) ≡ b ++ root_from text spans n to → Steps text spans n at to b
      goes_on b f e = record {
        onward = g.onward;
        sound = record { within = g.within; stored = s.stored; fits = f };
        is = ap (token_bytes (all_words text spans n)) g.here ∙ e;
      }

      still : all_fit (k ∷ tokens (drop to text)) ≡ true
      still = ap all_fit (sym g.here) ∙ s.fits

    module _ {to : ℕ} {t : code.Token} (e : r ≡ Some (t, to)) (i : t ≡ Open) where
      pub open_within : to ≤ length text
      open_within = (next_open h e i).within

      module _ {m : ℕ} (c : Parts text to m) where
        pub item_long : 65536 < m → ItemIs text spans n at (Some (Long, to))
        item_long l =
            let g = next_open h e i in
            let a = parts-short (all_words text spans n) (tokens (drop to text)) 0 in
            let b = length-append (thing_bytes 5 (parts_left 0 (tokens (drop to text)))) (root_from text spans n to) in
            let d = ap length (ap (token_bytes (all_words text spans n)) g.here ∙ bytes-opening (all_words text spans n) (tokens (drop to text))) in
            let f = c.large l in
            record { is = omega arith }

        pub item_list : m ≤ 65536 → ItemIs text spans n at (Some (Thing 5 m, to))
        item_list l =
            let g = next_open h e i in
            record {
              is = (
                omega arith,
                goes_on g (thing_bytes 5 m) (sym (fits-opening (tokens (drop to text))) ∙ still g)
                    (bytes-opening (all_words text spans n) (tokens (drop to text)) ∙ ap (λ (k : ℕ). thing_bytes 5 k ++ root_from text spans n to) (c.exact l)),
              );
            }

    pub item_close : {to : ℕ} {t : code.Token} → r ≡ Some (t, to) → t ≡ Close → ItemIs text spans n at (Some (Nothing, to))
    item_close {to} e i =
        let g = next_close h e i in
        record { is = goes_on g [] (sym (fits-closing (tokens (drop to text))) ∙ still g) (bytes-closing (all_words text spans n) (tokens (drop to text))) }

    module _ {p : pieces.Piece} {from to : ℕ} {t : code.Token} (e : r ≡ Some (t, to)) (i : t ≡ Piece p from) where
      here : PieceAt text at p from to
      here = next-piece h e i

      read_as : {q : pieces.Piece} → p ≡ q → means (next-piece h e i).token (part text from to) q
      read_as j = subst (means (next-piece h e i).token (part text from to)) j (next-piece h e i).means.is

      -- the token is k
      steps : (k : Token) (b : List ℕ) → (next-piece h e i).token ≡ k → (all_fit (k ∷ tokens (drop to text)) ≡ true → all_fit (tokens (drop to text)) ≡ true)
          → token_bytes (all_words text spans n) (k ∷ tokens (drop to text)) ≡ b ++ root_from text spans n to → Steps text spans n at to b
      steps k b j f d =
          let g : Goes text at to k = subst (Goes text at to) j (next-piece h e i).goes in
          goes_on g b (f (still g)) d

      leaf-fits : (l : Leaf) → all_fit (one l ∷ tokens (drop to text)) ≡ true → (leaf_fits l ≡ true) × (all_fit (tokens (drop to text)) ≡ true)
      leaf-fits l f = and_both (leaf_fits l) (all_fit (tokens (drop to text))) (sym (fits-leaf l (tokens (drop to text))) ∙ f)

      pub item_sought : Sought text spans n from to
      item_sought = let a = next-piece h e i in record { stored = s.stored; span = record { forward = a.ends; within = a.goes.within } }

      pub item_bad : p ≡ piece.Bad → ItemIs text spans n at (Some (Nothing, to))
      item_bad j = record {
        is = steps bad [] (read_as j) (λ f. sym (fits-bad (tokens (drop to text))) ∙ f) (bytes-bad (all_words text spans n) (tokens (drop to text)));
      }

      pub item_word : {m : ℕ} → p ≡ piece.Word → Numbered text spans n from to m → ItemIs text spans n at (Some (Thing 0 m, to))
      item_word {m} j w = record {
        is = (
          omega arith,
          steps (one (word (part text from to))) (thing_bytes 0 m) (read_as j) (λ f. (leaf-fits (word (part text from to)) f).1)
              (bytes-leaf (all_words text spans n) (word (part text from to)) (tokens (drop to text))
              ∙ ap (λ (b : List ℕ). b ++ root_from text spans n to) (bytes_word (all_words text spans n) (part text from to) ∙ ap (thing_bytes 0) (sym w.is))),
        );
      }

      pub item_atom : {tag content : ℕ} → p ≡ piece.Atom tag content → ItemIs text spans n at (Some (Thing tag content, to))
      item_atom {tag} {content} j =
          let a : AtomToken tag content (next-piece h e i).token = read_as j in
          let t = a.atom-is.tag_small in
          record {
            is = (
              omega arith,
              steps (one a.leaf) (thing_bytes tag content) a.is (λ f. (leaf-fits a.leaf f).1)
                  (bytes-leaf (all_words text spans n) a.leaf (tokens (drop to text)) ∙ ap (λ (b : List ℕ). b ++ root_from text spans n to) (a.atom-is.written (all_words text spans n))),
            );
          }

      -- the limits were tested before
      pub item_over : p ≡ piece.Over → ItemIs text spans n at (Some (Nothing, to))
      item_over j =
          let a : OverToken (next-piece h e i).token = read_as j in
          let g : Goes text at to (one a.leaf) = subst (Goes text at to) a.is (next-piece h e i).goes in
          absurd (false≢true (sym a.not-fits ∙ (leaf-fits a.leaf (still g)).0))

pub ruleset item_laws = (sound-within, item_end, open_within, item_long, item_list, item_close, item_sought, item_bad, item_word, item_atom, item_over)
