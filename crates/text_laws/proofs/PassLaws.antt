-- The passes over the tokens give the object's bytes and its nesting.
use mathlib.Core.Path.{◌≡◌, refl, sym, ap, ap₂, ◌∙◌}
use Prim.Native.Nat.{ℕ, zero, suc, ◌+◌, ◌-◌, max, ◌≤◌, ◌<◌}
use native.Mathlib.Nat.{le-max_left, le-max_right, max-le}
use native.Mathlib.Omega.{arith}
use mathlib.Core.Bool.{Bool, true, false, ◌&&◌, and_assoc, and-true}
use mathlib.Core.List.{List, [], ◌∷◌, ◌++◌, append_assoc, append-nil}
use lib.Dec.{ltb, leb}
use lib.ListN.{length, length-append}
use Rattle.model.specs.Objects.{tag_of, content_of, no_sets, atom, count, nesting, nestings}
use Rattle.model.specs.Writing.{num_bytes, sets_bytes, stx_bytes, stxs_bytes}
use borrow.Author.Tests.{le-leb, lt-leb, leb-true, leb-false, ltb-true, ltb-false}
use Rattle.requests.specs.Tokens.{Leaf, Token, opening, closing, bad, one}
use Rattle.requests.specs.FromText.{Obj, leaf, group, Objs, nothing, more, atom_of, syntax_of, syntaxes_of}
use Rattle.requests.specs.ToText.{object_text, parts_text, further_text}
use Rattle.text_laws.specs.Single.{space_if}
use Rattle.text_laws.specs.Passes.{parts_left, token_bytes, levels_to, text_from}
use Rattle.codec_laws.proofs.Lengths.{num-some}
use Rattle.text_laws.proofs.TextTrip.{toks, toks_all}

-- ---- counting parts

mutual
  unfolding toks parts_left

  -- inside an inner list nothing counts
  inner_object : (x : Obj) (d : ℕ) (ts : List Token) → parts_left (suc d) (toks x ts) ≡ parts_left (suc d) ts
  inner_object (leaf l) d ts = refl
  inner_object (group l) d ts = inner_parts l (suc d) (closing ∷ ts)

  inner_parts : (l : Objs) (d : ℕ) (ts : List Token) → parts_left (suc d) (toks_all l ts) ≡ parts_left (suc d) ts
  inner_parts nothing d ts = refl
  inner_parts (more x l) d ts = inner_object x d (toks_all l ts) ∙ inner_parts l d ts

part-counts : (x : Obj) (ts : List Token) → parts_left 0 (toks x ts) ≡ suc (parts_left 0 ts)
unfolding toks parts_left
part-counts (leaf l) ts = refl
part-counts (group l) ts = ap suc (inner_parts l 0 (closing ∷ ts))

-- after its opening parenthesis, a list's parts
pub parts-count : (all : List (List ℕ)) (l : Objs) (ts : List Token) → parts_left 0 (toks_all l (closing ∷ ts)) ≡ count (syntaxes_of all l)
unfolding toks parts_left count syntax_of
parts-count all nothing ts = refl
parts-count all (more x l) ts = part-counts x (toks_all l (closing ∷ ts)) ∙ ap suc (parts-count all l ts)

-- ---- the bytes

mutual
  unfolding toks token_bytes syntax_of stx_bytes

  pub object-bytes : (all : List (List ℕ)) (x : Obj) (ts : List Token) → token_bytes all (toks x ts) ≡ stx_bytes (syntax_of all x) ++ token_bytes all ts
  object-bytes all (leaf l) ts = refl
  object-bytes all (group l) ts =
      ap₂ (λ (n : ℕ) (s : List ℕ). (num_bytes 5 ++ sets_bytes no_sets ++ num_bytes n) ++ s) (parts-count all l ts) (parts-bytes all l (closing ∷ ts))
      ∙ sym (append_assoc (num_bytes 5 ++ sets_bytes no_sets ++ num_bytes (count (syntaxes_of all l))) (stxs_bytes (syntaxes_of all l)) (token_bytes all ts))

  parts-bytes : (all : List (List ℕ)) (l : Objs) (ts : List Token) → token_bytes all (toks_all l ts) ≡ stxs_bytes (syntaxes_of all l) ++ token_bytes all ts
  parts-bytes all nothing ts = refl
  parts-bytes all (more x l) ts =
      object-bytes all x (toks_all l ts) ∙ ap (λ (s : List ℕ). stx_bytes (syntax_of all x) ++ s) (parts-bytes all l ts)
      ∙ sym (append_assoc (stx_bytes (syntax_of all x)) (stxs_bytes (syntaxes_of all l)) (token_bytes all ts))

-- the pass over an object's tokens writes the object
pub whole-bytes : (all : List (List ℕ)) (x : Obj) → token_bytes all (toks x []) ≡ stx_bytes (syntax_of all x)
unfolding token_bytes
whole-bytes all x = object-bytes all x [] ∙ append-nil (stx_bytes (syntax_of all x))

-- a list has no more parts than bytes
some_more : (a b c d : List ℕ) (k : ℕ) → 1 ≤ length c → k ≤ length d → suc k ≤ length ((a ++ b ++ c) ++ d)
some_more a b c d k h l =
    let x = length-append (a ++ b ++ c) d in
    let y = length-append (a ++ b) c in
    omega arith

any_more : (a d : List ℕ) (k : ℕ) → k ≤ length d → k ≤ length (a ++ d)
any_more a d k l = let x = length-append a d in omega arith

atom-some : (all : List (List ℕ)) (l : Leaf) (d : List ℕ) (k : ℕ) → k ≤ length d → suc k ≤ length (stx_bytes (atom no_sets (atom_of all l)) ++ d)
unfolding stx_bytes
atom-some all l d k h = some_more (num_bytes (tag_of (atom_of all l))) (sets_bytes no_sets) (num_bytes (content_of (atom_of all l))) d k (num-some (content_of (atom_of all l))) h

pub parts-short : (all : List (List ℕ)) (ts : List Token) (d : ℕ) → parts_left d ts ≤ length (token_bytes all ts)
unfolding parts_left token_bytes
parts-short all [] d = omega arith
parts-short all (closing ∷ ts) zero = omega arith
parts-short all (closing ∷ ts) (suc d) = parts-short all ts d
parts-short all (opening ∷ ts) zero =
    some_more (num_bytes 5) (sets_bytes no_sets) (num_bytes (parts_left 0 ts)) (token_bytes all ts) (parts_left 1 ts) (num-some (parts_left 0 ts)) (parts-short all ts 1)
parts-short all (opening ∷ ts) (suc d) =
    any_more (num_bytes 5 ++ sets_bytes no_sets ++ num_bytes (parts_left 0 ts)) (token_bytes all ts) (parts_left (suc (suc d)) ts) (parts-short all ts (suc (suc d)))
parts-short all (one l ∷ ts) zero = atom-some all l (token_bytes all ts) (parts_left 0 ts) (parts-short all ts 0)
parts-short all (one l ∷ ts) (suc d) =
    any_more (stx_bytes (atom no_sets (atom_of all l))) (token_bytes all ts) (parts_left (suc d) ts) (parts-short all ts (suc d))
parts-short all (bad ∷ ts) d = parts-short all ts d

-- ---- the levels

max-both : (m d a b : ℕ) → leb (d + max a b) m ≡ (leb (d + a) m && leb (d + b) m)
max-both m d a b = go (leb (d + a) m) (leb (d + b) m) refl refl
  where
    left : a ≤ max a b
    left = le-max_left a b

    right : b ≤ max a b
    right = le-max_right a b

    go : (x y : Bool) → leb (d + a) m ≡ x → leb (d + b) m ≡ y → leb (d + max a b) m ≡ (x && y)
    go true true p q =
        let e : max a b ≤ m - d = max-le (less a (leb-true (d + a) m p)) (less b (leb-true (d + b) m q)) in
        le-leb (d + max a b) m (back (max a b) e (low a (leb-true (d + a) m p)))
      where
        less : (c : ℕ) → d + c ≤ m → c ≤ m - d
        less c h = omega arith

        low : (c : ℕ) → d + c ≤ m → d ≤ m
        low c h = omega arith

        back : (c : ℕ) → c ≤ m - d → d ≤ m → d + c ≤ m
        back c h k = omega arith
    go true false p q = lt-leb (d + max a b) m (omega (arith, leb-false (d + b) m q, right))
    go false y p q = lt-leb (d + max a b) m (omega (arith, leb-false (d + a) m p, left))

step_in : (m d k : ℕ) (rest below : Bool) → (d < m → below ≡ (leb (suc d + k) m && rest)) → (ltb d m && below) ≡ (leb (d + suc k) m && rest)
step_in m d k rest below f = go (ltb d m) refl
  where
    go : (t : Bool) → ltb d m ≡ t → (t && below) ≡ (leb (d + suc k) m && rest)
    go true p = f (ltb-true d m p) ∙ ap (λ (n : ℕ). leb n m && rest) (omega arith)
    go false p = ap (λ (b : Bool). b && rest) (sym (lt-leb (d + suc k) m (omega (arith, ltb-false d m p))))

leaf-step : (m d : ℕ) (rest : Bool) → (ltb d m && rest) ≡ (leb (d + 1) m && rest)
leaf-step m d rest = ap (λ (b : Bool). b && rest) (go (ltb d m) refl)
  where
    go : (t : Bool) → ltb d m ≡ t → t ≡ leb (d + 1) m
    go true p = sym (le-leb (d + 1) m (omega (arith, ltb-true d m p)))
    go false p = sym (lt-leb (d + 1) m (omega (arith, ltb-false d m p)))

closing-level : (m d : ℕ) (ts : List Token) → levels_to m (suc d) (closing ∷ ts) ≡ levels_to m d ts
unfolding levels_to
closing-level m d ts = ap (λ (z : ℕ). levels_to m z ts) (omega arith)

mutual
  unfolding toks levels_to syntax_of nesting

  object-levels : (all : List (List ℕ)) (x : Obj) (m d : ℕ) (ts : List Token)
      → levels_to m d (toks x ts) ≡ (leb (d + nesting (syntax_of all x)) m && levels_to m d ts)
  object-levels all (leaf l) m d ts = leaf-step m d (levels_to m d ts)
  object-levels all (group l) m d ts =
      step_in m d (nestings (syntaxes_of all l)) (levels_to m d ts) (levels_to m (suc d) (toks_all l (closing ∷ ts)))
      (λ h. parts-levels all l m (suc d) h (closing ∷ ts)
      ∙ ap (λ (b : Bool). leb (suc d + nestings (syntaxes_of all l)) m && b) (closing-level m d ts))

  parts-levels : (all : List (List ℕ)) (l : Objs) (m d : ℕ) → d ≤ m → (ts : List Token)
      → levels_to m d (toks_all l ts) ≡ (leb (d + nestings (syntaxes_of all l)) m && levels_to m d ts)
  parts-levels all nothing m d h ts = ap (λ (b : Bool). b && levels_to m d ts) (sym (le-leb (d + 0) m (omega arith)))
  parts-levels all (more x l) m d h ts =
      object-levels all x m d (toks_all l ts)
      ∙ ap (λ (b : Bool). leb (d + nesting (syntax_of all x)) m && b) (parts-levels all l m d h ts)
      ∙ sym (and_assoc (leb (d + nesting (syntax_of all x)) m) (leb (d + nestings (syntaxes_of all l)) m) (levels_to m d ts))
      ∙ ap (λ (b : Bool). b && levels_to m d ts) (sym (max-both m d (nesting (syntax_of all x)) (nestings (syntaxes_of all l))))

-- the pass tells whether the nesting keeps a limit
pub whole-levels : (all : List (List ℕ)) (x : Obj) (m : ℕ) → levels_to m 0 (toks x []) ≡ leb (nesting (syntax_of all x)) m
unfolding levels_to
whole-levels all x m =
    object-levels all x m 0 [] ∙ and-true (leb (0 + nesting (syntax_of all x)) m)
    ∙ ap (λ (n : ℕ). leb n m) (omega arith)

-- ---- printing

-- a space before an object is all that is due
due-before : (x : Obj) (ts : List Token) → text_from true (toks x ts) ≡ 32 ∷ text_from false (toks x ts)
unfolding toks text_from space_if
due-before (leaf l) ts = refl
due-before (group l) ts = refl

mutual
  unfolding toks text_from space_if object_text

  object-text : (x : Obj) (ts : List Token) → object_text x (text_from true ts) ≡ text_from false (toks x ts)
  object-text (leaf l) ts = refl
  object-text (group l) ts = ap (λ (s : List ℕ). 40 ∷ s) (parts-text l ts)

  parts-text : (l : Objs) (ts : List Token) → parts_text l (41 ∷ text_from true ts) ≡ text_from false (toks_all l (closing ∷ ts))
  parts-text nothing ts = refl
  parts-text (more x l) ts = ap (object_text x) (further-text l (closing ∷ ts)) ∙ object-text x (toks_all l (closing ∷ ts))

  further-text : (l : Objs) (ts : List Token) → further_text l (text_from true ts) ≡ text_from true (toks_all l ts)
  further-text nothing ts = refl
  further-text (more x l) ts =
      ap (λ (s : List ℕ). 32 ∷ object_text x s) (further-text l ts) ∙ ap (λ (s : List ℕ). 32 ∷ s) (object-text x (toks_all l ts))
      ∙ sym (due-before x (toks_all l ts))

-- the text of an object is that of its tokens
pub whole-text : (x : Obj) → object_text x [] ≡ text_from false (toks x [])
unfolding text_from
whole-text x = object-text x []
