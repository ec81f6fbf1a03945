-- Where the definition reads a tree, the code takes it exactly where it is what is wanted and is closed, and then comes to the same place.
use Prim.Native.Nat.{ℕ, zero, suc, ◌-◌, ◌<◌}
use mathlib.Core.Path.{◌≡◌, refl, sym, ap, ◌∙◌}
use mathlib.Core.Bool.{Bool, true, false, ◌&&◌, and-true}
use mathlib.Core.List.{List, ◌∷◌}
use native.Mathlib.Omega.{arith}
use lib.Dec.{eqb, ltb, leb, eqb-suc-zero}
use lib.ListN.{set}
use Rattle.std.specs.Prelude.{Option, Some, None}
use Rattle.model.specs.Refusals.{layout, over_limit}
use Rattle.model.specs.Limits.{last_point, last_primitive, last_rung_word}
use Rattle.model.specs.Objects.{Atom, symbol, number, point, prim, rung, tag_of, content_of, Stx}
use Rattle.model.specs.Trees.{Tree, var, app, fun, datum, lst, stx, Trees, tnil, tcons, tcount}
use Rattle.model.specs.Reading as m
use Rattle.model.specs.Reading.{Reader, got, fault, next, need, num, num_up_to, num_below, symbols, read_atom, read_stx, read_trees, read_app, read_tree_body, read_tree}
use Rattle.model.specs.Meanings.{is_among}
use Rattle.model.specs.Jobs.{closed}
use Rattle.codec_laws.proofs.NumberTrip.{fault≢got}
use Rattle.codec_laws.proofs.Sequence.{next-got, need-got, moved}
use Rattle.requests.specs.Panel.{free, word_numbered, head_word, word_of}
use Rattle.roots.proofs.Kept.{Around, around-more, below}
use Rattle.profile.specs.declared.rules.Wanted.{Wanted}
use Rattle.profile.specs.declared.rules.Wanted.TheVariants.{Program}
use Rattle.profile.specs.declared.rules.Rule.{Rule}
use Rattle.profile.specs.Rules.{rule_of, bit_rule, takes_count, takes_variable, takes_atom}
use Rattle.profile.specs.Taking.{take_variable, take_atom, take_word, take_all, take_arguments, bit_with, head_by, take_head, take_application, take_body, take_tree}
use Rattle.profile.proofs.Suits.{suits, good, all_good, arguments_good, none-taken, Limited, variable_suits, atom_suits, no-head, function_outside, list-outside, syntax-outside, bit-good, word_good}

-- taken up to here, or not
abbrev pub verdict : Bool → List ℕ → m.Read (Unit {0})
verdict true rest = got tt rest
verdict false rest = fault layout

need-is : (t : Bool) (s : List ℕ) → need layout t s ≡ verdict t s
need-is true s = refl
need-is false s = refl

verdict_next : (a c : Bool) (u rest : List ℕ) (j : Reader (Unit {0})) → j u ≡ verdict c rest → next (verdict a u) (λ x. j) ≡ verdict (a && c) rest
verdict_next true c u rest j e = e
verdict_next false c u rest j e = refl

-- ---- numbers, by whatever test

up_to-num : (c : _) (k n : ℕ) (s rest : List ℕ) → num_up_to c k s ≡ got n rest → (num s ≡ got n rest) × (leb n k ≡ true)
unfolding num_up_to
up_to-num c k n s rest e =
    let g = next-got (num s) _ n rest e in
    let t = next-got (need c (leb g.0 k) g.1) _ n rest g.3 in
    let q = need-got c (leb g.0 k) t.0 g.1 t.1 t.2 in
    moved (λ v u. (num s ≡ got v u) × (leb v k ≡ true)) g.0 n t.1 rest t.3 (g.2 ∙ ap (got g.0) q.1, q.0)

below-num : (k n : ℕ) (s rest : List ℕ) → num_below k s ≡ got n rest → num s ≡ got n rest
unfolding num_below
below-num k n s rest e =
    let g = next-got (num s) _ n rest e in
    let t = next-got (need layout (ltb g.0 k) g.1) _ n rest g.3 in
    let q = need-got layout (ltb g.0 k) t.0 g.1 t.1 t.2 in
    moved (λ v u. num s ≡ got v u) g.0 n t.1 rest t.3 (g.2 ∙ ap (got g.0) q.1)

-- an atom's tag and content, as numbers
abbrev Content : ℕ → List ℕ → Atom → List ℕ → Type 0
Content t s a rest = (tag_of a ≡ t) × (num s ≡ got (content_of a) rest) × Limited a

atom-num : (h : m.Head) (t : ℕ) (a : Atom) (s rest : List ℕ) → read_atom h t s ≡ got a rest → Content t s a rest
unfolding read_atom tag_of content_of last_point last_rung_word
atom-num h zero a s rest e =
    let g = next-got (num_below (symbols h) s) _ a rest e in
    moved (Content 0 s) (symbol g.0) a g.1 rest g.3 (refl, below-num (symbols h) g.0 s g.1 g.2, tt)
atom-num h (suc zero) a s rest e =
    let g = next-got (num s) _ a rest e in
    moved (Content 1 s) (number g.0) a g.1 rest g.3 (refl, g.2, tt)
atom-num h (suc (suc zero)) a s rest e =
    let g = next-got (num_up_to over_limit last_point s) _ a rest e in
    let n = up_to-num over_limit last_point g.0 s g.1 g.2 in
    moved (Content 2 s) (point g.0) a g.1 rest g.3 (refl, n.0, n.1)
atom-num h (suc (suc (suc zero))) a s rest e =
    let g = next-got (num_up_to over_limit last_primitive s) _ a rest e in
    let n = up_to-num over_limit last_primitive g.0 s g.1 g.2 in
    moved (Content 3 s) (prim g.0) a g.1 rest g.3 (refl, n.0, tt)
atom-num h (suc (suc (suc (suc zero)))) a s rest e =
    let g = next-got (num_up_to over_limit last_rung_word s) _ a rest e in
    let n = up_to-num over_limit last_rung_word g.0 s g.1 g.2 in
    moved (Content 4 s) (rung g.0) a g.1 rest g.3 (refl, n.0, n.1)
atom-num h (suc (suc (suc (suc (suc t))))) a s rest e = absurd (fault≢got layout a rest e)

-- ---- a head

-- the rule behind a head, where there is one
abbrev ruled : Bool → Option Rule → List ℕ → m.Read (Option Rule)
ruled true r rest = got r rest
ruled false r rest = fault layout

abbrev head_verdict : List ℕ → Wanted → Tree → List ℕ → m.Read (Option Rule)
head_verdict a w (var n) rest = fault layout
head_verdict a w (app h l) rest = fault layout
head_verdict a w (fun n b) rest = ruled (good (n ∷ a) Program b) (bit_rule w) rest
head_verdict a w (datum (symbol x)) rest = fault layout
head_verdict a w (datum (number x)) rest = fault layout
head_verdict a w (datum (point x)) rest = fault layout
head_verdict a w (datum (prim x)) rest = fault layout
head_verdict a w (datum (rung x)) rest = got (rule_of w (word_numbered x)) rest
head_verdict a w (lst l) rest = fault layout
head_verdict a w (stx s) rest = fault layout

-- what is claimed of readers of parts, heads and bodies, inside functions of the names a
abbrev Takes : List ℕ → Reader Tree → (Wanted → Reader (Unit {0})) → Type 0
Takes a tree part = (w : Wanted) (t : Tree) (s rest : List ℕ) → tree s ≡ got t rest → part w s ≡ verdict (good a w t) rest

abbrev Heads : List ℕ → Reader Tree → (Wanted → Reader (Option Rule)) → Type 0
Heads a tree head = (w : Wanted) (t : Tree) (s rest : List ℕ) → tree s ≡ got t rest → head w s ≡ head_verdict a w t rest

abbrev Bodies : List ℕ → ℕ → Reader Tree → (ℕ → Reader (Unit {0})) → Type 0
Bodies a names tree inside = (n : ℕ) → n < names → (t : Tree) (s rest : List ℕ) → tree s ≡ got t rest → inside n s ≡ verdict (good (n ∷ a) Program t) rest

bit-next : (g : Bool) (w : Wanted) (rest : List ℕ) → next (verdict g rest) (λ x. λ u. got (bit_rule w) u) ≡ ruled g (bit_rule w) rest
bit-next true w rest = refl
bit-next false w rest = refl

word_next : (a : List ℕ) (w : Wanted) (c : Atom) (u rest : List ℕ) → num u ≡ got (content_of c) rest → Limited c
    → next (need layout (eqb (tag_of c) 4) u) (λ x v. next (num_up_to over_limit 15 v) (λ y z. got (rule_of w (word_numbered y)) z)) ≡ head_verdict a w (datum c) rest
unfolding tag_of content_of num_up_to
word_next a w (symbol x) u rest e l = refl
word_next a w (number x) u rest e l = refl
word_next a w (point x) u rest e l = refl
word_next a w (prim x) u rest e l = refl
word_next a w (rung x) u rest e l = rw (e, l)

bit_is : (names : ℕ) (inside : ℕ → Reader (Unit {0})) (w : Wanted) (n : ℕ) (g : Bool) (s u rest : List ℕ) → num_below names s ≡ got n u → inside n u ≡ verdict g rest
    → bit_with names inside w s ≡ ruled g (bit_rule w) rest
unfolding bit_with
bit_is names inside w n g s u rest e p = rw (e, p) (bit-next g w rest)

word-is : (a : List ℕ) (w : Wanted) (k : ℕ) (c : Atom) (s u rest : List ℕ) → num s ≡ got k u → tag_of c ≡ k → num u ≡ got (content_of c) rest → Limited c → take_word w s ≡ head_verdict a w (datum c) rest
unfolding take_word last_rung_word
word-is a w k c s u rest e t d l = rw (e, ← t) (word_next a w c u rest d l)

-- what follows the head's tag; its parts are read by `tree` and taken by `inside`
module _ (h : m.Head) (tree value : Reader Tree) (object : Reader Stx) (a : List ℕ) (inside : ℕ → Reader (Unit {0})) (takes : Bodies a h.names tree inside) where
  abbrev HeadIs : Wanted → ℕ → List ℕ → Tree → List ℕ → Type 0
  HeadIs w t s v rest = head_by h.names inside w t s ≡ head_verdict a w v rest

  head_body : (w : Wanted) (t : ℕ) (v : Tree) (s rest : List ℕ) → read_tree_body h tree value object t s ≡ got v rest → HeadIs w t s v rest
  unfolding read_tree_body read_app head_by
  head_body w zero v s rest e =
      let g = next-got (num_below h.names s) _ v rest e in
      moved (HeadIs w 0 s) (var g.0) v g.1 rest g.3 refl
  head_body w (suc zero) v s rest e =
      let g = next-got (num s) _ v rest e in
      go g.0 g.1 g.3
    where
      go : (c : ℕ) (u : List ℕ) → read_app c tree u ≡ got v rest → fault layout ≡ head_verdict a w v rest
      go zero u d = absurd (fault≢got layout v rest d)
      go (suc c) u d =
          let f = next-got (tree u) _ v rest d in
          let l = next-got (read_trees c tree f.1) _ v rest f.3 in
          moved (λ x y. fault layout ≡ head_verdict a w x y) (app f.0 l.0) v l.1 rest l.3 refl
  head_body w (suc (suc zero)) v s rest e =
      let g = next-got (num_below h.names s) _ v rest e in
      let k = next-got (tree g.1) _ v rest g.3 in
      moved (HeadIs w 2 s) (fun g.0 k.0) v k.1 rest k.3
      (bit_is h.names inside w g.0 (good (g.0 ∷ a) Program k.0) s g.1 k.1 g.2 (takes g.0 (below h.names s g.0 g.1 g.2) k.0 g.1 k.1 k.2))
  head_body w (suc (suc (suc zero))) v s rest e =
      let g = next-got (num s) _ v rest e in
      let k = next-got (read_atom h g.0 g.1) _ v rest g.3 in
      let c = atom-num h g.0 k.0 g.1 k.1 k.2 in
      moved (HeadIs w 3 s) (datum k.0) v k.1 rest k.3 (word-is a w g.0 k.0 s g.1 k.1 g.2 c.0 c.1 c.2)
  head_body w (suc (suc (suc (suc zero)))) v s rest e =
      let g = next-got (num s) _ v rest e in
      let k = next-got (read_trees g.0 value g.1) _ v rest g.3 in
      moved (HeadIs w 4 s) (lst k.0) v k.1 rest k.3 refl
  head_body w (suc (suc (suc (suc (suc zero))))) v s rest e =
      let g = next-got (object s) _ v rest e in
      moved (HeadIs w 5 s) (stx g.0) v g.1 rest g.3 refl
  head_body w (suc (suc (suc (suc (suc (suc t)))))) v s rest e = absurd (fault≢got layout v rest e)

-- ---- arguments

module _ (a : List ℕ) (tree : Reader Tree) (part : Wanted → Reader (Unit {0})) (takes : Takes a tree part) where
  abbrev All : Wanted → ℕ → List ℕ → Trees → List ℕ → Type 0
  All w c s l rest = (tcount l ≡ c) × (take_all c (part w) s ≡ verdict (all_good a w l) rest)

  all-takes : (w : Wanted) (c : ℕ) (l : Trees) (s rest : List ℕ) → read_trees c tree s ≡ got l rest → All w c s l rest
  unfolding read_trees take_all all_good tcount
  all-takes w zero l s rest e = moved (All w 0 s) tnil l s rest e (refl, refl)
  all-takes w (suc c) l s rest e =
      let g = next-got (tree s) _ l rest e in
      let k = next-got (read_trees c tree g.1) _ l rest g.3 in
      let r = all-takes w c k.0 g.1 k.1 k.2 in
      moved (All w (suc c) s) (tcons g.0 k.0) l k.1 rest k.3 (
        ap suc r.0,
        rw (takes w g.0 s g.1 g.2) (verdict_next (good a w g.0) (all_good a w k.0) g.1 k.1 (take_all c (part w)) r.1),
      )

  -- of the parts behind a head
  arguments_take : (r : Option Rule) (c : ℕ) (l : Trees) (s rest : List ℕ) → read_trees c tree s ≡ got l rest
      → take_arguments part r c s ≡ verdict (arguments_good a r l) rest
  unfolding read_trees take_arguments
  arguments_take None c l s rest e = refl
  arguments_take (Some r) zero l s rest e = moved (λ x u. take_arguments part (Some r) 0 s ≡ verdict (arguments_good a (Some r) x) u) tnil l s rest e (rw (none-taken r))
  arguments_take (Some r) (suc c) l s rest e =
      let g = next-got (tree s) _ l rest e in
      let k = next-got (read_trees c tree g.1) _ l rest g.3 in
      let q = all-takes r.others c k.0 g.1 k.1 k.2 in
      let z : suc c - 1 ≡ c = omega arith in
      moved (λ x u. take_arguments part (Some r) (suc c) s ≡ verdict (arguments_good a (Some r) x) u) (tcons g.0 k.0) l k.1 rest k.3
      (rw (q.0, z, need-is (takes_count r (suc c)) s)
      (verdict_next (takes_count r (suc c)) (good a r.first g.0 && all_good a r.others k.0) s k.1 _
      (rw (takes r.first g.0 s g.1 g.2) (verdict_next (good a r.first g.0) (all_good a r.others k.0) g.1 k.1 (take_all c (part r.others)) q.1))))

-- ---- an application

-- a head, and what its rule makes of the arguments l
module _ (a : List ℕ) (w : Wanted) (l : Trees) (s rest : List ℕ) (j : Option Rule → Reader (Unit {0})) (h : (r : Option Rule) → j r s ≡ verdict (arguments_good a r l) rest) where
  ruled-next : (g : Bool) (r : Option Rule) → next (ruled g r s) j ≡ verdict (g && arguments_good a r l) rest
  ruled-next true r = h r
  ruled-next false r = refl

  none : (f : Tree) → head_word f ≡ free → fault layout ≡ verdict (good a w (app f l)) rest
  none f e = rw (no-head w f l e)

  app_suits : (f : Tree) → next (head_verdict a w f s) j ≡ verdict (good a w (app f l)) rest
  unfolding head_word word_of
  app_suits (var n) = none (var n) refl
  app_suits (app f p) = none (app f p) refl
  app_suits (fun n b) = ruled-next (good (n ∷ a) Program b) (bit_rule w) ∙ ap (λ (z : Bool). verdict z rest) (bit-good a w n b l)
  app_suits (datum (symbol x)) = none (datum (symbol x)) refl
  app_suits (datum (number x)) = none (datum (number x)) refl
  app_suits (datum (point x)) = none (datum (point x)) refl
  app_suits (datum (prim x)) = none (datum (prim x)) refl
  app_suits (datum (rung x)) = h (rule_of w (word_numbered x)) ∙ ap (λ (z : Bool). verdict z rest) (word_good a w x l)
  app_suits (lst p) = none (lst p) refl
  app_suits (stx x) = none (stx x) refl

-- ---- a tree

tagged : {A : Type 0} (j : ℕ → Reader A) (n : ℕ) (s u : List ℕ) (g : m.Read A) → num s ≡ got n u → j n u ≡ g → next (num s) j ≡ g
tagged j n s u g e d = rw e d

two_needs : (x y : Bool) (s : List ℕ) → next (need layout x s) (λ z. need layout y) ≡ verdict (y && x) s
two_needs true true s = refl
two_needs true false s = refl
two_needs false true s = refl
two_needs false false s = refl

variable-is : (names : ℕ) (table a : List ℕ) → Around names table a → (w : Wanted) (n : ℕ) (s rest : List ℕ) → num_below names s ≡ got n rest → take_variable names table w s ≡ verdict (good a w (var n)) rest
unfolding take_variable closed
variable-is names table a A w n s rest e =
    rw (e, A.has n (below names s n rest e)) (two_needs (is_among n a) (takes_variable w) rest ∙ ap (λ (z : Bool). verdict (z && is_among n a) rest) (variable_suits w n))

atom-is : (a : List ℕ) (w : Wanted) (k : ℕ) (c : Atom) (s u rest : List ℕ) → num s ≡ got k u → tag_of c ≡ k → num u ≡ got (content_of c) rest → Limited c → take_atom w s ≡ verdict (good a w (datum c)) rest
unfolding take_atom closed
atom-is a w k c s u rest e t d l =
    rw (e, d, ← t) (need-is (takes_atom w (tag_of c) (content_of c)) rest ∙ ap (λ (z : Bool). verdict z rest) (atom_suits w c l ∙ sym (and-true (suits w (datum c)))))

application_is : (a : List ℕ) (part : Wanted → Reader (Unit {0})) (head : Wanted → Reader (Option Rule)) (w : Wanted) (c : ℕ) (f : Tree) (l : Trees) (s u v rest : List ℕ) → num s ≡ got (suc c) u → head w u ≡ head_verdict a w f v
    → ((r : Option Rule) → take_arguments part r c v ≡ verdict (arguments_good a r l) rest) → take_application part head w s ≡ verdict (good a w (app f l)) rest
unfolding take_application
application_is a part head w c f l s u v rest e d q =
    let z : suc c - 1 ≡ c = omega arith in
    rw (e, eqb-suc-zero c, d, z) (app_suits a w l v rest (λ r. take_arguments part r c) q f)

module _ (h : m.Head) (tree value : Reader Tree) (object : Reader Stx) (table a : List ℕ) (A : Around h.names table a) (part : Wanted → Reader (Unit {0})) (head : Wanted → Reader (Option Rule)) (takes : Takes a tree part) (heads : Heads a tree head) where
  abbrev BodyIs : Wanted → ℕ → List ℕ → Tree → List ℕ → Type 0
  BodyIs w t s v rest = take_body h.names table part head w t s ≡ verdict (good a w v) rest

  body_takes : (w : Wanted) (t : ℕ) (v : Tree) (s rest : List ℕ) → read_tree_body h tree value object t s ≡ got v rest → BodyIs w t s v rest
  unfolding read_tree_body read_app take_body
  body_takes w zero v s rest e =
      let g = next-got (num_below h.names s) _ v rest e in
      moved (BodyIs w 0 s) (var g.0) v g.1 rest g.3 (variable-is h.names table a A w g.0 s g.1 g.2)
  body_takes w (suc zero) v s rest e =
      let g = next-got (num s) _ v rest e in
      go g.0 g.1 g.2 g.3
    where
      go : (c : ℕ) (u : List ℕ) → num s ≡ got c u → read_app c tree u ≡ got v rest → take_application part head w s ≡ verdict (good a w v) rest
      go zero u n d = absurd (fault≢got layout v rest d)
      go (suc c) u n d =
          let f = next-got (tree u) _ v rest d in
          let l = next-got (read_trees c tree f.1) _ v rest f.3 in
          moved (λ x y. take_application part head w s ≡ verdict (good a w x) y) (app f.0 l.0) v l.1 rest l.3
          (application_is a part head w c f.0 l.0 s u f.1 l.1 n (heads w f.0 u f.1 f.2) (λ r. arguments_take a tree part takes r c l.0 f.1 l.1 l.2))
  body_takes w (suc (suc zero)) v s rest e =
      let g = next-got (num_below h.names s) _ v rest e in
      let k = next-got (tree g.1) _ v rest g.3 in
      moved (BodyIs w 2 s) (fun g.0 k.0) v k.1 rest k.3 (rw (function_outside w g.0 k.0))
  body_takes w (suc (suc (suc zero))) v s rest e =
      let g = next-got (num s) _ v rest e in
      let k = next-got (read_atom h g.0 g.1) _ v rest g.3 in
      let c = atom-num h g.0 k.0 g.1 k.1 k.2 in
      moved (BodyIs w 3 s) (datum k.0) v k.1 rest k.3 (atom-is a w g.0 k.0 s g.1 k.1 g.2 c.0 c.1 c.2)
  body_takes w (suc (suc (suc (suc zero)))) v s rest e =
      let g = next-got (num s) _ v rest e in
      let k = next-got (read_trees g.0 value g.1) _ v rest g.3 in
      moved (BodyIs w 4 s) (lst k.0) v k.1 rest k.3 (rw (list-outside w k.0))
  body_takes w (suc (suc (suc (suc (suc zero))))) v s rest e =
      let g = next-got (object s) _ v rest e in
      moved (BodyIs w 5 s) (stx g.0) v g.1 rest g.3 (rw (syntax-outside w g.0))
  body_takes w (suc (suc (suc (suc (suc (suc t)))))) v s rest e = absurd (fault≢got layout v rest e)

mutual
  unfolding read_tree take_tree take_head

  pub tree-takes : (l : ℕ) (h : m.Head) (table a : List ℕ) → Around h.names table a → Takes a (read_tree l h 0) (take_tree h.names l table)
  tree-takes zero h table a A w t s rest e = absurd (fault≢got over_limit t rest e)
  tree-takes (suc l) h table a A w t s rest e =
      let g = next-got (num s) _ t rest e in
      let n = next-got (need layout (leb 0 g.0) g.1) _ t rest g.3 in
      let u = need-got layout (leb 0 g.0) n.0 g.1 n.1 n.2 in
      tagged (take_body h.names table (take_tree h.names l table) (take_head h.names l table) w) g.0 s n.1 (verdict (good a w t) rest) (g.2 ∙ ap (got g.0) u.1)
      (body_takes h (read_tree l h 0) (read_tree l h 2) (read_stx (suc l) h) table a A (take_tree h.names l table) (take_head h.names l table)
      (λ w t s rest e. tree-takes l h table a A w t s rest e) (λ w t s rest e. tree_heads l h table a A w t s rest e) w g.0 t n.1 rest n.3)

  tree_heads : (l : ℕ) (h : m.Head) (table a : List ℕ) → Around h.names table a → Heads a (read_tree l h 0) (take_head h.names l table)
  tree_heads zero h table a A w t s rest e = absurd (fault≢got over_limit t rest e)
  tree_heads (suc l) h table a A w t s rest e =
      let g = next-got (num s) _ t rest e in
      let n = next-got (need layout (leb 0 g.0) g.1) _ t rest g.3 in
      let u = need-got layout (leb 0 g.0) n.0 g.1 n.1 n.2 in
      tagged (head_by h.names (λ n. take_tree h.names l (set table n 1) Program) w) g.0 s n.1 (head_verdict a w t rest) (g.2 ∙ ap (got g.0) u.1)
      (head_body h (read_tree l h 0) (read_tree l h 2) (read_stx (suc l) h) a (λ n. take_tree h.names l (set table n 1) Program)
      (λ n k t s rest e. tree-takes l h (set table n 1) (n ∷ a) (around-more n k A) Program t s rest e) w g.0 t n.1 rest n.3)
