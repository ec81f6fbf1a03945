-- The root: what the code says of the bytes behind a head.
use Prim.Native.Nat.{ℕ, ◌+◌, ◌-◌, ◌≤◌}
use mathlib.Core.Path.{◌≡◌, refl, sym, ap, ◌∙◌, subst}
use mathlib.Core.Bool.{Bool, true, false, false≢true, ◌&&◌}
use mathlib.Core.List.{List, [], ◌∷◌}
use native.Mathlib.Omega.{arith}
use lib.Dec.{eqb}
use lib.ListN.{length, drop}
use Rattle.std.specs.Prelude.{Result, Ok, Err}
use borrow.Author.Tests.{eqb-true}
use Rattle.model.specs.Refusals as r
use Rattle.model.specs.Refusals.{layout}
use Rattle.model.specs.Limits.{most_nesting}
use Rattle.model.specs.Trees.{Tree}
use Rattle.model.specs.Reading as m
use Rattle.model.specs.Reading.{got, fault, read_tree}
use Rattle.model.specs.Jobs.{closed}
use Rattle.laws.proofs.Tests.{and_both}
use Rattle.codec_laws.proofs.NumberTrip.{fault≢got, got-rest}
use Rattle.requests.specs.Panel.{is_program}
use Rattle.refusals.specs.declared.Refusal.{Refusal}
use Rattle.refusals.specs.Refusing.{refusal_of}
use Rattle.numbers.specs.declared.Cursor.{Cursor}
use Rattle.numbers.proofs.Answering.{Took, took, refused, place_shape}
use Rattle.roots.specs.Measuring.{none_around}
use Rattle.roots.proofs.Kept.{around-none}
use Rattle.roots.proofs.Trees.{none_is}
use Rattle.profile.specs.declared.rules.Wanted.TheVariants.{Program}
use Rattle.profile.specs.Taking.{taken_at, take_tree, Found, Missed, Tells}
use Rattle.profile.proofs.Tails.{tree_tail}
use Rattle.profile.proofs.Taking.{tree-moved, tree-within}
use Rattle.profile.proofs.Suits.{good}
use Rattle.profile.proofs.Meaning.{verdict, tree-takes}
use Rattle.profile.proofs.Readable.{tree-read}

-- ---- what a taking says of the tree there

taken-good : (b : Bool) (rest u : List ℕ) → verdict b rest ≡ got tt u → (b ≡ true) × (rest ≡ u)
taken-good true rest u e = (refl, got-rest tt tt rest u e)
taken-good false rest u e = absurd (fault≢got layout tt u e)

refused-bad : (b : Bool) (rest : List ℕ) {c : r.Refusal} → verdict b rest ≡ fault c → b ≡ false
refused-bad true rest {c} e = absurd (fault≢got c tt rest (sym e))
refused-bad false rest e = refl

-- of a tree that is closed
not-program : (p o : Bool) → (p && o) ≡ false → o ≡ true → p ≡ false
not-program true o e t = absurd (false≢true (sym e ∙ t))
not-program false o e t = refl

none_left : (u : List ℕ) → length u ≡ 0 → u ≡ []
none_left [] e = refl
none_left (x ∷ u) e = absurd (omega arith)

module _ (h : m.Head) (few : h.names ≤ 1024) (s : List ℕ) where
  takes-root : (t : Tree) (rest : List ℕ) → read_tree 64 h 0 s ≡ got t rest → take_tree h.names 64 none_around Program s ≡ verdict (good [] Program t) rest
  takes-root t rest e = tree-takes 64 h none_around [] (around-none few) Program t s rest e

  taken-found : take_tree h.names 64 none_around Program s ≡ got tt [] → Found h s
  unfolding most_nesting
  taken-found e =
      let t = tree-read 64 h none_around Program s [] e in
      let g = taken-good (good [] Program t.value) [] [] (sym (takes-root t.value [] t.is) ∙ e) in
      let b = and_both (is_program t.value) (closed [] t.value) g.0 in
      record { root = t.value; reads = t.is; program = b.0; owned = b.1 }

  refused-missed : {c : r.Refusal} → take_tree h.names 64 none_around Program s ≡ fault c → Missed h s
  unfolding most_nesting
  refused-missed e t q o = not-program (is_program t) (closed [] t) (refused-bad (good [] Program t) [] (sym (takes-root t [] q) ∙ e)) o

  more-missed : {u : List ℕ} → (length u ≡ 0 → ⊥) → take_tree h.names 64 none_around Program s ≡ got tt u → Missed h s
  unfolding most_nesting
  more-missed {u} n e t q o =
      let g = taken-good (good [] Program t) [] u (sym (takes-root t [] q) ∙ e) in
      absurd (n (ap length (sym g.1)))

-- ---- the answers

module _ (at names : ℕ) (around s : List ℕ) (few : names ≤ 1024) (none : around ≡ none_around) {r : Result Cursor Refusal} (k : r ≡ taken_at (at + length s) (take_tree names 64 around Program s)) where
  from-none : r ≡ taken_at (at + length s) (take_tree names 64 none_around Program s)
  from-none = k ∙ ap (λ (z : List ℕ). taken_at (at + length s) (take_tree names 64 z Program s)) none

  pub other-told : {f : Refusal} → r ≡ Err f → Tells names s false
  other-told {f} e =
      let g : take_tree names 64 none_around Program s ≡ fault (refusal_of f) = refused place_shape (at + length s) (take_tree names 64 none_around Program s) from-none e in
      record {
        found = λ t. absurd (false≢true t);
        missed = λ t h n.
            refused-missed h (subst (λ (z : ℕ). z ≤ 1024) (sym n) few) s (subst (λ (z : ℕ). take_tree z 64 none_around Program s ≡ fault (refusal_of f)) (sym n) g);
      }

  pub root_told : {past : Cursor} {u : List ℕ} → r ≡ Ok past → u ≡ drop (past.at - at) s → Tells names s (eqb (length u) 0)
  root_told {past} {u} e i =
      let T : Took at s (take_tree names 64 none_around Program s) tt past.at = took place_shape {k = tt} from-none e (tree_tail names 64 none_around Program s) in
      let g : take_tree names 64 none_around Program s ≡ got tt u = T.is ∙ ap (got tt) (sym i) in
      let for_names : (h : m.Head) → h.names ≡ names → take_tree h.names 64 none_around Program s ≡ got tt u =
      λ h n. subst (λ (z : ℕ). take_tree z 64 none_around Program s ≡ got tt u) (sym n) g in
      record {
        found = λ t h n.
            taken-found h (subst (λ (z : ℕ). z ≤ 1024) (sym n) few) s (for_names h n ∙ ap (got tt) (none_left u (eqb-true (length u) 0 t)));
        missed = λ t h n.
            more-missed h (subst (λ (z : ℕ). z ≤ 1024) (sym n) few) s (λ z. false≢true (sym t ∙ ap (λ (l : ℕ). eqb l 0) z)) (for_names h n);
      }

pub ruleset root_laws = (none_is, other-told, root_told, tree-moved, tree-within)
