-- What a caller knows of a root's answer: what the definition read, or its fault.
use Rattle.std.specs.Prelude.{Result, Ok, Err}
use Prim.Native.Nat.{ℕ, ◌+◌, ◌-◌, ◌≤◌}
use mathlib.Core.Path.{◌≡◌, ◌∙◌}
use mathlib.Core.List.{List, [], ◌∷◌}
use lib.ListN.{length, drop}
use Rattle.model.specs.Objects.{size}
use Rattle.model.specs.Reading as m
use Rattle.model.specs.Reading.{Reader, fault, at_end, read_stx, read_tree}
use Rattle.refusals.specs.declared.Refusal.{Refusal}
use Rattle.refusals.specs.Refusing.{refusal_of}
use Rattle.numbers.specs.declared.Cursor.{Cursor}
use Rattle.numbers.specs.Answers.{read_at}
use Rattle.numbers.proofs.Tails.{Tail, tail_fault, tail_give, tail_next}
use Rattle.numbers.proofs.Answering.{Took, took, refused, read_shape, Kept, kept-got, kept-fault}
use Rattle.roots.specs.MeasuredObjects.{measure_stx}
use Rattle.roots.proofs.ObjectSizes.{object_tail}
use Rattle.roots.specs.declared.Extent.{Extent}
use Rattle.roots.specs.Measuring.{measure_tree, then_end, whole_syntax, none_around, whole_tree}
use Rattle.roots.proofs.Spans.{tree_tail}
use Rattle.roots.proofs.Kept.{counts_of, extent_of, syntax_root_is, tree_root_is}

end_tail : (s : List ℕ) → Tail s (at_end s)
unfolding at_end
end_tail [] = tail_give tt []
end_tail (b ∷ s) = tail_fault

pub root_tail : {A : Type 0} (root : Reader A) (s : List ℕ) → Tail s (root s) → Tail s (then_end root s)
unfolding then_end
root_tail root s h = tail_next _ h (λ a t. tail_next _ (end_tail t) (λ x u. tail_give a u))

-- ---- kind 1: the object, of which the size is kept

module _ (h : m.Head) (at : ℕ) (s : List ℕ) {r : Result (ℕ × Cursor) Refusal} (a : r ≡ read_at (at + length s) (whole_syntax (counts_of h) s)) where
  pub syntax-refused : {f : Refusal} → r ≡ Err f → then_end (read_stx 64 h) s ≡ fault (refusal_of f)
  syntax-refused {f} e =
      kept-fault size (then_end (read_stx 64 h) s) (refusal_of f) (syntax_root_is h s ∙ refused read_shape (at + length s) (whole_syntax (counts_of h) s) a e)

  syntax_tail : Tail s (whole_syntax (counts_of h) s)
  unfolding whole_syntax
  syntax_tail = root_tail (measure_stx (counts_of h).symbols h.scopes 64) s (object_tail (counts_of h).symbols h.scopes 64 s)

  pub syntax-read : {n : ℕ} {past : Cursor} → r ≡ Ok (n, past) → Kept size (then_end (read_stx 64 h) s) n (drop (past.at - at) s)
  syntax-read {n} {past} e =
      let T : Took at s (whole_syntax (counts_of h) s) n past.at = took read_shape a e syntax_tail in
      kept-got size (then_end (read_stx 64 h) s) n (drop (past.at - at) s) (syntax_root_is h s ∙ T.is)

-- ---- a tree alone, of which the charge for loading and the test for code 3 are kept

module _ (h : m.Head) (few : h.names ≤ 1024) (levels low at : ℕ) (s : List ℕ) {r : Result (Extent × Cursor) Refusal} (a : r ≡ read_at (at + length s) (whole_tree (counts_of h) levels low s)) where
  pub tree-refused : {f : Refusal} → r ≡ Err f → then_end (read_tree levels h low) s ≡ fault (refusal_of f)
  tree-refused {f} e =
      kept-fault (extent_of []) (then_end (read_tree levels h low) s) (refusal_of f) (tree_root_is h levels low s few ∙ refused read_shape (at + length s) (whole_tree (counts_of h) levels low s) a e)

  whole_tail : Tail s (whole_tree (counts_of h) levels low s)
  unfolding whole_tree
  whole_tail = root_tail (measure_tree (counts_of h) levels low none_around) s (tree_tail (counts_of h) levels low none_around s)

  pub tree-read : {x : Extent} {past : Cursor} → r ≡ Ok (x, past) → Kept (extent_of []) (then_end (read_tree levels h low) s) x (drop (past.at - at) s)
  tree-read {x} {past} e =
      let T : Took at s (whole_tree (counts_of h) levels low s) x past.at = took read_shape a e whole_tail in
      kept-got (extent_of []) (then_end (read_tree levels h low) s) x (drop (past.at - at) s) (tree_root_is h levels low s few ∙ T.is)
