-- Parsing the smaller image gives the same code and units, and the same tree renumbered.
use mathlib.Core.Path.{◌≡◌, refl, sym, ap, ◌∙◌, subst}
use Prim.Native.Nat.{ℕ, ◌-◌, ◌≤◌}
use native.Mathlib.Nat.{le_trans}
use mathlib.Core.List.{List, []}
use lib.ListN.{length}
use Rattle.model.specs.Limits.{most_entries, most_image}
use Rattle.model.specs.Scopes.{Scopes, members}
use Rattle.model.specs.Objects.{Sets, set_at, Stx, size}
use Rattle.model.specs.Trees.{Tree}
use Rattle.model.specs.Resolving.{Bind, resolve}
use Rattle.model.specs.Reading.{got, Head, symbols, Image, read_syntax, read_image}
use Rattle.model.specs.Writing.{tree_image_bytes}
use Rattle.model.specs.Steps.{State, Out, ok}
use Rattle.model.specs.Jobs.{Ending, start, worked, fitted, reached, parse_root, parse_ending, parse_job}
use Rattle.laws.proofs.StepLaws.{spend}
use Rattle.codec_laws.specs.WellFormed.{Bytes, SyntaxFits, TreeFits, TreeImageFits}
use Rattle.codec_laws.proofs.ImageLaws.{syntax_read_keeps_limits, tree_written_then_read}
use Rattle.addresses.proofs.Outcomes.{Outcome}
use Rattle.addresses.proofs.ExpandJob.{outcome_ok}
use Rattle.addresses.proofs.Endings.{parse_work, parse_ending-is, with_read}
use Rattle.addresses.proofs.Readable.{reached-same, parse-root}
use Rattle.alike.proofs.Alike.{NewNumbers, SetsAlike, TreeAlike}
use Rattle.alike.specs.Renumbering.{SameBut, renumber_stx}
use Rattle.alike.proofs.SetLaws.{set_at_alike}
use Rattle.alike.proofs.Stores.{StoreAlike, resolve_alike}
use Rattle.alike.proofs.Things.{size_alike}
use Rattle.alike.proofs.Runs.{Pairing, OutAlike, oks, nos, StepAlike, then_same, charges_alike}
use Rattle.alike.proofs.ParseAlike.{parse_alike}
use Rattle.alike.proofs.Answers.{both-refused, AlikeIfShort, fitted_alike, lent_alike}
use Rattle.shrinking.specs.Shrunk.{kept, remaining, rank, renumber_each, with_scopes, shrunk, bytes_of, smaller}
use Rattle.shrinking.specs.Finished.{renumber_tree, tree_again, smaller_tree}
use Rattle.shrinking.proofs.Ranks.{ranked}
use Rattle.shrinking.proofs.Within.{root-fits, each_alike}
use Rattle.shrinking.proofs.Kept.{kept_sorted, resolve-kept, Needed, all_needed}
use Rattle.shrinking.proofs.Readable.{shrunk-bytes, few-scopes, small_u, binds_under, like_root, shrunk-fits, smaller-reads}
use Rattle.shrinking.proofs.Trees.{tree_is}

-- ---- states of two parsings: the same units left, and each its bindings

pub record ParseStates (l r : List Bind) (s t : State) : Type 0 where
  pub left_is : s.left ≡ t.left
  pub binds_l : s.binds ≡ l
  pub binds_r : t.binds ≡ r

spent_states : (l r : List Bind) (n : ℕ) (s t : State) → ParseStates l r s t → ParseStates l r (spend n s) (spend n t)
unfolding spend
spent_states l r n s t h = record { left_is = ap (λ (x : ℕ). x - n) h.left_is; binds_l = h.binds_l; binds_r = h.binds_r }

abbrev parsings : List Bind → List Bind → Pairing
parsings l r = record { rel = ParseStates l r; left_is = λ s t h. h.left_is; spent = spent_states l r }

-- a tree's image renumbered, where the tree keeps its limits
smaller-is : (u : Scopes) (h : Head) (t : Tree) → TreeImageFits h t
    → smaller_tree u (tree_image_bytes h t) ≡ tree_image_bytes (with_scopes (length (members u)) h) (renumber_tree (rank u) t)
unfolding smaller_tree tree_again
smaller-is u h t f = rw (tree_written_then_read h t f)

module _ (i : Image Stx) (fit : SyntaxFits i.head i.binds i.root) where
  abbrev u : Scopes
  u = remaining i.binds i.root

  abbrev ρ : NewNumbers
  ρ = ranked u (small_u i fit)

  abbrev left : List Bind
  left = kept i.root i.binds

  abbrev new : List Bind
  new = renumber_each (rank u) left

  store_like : StoreAlike ρ left new
  store_like =
      each_alike u (small_u i fit) i.head.scopes (few-scopes i fit) left (binds_under i fit) (kept_sorted i.root i.binds fit.ascending)

  -- what is dropped changes no name, and what is renumbered neither
  agree : (s t : State) → ParseStates i.binds new s t → (c d : Sets) (x : ℕ) → Needed 0 i.root c x → SetsAlike ρ c d
      → resolve x (set_at 0 c) s.binds ≡ resolve x (set_at 0 d) t.binds
  agree s t h c d x p k =
      ap (resolve x (set_at 0 c)) h.binds_l ∙ sym (resolve-kept i.root x (set_at 0 c) i.binds p)
      ∙ resolve_alike ρ left new store_like x (set_at 0 c) (set_at 0 d) (set_at_alike ρ 0 c d k) ∙ ap (resolve x (set_at 0 d)) (sym h.binds_r)

  root-parses : StepAlike (parsings i.binds new) (TreeAlike ρ) (parse_root i.root) (parse_root (renumber_stx (rank u) i.root))
  unfolding parse_root
  root-parses =
      then_same _ _ (charges_alike (size i.root) (size (renumber_stx (rank u) i.root)) (size_alike ρ (like_root i fit))) (λ v.
      parse_alike (parsings i.binds new) ρ (Needed 0 i.root) 0 agree most_entries i.root (renumber_stx (rank u) i.root) (like_root i fit)
      (all_needed 0 i.root))

  runs : (s t : State) → ParseStates i.binds new s t
      → OutAlike (parsings i.binds new) (TreeAlike ρ) (parse_root i.root s) (parse_root (shrunk i).root t)
  unfolding shrunk
  runs s t h = root-parses.run s t h

  -- ---- what each parsing gave

  heads : (a b : Tree) → b ≡ renumber_tree (rank u) a
      → tree_image_bytes (shrunk i).head b ≡ tree_image_bytes (with_scopes (length (members u)) i.head) (renumber_tree (rank u) a)
  unfolding shrunk
  heads a b e = ap (tree_image_bytes (with_scopes (length (members u)) i.head)) e

  fits-there : (b : Tree) → TreeFits (symbols (shrunk i).head) (shrunk i).head.names (shrunk i).head.scopes b
      → TreeFits (symbols i.head) i.head.names (length (members u)) b
  unfolding shrunk with_scopes symbols
  fits-there b f = f

  -- two trees alike, each within its limits
  tree_alike : (a b : Tree) → TreeAlike ρ a b → TreeImageFits i.head a
      → TreeFits (symbols (shrunk i).head) (shrunk i).head.names (shrunk i).head.scopes b
      → tree_image_bytes (shrunk i).head b ≡ smaller_tree u (tree_image_bytes i.head a)
  tree_alike a b like f g =
      heads a b
      (tree_is u (small_u i fit) i.head.scopes (few-scopes i fit) (symbols i.head) i.head.names a b like f.root-fits (fits-there b g))
      ∙ sym (smaller-is u i.head a f)

  module _ (short : length (bytes_of (shrunk i)) ≤ most_image) (budget room rest : ℕ) where
    abbrev Written : Image Stx → ℕ → Tree → State → Ending
    Written j space t s = fitted space (tree_image_bytes (reached j.head s) t) (budget - s.left)

    starts : ParseStates i.binds new (start budget i) (start budget (shrunk i))
    unfolding start shrunk
    starts = record { left_is = refl; binds_l = refl; binds_r = refl }

    tree-written : (a b : Tree) (s t : State) → parse_root i.root (start budget i) ≡ ok a s
        → parse_root (shrunk i).root (start budget (shrunk i)) ≡ ok b t
        → TreeAlike ρ a b → length (tree_image_bytes (reached i.head s) a) ≤ most_image
        → tree_image_bytes (reached (shrunk i).head t) b ≡ smaller_tree u (tree_image_bytes (reached i.head s) a)
    tree-written a b s t d e like h =
        let x = outcome_ok (subst (Outcome Tree _) d (parse-root budget i fit)) in
        let y = outcome_ok (subst (Outcome Tree _) e (parse-root budget (shrunk i) (shrunk-fits i fit short))) in
        let hs : reached i.head s ≡ i.head = reached-same budget i s x.2 in
        let ht : reached (shrunk i).head t ≡ (shrunk i).head = reached-same budget (shrunk i) t y.2 in
        let f : TreeImageFits i.head a = record {
          head-fits = fit.head-fits;
          root-fits = x.0;
          shallow = le_trans x.1 fit.shallow;
          short = subst (λ (z : Head). length (tree_image_bytes z a) ≤ most_image) hs h;
        } in
        ap (λ (z : Head). tree_image_bytes z b) ht ∙ tree_alike a b like f y.0 ∙ sym (ap (λ (z : Head). smaller_tree u (tree_image_bytes z a)) hs)

    outs_alike : (o p : Out Tree) → parse_root i.root (start budget i) ≡ o → parse_root (shrunk i).root (start budget (shrunk i)) ≡ p
        → OutAlike (parsings i.binds new) (TreeAlike ρ) o p
        → AlikeIfShort (smaller_tree u) (worked budget o (Written i room)) (worked budget p (Written (shrunk i) rest))
    unfolding worked
    outs_alike o p d e nos v w = both-refused
    outs_alike o p d e (oks {a} {b} {s} {t} like state) v w =
        subst (λ (x : ℕ). AlikeIfShort (smaller_tree u) (Written i room a s) (fitted rest (tree_image_bytes (reached (shrunk i).head t) b) x))
        (ap (λ (x : ℕ). budget - x) state.left_is)
        (fitted_alike (smaller_tree u) room rest (budget - s.left) _ _ (λ h k. tree-written a b s t d e like h)) v w

    work_alike : AlikeIfShort (smaller_tree u) (parse_work budget room i) (parse_work budget rest (shrunk i))
    work_alike =
        outs_alike (parse_root i.root (start budget i)) (parse_root (shrunk i).root (start budget (shrunk i))) refl refl
        (runs (start budget i) (start budget (shrunk i)) starts)

-- Parsing the smaller image, with the same budget and table: where neither job answers 20, code, units and table agree, and the second tree is the
-- first with the scopes of its syntax values renumbered alike and their count adjusted.
pub smaller_parses_alike : (image rest : List ℕ) (i : Image Stx) → Bytes image → read_image read_syntax image ≡ got i rest
    → length (smaller image) ≤ most_image
    → (budget : ℕ) (table one two : List ℕ)
    → ((parse_job image budget table one).answer.code ≡ 20 → ⊥) → ((parse_job (smaller image) budget table two).answer.code ≡ 20 → ⊥)
    → SameBut (smaller_tree (remaining i.binds i.root)) (parse_job image budget table one) (parse_job (smaller image) budget table two)
unfolding parse_job
smaller_parses_alike image rest i bytes read short budget table one two =
    lent_alike h budget table one two (parse_ending image budget (length one)) (parse_ending (smaller image) budget (length two)) endings
  where
    h : List ℕ → List ℕ
    h = smaller_tree (remaining i.binds i.root)

    fit : SyntaxFits i.head i.binds i.root
    fit = syntax_read_keeps_limits image rest i bytes read

    few : length (bytes_of (shrunk i)) ≤ most_image
    few = subst (λ (x : List ℕ). length x ≤ most_image) (shrunk-bytes image rest i read) short

    first : parse_ending image budget (length one) ≡ parse_work budget (length one) i
    first = parse_ending-is image budget (length one) ∙ with_read (read_image read_syntax image) (parse_work budget (length one)) i rest read

    second : parse_ending (smaller image) budget (length two) ≡ parse_work budget (length two) (shrunk i)
    second =
        parse_ending-is (smaller image) budget (length two)
        ∙ with_read (read_image read_syntax (smaller image)) (parse_work budget (length two)) (shrunk i) [] (smaller-reads image rest i bytes read short)

    endings : AlikeIfShort h (parse_ending image budget (length one)) (parse_ending (smaller image) budget (length two))
    endings = subst (AlikeIfShort h (parse_ending image budget (length one))) (sym second)
        (subst (λ (e : Ending). AlikeIfShort h e (parse_work budget (length two) (shrunk i))) (sym first)
        (work_alike i fit few budget (length one) (length two)))
