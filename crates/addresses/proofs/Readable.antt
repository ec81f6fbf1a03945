-- Every image that a job writes keeps the limits of an image, so that the next job can read it.
use mathlib.Core.Path.{◌≡◌, refl, sym, ap, ◌∙◌, subst}
use Prim.Native.Nat.{ℕ, ◌-◌, ◌≤◌}
use native.Mathlib.Nat.{le_trans, le_of_eq}
use mathlib.Core.Bool.{Bool, true, false}
use mathlib.Core.List.{List, []}
use lib.ListN.{length}
use Rattle.model.specs.Choice.{when◌then◌else◌}
use Rattle.model.specs.Limits.{most_entries, most_image}
use Rattle.model.specs.Refusals.{Refusal, unowned}
use Rattle.model.specs.Objects.{Stx, size}
use Rattle.model.specs.Trees.{Tree, load_size}
use Rattle.model.specs.Competing.{Rivals, no_rivals}
use Rattle.model.specs.Reading.{got, Head, symbols, Image, read_syntax, read_tree_image, read_image}
use Rattle.model.specs.Writing.{syntax_bytes, tree_image_bytes}
use Rattle.model.specs.Meanings.{nowhere}
use Rattle.model.specs.Steps.{State, Out}
use Rattle.model.specs.Parsing.{parse}
use Rattle.model.specs.Expanding.{evaluate}
use Rattle.model.specs.Jobs.{refused, Result, with_image, start, worked, fitted, reached, expand_root, parse_root, evaluate_root, closed, expand_ending, parse_ending, evaluate_ending, expand_job, parse_job, evaluate_job}
use Rattle.codec_laws.specs.WellFormed.{Bytes, SyntaxFits, TreeFits, TreeImageFits}
use Rattle.codec_laws.proofs.ImageLaws.{syntax_read_keeps_limits, syntax_written_then_read, tree_read_keeps_limits, tree_written_then_read}
use Rattle.addresses.specs.OneNameOneAddress.{image_written}
use Rattle.addresses.proofs.Outcomes.{Outcome, gives, stops, chain, Kept, kept_trans, charge-out}
use Rattle.addresses.proofs.Fitting.{tree-more}
use Rattle.addresses.proofs.States.{kept-grows}
use Rattle.addresses.proofs.Meanings.{value_grows}
use Rattle.addresses.proofs.Evaluation.{Gave, kept_since}
use Rattle.addresses.proofs.Expansion.{both-good}
use Rattle.addresses.proofs.Endings.{expand_work, parse_work, evaluate_work, parse_root-is, evaluate_root-is, expand_ending-is, parse_ending-is, evaluate_ending-is, expand_job-is, parse_job-is, evaluate_job-is, fitted_case, worked_case, image_case, phase_case, Wrote, nothing_wrote, job_wrote}
use Rattle.addresses.proofs.ParseLimits.{Parsed, parse_keeps_limits}
use Rattle.addresses.proofs.ExpandJob.{outcome_ok, expand_keeps_limits}

-- an image of kind 1, or of kind 2, that can be read
abbrev pub IsSyntax : List ℕ → Type 0
IsSyntax b = (i : Image Stx) × (read_image read_syntax b ≡ got i [])

abbrev pub IsTree : List ℕ → Type 0
IsTree b = (i : Image Tree) × (read_image read_tree_image b ≡ got i [])

-- ---- expand

expand_wrote : (image : List ℕ) → Bytes image → (ph budget room : ℕ) → Wrote IsSyntax (expand_ending image ph budget room)
expand_wrote image b ph budget room =
    subst (Wrote IsSyntax) (sym (expand_ending-is image ph budget room))
    (phase_case (Wrote IsSyntax) no ph (with_image (read_image read_syntax image) (expand_work ph budget room))
    (image_case (Wrote IsSyntax) no (read_image read_syntax image) (expand_work ph budget room) (λ i rest e.
    worked_case (Wrote IsSyntax) no budget (expand_root ph i.root (start budget i)) _ (λ r s q.
    fitted_case (Wrote IsSyntax) no room (syntax_bytes (reached i.head s) s.binds r) (budget - s.left) (λ n. (
      record { head = reached i.head s; binds = s.binds; root = r },
      syntax_written_then_read (reached i.head s) s.binds r
          (expand_keeps_limits ph budget i r s (syntax_read_keeps_limits image rest i b e) q n),
    ))))))
  where
    no : (r : Refusal) (p : Rivals) (u : ℕ) → Wrote IsSyntax (refused r p u)
    no = nothing_wrote IsSyntax

pub what_expand_writes_can_be_read : (image : List ℕ) → Bytes image → (ph budget : ℕ) (table output : List ℕ)
    → (expand_job image ph budget table output).answer.code ≡ 0 → IsSyntax (image_written (expand_job image ph budget table output))
what_expand_writes_can_be_read image b ph budget table output q =
    let job = expand_job-is image ph budget table output in
    subst (λ (z : Result). IsSyntax (image_written z)) (sym job)
    (job_wrote IsSyntax budget table output (expand_ending image ph budget (length output)) (expand_wrote image b ph budget (length output))
    (ap (λ (z : Result). z.answer.code) (sym job) ∙ q))

-- ---- parse and evaluate, which leave the counts as they are

pub reached-same : {R : Type 0} (budget : ℕ) (i : Image R) (s : State) → Kept (start budget i) s → reached i.head s ≡ i.head
unfolding reached start
reached-same budget i s k =
    ap (λ (n : ℕ). record { words = i.head.words; names = n; scopes = s.scopes }) (sym k.names-is)
    ∙ ap (λ (n : ℕ). record { words = i.head.words; names = i.head.names; scopes = n }) (sym k.scopes-is)

-- a tree that keeps the limits of the image that it came from
tree_wrote : {R : Type 0} (budget room : ℕ) (i : Image R) (t : Tree) (s : State) → Kept (start budget i) s
    → (length (tree_image_bytes i.head t) ≤ most_image → TreeImageFits i.head t)
    → Wrote IsTree (fitted room (tree_image_bytes (reached i.head s) t) (budget - s.left))
tree_wrote budget room i t s k f =
    fitted_case (Wrote IsTree) (nothing_wrote IsTree) room (tree_image_bytes (reached i.head s) t) (budget - s.left) (λ n. (
      record { head = reached i.head s; binds = []; root = t },
      tree_written_then_read (reached i.head s) t
          (subst (λ (h : Head). TreeImageFits h t) (sym same) (f (subst (λ (h : Head). length (tree_image_bytes h t) ≤ most_image) same n))),
    ))
  where
    same : reached i.head s ≡ i.head
    same = reached-same budget i s k

pub parse-root : (budget : ℕ) (i : Image Stx) (f : SyntaxFits i.head i.binds i.root)
    → Outcome Tree (Parsed (symbols i.head) i.head.names i.head.scopes i.binds f.binds-fit f.head-fits.names-from f.ascending i.root (start budget i)) (parse_root i.root (start budget i))
unfolding start
parse-root budget i f =
    subst (Outcome Tree (P (start budget i))) (sym (parse_root-is i.root (start budget i)))
    (chain (λ v. parse most_entries 0 i.root) (charge-out (size i.root) (start budget i)) (λ v t kp.
    later t kp (parse_keeps_limits (symbols i.head) i.head.names i.head.scopes i.binds f.binds-fit f.head-fits.names-from f.ascending
    most_entries 0 i.root f.root-fits t (sym kp.binds-is))))
  where
    P : State → Tree → State → Type 0
    P = Parsed (symbols i.head) i.head.names i.head.scopes i.binds f.binds-fit f.head-fits.names-from f.ascending i.root

    later : (t : State) → Kept (start budget i) t → {o : Out Tree} → Outcome Tree (P t) o → Outcome Tree (P (start budget i)) o
    later t kp (gives w u p) = gives w u (p.0, p.1, kept_trans kp p.2)
    later t kp (stops r q u p) = stops r q u p

parse_wrote : (image : List ℕ) → Bytes image → (budget room : ℕ) → Wrote IsTree (parse_ending image budget room)
parse_wrote image b budget room =
    subst (Wrote IsTree) (sym (parse_ending-is image budget room))
    (image_case (Wrote IsTree) (nothing_wrote IsTree) (read_image read_syntax image) (parse_work budget room) (λ i rest e.
    worked_case (Wrote IsTree) (nothing_wrote IsTree) budget (parse_root i.root (start budget i)) _ (λ t s q.
    let f : SyntaxFits i.head i.binds i.root = syntax_read_keeps_limits image rest i b e in
    let x = outcome_ok (subst (Outcome Tree _) q (parse-root budget i f)) in
    tree_wrote budget room i t s x.2 (λ n.
    record { head-fits = f.head-fits; root-fits = x.0; shallow = le_trans x.1 f.shallow; short = n }))))

pub what_parse_writes_can_be_read : (image : List ℕ) → Bytes image → (budget : ℕ) (table output : List ℕ)
    → (parse_job image budget table output).answer.code ≡ 0 → IsTree (image_written (parse_job image budget table output))
what_parse_writes_can_be_read image b budget table output q =
    let job = parse_job-is image budget table output in
    subst (λ (z : Result). IsTree (image_written z)) (sym job)
    (job_wrote IsTree budget table output (parse_ending image budget (length output)) (parse_wrote image b budget (length output))
    (ap (λ (z : Result). z.answer.code) (sym job) ∙ q))

pub evaluate-root : (budget : ℕ) (i : Image Tree) → TreeImageFits i.head i.root → closed [] i.root ≡ true
    → Outcome Tree (Gave (symbols i.head) nowhere (start budget i)) (evaluate_root i.root (start budget i))
unfolding start
evaluate-root budget i f c =
    subst (Outcome Tree (Gave k nowhere s)) (sym (evaluate_root-is i.root s))
    (chain (λ v. evaluate most_entries nowhere i.root) (charge-out (load_size i.root) s) (λ v t kp.
    kept_since k nowhere s t kp ((both-good k most_entries).evaluates nowhere i.root t tt
    (value_grows k s t (kept-grows k s t kp) i.root (record { fits = f.root-fits; owned = c; shallow = f.shallow })))))
  where
    k : ℕ
    k = symbols i.head

    s : State
    s = start budget i

-- a tree within the counts that are kept
within-counts : (k budget : ℕ) (i : Image Tree) (t : Tree) (s : State) → Kept (start budget i) s → TreeFits k s.names s.scopes t → TreeFits k i.head.names i.head.scopes t
unfolding start
within-counts k budget i t s kp f = tree-more k (le_of_eq (sym kp.names-is)) (le_of_eq (sym kp.scopes-is)) t f

evaluate_wrote : (image : List ℕ) → Bytes image → (budget room : ℕ) → Wrote IsTree (evaluate_ending image budget room)
evaluate_wrote image b budget room =
    subst (Wrote IsTree) (sym (evaluate_ending-is image budget room))
    (image_case (Wrote IsTree) (nothing_wrote IsTree) (read_image read_tree_image image) (evaluate_work budget room) (λ i rest e.
    tested i (tree_read_keeps_limits image rest i b e) (closed [] i.root) refl))
  where
    tested : (i : Image Tree) → TreeImageFits i.head i.root → (t : Bool) → closed [] i.root ≡ t
        → Wrote IsTree (when t then worked budget (evaluate_root i.root (start budget i)) (λ r s. fitted room (tree_image_bytes (reached i.head s) r) (budget - s.left)) else refused unowned no_rivals 0)
    tested i f true c =
        worked_case (Wrote IsTree) (nothing_wrote IsTree) budget (evaluate_root i.root (start budget i)) _ (λ r s q.
        let x = outcome_ok (subst (Outcome Tree _) q (evaluate-root budget i f c)) in
        tree_wrote budget room i r s x.1 (λ n. record { head-fits = f.head-fits; root-fits = within-counts (symbols i.head) budget i r s x.1 x.0.0.fits; shallow = x.0.0.shallow; short = n }))
    tested i f false c = tt

pub what_evaluate_writes_can_be_read : (image : List ℕ) → Bytes image → (budget : ℕ) (table output : List ℕ)
    → (evaluate_job image budget table output).answer.code ≡ 0 → IsTree (image_written (evaluate_job image budget table output))
what_evaluate_writes_can_be_read image b budget table output q =
    let job = evaluate_job-is image budget table output in
    subst (λ (z : Result). IsTree (image_written z)) (sym job)
    (job_wrote IsTree budget table output (evaluate_ending image budget (length output)) (evaluate_wrote image b budget (length output))
    (ap (λ (z : Result). z.answer.code) (sym job) ∙ q))
