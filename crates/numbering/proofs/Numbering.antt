-- Request T-12: numbering does not matter, from image bytes to image bytes.
use mathlib.Core.Path.{◌≡◌, refl, sym, ap, ap₂, ◌∙◌, subst}
use Prim.Native.Nat.{ℕ, ◌-◌, ◌≤◌}
use native.Mathlib.Nat.{le_refl}
use mathlib.Core.List.{List, []}
use lib.ListN.{length}
use Rattle.model.specs.Limits.{most_scopes, most_bindings, most_nesting, most_entries, most_image}
use Rattle.model.specs.Objects.{Stx, size}
use Rattle.model.specs.Resolving.{Bind}
use Rattle.model.specs.Reading.{got, Head, symbols, Image, read_syntax, read_image}
use Rattle.model.specs.Writing.{syntax_bytes}
use Rattle.model.specs.Meanings.{of_root}
use Rattle.model.specs.Steps.{State, Out}
use Rattle.model.specs.Jobs.{Ending, at_phase, start, worked, fitted, reached, expand_root, expand_ending, expand_job}
use Rattle.codec_laws.specs.WellFormed.{Bytes, HeadFits, SyntaxFits}
use Rattle.codec_laws.proofs.ImageLaws.{syntax_read_keeps_limits, syntax_written_then_read}
use Rattle.addresses.proofs.Endings.{expand_work, expand_ending-is, with_read}
use Rattle.addresses.proofs.ExpandJob.{expand_keeps_limits}
use Rattle.alike.specs.Renumbering.{renumber_stx}
use Rattle.alike.proofs.Alike.{NewNumbers, StxAlike}
use Rattle.alike.proofs.SetLaws.{none_alike}
use Rattle.alike.proofs.Stores.{StoreAlike}
use Rattle.alike.proofs.Things.{size_alike, nesting_alike}
use Rattle.alike.proofs.Runs.{OutAlike, oks, nos, StepAlike, then_same, charges_alike}
use Rattle.alike.proofs.RenumberedSets.{most}
use Rattle.alike.proofs.Answers.{AlikeIfShort, both-refused, fitted_alike, phase_alike, lent_alike}
use Rattle.numbering.specs.Renumbered.{NumberingRule, extended, renumber_binds, renumber_image, written_again, renumbered, renumbered_by, NumberingDoesNotMatter}
use Rattle.numbering.proofs.Meanings.{core-only, heres}
use Rattle.numbering.proofs.States.{Renumbering, pairing, left-same, StateAlike, states}
use Rattle.numbering.proofs.ExpandAlike.{expand_alike}
use Rattle.numbering.proofs.Renumbers.{renumber_stx_alike, renumber_stx-one, renumber_stx-fits, renumbered-length, renumbered-fit, renumbered_sorted, renumbered_alike, renumbered-one}
use Rattle.numbering.proofs.Rules.{extended-zero, extended_up, rule_map, ruled}

-- ---- the work of the job

root_expands : (q : Renumbering) (ph : ℕ) (x y : Stx) → StxAlike q.map x y
    → StepAlike (pairing q) (StxAlike q.map) (expand_root ph x) (expand_root ph y)
unfolding expand_root
root_expands q ph x y h =
    then_same _ _ (charges_alike (size x) (size y) (size_alike q.map h)) (λ u.
    expand_alike q most_entries (of_root ph) (of_root ph) (heres core-only) x y h)

renumbered-is : (g : ℕ → ℕ) (image rest : List ℕ) (i : Image Stx) → read_image read_syntax image ≡ got i rest
    → renumbered g image ≡ syntax_bytes i.head (renumber_binds g i.binds) (renumber_stx g i.root)
unfolding renumbered written_again renumber_image
renumbered-is g image rest i e = rw e

scopes-few : (h : Head) → HeadFits h → h.scopes ≤ most
unfolding most_scopes
scopes-few h f = f.scopes-to

module _ (i : Image Stx) (fit : SyntaxFits i.head i.binds i.root) (f : ℕ → ℕ) (r : NumberingRule i.head.scopes f) where
  abbrev n : ℕ
  n = i.head.scopes

  abbrev g : ℕ → ℕ
  g = extended n f

  abbrev ρ : NewNumbers
  ρ = rule_map n f r

  abbrev q : Renumbering
  q = ruled n f r

  abbrev other : Image Stx
  other = record { head = i.head; binds = renumber_binds g i.binds; root = renumber_stx g i.root }

  abbrev other_bytes : List ℕ
  other_bytes = syntax_bytes i.head (renumber_binds g i.binds) (renumber_stx g i.root)

  zero_is : g 0 ≡ 0
  zero_is = extended-zero n f

  few-scopes : n ≤ most
  few-scopes = scopes-few i.head fit.head-fits

  up : (k : ℕ) → 1 ≤ k → k ≤ n → g k ≤ n
  up = extended_up n f r n (le_refl n)

  root_like : StxAlike ρ i.root (renumber_stx g i.root)
  root_like = renumber_stx_alike ρ zero_is n few-scopes (symbols i.head) i.root fit.root-fits

  -- the renumbered image keeps every limit
  other_fits : length other_bytes ≤ most_image → SyntaxFits i.head (renumber_binds g i.binds) (renumber_stx g i.root)
  other_fits short = record {
    head-fits = fit.head-fits;
    binds-fit = renumbered-fit ρ zero_is n few-scopes up (symbols i.head) i.head.names i.binds fit.binds-fit;
    ascending = renumbered_sorted ρ zero_is n few-scopes up (symbols i.head) i.head.names i.binds fit.binds-fit fit.ascending;
    few = subst (λ (x : ℕ). x ≤ most_bindings) (sym (renumbered-length ρ zero_is n few-scopes up i.binds)) fit.few;
    root-fits = renumber_stx-fits ρ zero_is n few-scopes up (symbols i.head) i.root fit.root-fits;
    shallow = subst (λ (x : ℕ). x ≤ most_nesting) (nesting_alike ρ root_like) fit.shallow;
    short = short;
  }

  start_alike : (budget : ℕ) → StateAlike ρ n (start budget i) (start budget other)
  unfolding start
  start_alike budget =
      states (le_refl n)
      (renumbered_alike ρ zero_is n few-scopes up (symbols i.head) i.head.names i.binds fit.binds-fit fit.ascending) (none_alike ρ) (none_alike ρ)

  -- ---- what is written

  -- two results alike, each within its limits: the second is the first renumbered
  written_alike : (h : Head) (a b : Stx) (l m : List Bind) → n ≤ h.scopes → StoreAlike ρ l m → StxAlike ρ a b → SyntaxFits h l a → SyntaxFits h m b
      → syntax_bytes h m b ≡ renumbered g (syntax_bytes h l a)
  written_alike h a b l m more store like one two =
      ap₂ (λ (x : List Bind) (y : Stx). syntax_bytes h x y)
      (renumbered-one ρ zero_is h.scopes few (extended_up n f r h.scopes more) (symbols h) h.names l m one.binds-fit one.ascending
      two.ascending store)
      (renumber_stx-one ρ zero_is h.scopes few (symbols h) a b like one.root-fits)
      ∙ sym (renumbered-is g (syntax_bytes h l a) [] (record { head = h; binds = l; root = a }) (syntax_written_then_read h l a one))
    where
      few : h.scopes ≤ most
      few = scopes-few h one.head-fits

  state-written : (a b : Stx) → StxAlike ρ a b → (s t : State) → StateAlike ρ n s t → SyntaxFits (reached i.head s) s.binds a
      → SyntaxFits (reached i.head t) t.binds b
      → syntax_bytes (reached i.head t) t.binds b ≡ renumbered g (syntax_bytes (reached i.head s) s.binds a)
  unfolding reached
  state-written a b like s t (states {names} {reached = k} {l} {r = m} base store pruned used) one two =
      written_alike (record { words = i.head.words; names = names; scopes = k }) a b l m base store like one two

  -- ---- how the two jobs end

  module _ (short : length other_bytes ≤ most_image) (ph budget room rest : ℕ) where
    abbrev Written : ℕ → Stx → State → Ending
    Written space a s = fitted space (syntax_bytes (reached i.head s) s.binds a) (budget - s.left)

    outs_alike : (o p : Out Stx) → expand_root ph i.root (start budget i) ≡ o → expand_root ph (renumber_stx g i.root) (start budget other) ≡ p
        → OutAlike (pairing q) (StxAlike ρ) o p → AlikeIfShort (renumbered g) (worked budget o (Written room)) (worked budget p (Written rest))
    unfolding worked pairing
    outs_alike o p d e nos v w = both-refused
    outs_alike o p d e (oks {a} {b} {s} {t} like state) v w =
        subst (λ (x : ℕ). AlikeIfShort (renumbered g) (Written room a s) (fitted rest (syntax_bytes (reached i.head t) t.binds b) x))
        (ap (λ (x : ℕ). budget - x) (left-same ρ n s t state))
        (fitted_alike (renumbered g) room rest (budget - s.left) _ _ (λ h k.
        state-written a b like s t state (expand_keeps_limits ph budget i a s fit d h)
        (expand_keeps_limits ph budget other b t (other_fits short) e k)))
        v w

    work_alike : AlikeIfShort (renumbered g) (expand_work ph budget room i) (expand_work ph budget rest other)
    unfolding pairing
    work_alike =
        outs_alike (expand_root ph i.root (start budget i)) (expand_root ph (renumber_stx g i.root) (start budget other)) refl refl
        ((root_expands q ph i.root (renumber_stx g i.root) root_like).run (start budget i) (start budget other) (start_alike budget))

-- ---- from bytes to bytes

-- the renumbered image, written in order, is well-formed, and is read as the image renumbered
pub renumbered-reads : (image rest : List ℕ) (i : Image Stx) → Bytes image → read_image read_syntax image ≡ got i rest
    → (f : ℕ → ℕ) → NumberingRule i.head.scopes f → length (renumbered_by f i image) ≤ most_image
    → read_image read_syntax (renumbered_by f i image) ≡ got (renumber_image (extended i.head.scopes f) i) []
unfolding renumber_image
renumbered-reads image rest i bytes read f r short =
    ap (read_image read_syntax) is
    ∙ syntax_written_then_read i.head (renumber_binds g i.binds) (renumber_stx g i.root)
    (other_fits i (syntax_read_keeps_limits image rest i bytes read) f r (subst (λ (x : List ℕ). length x ≤ most_image) is short))
  where
    g : ℕ → ℕ
    g = extended i.head.scopes f

    is : renumbered g image ≡ syntax_bytes i.head (renumber_binds g i.binds) (renumber_stx g i.root)
    is = renumbered-is g image rest i read

pub numbering_does_not_matter : NumberingDoesNotMatter
unfolding expand_job renumber_image
numbering_does_not_matter image rest i bytes read f r short ph budget table one two =
    lent_alike (renumbered g) budget table one two (expand_ending image ph budget (length one))
    (expand_ending (renumbered g image) ph budget (length two))
    endings
  where
    g : ℕ → ℕ
    g = extended i.head.scopes f

    fit : SyntaxFits i.head i.binds i.root
    fit = syntax_read_keeps_limits image rest i bytes read

    other : Image Stx
    other = record { head = i.head; binds = renumber_binds g i.binds; root = renumber_stx g i.root }

    few : length (syntax_bytes i.head (renumber_binds g i.binds) (renumber_stx g i.root)) ≤ most_image
    few = subst (λ (x : List ℕ). length x ≤ most_image) (renumbered-is g image rest i read) short

    ending-is : (bytes after : List ℕ) (j : Image Stx) (room : ℕ) → read_image read_syntax bytes ≡ got j after
        → expand_ending bytes ph budget room ≡ at_phase ph (expand_work ph budget room j)
    ending-is bytes after j room e =
        expand_ending-is bytes ph budget room ∙ ap (at_phase ph) (with_read (read_image read_syntax bytes) (expand_work ph budget room) j after e)

    endings : AlikeIfShort (renumbered g) (expand_ending image ph budget (length one)) (expand_ending (renumbered g image) ph budget (length two))
    endings =
        subst (λ (e : Ending). AlikeIfShort (renumbered g) e (expand_ending (renumbered g image) ph budget (length two)))
        (sym (ending-is image rest i (length one) read))
        (subst (AlikeIfShort (renumbered g) (at_phase ph (expand_work ph budget (length one) i)))
        (sym (ending-is (renumbered g image) [] other (length two) (renumbered-reads image rest i bytes read f r short)))
        (phase_alike (renumbered g) ph (expand_work ph budget (length one) i) (expand_work ph budget (length two) other)
        (work_alike i fit f r few ph budget (length one) (length two))))
