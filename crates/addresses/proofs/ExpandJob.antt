-- The expand job: its result keeps every limit of an image; evaluating inside it never meets a free variable, so it never answers 3; and
-- it never answers 16.
use mathlib.Core.Path.{◌≡◌, refl, sym, ap, ◌∙◌, subst}
use Prim.Native.Nat.{ℕ, ◌+◌, ◌-◌, ◌≤◌}
use native.Mathlib.Nat.{le_refl}
use native.Mathlib.Omega.{arith}
use mathlib.Core.Bool.{Bool, true, false, ◌&&◌}
use mathlib.Core.List.{List}
use lib.Dec.{leb}
use lib.ListN.{length}
use Rattle.model.specs.Choice.{when◌then◌else◌}
use Rattle.model.specs.Limits.{core_names, most_entries, most_image, last_phase}
use Rattle.model.specs.Refusals.{Refusal, layout, over_limit, unowned, wrong_kind, small_table, ambiguous, no_meaning, no_rule, no_syntax, not_applicable, wrong_argument, no_phase, no_name_left, no_scope_left, no_binding_left, too_deep, too_many_entries, over_budget, too_long, outside_use, code_of}
use Rattle.model.specs.Objects.{Stx, size}
use Rattle.model.specs.Competing.{Rivals, no_rivals}
use Rattle.model.specs.Reading.{Read, got, symbols, Image, read_syntax, read_image}
use Rattle.model.specs.Writing.{syntax_bytes}
use Rattle.model.specs.Meanings.{core_only, of_root}
use Rattle.model.specs.Steps.{State, Out, ok}
use Rattle.model.specs.Expanding.{expand}
use Rattle.model.specs.Jobs.{Ending, refused, named, written, answer_of, Result, lent, at_phase, with_image, start, worked, fitted, reached, expand_root, expand_ending, expand_job}
use Rattle.codec_laws.specs.WellFormed.{Bytes, SyntaxFits}
use Rattle.codec_laws.proofs.ImageLaws.{syntax_read_keeps_limits}
use Rattle.addresses.proofs.Outcomes.{Possible, Outcome, gives, stops, chain, weaken, Kept, charge-out}
use Rattle.addresses.proofs.States.{StateFits, kept-grows}
use Rattle.addresses.proofs.Pieces.{Piece, piece-grows}
use Rattle.addresses.proofs.Results.{Expanded, expanded_after}
use Rattle.addresses.proofs.Expansion.{both-good}
use Rattle.addresses.proofs.Faults.{possible, Reads, reads, faults, image-reads}
use Rattle.addresses.proofs.Endings.{lent_cases, expand_root-is, expand_work, expand_ending-is, expand_job-is}

-- ---- the work of the expand job on an image that was read

pub start_fits : (budget : ℕ) (i : Image Stx) → SyntaxFits i.head i.binds i.root → StateFits (symbols i.head) (start budget i)
unfolding start symbols core_names
start_fits budget i f = record {
  core-first = core (length i.head.words);
  names-from = f.head-fits.names-from;
  names-to = f.head-fits.names-to;
  scopes-to = f.head-fits.scopes-to;
  binds-fit = f.binds-fit;
  ascending = f.ascending;
  few = f.few;
}
  where
    core : (n : ℕ) → 4 ≤ 4 + n
    core n = omega arith

root-piece : (budget : ℕ) (i : Image Stx) → SyntaxFits i.head i.binds i.root → Piece (symbols i.head) (start budget i) i.root
unfolding start
root-piece budget i f = record { fits = f.root-fits; shallow = f.shallow }

-- the claim for the whole work of the job, at any phase
pub expand_root_good : (ph budget : ℕ) (i : Image Stx) → SyntaxFits i.head i.binds i.root
    → Outcome Stx (Expanded (symbols i.head) most_entries ph core_only (start budget i)) (expand_root ph i.root (start budget i))
expand_root_good ph budget i f =
    subst (Outcome Stx (Expanded k most_entries ph core_only s)) (sym (expand_root-is ph i.root s))
    (chain (λ v. expand most_entries (of_root ph) i.root) (charge-out (size i.root) s) (λ v t kp.
    weaken ((both-good k most_entries).expands (of_root ph) i.root t ((kept-grows k s t kp).keeps g) tt (moved t kp)) (λ r s' x.
    expanded_after k most_entries most_entries ph core_only s t s' r (le_refl most_entries) (kept-grows k s t kp) (x.finished refl))))
  where
    k : ℕ
    k = symbols i.head

    s : State
    s = start budget i

    g : StateFits k s
    g = start_fits budget i f

    moved : (t : State) → Kept s t → Piece k t i.root
    moved t kp = piece-grows k s t i.root (kept-grows k s t kp) (root-piece budget i f)

pub outcome_ok : {A : Type 0} {P : A → State → Type 0} {a : A} {t : State} → Outcome A P (ok a t) → P a t
outcome_ok (gives a t p) = p

-- the expander's result keeps every limit of an image
pub limits_kept : (ph budget : ℕ) (i : Image Stx) (r : Stx) (s : State) → SyntaxFits i.head i.binds i.root
    → Expanded (symbols i.head) most_entries ph core_only (start budget i) r s
    → length (syntax_bytes (reached i.head s) s.binds r) ≤ most_image → SyntaxFits (reached i.head s) s.binds r
unfolding reached symbols
limits_kept ph budget i r s f x n =
    let g : StateFits (symbols i.head) s = x.grows.keeps (start_fits budget i f) in
    record {
      head-fits = record { words-fit = f.head-fits.words-fit; names-from = g.names-from; names-to = g.names-to; scopes-to = g.scopes-to };
      binds-fit = g.binds-fit;
      ascending = g.ascending;
      few = g.few;
      root-fits = x.fits;
      shallow = x.shallow;
      short = n;
    }

pub expand_keeps_limits : (ph budget : ℕ) (i : Image Stx) (r : Stx) (s : State) → SyntaxFits i.head i.binds i.root
    → expand_root ph i.root (start budget i) ≡ ok r s → length (syntax_bytes (reached i.head s) s.binds r) ≤ most_image
    → SyntaxFits (reached i.head s) s.binds r
expand_keeps_limits ph budget i r s f e n =
    limits_kept ph budget i r s f (outcome_ok (subst (Outcome Stx _) e (expand_root_good ph budget i f))) n

-- ---- no job of expansion ends with 3

abbrev pub Fine : Ending → Type 0
Fine (refused r p u) = Possible r p
Fine (named n u) = Unit {0}
Fine (written b u) = Unit {0}

pub worked_fine : {A : Type 0} {P : A → State → Type 0} (budget : ℕ) (f : A → State → Ending) → ((a : A) (s : State) → Fine (f a s)) → {o : Out A} → Outcome A P o
    → Fine (worked budget o f)
unfolding worked
worked_fine budget f h (gives a s p) = h a s
worked_fine budget f h (stops r q u p) = p

pub fitted_fine : (room : ℕ) (b : List ℕ) (u : ℕ) → Fine (fitted room b u)
unfolding fitted
fitted_fine room b u = go (leb (length b) room && leb (length b) most_image)
  where
    go : (t : Bool) → Fine (when t then written b u else refused too_long no_rivals u)
    go true = tt
    go false = refl

phase_fine : (ph : ℕ) (e : Ending) → Fine e → Fine (at_phase ph e)
unfolding at_phase
phase_fine ph e h = go (leb ph last_phase)
  where
    go : (t : Bool) → Fine (when t then e else refused no_phase no_rivals 0)
    go true = h
    go false = refl

-- where each image that is read ends well
image_fine : (o : Read (Image Stx)) → Reads (Image Stx) o → (f : Image Stx → Ending) → ((i : Image Stx) (rest : List ℕ) → o ≡ got i rest → Fine (f i))
    → Fine (with_image o f)
unfolding with_image
image_fine o (reads i rest) f h = h i rest refl
image_fine o (faults r p) f h = possible r p

pub expand_fine : (image : List ℕ) → Bytes image → (ph budget room : ℕ) → Fine (expand_ending image ph budget room)
expand_fine image b ph budget room =
    subst Fine (sym (expand_ending-is image ph budget room))
    (phase_fine ph (with_image (read_image read_syntax image) (expand_work ph budget room))
    (image_fine (read_image read_syntax image) (image-reads image) (expand_work ph budget room) (λ i rest e.
    worked_fine budget _ (λ r s. fitted_fine room (syntax_bytes (reached i.head s) s.binds r) (budget - s.left))
    (expand_root_good ph budget i (syntax_read_keeps_limits image rest i b e)))))

possible_code : (r : Refusal) (q : Rivals) → Possible r q → code_of r ≡ 3 → ⊥
possible_code layout q p e = omega arith
possible_code over_limit q p e = omega arith
possible_code unowned q p e = absurd p
possible_code wrong_kind q p e = omega arith
possible_code small_table q p e = omega arith
possible_code ambiguous q p e = omega arith
possible_code no_meaning q p e = omega arith
possible_code no_rule q p e = omega arith
possible_code no_syntax q p e = omega arith
possible_code not_applicable q p e = omega arith
possible_code wrong_argument q p e = omega arith
possible_code no_phase q p e = omega arith
possible_code no_name_left q p e = omega arith
possible_code no_scope_left q p e = omega arith
possible_code no_binding_left q p e = omega arith
possible_code too_deep q p e = omega arith
possible_code too_many_entries q p e = omega arith
possible_code over_budget q p e = omega arith
possible_code too_long q p e = omega arith
possible_code outside_use q p e = omega arith

fine_code : (e : Ending) → Fine e → (answer_of e).code ≡ 3 → ⊥
unfolding answer_of
fine_code (refused r q u) p e = possible_code r q p e
fine_code (named n u) p e = omega arith
fine_code (written b u) p e = omega arith

pub lent_fine : (budget : ℕ) (table output : List ℕ) (e : Ending) → Fine e
    → (lent budget table output e).answer.code ≡ 3 → ⊥
lent_fine budget table output e p =
    lent_cases (λ (z : Result). z.answer.code ≡ 3 → ⊥) budget table output e
    (fine_code e p) (fine_code (refused small_table no_rivals 0) refl)

-- evaluating inside expand never meets a free variable
pub expand_never_3 : (image : List ℕ) → Bytes image → (ph budget : ℕ) (table output : List ℕ) → (expand_job image ph budget table output).answer.code ≡ 3 → ⊥
expand_never_3 image b ph budget table output q =
    lent_fine budget table output (expand_ending image ph budget (length output)) (expand_fine image b ph budget (length output))
    (ap (λ (z : Result). z.answer.code) (sym (expand_job-is image ph budget table output)) ∙ q)
