-- Request T-04, of the jobs: with code 6 come the places of the first two that compete (`code_6_names_two_that_compete_when_resolving`, `_parsing`,
-- `_expanding`), without it two zeros (`no_places_without_code_6_when_` each of the four), and evaluate never answers 6.
use mathlib.Core.Path.{◌≡◌, refl, sym, subst}
use Prim.Native.Nat.{ℕ, ◌-◌, ◌≤◌, ◌<◌}
use native.Mathlib.Omega.{arith}
use mathlib.Core.Bool.{Bool, true, false, ◌&&◌}
use mathlib.Core.List.{List, []}
use lib.Dec.{leb}
use lib.ListN.{length}
use Rattle.model.specs.Choice.{when◌then◌else◌}
use Rattle.model.specs.Limits.{most_image, last_phase}
use Rattle.model.specs.Refusals.{Refusal, layout, over_limit, unowned, wrong_kind, small_table, ambiguous, no_meaning, no_rule, no_syntax, not_applicable, wrong_argument, no_phase, no_name_left, no_scope_left, no_binding_left, too_deep, too_many_entries, over_budget, too_long, outside_use, code_of}
use Rattle.model.specs.Scopes.{Scopes}
use Rattle.model.specs.Objects.{Stx}
use Rattle.model.specs.Resolving.{Bind}
use Rattle.model.specs.Competing.{Rivals, no_rivals}
use Rattle.model.specs.Reading.{Read, got, fault, Image, read_syntax, read_tree_image, read_image}
use Rattle.model.specs.Writing.{syntax_bytes, tree_image_bytes}
use Rattle.model.specs.Steps.{State, Out, ok, no}
use Rattle.model.specs.Jobs.{Ending, refused, named, written, Answer, answer_of, Result, lent, at_phase, with_image, start, worked, fitted, reached, resolve_root, expand_root, parse_root, evaluate_root, closed, resolve_ending, expand_ending, parse_ending, evaluate_ending, resolve_job, expand_job, parse_job, evaluate_job}
use Rattle.laws.specs.Ordered.{Sorted}
use Rattle.laws.specs.Rivalry.{Compete, Told}
use Rattle.laws.proofs.TwoCompete.{two_compete, told-competes, places_are_in_order, none_is_untold}
use Rattle.laws.proofs.CodeSix.{Ends, Always, NoneToldBut6, Not6, ToldBy, Has, With6, resolve_tells_none_but_6, parse_tells_none_but_6, expand_tells_none_but_6, evaluate_is_never_refused_by_6, resolve_tells_by_its_bindings, parse_tells_by_its_bindings}
use Rattle.codec_laws.specs.WellFormed.{Bytes}
use Rattle.codec_laws.proofs.ImageLaws.{syntax_read_keeps_limits}
use Rattle.addresses.proofs.Outcomes.{Possible}
use Rattle.addresses.proofs.Faults.{possible, Reads, reads, faults, image-reads, tree_image_reads}
use Rattle.addresses.proofs.ExpandJob.{Fine, expand_fine}
use Rattle.addresses.proofs.Endings.{lent_cases, resolve_work, expand_work, parse_work, evaluate_work, resolve_ending-is, expand_ending-is, parse_ending-is, evaluate_ending-is, resolve_job-is, expand_job-is, parse_job-is, evaluate_job-is}
use Rattle.proof_bench.proofs.ResolveJob.{places}

-- ---- the statements

-- two that compete for a symbol and set by some bindings in the order of an image
pub record SomeCompete (p : Rivals) : Type 0 where
  pub symb : ℕ
  pub set : Scopes
  pub store : List Bind
  pub ascending : Sorted store
  pub compete : Compete symb set store p

-- two that compete for a symbol and set by the image's own bindings
pub record OwnCompete (image : List ℕ) (p : Rivals) : Type 0 where
  pub read : Image Stx
  pub rest : List ℕ
  pub reads_as : read_image read_syntax image ≡ got read rest
  pub symb : ℕ
  pub set : Scopes
  pub compete : Compete symb set read.binds p

-- ---- how a job ends: Q of its refusal and what is told with it

abbrev EndsBy : (Refusal → Rivals → Type 0) → Ending → Type 0
EndsBy Q (refused r p u) = Q r p
EndsBy Q (named n u) = Unit {0}
EndsBy Q (written b u) = Unit {0}

-- Q where an image is refused
abbrev Faulted : (Refusal → Rivals → Type 0) → {A : Type 0} → Read A → Type 0
Faulted Q (got a rest) = Unit {0}
Faulted Q (fault r) = Q r no_rivals

module _ (Q : Refusal → Rivals → Type 0) where
  either-ends : (t : Bool) (e d : Ending) → EndsBy Q e → EndsBy Q d → EndsBy Q (when t then e else d)
  either-ends true e d h k = h
  either-ends false e d h k = k

  worked-ends : {A : Type 0} (I : State → Type 0) (budget : ℕ) (o : Out A) (f : A → State → Ending) → Ends I Q o → ((a : A) (s : State) → EndsBy Q (f a s))
      → EndsBy Q (worked budget o f)
  unfolding worked
  worked-ends I budget (ok a s) f h k = k a s
  worked-ends I budget (no r p u) f h k = h

  image-ends : {R : Type 0} (o : Read (Image R)) (f : Image R → Ending) → Faulted Q o
      → ((i : Image R) (rest : List ℕ) → o ≡ got i rest → EndsBy Q (f i)) → EndsBy Q (with_image o f)
  unfolding with_image
  image-ends (got i rest) f h k = k i rest refl
  image-ends (fault r) f h k = h

  fitted-ends : (room : ℕ) (b : List ℕ) (u : ℕ) → Q too_long no_rivals → EndsBy Q (fitted room b u)
  unfolding fitted
  fitted-ends room b u h = either-ends (leb (length b) room && leb (length b) most_image) (written b u) (refused too_long no_rivals u) tt h

  phase-ends : (ph : ℕ) (e : Ending) → Q no_phase no_rivals → EndsBy Q e → EndsBy Q (at_phase ph e)
  unfolding at_phase
  phase-ends ph e h k = either-ends (leb ph last_phase) e (refused no_phase no_rivals 0) k h

-- ---- the places in an answer, by how the job ends

module _ (Q : Rivals → Type 0) where
  -- Q of what comes with 6
  abbrev Six : Refusal → Rivals → Type 0
  Six r p = code_of r ≡ 6 → Q p

  answer_six : (e : Ending) → EndsBy Six e → (answer_of e).code ≡ 6 → Q (places (answer_of e))
  unfolding answer_of
  answer_six (refused r p u) h q = h q
  answer_six (named n u) h q =
      let z : ⊥ = omega arith in
      absurd z
  answer_six (written b u) h q =
      let z : ⊥ = omega arith in
      absurd z

  lent_six : (budget : ℕ) (table output : List ℕ) (e : Ending) → EndsBy Six e → (lent budget table output e).answer.code ≡ 6 → Q (places (lent budget table output e).answer)
  lent_six budget table output e h =
      lent_cases (λ (z : Result). z.answer.code ≡ 6 → Q (places z.answer)) budget table output e (answer_six e h)
      (answer_six (refused small_table no_rivals 0) (λ q. absurd (five q)))
    where
      five : ◌≡◌ {A = ℕ} 5 6 → ⊥
      five q = omega arith

answer_without : (e : Ending) → EndsBy NoneToldBut6 e → ((answer_of e).code ≡ 6 → ⊥) → places (answer_of e) ≡ no_rivals
unfolding answer_of
answer_without (refused r p u) h n = h n
answer_without (named m u) h n = refl
answer_without (written b u) h n = refl

lent_without : (budget : ℕ) (table output : List ℕ) (e : Ending) → EndsBy NoneToldBut6 e → ((lent budget table output e).answer.code ≡ 6 → ⊥)
    → places (lent budget table output e).answer ≡ no_rivals
lent_without budget table output e h =
    lent_cases (λ (z : Result). (z.answer.code ≡ 6 → ⊥) → places z.answer ≡ no_rivals) budget table output e (answer_without e h)
    (answer_without (refused small_table no_rivals 0) (λ n. refl))

-- ---- 6 is not what an image is refused by

possible_6 : (r : Refusal) (p : Rivals) → Possible r p → code_of r ≡ 6 → Told p
possible_6 layout p h e = absurd (omega arith)
possible_6 over_limit p h e = absurd (omega arith)
possible_6 unowned p h e = absurd h
possible_6 wrong_kind p h e = absurd (omega arith)
possible_6 small_table p h e = absurd (omega arith)
possible_6 ambiguous p h e = h
possible_6 no_meaning p h e = absurd (omega arith)
possible_6 no_rule p h e = absurd (omega arith)
possible_6 no_syntax p h e = absurd (omega arith)
possible_6 not_applicable p h e = absurd (omega arith)
possible_6 wrong_argument p h e = absurd (omega arith)
possible_6 no_phase p h e = absurd (omega arith)
possible_6 no_name_left p h e = absurd (omega arith)
possible_6 no_scope_left p h e = absurd (omega arith)
possible_6 no_binding_left p h e = absurd (omega arith)
possible_6 too_deep p h e = absurd (omega arith)
possible_6 too_many_entries p h e = absurd (omega arith)
possible_6 over_budget p h e = absurd (omega arith)
possible_6 too_long p h e = absurd (omega arith)
possible_6 outside_use p h e = absurd (omega arith)

faulted_not_6 : (Q : Rivals → Type 0) {A : Type 0} (o : Read A) → Reads A o → Faulted (Six Q) o
faulted_not_6 Q o (reads a s) = tt
faulted_not_6 Q o (faults r p) = λ q. absurd (none_is_untold (possible_6 r no_rivals (possible r p) q))

faulted_untold : {A : Type 0} (o : Read A) → Faulted NoneToldBut6 o
faulted_untold (got a s) = tt
faulted_untold (fault r) = λ n. refl

-- ---- expanding

fine_ends : (e : Ending) → Fine e → EndsBy (Six SomeCompete) e
fine_ends (refused r p u) h = λ q.
    let t = possible_6 r p h q in
    record { symb = t.symb; set = t.set; store = t.store; ascending = t.ascending; compete = told-competes t }
fine_ends (named n u) h = tt
fine_ends (written b u) h = tt

-- the bindings are those of that moment: the image's and what was bound since
pub code_6_names_two_that_compete_when_expanding : (image : List ℕ) → Bytes image → (ph budget : ℕ) (table output : List ℕ)
    → (expand_job image ph budget table output).answer.code ≡ 6 → SomeCompete (places (expand_job image ph budget table output).answer)
code_6_names_two_that_compete_when_expanding image b ph budget table output =
    subst (λ (z : Result). z.answer.code ≡ 6 → SomeCompete (places z.answer)) (sym (expand_job-is image ph budget table output))
    (lent_six SomeCompete budget table output (expand_ending image ph budget (length output))
    (fine_ends (expand_ending image ph budget (length output)) (expand_fine image b ph budget (length output))))

-- ---- resolving and parsing

module _ (image : List ℕ) (is-bytes : Bytes image) where
  own : (i : Image Stx) (rest : List ℕ) → read_image read_syntax image ≡ got i rest → (r : Refusal) (p : Rivals) → With6 i.binds r p → Six (OwnCompete image) r p
  own i rest e r p h q = go (h q)
    where
      go : ToldBy i.binds p → OwnCompete image p
      go (x, c, several-fit, is) = record {
        read = i;
        rest = rest;
        reads_as = e;
        symb = x;
        set = c;
        compete = subst (Compete x c i.binds) (sym is) (two_compete x c i.binds (syntax_read_keeps_limits image rest i is-bytes e).ascending several-fit);
      }

  own_ends : {A : Type 0} (i : Image Stx) (rest : List ℕ) → read_image read_syntax image ≡ got i rest → (o : Out A) → Ends (Has i.binds) (With6 i.binds) o
      → Ends Always (Six (OwnCompete image)) o
  own_ends i rest e (ok a t) h = tt
  own_ends i rest e (no r p u) h = own i rest e r p h

  no-fault : Faulted (Six (OwnCompete image)) (read_image read_syntax image)
  no-fault = faulted_not_6 (OwnCompete image) (read_image read_syntax image) (image-reads image)

  pub code_6_names_two_that_compete_when_resolving : (ph budget : ℕ) (table : List ℕ)
      → (resolve_job image ph budget table).answer.code ≡ 6 → OwnCompete image (places (resolve_job image ph budget table).answer)
  unfolding start
  code_6_names_two_that_compete_when_resolving ph budget table =
      subst (λ (z : Result). z.answer.code ≡ 6 → OwnCompete image (places z.answer)) (sym (resolve_job-is image ph budget table))
      (lent_six (OwnCompete image) budget table [] (resolve_ending image ph budget)
      (subst (EndsBy (Six (OwnCompete image))) (sym (resolve_ending-is image ph budget))
      (phase-ends (Six (OwnCompete image)) ph (with_image (read_image read_syntax image) (resolve_work ph budget)) (λ q. absurd (omega arith))
      (image-ends (Six (OwnCompete image)) (read_image read_syntax image) (resolve_work ph budget) no-fault (λ i rest e.
      worked-ends (Six (OwnCompete image)) Always budget (resolve_root ph i.root (start budget i)) _
      (own_ends i rest e (resolve_root ph i.root (start budget i)) (resolve_tells_by_its_bindings i.binds ph i.root (start budget i) refl)) (λ n s. tt))))))

  pub code_6_names_two_that_compete_when_parsing : (budget : ℕ) (table output : List ℕ)
      → (parse_job image budget table output).answer.code ≡ 6 → OwnCompete image (places (parse_job image budget table output).answer)
  unfolding start
  code_6_names_two_that_compete_when_parsing budget table output =
      subst (λ (z : Result). z.answer.code ≡ 6 → OwnCompete image (places z.answer)) (sym (parse_job-is image budget table output))
      (lent_six (OwnCompete image) budget table output (parse_ending image budget (length output))
      (subst (EndsBy (Six (OwnCompete image))) (sym (parse_ending-is image budget (length output)))
      (image-ends (Six (OwnCompete image)) (read_image read_syntax image) (parse_work budget (length output)) no-fault (λ i rest e.
      worked-ends (Six (OwnCompete image)) Always budget (parse_root i.root (start budget i)) _
      (own_ends i rest e (parse_root i.root (start budget i)) (parse_tells_by_its_bindings i.binds i.root (start budget i) refl)) (λ r s.
      fitted-ends (Six (OwnCompete image)) (length output) (tree_image_bytes (reached i.head s) r) (budget - s.left) (λ q. absurd (omega arith)))))))

-- ---- evaluating

pub evaluate_never_answers_6 : (image : List ℕ) (budget : ℕ) (table output : List ℕ) → (evaluate_job image budget table output).answer.code ≡ 6 → ⊥
evaluate_never_answers_6 image budget table output =
    subst (λ (z : Result). z.answer.code ≡ 6 → ⊥) (sym (evaluate_job-is image budget table output))
    (lent_six (λ p. ⊥) budget table output (evaluate_ending image budget (length output))
    (subst (EndsBy (Six (λ p. ⊥))) (sym (evaluate_ending-is image budget (length output)))
    (image-ends (Six (λ p. ⊥)) (read_image read_tree_image image) (evaluate_work budget (length output))
    (faulted_not_6 (λ p. ⊥) (read_image read_tree_image image) (tree_image_reads image)) (λ i rest e.
    either-ends (Six (λ p. ⊥)) (closed [] i.root) _ (refused unowned no_rivals 0)
    (worked-ends (Six (λ p. ⊥)) Always budget (evaluate_root i.root (start budget i)) _
    (never (evaluate_root i.root (start budget i)) (evaluate_is_never_refused_by_6 i.root (start budget i))) (λ r s.
    fitted-ends (Six (λ p. ⊥)) (length output) (tree_image_bytes (reached i.head s) r) (budget - s.left) (λ q. omega arith)))
    (λ q. omega arith)))))
  where
    never : {A : Type 0} (o : Out A) → Ends Always Not6 o → Ends Always (Six (λ p. ⊥)) o
    never (ok a t) h = tt
    never (no r p u) h = h.0

-- ---- no places without code 6

pub no_places_without_code_6_when_resolving : (image : List ℕ) (ph budget : ℕ) (table : List ℕ)
    → ((resolve_job image ph budget table).answer.code ≡ 6 → ⊥) → places (resolve_job image ph budget table).answer ≡ no_rivals
no_places_without_code_6_when_resolving image ph budget table =
    subst (λ (z : Result). (z.answer.code ≡ 6 → ⊥) → places z.answer ≡ no_rivals) (sym (resolve_job-is image ph budget table))
    (lent_without budget table [] (resolve_ending image ph budget)
    (subst (EndsBy NoneToldBut6) (sym (resolve_ending-is image ph budget))
    (phase-ends NoneToldBut6 ph (with_image (read_image read_syntax image) (resolve_work ph budget)) (λ n. refl)
    (image-ends NoneToldBut6 (read_image read_syntax image) (resolve_work ph budget) (faulted_untold (read_image read_syntax image)) (λ i rest e.
    worked-ends NoneToldBut6 Always budget (resolve_root ph i.root (start budget i)) _
    (resolve_tells_none_but_6 ph i.root (start budget i)) (λ n s. tt))))))

pub no_places_without_code_6_when_expanding : (image : List ℕ) (ph budget : ℕ) (table output : List ℕ)
    → ((expand_job image ph budget table output).answer.code ≡ 6 → ⊥) → places (expand_job image ph budget table output).answer ≡ no_rivals
no_places_without_code_6_when_expanding image ph budget table output =
    subst (λ (z : Result). (z.answer.code ≡ 6 → ⊥) → places z.answer ≡ no_rivals) (sym (expand_job-is image ph budget table output))
    (lent_without budget table output (expand_ending image ph budget (length output))
    (subst (EndsBy NoneToldBut6) (sym (expand_ending-is image ph budget (length output)))
    (phase-ends NoneToldBut6 ph (with_image (read_image read_syntax image) (expand_work ph budget (length output))) (λ n. refl)
    (image-ends NoneToldBut6 (read_image read_syntax image) (expand_work ph budget (length output)) (faulted_untold (read_image read_syntax image)) (λ i rest e.
    worked-ends NoneToldBut6 Always budget (expand_root ph i.root (start budget i)) _
    (expand_tells_none_but_6 ph i.root (start budget i)) (λ r s.
    fitted-ends NoneToldBut6 (length output) (syntax_bytes (reached i.head s) s.binds r) (budget - s.left) (λ n. refl)))))))

pub no_places_without_code_6_when_parsing : (image : List ℕ) (budget : ℕ) (table output : List ℕ)
    → ((parse_job image budget table output).answer.code ≡ 6 → ⊥) → places (parse_job image budget table output).answer ≡ no_rivals
no_places_without_code_6_when_parsing image budget table output =
    subst (λ (z : Result). (z.answer.code ≡ 6 → ⊥) → places z.answer ≡ no_rivals) (sym (parse_job-is image budget table output))
    (lent_without budget table output (parse_ending image budget (length output))
    (subst (EndsBy NoneToldBut6) (sym (parse_ending-is image budget (length output)))
    (image-ends NoneToldBut6 (read_image read_syntax image) (parse_work budget (length output)) (faulted_untold (read_image read_syntax image)) (λ i rest e.
    worked-ends NoneToldBut6 Always budget (parse_root i.root (start budget i)) _
    (parse_tells_none_but_6 i.root (start budget i)) (λ r s.
    fitted-ends NoneToldBut6 (length output) (tree_image_bytes (reached i.head s) r) (budget - s.left) (λ n. refl))))))

-- evaluate never answers 6, so it never names a place
pub evaluate_names_no_places : (image : List ℕ) (budget : ℕ) (table output : List ℕ) → places (evaluate_job image budget table output).answer ≡ no_rivals
evaluate_names_no_places image budget table output =
    subst (λ (z : Result). (z.answer.code ≡ 6 → ⊥) → places z.answer ≡ no_rivals) (sym (evaluate_job-is image budget table output))
    (lent_without budget table output (evaluate_ending image budget (length output))
    (subst (EndsBy NoneToldBut6) (sym (evaluate_ending-is image budget (length output)))
    (image-ends NoneToldBut6 (read_image read_tree_image image) (evaluate_work budget (length output)) (faulted_untold (read_image read_tree_image image)) (λ i rest e.
    either-ends NoneToldBut6 (closed [] i.root) _ (refused unowned no_rivals 0)
    (worked-ends NoneToldBut6 Always budget (evaluate_root i.root (start budget i)) _
    (silent (evaluate_root i.root (start budget i)) (evaluate_is_never_refused_by_6 i.root (start budget i))) (λ r s.
    fitted-ends NoneToldBut6 (length output) (tree_image_bytes (reached i.head s) r) (budget - s.left) (λ n. refl)))
    (λ n. refl))))) (evaluate_never_answers_6 image budget table output)
  where
    silent : {A : Type 0} (o : Out A) → Ends Always Not6 o → Ends Always NoneToldBut6 o
    silent (ok a t) h = tt
    silent (no r p u) h = λ n. h.1

-- ---- with code 6 both places are set, in order

pub code_6_has_places_in_order_when_expanding : (image : List ℕ) → Bytes image → (ph budget : ℕ) (table output : List ℕ)
    → (expand_job image ph budget table output).answer.code ≡ 6
    → (1 ≤ (expand_job image ph budget table output).answer.first)
    × ((expand_job image ph budget table output).answer.first < (expand_job image ph budget table output).answer.second)
code_6_has_places_in_order_when_expanding image b ph budget table output q =
    let o = places_are_in_order (code_6_names_two_that_compete_when_expanding image b ph budget table output q).compete in
    (o.0, o.1)

pub code_6_has_places_in_order_when_resolving : (image : List ℕ) → Bytes image → (ph budget : ℕ) (table : List ℕ)
    → (resolve_job image ph budget table).answer.code ≡ 6
    → (1 ≤ (resolve_job image ph budget table).answer.first)
    × ((resolve_job image ph budget table).answer.first < (resolve_job image ph budget table).answer.second)
code_6_has_places_in_order_when_resolving image b ph budget table q =
    let o = places_are_in_order (code_6_names_two_that_compete_when_resolving image b ph budget table q).compete in
    (o.0, o.1)

pub code_6_has_places_in_order_when_parsing : (image : List ℕ) → Bytes image → (budget : ℕ) (table output : List ℕ)
    → (parse_job image budget table output).answer.code ≡ 6
    → (1 ≤ (parse_job image budget table output).answer.first)
    × ((parse_job image budget table output).answer.first < (parse_job image budget table output).answer.second)
code_6_has_places_in_order_when_parsing image b budget table output q =
    let o = places_are_in_order (code_6_names_two_that_compete_when_parsing image b budget table output q).compete in
    (o.0, o.1)
