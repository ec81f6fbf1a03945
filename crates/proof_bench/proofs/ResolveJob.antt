-- Condition 2 on resolving, of the job: 'Once the image is read and its loading paid for, resolving an identifier answers with a binding
-- exactly when one largest binding fits, and says ambiguous exactly when several fit and none contains the others.' What it says of an
-- answer is `ResolvesExactly`; the theorem is `resolving_is_exact`. By request T-04 code 6 comes with the places of two that compete. It asks for no `Keys`: the bindings of an image that is read ascend.
use mathlib.Core.Path.{◌≡◌, refl, sym, ap, ◌∙◌, subst}
use mathlib.Core.Logic.{◌⊎◌, inl, inr, ◌≢◌, ◌↔◌}
use Prim.Native.Nat.{ℕ, ◌-◌, ◌≤◌, zero-le}
use native.Mathlib.Omega.{arith}
use mathlib.Core.Bool.{Bool, true, false, false≢true}
use mathlib.Core.List.{List, [], ◌∷◌}
use lib.ListN.{length, replicate}
use Rattle.model.specs.Limits.{most_image}
use Rattle.model.specs.Refusals.{ambiguous, over_budget}
use Rattle.model.specs.Scopes.{Scopes, within}
use Rattle.model.specs.Objects.{Sets, set_at, symbol, Stx, atom, size}
use Rattle.model.specs.Resolving.{Bind, Found, means, several, candidates, resolve}
use Rattle.model.specs.Competing.{Rivals, no_rivals, rivals}
use Rattle.model.specs.Reading.{got, Image, read_syntax, read_image}
use Rattle.model.specs.Steps.{Out, no, charge, name_of, resolve_at, identifier}
use Rattle.model.specs.Jobs.{Ending, refused, named, Answer, answer_of, Result, budget_fits, lent, at_phase, with_image, start, worked, resolve_root, resolve_ending, resolve_job}
use borrow.Author.Tests.{le-leb}
use Rattle.laws.specs.Ordered.{Sorted}
use Rattle.laws.specs.Rivalry.{Compete}
use Rattle.laws.proofs.ScopeSets.{within-refl, within_antisym}
use Rattle.laws.proofs.ResolveRule.{In, Largest, Rule, free, found, unclear, resolve-is, candidates-sound, ContainsAll, MissesOne, contains_all_or_misses_one}
use Rattle.laws.proofs.ResolveExactly.{Named, Unclear, symbol_where_none, target_of_largest, name_comes_of, ambiguous_exactly}
use Rattle.laws.proofs.Stable.{Keys}
use Rattle.laws.proofs.Order.{sorted_keys}
use Rattle.laws.proofs.StepLaws.{spend}
use Rattle.laws.proofs.TwoCompete.{two_compete}
use Rattle.codec_laws.specs.WellFormed.{Bytes}
use Rattle.codec_laws.proofs.ImageLaws.{syntax_read_keeps_limits, syntax_read_then_written, syntax_written_then_read}
use Rattle.addresses.proofs.Endings.{resolve_work, resolve_ending-is, resolve_job-is, with_read, worked-no}

-- ---- the statement

-- the answers that there are, each for the one unit that loading an identifier costs: a name, or ambiguous
abbrev pub names : ℕ → Answer
names n = record { code = 0; units = 1; name = n; len = 0; first = 0; second = 0 }

abbrev pub says-ambiguous : Rivals → Answer
says-ambiguous p = record { code = 6; units = 1; name = 0; len = 0; first = p.first; second = p.second }

-- the places in an answer
abbrev pub places : Answer → Rivals
places a = record { first = a.first; second = a.second }

-- two of l differ
pub record SeveralFit (l : List Bind) : Type 0 where
  pub one : Bind
  pub other : Bind
  pub one-is : In one l
  pub other-is : In other l
  pub different : one ≢ other

-- what an answer comes of, for symbol x with set s among the bindings bs
pub data Comes (x : ℕ) (s : Scopes) (bs : List Bind) (a : Answer) : Type 0 where
  of_the_largest : (b : Bind) → Largest b (candidates x s bs) → a ≡ names b.target → Comes x s bs a
  of_no_candidate : candidates x s bs ≡ [] → a ≡ names x → Comes x s bs a
  of_none_largest : Unclear x s bs → a ≡ says-ambiguous (rivals x s bs) → Comes x s bs a

-- the answer for symbol x with set s among the bindings bs. Those that fit are `candidates x s bs`: the bindings of x whose set is contained in
-- s (`candidates-sound` and `candidates_complete`, laws/proofs/ResolveRule). `Largest`: one of these that contains all of them. `Unclear`: there
-- are some, and none is largest.
pub record ResolvesExactly (x : ℕ) (s : Scopes) (bs : List Bind) (a : Answer) : Type 0 where
  -- a largest fits: code 0 and its target; there are no two largest
  pub largest_is_answered : (b : Bind) → Largest b (candidates x s bs) → a ≡ names b.target
  pub largest_is_one : (b c : Bind) → Largest b (candidates x s bs) → Largest c (candidates x s bs) → b ≡ c
  -- none fits: code 0 and the symbol itself
  pub symbol_is_answered : candidates x s bs ≡ [] → a ≡ names x
  -- and back: code 0 comes only of a largest, with its target, or of none that fits, with the symbol
  pub code_0_comes_of : a.code ≡ 0 → Named x s bs a.name
  -- code 6 exactly when some fit and none contains the others; those that fit are several then
  pub code_6_exactly : (a.code ≡ 6) ↔ Unclear x s bs
  pub ambiguity_is_answered : Unclear x s bs → a ≡ says-ambiguous (rivals x s bs)
  pub ambiguity_is_of_several : Unclear x s bs → SeveralFit (candidates x s bs)
  -- with code 6 the two places are those of the first two that compete
  pub code_6_names_two_that_compete : a.code ≡ 6 → Compete x s bs (places a)
  -- the answer is one of these three
  pub nothing_else : Comes x s bs a

-- ---- what is found, as an answer

abbrev answering : Rivals → Found → Answer
answering p (means n) = names n
answering p several = says-ambiguous p

-- where none contains the others there are several: one alone contains itself
none_largest_is_several : (l : List Bind) → l ≢ [] → ((b : Bind) → Largest b l → ⊥) → SeveralFit l
none_largest_is_several [] there none = absurd (there refl)
none_largest_is_several (b ∷ l) there none = go (contains_all_or_misses_one b (b ∷ l))
  where
    go : ContainsAll b (b ∷ l) ⊎ MissesOne b (b ∷ l) → SeveralFit (b ∷ l)
    go (inl all) = absurd (none b (record { here = inl refl; above = all }))
    go (inr (c, i, q)) = record {
      one = b;
      other = c;
      one-is = inl refl;
      other-is = i;
      different = λ p. false≢true (sym q ∙ ap (λ (z : Bind). within z.set b.set) (sym p) ∙ within-refl b.set);
    }

module _ (x : ℕ) (s : Scopes) (bs : List Bind) (o : Sorted bs) where
  k : Keys bs
  k = sorted_keys bs o

  one-largest : (b c : Bind) → Largest b (candidates x s bs) → Largest c (candidates x s bs) → b ≡ c
  one-largest b c h g =
      let p = candidates-sound x s bs b h.here in
      let q = candidates-sound x s bs c g.here in
      k b c p.stored q.stored (p.symbol-is ∙ sym q.symbol-is)
      (within_antisym b.set c.set (g.above b h.here) (h.above c g.here))

  found_by_code_0 : (f : Found) → resolve x s bs ≡ f → (answering (rivals x s bs) f).code ≡ 0 → Named x s bs (answering (rivals x s bs) f).name
  found_by_code_0 (means n) e q = name_comes_of x s bs n e
  found_by_code_0 several e q =
      let z : ⊥ = omega arith in
      absurd z

  found_by_code_6 : (f : Found) → resolve x s bs ≡ f → (answering (rivals x s bs) f).code ≡ 6 → Unclear x s bs
  found_by_code_6 (means n) e q =
      let z : ⊥ = omega arith in
      absurd z
  found_by_code_6 several e q = (ambiguous_exactly x s bs k).0 e

  ambiguity : Unclear x s bs → answering (rivals x s bs) (resolve x s bs) ≡ says-ambiguous (rivals x s bs)
  ambiguity u = ap (answering (rivals x s bs)) ((ambiguous_exactly x s bs k).1 u)

  found-two : (f : Found) → resolve x s bs ≡ f → (answering (rivals x s bs) f).code ≡ 6 → Compete x s bs (places (answering (rivals x s bs) f))
  found-two (means n) e q =
      let z : ⊥ = omega arith in
      absurd z
  found-two several e q = two_compete x s bs o e

  comes : (f : Found) → Rule x (candidates x s bs) f → Comes x s bs (answering (rivals x s bs) f)
  comes f (free e) = of_no_candidate e refl
  comes f (found b h) = of_the_largest b h refl
  comes f (unclear there none) = of_none_largest (record { there-are = there; no-largest = none }) refl

  what_is_found_is_exact : ResolvesExactly x s bs (answering (rivals x s bs) (resolve x s bs))
  what_is_found_is_exact = record {
    largest_is_answered = λ b h. ap (answering (rivals x s bs)) (target_of_largest x s bs k b h);
    largest_is_one = one-largest;
    symbol_is_answered = λ e. ap (answering (rivals x s bs)) (symbol_where_none x s bs k e);
    code_0_comes_of = found_by_code_0 (resolve x s bs) refl;
    code_6_exactly = (found_by_code_6 (resolve x s bs) refl, λ u. ap (λ (a : Answer). a.code) (ambiguity u));
    ambiguity_is_answered = ambiguity;
    ambiguity_is_of_several = λ u. none_largest_is_several (candidates x s bs) u.there-are u.no-largest;
    code_6_names_two_that_compete = found-two (resolve x s bs) refl;
    nothing_else = comes (resolve x s bs) (resolve-is x s bs);
  }

-- ---- the job answers what is found

at_a_phase : (ph : ℕ) (e : Ending) → ph ≤ 2 → at_phase ph e ≡ e
unfolding at_phase
at_a_phase ph e h = rw (le-leb ph 2 h)

abbrev ending : Rivals → Found → Ending
ending p (means n) = named n 1
ending p several = refused ambiguous p 1

-- an identifier as root: one unit is charged, and then it is resolved
identifier_is_resolved : (ph budget : ℕ) (i : Image Stx) (c : Sets) (x : ℕ) → 1 ≤ budget
    → resolve_root ph (atom c (symbol x)) (start budget i)
    ≡ name_of (rivals x (set_at ph c) i.binds) (resolve x (set_at ph c) i.binds) (spend 1 (start budget i))
unfolding resolve_root charge size identifier resolve_at start spend
identifier_is_resolved ph budget i c x h = rw (le-leb 1 budget h)

identifier_is_not_paid : (ph : ℕ) (i : Image Stx) (c : Sets) (x : ℕ) → resolve_root ph (atom c (symbol x)) (start 0 i) ≡ no over_budget no_rivals 0
unfolding resolve_root charge size start
identifier_is_not_paid ph i c x = refl

one_unit : (budget : ℕ) → 1 ≤ budget → budget - (budget - 1) ≡ 1
one_unit budget h = omega arith

ends_after_one_unit : (budget : ℕ) (i : Image Stx) (p : Rivals) (f : Found) → 1 ≤ budget
    → worked budget (name_of p f (spend 1 (start budget i))) (λ n s. named n (budget - s.left)) ≡ ending p f
unfolding worked name_of spend start
ends_after_one_unit budget i p (means n) h = ap (named n) (one_unit budget h)
ends_after_one_unit budget i p several h = ap (refused ambiguous p) (one_unit budget h)

answers_its_ending : (budget : ℕ) (table : List ℕ) (e : Ending) → budget_fits budget (length table) ≡ true → (lent budget table [] e).answer ≡ answer_of e
unfolding lent
answers_its_ending budget table e q = rw q

answer-is : (p : Rivals) (f : Found) → answer_of (ending p f) ≡ answering p f
unfolding answer_of
answer-is p (means n) = refl
answer-is p several = refl

module _ (image rest : List ℕ) (i : Image Stx) (c : Sets) (x : ℕ) (reads : read_image read_syntax image ≡ got i rest) (root_is : i.root ≡ atom c (symbol x)) where
  ends_with_its_work : (ph budget : ℕ) → ph ≤ 2 → resolve_ending image ph budget
      ≡ worked budget (resolve_root ph (atom c (symbol x)) (start budget i)) (λ n s. named n (budget - s.left))
  ends_with_its_work ph budget h =
      resolve_ending-is image ph budget
      ∙ at_a_phase ph (with_image (read_image read_syntax image) (resolve_work ph budget)) h
      ∙ with_read (read_image read_syntax image) (resolve_work ph budget) i rest reads
      ∙ ap (λ (r : Stx). worked budget (resolve_root ph r (start budget i)) (λ n s. named n (budget - s.left))) root_is

  ends_with_what_is_found : (ph budget : ℕ) → ph ≤ 2 → 1 ≤ budget → resolve_ending image ph budget
      ≡ ending (rivals x (set_at ph c) i.binds) (resolve x (set_at ph c) i.binds)
  ends_with_what_is_found ph budget h p =
      ends_with_its_work ph budget h
      ∙ ap (λ (o : Out ℕ). worked budget o (λ n s. named n (budget - s.left))) (identifier_is_resolved ph budget i c x p)
      ∙ ends_after_one_unit budget i (rivals x (set_at ph c) i.binds) (resolve x (set_at ph c) i.binds) p

  answers_what_is_found : (ph budget : ℕ) (table : List ℕ) → ph ≤ 2 → 1 ≤ budget → budget_fits budget (length table) ≡ true
      → (resolve_job image ph budget table).answer ≡ answering (rivals x (set_at ph c) i.binds) (resolve x (set_at ph c) i.binds)
  answers_what_is_found ph budget table h p q =
      ap (λ (r : Result). r.answer) (resolve_job-is image ph budget table)
      ∙ answers_its_ending budget table (resolve_ending image ph budget) q
      ∙ ap answer_of (ends_with_what_is_found ph budget h p)
      ∙ answer-is (rivals x (set_at ph c) i.binds) (resolve x (set_at ph c) i.binds)

-- ---- the theorem

-- For every image that is read, an identifier as its root, a phase, and a budget and a table that fit. Loading an identifier costs 1, so a
-- budget of 1 has paid for it; with a budget of 0 the answer is code 19 (`nothing_paid_is_code_19`) and the sentence says nothing. What the table
-- holds afterwards is `all_else_clears_the_table` (Answers); resolve writes no output.
pub resolving_is_exact : (image rest : List ℕ) (i : Image Stx) (c : Sets) (x ph budget : ℕ) (table : List ℕ)
    → Bytes image → read_image read_syntax image ≡ got i rest → i.root ≡ atom c (symbol x)
    → ph ≤ 2 → 1 ≤ budget → budget_fits budget (length table) ≡ true
    → ResolvesExactly x (set_at ph c) i.binds (resolve_job image ph budget table).answer
resolving_is_exact image rest i c x ph budget table is-bytes reads root_is phase paid fits =
    subst (ResolvesExactly x (set_at ph c) i.binds) (sym (answers_what_is_found image rest i c x reads root_is ph budget table phase paid fits))
    (what_is_found_is_exact x (set_at ph c) i.binds (syntax_read_keeps_limits image rest i is-bytes reads).ascending)

-- ---- at its borders

-- an image that is read is read to its end, and has at most 65,536 bytes
pub a_read_image_is_whole : (image rest : List ℕ) (i : Image Stx) → Bytes image → read_image read_syntax image ≡ got i rest
    → (rest ≡ []) × (length image ≤ 65536)
unfolding most_image
a_read_image_is_whole image rest i is-bytes reads =
    let fits = syntax_read_keeps_limits image rest i is-bytes reads in
    let same = syntax_read_then_written image rest i is-bytes reads in (
      to_its_end (subst (λ (z : List ℕ). read_image read_syntax z ≡ got i []) same (syntax_written_then_read i.head i.binds i.root fits)),
      subst (λ (z : List ℕ). length z ≤ 65536) same fits.short,
    )
  where
    to_its_end : read_image read_syntax image ≡ got i [] → rest ≡ []
    to_its_end e = cc

-- with a budget of 0 loading is not paid for, whatever fits
pub nothing_paid_is_code_19 : (image rest : List ℕ) (i : Image Stx) (c : Sets) (x ph : ℕ) (table : List ℕ)
    → read_image read_syntax image ≡ got i rest → i.root ≡ atom c (symbol x) → ph ≤ 2
    → (resolve_job image ph 0 table).answer ≡ record { code = 19; units = 0; name = 0; len = 0; first = 0; second = 0 }
unfolding budget_fits answer_of
nothing_paid_is_code_19 image rest i c x ph table reads root_is phase =
    ap (λ (r : Result). r.answer) (resolve_job-is image ph 0 table)
    ∙ answers_its_ending 0 table (resolve_ending image ph 0) (le-leb 0 (length table) zero-le)
    ∙ ap answer_of
    (ends_with_its_work image rest i c x reads root_is ph 0 phase
    ∙ worked-no 0 (resolve_root ph (atom c (symbol x)) (start 0 i)) _ over_budget 0 (identifier_is_not_paid ph i c x))

-- ---- at work: sample 3 of document 01, x{1,2} where x{1} is bound to 6 and x{2} to 7

abbrev pub sample_3 : List ℕ
sample_3 = 1 ∷ 2 ∷ 1 ∷ 120 ∷ 1 ∷ 121 ∷ 3 ∷ 2 ∷ 2 ∷ 4 ∷ 6 ∷ 1 ∷ 1 ∷ 4 ∷ 7 ∷ 1 ∷ 2 ∷ 0 ∷ 2 ∷ 1 ∷ 2 ∷ 0 ∷ 0 ∷ 4 ∷ []

abbrev pub sample_3_read : Image Stx
sample_3_read = record {
  head = record { words = (120 ∷ []) ∷ (121 ∷ []) ∷ []; names = 9; scopes = 2 };
  binds = record { symb = 4; target = 6; set = 1 } ∷ record { symb = 4; target = 7; set = 2 } ∷ [];
  root = atom (record { at0 = 3; at1 = 0; at2 = 0 }) (symbol 4);
}

sample_3_reads : read_image read_syntax sample_3 ≡ got sample_3_read []
unfolding read_image read_syntax
sample_3_reads = refl

pub sample_3_is_exact : ResolvesExactly 4 3 sample_3_read.binds (resolve_job sample_3 0 1 (replicate 40 0)).answer
unfolding set_at budget_fits
sample_3_is_exact =
    resolving_is_exact sample_3 [] sample_3_read (record { at0 = 3; at1 = 0; at2 = 0 }) 4 0 1 (replicate 40 0)
    (omega arith) sample_3_reads refl (omega arith) (omega arith) refl

-- it answers 6, so several fit and none contains the others
pub sample_3_is_unclear : Unclear 4 3 sample_3_read.binds
unfolding resolve_job
sample_3_is_unclear = sample_3_is_exact.code_6_exactly.0 refl

-- and the first two that compete are its two bindings
pub sample_3_competes : Compete 4 3 sample_3_read.binds (record { first = 1; second = 2 })
unfolding resolve_job
sample_3_competes = sample_3_is_exact.code_6_names_two_that_compete refl
