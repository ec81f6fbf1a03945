-- Condition 3, one name is one address, from image bytes to image bytes. What it says is in specs/OneNameOneAddress.
use mathlib.Core.Path.{◌≡◌, refl, sym, ap, ◌∙◌, subst}
use mathlib.Core.Logic.{◌≢◌}
use Prim.Native.Nat.{ℕ, suc, ◌+◌, ◌-◌, ◌≤◌, ◌<◌}
use native.Mathlib.Nat.{le_refl, le_trans, le_of_eq}
use native.Mathlib.Omega.{arith}
use mathlib.Core.Bool.{Bool, true, false, false≢true}
use mathlib.Core.List.{List, [], ◌∷◌}
use lib.ListN.{length}
use Rattle.model.specs.Choice.{when◌then◌else◌}
use Rattle.model.specs.Limits.{most_entries, most_image}
use Rattle.model.specs.Refusals.{Refusal, over_budget, unowned}
use Rattle.model.specs.Scopes.{no_scopes}
use Rattle.model.specs.Objects.{Stx, size}
use Rattle.model.specs.Trees.{Tree}
use Rattle.model.specs.Resolving.{Bind}
use Rattle.model.specs.Competing.{Rivals, no_rivals}
use Rattle.model.specs.Reading.{got, symbols, Image, read_syntax, read_tree_image, read_image}
use Rattle.model.specs.Writing.{syntax_bytes, tree_image_bytes}
use Rattle.model.specs.Meanings.{core_only, is_among, nowhere}
use Rattle.model.specs.Steps.{State, ok}
use Rattle.model.specs.Parsing.{parse}
use Rattle.model.specs.Jobs.{Ending, refused, written, Result, budget_fits, lent, with_image, start, worked, fitted, reached, expand_root, parse_root, evaluate_root, closed, expand_ending, parse_ending, evaluate_ending, expand_job, parse_job, evaluate_job}
use borrow.Author.Tests.{ne_eqb}
use Rattle.laws.proofs.Stable.{Later, same}
use Rattle.laws.proofs.StepLaws.{spend}
use Rattle.codec_laws.specs.WellFormed.{Bytes, SyntaxFits, TreeImageFits}
use Rattle.codec_laws.proofs.ImageLaws.{syntax_read_keeps_limits, syntax_read_then_written, syntax_written_then_read, tree_written_then_read}
use Rattle.addresses.specs.Charge.{entry_charge, parse_charge}
use Rattle.addresses.specs.OneNameOneAddress.{function_names, AllDifferent, NoneBelow, image_written, OneNameOneAddress}
use Rattle.addresses.proofs.Outcomes.{Outcome}
use Rattle.addresses.proofs.Evaluation.{Gave}
use Rattle.addresses.proofs.Readable.{evaluate-root}
use Rattle.addresses.proofs.Meanings.{vars}
use Rattle.addresses.proofs.Costs.{Costs, charge_costs, costs_then, costs_enough, costs_short}
use Rattle.addresses.proofs.Shorter.{image_shorter}
use Rattle.addresses.proofs.Results.{Expanded, Rise}
use Rattle.addresses.proofs.ParseCharge.{parse_spends, cost_is_charge}
use Rattle.addresses.proofs.Endings.{Wrote, nothing_wrote, job_wrote, fitted_case, worked_case, image_case, phase_case, parse_root-is, expand_work, parse_work, evaluate_work, expand_ending-is, parse_ending-is, evaluate_ending-is, expand_job-is, parse_job-is, evaluate_job-is, with_read, worked-ok, worked-no, fitted-is, lent-code}
use Rattle.addresses.proofs.ExpandJob.{expand_root_good, outcome_ok, limits_kept, Fine, worked_fine, fitted_fine, lent_fine}

-- ---- names that rise are all different, and none is below where they start

not-below : (n lo hi : ℕ) (l : List ℕ) → n < lo → Rise lo hi l → is_among n l ≡ false
unfolding is_among
not-below n lo hi [] h r = refl
not-below n lo hi (m ∷ l) h r = rw (ne_eqb n m (apart h r.0)) (not-below n (suc m) hi l (after h r.0) r.1)
  where
    apart : n < lo → lo ≤ m → n ≢ m
    apart p q = omega arith

    after : n < lo → lo ≤ m → n < suc m
    after p q = omega arith

rise_different : (lo hi : ℕ) (l : List ℕ) → Rise lo hi l → AllDifferent l
rise_different lo hi [] r = tt
rise_different lo hi (n ∷ l) r = (not-below n (suc n) hi l (le_refl (suc n)) r.1, rise_different (suc n) hi l r.1)

rise_none_below : (least lo hi : ℕ) (l : List ℕ) → least ≤ lo → Rise lo hi l → NoneBelow least l
rise_none_below least lo hi [] h r = tt
rise_none_below least lo hi (n ∷ l) h r = (le_trans h r.0, rise_none_below least (suc n) hi l (le_trans (le_trans h r.0) (up n)) r.1)
  where
    up : (m : ℕ) → m ≤ suc m
    up m = omega arith

-- ---- what a run of the expand job that writes b at phase 0 was

record Ran (image : List ℕ) (budget : ℕ) (b : List ℕ) : Type 0 where
  i : Image Stx
  rest : List ℕ
  read : read_image read_syntax image ≡ got i rest
  r : Stx
  s : State
  work : expand_root 0 i.root (start budget i) ≡ ok r s
  bytes : syntax_bytes (reached i.head s) s.binds r ≡ b
  short : length b ≤ most_image

expand_wrote : (image : List ℕ) (budget room : ℕ) → Wrote (Ran image budget) (expand_ending image 0 budget room)
expand_wrote image budget room =
    subst W (sym (expand_ending-is image 0 budget room))
    (phase_case W no 0 (with_image (read_image read_syntax image) (expand_work 0 budget room))
    (image_case W no (read_image read_syntax image) (expand_work 0 budget room) (λ i rest e.
    worked_case W no budget (expand_root 0 i.root (start budget i)) _ (λ r s q.
    fitted_case W no room (syntax_bytes (reached i.head s) s.binds r) (budget - s.left) (λ n.
    record { i = i; rest = rest; read = e; r = r; s = s; work = q; bytes = refl; short = n })))))
  where
    W : Ending → Type 0
    W = Wrote (Ran image budget)

    no : (r : Refusal) (p : Rivals) (u : ℕ) → Wrote (Ran image budget) (refused r p u)
    no = nothing_wrote (Ran image budget)

-- ---- the parse job on what was written, and the evaluate job on what that writes

module _ (image : List ℕ) (is-bytes : Bytes image) (budget : ℕ) (b : List ℕ) (run : Ran image budget b) where
  given : Image Stx
  given = run.i

  fits : SyntaxFits run.i.head run.i.binds run.i.root
  fits = syntax_read_keeps_limits image run.rest run.i is-bytes run.read

  k : ℕ
  k = symbols run.i.head

  x : Expanded k most_entries 0 core_only (start budget run.i) run.r run.s
  unfolding k
  x = outcome_ok (subst (Outcome Stx (Expanded k most_entries 0 core_only (start budget run.i))) run.work (expand_root_good 0 budget run.i fits))

  -- the image that was written
  result : Image Stx
  result = record { head = reached run.i.head run.s; binds = run.s.binds; root = run.r }

  result_fits : SyntaxFits result.head result.binds result.root
  unfolding result k
  result_fits =
      limits_kept 0 budget run.i run.r run.s fits x (subst (λ (z : List ℕ). length z ≤ most_image) (sym run.bytes) run.short)

  result-is : read_image read_syntax b ≡ got result []
  unfolding result
  result-is =
      subst (λ (z : List ℕ). read_image read_syntax z ≡ got result []) run.bytes (syntax_written_then_read result.head result.binds result.root result_fits)

  given_is : read_image read_syntax image ≡ got given []
  unfolding given
  given_is =
      subst (λ (z : List ℕ). read_image read_syntax z ≡ got run.i []) (syntax_read_then_written image run.rest run.i is-bytes run.read)
      (syntax_written_then_read run.i.head run.i.binds run.i.root fits)

  tree : Tree
  unfolding k
  tree = x.tree

  -- ---- parse

  -- the cost is the charge
  cost_is : x.cost ≡ entry_charge 0 run.s.binds run.r
  unfolding result
  cost_is =
      cost_is_charge x.tree x.cost (entry_charge 0 run.s.binds run.r) st (x.parses most_entries (le_refl most_entries) st same)
      (parse_spends most_entries 0 run.s.binds run.r st (record { are = refl; ascending = result_fits.ascending })) refl
    where
      st : State
      st = record { left = x.cost; names = run.s.names; scopes = run.s.scopes; binds = run.s.binds; prunable = no_scopes; uses = no_scopes }

  -- with any units that cover it
  tree_is : (n : ℕ) → entry_charge 0 result.binds result.root ≤ n
      → parse most_entries 0 result.root (start n result) ≡ ok tree (start (n - entry_charge 0 result.binds result.root) result)
  unfolding result tree start spend
  tree_is n h =
      costs_enough (subst (λ (c : ℕ). Costs Tree x.tree c (start n result) (parse most_entries 0 run.r (start n result))) cost_is
      (x.parses most_entries (le_refl most_entries) (start n result) same)) h

  parse_costs : (st : State) → st.binds ≡ run.s.binds → Costs Tree tree (parse_charge run.s.binds run.r) st (parse_root run.r st)
  unfolding tree parse_charge spend
  parse_costs st q =
      subst (λ (n : ℕ). Costs Tree x.tree (size run.r + n) st (parse_root run.r st)) cost_is
      (subst (Costs Tree x.tree (size run.r + x.cost) st) (sym (parse_root-is run.r st))
      (costs_then (λ v. parse most_entries 0 run.r) (charge_costs (size run.r) st)
      (x.parses most_entries (le_refl most_entries) (spend (size run.r) st)
      (subst (λ (z : List Bind). Later run.s.scopes run.s.binds z) (sym q) same))))

  charged : ℕ
  charged = parse_charge result.binds result.root

  no_longer : length (tree_image_bytes result.head tree) ≤ length b
  unfolding result tree
  no_longer =
      subst (λ (z : List ℕ). length (tree_image_bytes result.head x.tree) ≤ length z) run.bytes
      (image_shorter result.head run.s.binds run.r x.tree x.tree_shorter)

  parse-work : (n room : ℕ) → parse_charge result.binds result.root ≤ n → length (tree_image_bytes result.head tree) ≤ room
      → parse_work n room result ≡ written (tree_image_bytes result.head tree) (parse_charge result.binds result.root)
  unfolding result start spend reached charged
  parse-work n room h q =
      worked-ok n (parse_root run.r (start n result)) _ tree (spend charged (start n result)) (costs_enough (parse_costs (start n result) refl) h)
      ∙ fitted-is room (tree_image_bytes result.head tree) (n - (n - charged)) q (le_trans no_longer run.short)
      ∙ ap (written (tree_image_bytes result.head tree)) (back n charged h)
    where
      back : (a c : ℕ) → c ≤ a → a - (a - c) ≡ c
      back a c p = omega arith

  parse-short : (n room : ℕ) → n < parse_charge result.binds result.root → (u : ℕ) × (parse_work n room result ≡ refused over_budget no_rivals u)
  unfolding result start
  parse-short n room h =
      let e = costs_short (parse_costs (start n result) refl) h in
      (n - e.0, worked-no n (parse_root run.r (start n result)) _ over_budget e.0 e.1)

  parse-ending : (n room : ℕ) → parse_ending b n room ≡ parse_work n room result
  parse-ending n room = parse_ending-is b n room ∙ with_read (read_image read_syntax b) (parse_work n room) result [] result-is

  parses : (n : ℕ) (table output : List ℕ) → budget_fits n (length table) ≡ true → length (tree_image_bytes result.head tree) ≤ length output
      → parse_charge result.binds result.root ≤ n
      → parse_job b n table output ≡ lent n table output (written (tree_image_bytes result.head tree) (parse_charge result.binds result.root))
  parses n table output f q h =
      parse_job-is b n table output ∙ ap (lent n table output) (parse-ending n (length output) ∙ parse-work n (length output) h q)

  parses_no_less : (n : ℕ) (table output : List ℕ) → budget_fits n (length table) ≡ true → n < parse_charge result.binds result.root
      → (parse_job b n table output).answer.code ≡ 19
  parses_no_less n table output f h =
      let e = parse-short n (length output) h in
      ap (λ (z : Result). z.answer.code) (parse_job-is b n table output ∙ ap (lent n table output) (parse-ending n (length output) ∙ e.1))
      ∙ lent-code n table output over_budget no_rivals e.0 f

  -- ---- evaluate

  tree-fits : TreeImageFits result.head tree
  unfolding result tree k reached symbols
  tree-fits = record {
    head-fits = result_fits.head-fits;
    root-fits = x.tree-fits;
    shallow = le_trans x.tree-shallow x.shallow;
    short = le_trans no_longer run.short;
  }

  tree-read : Image Tree
  tree-read = record { head = result.head; binds = []; root = tree }

  tree-reads : read_image read_tree_image (tree_image_bytes result.head tree) ≡ got tree-read []
  unfolding tree-read
  tree-reads = tree_written_then_read result.head tree tree-fits

  owned : closed [] tree ≡ true
  unfolding tree vars
  owned = x.owned

  evaluate_fine : (n room : ℕ) → Fine (evaluate_work n room tree-read)
  unfolding tree-read
  evaluate_fine n room = go (closed [] tree) owned
    where
      s₀ : State
      s₀ = start n tree-read

      work : Outcome Tree (Gave (symbols result.head) nowhere s₀) (evaluate_root tree s₀)
      work = evaluate-root n tree-read tree-fits owned

      go : (t : Bool) → t ≡ true
          → Fine (when t then worked n (evaluate_root tree s₀) (λ r s. fitted room (tree_image_bytes (reached result.head s) r) (n - s.left)) else refused unowned no_rivals 0)
      go true e = worked_fine n _ (λ r s. fitted_fine room (tree_image_bytes (reached result.head s) r) (n - s.left)) work
      go false e = absurd (false≢true e)

  never_unowned : (n : ℕ) (table output : List ℕ) → (evaluate_job (tree_image_bytes result.head tree) n table output).answer.code ≡ 3 → ⊥
  never_unowned n table output q =
      lent_fine n table output (evaluate_ending tree_image' n (length output))
      (subst Fine (sym (evaluate_ending-is tree_image' n (length output) ∙ with_read (read_image read_tree_image tree_image') (evaluate_work n (length output)) tree-read [] tree-reads))
      (evaluate_fine n (length output)))
      (ap (λ (z : Result). z.answer.code) (sym (evaluate_job-is tree_image' n table output)) ∙ q)
    where
      tree_image' : List ℕ
      tree_image' = tree_image_bytes result.head tree

  start-names : (start budget run.i).names ≡ given.head.names
  unfolding start given
  start-names = refl

  holds : OneNameOneAddress image b
  unfolding k tree tree-read
  holds = record {
    given = given;
    given_is = given_is;
    result = result;
    result-is = result-is;
    tree = tree;
    tree_is = tree_is;
    parses = parses;
    parses_no_less = parses_no_less;
    readable = tree-reads;
    no_longer = no_longer;
    owned = owned;
    different = rise_different (start budget run.i).names run.s.names (function_names tree) x.rises;
    fresh = rise_none_below given.head.names (start budget run.i).names run.s.names (function_names tree) (le_of_eq (sym start-names)) x.rises;
    never_unowned = never_unowned;
  }

-- ---- the theorem

pub one_name_one_address : (image : List ℕ) → Bytes image → (budget : ℕ) (table output : List ℕ)
    → (expand_job image 0 budget table output).answer.code ≡ 0 → OneNameOneAddress image (image_written (expand_job image 0 budget table output))
one_name_one_address image is-bytes budget table output q =
    let e = expand_ending image 0 budget (length output) in
    let job = expand_job-is image 0 budget table output in
    subst (λ (z : Result). OneNameOneAddress image (image_written z)) (sym job)
    (holds image is-bytes budget (image_written (lent budget table output e))
    (job_wrote (Ran image budget) budget table output e (expand_wrote image budget (length output)) (ap (λ (z : Result). z.answer.code) (sym job) ∙ q)))
