-- T-01 behind condition 3: what expand accepts at phase 0 and parse then gives, if the panel check accepts it, has one address for each
-- name and one name for each address.
use mathlib.Core.Path.{◌≡◌, refl, sym, ap, ◌∙◌, subst}
use Prim.Native.Nat.{ℕ, ◌+◌, ◌-◌, ◌≤◌}
use native.Mathlib.Omega.{arith}
use mathlib.Core.Bool.{Bool, true, false}
use mathlib.Core.List.{List, []}
use lib.Dec.{leb}
use lib.ListN.{length, drop, replicate, length-replicate}
use Rattle.model.specs.Refusals.{Refusal}
use Rattle.model.specs.Trees.{Tree}
use Rattle.model.specs.Competing.{Rivals}
use Rattle.model.specs.Reading.{Image, read_syntax, read_image}
use Rattle.model.specs.Writing.{tree_image_bytes}
use Rattle.model.specs.Jobs.{Ending, refused, written, Result, lent, budget_fits, answer_of, output_after, start, reached, parse_root, parse_ending, expand_job, parse_job}
use borrow.Author.Tests.{leb-true, leb-false}
use Rattle.codec_laws.specs.WellFormed.{Bytes}
use Rattle.codec_laws.proofs.NumberTrip.{got-value}
use Rattle.addresses.specs.Charge.{parse_charge}
use Rattle.addresses.specs.OneNameOneAddress.{AllDifferent, function_names, image_written, OneNameOneAddress}
use Rattle.addresses.proofs.Endings.{Wrote, nothing_wrote, job_wrote, fitted_case, worked_case, image_case, parse_work, parse_ending-is, parse_job-is, with_read, worked-ok, fitted-is, take_whole}
use Rattle.addresses.proofs.Condition3.{one_name_one_address}
use Rattle.requests.specs.Panel.{bits_of, panel_job}
use Rattle.requests.specs.OneToOne.{OneToOne, Accepted}
use Rattle.requests.proofs.Panel.{different-one_to_one, accepted}

-- what parse writes, it writes wherever there is room for it
abbrev Everywhere : List ℕ → ℕ → List ℕ → Type 0
Everywhere image budget b = (room : ℕ) → length b ≤ room → (u : ℕ) × (parse_ending image budget room ≡ written b u)

parse_everywhere : (image : List ℕ) (budget room : ℕ) → Wrote (Everywhere image budget) (parse_ending image budget room)
parse_everywhere image budget room =
    subst W (sym (parse_ending-is image budget room))
    (image_case W no (read_image read_syntax image) (parse_work budget room) (λ i rest e.
    worked_case W no budget (parse_root i.root (start budget i)) _ (λ r s q.
    fitted_case W no room (tree_image_bytes (reached i.head s) r) (budget - s.left) (λ n room' h. (
      budget - s.left,
      parse_ending-is image budget room' ∙ with_read (read_image read_syntax image) (parse_work budget room') i rest e
          ∙ worked-ok budget (parse_root i.root (start budget i)) _ r s q
          ∙ fitted-is room' (tree_image_bytes (reached i.head s) r) (budget - s.left) h n,
    )))))
  where
    W : Ending → Type 0
    W = Wrote (Everywhere image budget)

    no : (r : Refusal) (p : Rivals) (u : ℕ) → Wrote (Everywhere image budget) (refused r p u)
    no = nothing_wrote (Everywhere image budget)

image-written : (budget : ℕ) (table output b : List ℕ) (u : ℕ) → budget_fits budget (length table) ≡ true → image_written (lent budget table output (written b u)) ≡ b
unfolding image_written lent answer_of output_after
image-written budget table output b u f = rw f (take_whole b (drop (length b) output))

-- a job that is lent too little answers 5
lent-small : (budget : ℕ) (table output : List ℕ) (e : Ending) → budget_fits budget (length table) ≡ false → (lent budget table output e).answer.code ≡ 5
unfolding lent answer_of
lent-small budget table output e f = rw f

lent-enough : (budget : ℕ) (table output : List ℕ) (e : Ending) → (lent budget table output e).answer.code ≡ 0 → budget_fits budget (length table) ≡ true
lent-enough budget table output e q = go (budget_fits budget (length table)) refl
  where
    go : (t : Bool) → budget_fits budget (length table) ≡ t → budget_fits budget (length table) ≡ true
    go true f = f
    go false f = let five = lent-small budget table output e f in let z : ◌≡◌ {A = ℕ} 5 0 = sym five ∙ q in absurd (omega arith)

-- parsing that is not refused writes the tree of condition 3
pub parse_writes_the_tree : {image expanded : List ℕ} (o : OneNameOneAddress image expanded) (budget : ℕ) (table output : List ℕ)
    → (parse_job expanded budget table output).answer.code ≡ 0
    → image_written (parse_job expanded budget table output) ≡ tree_image_bytes o.result.head o.tree
parse_writes_the_tree {image} {expanded} o budget table output q =
    ap image_written (parse_job-is expanded budget table output) ∙ same
  where
    tree : List ℕ
    tree = tree_image_bytes o.result.head o.tree

    charged : ℕ
    charged = parse_charge o.result.binds o.result.root

    job : Result
    job = lent budget table output (parse_ending expanded budget (length output))

    code : job.answer.code ≡ 0
    code = ap (λ (z : Result). z.answer.code) (sym (parse_job-is expanded budget table output)) ∙ q

    fits : budget_fits budget (length table) ≡ true
    fits = lent-enough budget table output (parse_ending expanded budget (length output)) code

    enough : charged ≤ budget
    enough = go (leb charged budget) refl
      where
        go : (t : Bool) → leb charged budget ≡ t → charged ≤ budget
        go true e = leb-true charged budget e
        go false e =
            let z : ◌≡◌ {A = ℕ} 19 0 = sym (o.parses_no_less budget table output fits (leb-false charged budget e)) ∙ q in absurd (omega arith)

    -- room for both
    room : List ℕ
    room = replicate (length (image_written job) + length tree) 0

    everywhere : Everywhere expanded budget (image_written job)
    everywhere =
        job_wrote (Everywhere expanded budget) budget table output (parse_ending expanded budget (length output))
        (parse_everywhere expanded budget (length output)) code

    ends : (u : ℕ) × (parse_ending expanded budget (length room) ≡ written (image_written job) u)
    ends = everywhere (length room) (omega (arith, length-replicate {A = ℕ} (length (image_written job) + length tree) 0))

    both : lent budget table room (written (image_written job) ends.0) ≡ lent budget table room (written tree charged)
    both =
        ap (lent budget table room) (sym ends.1) ∙ sym (parse_job-is expanded budget table room)
        ∙ o.parses budget table room fits (omega (arith, length-replicate {A = ℕ} (length (image_written job) + length tree) 0)) enough

    same : image_written job ≡ tree
    same =
        sym (image-written budget table room (image_written job) ends.0 fits) ∙ ap image_written both
        ∙ image-written budget table room tree charged fits

-- ---- the theorem: of an image that is expanded at phase 0, parsed and checked, the names listed are one-to-one with their addresses

pub record PanelOfExpanded (tree bits : List ℕ) : Type 0 where
  pub says : Accepted tree bits
  pub different : AllDifferent (bits_of says.read.root)
  pub one_to_one : OneToOne (bits_of says.read.root)

pub panel_of_condition_3 : {image expanded : List ℕ} (o : OneNameOneAddress image expanded) (bits : List ℕ)
    → (panel_job (tree_image_bytes o.result.head o.tree) bits).answer.code ≡ 0
    → PanelOfExpanded (tree_image_bytes o.result.head o.tree) bits
unfolding bits_of
panel_of_condition_3 o bits q =
    let a = accepted (tree_image_bytes o.result.head o.tree) bits q in
    let i : Image Tree = record { head = o.result.head; binds = []; root = o.tree } in
    let e : i ≡ a.read = got-value i a.read [] a.rest (sym o.readable ∙ a.read_is) in
    let d : AllDifferent (function_names a.read.root) = subst (λ (z : Image Tree). AllDifferent (function_names z.root)) e o.different in
    record { says = a; different = d; one_to_one = different-one_to_one (function_names a.read.root) d }

pub panel_after_parse : (image : List ℕ) → Bytes image → (budget : ℕ) (table output : List ℕ)
    → (expand_job image 0 budget table output).answer.code ≡ 0
    → (budget' : ℕ) (table' output' : List ℕ)
    → (parse_job (image_written (expand_job image 0 budget table output)) budget' table' output').answer.code ≡ 0
    → (bits : List ℕ)
    → (panel_job (image_written (parse_job (image_written (expand_job image 0 budget table output)) budget' table' output')) bits).answer.code ≡ 0
    → PanelOfExpanded (image_written (parse_job (image_written (expand_job image 0 budget table output)) budget' table' output')) bits
panel_after_parse image is-bytes budget table output q budget' table' output' q' bits =
    let o = one_name_one_address image is-bytes budget table output q in
    subst (λ (z : List ℕ). (panel_job z bits).answer.code ≡ 0 → PanelOfExpanded z bits) (sym (parse_writes_the_tree o budget' table' output' q'))
    (panel_of_condition_3 o bits)
