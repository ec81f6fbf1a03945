-- Document 01, 'Sample rungs': every sample marked P, in one list and in the paper's order, each through its job, from image bytes to the whole
-- answer: code, units, name, length, places, output and table. The bytes are those of Images. After the budget `names` has the name and the units,
-- `refuses` the output, the code and the units, `writes` the units and the image; `rivals-at` has the two places first.
use mathlib.Core.Path.{◌≡◌, refl}
use mathlib.Core.List.{[]}
use Rattle.model.specs.Jobs.{resolve_job, expand_job, parse_job, evaluate_job}
use Rattle.cases.proofs.Notation.{lent_table, lent_output, refuses, rivals-at, names, writes, resolved, expanded, parsed, evaluated}
use Rattle.cases.proofs.Images.{given_1, given_2, given_3, given_4, given_5, given_6, given_7, image_7, tree_7, given_8, given_9, given_10, image_10, tree_10, given_11, given_12, image_12, tree_12, given_13, tree_13}

pub record Samples : Type 0 where
  -- resolving: x{}, no bindings
  pub case_1 : resolved 0 given_1 ≡ names 16 4 1
  -- x{1,2}; x{} to 6, x{1} to 7
  pub case_2 : resolved 0 given_2 ≡ names 16 7 1
  -- x{1,2}; x{1} to 6, x{2} to 7
  pub case_3 : resolved 0 given_3 ≡ rivals-at 1 2 16 [] 1
  -- as 3 with x{1,2} to 8
  pub case_4 : resolved 0 given_4 ≡ names 16 8 1
  -- x{2}; x{1} to 6
  pub case_5 : resolved 0 given_5 ≡ names 16 4 1
  -- x{} at phase 0 and {1,2} at phase 1; x{1} to 6
  pub case_6_phase_0 : resolved 0 given_6 ≡ names 16 4 1
  pub case_6_phase_1 : resolved 1 given_6 ≡ names 16 6 1
  -- expanding (lambda x x), and parsing what that wrote
  pub case_7_expanded : expanded given_7 ≡ writes 400 8 image_7
  pub case_7_parsed : parsed image_7 ≡ writes 400 6 tree_7
  -- x
  pub case_8 : expanded given_8 ≡ refuses 400 lent_output 7 2
  -- ()
  pub case_9 : expanded given_9 ≡ refuses 400 lent_output 8 2
  -- (lambda lambda lambda): core words are not compared by spelling once a lambda has bound them
  pub case_10_expanded : expanded given_10 ≡ writes 400 8 image_10
  pub case_10_parsed : parsed image_10 ≡ writes 400 6 tree_10
  -- (let-syntax m (lambda z (syntax x)) (lambda x (m)))
  pub case_11 : expanded given_11 ≡ refuses 400 lent_output 7 47
  -- (lambda x (let-syntax m (lambda z (syntax x)) (lambda x (m))))
  pub case_12_expanded : expanded given_12 ≡ writes 400 66 image_12
  pub case_12_parsed : parsed image_12 ≡ writes 400 10 tree_12
  -- evaluating (function 4, body variable 4) applied to number 9, with budgets 9 and 8
  pub case_13 : evaluated 9 given_13 ≡ writes 9 9 tree_13
  pub case_13_budget_8 : evaluated 8 given_13 ≡ refuses 8 lent_output 19 8

pub samples : Samples
unfolding resolve_job expand_job parse_job evaluate_job lent_table lent_output
samples =
    record {
      case_1 = refl;
      case_2 = refl;
      case_3 = refl;
      case_4 = refl;
      case_5 = refl;
      case_6_phase_0 = refl;
      case_6_phase_1 = refl;
      case_7_expanded = refl;
      case_7_parsed = refl;
      case_8 = refl;
      case_9 = refl;
      case_10_expanded = refl;
      case_10_parsed = refl;
      case_11 = refl;
      case_12_expanded = refl;
      case_12_parsed = refl;
      case_13 = refl;
      case_13_budget_8 = refl;
    }
