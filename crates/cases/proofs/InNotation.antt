-- What the bytes of Images say: the definitions write them for the object and bindings, or the tree, of their comments. The samples do not lean on
-- this.
use mathlib.Core.Path.{◌≡◌, refl}
use mathlib.Core.List.{[], ◌∷◌}
use Rattle.model.specs.Objects.{number, no_sets, Stx, nil}
use Rattle.model.specs.Trees.{var, app, fun, datum, tnil, tcons}
use Rattle.model.specs.Writing.{syntax_bytes, tree_image_bytes}
use Rattle.cases.proofs.Notation.{s1, s2, s12, s3, s124, id, id01, ls, ls_with, ◌▹◌, lambda', let_syntax', syntax', to, wx, wm, wz, head, image_xy, image_xmz}
use Rattle.cases.proofs.Images.{given_1, given_2, given_3, given_4, given_5, given_6, given_7, image_7, tree_7, given_8, given_9, given_10, image_10, tree_10, given_11, given_12, image_12, tree_12, given_13, tree_13}

-- (let-syntax m (lambda z (syntax x)) (lambda x (m)))
abbrev rung_11 : Stx
rung_11 =
    ls (let_syntax' ▹ id 5 0 ▹ ls (lambda' ▹ id 6 0 ▹ ls (syntax' ▹ id 4 0 ▹ nil) ▹ nil) ▹ ls (lambda' ▹ id 4 0 ▹ ls (id 5 0 ▹ nil) ▹ nil) ▹ nil)

-- (lambda x{1} (lambda{1,2} x{1,2,4} x{1}){1,2})
abbrev result_12 : Stx
result_12 = ls (lambda' ▹ id 4 s1 ▹ ls_with s12 (id 0 s12 ▹ id 4 s124 ▹ id 4 s1 ▹ nil) ▹ nil)

pub record InNotation : Type 0 where
  pub given_1_is : image_xy [] (id 4 0) ≡ given_1
  pub given_2_is : image_xy (to 4 0 6 ∷ to 4 s1 7 ∷ []) (id 4 s12) ≡ given_2
  pub given_3_is : image_xy (to 4 s1 6 ∷ to 4 s2 7 ∷ []) (id 4 s12) ≡ given_3
  pub given_4_is : image_xy (to 4 s1 6 ∷ to 4 s12 8 ∷ to 4 s2 7 ∷ []) (id 4 s12) ≡ given_4
  pub given_5_is : image_xy (to 4 s1 6 ∷ []) (id 4 s2) ≡ given_5
  pub given_6_is : image_xy (to 4 s1 6 ∷ []) (id01 4 0 s12) ≡ given_6
  pub given_7_is : syntax_bytes (head (wx ∷ []) 5 0) [] (ls (lambda' ▹ id 4 0 ▹ id 4 0 ▹ nil)) ≡ given_7
  pub image_7_is : syntax_bytes (head (wx ∷ []) 6 1) (to 4 s1 5 ∷ []) (ls (lambda' ▹ id 4 s1 ▹ id 4 s1 ▹ nil)) ≡ image_7
  pub tree_7_is : tree_image_bytes (head (wx ∷ []) 6 1) (fun 5 (var 5)) ≡ tree_7
  pub given_8_is : syntax_bytes (head (wx ∷ []) 5 0) [] (id 4 0) ≡ given_8
  pub given_9_is : syntax_bytes (head (wx ∷ []) 5 0) [] (ls nil) ≡ given_9
  pub given_10_is : syntax_bytes (head [] 4 0) [] (ls (lambda' ▹ lambda' ▹ lambda' ▹ nil)) ≡ given_10
  pub image_10_is : syntax_bytes (head [] 5 1) (to 0 s1 4 ∷ []) (ls (lambda' ▹ id 0 s1 ▹ id 0 s1 ▹ nil)) ≡ image_10
  pub tree_10_is : tree_image_bytes (head [] 5 1) (fun 4 (var 4)) ≡ tree_10
  pub given_11_is : image_xmz rung_11 ≡ given_11
  pub given_12_is : image_xmz (ls (lambda' ▹ id 4 0 ▹ rung_11 ▹ nil)) ≡ given_12
  pub image_12_is : syntax_bytes (head (wx ∷ wm ∷ wz ∷ []) 11 6) (to 4 s1 7 ∷ to 4 s124 10 ∷ to 5 s12 8 ∷ to 6 s3 9 ∷ []) result_12 ≡ image_12
  pub tree_12_is : tree_image_bytes (head (wx ∷ wm ∷ wz ∷ []) 11 6) (fun 7 (fun 10 (var 7))) ≡ tree_12
  pub given_13_is : tree_image_bytes (head [] 5 0) (app (fun 4 (var 4)) (tcons (datum (number 9)) tnil)) ≡ given_13
  pub tree_13_is : tree_image_bytes (head [] 5 0) (datum (number 9)) ≡ tree_13

pub in_notation : InNotation
unfolding syntax_bytes tree_image_bytes no_sets
in_notation =
    record {
      given_1_is = refl;
      given_2_is = refl;
      given_3_is = refl;
      given_4_is = refl;
      given_5_is = refl;
      given_6_is = refl;
      given_7_is = refl;
      image_7_is = refl;
      tree_7_is = refl;
      given_8_is = refl;
      given_9_is = refl;
      given_10_is = refl;
      image_10_is = refl;
      tree_10_is = refl;
      given_11_is = refl;
      given_12_is = refl;
      image_12_is = refl;
      tree_12_is = refl;
      given_13_is = refl;
      tree_13_is = refl;
    }
