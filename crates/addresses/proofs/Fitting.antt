-- Objects that keep the limits keep them when scopes are added, flipped or pruned, when more is declared, and when they are stripped.
use mathlib.Core.Path.{◌≡◌, refl, ap, ap₂}
use mathlib.Core.Bool.{Bool, true, false}
use Prim.Native.Nat.{ℕ, zero, suc, ◌^◌, ◌≤◌, ◌<◌, max}
use native.Mathlib.Nat.{le_trans, zero-lt-suc, pow-le-pow_right, lt_of_le_of_lt}
use lib.Bits.{or_lt, xor_lt, and_le_r, bit_and}
use lib.Pow.{pow_pos}
use Rattle.model.specs.Choice.{when◌then◌else◌}
use Rattle.model.specs.Scopes.{Scopes, has, only, add, flip, prune}
use Rattle.model.specs.Objects.{Sets, change_at, Stx, atom, list, Stxs, nil, cons, nesting, nestings, on_sets, on_sets_all, add_scope, flip_scope, prune_scopes}
use Rattle.model.specs.Trees.{Tree, var, app, fun, datum, lst, stx, Trees, tnil, tcons, tnesting, tnestings, strip, strip_all}
use Rattle.codec_laws.specs.WellFormed.{StxFits, StxsFit, IsValue, TreeFits, TreesFit, ValuesFit}
use Rattle.codec_laws.proofs.SetTrip.{pow_mono}
use Rattle.laws.specs.Ordered.{SetsIn}

-- ---- more scopes and names

pow_le : {n m : ℕ} → n ≤ m → 2 ^ n ≤ 2 ^ m
pow_le h = pow-le-pow_right {n = 2} (zero-lt-suc 1) h

pub set_more : {n m : ℕ} → n ≤ m → (a : Scopes) → a < 2 ^ n → a < 2 ^ m
set_more h a i = le_trans i (pow_le h)

pub sets_more : {n m : ℕ} → n ≤ m → (c : Sets) → SetsIn n c → SetsIn m c
sets_more h c i = (set_more h c.at0 i.0, set_more h c.at1 i.1, set_more h c.at2 i.2)

mutual
  pub stx-more : (k : ℕ) {n m : ℕ} → n ≤ m → (s : Stx) → StxFits k n s → StxFits k m s
  stx-more k h (atom c a) i = (sets_more h c i.0, i.1)
  stx-more k h (list c l) i = (sets_more h c i.0, stxs_more k h l i.1)

  pub stxs_more : (k : ℕ) {n m : ℕ} → n ≤ m → (l : Stxs) → StxsFit k n l → StxsFit k m l
  stxs_more k h nil i = tt
  stxs_more k h (cons s l) i = (stx-more k h s i.0, stxs_more k h l i.1)

-- from n names and m scopes to n' and m'
mutual
  pub tree-more : (k : ℕ) {n n' m m' : ℕ} → n ≤ n' → m ≤ m' → (t : Tree) → TreeFits k n m t → TreeFits k n' m' t
  tree-more k g h (var x) i = le_trans i g
  tree-more k g h (app f l) i = (tree-more k g h f i.0, trees-more k g h l i.1)
  tree-more k g h (fun x b) i = (le_trans i.0 g, tree-more k g h b i.1)
  tree-more k g h (datum a) i = i
  tree-more k g h (lst l) i = values-more k g h l i
  tree-more k g h (stx s) i = stx-more k h s i

  pub trees-more : (k : ℕ) {n n' m m' : ℕ} → n ≤ n' → m ≤ m' → (l : Trees) → TreesFit k n m l → TreesFit k n' m' l
  trees-more k g h tnil i = tt
  trees-more k g h (tcons t l) i = (tree-more k g h t i.0, trees-more k g h l i.1)

  values-more : (k : ℕ) {n n' m m' : ℕ} → n ≤ n' → m ≤ m' → (l : Trees) → ValuesFit k n m l → ValuesFit k n' m' l
  values-more k g h tnil i = tt
  values-more k g h (tcons t l) i = (i.0, tree-more k g h t i.1, values-more k g h l i.2)

-- ---- scopes added, flipped and pruned

mutual
  unfolding on_sets

  pub on_sets-fits : (k n : ℕ) (f : Sets → Sets) → ((c : Sets) → SetsIn n c → SetsIn n (f c)) → (s : Stx) → StxFits k n s → StxFits k n (on_sets f s)
  on_sets-fits k n f h (atom c a) i = (h c i.0, i.1)
  on_sets-fits k n f h (list c l) i = (h c i.0, on_sets_all-fits k n f h l i.1)

  on_sets_all-fits : (k n : ℕ) (f : Sets → Sets) → ((c : Sets) → SetsIn n c → SetsIn n (f c)) → (l : Stxs) → StxsFit k n l → StxsFit k n (on_sets_all f l)
  on_sets_all-fits k n f h nil i = tt
  on_sets_all-fits k n f h (cons s l) i = (on_sets-fits k n f h s i.0, on_sets_all-fits k n f h l i.1)

pub change_at_in : (n : ℕ) (f : Scopes → Scopes) → ((a : Scopes) → a < 2 ^ n → f a < 2 ^ n) → (ph : ℕ) (c : Sets) → SetsIn n c
    → SetsIn n (change_at f ph c)
unfolding change_at
change_at_in n f h zero c i = (h c.at0 i.0, i.1, i.2)
change_at_in n f h (suc zero) c i = (i.0, h c.at1 i.1, i.2)
change_at_in n f h (suc (suc p)) c i = (i.0, i.1, h c.at2 i.2)

only-small : (j n : ℕ) → j ≤ n → only j < 2 ^ n
unfolding only
only-small zero n h = pow_pos n
only-small (suc j) n h = pow_mono j n h

pub add_in : (j n : ℕ) → j ≤ n → (a : Scopes) → a < 2 ^ n → add j a < 2 ^ n
unfolding add
add_in j n h a q = or_lt n (only j) a (only-small j n h) q

prune_in : (p : Scopes) (n : ℕ) → (a : Scopes) → a < 2 ^ n → prune p a < 2 ^ n
unfolding prune
prune_in p n a q = xor_lt n a (bit_and p a) q (lt_of_le_of_lt (and_le_r p a) q)

flip_in_lem : (j n : ℕ) → j ≤ n → (a : Scopes) → a < 2 ^ n → flip j a < 2 ^ n
unfolding flip
flip_in_lem j n h a q = go (has j a)
  where
    go : (t : Bool) → (when t then prune (only j) a else add j a) < 2 ^ n
    go true = prune_in (only j) n a q
    go false = add_in j n h a q

pub add_scope_fits : (k j n ph : ℕ) → j ≤ n → (s : Stx) → StxFits k n s → StxFits k n (add_scope j ph s)
unfolding add_scope
add_scope_fits k j n ph h s i = on_sets-fits k n (change_at (add j) ph) (change_at_in n (add j) (add_in j n h) ph) s i

pub flip_scope-fits : (k j n ph : ℕ) → j ≤ n → (s : Stx) → StxFits k n s → StxFits k n (flip_scope j ph s)
unfolding flip_scope
flip_scope-fits k j n ph h s i = on_sets-fits k n (change_at (flip j) ph) (change_at_in n (flip j) (flip_in_lem j n h) ph) s i

pub prune_scopes-fits : (k : ℕ) (p : Scopes) (n ph : ℕ) (s : Stx) → StxFits k n s → StxFits k n (prune_scopes p ph s)
unfolding prune_scopes
prune_scopes-fits k p n ph s i = on_sets-fits k n (change_at (prune p) ph) (change_at_in n (prune p) (prune_in p n) ph) s i

-- a change of sets changes no nesting
mutual
  unfolding on_sets nesting

  on_sets-nesting : (f : Sets → Sets) (s : Stx) → nesting (on_sets f s) ≡ nesting s
  on_sets-nesting f (atom c a) = refl
  on_sets-nesting f (list c l) = ap suc (on_sets_all-nesting f l)

  on_sets_all-nesting : (f : Sets → Sets) (l : Stxs) → nestings (on_sets_all f l) ≡ nestings l
  on_sets_all-nesting f nil = refl
  on_sets_all-nesting f (cons s l) = ap₂ max (on_sets-nesting f s) (on_sets_all-nesting f l)

pub add_scope_nesting : (j ph : ℕ) (s : Stx) → nesting (add_scope j ph s) ≡ nesting s
unfolding add_scope
add_scope_nesting j ph s = on_sets-nesting (change_at (add j) ph) s

pub flip_scope-nesting : (j ph : ℕ) (s : Stx) → nesting (flip_scope j ph s) ≡ nesting s
unfolding flip_scope
flip_scope-nesting j ph s = on_sets-nesting (change_at (flip j) ph) s

pub prune_scopes-nesting : (p : Scopes) (ph : ℕ) (s : Stx) → nesting (prune_scopes p ph s) ≡ nesting s
unfolding prune_scopes
prune_scopes-nesting p ph s = on_sets-nesting (change_at (prune p) ph) s

-- ---- stripped data

strip-value : (s : Stx) → IsValue (strip s)
unfolding strip
strip-value (atom c a) = tt
strip-value (list c l) = tt

mutual
  unfolding strip

  pub strip-fits : (k n m : ℕ) (s : Stx) → StxFits k m s → TreeFits k n m (strip s)
  strip-fits k n m (atom c a) i = i.1
  strip-fits k n m (list c l) i = strip_all-fits k n m l i.1

  strip_all-fits : (k n m : ℕ) (l : Stxs) → StxsFit k m l → ValuesFit k n m (strip_all l)
  strip_all-fits k n m nil i = tt
  strip_all-fits k n m (cons s l) i = (strip-value s, strip-fits k n m s i.0, strip_all-fits k n m l i.1)

mutual
  unfolding strip nesting tnesting

  pub strip-nesting : (s : Stx) → tnesting (strip s) ≡ nesting s
  strip-nesting (atom c a) = refl
  strip-nesting (list c l) = ap suc (strip_all-nesting l)

  strip_all-nesting : (l : Stxs) → tnestings (strip_all l) ≡ nestings l
  strip_all-nesting nil = refl
  strip_all-nesting (cons s l) = ap₂ max (strip-nesting s) (strip_all-nesting l)
