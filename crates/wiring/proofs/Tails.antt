-- What is left after a reading is a tail of what was there, and for two bytes that were taken there is a word at most.
use Prim.Native.Nat.{ℕ, zero, suc, ◌+◌, ◌-◌, ◌*◌, ◌≤◌, ◌<◌}
use mathlib.Core.Path.{◌≡◌, ap}
use mathlib.Core.Bool.{Bool, true, false}
use mathlib.Core.List.{List, [], ◌∷◌, ◌++◌}
use native.Mathlib.Omega.{arith}
use lib.Dec.{eqb, ltb}
use lib.ListN.{length, length-append}
use Rattle.model.specs.Choice.{when◌then◌else◌}
use Rattle.model.specs.Refusals.{layout}
use Rattle.model.specs.Reading as m
use Rattle.model.specs.Reading.{Reader, got, need, num}
use Rattle.codec_laws.proofs.NumberTrip.{fault≢got, got-rest}
use Rattle.codec_laws.proofs.Sequence.{next-got, need-got, moved}
use Rattle.numbers.proofs.Tails.{Tail, tail_fault, tail_give, tail_next, tail_need, tail_if, Shrinks, shrinks_got, shrinks_fault, num_shrinks}
use Rattle.bits.specs.declared.Token.{Token}
use Rattle.bits.specs.Tokens.{read_content, read_kind, read_behind, read_token}
use Rattle.bits.proofs.Tokens.{token_tail}
use Rattle.wiring.specs.Words.{operands, place_word, others_of, turn_of, join_word, ending_of}
use Rattle.wiring.specs.Wiring.{wire_parts, wire_application, wire_contact, wire_token, wire_tree}
use Rattle.wiring.proofs.WordLaws.{turn_few}

-- ---- a token has two bytes at least

less : {A : Type 0} {s : List ℕ} {g : m.Read A} → Shrinks s g → (a : A) (rest : List ℕ) → g ≡ got a rest → length rest < length s
less {s = s} (shrinks_got {a = b} {rest = u} h) a rest e = let q : u ≡ rest = got-rest b a u rest e in rw (← q) h
less (shrinks_fault {r = r}) a rest e = absurd (fault≢got r a rest e)

num_less : (s : List ℕ) (n : ℕ) (u : List ℕ) → num s ≡ got n u → length u < length s
num_less s n u e = less (num_shrinks s) n u e

content_less : (tag kind : ℕ) (s : List ℕ) (t : Token) (rest : List ℕ) → read_content tag kind s ≡ got t rest → length rest < length s
unfolding read_content
content_less tag kind s t rest e =
    let g = next-got (num s) _ t rest e in
    let q : g.1 ≡ rest = got-rest (record { tag = tag; kind = kind; content = g.0 }) t g.1 rest g.3 in
    rw (← q) (num_less s g.0 g.1 g.2)

behind_less : (tag : ℕ) (b : Bool) (s : List ℕ) (t : Token) (rest : List ℕ) → (when b then read_kind else read_content tag 0) s ≡ got t rest → length rest < length s
unfolding read_kind
behind_less tag true s t rest e =
    let g = next-got (num s) _ t rest e in
    let x = num_less s g.0 g.1 g.2 in
    let y = content_less 3 g.0 g.1 t rest g.3 in
    omega arith
behind_less tag false s t rest e = content_less tag 0 s t rest e

pub token-two : (s : List ℕ) (t : Token) (rest : List ℕ) → read_token s ≡ got t rest → length rest + 2 ≤ length s
unfolding read_token read_behind
token-two s t rest e =
    let g = next-got (num s) _ t rest e in
    let x = num_less s g.0 g.1 g.2 in
    let y = behind_less g.0 (eqb g.0 3) g.1 t rest g.3 in
    omega arith

-- ---- tails

contact_tail : (table : List ℕ) (j : ℕ) (t : Token) (s : List ℕ) → Tail s (wire_contact table j t s)
unfolding wire_contact
contact_tail table j t s = tail_next _ (tail_need layout (ltb t.content operands) s) (λ x u. tail_give (place_word table j (j + 3) t ∷ []) u)

module _ (part : ℕ → Reader (List ℕ)) (h : (j : ℕ) (s : List ℕ) → Tail s (part j s)) where
  pub parts_tail : (n j o : ℕ) (before s : List ℕ) → Tail s (wire_parts part j o before n s)
  unfolding wire_parts
  parts_tail zero j o before s = tail_give before s
  parts_tail (suc n) j o before s = tail_next _ (h j s) (λ w u. parts_tail n o o (before ++ w) u)

  pub application_tail : (j n : ℕ) (s : List ℕ) → Tail s (wire_application part j n s)
  unfolding wire_application
  application_tail j n s =
      tail_next _ (token_tail s) (λ t u. tail_next _ (parts_tail (n - 1) 0 (others_of t.content) [] u) (λ w v. tail_give (w ++ ending_of t.content j) v))

  token_wired_tail : (table : List ℕ) (j : ℕ) (t : Token) (s : List ℕ) → Tail s (wire_token part table j t s)
  unfolding wire_token
  token_wired_tail table j t s = tail_if (eqb t.tag 1) (wire_application part j t.content) (wire_contact table j t) (application_tail j t.content s) (contact_tail table j t s)

pub tree_tail : (table : List ℕ) (l j : ℕ) (s : List ℕ) → Tail s (wire_tree table l j s)
unfolding wire_tree
tree_tail table zero j s = tail_fault
tree_tail table (suc l) j s = tail_next _ (token_tail s) (λ t u. token_wired_tail (wire_tree table l) (tree_tail table l) table j t u)

-- ---- few words

-- of what was read behind k bytes that count too
abbrev Few : ℕ → List ℕ → m.Read (List ℕ) → Type 0
Few k s g = (w rest : List ℕ) → g ≡ got w rest → 2 * length w + length rest ≤ k + length s

few-got : (k : ℕ) (s w u : List ℕ) → 2 * length w + length u ≤ k + length s → Few k s (got w u)
few-got k s w u h x rest e = moved (λ (y v : List ℕ). 2 * length y + length v ≤ k + length s) w x u rest e h

contact-few : (table : List ℕ) (j : ℕ) (t : Token) (s : List ℕ) → Few 2 s (wire_contact table j t s)
unfolding wire_contact
contact-few table j t s w rest e =
    let g = next-got (need layout (ltb t.content operands) s) _ w rest e in
    let q = need-got layout (ltb t.content operands) g.0 s g.1 g.2 in
    let z = ap length q.1 in
    few-got 2 s (place_word table j (j + 3) t ∷ []) g.1 (omega arith) w rest g.3

join-few : (j : ℕ) → length (join_word j) ≤ 1
unfolding join_word
join-few j = go (eqb j 0)
  where
    go : (b : Bool) → length {A = ℕ} (when b then [] else (5 + j) * operands ∷ []) ≤ 1
    go true = omega arith
    go false = omega arith

pub ending-few : (n j : ℕ) → length (ending_of n j) ≤ 2
unfolding ending_of
ending-few n j = omega (arith, length-append (turn_of n) (join_word j), turn_few n, join-few j)

module _ (part : ℕ → Reader (List ℕ)) (h : (j : ℕ) (s : List ℕ) → Few 0 s (part j s)) where
  pub parts-few : (n j o : ℕ) (before s : List ℕ) → Few (2 * length before) s (wire_parts part j o before n s)
  unfolding wire_parts
  parts-few zero j o before s w rest e = few-got (2 * length before) s before s (omega arith) w rest e
  parts-few (suc n) j o before s w rest e =
      let g = next-got (part j s) _ w rest e in
      let x = h j s g.0 g.1 g.2 in
      let y = parts-few n o o (before ++ g.0) g.1 w rest g.3 in
      let l = length-append before g.0 in
      omega arith

  application_few : (j n : ℕ) (s : List ℕ) → Few 2 s (wire_application part j n s)
  unfolding wire_application
  application_few j n s w rest e =
      let g = next-got (read_token s) _ w rest e in
      let p = next-got (wire_parts part 0 (others_of g.0.content) [] (n - 1) g.1) _ w rest g.3 in
      let x = token-two s g.0 g.1 g.2 in
      let y = parts-few (n - 1) 0 (others_of g.0.content) [] g.1 p.0 p.1 p.2 in
      let z = ending-few g.0.content j in
      let l = length-append p.0 (ending_of g.0.content j) in
      few-got 2 s (p.0 ++ ending_of g.0.content j) p.1 (omega arith) w rest p.3

  token-few : (table : List ℕ) (j : ℕ) (t : Token) (s : List ℕ) → Few 2 s (wire_token part table j t s)
  unfolding wire_token
  token-few table j t s = go (eqb t.tag 1)
    where
      go : (b : Bool) → Few 2 s ((when b then wire_application part j t.content else wire_contact table j t) s)
      go true = application_few j t.content s
      go false = contact-few table j t s

pub tree-few : (table : List ℕ) (l j : ℕ) (s : List ℕ) → Few 0 s (wire_tree table l j s)
unfolding wire_tree
tree-few table zero j s w rest e = absurd (fault≢got layout w rest e)
tree-few table (suc l) j s w rest e =
    let g = next-got (read_token s) _ w rest e in
    let x = token-two s g.0 g.1 g.2 in
    let y = token-few (wire_tree table l) (tree-few table l) table j g.0 g.1 w rest g.3 in
    omega arith
