-- Laws of the table: what was put is got, and what lies below stays.
use mathlib.Core.Path.{◌≡◌, refl, ap, ap₂, ◌∙◌}
use mathlib.Core.List.{List, [], ◌∷◌}
use Prim.Native.Nat.{ℕ, zero, suc, ◌+◌, ◌*◌, ◌/◌, ◌%◌, ◌^◌, ◌≤◌, ◌<◌}
use native.Mathlib.Nat.{div-add-mod'}
use native.Mathlib.Omega.{arith}
use lib.Dec.{lit<}
use lib.ListN.{length, get_or}
use lib.Seq.{sets, length-sets}
use Rattle.model.specs.Limits as m
use Rattle.scopes.proofs.Stores.{stores_before, stores_at, stores_first}
use Rattle.scopes.specs.Sets.{scopes_of, words_from}
use Rattle.scopes.specs.declared.ScopeSet.{ScopeSet}
use Rattle.table.specs.Sizes.{set_size, place_of1, place_of2, node_size, cell_size, entry_size, unit_size, most_budget}
use Rattle.table.specs.Tags.{function_tag}
use Rattle.table.specs.Words.{join, get_word, put_word, halves, get_set, put_set, sets_of, get_node, put_node, node_words, get_sets, put_sets, put_object, get_body, put_function, function_words, get_cell, put_cell, cell_words, get_entry, put_entry, entry_words, Same}
use Rattle.table.specs.declared.Node.{Node}
use Rattle.table.specs.declared.Sets.{Sets}
use Rattle.table.specs.declared.Object.{Object}
use Rattle.table.specs.declared.Body.{Body}
use Rattle.table.specs.declared.Cell.{Cell}
use Rattle.table.specs.declared.Entry.{Entry}

-- ---- the sizes are the model's

pub unit_is : unit_size ≡ m.words_per_unit
unfolding m.words_per_unit
unit_is = refl

pub budget-is : most_budget ≡ m.most_budget
unfolding m.most_budget
budget-is = refl

-- ---- agreement

pub same_refl : (n : ℕ) (l : List ℕ) → Same n l l
unfolding Same
same_refl n l k h = refl

pub same_under : (m n : ℕ) (l l' : List ℕ) → m ≤ n → Same n l l' → Same m l l'
unfolding Same
same_under m n l l' h s k lt = s k (omega arith)

pub same_trans : (m n : ℕ) (l l' l'' : List ℕ) → m ≤ n → Same m l l' → Same n l' l'' → Same m l l''
unfolding Same
same_trans m n l l' l'' h s t k lt = t k (omega arith) ∙ s k lt

-- ---- a run of stores

run-below : (vs l : List ℕ) (i : ℕ) → Same i l (sets l i vs)
unfolding Same
run-below vs l i k h = stores_before vs l i k h

-- ---- words of 64 bits

join_low_high : (s : ℕ) → join (s % 4294967296) (s / 4294967296) ≡ s
unfolding join
join_low_high s = div-add-mod' s 4294967296

length-put_word : (l : List ℕ) (i w : ℕ) → length (put_word l i w) ≡ length l
unfolding put_word
length-put_word l i w = length-sets l i (halves w)

put_word-below : (l : List ℕ) (i w : ℕ) → Same i l (put_word l i w)
unfolding put_word
put_word-below l i w = run-below (halves w) l i

get_put_word : (l : List ℕ) (i w : ℕ) → i + 2 ≤ length l → get_word (put_word l i w) i ≡ w
unfolding put_word halves get_word
get_put_word l i w h =
    let a : get_or (sets l i (halves w)) i 0 ≡ w % 4294967296 = stores_first (w % 4294967296) (w / 4294967296 ∷ []) l i h in
    let b : get_or (sets l i (halves w)) (i + 1) 0 ≡ w / 4294967296 = stores_at (halves w) l i 1 h (lit< tt) in
    ap₂ join a b ∙ join_low_high w

get_word-same : (n : ℕ) (l l' : List ℕ) (i : ℕ) → Same n l l' → i + 2 ≤ n → get_word l' i ≡ get_word l i
unfolding get_word Same
get_word-same n l l' i s h = rw (s i (omega arith), s (i + 1) (omega arith))

-- ---- scope sets

-- the k low words of a set put in their places
unfoldable pub puts : ℕ → List ℕ → ℕ → List ℕ → List ℕ
puts zero l i ws = l
puts (suc k) l i ws = put_word (puts k l i ws) (i + 2 * k) (get_or ws k 0)

pub length-puts : (k : ℕ) (l : List ℕ) (i : ℕ) (ws : List ℕ) → length (puts k l i ws) ≡ length l
unfolding puts
length-puts zero l i ws = refl
length-puts (suc k) l i ws = length-put_word (puts k l i ws) (i + 2 * k) _ ∙ length-puts k l i ws

pub puts-none : (l : List ℕ) (i : ℕ) (ws : List ℕ) → l ≡ puts 0 l i ws
unfolding puts
puts-none l i ws = refl

pub puts-more : (k : ℕ) (l l' l'' : List ℕ) (i : ℕ) (ws : List ℕ) → l' ≡ puts k l i ws → l'' ≡ put_word l' (i + 2 * k) (get_or ws k 0) → l'' ≡ puts (k + 1) l i ws
unfolding puts
puts-more k l l' l'' i ws e f =
    let one : suc k ≡ k + 1 = omega arith in
    f ∙ ap (λ (x : List ℕ). put_word x (i + 2 * k) (get_or ws k 0)) e ∙ ap (λ (n : ℕ). puts n l i ws) one

pub puts_all : (l : List ℕ) (i : ℕ) (s : ScopeSet) → puts 4 l i s.words ≡ put_set l i s
unfolding puts put_set
puts_all l i s = let a : i + 2 * 0 ≡ i = omega arith in ap (λ (j : ℕ). put_word (put_word (put_word (put_word l j (get_or s.words 0 0)) (i + 2) (get_or s.words 1 0)) (i + 4) (get_or s.words 2 0)) (i + 6) (get_or s.words 3 0)) a

length-put_set : (l : List ℕ) (i : ℕ) (s : ScopeSet) → length (put_set l i s) ≡ length l
unfolding put_set
length-put_set l i s = simp length-put_word

put_set-below : (l : List ℕ) (i : ℕ) (s : ScopeSet) → Same i l (put_set l i s)
unfolding put_set
put_set-below l i s =
    let l1 = put_word l i (get_or s.words 0 0) in
    let l2 = put_word l1 (i + 2) (get_or s.words 1 0) in
    let l3 = put_word l2 (i + 4) (get_or s.words 2 0) in
    same_trans i (i + 6) l l3 _ (omega arith)
    (same_trans i (i + 4) l l2 l3 (omega arith)
    (same_trans i (i + 2) l l1 l2 (omega arith) (put_word-below l i _) (put_word-below l1 (i + 2) _))
    (put_word-below l2 (i + 4) _))
    (put_word-below l3 (i + 6) (get_or s.words 3 0))

-- the set comes back, if not the record: of a list of another length the four words are kept
get_put_set : (l : List ℕ) (i : ℕ) (s : ScopeSet) → i + set_size ≤ length l → scopes_of (get_set (put_set l i s) i) ≡ scopes_of s
unfolding put_set get_set words_from
get_put_set l i s h =
    let l1 = put_word l i (get_or s.words 0 0) in
    let l2 = put_word l1 (i + 2) (get_or s.words 1 0) in
    let l3 = put_word l2 (i + 4) (get_or s.words 2 0) in
    let l4 = put_word l3 (i + 6) (get_or s.words 3 0) in
    let n1 : length l1 ≡ length l = length-put_word l i _ in
    let n2 : length l2 ≡ length l1 = length-put_word l1 (i + 2) _ in
    let n3 : length l3 ≡ length l2 = length-put_word l2 (i + 4) _ in
    let s2 : Same (i + 2) l1 l2 = put_word-below l1 (i + 2) _ in
    let s3 : Same (i + 4) l2 l3 = put_word-below l2 (i + 4) _ in
    let s4 : Same (i + 6) l3 l4 = put_word-below l3 (i + 6) _ in
    let w0 : get_word l4 i ≡ get_or s.words 0 0 = get_word-same (i + 6) l3 l4 i s4 (omega arith) ∙ get_word-same (i + 4) l2 l3 i s3 (omega arith) ∙ get_word-same (i + 2) l1 l2 i s2 (omega arith) ∙ get_put_word l i _ (omega arith) in
    let w1 : get_word l4 (i + 2) ≡ get_or s.words 1 0 = get_word-same (i + 6) l3 l4 (i + 2) s4 (omega arith) ∙ get_word-same (i + 4) l2 l3 (i + 2) s3 (omega arith) ∙ get_put_word l1 (i + 2) _ (omega arith) in
    let w2 : get_word l4 (i + 4) ≡ get_or s.words 2 0 = get_word-same (i + 6) l3 l4 (i + 4) s4 (omega arith) ∙ get_put_word l2 (i + 4) _ (omega arith) in
    let w3 : get_word l4 (i + 6) ≡ get_or s.words 3 0 = get_put_word l3 (i + 6) _ (omega arith) in
    λ j. (((0 * 2 ^ 64 + w3 j) * 2 ^ 64 + w2 j) * 2 ^ 64 + w1 j) * 2 ^ 64 + w0 j

get_set-same : (n : ℕ) (l l' : List ℕ) (i : ℕ) → Same n l l' → i + set_size ≤ n → get_set l' i ≡ get_set l i
unfolding get_set
get_set-same n l l' i s h =
    rw (get_word-same n l l' i s (omega arith), get_word-same n l l' (i + 2) s (omega arith), get_word-same n l l' (i + 4) s (omega arith), get_word-same n l l' (i + 6) s (omega arith))

-- ---- nodes

pub length-put_node : (l : List ℕ) (i : ℕ) (n : Node) → length (put_node l i n) ≡ length l
unfolding put_node
length-put_node l i n = length-sets l i (node_words n)

pub put_node-below : (l : List ℕ) (i : ℕ) (n : Node) → Same i l (put_node l i n)
unfolding put_node
put_node-below l i n = run-below (node_words n) l i

pub get_put_node : (l : List ℕ) (i : ℕ) (n : Node) → i + node_size ≤ length l → get_node (put_node l i n) i ≡ n
unfolding put_node node_words get_node
get_put_node l i n h =
    let fits : i + 2 ≤ length l = omega arith in
    let a : get_or (sets l i (node_words n)) i 0 ≡ n.tag = stores_first n.tag (n.content ∷ []) l i fits in
    let b : get_or (sets l i (node_words n)) (i + 1) 0 ≡ n.content = stores_at (node_words n) l i 1 fits (lit< tt) in
    λ j. record { tag = a j; content = b j }

pub get_node-same : (n : ℕ) (l l' : List ℕ) (i : ℕ) → Same n l l' → i + 2 ≤ n → get_node l' i ≡ get_node l i
unfolding get_node Same
get_node-same n l l' i s h = rw (s i (omega arith), s (i + 1) (omega arith))

-- ---- objects

length-put_sets : (l : List ℕ) (i : ℕ) (c : Sets) → length (put_sets l i c) ≡ length l
unfolding put_sets
length-put_sets l i c = simp length-put_set

put_sets-below : (l : List ℕ) (i : ℕ) (c : Sets) → Same (i + 2) l (put_sets l i c)
unfolding put_sets
put_sets-below l i c =
    let l1 = put_set l (i + 2) c.at0 in
    let l2 = put_set l1 (i + place_of1) c.at1 in
    let b : Same (i + 2) l1 l2 = same_under (i + 2) (i + place_of1) l1 l2 (omega arith) (put_set-below l1 (i + place_of1) c.at1) in
    same_trans (i + 2) (i + place_of1) l l2 (put_set l2 (i + place_of2) c.at2) (omega arith)
    (same_trans (i + 2) (i + 2) l l1 l2 (omega arith) (put_set-below l (i + 2) c.at0) b)
    (same_under (i + place_of1) (i + place_of2) l2 (put_set l2 (i + place_of2) c.at2) (omega arith) (put_set-below l2 (i + place_of2) c.at2))

get_put_sets : (l : List ℕ) (i : ℕ) (c : Sets) → i + node_size ≤ length l → sets_of (get_sets (put_sets l i c) i) ≡ sets_of c
unfolding get_sets put_sets
get_put_sets l i c h =
    let l1 = put_set l (i + 2) c.at0 in
    let l2 = put_set l1 (i + place_of1) c.at1 in
    let l3 = put_set l2 (i + place_of2) c.at2 in
    let n1 : length l1 ≡ length l = length-put_set l (i + 2) c.at0 in
    let n2 : length l2 ≡ length l1 = length-put_set l1 (i + place_of1) c.at1 in
    let s2 : Same (i + place_of1) l1 l2 = put_set-below l1 (i + place_of1) c.at1 in
    let s3 : Same (i + place_of2) l2 l3 = put_set-below l2 (i + place_of2) c.at2 in
    let a : scopes_of (get_set l3 (i + 2)) ≡ scopes_of c.at0 = ap scopes_of (get_set-same (i + place_of2) l2 l3 (i + 2) s3 (omega arith) ∙ get_set-same (i + place_of1) l1 l2 (i + 2) s2 (omega arith)) ∙ get_put_set l (i + 2) c.at0 (omega arith) in
    let b : scopes_of (get_set l3 (i + place_of1)) ≡ scopes_of c.at1 = ap scopes_of (get_set-same (i + place_of2) l2 l3 (i + place_of1) s3 (omega arith)) ∙ get_put_set l1 (i + place_of1) c.at1 (omega arith) in
    let d : scopes_of (get_set l3 (i + place_of2)) ≡ scopes_of c.at2 = get_put_set l2 (i + place_of2) c.at2 (omega arith) in
    λ j. record { at0 = a j; at1 = b j; at2 = d j }

pub get_sets-same : (n : ℕ) (l l' : List ℕ) (i : ℕ) → Same n l l' → i + node_size ≤ n → get_sets l' i ≡ get_sets l i
unfolding get_sets
get_sets-same n l l' i s h =
    rw (get_set-same n l l' (i + 2) s (omega arith), get_set-same n l l' (i + place_of1) s (omega arith), get_set-same n l l' (i + place_of2) s (omega arith))

pub put_object-below : (l : List ℕ) (i : ℕ) (o : Object) → Same i l (put_object l i o)
unfolding put_object
put_object-below l i o =
    let l1 = put_node l i o.node in
    same_trans i (i + 2) l l1 (put_sets l1 i o.sets) (omega arith) (put_node-below l i o.node) (put_sets-below l1 i o.sets)

pub node-put_object : (l : List ℕ) (i : ℕ) (o : Object) → i + node_size ≤ length l → get_node (put_object l i o) i ≡ o.node
unfolding put_object
node-put_object l i o h =
    let l1 = put_node l i o.node in
    get_node-same (i + 2) l1 (put_sets l1 i o.sets) i (put_sets-below l1 i o.sets) (omega arith) ∙ get_put_node l i o.node h

pub sets-put_object : (l : List ℕ) (i : ℕ) (o : Object) → i + node_size ≤ length l → sets_of (get_sets (put_object l i o) i) ≡ sets_of o.sets
unfolding put_object
sets-put_object l i o h = get_put_sets (put_node l i o.node) i o.sets (omega (arith, length-put_node l i o.node))

-- ---- functions

pub put_function-below : (l : List ℕ) (i n : ℕ) (b : Body) → Same i l (put_function l i n b)
unfolding put_function
put_function-below l i n b = run-below (function_words n b) l i

pub node-put_function : (l : List ℕ) (i n : ℕ) (b : Body) → i + node_size ≤ length l → get_node (put_function l i n b) i ≡ record { tag = function_tag; content = n }
unfolding put_function function_words get_node
node-put_function l i n b h =
    let fits : i + cell_size ≤ length l = omega arith in
    let t : get_or (sets l i (function_words n b)) i 0 ≡ function_tag = stores_first function_tag (n ∷ b.at ∷ b.size ∷ b.nesting ∷ []) l i fits in
    let c : get_or (sets l i (function_words n b)) (i + 1) 0 ≡ n = stores_at (function_words n b) l i 1 fits (lit< tt) in
    λ j. record { tag = t j; content = c j }

pub body_put_function : (l : List ℕ) (i n : ℕ) (b : Body) → i + node_size ≤ length l → get_body (put_function l i n b) i ≡ b
unfolding put_function function_words get_body
body_put_function l i n b h =
    let fits : i + cell_size ≤ length l = omega arith in
    let at : (k : ℕ) → k < 5 → get_or (sets l i (function_words n b)) (i + k) 0 ≡ get_or (function_words n b) k 0 = λ k lt. stores_at (function_words n b) l i k fits lt in
    λ j. record { at = at 2 (lit< tt) j; size = at 3 (lit< tt) j; nesting = at 4 (lit< tt) j }

pub get_body-same : (n : ℕ) (l l' : List ℕ) (i : ℕ) → Same n l l' → i + node_size ≤ n → get_body l' i ≡ get_body l i
unfolding get_body Same
get_body-same n l l' i s h = rw (s (i + 2) (omega arith), s (i + 3) (omega arith), s (i + 4) (omega arith))

-- ---- cells

pub put_cell-below : (l : List ℕ) (i : ℕ) (c : Cell) → Same i l (put_cell l i c)
unfolding put_cell
put_cell-below l i c = run-below (cell_words c) l i

pub get_put_cell : (l : List ℕ) (i : ℕ) (c : Cell) → i + cell_size ≤ length l → get_cell (put_cell l i c) i ≡ c
unfolding put_cell cell_words get_cell
get_put_cell l i c h =
    let first : get_or (sets l i (cell_words c)) i 0 ≡ c.head = stores_first c.head (c.tail ∷ c.weight ∷ c.size ∷ c.nesting ∷ []) l i h in
    let at : (k : ℕ) → k < cell_size → get_or (sets l i (cell_words c)) (i + k) 0 ≡ get_or (cell_words c) k 0 = λ k lt. stores_at (cell_words c) l i k h lt in
    λ j. record { head = first j; tail = at 1 (lit< tt) j; weight = at 2 (lit< tt) j; size = at 3 (lit< tt) j; nesting = at 4 (lit< tt) j }

pub get_cell-same : (n : ℕ) (l l' : List ℕ) (i : ℕ) → Same n l l' → i + cell_size ≤ n → get_cell l' i ≡ get_cell l i
unfolding get_cell Same
get_cell-same n l l' i s h = rw (s i (omega arith), s (i + 1) (omega arith), s (i + 2) (omega arith), s (i + 3) (omega arith), s (i + 4) (omega arith))

-- ---- entries of the meanings

pub put_entry-below : (l : List ℕ) (i : ℕ) (e : Entry) → Same i l (put_entry l i e)
unfolding put_entry
put_entry-below l i e = run-below (entry_words e) l i

pub get_put_entry : (l : List ℕ) (i : ℕ) (e : Entry) → i + entry_size ≤ length l → get_entry (put_entry l i e) i ≡ e
unfolding put_entry entry_words get_entry
get_put_entry l i e h =
    let fits : i + 4 ≤ length l = omega arith in
    let first : get_or (sets l i (entry_words e)) i 0 ≡ e.at = stores_first e.at (e.next ∷ e.name.0 ∷ e.kind ∷ []) l i fits in
    let at : (k : ℕ) → k < 4 → get_or (sets l i (entry_words e)) (i + k) 0 ≡ get_or (entry_words e) k 0 = λ k lt. stores_at (entry_words e) l i k fits lt in
    λ j. record { at = first j; next = at 1 (lit< tt) j; name = record { 0 = at 2 (lit< tt) j }; kind = at 3 (lit< tt) j }

pub get_entry-same : (n : ℕ) (l l' : List ℕ) (i : ℕ) → Same n l l' → i + entry_size ≤ n → get_entry l' i ≡ get_entry l i
unfolding get_entry Same
get_entry-same n l l' i s h = rw (s i (omega arith), s (i + 1) (omega arith), s (i + 2) (omega arith), s (i + 3) (omega arith))
