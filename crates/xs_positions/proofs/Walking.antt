-- What a walk over the nodes reads at a number: the node's tree, its parts and its measure.
use Rattle.std.proofs.Common.{◌≡◌, ℕ, zero, suc, ◌+◌, ◌*◌, ◌<◌, List, [], ◌∷◌, ◌++◌, length, get_or, sym, refl, ap, ◌∙◌, arith, length-append, suc-mul, zero-mul}
use Rattle.std.specs.List.{flat_map}
use Rattle.std.proofs.lemmas.List.{length-map}
use Rattle.xs_positions.specs.Tree.{Tree, one, empty, chain, nothing, either, repeat, copies, size, symbols, times, sequence_of, choice_of}
use Rattle.xs_positions.specs.Nodes.{tree_of, trees_of, PartsBelow, IsOrdered}
use Rattle.xs_positions.specs.Measures.{measure_of, AreMeasured}
use Rattle.xs_positions.specs.Walk.{tree_in}
use Rattle.xs_positions.specs.declared.expr.Node.{Node}
use Rattle.xs_positions.specs.declared.measures.Measure.{Measure}
use Rattle.xs_positions.proofs.Growing.{tree_is, length-trees_of}
use Rattle.xs_positions.proofs.Measuring.{measure_is}

pub length_measured : (ns : List Node) (ms : List Measure) → AreMeasured ns ms → length ms ≡ length ns
length_measured ns ms h = ap length h.measured ∙ (length-map (trees_of ns) measure_of ∙ length-trees_of ns)

pub measured_at : (ns : List Node) (ms : List Measure) (i j : ℕ) (d : Measure) → AreMeasured ns ms → i < length ns → j ≡ i →
    get_or ms j d ≡ measure_of (tree_in ns i)
measured_at ns ms i j d h l e =
    let c : i < length ms = (let k = length_measured ns ms h in omega arith) in
    rw e (measure_is ms (trees_of ns) i d h.measured c)

pub node_tree : (ns : List Node) (i j : ℕ) (n x : Node) → IsOrdered ns → i < length ns → j ≡ i → n ≡ get_or ns j n → n ≡ x → tree_in ns i ≡ tree_of (trees_of ns) x
node_tree ns i j n x ordered l e is same =
    tree_is ns i n ordered l ∙ ap (tree_of (trees_of ns)) (ap (λ k. get_or ns k n) (sym e) ∙ (sym is ∙ same))

pub node_parts : (ns : List Node) (i j : ℕ) (n x : Node) → IsOrdered ns → i < length ns → j ≡ i → n ≡ get_or ns j n → n ≡ x → PartsBelow i x
node_parts ns i j n x ordered l e is same =
    let b = ordered i n l in
    let k : get_or ns i n ≡ x = ap (λ k. get_or ns k n) (sym e) ∙ (sym is ∙ same) in
    rw k at b

-- ---- symbols
pub symbols-sequence_of : (ts : List Tree) → symbols (sequence_of ts) ≡ flat_map symbols ts
symbols-sequence_of [] = refl
symbols-sequence_of (t ∷ ts) = ap (λ xs. symbols t ++ xs) (symbols-sequence_of ts)

pub symbols-choice_of : (ts : List Tree) → symbols (choice_of ts) ≡ flat_map symbols ts
symbols-choice_of [] = refl
symbols-choice_of (t ∷ ts) = ap (λ xs. symbols t ++ xs) (symbols-choice_of ts)

length-times : (n : ℕ) (xs : List ℕ) → length (times n xs) ≡ n * length xs
length-times zero xs = sym (zero-mul (length xs))
length-times (suc n) xs =
    length-append xs (times n xs) ∙ (let a = length-times n xs in let b : suc n * length xs ≡ n * length xs + length xs = suc-mul n (length xs) in omega arith)

pub length-symbols : (t : Tree) → length (symbols t) ≡ size t
length-symbols (one s) = refl
length-symbols empty = refl
length-symbols (chain a b) = length-append (symbols a) (symbols b) ∙ (let e = length-symbols a in let f = length-symbols b in omega arith)
length-symbols nothing = refl
length-symbols (either a b) = length-append (symbols a) (symbols b) ∙ (let e = length-symbols a in let f = length-symbols b in omega arith)
length-symbols (repeat t n m) = length-times (copies n m) (symbols t) ∙ ap (λ k. copies n m * k) (length-symbols t)

none_left : (xs : List ℕ) → length xs ≡ 0 → xs ≡ []
none_left [] e = refl
none_left (x ∷ xs) e = absurd (omega arith)

pub no_symbols : (t : Tree) (m : Measure) → m ≡ measure_of t → m.size ≡ 0 → symbols t ≡ []
no_symbols t m e z = none_left (symbols t) (length-symbols t ∙ (let a = ap (λ x. x.size) e in omega arith))
