-- The trees of nodes: they only grow, and each is that of its node over all of them.
use Rattle.std.proofs.Common.{◌≡◌, ℕ, suc, ◌+◌, ◌<◌, List, [], ◌∷◌, ◌++◌, map, length, get_or, take, drop, All, sym, refl, ap, ◌∙◌, inl, inr, arith, length-append}
use Rattle.std.proofs.lemmas.Bool.{cases_lt}
use Rattle.std.proofs.lemmas.List.{get_or_append_left, get_or_at, get_or_default, take-append-drop, drop_more, take_more, length-take-le, length-map, length_push, get_or_push, map-append}
use Rattle.xs_positions.specs.Tree.{Tree, nothing, repeat, sequence_of, choice_of}
use Rattle.xs_positions.specs.Nodes.{tree_at, tree_of, trees_from, trees_of, PartsBelow, IsOrdered}
use Rattle.xs_positions.specs.Measures.{measure_of}
use Rattle.xs_positions.specs.declared.measures.Measure.{Measure}
use Rattle.xs_positions.specs.declared.expr.Node.{Node}
use Rattle.xs_positions.specs.declared.expr.Node.TheVariants.{Symbol, Sequence, Choice, Repeat}

pub trees_from-append : (trees : List Tree) (ns ms : List Node) → trees_from trees (ns ++ ms) ≡ trees_from (trees_from trees ns) ms
trees_from-append trees [] ms = refl
trees_from-append trees (n ∷ ns) ms = trees_from-append (trees ++ tree_of trees n ∷ []) ns ms

pub trees_of-push : (ns : List Node) (n : Node) → trees_of (ns ++ n ∷ []) ≡ trees_of ns ++ tree_of (trees_of ns) n ∷ []
trees_of-push ns n = trees_from-append [] ns (n ∷ [])

length-trees_from : (trees : List Tree) (ns : List Node) → length (trees_from trees ns) ≡ length trees + length ns
length-trees_from trees [] = omega arith
length-trees_from trees (n ∷ ns) =
    length-trees_from (trees ++ tree_of trees n ∷ []) ns ∙ (let e = length-append trees (tree_of trees n ∷ []) in omega arith)

pub length-trees_of : (ns : List Node) → length (trees_of ns) ≡ length ns
length-trees_of ns = length-trees_from [] ns ∙ omega arith

-- earlier trees stay
tree_at-trees_from : (trees : List Tree) (ns : List Node) (i : ℕ) → i < length trees → tree_at (trees_from trees ns) i ≡ tree_at trees i
tree_at-trees_from trees [] i l = refl
tree_at-trees_from trees (n ∷ ns) i l =
    tree_at-trees_from (trees ++ tree_of trees n ∷ []) ns i (let e = length-append trees (tree_of trees n ∷ []) in omega arith) ∙
    get_or_append_left trees (tree_of trees n ∷ []) nothing i l

map_alike : (f g : ℕ → Tree) (b : ℕ) (xs : List ℕ) → ((i : ℕ) → i < b → f i ≡ g i) → All (λ p. p < b) xs → map f xs ≡ map g xs
map_alike f g b [] same below = refl
map_alike f g b (x ∷ xs) same below =
    let e : f x ≡ g x = same x (below 0 0 (omega arith)) in
    let r : map f xs ≡ map g xs = map_alike f g b xs same (λ k d l. below (suc k) d (omega arith)) in
    cc

-- a node's tree hangs on the trees of its parts alone
pub tree_of-alike : (ts us : List Tree) (b : ℕ) (n : Node) → ((i : ℕ) → i < b → tree_at ts i ≡ tree_at us i) → PartsBelow b n → tree_of ts n ≡ tree_of us n
tree_of-alike ts us b (Symbol s) same below = refl
tree_of-alike ts us b (Sequence parts) same below = ap sequence_of (map_alike (tree_at ts) (tree_at us) b parts.items same below)
tree_of-alike ts us b (Choice parts) same below = ap choice_of (map_alike (tree_at ts) (tree_at us) b parts.items same below)
tree_of-alike ts us b (Repeat part least most) same below = ap (λ t. repeat t least most) (same part below)

-- the tree of a number is that of its node, over all trees
pub tree_is : (ns : List Node) (i : ℕ) (d : Node) → IsOrdered ns → i < length ns → tree_at (trees_of ns) i ≡ tree_of (trees_of ns) (get_or ns i d)
tree_is ns i d ordered l =
    let n : Node = get_or ns i d in
    let split : ns ≡ take i ns ++ n ∷ drop (i + 1) ns = sym (take-append-drop i ns) ∙ ap (λ r. take i ns ++ r) (drop_more ns i d l) in
    let front : List Tree = trees_of (take i ns) in
    let grown : trees_of ns ≡ trees_from (front ++ tree_of front n ∷ []) (drop (i + 1) ns) =
    ap trees_of split ∙ trees_from-append [] (take i ns) (n ∷ drop (i + 1) ns) in
    let long : length front ≡ i = length-trees_of (take i ns) ∙ length-take-le i ns (omega arith) in
    let longer : length (front ++ tree_of front n ∷ []) ≡ i + 1 = (let e = length-append front (tree_of front n ∷ []) in omega arith) in
    let same : (k : ℕ) → k < i → tree_at front k ≡ tree_at (trees_of ns) k = (λ k h.
    sym (ap (λ ts. tree_at ts k) grown ∙ (tree_at-trees_from (front ++ tree_of front n ∷ []) (drop (i + 1) ns) k (omega arith) ∙
    get_or_append_left front (tree_of front n ∷ []) nothing k (omega arith)))) in
    ap (λ ts. tree_at ts i) grown ∙ (tree_at-trees_from (front ++ tree_of front n ∷ []) (drop (i + 1) ns) i (omega arith) ∙
    (get_or_at front (tree_of front n) [] nothing i long ∙
    tree_of-alike front (trees_of ns) i n same
    (let b = ordered i n l in let e : get_or ns i n ≡ n = get_or_default ns i n d l in rw e at b)))

module _ (ns : List Node) (ms seen : List Measure) (i : ℕ) (n : Node) where
  so_far : ms ≡ map measure_of (trees_of (take i ns)) → i < length ns → length ms ≡ i
  so_far e l = ap length e ∙ (length-map (trees_of (take i ns)) measure_of ∙ (length-trees_of (take i ns) ∙ length-take-le i ns (omega arith)))

  pub parts_measured : IsOrdered ns → ms ≡ map measure_of (trees_of (take i ns)) → seen ≡ ms → i < length ns → n ≡ get_or ns i n → PartsBelow (length seen) n
  parts_measured ordered e s l is =
      let c : length seen ≡ i = ap length s ∙ so_far e l in
      rw c (let b = ordered i n l in rw (← is) at b)

  pub nodes_step : (new : List Measure) (m : Measure) → ms ≡ map measure_of (trees_of (take i ns)) → seen ≡ ms → i < length ns → n ≡ get_or ns i n →
      ((trees : List Tree) → seen ≡ map measure_of trees → m ≡ measure_of (tree_of trees n)) → new ≡ ms ++ m ∷ [] →
      new ≡ map measure_of (trees_of (take (i + 1) ns))
  nodes_step new m e s l is next pushed =
      let grown : trees_of (take (i + 1) ns) ≡ trees_of (take i ns) ++ tree_of (trees_of (take i ns)) n ∷ [] =
      ap trees_of (take_more ns i n l) ∙ (trees_of-push (take i ns) (get_or ns i n) ∙
      ap (λ k. trees_of (take i ns) ++ tree_of (trees_of (take i ns)) k ∷ []) (sym is)) in
      let value : m ≡ measure_of (tree_of (trees_of (take i ns)) n) = next (trees_of (take i ns)) (s ∙ e) in
      pushed ∙ (ap (λ xs. xs ++ m ∷ []) e ∙ (ap (λ k. map measure_of (trees_of (take i ns)) ++ k ∷ []) value ∙
      (sym (map-append measure_of (trees_of (take i ns)) (tree_of (trees_of (take i ns)) n ∷ [])) ∙ ap (map measure_of) (sym grown))))

pub ordered_push : (ns : List Node) (n : Node) (trees : List Tree) (new : List Node) → IsOrdered ns → PartsBelow (length trees) n → trees_of ns ≡ trees →
    new ≡ ns ++ n ∷ [] → IsOrdered new
ordered_push ns n trees new ordered below e pushed i d l =
    let long : length trees ≡ length ns = ap length (sym e) ∙ length-trees_of ns in
    let m : i < length ns + 1 = (let a = length_push ns n in let b = ap length pushed in omega arith) in
    rw pushed (elim (cases_lt i (length ns)) [
      | inl k ↦ rw (get_or_append_left ns (n ∷ []) d i k) (ordered i d k)
      | inr g ↦ let same : i ≡ length ns = omega arith in rw (get_or_push ns n d i (sym same)) (rw (same, ← long) below)
    ])

-- ---- copies of nodes
module _ (ns : List Node) (i : ℕ) (n copy : Node) (trees : List Tree) (more : i < length ns) (is : n ≡ get_or ns i n) (e : trees ≡ trees_of (take i ns)) where
  pub clone_below : IsOrdered ns → ((b : ℕ) → PartsBelow b n → PartsBelow b copy) → PartsBelow (length trees) copy
  clone_below ordered below =
      let c : length trees ≡ i = ap length e ∙ (length-trees_of (take i ns) ∙ length-take-le i ns (omega arith)) in
      rw c (below i (rw (sym is) at (ordered i n more)))

  pub clone_more : (new : List Tree) → tree_of trees copy ≡ tree_of trees n → new ≡ trees ++ tree_of trees copy ∷ [] → new ≡ trees_of (take (i + 1) ns)
  clone_more new same came =
      let taken : take (i + 1) ns ≡ take i ns ++ n ∷ [] = take_more ns i n more ∙ ap (λ x. take i ns ++ x ∷ []) (sym is) in
      came ∙ (ap (λ t. trees ++ t ∷ []) same ∙ (ap (λ ts. ts ++ tree_of ts n ∷ []) e ∙ sym (ap trees_of taken ∙ trees_of-push (take i ns) n)))
