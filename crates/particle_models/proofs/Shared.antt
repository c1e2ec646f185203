-- The expressions of nodes.
use Rattle.std.proofs.Common.{◌≡◌, ℕ, zero, suc, ◌+◌, ◌<◌, Bool, List, [], ◌∷◌, ◌++◌, map, length, get_or, take, refl, sym, ap, ◌∙◌, arith}
use Rattle.std.specs.Prelude.{All, Result, Ok, Err, IfOk, OnOk}
use Rattle.std.proofs.lemmas.List.{map-append, take_more, get_or_push, get_or_append_left, length_push, get_or-map}
use Rattle.std.proofs.lemmas.List.Elements.{All-push}
use Rattle.xs_positions.specs.Tree.{Tree, nothing, chain, either, repeat, sequence_of, choice_of}
use Rattle.xs_positions.specs.Nodes.{tree_at}
use Rattle.particle_models.specs.Particles.{Particle}
use Rattle.particle_models.specs.Nodes.{members_of, model_at, model_of, models_from, IsOrdered, PartsBelow}
use Rattle.particle_models.specs.Sharing.{shared, shared_chain, shared_either, node_tree, Keeps}
use Rattle.particle_models.specs.declared.node.Node.{Node}
use Rattle.particle_models.specs.declared.node.Node.TheVariants.{Term, Sequence, Choice, Each, Occurs}
use Rattle.particle_models.proofs.Growing.{models_of_all-push}

pub keeps_then : (a b c : List Tree) → Keeps a b → Keeps b c → Keeps a c
keeps_then a b c h k = record {
  more = (let x = h.more in let y = k.more in omega arith);
  same = λ i l. k.same i (let x = h.more in omega arith) ∙ h.same i l;
}

pub keeps_push : (old new : List Tree) (made : Tree) → new ≡ old ++ made ∷ [] → Keeps old new
keeps_push old new made e = record {
  more = (let n = ap length e in let m = length_push old made in omega arith);
  same = λ k l. ap (λ ts. tree_at ts k) e ∙ get_or_append_left old (made ∷ []) nothing k l;
}

pub made_tree : {E : Type 0} (r : Result ℕ E) (old new : List Tree) (made wanted : Tree) → IfOk r (λ e. e ≡ length old) → OnOk r (new ≡ old ++ made ∷ []) → made ≡ wanted →
    IfOk r (λ e. tree_at new e ≡ wanted)
made_tree (Ok e) old new made wanted i n s = rw (i, n) (get_or_push old made nothing (length old) refl ∙ s)
made_tree (Err e) old new made wanted i n s = tt

map_same : {A B : Type 0} (f g : A → B) (b : ℕ) (h : A → ℕ) (xs : List A) → ((x : A) → h x < b → f x ≡ g x) → ((k : ℕ) (d : A) → k < length xs → h (get_or xs k d) < b) → map f xs ≡ map g xs
map_same f g b h [] same below = refl
map_same f g b h (x ∷ xs) same below =
    let e : f x ≡ g x = same x (below 0 x (omega arith)) in
    let r : map f xs ≡ map g xs = map_same f g b h xs same (λ k d l. below (suc k) d (omega arith)) in
    cc

-- the trees of the members, by the numbers of the nodes and of the expressions
pub member_trees : (trees : List Tree) (ids members parts : List ℕ) → All (λ m. m < length ids) members → parts ≡ map (λ m. get_or ids m 0) members →
    map (tree_at trees) parts ≡ map (tree_at (map (tree_at trees) ids)) members
member_trees trees ids members parts below e =
    ap (map (tree_at trees)) e ∙ (map_twice members ∙
    map_same (λ m. tree_at trees (get_or ids m 0)) (tree_at (map (tree_at trees) ids)) (length ids) (λ m. m) members (λ m l. sym (get_or-map (tree_at trees) ids m 0 nothing l)) below)
  where
    map_twice : (ms : List ℕ) → map (tree_at trees) (map (λ m. get_or ids m 0) ms) ≡ map (λ m. tree_at trees (get_or ids m 0)) ms
    map_twice [] = refl
    map_twice (m ∷ ms) = ap (λ ts. tree_at trees (get_or ids m 0) ∷ ts) (map_twice ms)

pub members_below : (ids members parts : List ℕ) (n : ℕ) → All (λ e. e < n) ids → All (λ m. m < length ids) members → parts ≡ map (λ m. get_or ids m 0) members → All (λ e. e < n) parts
members_below ids members parts n inside below e = rw e (each members below)
  where
    each : (ms : List ℕ) → All (λ m. m < length ids) ms → All (λ e. e < n) (map (λ m. get_or ids m 0) ms)
    each [] b k d l = absurd (omega arith)
    each (m ∷ ms) b zero d l = inside m 0 (b 0 0 (omega arith))
    each (m ∷ ms) b (suc k) d l = each ms (λ k d l. b (suc k) d (omega arith)) k d (omega arith)

module _ (inhabited : ℕ → Bool) where
  at_shared : (models : List Particle) (id : ℕ) → tree_at (map (shared inhabited) models) id ≡ shared inhabited (model_at models id)
  at_shared [] id = refl
  at_shared (m ∷ models) zero = refl
  at_shared (m ∷ models) (suc id) = at_shared models id

  chain_is : (models : List Particle) (ids : List ℕ) → sequence_of (map (tree_at (map (shared inhabited) models)) ids) ≡ shared_chain inhabited (members_of (map (model_at models) ids))
  chain_is models [] = refl
  chain_is models (id ∷ ids) =
      let a : tree_at (map (shared inhabited) models) id ≡ shared inhabited (model_at models id) = at_shared models id in
      let b : sequence_of (map (tree_at (map (shared inhabited) models)) ids) ≡ shared_chain inhabited (members_of (map (model_at models) ids)) = chain_is models ids in
      ap (λ t. chain t (sequence_of (map (tree_at (map (shared inhabited) models)) ids))) a ∙ ap (λ t. chain (shared inhabited (model_at models id)) t) b

  either_is : (models : List Particle) (ids : List ℕ) → choice_of (map (tree_at (map (shared inhabited) models)) ids) ≡ shared_either inhabited (members_of (map (model_at models) ids))
  either_is models [] = refl
  either_is models (id ∷ ids) =
      let a : tree_at (map (shared inhabited) models) id ≡ shared inhabited (model_at models id) = at_shared models id in
      let b : choice_of (map (tree_at (map (shared inhabited) models)) ids) ≡ shared_either inhabited (members_of (map (model_at models) ids)) = either_is models ids in
      ap (λ t. either t (choice_of (map (tree_at (map (shared inhabited) models)) ids))) a ∙ ap (λ t. either (shared inhabited (model_at models id)) t) b

  node_is : (models : List Particle) (node : Node) → node_tree inhabited (map (shared inhabited) models) node ≡ shared inhabited (model_of models node)
  node_is models (Term number) = refl
  node_is models (Sequence members) = chain_is models members
  node_is models (Choice members) = either_is models members
  node_is models (Each members) = refl
  node_is models (Occurs part least most) = ap (λ t. repeat t least most) (at_shared models part)

  -- one node more
  pub shared_more : (nodes : List Node) (i : ℕ) (node : Node) (trees trees' : List Tree) (ids ids' : List ℕ) (id : ℕ) → i < length nodes → node ≡ get_or nodes i node →
      map (tree_at trees) ids ≡ map (shared inhabited) (models_from [] (take i nodes)) → All (λ e. e < length trees) ids → Keeps trees trees' →
      tree_at trees' id ≡ node_tree inhabited (map (tree_at trees) ids) node → ids' ≡ ids ++ id ∷ [] →
      map (tree_at trees') ids' ≡ map (shared inhabited) (models_from [] (take (i + 1) nodes))
  shared_more nodes i node trees trees' ids ids' id l is before inside kept tree push =
      let models : List Particle = models_from [] (take i nodes) in
      let t : tree_at trees' id ≡ shared inhabited (model_of models node) = tree ∙ (ap (λ ts. node_tree inhabited ts node) before ∙ node_is models node) in
      let old : map (tree_at trees') ids ≡ map (shared inhabited) models = map_same (tree_at trees') (tree_at trees) (length trees) (λ e. e) ids kept.same inside ∙ before in
      let grown : models_from [] (take (i + 1) nodes) ≡ models ++ model_of models node ∷ [] =
      ap (models_from []) (take_more nodes i node l ∙ ap (λ n. take i nodes ++ n ∷ []) (sym is)) ∙ models_of_all-push (take i nodes) node in
      ap (map (tree_at trees')) push ∙ (map-append (tree_at trees') ids (id ∷ []) ∙ (ap (λ ts. ts ++ tree_at trees' id ∷ []) old ∙
      (ap (λ t. map (shared inhabited) models ++ t ∷ []) t ∙ sym (ap (map (shared inhabited)) grown ∙ map-append (shared inhabited) models (model_of models node ∷ [])))))

pub ids_more : (trees trees' : List Tree) (ids ids' : List ℕ) (id : ℕ) → All (λ e. e < length trees) ids → Keeps trees trees' → id < length trees' → ids' ≡ ids ++ id ∷ [] → All (λ e. e < length trees') ids'
ids_more trees trees' ids ids' id inside kept new p =
    rw p (All-push (λ e. e < length trees') ids id (λ k d h. let a = inside k d h in let m = kept.more in omega arith) new)

pub parts_fit : (nodes : List Node) (i n : ℕ) (node : Node) → IsOrdered nodes → i < length nodes → node ≡ get_or nodes i node → n ≡ i → PartsBelow n node
parts_fit nodes i n node ordered l is e = rw (e, is) (ordered i node l)

-- the parts of a group
module _ (inhabited : ℕ → Bool) (trees : List Tree) (ids members slice parts : List ℕ) (same : slice ≡ members) (e : parts ≡ map (λ m. get_or ids m 0) slice) where
  pub sequence_made : (node : Node) → node ≡ Sequence members → PartsBelow (length ids) node → sequence_of (map (tree_at trees) parts) ≡ node_tree inhabited (map (tree_at trees) ids) node
  sequence_made node is below = ap sequence_of (member_trees trees ids members parts (rw is at below) (e ∙ ap (map (λ m. get_or ids m 0)) same)) ∙ rw is refl

  pub choice_made : (node : Node) → node ≡ Choice members → PartsBelow (length ids) node → choice_of (map (tree_at trees) parts) ≡ node_tree inhabited (map (tree_at trees) ids) node
  choice_made node is below = ap choice_of (member_trees trees ids members parts (rw is at below) (e ∙ ap (map (λ m. get_or ids m 0)) same)) ∙ rw is refl

  pub parts_inside : (n : ℕ) → All (λ e. e < n) ids → All (λ m. m < length ids) members → All (λ e. e < n) parts
  parts_inside n inside below = members_below ids members parts n inside below (e ∙ ap (map (λ m. get_or ids m 0)) same)
