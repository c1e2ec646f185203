-- The models of nodes: they only grow, and each is that of its node over all of them.
use Rattle.std.proofs.Common.{◌≡◌, ℕ, suc, ◌+◌, ◌<◌, List, [], ◌∷◌, ◌++◌, map, length, get_or, take, drop, All, sym, refl, ap, ◌∙◌, arith, length-append}
use Rattle.std.proofs.lemmas.List.{get_or_append_left, get_or_at, get_or_default, take-append-drop, drop_more, length-take-le}
use Rattle.particle_models.specs.Particles.{Particle, sequence, choice, all_of, occurs, none}
use Rattle.particle_models.specs.Nodes.{model_at, model_of, models_from, PartsBelow, IsOrdered, members_of}
use Rattle.particle_models.specs.declared.node.Node.{Node}
use Rattle.particle_models.specs.declared.node.Node.TheVariants.{Term, Sequence, Choice, Each, Occurs}

abbrev models_of_all : List Node → List Particle
models_of_all nodes = models_from [] nodes

pub models_from-append : (models : List Particle) (ns ms : List Node) → models_from models (ns ++ ms) ≡ models_from (models_from models ns) ms
models_from-append models [] ms = refl
models_from-append models (n ∷ ns) ms = models_from-append (models ++ model_of models n ∷ []) ns ms

pub models_of_all-push : (ns : List Node) (n : Node) → models_of_all (ns ++ n ∷ []) ≡ models_of_all ns ++ model_of (models_of_all ns) n ∷ []
models_of_all-push ns n = models_from-append [] ns (n ∷ [])

length-models_from : (models : List Particle) (ns : List Node) → length (models_from models ns) ≡ length models + length ns
length-models_from models [] = omega arith
length-models_from models (n ∷ ns) =
    length-models_from (models ++ model_of models n ∷ []) ns ∙ (let e = length-append models (model_of models n ∷ []) in omega arith)

pub length-models_of_all : (ns : List Node) → length (models_of_all ns) ≡ length ns
length-models_of_all ns = length-models_from [] ns ∙ omega arith

-- earlier models stay
model_at-models_from : (models : List Particle) (ns : List Node) (i : ℕ) → i < length models → model_at (models_from models ns) i ≡ model_at models i
model_at-models_from models [] i l = refl
model_at-models_from models (n ∷ ns) i l =
    model_at-models_from (models ++ model_of models n ∷ []) ns i (let e = length-append models (model_of models n ∷ []) in omega arith) ∙
    get_or_append_left models (model_of models n ∷ []) (choice none) i l

map_alike : (f g : ℕ → Particle) (b : ℕ) (xs : List ℕ) → ((i : ℕ) → i < b → f i ≡ g i) → All (λ p. p < b) xs → map f xs ≡ map g xs
map_alike f g b [] same below = refl
map_alike f g b (x ∷ xs) same below =
    let e : f x ≡ g x = same x (below 0 0 (omega arith)) in
    let r : map f xs ≡ map g xs = map_alike f g b xs same (λ k d l. below (suc k) d (omega arith)) in
    cc

-- a node's tree hangs on the models of its parts alone
pub model_of-alike : (ts us : List Particle) (b : ℕ) (n : Node) → ((i : ℕ) → i < b → model_at ts i ≡ model_at us i) → PartsBelow b n → model_of ts n ≡ model_of us n
model_of-alike ts us b (Term s) same below = refl
model_of-alike ts us b (Sequence parts) same below = ap (λ ps. sequence (members_of ps)) (map_alike (model_at ts) (model_at us) b parts same below)
model_of-alike ts us b (Choice parts) same below = ap (λ ps. choice (members_of ps)) (map_alike (model_at ts) (model_at us) b parts same below)
model_of-alike ts us b (Each parts) same below = ap (λ ps. all_of (members_of ps)) (map_alike (model_at ts) (model_at us) b parts same below)
model_of-alike ts us b (Occurs part least most) same below = ap (λ t. occurs least most t) (same part below)

-- the tree of a number is that of its node, over all models
pub model_is : (ns : List Node) (i : ℕ) (d : Node) → IsOrdered ns → i < length ns → model_at (models_of_all ns) i ≡ model_of (models_of_all ns) (get_or ns i d)
model_is ns i d ordered l =
    let n : Node = get_or ns i d in
    let split : ns ≡ take i ns ++ n ∷ drop (i + 1) ns = sym (take-append-drop i ns) ∙ ap (λ r. take i ns ++ r) (drop_more ns i d l) in
    let front : List Particle = models_of_all (take i ns) in
    let grown : models_of_all ns ≡ models_from (front ++ model_of front n ∷ []) (drop (i + 1) ns) =
    ap models_of_all split ∙ models_from-append [] (take i ns) (n ∷ drop (i + 1) ns) in
    let long : length front ≡ i = length-models_of_all (take i ns) ∙ length-take-le i ns (omega arith) in
    let longer : length (front ++ model_of front n ∷ []) ≡ i + 1 = (let e = length-append front (model_of front n ∷ []) in omega arith) in
    let same : (k : ℕ) → k < i → model_at front k ≡ model_at (models_of_all ns) k = (λ k h.
    sym (ap (λ ts. model_at ts k) grown ∙ (model_at-models_from (front ++ model_of front n ∷ []) (drop (i + 1) ns) k (omega arith) ∙
    get_or_append_left front (model_of front n ∷ []) (choice none) k (omega arith)))) in
    ap (λ ts. model_at ts i) grown ∙ (model_at-models_from (front ++ model_of front n ∷ []) (drop (i + 1) ns) i (omega arith) ∙
    (get_or_at front (model_of front n) [] (choice none) i long ∙
    model_of-alike front (models_of_all ns) i n same
    (let b = ordered i n l in let e : get_or ns i n ≡ n = get_or_default ns i n d l in rw e at b)))
