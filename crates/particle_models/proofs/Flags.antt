-- Which models have no term that has copies.
use Rattle.std.proofs.Common.{◌≡◌, ℕ, zero, suc, ◌+◌, ◌<◌, ◌==◌, ◌&&◌, None, Some, Bool, true, List, [], ◌∷◌, ◌++◌, map, length, get_or, take, drop, refl, sym, ap, ◌∙◌, arith}
use Rattle.std.proofs.lemmas.Bool.Decides.{nat_tests}
use Rattle.std.proofs.lemmas.List.{map-append, take_more, drop_more}
use Rattle.particle_models.specs.Particles.{Particle}
use Rattle.particle_models.specs.Unrolled.{count, count_in}
use Rattle.particle_models.specs.Nodes.{members_of, model_at, model_of, models_from}
use Rattle.particle_models.specs.Numbering.{has_no_terms, all_flags, node_flag}
use Rattle.particle_models.specs.declared.node.Node.{Node}
use Rattle.particle_models.specs.declared.node.Node.TheVariants.{Term, Sequence, Choice, Each, Occurs}
use Rattle.particle_models.proofs.Growing.{models_of_all-push}

sum_zero : (a b : ℕ) → (a == 0 && b == 0) ≡ (a + b == 0)
sum_zero a b = grind (arith, nat_tests)

flag_at : (models : List Particle) (id : ℕ) → get_or (map has_no_terms models) id true ≡ has_no_terms (model_at models id)
flag_at [] id = refl
flag_at (m ∷ models) zero = refl
flag_at (m ∷ models) (suc id) = flag_at models id

flags_are : (models : List Particle) (ids : List ℕ) → all_flags (map has_no_terms models) ids ≡ (count_in (members_of (map (model_at models) ids)) == 0)
flags_are models [] = refl
flags_are models (id ∷ ids) =
    ap (λ b. b && all_flags (map has_no_terms models) ids) (flag_at models id) ∙ (ap (λ b. has_no_terms (model_at models id) && b) (flags_are models ids) ∙
    sum_zero (count (model_at models id)) (count_in (members_of (map (model_at models) ids))))

pub flag_is : (models : List Particle) (node : Node) → node_flag (map has_no_terms models) node ≡ has_no_terms (model_of models node)
flag_is models (Term number) = refl
flag_is models (Sequence members) = flags_are models members
flag_is models (Choice members) = flags_are models members
flag_is models (Each members) = refl
flag_is models (Occurs part least None) = flag_at models part
flag_is models (Occurs part least (Some zero)) = refl
flag_is models (Occurs part least (Some (suc most))) = flag_at models part

pub flags_more : (nodes : List Node) (i : ℕ) (node : Node) (flags flags' : List Bool) (flag : Bool) → i < length nodes → node ≡ get_or nodes i node →
    flags ≡ map has_no_terms (models_from [] (take i nodes)) → flag ≡ node_flag flags node → flags' ≡ flags ++ flag ∷ [] → flags' ≡ map has_no_terms (models_from [] (take (i + 1) nodes))
flags_more nodes i node flags flags' flag l is before e push =
    let models : List Particle = models_from [] (take i nodes) in
    let grown : models_from [] (take (i + 1) nodes) ≡ models ++ model_of models node ∷ [] =
    ap (models_from []) (take_more nodes i node l ∙ ap (λ n. take i nodes ++ n ∷ []) (sym is)) ∙ models_of_all-push (take i nodes) node in
    push ∙ (ap (λ fs. fs ++ flag ∷ []) before ∙ (ap (λ f. map has_no_terms models ++ f ∷ []) (e ∙ (ap (λ fs. node_flag fs node) before ∙ flag_is models node)) ∙
    sym (ap (map has_no_terms) grown ∙ map-append has_no_terms models (model_of models node ∷ []))))

-- the flags of members, one after another
pub flags_left : (flags : List Bool) (ids : List ℕ) (i : ℕ) (b : Bool) → i < length ids → get_or flags (get_or ids i 0) true ≡ b → all_flags flags (drop i ids) ≡ (b && all_flags flags (drop (i + 1) ids))
flags_left flags ids i b l e = ap (all_flags flags) (drop_more ids i 0 l) ∙ ap (λ x. x && all_flags flags (drop (i + 1) ids)) e
