-- Ranges of parts, by those of the parts before them.
use Rattle.std.proofs.Common.{◌≡◌, ℕ, zero, suc, ◌+◌, ◌*◌, ◌<◌, ◌==◌, ◌||◌, Bool, true, false, List, [], ◌∷◌, ◌++◌, map, length, get_or, take, refl, sym, ap, ◌∙◌, arith, eqb-true}
use Rattle.std.proofs.lemmas.List.{map-append, take_more, length-map}
use Rattle.particle_forms.specs.Ranges.{stopped}
use Rattle.particle_forms.specs.Steps.{known}
use Rattle.particle_forms.specs.declared.extent.TotalRange.{TotalRange}
use Rattle.particle_models.specs.Trees.{Tree, leaf, group}
use Rattle.particle_models.specs.Parts.{tree_at, members_at, tree_of, trees_from}
use Rattle.particle_models.specs.declared.part.Part.{Part}
use Rattle.particle_models.specs.declared.part.Part.TheVariants.{Leaf, Group}
use Rattle.particle_models.proofs.GroupGrowing.{trees_push, length-trees}
use Rattle.particle_restrict.specs.Totals.{taken, range_of, total, totals, is_emptiable, emptiable_members}
use Rattle.particle_restrict.specs.Tables.{part_total}

pub known-total : (trees : List Tree) (id : ℕ) → known (map total trees) id ≡ total (tree_at trees id)
known-total [] id = refl
known-total (t ∷ trees) zero = refl
known-total (t ∷ trees) (suc id) = known-total trees id

totals-members : (trees : List Tree) (ms : List ℕ) → map (known (map total trees)) ms ≡ totals (members_at trees ms)
totals-members trees [] = refl
totals-members trees (m ∷ ms) = ap (λ r. r ∷ map (known (map total trees)) ms) (known-total trees m) ∙ ap (λ rs. total (tree_at trees m) ∷ rs) (totals-members trees ms)

part-total : (trees : List Tree) (part : Part) → part_total (map total trees) part ≡ total (tree_of trees part)
part-total trees (Leaf bounds term) = refl
part-total trees (Group bounds compositor members) = ap (λ rs. taken bounds (range_of compositor rs)) (totals-members trees members)

pub totals-more : (parts : List Part) (i : ℕ) (part : Part) (old new : List TotalRange) (range : TotalRange) → i < length parts → part ≡ get_or parts i part →
    old ≡ map total (trees_from [] (take i parts)) → range ≡ part_total old part → new ≡ old ++ range ∷ [] → new ≡ map total (trees_from [] (take (i + 1) parts))
totals-more parts i part old new range l is before e push =
    let trees : List Tree = trees_from [] (take i parts) in
    let grown : trees_from [] (take (i + 1) parts) ≡ trees ++ tree_of trees part ∷ [] =
    ap (trees_from []) (take_more parts i part l ∙ ap (λ p. take i parts ++ p ∷ []) (sym is)) ∙ trees_push (take i parts) part in
    push ∙ (ap (λ rs. rs ++ range ∷ []) before ∙ (ap (λ r. map total trees ++ r ∷ []) (e ∙ (ap (λ rs. part_total rs part) before ∙ part-total trees part)) ∙
    sym (ap (map total) grown ∙ map-append total trees (tree_of trees part ∷ []))))

either-or : (a b : Bool) → (a ≡ true → b ≡ true) → (a || b) ≡ b
either-or true b h = sym (h refl)
either-or false b h = refl

never-some : (n m : ℕ) → (n == 0 || stopped (n * m) == 0) ≡ (stopped (n * m) == 0)
never-some n m = either-or (n == 0) (stopped (n * m) == 0) none
  where
    none : (n == 0) ≡ true → (stopped (n * m) == 0) ≡ true
    none e =
        let z : n * m ≡ 0 * m = ap (λ k. k * m) (eqb-true n 0 e) in
        let s : stopped (n * m) ≡ 0 = omega (arith, z) in
        rw s refl

pub emptiable-is : (tree : Tree) → is_emptiable tree ≡ ((total tree).least == 0)
emptiable-is (leaf bounds term) = never-some bounds.least 1
emptiable-is (group bounds compositor members) = never-some bounds.least (range_of compositor (totals members)).least

pub emptiable-push : (trees : List Tree) (ms : List ℕ) (m : ℕ) → emptiable_members (members_at trees (ms ++ m ∷ [])) ≡ emptiable_members (members_at trees ms) ++ is_emptiable (tree_at trees m) ∷ []
emptiable-push trees [] m = refl
emptiable-push trees (k ∷ ms) m = ap (λ fs. is_emptiable (tree_at trees k) ∷ fs) (emptiable-push trees ms m)

-- whether a member is emptiable, by the table
pub emptiable-read : (table : List TotalRange) (trees : List Tree) (m : ℕ) (range : TotalRange) → table ≡ map total trees → range ≡ known table m → (range.least == 0) ≡ is_emptiable (tree_at trees m)
emptiable-read table trees m range e is =
    ap (λ (r : TotalRange). r.least == 0) (is ∙ (ap (λ t. known t m) e ∙ known-total trees m)) ∙ sym (emptiable-is (tree_at trees m))

pub emptiable-more : (table : List TotalRange) (trees : List Tree) (ms : List ℕ) (i : ℕ) (range : TotalRange) (flag : Bool) (old new : List Bool) → table ≡ map total trees → i < length ms → range ≡ known table (get_or ms i 0) →
    flag ≡ (range.least == 0) → new ≡ old ++ flag ∷ [] → old ≡ emptiable_members (members_at trees (take i ms)) → new ≡ emptiable_members (members_at trees (take (i + 1) ms))
emptiable-more table trees ms i range flag old new e l is f push was =
    push ∙ (ap (λ fs. fs ++ flag ∷ []) was ∙ (ap (λ b. emptiable_members (members_at trees (take i ms)) ++ b ∷ []) (f ∙ emptiable-read table trees (get_or ms i 0) range e is) ∙
    sym (ap (λ ns. emptiable_members (members_at trees ns)) (take_more ms i 0 l) ∙ emptiable-push trees (take i ms) (get_or ms i 0))))

pub totals-length : (table : List TotalRange) (parts : List Part) → table ≡ map total (trees_from [] parts) → length table ≡ length parts
totals-length table parts e = ap length e ∙ (length-map (trees_from [] parts) total ∙ length-trees parts)
