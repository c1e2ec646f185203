-- What comes of references, kind by kind.
use Rattle.std.proofs.Common.{◌≡◌, ℕ, ◌+◌, ◌≤◌, ◌⊎◌, List, Option, None, Some, length, map, take, drop, slice_index, refl, sym, ap, ◌∙◌, subst, arith}
use Rattle.std.specs.Prelude.{IfNone}
use Rattle.component_references.specs.NumberedCircles.{HasCircle, IsRanking, AreFalling}
use Rattle.xs_codes.specs.declared.code.Code.{Code}
use Rattle.xs_codes.specs.declared.code.Code.TheVariants.{StPropsCorrect2, CtPropsCorrect3, MgPropsCorrect2, SrcAttributeGroup3, EPropsCorrect6}
use Rattle.xs_codes.specs.declared.fault.Fault.{Fault}
use Rattle.xs_components.specs.Tables.{Tables}
use Rattle.xs_components.specs.declared.common.Place.{Place}
use Rattle.xs_components.specs.declared.simple.SimpleType.{SimpleType}
use Rattle.xs_components.specs.declared.complex.ComplexType.{ComplexType}
use Rattle.xs_codes.specs.Least.{IsLeast}
use Rattle.component_references.specs.Ranked.{named_types}
use Rattle.component_references.specs.References.{one_or_none, behind, type_number, type_numbers, term_numbers, type_references, element_references, attr_group_references, model_references, IsClosed}
use Rattle.component_references.specs.Circles.{ComesBack, IsTypeCircle, IsElementCircle, IsAttrGroupCircle, IsGroupCircle, with_ranks}
use Rattle.component_references.specs.inside.Parts.{AreTypesBack, IsOutcome, AreTypesRanked, AreElementsRanked, AreAttrGroupsRanked, AreModelsRanked, AreTypeHeights, AreElementHeights, AreAttrGroupHeights, AreModelHeights}
use Rattle.component_references.specs.declared.falling.Ranking.{Ranking}
use Rattle.component_references.specs.declared.falling.Ranking.TheVariants.{Falling, Circular}
use Rattle.component_references.proofs.RowLaws.{length-alone, length-both}
use Rattle.component_references.proofs.CircleLaws.{some-alone, some-both}
use Rattle.component_references.proofs.GroupLaws.{some-group}
use Rattle.component_references.proofs.RankLaws.{types-ranked, elements-ranked, attr_groups-ranked, models-ranked}

pub types-length : (t : Tables) → length (type_references t) ≡ length t.simples.parts + length t.complexes.parts
types-length t = length-both (λ part. type_numbers (length t.simples.parts) (named_types part.form)) t.simples.parts (λ part. type_number (length t.simples.parts) part.base) t.complexes.parts

pub elements-length : (t : Tables) → length (element_references t) ≡ length t.elements.parts
elements-length t = length-alone (λ part. one_or_none part.head) t.elements.parts

pub attr_groups-length : (t : Tables) → length (attr_group_references t) ≡ length t.attr_groups.parts
attr_groups-length t = length-alone (λ part. part.groups) t.attr_groups.parts

pub models-length : (t : Tables) → length (model_references t) ≡ length t.groups.parts + length t.particles.parts
models-length t = length-both (λ part. behind (length t.groups.parts) (one_or_none part.particle)) t.groups.parts (λ part. term_numbers (length t.groups.parts) part.term) t.particles.parts

-- an outcome for parts that were read, by references that were made
pub types-outcome : (t : Tables) (simples : List SimpleType) (complexes : List ComplexType) (refs : List (List ℕ)) (r : Ranking) → simples ≡ t.simples.parts → complexes ≡ t.complexes.parts → refs ≡ type_references t
    → IsOutcome refs (AreTypesBack simples complexes refs) r → IsOutcome (type_references t) (IsTypeCircle t) r
types-outcome t simples complexes refs r a b e o =
    subst (λ l. IsOutcome l (AreTypesBack t.simples.parts t.complexes.parts l) r) e
    (subst (λ l. IsOutcome refs (AreTypesBack t.simples.parts l refs) r) b (subst (λ l. IsOutcome refs (AreTypesBack l complexes refs) r) a o))

pub parts-outcome : {X : Type 0} (at : X → Place) (xs ys : List X) (refs rows : List (List ℕ)) (code : Code) (r : Ranking) → xs ≡ ys → refs ≡ rows → IsOutcome refs (ComesBack (map at xs) refs 0 code) r → IsOutcome rows (ComesBack (map at ys) rows 0 code) r
parts-outcome at xs ys refs rows code r a e o =
    subst (λ l. IsOutcome l (ComesBack (map at ys) l 0 code) r) e (subst (λ l. IsOutcome refs (ComesBack (map at l) refs 0 code) r) a o)

module _ (t : Tables) (r : Ranking) (found : Option Fault) (is : r ≡ Circular found) (P : Type 0) where
  if-none : (B : Fault → Type 0) (refs : List (List ℕ)) → (HasCircle refs → IsLeast B None → ⊥) → IsOutcome refs B r → IfNone found P
  if-none B refs none o = on found (subst (IsOutcome refs B) is o)
    where
      on : (f : Option Fault) → HasCircle refs × IsLeast B f → IfNone f P
      on None h = absurd (none h.0 h.1)
      on (Some f) h = tt

  pub types-none : IsOutcome (type_references t) (IsTypeCircle t) r → IfNone found P
  types-none o = if-none (IsTypeCircle t) (type_references t) (λ c n. some-both (λ (p : SimpleType). p.at) t.simples.parts (λ (p : ComplexType). p.at) t.complexes.parts (type_references t) StPropsCorrect2 CtPropsCorrect3 (types-length t) c n) o

  pub elements-none : IsOutcome (element_references t) (IsElementCircle t) r → IfNone found P
  elements-none o = if-none (IsElementCircle t) (element_references t) (λ c n. some-alone (λ part. part.at) t.elements.parts (element_references t) EPropsCorrect6 (elements-length t) c n) o

  pub attr_groups-none : IsOutcome (attr_group_references t) (IsAttrGroupCircle t) r → IfNone found P
  attr_groups-none o = if-none (IsAttrGroupCircle t) (attr_group_references t) (λ c n. some-alone (λ part. part.at) t.attr_groups.parts (attr_group_references t) SrcAttributeGroup3 (attr_groups-length t) c n) o

  pub models-none : IsClosed t → IsOutcome (model_references t) (IsGroupCircle t) r → IfNone found P
  models-none closed o = if-none (IsGroupCircle t) (model_references t) (λ c n. some-group t closed MgPropsCorrect2 c n) o

-- tables with ranks that were written one after another
pub types-written : (t mid new : Tables) (v front back : List ℕ) → IsClosed t → IsRanking (type_references t) v → front ≡ take (length t.simples.parts) v → back ≡ drop (length t.simples.parts) v
    → mid ≡ record t { simples = with_ranks t.simples front } → new ≡ record mid { complexes = with_ranks mid.complexes back } → AreTypesRanked new
types-written t mid new v front back closed ranking a b e f =
    subst AreTypesRanked (sym (f ∙ ap (λ (p : Tables). record p { complexes = with_ranks p.complexes back }) e
    ∙ ap (λ l. record t { simples = with_ranks t.simples l; complexes = with_ranks t.complexes back }) a
    ∙ ap (λ l. record t { simples = with_ranks t.simples (take (length t.simples.parts) v); complexes = with_ranks t.complexes l }) b))
    (types-ranked t closed v ranking.fall)

pub models-written : (t mid new : Tables) (v front back : List ℕ) → IsClosed t → IsRanking (model_references t) v → front ≡ take (length t.groups.parts) v → back ≡ drop (length t.groups.parts) v
    → mid ≡ record t { groups = with_ranks t.groups front } → new ≡ record mid { particles = with_ranks mid.particles back } → AreModelsRanked new
models-written t mid new v front back closed ranking a b e f =
    subst AreModelsRanked (sym (f ∙ ap (λ (p : Tables). record p { particles = with_ranks p.particles back }) e
    ∙ ap (λ l. record t { groups = with_ranks t.groups l; particles = with_ranks t.particles back }) a
    ∙ ap (λ l. record t { groups = with_ranks t.groups (take (length t.groups.parts) v); particles = with_ranks t.particles l }) b))
    (models-ranked t closed v ranking.fall)

pub elements-written : (t new : Tables) (v ranks : List ℕ) → IsClosed t → IsRanking (element_references t) v → ranks ≡ v → new ≡ record t { elements = with_ranks t.elements ranks } → AreElementsRanked new
elements-written t new v ranks closed ranking a e = subst AreElementsRanked (sym (e ∙ ap (λ l. record t { elements = with_ranks t.elements l }) a)) (elements-ranked t closed v ranking.fall)

pub attr_groups-written : (t new : Tables) (v ranks : List ℕ) → IsClosed t → IsRanking (attr_group_references t) v → ranks ≡ v → new ≡ record t { attr_groups = with_ranks t.attr_groups ranks } → AreAttrGroupsRanked new
attr_groups-written t new v ranks closed ranking a e = subst AreAttrGroupsRanked (sym (e ∙ ap (λ l. record t { attr_groups = with_ranks t.attr_groups l }) a)) (attr_groups-ranked t closed v ranking.fall)

-- the ranks that were written are heights
pub types-heights : (t mid new : Tables) (v front back : List ℕ) → IsRanking (type_references t) v → front ≡ take (length t.simples.parts) v → back ≡ drop (length t.simples.parts) v
    → mid ≡ record t { simples = with_ranks t.simples front } → new ≡ record mid { complexes = with_ranks mid.complexes back } → AreTypeHeights new
types-heights t mid new v front back ranking a b e f =
    subst AreTypeHeights (sym (f ∙ ap (λ (p : Tables). record p { complexes = with_ranks p.complexes back }) e)) (v, ranking, a, b)

pub models-heights : (t mid new : Tables) (v front back : List ℕ) → IsRanking (model_references t) v → front ≡ take (length t.groups.parts) v → back ≡ drop (length t.groups.parts) v
    → mid ≡ record t { groups = with_ranks t.groups front } → new ≡ record mid { particles = with_ranks mid.particles back } → AreModelHeights new
models-heights t mid new v front back ranking a b e f =
    subst AreModelHeights (sym (f ∙ ap (λ (p : Tables). record p { particles = with_ranks p.particles back }) e)) (v, ranking, a, b)

pub elements-heights : (t new : Tables) (v ranks : List ℕ) → IsRanking (element_references t) v → ranks ≡ v → new ≡ record t { elements = with_ranks t.elements ranks } → AreElementHeights new
elements-heights t new v ranks ranking a e = subst AreElementHeights (sym (e ∙ ap (λ l. record t { elements = with_ranks t.elements l }) a)) ranking

pub attr_groups-heights : (t new : Tables) (v ranks : List ℕ) → IsRanking (attr_group_references t) v → ranks ≡ v → new ≡ record t { attr_groups = with_ranks t.attr_groups ranks } → AreAttrGroupHeights new
attr_groups-heights t new v ranks ranking a e = subst AreAttrGroupHeights (sym (e ∙ ap (λ l. record t { attr_groups = with_ranks t.attr_groups l }) a)) ranking
