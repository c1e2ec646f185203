-- Ranks that fall along references are ranks of the components.
use Rattle.std.proofs.Common.{◌≡◌, ℕ, zero, ◌+◌, ◌<◌, ◌≤◌, ◌⊎◌, List, [], ◌∷◌, ◌++◌, Option, None, Some, length, map, take, drop, get_or, slice_get, slice_index, refl, sym, ap, ◌∙◌, subst, arith}
use Rattle.std.specs.Prelude.{All, Contains, IfSome}
use Rattle.std.proofs.lemmas.Option.{slice_get_within}
use Rattle.std.proofs.lemmas.List.{get_or-take, get_or-drop}
use Rattle.std.proofs.lemmas.List.Elements.{All-weaker, Contains-append_left, Contains-append_right, Contains-get_or}
use Rattle.component_references.specs.NumberedCircles.{refs_of, AreFalling}
use Rattle.xs_components.specs.Tables.{Tables}
use Rattle.xs_components.specs.declared.common.TypeId.{TypeId}
use Rattle.xs_components.specs.declared.common.TypeId.TheVariants.{AnyType, Builtin, Simple, Complex}
use Rattle.xs_components.specs.declared.simple.SimpleType.{SimpleType}
use Rattle.xs_components.specs.declared.complex.ComplexType.{ComplexType}
use Rattle.xs_components.specs.declared.element.ElementDecl.{ElementDecl}
use Rattle.xs_components.specs.declared.group.GroupDef.{GroupDef}
use Rattle.xs_components.specs.declared.attr_group.AttrGroupDef.{AttrGroupDef}
use Rattle.xs_components.specs.declared.particle.Particle.{Particle}
use Rattle.component_references.specs.Heights.{first_height, IsType, IsLower}
use Rattle.component_references.specs.Ranked.{IsBelow, IsRanked, named_types, held_particles, named_group}
use Rattle.component_references.proofs.HeightLaws.{builtin-below}
use Rattle.component_references.specs.References.{one_or_none, behind, IsPart, IsClosed, type_number, type_numbers, type_references, element_references, attr_group_references, term_numbers, group_references, particle_references, complex_references, model_references}
use Rattle.component_references.specs.Circles.{with_ranks, Ranks, with_all_ranks}
use Rattle.component_references.specs.inside.Parts.{AreTypesRanked, AreElementsRanked, AreAttrGroupsRanked, AreModelsRanked, HaveTypeRanks, HaveElementRanks, HaveAttrGroupRanks, HaveModelRanks}
use Rattle.component_references.proofs.GraphLaws.{held-there}
use Rattle.component_references.proofs.RowLaws.{Contains-flat_map, Contains-map, refs-alone, refs-first, refs-second, length-alone, length-both}

-- the only one
here : (n : ℕ) → Contains (n ∷ []) n
here n = (zero, omega arith, refl)

module _ (t : Tables) (closed : IsClosed t) (v : List ℕ) (fall : AreFalling (type_references t) v) where
  abbrev S : ℕ
  S = length t.simples.parts

  abbrev ranked : Tables
  ranked = record t { simples = with_ranks t.simples (take S v); complexes = with_ranks t.complexes (drop S v) }

  -- a type whose number has a lower rank is lower
  lower : (high : ℕ) (x : TypeId) → IsType t x → ((m : ℕ) → Contains (type_number S x) m → slice_index v m < high) → IsLower ranked (first_height + high) x
  lower high AnyType is low = record { there = tt; lower = omega arith }
  lower high (Builtin b) is low = record { there = tt; lower = omega (arith, builtin-below b) }
  lower high (Simple id) is low =
      let l = low id (here id) in
      let e : slice_index (take S v) id ≡ slice_index v id = get_or-take S v id 0 is in
      record { there = is; lower = omega (arith, l, e) }
  lower high (Complex id) is low =
      let l = low (S + id) (here (S + id)) in
      let e : slice_index (drop S v) id ≡ slice_index v (S + id) = get_or-drop S v id 0 in
      record { there = is; lower = omega (arith, l, e) }

  pub types-ranked : AreTypesRanked ranked
  types-ranked = record { simples = simples; complexes = complexes }
    where
      all : length (type_references t) ≡ S + length t.complexes.parts
      all = length-both (λ part. type_numbers S (named_types part.form)) t.simples.parts (λ part. type_number S part.base) t.complexes.parts

      simples : (n : ℕ) (part : SimpleType) → slice_get t.simples.parts n ≡ Some part → All (IsLower ranked (first_height + slice_index (take S v) n)) (named_types part.form)
      simples n part e k d within =
          let h : n < S = slice_get_within t.simples.parts n part e in
          let row = refs-first (λ p. type_numbers S (named_types p.form)) t.simples.parts (complex_references t) n part e in
          rw (get_or-take S v n 0 h)
          (lower (slice_index v n) (get_or (named_types part.form) k d) (closed.simples n part e k d within)
          (λ m c. fall n m (omega (arith, all)) (rw row (Contains-flat_map (type_number S) (named_types part.form) k d m within c))))

      complexes : (n : ℕ) (part : ComplexType) → slice_get t.complexes.parts n ≡ Some part → IsLower ranked (first_height + slice_index (drop S v) n) part.base
      complexes n part e =
          let h : n < length t.complexes.parts = slice_get_within t.complexes.parts n part e in
          let row = refs-second (λ p. type_numbers S (named_types p.form)) t.simples.parts (λ p. type_number S p.base) t.complexes.parts n part e in
          rw (get_or-drop S v n 0)
          (lower (slice_index v (S + n)) part.base (closed.complexes n part e) (λ m c. fall (S + n) m (omega (arith, all)) (rw row c)))

module _ (t : Tables) (closed : IsClosed t) (v : List ℕ) (fall : AreFalling (element_references t) v) where
  pub elements-ranked : AreElementsRanked (record t { elements = with_ranks t.elements v })
  elements-ranked n part e = of part.head refl (closed.elements n part e)
    where
      of : (o : Option ℕ) → part.head ≡ o → IfSome o (IsPart t.elements) → IfSome o (IsBelow (with_ranks t.elements v) (slice_index v n))
      of None is there = there
      of (Some h) is there =
          let short : n < length (element_references t) = omega (arith, length-alone (λ (p : ElementDecl). one_or_none p.head) t.elements.parts, slice_get_within t.elements.parts n part e) in
          let row : refs_of (element_references t) n ≡ h ∷ [] = refs-alone (λ p. one_or_none p.head) t.elements.parts n part e ∙ ap one_or_none is in
          record { there = there; lower = fall n h short (rw row (here h)) }

module _ (t : Tables) (closed : IsClosed t) (v : List ℕ) (fall : AreFalling (attr_group_references t) v) where
  pub attr_groups-ranked : AreAttrGroupsRanked (record t { attr_groups = with_ranks t.attr_groups v })
  attr_groups-ranked n part e k d within =
      let short : n < length (attr_group_references t) = omega (arith, length-alone (λ (p : AttrGroupDef). p.groups) t.attr_groups.parts, slice_get_within t.attr_groups.parts n part e) in
      let row : refs_of (attr_group_references t) n ≡ part.groups = refs-alone (λ p. p.groups) t.attr_groups.parts n part e in
      record { there = closed.attr_groups n part e k d within; lower = fall n (get_or part.groups k d) short (rw row (Contains-get_or part.groups k d within)) }

module _ (t : Tables) (closed : IsClosed t) (v : List ℕ) (fall : AreFalling (model_references t) v) where
  abbrev G : ℕ
  G = length t.groups.parts

  abbrev modelled : Tables
  modelled = record t { groups = with_ranks t.groups (take G v); particles = with_ranks t.particles (drop G v) }

  all-models : length (model_references t) ≡ G + length t.particles.parts
  all-models = length-both (λ part. behind G (one_or_none part.particle)) t.groups.parts (λ part. term_numbers G part.term) t.particles.parts

  group-row : (n : ℕ) (part : GroupDef) → slice_get t.groups.parts n ≡ Some part → refs_of (model_references t) n ≡ behind G (one_or_none part.particle)
  group-row n part e = refs-first (λ p. behind G (one_or_none p.particle)) t.groups.parts (particle_references t) n part e

  particle-row : (n : ℕ) (part : Particle) → slice_get t.particles.parts n ≡ Some part → refs_of (model_references t) (G + n) ≡ term_numbers G part.term
  particle-row n part e = refs-second (λ p. behind G (one_or_none p.particle)) t.groups.parts (λ p. term_numbers G p.term) t.particles.parts n part e

  rank-group : (n : ℕ) → n < G → slice_index (take G v) n ≡ slice_index v n
  rank-group n h = get_or-take G v n 0 h

  rank-particle : (n : ℕ) → slice_index (drop G v) n ≡ slice_index v (G + n)
  rank-particle n = get_or-drop G v n 0

  groups : (n : ℕ) (part : GroupDef) → slice_get t.groups.parts n ≡ Some part → (o : Option ℕ) → part.particle ≡ o → IfSome o (IsPart t.particles) → IfSome o (IsBelow (with_ranks t.particles (drop G v)) (slice_index (take G v) n))
  groups n part e None is there = there
  groups n part e (Some p) is there =
      let h : n < G = slice_get_within t.groups.parts n part e in
      let row : refs_of (model_references t) n ≡ (G + p) ∷ [] = group-row n part e ∙ ap (λ o. behind G (one_or_none o)) is in
      let low = fall n (G + p) (omega (arith, all-models)) (rw row (here (G + p))) in
      record { there = there; lower = omega (arith, low, rank-group n h, rank-particle p) }

  held : (n : ℕ) (part : Particle) → slice_get t.particles.parts n ≡ Some part → All (IsBelow (with_ranks t.particles (drop G v)) (slice_index (drop G v) n)) (held_particles part.term)
  held n part e k d within =
      let h : n < length t.particles.parts = slice_get_within t.particles.parts n part e in
      let p = get_or (held_particles part.term) k d in
      let low = fall (G + n) (G + p) (omega (arith, all-models))
      (rw (particle-row n part e) (Contains-append_right (one_or_none (named_group part.term)) (behind G (held_particles part.term)) (G + p) (Contains-map (λ x. G + x) (held_particles part.term) k d within))) in
      record { there = held-there t closed n part e k d within; lower = omega (arith, low, rank-particle n, rank-particle p) }

  to-group : (n : ℕ) (part : Particle) → slice_get t.particles.parts n ≡ Some part → (o : Option ℕ) → named_group part.term ≡ o → IfSome o (IsPart t.groups) → IfSome o (IsBelow (with_ranks t.groups (take G v)) (slice_index (drop G v) n))
  to-group n part e None is there = there
  to-group n part e (Some g) is there =
      let h : n < length t.particles.parts = slice_get_within t.particles.parts n part e in
      let first : Contains (one_or_none (named_group part.term)) g = rw is (here g) in
      let low = fall (G + n) g (omega (arith, all-models)) (rw (particle-row n part e) (Contains-append_left (one_or_none (named_group part.term)) (behind G (held_particles part.term)) g first)) in
      record { there = there; lower = omega (arith, low, rank-particle n, rank-group g there) }

  pub models-ranked : AreModelsRanked modelled
  models-ranked = record {
    groups = λ n part e. groups n part e part.particle refl (closed.groups n part e);
    particles = held;
    to_groups = λ n part e. to-group n part e (named_group part.term) refl (closed.to_groups n part e);
  }

-- the height of a type goes by the tables of types alone
lower-kept : (a b : Tables) (h : ℕ) → a.simples ≡ b.simples → a.complexes ≡ b.complexes → (x : TypeId) → IsLower a h x → IsLower b h x
lower-kept a b h s c AnyType low = record { there = tt; lower = low.lower }
lower-kept a b h s c (Builtin k) low = record { there = tt; lower = low.lower }
lower-kept a b h s c (Simple id) low = record { there = subst (λ u. id < length u.parts) s low.there; lower = subst (λ u. first_height + slice_index u.ranks id < h) s low.lower }
lower-kept a b h s c (Complex id) low = record { there = subst (λ u. id < length u.parts) c low.there; lower = subst (λ u. first_height + slice_index u.ranks id < h) c low.lower }

pub types-kept : (a b : Tables) → a.simples ≡ b.simples → a.complexes ≡ b.complexes → AreTypesRanked a → AreTypesRanked b
types-kept a b s c types = record { simples = simples; complexes = complexes }
  where
    simples : (n : ℕ) (part : SimpleType) → slice_get b.simples.parts n ≡ Some part → All (IsLower b (first_height + slice_index b.simples.ranks n)) (named_types part.form)
    simples n part e =
        let was : All (IsLower a (first_height + slice_index a.simples.ranks n)) (named_types part.form) = types.simples n part (subst (λ u. slice_get u.parts n ≡ Some part) (sym s) e) in
        All-weaker (IsLower a (first_height + slice_index b.simples.ranks n)) (IsLower b (first_height + slice_index b.simples.ranks n)) (lower-kept a b (first_height + slice_index b.simples.ranks n) s c) (named_types part.form)
        (subst (λ u. All (IsLower a (first_height + slice_index u.ranks n)) (named_types part.form)) s was)

    complexes : (n : ℕ) (part : ComplexType) → slice_get b.complexes.parts n ≡ Some part → IsLower b (first_height + slice_index b.complexes.ranks n) part.base
    complexes n part e =
        let was : IsLower a (first_height + slice_index a.complexes.ranks n) part.base = types.complexes n part (subst (λ u. slice_get u.parts n ≡ Some part) (sym c) e) in
        lower-kept a b (first_height + slice_index b.complexes.ranks n) s c part.base (subst (λ u. IsLower a (first_height + slice_index u.ranks n) part.base) c was)

-- ranks kind by kind are ranks of all
pub all-ranked : (t0 t1 t2 t3 t4 : Tables) → HaveTypeRanks t0 t1 → AreTypesRanked t1 → HaveElementRanks t1 t2 → AreElementsRanked t2 → HaveAttrGroupRanks t2 t3 → AreAttrGroupsRanked t3 → HaveModelRanks t3 t4 → AreModelsRanked t4 → IsRanked t4
all-ranked t0 t1 t2 t3 t4 ht types he elements ha attr_groups hm models = record {
  simples = kept.simples;
  complexes = kept.complexes;
  elements = rw (hm.2, ha.1) elements;
  groups = models.groups;
  attr_groups = rw hm.2 attr_groups;
  particles = models.particles;
  to_groups = models.to_groups;
}
  where
    kept : AreTypesRanked t4
    kept = types-kept t1 t4 (rw (hm.2, ha.1, he.1) refl) (rw (hm.2, ha.1, he.1) refl) types

pub all-ranks : (t0 t1 t2 t3 t4 : Tables) → HaveTypeRanks t0 t1 → HaveElementRanks t1 t2 → HaveAttrGroupRanks t2 t3 → HaveModelRanks t3 t4 → (ranks : Ranks) × (t4 ≡ with_all_ranks t0 ranks)
all-ranks t0 t1 t2 t3 t4 ht he ha hm =
    (record { simples = ht.0; complexes = ht.1; elements = he.0; groups = hm.0; attr_groups = ha.0; particles = hm.1 }, rw (hm.2, ha.1, he.1, ht.2) refl)

type-kept : (t : Tables) (r : Ranks) (x : TypeId) → IsType t x → IsType (with_all_ranks t r) x
type-kept t r AnyType is = tt
type-kept t r (Builtin k) is = tt
type-kept t r (Simple id) is = is
type-kept t r (Complex id) is = is

-- what is closed stays so under other ranks
closed-with : (t : Tables) (r : Ranks) → IsClosed t → IsClosed (with_all_ranks t r)
closed-with t r closed = record {
  simples = λ n part e. All-weaker (IsType t) (IsType (with_all_ranks t r)) (type-kept t r) (named_types part.form) (closed.simples n part e);
  complexes = λ n part e. type-kept t r part.base (closed.complexes n part e);
  elements = closed.elements;
  groups = closed.groups;
  attr_groups = closed.attr_groups;
  effectives = closed.effectives;
  particles = closed.particles;
  to_groups = closed.to_groups;
}

abbrev ranks_in : Tables → Ranks
ranks_in t = record { simples = t.simples.ranks; complexes = t.complexes.ranks; elements = t.elements.ranks; groups = t.groups.ranks; attr_groups = t.attr_groups.ranks; particles = t.particles.ranks }

pub closed-types : (t new : Tables) → HaveTypeRanks t new → IsClosed t → IsClosed new
closed-types t new h closed = subst IsClosed (sym h.2) (closed-with t (record (ranks_in t) { simples = h.0; complexes = h.1 }) closed)

pub closed-elements : (t new : Tables) → HaveElementRanks t new → IsClosed t → IsClosed new
closed-elements t new h closed = subst IsClosed (sym h.1) (closed-with t (record (ranks_in t) { elements = h.0 }) closed)

pub closed-attr_groups : (t new : Tables) → HaveAttrGroupRanks t new → IsClosed t → IsClosed new
closed-attr_groups t new h closed = subst IsClosed (sym h.1) (closed-with t (record (ranks_in t) { attr_groups = h.0 }) closed)
