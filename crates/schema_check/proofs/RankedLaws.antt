-- The ranks of components are determined, and so are their contents and the particles that these add.
use Rattle.std.proofs.Common.{◌≡◌, ℕ, ◌<◌, List, [], ◌∷◌, length, take, drop, slice_index, refl, sym, ap, ◌∙◌, subst}
use Rattle.std.specs.List.{AllZip}
use Rattle.std.proofs.lemmas.Option.{slice_get_within, get_or_from_slice_get}
use Rattle.std.proofs.lemmas.List.Elements.{All-contains}
use Rattle.xs_components.specs.Tables.{Tables}
use Rattle.component_references.specs.References.{type_references, element_references, attr_group_references, model_references}
use Rattle.component_references.specs.Circles.{Ranks, with_all_ranks, AreBothHeights, HaveHeights}
use Rattle.component_references.proofs.FirstLaws.{rankings-same}
use Rattle.type_derivation.specs.Filled.{IsBefore, IsTypeOrder, all_filled, IsFilled, IsCompleted}
use Rattle.type_derivation.proofs.TypeOrderLaws.{never-both}
use Rattle.schema_check.proofs.Ordered.{AreOrdered, AreAmong, ordered-same}

module _ (refs : List (List ℕ)) (count : ℕ) (a b c d : List ℕ) (p : AreBothHeights refs count a b) (q : AreBothHeights refs count c d) where
  all-same : p.0 ≡ q.0
  all-same = rankings-same refs p.0 q.0 p.1 q.1

  first-same : a ≡ c
  first-same = p.2 ∙ (ap (take count) all-same ∙ sym q.2)

  second-same : b ≡ d
  second-same = p.3 ∙ (ap (drop count) all-same ∙ sym q.3)

pub ranks-same : (t : Tables) (a b : Ranks) → HaveHeights (with_all_ranks t a) → HaveHeights (with_all_ranks t b) → a ≡ b
ranks-same t a b p q =
    let simples : a.simples ≡ b.simples = first-same (type_references t) (length t.simples.parts) a.simples a.complexes b.simples b.complexes p.types q.types in
    let complexes : a.complexes ≡ b.complexes = second-same (type_references t) (length t.simples.parts) a.simples a.complexes b.simples b.complexes p.types q.types in
    let elements : a.elements ≡ b.elements = rankings-same (element_references t) a.elements b.elements p.elements q.elements in
    let attr_groups : a.attr_groups ≡ b.attr_groups = rankings-same (attr_group_references t) a.attr_groups b.attr_groups p.attr_groups q.attr_groups in
    let groups : a.groups ≡ b.groups = first-same (model_references t) (length t.groups.parts) a.groups a.particles b.groups b.particles p.models q.models in
    let particles : a.particles ≡ b.particles = second-same (model_references t) (length t.groups.parts) a.groups a.particles b.groups b.particles p.models q.models in
    λ i. record { simples = simples i; complexes = complexes i; elements = elements i; groups = groups i; attr_groups = attr_groups i; particles = particles i }

-- ---- the order of types
zip-same : (xs ys : List ℕ) → AllZip (λ x y. x ≡ y) xs ys → xs ≡ ys
zip-same [] [] all = refl
zip-same [] (y ∷ ys) all = absurd all
zip-same (x ∷ xs) [] all = absurd all
zip-same (x ∷ xs) (y ∷ ys) all =
    let rest = zip-same xs ys all.1 in
    λ i. all.0 i ∷ rest i

module _ (count : ℕ) (ranks : List ℕ) where
  in-order : (order : List ℕ) → IsTypeOrder count ranks order → AreOrdered (IsBefore ranks) order
  in-order order is m n d e low at_m at_n =
      let within = slice_get_within order n e at_n in
      subst (λ x. IsBefore ranks x e) (get_or_from_slice_get order m d 0 at_m) (subst (λ y. IsBefore ranks (slice_index order m) y) (get_or_from_slice_get order n e 0 at_n) (is.rises m n low within))

  among : (xs ys : List ℕ) → IsTypeOrder count ranks xs → IsTypeOrder count ranks ys → AreAmong (λ x y. x ≡ y) xs ys
  among xs ys p q x has = (x, q.each x (All-contains (λ n. n < count) xs x p.there has), refl)

  never : (x y z w : ℕ) → x ≡ w → y ≡ z → IsBefore ranks x y → IsBefore ranks z w → ⊥
  never x y z w xw yz p q = never-both ranks x y p (subst (λ v. IsBefore ranks y v) (sym xw) (subst (λ v. IsBefore ranks v w) (sym yz) q))

  apart : (x z y : ℕ) → IsBefore ranks x z → x ≡ y → z ≡ y → ⊥
  apart x z y p xy zy =
      let same : z ≡ x = zy ∙ sym xy in
      let self : IsBefore ranks x x = subst (IsBefore ranks x) same p in
      never-both ranks x x self self

  pub orders-same : (xs ys : List ℕ) → IsTypeOrder count ranks xs → IsTypeOrder count ranks ys → xs ≡ ys
  orders-same xs ys p q =
      zip-same xs ys (ordered-same (λ x y. x ≡ y) (λ x y e. sym e) (IsBefore ranks) never apart xs ys (in-order xs p) (in-order ys q) (among xs ys p q) (among ys xs q p))

pub filled-same : (old a b : Tables) → IsFilled old a → IsFilled old b → a ≡ b
filled-same old a b p q =
    let order = orders-same (length old.complexes.parts) old.complexes.ranks p.order q.order p.ordered q.ordered in
    p.filled ∙ (ap (all_filled old) order ∙ sym q.filled)

pub ranked-same : (t a b : Tables) → ((ranks : Ranks) × IsCompleted (with_all_ranks t ranks) a) → ((ranks : Ranks) × IsCompleted (with_all_ranks t ranks) b) → a ≡ b
ranked-same t a b p q =
    let ranks = ranks-same t p.0 q.0 p.1.heights q.1.heights in
    filled-same (with_all_ranks t q.0) a b (subst (λ (r : Ranks). IsFilled (with_all_ranks t r) a) ranks p.1.filled) q.1.filled
