-- Where a group or a particle comes back to itself, a group does.
use Rattle.std.proofs.Common.{◌≡◌, ℕ, ◌+◌, ◌-◌, ◌<◌, ◌≤◌, ◌⊎◌, inl, inr, List, [], ◌∷◌, ◌++◌, Option, None, Some, length, map, get_or, slice_get, refl, sym, ap, ◌∙◌, subst, arith}
use Rattle.std.specs.Prelude.{All, Contains}
use Rattle.std.proofs.lemmas.Bool.{cases_lt}
use Rattle.std.proofs.lemmas.Option.{slice_get_cases}
use Rattle.std.proofs.lemmas.List.{get_or_past}
use Rattle.std.proofs.lemmas.List.Elements.{All-append, All-weaker, All-contains}
use Rattle.component_references.specs.NumberedCircles.{refs_of, Leads, directly, further, HasCircle}
use Rattle.xs_codes.specs.declared.code.Code.{Code}
use Rattle.xs_components.specs.Tables.{Tables}
use Rattle.xs_components.specs.declared.particle.Particle.{Particle}
use Rattle.xs_codes.specs.Least.{IsLeast}
use Rattle.component_references.specs.Ranked.{held_particles, named_group}
use Rattle.component_references.specs.References.{one_or_none, behind, term_numbers, model_references, IsClosed}
use Rattle.component_references.specs.Circles.{ComesBack}
use Rattle.component_references.proofs.RowLaws.{refs-second, length-both}
use Rattle.component_references.proofs.GraphLaws.{one-there, behind-there}
use Rattle.component_references.proofs.CircleLaws.{from-zero, circle-at}

leads-on : (refs : List (List ℕ)) (x y z : ℕ) → Leads refs x y → Leads refs y z → Leads refs x z
leads-on refs x y _ a (directly _ z c) = further x y z a c
leads-on refs x y _ a (further _ w z b c) = further x w z (leads-on refs x y w a b) c

module _ (t : Tables) (closed : IsClosed t) where
  abbrev G : ℕ
  G = length t.groups.parts

  abbrev refs : List (List ℕ)
  refs = model_references t

  -- a particle refers to groups, and to particles before it
  row-low : (n : ℕ) (part : Particle) → slice_get t.particles.parts n ≡ Some part → All (λ y. y < G + n) (term_numbers G part.term)
  row-low n part e =
      All-append (λ y. y < G + n) (one_or_none (named_group part.term)) (behind G (held_particles part.term))
      (All-weaker (λ y. y < G) (λ y. y < G + n) (λ y low. omega (arith, low)) (one_or_none (named_group part.term)) (one-there G (named_group part.term) (closed.to_groups n part e)))
      (behind-there G n (held_particles part.term) (closed.particles n part e))

  particle-low : (n y : ℕ) → Contains (refs_of refs (G + n)) y → y < G + n
  particle-low n y c = on ((slice_get_cases t.particles.parts n).1)
    where
      all : length refs ≡ G + length t.particles.parts
      all = length-both (λ part. behind G (one_or_none part.particle)) t.groups.parts (λ part. term_numbers G part.term) t.particles.parts

      on : ((part : Particle) × (n < length t.particles.parts) × (slice_get t.particles.parts n ≡ Some part) × (get_or t.particles.parts n part ≡ part)) ⊎ ((length t.particles.parts ≤ n) × (slice_get t.particles.parts n ≡ None)) → y < G + n
      on (inl p) =
          let row : refs_of refs (G + n) ≡ term_numbers G p.0.term = refs-second (λ q. behind G (one_or_none q.particle)) t.groups.parts (λ q. term_numbers G q.term) t.particles.parts n p.0 p.2 in
          All-contains (λ z. z < G + n) (refs_of refs (G + n)) y (subst (All (λ z. z < G + n)) (sym row) (row-low n p.0 p.2)) c
      on (inr p) =
          let none : refs_of refs (G + n) ≡ [] = get_or_past refs (G + n) [] (omega (arith, all, p.0)) in
          absurd (omega (arith, c.1, ap length none))

  step-low : (x y : ℕ) → G ≤ x → Contains (refs_of refs x) y → y < x
  step-low x y past c =
      let e : G + (x - G) ≡ x = omega arith in
      subst (λ z. y < z) e (particle-low (x - G) y (subst (λ z. Contains (refs_of refs z) y) (sym e) c))

  -- a group leads there, which is where it begins or which that leads to
  abbrev Through : ℕ → ℕ → Type 0
  Through x y = (g : ℕ) × (g < G) × ((x ≡ g) ⊎ Leads refs x g) × Leads refs g y

  low-or-through : (x y : ℕ) → Leads refs x y → (y < x) ⊎ Through x y
  low-or-through _ _ (directly x y c) = elim (cases_lt x G) [ inl low ↦ inr (x, low, inl refl, directly x y c) | inr past ↦ inl (step-low x y (omega (arith, past)) c) ]
  low-or-through _ _ (further x y z l c) = elim (low-or-through x y l) [
    | inl low ↦ elim (cases_lt y G) [ inl group ↦ inr (y, group, inr l, directly y z c) | inr past ↦ (let next = step-low y z (omega (arith, past)) c in inl (omega (arith, low, next))) ]
    | inr via ↦ inr (via.0, via.1, via.2, further via.0 y z via.3 c)
  ]

  circle-of-group : (x : ℕ) → Leads refs x x → (g : ℕ) × (g < G) × Leads refs g g
  circle-of-group x l = elim (low-or-through x x l) [
    | inl low ↦ absurd (omega (arith, low))
    | inr via ↦ elim (via.2) [ inl same ↦ (via.0, via.1, subst (λ y. Leads refs via.0 y) same via.3) | inr to ↦ (via.0, via.1, leads-on refs via.0 x via.0 via.3 to) ]
  ]

  pub some-group : (code : Code) → HasCircle refs → IsLeast (ComesBack (map (λ part. part.at) t.groups.parts) refs 0 code) None → ⊥
  some-group code c none =
      let group = circle-of-group c.0 c.1 in
      let found = circle-at (λ part. part.at) t.groups.parts refs 0 code group.0 group.1 (from-zero refs group.0 group.2) in
      none found.0 found.1
