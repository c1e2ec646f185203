-- Whether a content model is ambiguous, and what its particles accept.
use Rattle.std.specs.Prelude.{◌≡◌, ℕ, ◌<◌, Bool, List, Option, length, slice_index, slice_index_or, MatchOption}
use Rattle.xs_names.specs.Names.{NameTable}
use Rattle.particle_models.specs.Particles.{Particle, Place}
use Rattle.particle_models.specs.Words.{IsAmbiguous}
use Rattle.content_automaton.specs.declared.symbol_terms.Accepts.{Accepts}
use Rattle.content_automaton.specs.Terms.{ExpandedName, accepts_name}

-- no two prefixes of marked words have the same names and end in different places
abbrev pub IsUnambiguous : (ℕ → ExpandedName → Bool) → Particle → Type 0
IsUnambiguous accepts model = (p q : Place) → IsAmbiguous accepts model p q → ⊥

-- cos-nonambig (Structures 3.8.6): these are the particles at two different places in which marked prefixes with the same names
-- end; none where there are no such places.
abbrev pub IsAmbiguousBy : (ℕ → ExpandedName → Bool) → Particle → Option (ℕ × ℕ) → Type 0
IsAmbiguousBy accepts model pair =
    MatchOption pair (IsUnambiguous accepts model) (λ pair. (p : Place) × (q : Place) × IsAmbiguous accepts model p q × (p.number ≡ pair.0) × (q.number ≡ pair.1))

-- the particles of these numbers accept what is listed for them
abbrev pub AcceptAs : NameTable → List ℕ → List Accepts → (ℕ → ExpandedName → Bool) → Type 0
AcceptAs t ids terms accepts =
    (k : ℕ) (a : Accepts) → k < length ids → (name : ExpandedName) → accepts (slice_index ids k) name ≡ accepts_name t (slice_index_or terms k a) name
