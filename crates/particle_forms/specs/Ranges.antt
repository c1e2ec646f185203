-- Effective total ranges of particles (Structures 3.8.6): how many elements a word of a model has at least and at most.
use Rattle.std.specs.Prelude.{◌≡◌, ℕ, zero, suc, ◌+◌, ◌*◌, ◌-◌, ◌^◌, ◌<◌, ◌==◌, ◌||◌, Bool, min, max, List, [], ◌∷◌, Option, None, Some, length, slice_index_or}
use Rattle.xs_components.specs.Tables.{Tables}
use Rattle.particle_models.specs.Particles.{Particle, Particles, term, sequence, choice, all_of, occurs, none, member}
use Rattle.particle_forms.specs.Models.{model_of}
use Rattle.particle_forms.specs.declared.extent.TotalRange.{TotalRange}

-- numbers stop at 2 ^ 64 - 1
abbrev pub stopped : ℕ → ℕ
stopped n = min n (2 ^ 64 - 1)

-- the greatest of two together, and of one or the other; unbounded dominates
abbrev pub most_both : Option ℕ → Option ℕ → Option ℕ
most_both None other = None
most_both (Some n) None = None
most_both (Some n) (Some m) = Some (stopped (n + m))

abbrev pub most_either : Option ℕ → Option ℕ → Option ℕ
most_either None other = None
most_either (Some n) None = None
most_either (Some n) (Some m) = Some (max n m)

-- unbounded dominates, unless multiplied by 0
abbrev pub times_unbounded : ℕ → Option ℕ
times_unbounded zero = Some 0
times_unbounded (suc n) = None

abbrev pub most_times : Option ℕ → Option ℕ → Option ℕ
most_times None None = None
most_times None (Some n) = times_unbounded n
most_times (Some n) None = times_unbounded n
most_times (Some n) (Some m) = Some (stopped (n * m))

-- the least and the greatest of no members are 0
abbrev pub nothing : TotalRange
nothing = record { least = 0; most = Some 0 }

-- an element or a wildcard, once
abbrev pub once : TotalRange
once = record { least = 1; most = Some 1 }

-- the one and the other; the one or the other
abbrev pub both : TotalRange → TotalRange → TotalRange
both a b = record { least = stopped (a.least + b.least); most = most_both a.most b.most }

abbrev pub either : TotalRange → TotalRange → TotalRange
either a b = record { least = min a.least b.least; most = most_either a.most b.most }

-- so many of it
abbrev pub times : ℕ → Option ℕ → TotalRange → TotalRange
times least most r = record { least = stopped (least * r.least); most = most_times most r.most }

-- Effective Total Range (all and sequence): the sums of the members' least and greatest
abbrev pub sum_of : List TotalRange → TotalRange
sum_of [] = nothing
sum_of (r ∷ rs) = both r (sum_of rs)

-- Effective Total Range (choice): the least of the members' least, the greatest of their greatest
abbrev pub widest_of : List TotalRange → TotalRange
widest_of [] = nothing
widest_of (r ∷ []) = r
widest_of (r ∷ s ∷ rs) = either r (widest_of (s ∷ rs))

abbrev mutual
  -- the effective total range of a particle
  pub range : Particle → TotalRange
  range (term number) = once
  range (sequence members) = sum_of (ranges members)
  range (choice members) = widest_of (ranges members)
  range (all_of members) = sum_of (ranges members)
  range (occurs least most part) = times least most (range part)

  pub ranges : Particles → List TotalRange
  ranges none = []
  ranges (member first rest) = range first ∷ ranges rest

-- the minimum occurrence of a particle
abbrev pub least_occurrence : Particle → ℕ
least_occurrence (occurs least most part) = least
least_occurrence (term number) = 1
least_occurrence (sequence members) = 1
least_occurrence (choice members) = 1
least_occurrence (all_of members) = 1

-- Particle Emptiable (Structures 3.9.6): the minimum occurrence, or the least of the effective total range, is 0
abbrev pub is_emptiable : Particle → Bool
is_emptiable p = least_occurrence p == 0 || (range p).least == 0

-- these are the ranges of all particles of the tables, by number
pub record AreRangesOf (t : Tables) (ranges : List TotalRange) : Type 0 where
  pub each : length ranges ≡ length t.particles.parts
  pub are : (id : ℕ) → id < length ranges → slice_index_or ranges id nothing ≡ range (model_of t id)
