use Rattle.std.proofs.Common.{◌≡◌, ℕ, ◌<◌, Some, drop, length}
use Rattle.xs_components.specs.Changes.{with_head}
use Rattle.set_representations.specs.Numbers.{number_at}
use Rattle.set_representations.specs.inside.Changes.{changes}
use Rattle.build_components.specs.Elements as spec
use Rattle.build_components.proofs.heads.set_heads.Given as goal

abbrev pub invariant-loop-place : goal.invariant-loop-place
invariant-loop-place l = record {
  there : (place n : ℕ) → number_at l.elements place ≡ Some n → n < length l.parts.elements.parts;
  parts : record l.parts { elements = record l.parts.elements { parts = changes with_head (spec.head_of l.source l.elements) l.parts.elements.parts (drop l.place l.elements) (drop l.place l.source.reps.now) } }
      ≡ record l.initial.parts { elements = record l.initial.parts.elements { parts = changes with_head (spec.head_of l.source l.elements) l.initial.parts.elements.parts l.elements l.source.reps.now } };
}
