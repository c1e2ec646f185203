use Rattle.std.proofs.Common.{◌≡◌, ℕ, ◌<◌, take, length}
use Rattle.std.specs.Prelude.{false, slice_index_or}
use Rattle.element_declarations.proofs.NamedLaws.{is_among}
use Rattle.element_declarations.proofs.named.named_marks.Given as goal

abbrev pub invariant-loop-particle : goal.invariant-loop-particle
invariant-loop-particle l = record {
  each : length l.marks.items ≡ length l.parts.elements.parts;
  are : (n : ℕ) → n < length l.marks.items → slice_index_or l.marks.items n false ≡ is_among (take l.particle-index l.parts.particles.parts) n;
}
