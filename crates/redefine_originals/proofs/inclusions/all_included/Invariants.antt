use Rattle.std.proofs.Common.{◌≡◌, ◌++◌, drop}
use Rattle.std.specs.Prelude.{filter_map}
use Rattle.std.specs.Option.{option_and_then}
use Rattle.schema_set.specs.EffectiveSet.{document_at}
use Rattle.redefine_originals.specs.Versions.{included}
use Rattle.redefine_originals.proofs.inclusions.all_included.Given as goal

abbrev pub invariant-loop-shape : goal.invariant-loop-shape
invariant-loop-shape l =
    l.found.items ++ filter_map (λ s. option_and_then (document_at l.sources.available.now) (included s.form)) (drop l.shape-index l.shapes)
    ≡ filter_map (λ s. option_and_then (document_at l.sources.available.now) (included s.form)) l.shapes
