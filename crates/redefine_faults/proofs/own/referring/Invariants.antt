use Rattle.std.proofs.Common.{◌≡◌, ◌++◌, map, drop}
use Rattle.std.specs.List.{filter}
use Rattle.redefine_faults.specs.Redefinitions.{is_self_reference}
use Rattle.redefine_faults.proofs.own.referring.Given as goal

abbrev pub invariant-loop-shape : goal.invariant-loop-shape
invariant-loop-shape l = map (λ r. r.now) l.references ++ filter (λ s. is_self_reference l.document.shaped.now.shapes l.document.target l.kind l.name s.form) (map (λ r. r.now) (drop l.shape-index l.shapes))
    ≡ filter (λ s. is_self_reference l.document.shaped.now.shapes l.document.target l.kind l.name s.form) (map (λ r. r.now) l.shapes)
