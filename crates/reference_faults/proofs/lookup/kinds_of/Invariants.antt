use Rattle.std.proofs.Common.{◌≡◌, ◌++◌, map, drop}
use Rattle.reference_faults.specs.Resolution.{simple_symbol, key_symbol}
use Rattle.reference_faults.proofs.lookup.kinds_of.Given as goal

abbrev pub invariant-loop-rep : goal.invariant-loop-rep
invariant-loop-rep l = record {
  simples : l.kinds.simples ++ map (λ r. simple_symbol r.form) (drop l.rep-index l.reps) ≡ map (λ r. simple_symbol r.form) l.reps;
  keys : l.kinds.keys ++ map (λ r. key_symbol r.form) (drop l.rep-index l.reps) ≡ map (λ r. key_symbol r.form) l.reps;
}
