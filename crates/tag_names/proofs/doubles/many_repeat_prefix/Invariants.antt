use Rattle.std.proofs.Common.{◌≡◌, drop, map, bytes_eq, string_bytes}
use Rattle.tag_names.specs.Faults.{repeats_prefix}
use Rattle.tag_names.proofs.DoubleLaws.{repeats_behind}
use Rattle.tag_names.proofs.doubles.many_repeat_prefix.Given as goal

abbrev pub invariant-loop-binding : goal.invariant-loop-binding
invariant-loop-binding l = repeats_behind bytes_eq (map string_bytes l.seen.keys) (map (λ b. b.prefix) (drop l.binding-index l.bindings)) ≡ repeats_prefix l.bindings
