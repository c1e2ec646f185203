use Rattle.std.proofs.Common.{ℕ, List, length, Bor}
use Rattle.std.specs.Option.{option_map}
use Rattle.elem_governing.proofs.ScopeLaws.{resolved-known}
use Rattle.elem_governing.proofs.local_types.by_text.Goals as goal

pub named_type-requires : goal.named_type-requires
named_type-requires c = record {
  space =
      resolved-known (length c.args.view.now.names.now.spaces) c.args.scope.now (option_map (λ (p : Bor (List ℕ)). p.now) c.in-Ok.prefix) c.in-Ok-resolve.space
      c.requires.scope c.in-Ok-resolve.ensures;
}
