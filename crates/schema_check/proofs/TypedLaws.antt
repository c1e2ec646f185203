-- The phases that look at components, from the answers of the two calls that judge them.
use Rattle.std.specs.Prelude.{IfNone}
use Rattle.std.proofs.Common.{◌≡◌, inl, inr, Option, None, Some, Result, Ok, Err}
use Rattle.xs_codes.specs.declared.fault.Fault.{Fault}
use Rattle.xs_components.specs.Tables.{Tables}
use Rattle.xs_codes.specs.Least.{IsLeast}
use Rattle.component_references.specs.Ranked.{IsRanked}
use Rattle.component_references.specs.Circles.{Ranks, with_all_ranks}
use Rattle.type_derivation.specs.Cycles.{IsBroken}
use Rattle.type_derivation.specs.Filled.{IsAfter}
use Rattle.type_derivation.specs.Particles.{AreContentsSet}
use Rattle.simple_types.specs.declared.types.SimpleTypes.{SimpleTypes}
use Rattle.simple_types.specs.SimpleTypes.{IsBuilt}
use Rattle.schema_check.specs.Completed.{AreCompleted}
use Rattle.schema_check.proofs.BrokenLaws.{built-first}
use Rattle.schema_check.specs.inside.Typed.{IsTyped}

module _ (old new : Tables) (same : AreCompleted old new) where
  types-made : (types : SimpleTypes) → IsLeast (IsBroken old) None → IsRanked new → AreContentsSet new → IsBuilt new (Ok types) → IsTyped old new (Ok types)
  types-made types least ranked contents built = (
    (least, ((new, same, built-first new (Ok types) ranked built), tt)),
    record { same = same; ranked = ranked; contents = contents; judged = built.0; whole = built.2 },
  )

  types-refused : (fault : Fault) → IsLeast (IsBroken old) None → IsRanked new → IsBuilt new (Err fault) → IsTyped old new (Err fault)
  types-refused fault least ranked built = inr (least, inl (new, same, built-first new (Err fault) ranked built))

-- what the answers of both calls come to
pub types-judged : (old new : Tables) (found : Option Fault) → found ≡ None → IsLeast (IsBroken old) found → IfNone found (IsRanked new) → IfNone found (AreContentsSet new)
    → ((ranks : Ranks) × IsAfter found (with_all_ranks old ranks) new) → (answer : Result SimpleTypes Fault) → IsBuilt new answer → IsTyped old new answer
types-judged old new None none least ranked contents after (Ok types) built = types-made old new after types least ranked contents built
types-judged old new None none least ranked contents after (Err fault) built = types-refused old new after fault least ranked built
types-judged old new (Some fault) none least ranked contents after answer built = absurd (let s : Some fault ≡ None = none in cc)
