-- When two outcomes of documents are the same.
use Rattle.std.specs.Prelude.{◌≡◌}
use Rattle.compiled_schema.specs.Usable.{set_of}
use Rattle.schema_compile.specs.declared.outcome.Outcome.{Outcome}
use Rattle.schema_compile.specs.declared.outcome.Outcome.TheVariants.{Accepted, Broken}

-- the same fault; or sets of the same names, components, members of substitution groups and classes of declarations, with the same paths of
-- identity constraints, by which the same texts are told
abbrev pub IsSameOutcome : Outcome → Outcome → Type 0
IsSameOutcome (Accepted a) (Accepted b) = (set_of a ≡ set_of b) × (a.identities.items ≡ b.identities.items)
IsSameOutcome (Broken f) (Broken g) = f ≡ g
IsSameOutcome _ _ = ⊥
