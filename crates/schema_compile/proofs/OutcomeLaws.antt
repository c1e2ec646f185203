-- What documents come to, from what their set does.
use Rattle.std.proofs.Common.{inr, ℕ, List, Result, Ok, Err}
use Rattle.std.specs.Prelude.{IfOk}
use Rattle.schema_check.specs.Compilation.{IsCompilation}
use Rattle.schema_set.specs.declared.inputs.SchemaInput.{SchemaInput}
use Rattle.schema_check.specs.declared.documents.CompiledSet.{CompiledSet}
use Rattle.schema_compile.specs.declared.outcome.Outcome.{Outcome}
use Rattle.schema_compile.specs.Outcomes.{IsSetOutcome, IsOutcome}

pub set-outcome : {E : Type 0} (documents : List SchemaInput) (start : ℕ) (result : Result Outcome E) (made : CompiledSet) → IsCompilation documents start (Ok made) → IfOk result (IsSetOutcome made) → IfOk result (IsOutcome documents start)
set-outcome documents start (Ok outcome) made is h = inr (made, is, h)
set-outcome documents start (Err error) made is h = tt
