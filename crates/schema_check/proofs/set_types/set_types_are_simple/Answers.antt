use Rattle.type_derivation.specs.Within.{AreSimple}
use Rattle.set_representations.specs.Documents.{representations}
use Rattle.schema_check.specs.Simple.{AreTypesSimple}
use Rattle.schema_check.proofs.TypeLaws.{documents-of, of-set, still-simple}
use Rattle.schema_check.proofs.set_types.set_types_are_simple.Goals as goal

pub returns-clause-documents : goal.returns-clause-documents
returns-clause-documents c = documents-of

pub returns-clause-built : goal.returns-clause-built
returns-clause-built c t origins ds source parts of none reps spaces is =
    let resolved = c.names_resolve.ensures.resolved t origins (representations t ds) none in
    let shaped = c.representations_are_shaped.ensures.shaped t ds of in
    record {
      made = of-set AreSimple c.components_are_simple.ensures.simple (representations t ds) source parts resolved shaped reps spaces is;
      used = of-set AreTypesSimple c.components_are_simple.ensures.types (representations t ds) source parts resolved shaped reps spaces is;
    }

pub returns-clause-grown : goal.returns-clause-grown
returns-clause-grown c = still-simple
