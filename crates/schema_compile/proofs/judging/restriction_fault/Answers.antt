use Rattle.schema_compile.proofs.PhaseLaws.{by-members}
use Rattle.schema_compile.proofs.ValueLaws.{read}
use Rattle.schema_compile.proofs.judging.restriction_fault.Goals as goal

pub first_model_fault-requires : goal.first_model_fault-requires
first_model_fault-requires c =
    let set = c.args.set.now in
    let fit = c.requires.fit in
    record {
      known = record {
        ranked = fit.ranked;
        simple = fit.simple;
        elements = fit.types;
        named = fit.named.elements;
        there = fit.contents;
        declarations = c.requires.found.declarations;
        contents = c.requires.found.contents;
      };
      read = record { judged = fit.judged; whole = (read set fit).contents };
    }

pub returns-clause-first : goal.returns-clause-first
returns-clause-first c = by-members c.args.set.now c.args.found.now c.requires.found c.deref.result.now c.deref.ensures.value c.first_model_fault.result c.first_model_fault.ensures.first
