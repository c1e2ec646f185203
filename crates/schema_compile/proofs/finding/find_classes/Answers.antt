use Rattle.schema_compile.proofs.ValueLaws.{read}
use Rattle.schema_compile.proofs.finding.find_classes.Goals as goal

pub classes_of-requires : goal.classes_of-requires
classes_of-requires c =
    let set = c.args.set.now in
    let fit = c.requires.fit in
    record {
      ranked = fit.ranked;
      elements = fit.types;
      judged = fit.judged;
      whole = (read set fit).contents;
      declarations = c.requires.declarations;
      contents = c.requires.contents;
    }
