use Rattle.std.proofs.Common.{List, subst}
use Rattle.std.specs.Prelude.{Result}
use Rattle.xpath_subset.specs.Grammar.{IsSelector, IsField, IsReading, paths_meaning}
use Rattle.xpath_subset.specs.declared.path.Path.{Path}
use Rattle.xpath_subset.specs.declared.reading.XPathFault.{XPathFault}
use Rattle.xpath_subset.proofs.ReadingLaws.{path-read, path-unread}
use Rattle.xpath_subset.proofs.fault_reading.reading_of.Goals as goal

pub returns-in-Ok : goal.returns-in-Ok
returns-in-Ok c =
    let path = c.args.path.now in
    record {
      selector = λ reads. path-read IsSelector c.args.code path c.in-Ok.paths (subst (λ (r : Result (List Path) XPathFault). IsReading (IsSelector path.text) (paths_meaning path.scope) r) c.in-Ok.is reads);
      field = λ reads. path-read IsField c.args.code path c.in-Ok.paths (subst (λ (r : Result (List Path) XPathFault). IsReading (IsField path.text) (paths_meaning path.scope) r) c.in-Ok.is reads);
    }

pub returns-in-Err : goal.returns-in-Err
returns-in-Err c =
    let path = c.args.path.now in
    record {
      selector = λ reads. path-unread IsSelector c.args.code path c.in-Err.field-0 c.fault_at.result c.new.result
          (subst (λ (r : Result (List Path) XPathFault). IsReading (IsSelector path.text) (paths_meaning path.scope) r) c.in-Err.is reads) c.fault_at.ensures;
      field = λ reads. path-unread IsField c.args.code path c.in-Err.field-0 c.fault_at.result c.new.result
          (subst (λ (r : Result (List Path) XPathFault). IsReading (IsField path.text) (paths_meaning path.scope) r) c.in-Err.is reads) c.fault_at.ensures;
    }
