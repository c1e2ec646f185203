use Rattle.std.proofs.Common.{List, Option, None, Some, ◌<◌, sym, subst, ◌∙◌}
use Rattle.std.specs.Prelude.{All}
use Rattle.xs_codes.specs.declared.fault.Fault.{Fault}
use Rattle.xs_codes.specs.Least.{IsLeast}
use Rattle.schema_set.specs.declared.documents.SetDocument.{SetDocument}
use Rattle.schema_set.specs.Documents.{IsSet, IsShapeFault}
use Rattle.schema_check.proofs.ReadLaws.{place-available, numbers, read-set}
use Rattle.schema_check.proofs.CompilationLaws.{shape-phase, shape-refused, closed-compiled}
use Rattle.schema_check.proofs.compiling.compile_from.Goals as goal

pub close_set_from-requires : goal.close_set_from-requires
close_set_from-requires c =
    record { place = place-available c.args.documents.now c.args.start c.as_slice-available.result.now (c.as_slice-available.ensures ∙ c.in_ok-read.ensures.available) c.requires.place }

pub first_shape_fault-requires : goal.first_shape_fault-requires
first_shape_fault-requires c = record {
  numbers = subst (λ (l : List SetDocument). All (λ d. 0 < d.number) l) (sym c.as_slice-set.ensures)
      (numbers c.as_slice-available.result.now c.args.start c.in_ok-closed.closed.set.documents c.in_ok-closed.ensures.set);
}

pub returns-in-Some : goal.returns-in-Some
returns-in-Some c =
    let documents = c.args.documents.now in
    let start = c.args.start in
    let closed = c.in_ok-closed.closed in
    let same = c.as_slice-available.ensures ∙ c.in_ok-read.ensures.available in
    let set = read-set documents start c.as_slice-available.result.now closed.set.documents same c.in_ok-closed.ensures.set c.in_ok-closed.ensures.order in
    let least = c.first_shape_fault.ensures.least documents start (c.as_slice-faults.ensures ∙ c.in_ok-read.ensures.faults)
    (subst (λ (l : List SetDocument). IsSet documents start l) (sym c.as_slice-set.ensures) set) in
    shape-refused documents start c.in-Some.fault (shape-phase documents start (Some c.in-Some.fault) (subst (λ (o : Option Fault). IsLeast (IsShapeFault documents start) o) c.in-Some.is least))

pub returns : goal.returns
returns c =
    let documents = c.args.documents.now in
    let start = c.args.start in
    let closed = c.in_ok-closed.closed in
    let same = c.as_slice-available.ensures ∙ c.in_ok-read.ensures.available in
    let set = read-set documents start c.as_slice-available.result.now closed.set.documents same c.in_ok-closed.ensures.set c.in_ok-closed.ensures.order in
    let least = c.first_shape_fault.ensures.least documents start (c.as_slice-faults.ensures ∙ c.in_ok-read.ensures.faults)
    (subst (λ (l : List SetDocument). IsSet documents start l) (sym c.as_slice-set.ensures) set) in
    closed-compiled documents start closed.set.documents set (shape-phase documents start None (subst (λ (o : Option Fault). IsLeast (IsShapeFault documents start) o) c.in-None.is least))
    c.compile_closed.result c.as_slice-available.result.now same c.compile_closed.ensures

pub compile_closed-requires : goal.compile_closed-requires
compile_closed-requires c = record {
  place = place-available c.args.documents.now c.args.start c.as_slice-available.result.now (c.as_slice-available.ensures ∙ c.in_ok-read.ensures.available) c.requires.place;
  set = c.in_ok-closed.ensures.set;
  least = c.in_ok-closed.ensures.fault;
}
