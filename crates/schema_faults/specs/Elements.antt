-- An element as the definitions see it.
use Rattle.schema_faults.specs.Constructs.{Construct}
use Rattle.schema_faults.specs.declared.element.Element.{Element}

abbrev pub construct_of : Element → Construct
construct_of e = record {
  item = e.item;
  kind = e.kind;
  above = e.above;
  bindings = e.bindings.now;
  scope = e.scope.now;
  attributes = e.attributes.now;
  children = e.children;
}
