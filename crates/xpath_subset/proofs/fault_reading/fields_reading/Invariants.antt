use Rattle.std.proofs.Common.{◌≡◌, None, take}
use Rattle.std.specs.Prelude.{Any}
use Rattle.std.specs.List.{AllZip}
use Rattle.xs_codes.specs.Least.{IsLeast}
use Rattle.xs_codes.specs.declared.code.Code.TheVariants.{CFieldsXpaths}
use Rattle.xpath_subset.specs.Grammar.{IsField}
use Rattle.xpath_subset.specs.Reads.{IsReadAs}
use Rattle.xpath_subset.specs.Faults.{IsUnreadable}
use Rattle.xpath_subset.proofs.fault_reading.fields_reading.Given as goal

abbrev pub invariant-loop-field : goal.invariant-loop-field
invariant-loop-field l = record {
  least : IsLeast (λ fault. Any (λ path. IsUnreadable IsField CFieldsXpaths path fault) (take l.field-index l.fields)) l.fault;
  paths : l.fault ≡ None → AllZip (IsReadAs IsField) (take l.field-index l.fields) l.paths;
}
