-- What paths and constraints are read as, or their least faults.
use Rattle.std.proofs.Common.{◌≡◌, ◌⊎◌, ℕ, List, Option, None, Some, sym, ap, ◌∙◌, subst}
use Rattle.std.specs.Prelude.{Err}
use Rattle.std.proofs.lemmas.Option.{none-some}
use Rattle.xs_codes.specs.Least.{IsLeast, sooner}
use Rattle.xs_codes.proofs.LeastLaws.{least-sum}
use Rattle.xs_codes.specs.declared.code.Code.{Code}
use Rattle.xs_codes.specs.declared.code.Code.TheVariants.{CSelectorXpath}
use Rattle.xs_codes.specs.declared.fault.Fault.{Fault}
use Rattle.xs_components.specs.Tables.{Tables}
use Rattle.xs_components.specs.declared.constraint.Constraint.{Constraint}
use Rattle.xs_components.specs.declared.constraint.PathText.{PathText}
use Rattle.xpath_subset.specs.Grammar.{WrittenPaths, IsSelector, IsReading, paths_meaning}
use Rattle.xpath_subset.specs.declared.path.Path.{Path}
use Rattle.xpath_subset.specs.declared.reading.XPathFault.{XPathFault}
use Rattle.xpath_subset.specs.Reads.{IsReadAs}
use Rattle.xpath_subset.specs.Faults.{fault_at, IsSelectorFault, IsFieldFault, IsCountFault, IsFaultOf}
use Rattle.xpath_subset.specs.inside.Reading.{IsPathRead, AreFieldsRead, IsConstraintRead}
use Rattle.xpath_subset.specs.declared.fault_reading.PathReading.{PathReading}
use Rattle.xpath_subset.specs.declared.fault_reading.FieldsReading.{FieldsReading}
use Rattle.xpath_subset.proofs.FaultLaws.{read-faultless, read-fault, neither}

module _ (IsWritten : List ℕ → WrittenPaths → Type 0) (code : Code) (path : PathText) where
  pub path-read : (paths : List Path) → IsReadAs IsWritten path paths → IsPathRead IsWritten code path (record { fault = None; paths = paths })
  path-read paths read = record { least = read-faultless IsWritten code path paths read; paths = λ none. read }

  pub path-unread : (xpath_fault : XPathFault) (fault : Fault) (paths : List Path) → IsReading (IsWritten path.text) (paths_meaning path.scope) (Err xpath_fault) → fault ≡ fault_at path.at code →
      IsPathRead IsWritten code path (record { fault = Some fault; paths = paths })
  path-unread xpath_fault fault paths fails is = record { least = read-fault IsWritten code path xpath_fault fault fails is; paths = λ none. absurd (none-some fault (sym none)) }

module _ (t : Tables) (c : Constraint) (selector : PathReading) (fields : FieldsReading) (count of_fields fault : Option Fault) where
  pub constraint-read : IsPathRead IsSelector CSelectorXpath c.selector selector → AreFieldsRead c.fields fields → IsLeast (IsCountFault t c) count →
      of_fields ≡ sooner fields.fault count → fault ≡ sooner selector.fault of_fields →
      IsConstraintRead t c (record { fault = fault; paths = record { selector = selector.paths; fields = fields.paths } })
  constraint-read first second third joined is =
      let behind = least-sum (IsFieldFault c) (IsCountFault t c) fields.fault count second.least third in
      let all : IsLeast (IsFaultOf t c) (sooner selector.fault (sooner fields.fault count)) =
      least-sum (IsSelectorFault c) (λ f. IsFieldFault c f ⊎ IsCountFault t c f) selector.fault (sooner fields.fault count) first.least behind in
      record {
        least = subst (IsLeast (IsFaultOf t c)) (sym (is ∙ ap (sooner selector.fault) joined)) all;
        paths = λ none.
            let front = neither selector.fault of_fields (sym is ∙ none) in
            let later = neither fields.fault count (sym joined ∙ front.1) in
            record { selector = first.paths front.0; fields = second.paths later.0 };
      }
