use Rattle.std.proofs.Common.{◌≡◌, ◌+◌, drop}
use Rattle.session_model.specs.Asking.{attr_total}
use Rattle.session_model.proofs.count.count_attr_codes.Given as goal

abbrev pub invariant-loop-record : goal.invariant-loop-record
invariant-loop-record l = l.total + attr_total (drop l.record-index l.attrs) ≡ attr_total l.attrs
