use Rattle.std.proofs.Common.{◌≡◌, drop}
use Rattle.assess_records.specs.Instance.{instance_text}
use Rattle.assess_records.proofs.instance_names.instance_text.Given as goal

abbrev pub invariant-loop-attr : goal.invariant-loop-attr
invariant-loop-attr l = instance_text l.names (drop l.attr-index l.attrs) l.which ≡ instance_text l.names l.attrs l.which
