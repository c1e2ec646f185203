use Rattle.std.proofs.Common.{◌≡◌, drop, map}
use Rattle.assess_records.specs.Instance.{instance_text}
use Rattle.assess_records.specs.declared.instance_names.InstanceAttribute.TheVariants.{TypeName}
use Rattle.doc_readers.specs.Heads.{text_named}
use Rattle.doc_readers.proofs.heads.say_type.Given as goal

abbrev pub invariant-loop-attribute : goal.invariant-loop-attribute
invariant-loop-attribute l = instance_text l.names (map text_named (drop l.attribute-index l.attributes)) TypeName ≡ instance_text l.names (map text_named l.attributes) TypeName
