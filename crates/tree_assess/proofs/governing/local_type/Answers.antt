use Rattle.std.proofs.Common.{length, ◌<◌, subst, sym, ap, ◌∙◌}
use Rattle.std.specs.Prelude.{All}
use Rattle.assess_records.specs.declared.shape.NamedText.{NamedText}
use Rattle.assess_records.specs.Instance.{instance_text}
use Rattle.assess_records.specs.declared.instance_names.InstanceAttribute.TheVariants.{TypeName}
use Rattle.tree_assess.proofs.governing.local_type.Goals as goal

pub instance_text-requires : goal.instance_text-requires
instance_text-requires c = subst (λ l. All (λ (a : NamedText). a.name < length c.args.compiled.now.names.names) l) (sym c.as_slice-attrs.ensures) c.requires.named

pub returns : goal.returns
returns c = c.instance_text.ensures ∙ ap (λ l. instance_text c.args.compiled.now.names l TypeName) c.as_slice-attrs.ensures
