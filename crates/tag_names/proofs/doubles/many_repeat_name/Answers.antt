use Rattle.std.proofs.Common.{◌&&◌}
use Rattle.std.specs.Option.{option_eq}
use Rattle.std.specs.String.{string_eq}
use Rattle.tree_rows.specs.Naming.{same_name}
use Rattle.tag_names.specs.Keys.{name_of}
use Rattle.tag_names.proofs.DoubleLaws.{start-names, names_agree, turn-seen, turn-added}
use Rattle.tag_names.proofs.doubles.many_repeat_name.Goals as goal

pub loop-attribute-init : goal.loop-attribute-init
loop-attribute-init c = start-names c.new-seen.result.keys c.args.attributes.now c.new-seen.ensures.empty

pub returns-then-not-added : goal.returns-then-not-added
returns-then-not-added c =
    turn-seen same_name (λ a b. option_eq string_eq a.namespace b.namespace && string_eq a.local b.local) name_of names_agree (λ a. a.name) c.loop-attribute.seen.keys c.in_ok-key.key c.args.attributes.now c.loop-attribute.attribute-index c.attribute-item.result
    c.loop-attribute-test.true c.attribute-item.is c.in_ok-key.ensures _ c.loop-attribute.invariant c.in_ok-added.added c.in_ok-added.ensures.added c.if-not-added.true

pub loop-attribute-preserved : goal.loop-attribute-preserved
loop-attribute-preserved c =
    turn-added same_name (λ a b. option_eq string_eq a.namespace b.namespace && string_eq a.local b.local) name_of names_agree (λ a. a.name) c.loop-attribute.seen.keys c.in_ok-key.key c.args.attributes.now c.loop-attribute.attribute-index c.attribute-item.result
    c.loop-attribute-test.true c.attribute-item.is c.in_ok-key.ensures _ c.loop-attribute.invariant c.in_ok-added.added c.in_ok-added.ensures.added c.if-not-added.false
    c.insert.new.self.keys c.in_ok-added.ensures.keys
