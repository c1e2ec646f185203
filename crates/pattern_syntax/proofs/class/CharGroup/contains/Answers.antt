use Rattle.std.proofs.Common.{◌∙◌, ap, not, cond}
use Rattle.std.specs.List.{list_any}
use Rattle.pattern_syntax.specs.Classes.{is_item}
use Rattle.pattern_syntax.proofs.ClassLaws.{ne-if}
use Rattle.pattern_syntax.proofs.class.CharGroup.contains.Goals as goal

pub returns : goal.returns
returns c =
    ne-if c.some_item.result c.args.self.now.negated ∙
    ap (λ b. cond c.args.self.now.negated (not b) b) (c.some_item.ensures ∙ ap (λ items. list_any (λ item. is_item item c.args.c) items) c.deref.ensures.value)
