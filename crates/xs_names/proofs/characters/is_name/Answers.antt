use Rattle.std.proofs.Common.{sym, ◌∙◌}
use Rattle.std.specs.Str.{chars}
use Rattle.xs_names.proofs.CharacterLaws.{is_name-first}
use Rattle.xs_names.proofs.characters.is_name.Goals as goal

pub returns-then-is_name_start : goal.returns-then-is_name_start
returns-then-is_name_start c =
    c.has_name_chars.ensures
    ∙ sym (is_name-first (chars c.args.text.now) c.in-Some.first (rw c.chars.ensures.rest at c.in-Some.ensures.steps.2) (sym c.is_name_start.ensures ∙ c.if-is_name_start.true))
