use Rattle.std.proofs.Common.{sym}
use Rattle.edit_script.proofs.Numbers.{not_revision}
use Rattle.edit_script.proofs.fields.revision.Goals as goal

pub returns-in-Err : goal.returns-in-Err
returns-in-Err c = sym (not_revision c.args.field.now _ _ c.parse.ensures.value.0 (sym c.if-not-is_digits.ensures) c.in-Err.is)
