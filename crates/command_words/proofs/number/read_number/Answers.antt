use Rattle.std.proofs.Common.{sym}
use Rattle.command_words.proofs.Digits.{not_parsed}
use Rattle.command_words.proofs.number.read_number.Goals as goal

pub returns-in-Err : goal.returns-in-Err
returns-in-Err c = sym (not_parsed c.args.text.now _ _ c.parse.ensures.value.0 (sym c.if-not-is_digits.ensures) c.in-Err.is)
