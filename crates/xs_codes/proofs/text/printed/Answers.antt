use Rattle.std.proofs.Common.{arith}
use Rattle.xs_codes.proofs.text.printed.Goals as goal

pub returns : goal.returns
-- by cases on the code; stated so that a wrong text is refused at once
returns c = grind arith
