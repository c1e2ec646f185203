use Rattle.std.proofs.Common.{◌≡◌, rules}
use Rattle.xs_codes.specs.Codes.{order_of}
use Rattle.xs_codes.specs.contracts.code.Code.{the_type}
use Rattle.xs_codes.proofs.Apart.{placed}
use Rattle.xs_codes.proofs.text.code_order.Goals as goal
use denote.Enum.Declared.{tag_of}

pub returns-clause-place : goal.returns-clause-place
returns-clause-place c = let e : tag_of the_type c.args.code ≡ order_of c.args.code = search rules in rw e (placed c.args.code)
