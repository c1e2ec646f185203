use Rattle.kept_next.proofs.Orders.{print-total}
use Rattle.kept_next.proofs.line_laws.symbols_are_in_a_total_order.Goals as goal

pub returns : goal.returns
returns c = print-total
