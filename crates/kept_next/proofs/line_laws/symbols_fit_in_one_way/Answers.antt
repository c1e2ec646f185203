use Rattle.kept_next.proofs.LineFits.{one-fit}
use Rattle.kept_next.proofs.line_laws.symbols_fit_in_one_way.Goals as goal

pub returns : goal.returns
returns g c = λ before behind symbol fit other h k. one-fit (g.A.Around.is_word c.args.around.now) before behind symbol fit other h k
