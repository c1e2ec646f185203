use Rattle.std.proofs.Common.{◌==◌}
use Rattle.std.specs.Prelude.{codes}
use Rattle.xpath_subset.specs.inside.Lasts.{IsLastOf}
use Rattle.xpath_subset.proofs.Plain.{slash_apart, bar_apart}
use Rattle.xpath_subset.proofs.Lasts.{kind_plain}
use Rattle.xpath_subset.proofs.Trimmed.{trimmed_after}
use Rattle.xpath_subset.proofs.Ways.{gives_here, gives_anywhere}
use Rattle.xpath_subset.proofs.reading.read_path.Goals as goal

pub read_way-requires : goal.read_way-requires
read_way-requires c = trimmed_after (codes ".//") c.args.text.now c.in-Some.way.now c.in-Some.ensures c.requires

pub returns-in-Some : goal.returns-in-Some
returns-in-Some c = gives_anywhere (IsLastOf c.args.kind) (kind_plain (λ b. b == 47) slash_apart c.args.kind) (kind_plain (λ b. b == 124) bar_apart c.args.kind) c.args.scope.now c.args.text.now c.in-Some.way.now c.in-Some.ensures c.read_way.result c.read_way.ensures

pub returns-in-None : goal.returns-in-None
returns-in-None c = gives_here (IsLastOf c.args.kind) (kind_plain (λ b. b == 47) slash_apart c.args.kind) c.args.scope.now c.args.text.now c.in-None.ensures c.read_way-in-None.result c.read_way-in-None.ensures
