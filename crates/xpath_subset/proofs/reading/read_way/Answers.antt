use Rattle.std.proofs.Common.{◌==◌, List, map, ap, ◌∙◌, refl, subst}
use Rattle.std.specs.List.{slice_split}
use Rattle.xpath_subset.specs.Grammar.{WrittenStep, IsElementStep, way_meaning}
use Rattle.xpath_subset.specs.inside.Gives.{AreWrittenAndLast, Gives}
use Rattle.xpath_subset.specs.inside.Lasts.{IsLastOf}
use Rattle.xpath_subset.proofs.Plain.{slash_apart, element_plain}
use Rattle.xpath_subset.proofs.Lasts.{kind_plain}
use Rattle.xpath_subset.proofs.Ways.{gives_text, trim_pieces}
use Rattle.xpath_subset.proofs.reading.read_way.Goals as goal

pub returns : goal.returns
returns c = gives_text 47 IsElementStep (IsLastOf c.args.kind) slash_apart.white refl (element_plain (λ b. b == 47) slash_apart) (kind_plain (λ b. b == 47) slash_apart c.args.kind) (λ way. way_meaning c.args.scope.now c.args.anywhere way.0 way.1) c.args.text.now c.requires c.read_pieces.result
    (subst (λ pieces. Gives {W = List WrittenStep × WrittenStep} (λ way. AreWrittenAndLast IsElementStep (IsLastOf c.args.kind) way.0 way.1 pieces) (λ way. way_meaning c.args.scope.now c.args.anywhere way.0 way.1) c.read_pieces.result)
    (trim_pieces (λ p. p.now) c.as_slice.result.now (slice_split (λ b. b == 47) c.args.text.now) (ap (map (λ p. p.now)) c.as_slice.ensures.value ∙ c.in_ok-pieces.ensures)) c.read_pieces.ensures)
