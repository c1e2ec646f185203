use Rattle.std.proofs.Common.{refl}
use Rattle.tag_names.proofs.SeenLaws.{same_faults, faults-start}
use Rattle.tag_names.proofs.seen.SeenLines.new.Goals as goal

pub returns : goal.returns
returns c scope lines =
    same_faults _ _ _ _ _ _ refl refl (faults-start c.in_ok-with_capacity.field-0.keys c.in_ok-with_capacity.ensures.empty scope lines)
