use Rattle.std.proofs.Common.{◌≡◌, map, take}
use Rattle.content_models.specs.Letters.{is_filled}
use Rattle.content_models.proofs.letters.find_inhabited.Given as goal

abbrev pub invariant-loop-row : goal.invariant-loop-row
invariant-loop-row l = l.flags.items ≡ map is_filled (take l.row-index l.accepted)
