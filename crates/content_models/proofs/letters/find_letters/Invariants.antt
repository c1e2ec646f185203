use Rattle.content_models.specs.Letters.{AreLettersOf}
use Rattle.content_models.proofs.letters.find_letters.Given as goal

abbrev pub invariant-loop-member : goal.invariant-loop-member
invariant-loop-member l = AreLettersOf l.accepted l.member l.symbols l.letters.items l.pair
