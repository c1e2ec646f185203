use Rattle.std.proofs.Common.{◌∙◌, IsTrue, ◌++◌, ◌∷◌, []}
use Rattle.std.specs.Char.{is_ascii_digit}
use Rattle.std.specs.List.{list_all}
use Rattle.dec_value.proofs.Numerals.{trimmed, untrimmed, digits-front}
use Rattle.dec_value.proofs.digits.without_trailing_zeros.Goals as goal

pub zeros-preserved : goal.zeros-preserved
zeros-preserved c = record {
  digits = (digits-front c.in-Some.front.now c.in-Some.last.now (rw c.in-Some.ensures.cases.0 at c.zeros.invariant.digits)).0;
  same = λ whole. c.zeros.invariant.same whole ∙ trimmed c.zeros.rest.now c.in-Some.front.now c.in-Some.last.now c.in-Some.ensures.cases.0 c.if-last-ne48.false whole;
}

pub returns-then-last-ne48-clause-lowest : goal.returns-then-last-ne48-clause-lowest
returns-then-last-ne48-clause-lowest c =
    let all : IsTrue (list_all is_ascii_digit (c.in-Some.front.now ++ c.in-Some.last.now ∷ [])) = rw c.in-Some.ensures.cases.0 at c.zeros.invariant.digits in
    let last = digits-front c.in-Some.front.now c.in-Some.last.now all in
    λ whole. c.zeros.invariant.same whole
    ∙ untrimmed c.zeros.rest.now c.in-Some.front.now c.in-Some.last.now c.in-Some.ensures.cases.0 c.if-last-ne48.true last.1 last.2 whole
