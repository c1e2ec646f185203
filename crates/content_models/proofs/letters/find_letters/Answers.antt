use Rattle.std.proofs.Common.{◌≡◌, ℕ, ◌+◌, ◌∙◌, List, [], true, sym, subst, arith}
use Rattle.std.proofs.lemmas.List.{get_or_default}
use Rattle.content_models.specs.Letters.{has, AreLettersOf}
use Rattle.content_models.proofs.Noting.{letters_more, has_below}
use Rattle.content_models.proofs.letters.find_letters.Goals as goal

pub loop-member-preserved : goal.loop-member-preserved
loop-member-preserved c =
    let row_is = c.as_slice.ensures ∙ (c.index-accepted-member.is ∙ get_or_default c.args.accepted.now c.loop-member.member c.index-accepted-member.result [] c.loop-member-test.true) in
    subst (AreLettersOf c.args.accepted.now (c.loop-member.member + 1) c.args.symbols c.note.new.letters.items) (sym c.or-pair.ensures)
    (letters_more c.args.accepted.now c.loop-member.member c.args.symbols c.loop-member.letters.items c.note.new.letters.items c.loop-member.pair c.note.result c.loop-member.invariant
    (let l = c.loop-member-test.true in let f = c.requires.few in omega arith) c.as_slice.result.now row_is c.note.ensures
    (λ n h. has_below c.args.symbols _ (c.requires.below c.loop-member.member [] c.loop-member-test.true) n (subst (λ (row : List ℕ). has row n ≡ true) row_is h)))
