use Rattle.std.proofs.Common.{◌≡◌, [], false, length, refl, sym, ◌∙◌, ◌<◌, arith, length-set}
use Rattle.std.proofs.lemmas.Bool.{false≢true}
use Rattle.std.proofs.lemmas.List.{length-replicate}
use Rattle.particle_restrict.proofs.Firsts.{taking-first, taking-more, taken-twice, none-first, none_taken, taking-done, at_place}
use Rattle.particle_restrict.proofs.first.has_first_map.Goals as goal

pub loop-member-init : goal.loop-member-init
loop-member-init g c =
    let all = c.in_ok-taken.ensures.items_if_clones_equal (λ y h. h) in
    record {
      len = rw all (length-replicate (length c.args.optional.now) false);
      taking = ([], taking-first (g.P.Pairs.restricts c.args.pairs.now) (length c.args.optional.now) c.in_ok-taken.taken.items (none_taken (length c.args.optional.now) c.in_ok-taken.taken.items all));
    }

pub returns-in_default : goal.returns-in_default
returns-in_default g c = record {
  map = (
    (λ h. absurd (false≢true h)),
    (λ all. absurd (none-first (g.P.Pairs.restricts c.args.pairs.now) c.args.members c.loop-member.member (length c.args.optional.now) c.args.optional.now refl c.loop-member-test.true
        (rw c.in_default.is at c.first_target.ensures) all)),
  );
}

pub returns-then-index : goal.returns-then-index
returns-then-index g c =
    let was = c.loop-member.invariant.taking in
    let within : c.in-Some.target < length c.loop-member.taken.items = let e = c.loop-member.invariant.len in let l = c.in-Some.ensures.0 in omega arith in
    record {
      map = (
        (λ h. absurd (false≢true h)),
        (λ all. absurd (taken-twice (g.P.Pairs.restricts c.args.pairs.now) (length c.args.optional.now) c.loop-member.member c.in-Some.target c.loop-member.taken.items was.0 was.1
            c.in-Some.ensures.0 c.in-Some.ensures.1 c.args.members c.args.optional.now c.loop-member-test.true
            (sym (at_place c.loop-member.taken.items c.in-Some.target c.index.result.now within c.index.ensures) ∙ c.if-index.true) all)),
      );
    }

pub loop-member-preserved : goal.loop-member-preserved
loop-member-preserved g c =
    let was = c.loop-member.invariant.taking in
    let within : c.in-Some.target < length c.loop-member.taken.items = let e = c.loop-member.invariant.len in let l = c.in-Some.ensures.0 in omega arith in
    record {
      len = length-set c.loop-member.taken.items c.in-Some.target _ ∙ c.loop-member.invariant.len;
      taking = (
        _,
        taking-more (g.P.Pairs.restricts c.args.pairs.now) (length c.args.optional.now) c.loop-member.member c.in-Some.target c.loop-member.taken.items was.0 was.1
            c.in-Some.ensures.0 c.in-Some.ensures.1 within
            (sym (at_place c.loop-member.taken.items c.in-Some.target c.index.result.now within c.index.ensures) ∙ c.if-index.false),
      );
    }

pub returns : goal.returns
returns g c =
    let was = c.loop-member.invariant.taking in
    let done : c.loop-member.member ≡ c.args.members = omega (arith, c.loop-member.auto.member-end) in
    record {
      map = taking-done (g.P.Pairs.restricts c.args.pairs.now) c.args.members c.args.optional.now c.loop-member.taken.items was.0
          (rw done at was.1) c.are_covered.result (rw c.deref.ensures.value at c.are_covered.ensures);
    }
