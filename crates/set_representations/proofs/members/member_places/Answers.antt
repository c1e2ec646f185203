use Rattle.std.proofs.Common.{◌≡◌, ℕ, ◌+◌, ◌-◌, ◌<◌, ◌∷◌, [], drop, length, sym, ap, ◌∙◌, arith}
use Rattle.std.specs.Prelude.{reverse, filter_map}
use Rattle.set_representations.specs.Members.{place_from, all_members}
use Rattle.set_representations.specs.inside.Building.{found}
use Rattle.set_representations.proofs.MemberLaws.{members-more, known-more}
use Rattle.set_representations.proofs.members.member_places.Goals as goal

pub loop-left-preserved : goal.loop-left-preserved
loop-left-preserved c =
    let shapes = c.args.shapes.now in
    let first = c.args.first in
    let i = c.loop-left.left - 1 in
    let shape = c.index-shapes-left.result in
    let some = c.loop-left-test.true in
    let within = c.loop-left.invariant.within in
    let back : c.loop-left.left ≡ i + 1 = omega (arith, some) in
    let b : i < length shapes = omega (arith, some, within) in
    let known = λ (item : ℕ). c.loop-left.invariant.known item ∙ ap (λ n. place_from (first + n) (drop n shapes) item) back in
    let members = c.loop-left.invariant.members ∙ ap (λ n. reverse (all_members (first + n) (drop n shapes))) back in
    record {
      within = omega (arith, within);
      members = c.in_ok-push.ensures.ok
          ∙ members-more first i shapes shape b c.index-shapes-left.is (found c.loop-left.known) c.loop-left.members c.in_ok-places_of.field-0
          (c.in_ok-places_of.ensures ∙ ap (λ items. filter_map (found c.loop-left.known) items) c.as_slice.ensures) known members;
      known = λ item.
          known-more first i shapes shape b c.index-shapes-left.is (found c.loop-left.known item) (found c.put.new.self item) item
          (c.in_ok-put.ensures item) (known item);
    }
