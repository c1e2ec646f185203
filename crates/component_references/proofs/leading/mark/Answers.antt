use Rattle.std.proofs.Common.{◌≡◌, ◌<◌, ◌++◌, ◌∷◌, [], true, take, take_all, set, get_or, length, length-set, arith}
use Rattle.std.specs.Prelude.{All}
use Rattle.std.proofs.lemmas.List.Elements.{All-more, All-weaker, All-push, Contains-get_or}
use Rattle.component_references.specs.inside.Marks.{marked}
use Rattle.component_references.proofs.MarkLaws.{marked-set, marked-kept, marking-more}
use Rattle.component_references.proofs.leading.mark.Goals as goal

pub loop-y-preserved-then-seen-y : goal.loop-y-preserved-then-seen-y
loop-y-preserved-then-seen-y c =
    let inv = c.loop-y.invariant in
    record { marking = inv.marking; all = All-more (λ y. marked c.loop-y.seen y ≡ true) c.args.xs.now c.loop-y.y-index 0 c.loop-y-test.true inv.all c.if-seen-y.true; todo = inv.todo }

pub loop-y-preserved : goal.loop-y-preserved
loop-y-preserved c =
    let inv = c.loop-y.invariant in
    let seen = c.loop-y.seen in
    let y = get_or c.args.xs.now c.loop-y.y-index 0 in
    let there : y < length seen = omega (arith, c.requires.within c.loop-y.y-index 0 c.loop-y-test.true) in
    let longer : All (λ z. z < length seen) (c.loop-y.todo.items ++ y ∷ []) = All-push (λ z. z < length seen) c.loop-y.todo.items y inv.todo there in
    record {
      marking = rw c.in_ok-push.ensures.items (marking-more seen y there c.args.xs.now c.args.seen.now c.args.todo.now.items c.loop-y.todo.items inv.marking
          (Contains-get_or c.args.xs.now c.loop-y.y-index 0 c.loop-y-test.true) c.if-seen-y.false);
      all = All-more (λ z. marked (set seen y true) z ≡ true) c.args.xs.now c.loop-y.y-index 0 c.loop-y-test.true
          (All-weaker (λ z. marked seen z ≡ true) (λ z. marked (set seen y true) z ≡ true) (marked-kept seen y there) (take c.loop-y.y-index c.args.xs.now) inv.all)
          (marked-set seen y there);
      todo = rw (c.in_ok-push.ensures.items, length-set) longer;
    }

pub returns-clause-all : goal.returns-clause-all
returns-clause-all c = let all : take c.loop-y.y-index c.args.xs.now ≡ c.args.xs.now = take_all _ _ (omega arith) in rw all at c.loop-y.invariant.all
