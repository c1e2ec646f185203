use Rattle.std.proofs.Common.{◌≡◌, ◌<◌, ◌*◌, ◌++◌, ◌∷◌, ◌∙◌, [], Some, sym, ap, subst, length, length-set, true, arith}
use Rattle.std.proofs.lemmas.List.Elements.{All-nil, All-push, All-pop}
use Rattle.schema_set.proofs.MarkLaws.{reach-begun, reach-more, reach-done}
use Rattle.schema_set.proofs.ReachLaws.{following-below}
use Rattle.schema_set.proofs.reaching.spread.Goals as goal

pub loop-y-init : goal.loop-y-init
loop-y-init c =
    let seen = c.args.seen.now in
    let all = length c.args.sources.now.available.now * length c.args.sources.now.available.now in
    let first = c.own_number-first.result in
    let is : c.push.new.self.items ≡ [] ++ first ∷ [] = c.in_ok-push.ensures.items ∙ ap (λ l. l ++ first ∷ []) c.new-todo.ensures.items in
    let within : first < length seen = subst (λ n. first < n) (sym c.requires.len) c.own_number-first.ensures.within in
    record {
      len = length-set seen first true ∙ c.requires.len;
      todo = rw is (All-push (λ y. y < all) [] first (All-nil (λ y. y < all)) c.own_number-first.ensures.within);
      reach = reach-begun c.args.sources.now.available.now c.args.start first c.own_number-first.ensures.own seen c.push.new.self.items c.requires.none within is;
    }

pub following-requires-clause-there : goal.following-requires-clause-there
following-requires-clause-there c =
    let all = length c.args.sources.now.available.now * length c.args.sources.now.available.now in
    let popped = All-pop (λ y. y < all) c.loop-y.todo.items c.pop.new.self.items (Some c.in-Some.y) c.in-Some.ensures.items c.loop-y.invariant.todo in
    popped.1

pub mark-requires-clause-within : goal.mark-requires-clause-within
mark-requires-clause-within c =
    rw (c.deref.ensures.value, c.in_ok-next.ensures, c.loop-y.invariant.len) (following-below c.args.sources.now.available.now c.requires.sources.some c.in-Some.y)

pub mark-requires-clause-todo : goal.mark-requires-clause-todo
mark-requires-clause-todo c =
    let all = length c.args.sources.now.available.now * length c.args.sources.now.available.now in
    let popped = All-pop (λ y. y < all) c.loop-y.todo.items c.pop.new.self.items (Some c.in-Some.y) c.in-Some.ensures.items c.loop-y.invariant.todo in
    rw c.loop-y.invariant.len popped.0

pub loop-y-preserved : goal.loop-y-preserved
loop-y-preserved c = record {
  len = omega (arith, c.loop-y.invariant.len);
  todo = rw c.loop-y.invariant.len at c.in_ok-mark.ensures.todo;
  reach = reach-more c.args.sources.now.available.now c.args.start c.in-Some.y c.loop-y.seen c.mark.new.seen c.pop.new.self.items c.mark.new.todo.items
      (rw c.in-Some.ensures.items at c.loop-y.invariant.reach)
      (rw (c.deref.ensures.value, c.in_ok-next.ensures) at c.in_ok-mark.ensures.marking) (rw (c.deref.ensures.value, c.in_ok-next.ensures) at c.in_ok-mark.ensures.all);
}

pub returns : goal.returns
returns c = record { reached = reach-done c.args.sources.now.available.now c.args.start c.loop-y.seen c.loop-y.todo.items (omega (arith, c.loop-y.todo.ok.0, c.in_default.ensures.cases.0)) c.loop-y.invariant.reach }
