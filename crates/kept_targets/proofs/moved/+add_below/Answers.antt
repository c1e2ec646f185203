use Rattle.std.proofs.Common.{◌≡◌, ℕ, List, inl, sym, subst, arith}
use Rattle.doc_nodes.specs.Nodes.{Has}
use Rattle.kept_targets.specs.Moved.{Adds}
use Rattle.kept_targets.proofs.Adding.{adds-one, adds-same, adds-then, below-all, below-more, child-lower, child-there, child-under, has-pushed-last}
use Rattle.kept_targets.proofs.Firsts.{past-children}
use Rattle.kept_targets.proofs.moved.+add_below.Goals as goal

pub loop-place-init : goal.loop-place-init
loop-place-init t c = record {
  own = subst (Has c.args.node) (sym {A = List ℕ} c.in_ok-push.ensures.items) (has-pushed-last c.args.node c.args.numbers.now.items);
  done = λ i child m l e is within. absurd (omega (arith, l));
  adds = adds-same c.args.doc.now c.push.new.self.items (λ m. m ≡ c.args.node);
}

pub add_below-requires : goal.add_below-requires
add_below-requires t c =
    let s = c.requires.stands in
    let there = sym c.in-Some.ensures.element in
    let low = child-lower s.0 c.args.doc.now s.1 s.2 c.args.node c.requires.element c.loop-place.place c.in-Some.child there in
    (omega (arith, c.decreases, low), (s, (child-there s.0 c.args.doc.now s.1 s.2 c.args.node c.requires.element c.loop-place.place c.in-Some.child there).1))

pub loop-place-preserved : goal.loop-place-preserved
loop-place-preserved t c =
    let ns = c.args.doc.now in
    let n = c.args.node in
    let s = c.requires.stands in
    let child = c.in-Some.child in
    let place = c.loop-place.place in
    let there = sym c.in-Some.ensures.element in
    let old = c.loop-place.numbers.items in
    let new = c.add_below.new.numbers.items in
    let done = c.in_ok-add_below.ensures in
    let inv = c.loop-place.invariant in
    let up = child-there s.0 ns s.1 s.2 n c.requires.element place child there in
    record {
      own = done.adds.still n inv.own;
      done = below-more s.0 ns s.1 s.2 n place child old new there done.adds.still done.all inv.done;
      adds = adds-then ns c.push.new.self.items old new (λ m. m ≡ n) (λ m. m ≡ child) inv.adds done.adds (child-under ns n child old up.0 inv.own);
    }

pub returns-in_default-clause-all : goal.returns-in_default-clause-all
returns-in_default-clause-all t c =
    let s = c.requires.stands in
    below-all s.0 c.args.doc.now s.1 s.2 c.args.node c.loop-place.place c.loop-place.numbers.items (sym c.in_default.ensures.element) c.loop-place.invariant.own c.loop-place.invariant.done

pub returns-in_default-clause-adds : goal.returns-in_default-clause-adds
returns-in_default-clause-adds t c =
    let ns = c.args.doc.now in
    let xs = c.args.numbers.now.items in
    let first = subst (λ (ys : List ℕ). Adds ns xs ys (λ m. m ≡ c.args.node)) (sym {A = List ℕ} c.in_ok-push.ensures.items) (adds-one ns xs c.args.node c.requires.element) in
    adds-then ns xs c.push.new.self.items c.loop-place.numbers.items (λ m. m ≡ c.args.node) (λ m. m ≡ c.args.node) first c.loop-place.invariant.adds (λ m e. inl e)

pub returns-clause-all : goal.returns-clause-all
returns-clause-all t c =
    let s = c.requires.stands in
    let count = c.child_count-place-end.ensures.count in
    let past = c.loop-place.auto.place-end in
    below-all s.0 c.args.doc.now s.1 s.2 c.args.node c.loop-place.place c.loop-place.numbers.items
    (past-children c.args.doc.now c.args.node c.loop-place.place (omega (arith, count, c.loop-place-test.false))) c.loop-place.invariant.own c.loop-place.invariant.done

pub returns-clause-adds : goal.returns-clause-adds
returns-clause-adds t c =
    let ns = c.args.doc.now in
    let xs = c.args.numbers.now.items in
    let first = subst (λ (ys : List ℕ). Adds ns xs ys (λ m. m ≡ c.args.node)) (sym {A = List ℕ} c.in_ok-push.ensures.items) (adds-one ns xs c.args.node c.requires.element) in
    adds-then ns xs c.push.new.self.items c.loop-place.numbers.items (λ m. m ≡ c.args.node) (λ m. m ≡ c.args.node) first c.loop-place.invariant.adds (λ m e. inl e)
