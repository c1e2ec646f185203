use Rattle.std.proofs.Common.{◌+◌, [], refl, sym, ap, ◌∙◌, arith}
use Rattle.std.proofs.lemmas.Option.{none-some}
use Rattle.doc_changes.proofs.Clearing.{head, is_child, over_child, lower, room, mid_parent, mid_child, has_parent, next_so, fewer, ended}
use Rattle.doc_changes.proofs.parts.+clear.Goals as goal

pub clear-requires : goal.clear-requires
clear-requires t c =
    let q = c.requires.over in let old = c.args.links.now in let now = c.children.links in let n = c.args.number in let k = c.children.gone in
    let so = c.children.invariant q.0 q.1 q.2 in let h = head q.0 old now n q.1 k q.2 so c.in-Some.child c.in-Some.ensures.child in
    (omega (arith, c.decreases, lower q.0 old now n q.1 k q.2 so c.in-Some.child h c.in-Some.ensures.sound), (q.0, h.below, over_child q.0 old now n q.1 k q.2 so c.in-Some.child h c.in-Some.ensures.sound))

pub overflow_add-gone : goal.overflow_add-gone
overflow_add-gone t c =
    let q = c.requires.over in let old = c.args.links.now in let now = c.children.links in let n = c.args.number in let k = c.children.gone in
    let so = c.children.invariant q.0 q.1 q.2 in let h = head q.0 old now n q.1 k q.2 so c.in-Some.child c.in-Some.ensures.child in
    let r = room q.0 old now n q.1 k q.2 so c.in-Some.child h in
    let e = c.clear.ensures.count q.0 h.below (over_child q.0 old now n q.1 k q.2 so c.in-Some.child h c.in-Some.ensures.sound) in
    omega (arith, r, e)

pub overflow_add-gone-in-Some : goal.overflow_add-gone-in-Some
overflow_add-gone-in-Some t c =
    let q = c.requires.over in let old = c.args.links.now in let now = c.children.links in let n = c.args.number in let k = c.children.gone in
    let so = c.children.invariant q.0 q.1 q.2 in let h = head q.0 old now n q.1 k q.2 so c.in-Some.child c.in-Some.ensures.child in
    let r = room q.0 old now n q.1 k q.2 so c.in-Some.child h in
    let e = c.clear.ensures.count q.0 h.below (over_child q.0 old now n q.1 k q.2 so c.in-Some.child h c.in-Some.ensures.sound) in
    omega (arith, r, e)

pub take-requires : goal.take-requires
take-requires t c =
    let q = c.requires.over in let old = c.args.links.now in let now = c.children.links in let n = c.args.number in let k = c.children.gone in
    let so = c.children.invariant q.0 q.1 q.2 in let h = head q.0 old now n q.1 k q.2 so c.in-Some.child c.in-Some.ensures.child in
    let sound = c.in-Some.ensures.sound in
    let clears = c.clear.ensures.clears q.0 h.below (over_child q.0 old now n q.1 k q.2 so c.in-Some.child h sound) in
    (record h.it { children = [] }, mid_child q.0 old now n q.1 k q.2 so c.in-Some.child h c.clear.new.links c.clear.new.links clears, refl, λ e. none-some n (sym e ∙ has_parent q.0 old now n q.1 k q.2 so c.in-Some.child h sound))

pub children-smaller-in-Some : goal.children-smaller-in-Some
children-smaller-in-Some t c =
    let q = c.requires.over in let old = c.args.links.now in let now = c.children.links in let n = c.args.number in let k = c.children.gone in
    let so = c.children.invariant q.0 q.1 q.2 in let child = c.in-Some.child in let h = head q.0 old now n q.1 k q.2 so child c.in-Some.ensures.child in
    let clears = c.clear.ensures.clears q.0 h.below (over_child q.0 old now n q.1 k q.2 so child h c.in-Some.ensures.sound) in
    let mid = c.clear.new.links in
    let there = mid_parent q.0 old now n q.1 k q.2 so child h mid mid clears ∙ (is_child q.0 old now n q.1 k q.2 so child c.in-Some.ensures.child).1 in
    let removes = c.take.ensures.change n 0 ((is_child q.0 old now n q.1 k q.2 so child c.in-Some.ensures.child).0, there, (is_child q.0 old now n q.1 k q.2 so child c.in-Some.ensures.child).2) in
    fewer q.0 old now n q.1 k q.2 so child h mid c.take.new.self clears removes

pub children-smaller : goal.children-smaller
children-smaller t c =
    let q = c.requires.over in let old = c.args.links.now in let now = c.children.links in let n = c.args.number in let k = c.children.gone in
    let so = c.children.invariant q.0 q.1 q.2 in let child = c.in-Some.child in let h = head q.0 old now n q.1 k q.2 so child c.in-Some.ensures.child in
    let clears = c.clear.ensures.clears q.0 h.below (over_child q.0 old now n q.1 k q.2 so child h c.in-Some.ensures.sound) in
    let mid = c.clear.new.links in
    let there = mid_parent q.0 old now n q.1 k q.2 so child h mid mid clears ∙ (is_child q.0 old now n q.1 k q.2 so child c.in-Some.ensures.child).1 in
    let removes = c.take.ensures.change n 0 ((is_child q.0 old now n q.1 k q.2 so child c.in-Some.ensures.child).0, there, (is_child q.0 old now n q.1 k q.2 so child c.in-Some.ensures.child).2) in
    fewer q.0 old now n q.1 k q.2 so child h mid c.take.new.self clears removes

pub children-preserved-in-Some : goal.children-preserved-in-Some
children-preserved-in-Some t c = λ t1 whole over.
    let old = c.args.links.now in let now = c.children.links in let n = c.args.number in let k = c.children.gone in
    let so = c.children.invariant t1 whole over in let child = c.in-Some.child in let h = head t1 old now n whole k over so child c.in-Some.ensures.child in
    let own = over_child t1 old now n whole k over so child h c.in-Some.ensures.sound in
    let clears = c.clear.ensures.clears t1 h.below own in let mid = c.clear.new.links in
    let there = mid_parent t1 old now n whole k over so child h mid mid clears ∙ (is_child t1 old now n whole k over so child c.in-Some.ensures.child).1 in
    let removes = c.take.ensures.change n 0 ((is_child t1 old now n whole k over so child c.in-Some.ensures.child).0, there, (is_child t1 old now n whole k over so child c.in-Some.ensures.child).2) in
    next_so t1 old now n whole k over so child h mid c.take.new.self clears removes _ (ap (λ x. k + (x + 1)) (c.clear.ensures.count t1 h.below own))

pub children-preserved : goal.children-preserved
children-preserved t c = λ t1 whole over.
    let old = c.args.links.now in let now = c.children.links in let n = c.args.number in let k = c.children.gone in
    let so = c.children.invariant t1 whole over in let child = c.in-Some.child in let h = head t1 old now n whole k over so child c.in-Some.ensures.child in
    let own = over_child t1 old now n whole k over so child h c.in-Some.ensures.sound in
    let clears = c.clear.ensures.clears t1 h.below own in let mid = c.clear.new.links in
    let there = mid_parent t1 old now n whole k over so child h mid mid clears ∙ (is_child t1 old now n whole k over so child c.in-Some.ensures.child).1 in
    let removes = c.take.ensures.change n 0 ((is_child t1 old now n whole k over so child c.in-Some.ensures.child).0, there, (is_child t1 old now n whole k over so child c.in-Some.ensures.child).2) in
    next_so t1 old now n whole k over so child h mid c.take.new.self clears removes _ (ap (λ x. k + (x + 1)) (c.clear.ensures.count t1 h.below own))

pub returns-clause-clears : goal.returns-clause-clears
returns-clause-clears t c = λ t1 below over.
    (ended t1 c.args.links.now c.children.links c.args.number below c.children.gone over (c.children.invariant t1 below over) c.in_default.ensures.child).0

pub returns-clause-count : goal.returns-clause-count
returns-clause-count t c = λ t1 below over.
    (ended t1 c.args.links.now c.children.links c.args.number below c.children.gone over (c.children.invariant t1 below over) c.in_default.ensures.child).1
