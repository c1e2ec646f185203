use Rattle.std.specs.Prelude.{All}
use Rattle.std.proofs.Common.{◌<◌, length, sym, ap, subst, ◌∙◌, arith, refl}
use Rattle.assess_records.specs.Counts.{child_count, attempt_count}
use Rattle.compiled_schema.specs.Usable.{set_of}
use Rattle.compiled_schema.specs.declared.compiled.Compiled.{Compiled}
use Rattle.assess_records.specs.Numbered.{heads}
use Rattle.tree_assess.specs.inside.Steps.{CanAssess, IsThere, IsDone, alone, pairs_in}
use Rattle.tree_assess.proofs.Below.{element_from}
use Rattle.tree_assess.proofs.Counting.{child_more, attempt_more}
use Rattle.tree_assess.proofs.Forests.{heads_here, counted_here, can_alone, can_next}
use Rattle.tree_assess.proofs.Steps.{begun, ended, past_element, pair_at, there_at, done_by}
use Rattle.tree_assess.proofs.assessing.+assess.Goals as goal

pub assess_children-left-init : goal.assess_children-left-init
assess_children-left-init t c =
    let k = c.args.compiled.now in
    let scope = c.scope-scope.result.now in
    let pairs = pairs_in c.begun-entries.result.now in
    let each = c.requires.each in
    let same_heads = ap (λ s. length (heads k.names s c.args.children)) c.scope-scope.ensures in
    let same_pairs = ap (λ ps. length (pairs_in ps)) c.begun-entries.ensures in
    let none_counted = ap child_count c.new-counts.ensures in
    let none_tried = ap attempt_count c.new-counts.ensures in
    let few = c.requires.can.few in
    record {
      so_far = begun (set_of k) c.args.parent.now.number scope pairs c.args.children c.args.found.now.items c.new-counts.result c.new-counts.ensures;
      can = subst (λ s. CanAssess k s c.args.children) (sym c.scope-scope.ensures) c.requires.can;
      each = omega arith;
      counted = omega arith;
      attempts = omega arith;
      fewer = omega arith;
      same = refl;
    }

pub assess_children-returns-clause-done : goal.assess_children-returns-clause-done
assess_children-returns-clause-done t c =
    let k = c.args.compiled.now in
    done_by (set_of k) c.args.parent.now.number c.scope-scope.result.now c.args.parent.now.head.scope (pairs_in c.begun-entries.result.now) (pairs_in c.args.parent.now.inner.begun.items) c.args.children c.args.found.now.items c.left.found.items c.left.counts
    c.scope-scope.ensures (ap pairs_in c.begun-entries.ensures)
    (ended (set_of k) c.args.parent.now.number c.scope-scope.result.now (pairs_in c.begun-entries.result.now) c.args.children c.args.found.now.items c.left.left c.left.place c.left.found.items c.left.counts c.left.invariant.so_far c.in_default.ensures)

pub assess_children-left-preserved-in_ok-outcome : goal.assess_children-left-preserved-in_ok-outcome
assess_children-left-preserved-in_ok-outcome t c =
    let k = c.args.compiled.now in
    let scope = c.scope-scope.result.now in
    let pairs = pairs_in c.begun-entries.result.now in
    let s = c.in-Some.field-0 in
    let row = s.row.now in
    let l = c.left in
    let i = l.invariant in
    let name = c.in-Element.name in
    let first = c.in-Some.ensures in
    let is = c.in-Element.is in
    let pair = c.governing-governing.result.now in
    let outcome = c.in_ok-outcome.outcome in
    let one = ap length (heads_here l.left s.children s.next row first name is k.names scope) in
    let size = counted_here l.left s.children s.next row first name is in
    let each = i.each in
    let within : l.place < length pairs = omega arith in
    let more = ap child_count c.add.ensures ∙ child_more outcome.validity outcome.attempted l.counts in
    let tried = ap attempt_count c.add.ensures ∙ attempt_more outcome.validity outcome.attempted l.counts in
    let counted = i.counted in
    let attempts = i.attempts in
    let fewer = i.fewer in
    let done = subst (λ (d : Compiled). IsDone (set_of d) c.args.parent.now.number scope pair name row s.children l.found.items c.assess_element.new.found.items outcome) i.same c.in_ok-outcome.ensures.done in
    record {
      so_far = past_element (set_of k) c.args.parent.now.number scope pairs c.args.children c.args.found.now.items l.left s.children s.next row l.place first name is pair within (pair_at c.begun-entries.result.now l.place c.index-entries-place.result pair within c.index-entries-place.is c.governing-governing.ensures) l.found.items c.assess_element.new.found.items outcome done
          l.counts c.add.new.self i.so_far c.add.ensures;
      can = can_next l.left s.children s.next row first name is k scope i.can;
      each = omega arith;
      counted = omega arith;
      attempts = omega arith;
      fewer = omega arith;
      same = c.assess_element.ensures.same ∙ i.same;
    }

pub assess_element-returns-clause-done : goal.assess_element-returns-clause-done
assess_element-returns-clause-done t c =
    element_from c.args.compiled.now c.enter.new.compiled c.assess_children.new.compiled c.args.bearer c.args.outer.now c.args.governing.now c.args.name.now c.args.row.now c.args.children c.in_ok-entered.entered c.in_ok-entered.ensures.entered
    c.enter.ensures.same (c.assess_children.ensures.same ∙ c.enter.ensures.same) c.in_ok-counts.counts c.args.found.now.items c.keep_place.new.found.items c.assess_children.new.found.items c.finish.new.found.items c.in_ok-place.place c.finish.result
    c.in_ok-place.ensures.kept c.in_ok-place.ensures.place c.in_ok-counts.ensures.done c.finish.ensures.finished

pub assess_children-assess_element-requires : goal.assess_children-assess_element-requires
assess_children-assess_element-requires t c =
    let k = c.args.compiled.now in
    let scope = c.scope-scope.result.now in
    let pairs = pairs_in c.begun-entries.result.now in
    let s = c.in-Some.field-0 in
    let row = s.row.now in
    let l = c.left in
    let i = l.invariant in
    let name = c.in-Element.name in
    let first = c.in-Some.ensures in
    let is = c.in-Element.is in
    let pair = c.governing-governing.result.now in
    let one = ap length (heads_here l.left s.children s.next row first name is k.names scope) in
    let each = i.each in
    let within : l.place < length pairs = omega arith in
    let size = counted_here l.left s.children s.next row first name is in
    let fewer = i.fewer in
    let there = subst (λ ps. All (IsThere k.parts) (pairs_in ps)) (sym c.begun-entries.ensures) c.requires.there in (
      omega (arith, c.decreases, size, fewer),
      (
        subst (λ (d : Compiled). CanAssess d scope (alone name row s.children)) (sym i.same) (can_alone l.left s.children s.next row first name is k scope i.can),
        subst (λ (d : Compiled). IsThere d.parts pair) (sym i.same) (there_at k.parts pairs l.place pair there within (pair_at c.begun-entries.result.now l.place c.index-entries-place.result pair within c.index-entries-place.is c.governing-governing.ensures)),
      ),
    )
