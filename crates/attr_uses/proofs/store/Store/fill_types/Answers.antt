use Rattle.std.proofs.Common.{◌<◌, length, get_or, length-set, arith, refl, ◌∙◌, slice_get}
use Rattle.std.proofs.lemmas.List.Elements.{All-get_or, All-weaker}
use Rattle.xs_components.specs.declared.common.TypeId.TheVariants.{Complex}
use Rattle.attr_uses.specs.Uses.{uses_of}
use Rattle.attr_uses.specs.Tables.{IsAnswer}
use Rattle.attr_uses.specs.inside.Kept.{IsTypeAnswer}
use Rattle.attr_uses.proofs.FillLaws.{items-below, items-more, items-all}
use Rattle.attr_uses.proofs.KeptLaws.{keeps-on, store-kept, answer-kept, groups-kept}
use Rattle.attr_uses.proofs.store.Store.fill_types.Goals as goal

pub type_table-requires-clause-store : goal.type_table-requires-clause-store
type_table-requires-clause-store c = store-kept c.args.self.now c.loop-x.self c.loop-x.invariant.keeps c.requires.store

pub type_table-requires-clause-there : goal.type_table-requires-clause-there
type_table-requires-clause-there c = All-get_or (λ y. y < length c.args.parts.now.complexes.parts) c.args.order.now c.loop-x.x-index 0 c.loop-x-test.true c.requires.order.there

pub type_table-requires-clause-types : goal.type_table-requires-clause-types
type_table-requires-clause-types c =
    items-below (λ o n. IsAnswer c.args.parts.now c.args.ids.now c.loop-x.self o (uses_of c.args.parts.now (Complex n))) (length c.args.parts.now.complexes.parts) c.args.parts.now.complexes.ranks c.args.order.now c.loop-x.x-index c.loop-x.types c.requires.order c.loop-x-test.true c.loop-x.invariant.known

pub loop-x-preserved : goal.loop-x-preserved
loop-x-preserved c =
    let inv = c.loop-x.invariant in
    let made = c.in_ok-answer.ensures.made in
    let new = c.type_table.new.self in
    let x = get_or c.args.order.now c.loop-x.x-index 0 in
    let there : x < length c.loop-x.types = rw inv.len (All-get_or (λ y. y < length c.args.parts.now.complexes.parts) c.args.order.now c.loop-x.x-index 0 c.loop-x-test.true c.requires.order.there) in
    record {
      keeps = keeps-on c.args.self.now c.loop-x.self new inv.keeps made.0;
      len = length-set c.loop-x.types x c.in_ok-answer.answer ∙ inv.len;
      known = items-more (λ o n. IsAnswer c.args.parts.now c.args.ids.now new o (uses_of c.args.parts.now (Complex n))) c.args.order.now c.loop-x.x-index x c.loop-x.types c.in_ok-answer.answer c.loop-x-test.true refl there made.1
          (All-weaker (IsTypeAnswer c.args.parts.now c.args.ids.now c.loop-x.self c.loop-x.types) (IsTypeAnswer c.args.parts.now c.args.ids.now new c.loop-x.types)
          (λ n is. answer-kept c.args.parts.now c.args.ids.now c.loop-x.self new made.0 (slice_get c.loop-x.types n) (uses_of c.args.parts.now (Complex n)) is) _ inv.known);
    }

pub returns : goal.returns
returns c = record {
  made = (
    c.loop-x.invariant.keeps,
    record {
      alike = c.loop-x.invariant.len;
      each = items-all (λ o n. IsAnswer c.args.parts.now c.args.ids.now c.loop-x.self o (uses_of c.args.parts.now (Complex n))) (length c.args.parts.now.complexes.parts) c.args.parts.now.complexes.ranks c.args.order.now c.loop-x.x-index c.loop-x.types c.requires.order (omega arith) c.loop-x.invariant.known;
    },
  );
}

pub type_table-requires-clause-groups : goal.type_table-requires-clause-groups
type_table-requires-clause-groups c = groups-kept c.args.parts.now c.args.ids.now c.args.self.now c.loop-x.self c.loop-x.invariant.keeps c.args.groups.now c.requires.groups
