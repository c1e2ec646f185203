use Rattle.std.proofs.Common.{◌≡◌, ◌≢◌, [], length, Some, refl, sym, ap, subst, ◌∙◌, arith}
use Rattle.std.proofs.lemmas.Bool.{eqb-true, eq-eqb, false≢true}
use Rattle.std.proofs.lemmas.List.{nil_from_length}
use Rattle.std.proofs.lemmas.List.Elements.{All-pop}
use Rattle.what_is_found.specs.Identity.{seen}
use Rattle.compiled_schema.specs.declared.compiled.Compiled.{Compiled}
use Rattle.kept_above.specs.from_kept_records.Found.{found_in}
use Rattle.kept_above.specs.from_kept_records.Slots.{IsMade}
use Rattle.kept_keys.specs.Keys.{IsWhole}
use Rattle.kept_keys.proofs.Scoped.{coded-all, coded-more, coded-plain, coded-short}
use Rattle.kept_keys.proofs.Counted.{targets-again}
use Rattle.kept_keys.proofs.Whole.{elements-again, elements-same, over-before}
use Rattle.kept_keys.proofs.scopes.settle_scopes.Goals as goal

-- there are no identity constraints
pub returns-then-is_empty-clause-elements : goal.returns-then-is_empty-clause-elements
returns-then-is_empty-clause-elements c = elements-same c.args.kept.now

pub returns-then-is_empty-clause-coded : goal.returns-then-is_empty-clause-coded
returns-then-is_empty-clause-coded c = λ d over n made.
    let identities = c.args.set.now.identities in
    let none = eqb-true _ 0 (sym c.if-is_empty.ensures) in
    coded-plain c.args.set.now c.args.doc.now c.args.kept.now c.requires.whole (nil_from_length identities.items (omega (arith, none, identities.ok.0)))
    (seen (found_in c.args.doc.now c.args.kept.now.records.slots d.forest)) n

-- those that are answered wait, and all others have their codes
pub left-init : goal.left-init
left-init c =
    let all = c.in_ok-numbers in
    record {
      same = refl;
      whole = c.requires.whole;
      elements = elements-same c.args.kept.now;
      made = all.ensures.made;
      coded = λ d o. record { codes_are = all.ensures.codes d o; others = all.ensures.rest d o };
    }

-- there are as many numbers as codes
pub unreachable-requires : goal.unreachable-requires
unreachable-requires c =
    let over = c.requires.whole.beside.over in
    coded-short c.args.set.now (seen (found_in c.args.doc.now c.args.kept.now.records.slots over.0.forest)) c.left.kept c.left.numbers.items c.left.codes.items c.pop.new.self.items c.in-Some.own
    (nil_from_length c.left.numbers.items (omega (arith, c.in_default-pop.ensures.cases.0, c.left.numbers.ok.0))) c.in-Some.ensures.items (c.left.invariant.coded over.0 over.1)

pub settle_scope-requires-clause-some : goal.settle_scope-requires-clause-some
settle_scope-requires-clause-some c =
    let identities = c.args.set.now.identities in
    let some : identities.items ≢ [] = λ e.
    false≢true (c.if-is_empty.ensures ∙ eq-eqb _ 0 (let none : length identities.items ≡ 0 = ap length e in omega (arith, none, identities.ok.0))) in
    subst (λ (set : Compiled). set.identities.items ≢ []) (sym c.left.invariant.same) some

pub settle_scope-requires-clause-made : goal.settle_scope-requires-clause-made
settle_scope-requires-clause-made c =
    let slots = c.args.kept.now.records.slots in
    (c.left.invariant.elements.made c.in-Some-pop.node).0
    (All-pop (IsMade slots) c.left.numbers.items c.pop-in-Some.new.self.items (Some c.in-Some-pop.node) c.in-Some-pop.ensures.items c.left.invariant.made).1

pub left-preserved : goal.left-preserved
left-preserved c =
    let set = c.args.set.now in
    let ns = c.args.doc.now in
    let old = c.args.kept.now in
    let l = c.left in
    let new = c.settle_scope.new.kept in
    let coded = c.in_ok-settle_scope.ensures.coded in
    record {
      same = c.settle_scope.ensures.same ∙ l.invariant.same;
      whole = subst (λ (s : Compiled). IsWhole s ns new) (sym c.settle_scope.ensures.same) c.in_ok-settle_scope.ensures.whole;
      elements = elements-again old l.kept new l.invariant.elements coded.elements;
      made = (All-pop (IsMade old.records.slots) l.numbers.items c.pop-in-Some.new.self.items (Some c.in-Some-pop.node) c.in-Some-pop.ensures.items l.invariant.made).0;
      coded = λ d o.
          coded-more set (seen (found_in ns old.records.slots d.forest)) l.kept new l.numbers.items c.pop-in-Some.new.self.items l.codes.items c.pop.new.self.items c.in-Some-pop.node c.in-Some.own
          c.in-Some-pop.ensures.items c.in-Some.ensures.items coded (l.invariant.coded d o);
    }

-- none waits
pub returns-clause-whole : goal.returns-clause-whole
returns-clause-whole c = subst (λ (s : Compiled). IsWhole s c.args.doc.now c.left.kept) c.left.invariant.same c.left.invariant.whole

pub returns-clause-coded : goal.returns-clause-coded
returns-clause-coded c = λ d over.
    let set = c.args.set.now in
    let ns = c.args.doc.now in
    let old = c.args.kept.now in
    let l = c.left in
    let whole = subst (λ (s : Compiled). IsWhole s ns l.kept) l.invariant.same l.invariant.whole in
    coded-all set ns old l.kept c.requires.whole whole l.invariant.elements d over l.numbers.items l.codes.items (nil_from_length l.codes.items (omega (arith, c.in_default.ensures.cases.0, l.codes.ok.0)))
    (l.invariant.coded d (over-before set ns old l.kept c.requires.whole whole l.invariant.elements d over))

pub codes_of-requires-clause-before : goal.codes_of-requires-clause-before
codes_of-requires-clause-before c =
    let identities = c.args.set.now.identities in
    c.requires.before (λ e. false≢true (c.if-is_empty.ensures ∙ eq-eqb _ 0 (let none : length identities.items ≡ 0 = ap length e in omega (arith, none, identities.ok.0))))

-- without identity constraints nothing is counted
pub returns-then-is_empty-clause-targets : goal.returns-then-is_empty-clause-targets
returns-then-is_empty-clause-targets c = λ some.
    let identities = c.args.set.now.identities in
    let none = eqb-true _ 0 (sym c.if-is_empty.ensures) in
    absurd (some (nil_from_length identities.items (omega (arith, none, identities.ok.0))))

pub returns-clause-targets : goal.returns-clause-targets
returns-clause-targets c = λ some.
    let set = c.args.set.now in
    let ns = c.args.doc.now in
    let l = c.left in
    let whole = subst (λ (s : Compiled). IsWhole s ns l.kept) l.invariant.same l.invariant.whole in
    targets-again set ns c.args.kept.now l.kept c.requires.whole whole l.invariant.elements c.codes_of.new.keys c.in_ok-numbers.ensures.targets
