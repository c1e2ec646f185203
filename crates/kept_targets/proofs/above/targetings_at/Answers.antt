use Rattle.std.proofs.Common.{◌≡◌, ◌<◌, ◌∷◌, [], ℕ, All, Option, length, map, refl, sym, ap, subst, ◌∙◌, true}
use Rattle.std.proofs.lemmas.List.Elements.{All-cons, All-nil}
use Rattle.std.proofs.lemmas.Option.{same_Some}
use Rattle.component_tables.specs.ContentTypes.{AreContentsOf}
use Rattle.xs_names.specs.Names.{NameTable}
use Rattle.xs_components.specs.Tables.{Tables}
use Rattle.identity_constraints.specs.Seen.{KeyElement}
use Rattle.what_is_found.specs.Identity.{seen_element}
use Rattle.path_walk.specs.Sight.{AreNamed, seen}
use Rattle.scope_targets.specs.Found.{targeting_of}
use Rattle.scope_targets.specs.Targetings.{targetings_up}
use Rattle.doc_nodes.specs.Nodes.{is_element_at}
use Rattle.child_lists.specs.from_kept_records.Slots.{entry_at}
use Rattle.kept_targets.specs.Kept.{kin_of}
use Rattle.kept_targets.specs.Seen.{siblings_of}
use Rattle.kept_targets.proofs.Around.{seen-one}
use Rattle.kept_targets.proofs.Looking.{above-there, made-of, sound}
use Rattle.kept_targets.proofs.Named.{named-at}
use Rattle.kept_targets.proofs.Touching.{IsFoundUpTo, found-end, found-next, found-start, kept-seen, level-at}
use Rattle.kept_targets.proofs.above.targetings_at.Goals as goal

pub up-init : goal.up-init
up-init c =
    let by = c.args.by.now in
    record {
      there = λ p e. subst (λ (q : ℕ). is_element_at by.doc.now q ≡ true) (same_Some c.args.node p e) c.requires.element;
      ways = subst (All (λ (name : ℕ). name < length c.key_set-set.result.names.now.names)) (sym c.new-way.ensures.items) (All-nil (λ (name : ℕ). name < length c.key_set-set.result.names.now.names));
      so_far = λ own below behind is all are.
          found-start c.key_set-set.result.names.now c.key_set-set.result.parts.now c.key_set-set.result.identities.now (kin_of by.doc.now by.state.now.records.slots) own below all c.args.node c.new-way.result.items (map targeting_of c.new-found.result.items)
          c.new-way.ensures.items (ap (map targeting_of) c.new-found.ensures.items) are;
    }

pub at-requires : goal.at-requires
at-requires c =
    let by = c.args.by.now in
    made-of by.set.now by.doc.now by.state.now c.requires.whole c.in-Some.own (c.up.invariant.there c.in-Some.own c.in-Some.is)

pub add_scope-requires-clause-contents : goal.add_scope-requires-clause-contents
add_scope-requires-clause-contents c =
    let by = c.args.by.now in
    let set = c.key_set-set.ensures in
    subst (λ (t : Tables). AreContentsOf t c.key_set-set.result.contents.now) (sym set.parts) (subst (AreContentsOf by.set.now.parts) (sym set.contents) c.requires.whole.beside.over.1.usable.judging.contents_are)

pub add_scope-requires-clause-named : goal.add_scope-requires-clause-named
add_scope-requires-clause-named c =
    let by = c.args.by.now in
    subst (λ (t : NameTable). AreNamed t (siblings_of c.from-target.result)) (sym c.key_set-set.ensures.names) (c.from-target.ensures.named by.set.now by.state.now c.requires.whole refl)

pub up-smaller : goal.up-smaller
up-smaller c =
    let by = c.args.by.now in
    level-at by.doc.now (sound by.set.now by.doc.now by.state.now c.requires.whole) c.in-Some.own c.up.next c.in-Some.is c.parent-next.result c.parent-next.ensures.parent

pub up-preserved : goal.up-preserved
up-preserved c =
    let by = c.args.by.now in
    let ns = by.doc.now in
    let ks = by.state.now.records.slots in
    let set = c.key_set-set.result in
    let p = c.in-Some.own in
    let parent = c.parent-next.ensures.parent in
    let done = c.in_ok-add_scope.ensures in
    let here = c.sight_of-scope.ensures ∙ kept-seen ks p c.at.result.now c.at.ensures in
    let named = named-at by.set.now ns by.state.now c.requires.whole p (made-of by.set.now ns by.state.now c.requires.whole p (c.up.invariant.there p c.in-Some.is)) in
    let name = subst (λ (t : NameTable). (seen c.sight_of-scope.result).name < length t.names) (sym c.key_set-set.ensures.names) (subst (λ (own : KeyElement). own.name < length by.set.now.names.names) (sym here) named.name) in
    record {
      there = λ q e. above-there by.set.now ns by.state.now c.requires.whole p q (sym parent ∙ e);
      ways = subst (All (λ (name : ℕ). name < length set.names.now.names)) (sym done.way) (All-cons (λ (name : ℕ). name < length set.names.now.names) (seen c.sight_of-scope.result).name c.up.way.items name c.up.invariant.ways);
      so_far = λ own below behind is all are.
          subst (λ (o : Option ℕ). IsFoundUpTo set.names.now set.parts.now set.identities.now (kin_of ns ks) own below all o c.add_scope.new.way.items (map targeting_of c.add_scope.new.found.items)) (sym parent)
          (found-next set.names.now set.parts.now set.identities.now (kin_of ns ks) own below all c.up.next p c.in-Some.is c.up.way.items c.add_scope.new.way.items (map targeting_of c.up.found.items) (map targeting_of c.add_scope.new.found.items)
          (seen c.sight_of-scope.result) here done.way (done.found own below behind is) (c.up.invariant.so_far own below behind is all are));
    }

pub returns : goal.returns
returns c = λ above below is_above is_below.
    let by = c.args.by.now in
    let ns = by.doc.now in
    let ks = by.state.now.records.slots in
    let own = seen_element (entry_at ks c.args.node) in
    let set = c.key_set-set in
    let from = c.from-target.ensures.first by.set.now by.state.now c.requires.whole refl c.requires.element in
    let under = seen-one (kin_of ns ks) _ from.below below from.seen is_below in
    found-end set.result.names.now set.result.parts.now set.result.identities.now (kin_of ns ks) own from.below (own ∷ above) c.up.next c.up.way.items (map targeting_of c.up.found.items) c.in_default.is
    (c.up.invariant.so_far own from.below from.next from.is (own ∷ above) (refl, is_above))
    ∙ (λ i. targetings_up (set.ensures.names i) (set.ensures.parts i) (set.ensures.identities i) [] own (under i) (own ∷ above))
