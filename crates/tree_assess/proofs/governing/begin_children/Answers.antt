use Rattle.std.proofs.Common.{◌≡◌, ◌++◌, [], ◌∷◌, get_or, refl, sym, subst, ◌∙◌}
use Rattle.std.proofs.lemmas.List.{length-map}
use Rattle.compiled_schema.specs.Usable.{set_of}
use Rattle.compiled_schema.specs.declared.compiled.Compiled.{Compiled}
use Rattle.assess_records.specs.Numbered.{heads, head_of}
use Rattle.tree_assess.specs.declared.entry.ElementEntry.{ElementEntry}
use Rattle.tree_assess.specs.inside.Steps.{pair_of, pairs_in}
use Rattle.tree_assess.proofs.Forests.{has_next}
use Rattle.tree_assess.proofs.Pairs.{pairs_of, pairs_past, each_past, pairs_end}
use Rattle.tree_assess.proofs.governing.begin_children.Goals as goal

pub left-preserved-in_ok-add_child : goal.left-preserved-in_ok-add_child
left-preserved-in_ok-add_child c =
    let k = c.args.compiled.now in
    let scope = c.args.scope.now in
    let parent = c.args.parent.now in
    let terms = c.args.terms.now in
    let s = c.in-Some.field-0 in
    let row = s.row.now in
    let name = c.in-Element.name in
    let first = c.in-Some.ensures in
    let is = c.in-Element.is in
    let l = c.left in
    let i = l.invariant in
    let pairs = pairs_in l.entries.items in
    let new = pairs_in c.add_child.new.entries.items in
    let term = c.index-terms-place.result in
    let pair = pair_of (set_of k) parent term (head_of k.names scope name row.bindings row.attributes) in
    let more : new ≡ pairs ++ pair ∷ [] =
    subst (λ (d : Compiled). new ≡ pairs ++ pair_of (set_of d) parent term (head_of d.names scope name row.bindings row.attributes) ∷ []) i.same c.in_ok-add_child.ensures.pair in
    let place = c.len-place.ensures ∙ l.entries.ok.0 ∙ sym (length-map l.entries.items (λ (e : ElementEntry). e.governing)) in
    let at = subst (λ n. term ≡ get_or terms n term) place c.index-terms-place.is in
    record {
      pairs = pairs_past (set_of k) parent k.names scope terms l.left s.children s.next row first name is pairs i.each term new pair (pairs_of (set_of k) parent terms (heads k.names scope c.args.children.now)) at refl more i.pairs;
      each = each_past (set_of k) parent k.names scope terms l.left s.children s.next row first name is pairs i.each new pair more;
      has = has_next l.left s.children s.next row first name is k.names i.has;
      same = c.add_child.ensures.same ∙ i.same;
    }

pub returns-clause-pairs : goal.returns-clause-pairs
returns-clause-pairs c =
    let k = c.args.compiled.now in
    let pairs = pairs_in c.left.entries.items in
    pairs_end (set_of k) c.args.parent.now k.names c.args.scope.now _ c.left.left pairs (pairs_of (set_of k) c.args.parent.now c.args.terms.now (heads k.names c.args.scope.now c.args.children.now)) c.in_default.ensures c.left.invariant.pairs
