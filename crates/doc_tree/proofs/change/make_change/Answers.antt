use Rattle.std.proofs.Common.{List, sym, subst}
use Rattle.std.proofs.lemmas.Result.{IfOk-weaker, on_ok_weaker}
use Rattle.doc_changes.specs.Stands.{StandsFor}
use Rattle.tree_edits.specs.Inverses.{changed, inverse_of, Fits}
use Rattle.tree_edits.specs.Inverses as law
use Rattle.doc_tree.specs.Changes.{Means, IsMade}
use Rattle.doc_tree.specs.Parts.{IsPart}
use Rattle.doc_tree.specs.declared.change.Change.{Change}
use Rattle.doc_tree.specs.declared.change.Change.TheVariants as changes
use Rattle.doc_tree.specs.declared.part.PartRow.{PartRow}
use Rattle.doc_tree.proofs.Meaning.{puts_back, takes, names, writes, rewords, sound_either}
use Rattle.doc_tree.proofs.change.make_change.Goals as goal

-- a part is put back

pub put-requires : goal.put-requires
put-requires c =
    let q = c.requires.can in
    let p = puts_back q.0 q.1 q.2 c.in-PutBack.parent c.in-PutBack.index c.in-PutBack.part (subst (λ (x : Change). Means q.0 x q.2) c.in-PutBack.is q.4) q.5 in
    (q.0, q.1, p.f, q.3, subst (λ (rows : List PartRow). IsPart q.0 rows p.f) (sym c.as_slice.ensures) p.part_is, p.can)

pub returns-in-PutBack-clause-tree : goal.returns-in-PutBack-clause-tree
returns-in-PutBack-clause-tree c =
    on_ok_weaker c.put.result (λ tree t d e z m fits.
    let p = puts_back t d e c.in-PutBack.parent c.in-PutBack.index c.in-PutBack.part (subst (λ (x : Change). Means t x e) c.in-PutBack.is m) fits in
    subst (λ (x : law.Change). StandsFor t c.put.new.links (changed d x)) (sym p.is) (tree t d p.f z (subst (λ (rows : List PartRow). IsPart t rows p.f) (sym c.as_slice.ensures) p.part_is) p.can)) c.put.ensures.tree

pub returns-in-PutBack-clause-inverse : goal.returns-in-PutBack-clause-inverse
returns-in-PutBack-clause-inverse c =
    IfOk-weaker c.put.result _ _ (λ back inverse t d e z m fits.
    let p = puts_back t d e c.in-PutBack.parent c.in-PutBack.index c.in-PutBack.part (subst (λ (x : Change). Means t x e) c.in-PutBack.is m) fits in
    subst (λ (x : law.Change). Means t back (inverse_of d x)) (sym p.is) (inverse t d p.f (subst (λ (rows : List PartRow). IsPart t rows p.f) (sym c.as_slice.ensures) p.part_is) p.can)) c.put.ensures.inverse

pub returns-in-PutBack-clause-nodes : goal.returns-in-PutBack-clause-nodes
returns-in-PutBack-clause-nodes c =
    on_ok_weaker c.put.result (λ nodes t d e z m fits.
    let p = puts_back t d e c.in-PutBack.parent c.in-PutBack.index c.in-PutBack.part (subst (λ (x : Change). Means t x e) c.in-PutBack.is m) fits in
    subst (λ (x : Change). IsMade t c.args.links.now c.put.new.links x e) (sym c.in-PutBack.is)
    (subst (λ (x : law.Change). IsMade t c.args.links.now c.put.new.links (changes.PutBack c.in-PutBack.parent c.in-PutBack.index c.in-PutBack.part) x) (sym p.is)
    (nodes t d p.f z (subst (λ (rows : List PartRow). IsPart t rows p.f) (sym c.as_slice.ensures) p.part_is) p.can))) c.put.ensures.nodes

pub returns-in-PutBack-clause-sound : goal.returns-in-PutBack-clause-sound
returns-in-PutBack-clause-sound c = sound_either c.put.result c.args.links.now c.put.new.links c.requires.can.3.links c.put.ensures.sound c.put.ensures.err

-- a node is taken out

pub take-requires : goal.take-requires
take-requires c =
    let q = c.requires.can in let k = takes q.0 q.2 c.in-Take.node (subst (λ (x : Change). Means q.0 x q.2) c.in-Take.is q.4) in (q.0, q.1, q.3, subst (Fits q.1) k q.5)

pub returns-in-Take-clause-tree : goal.returns-in-Take-clause-tree
returns-in-Take-clause-tree c =
    on_ok_weaker c.take.result (λ tree t d e z m fits.
    subst (λ (x : law.Change). StandsFor t c.take.new.links (changed d x)) (sym (takes t e c.in-Take.node (subst (λ (x : Change). Means t x e) c.in-Take.is m))) (tree t d z)) c.take.ensures.tree

pub returns-in-Take-clause-inverse : goal.returns-in-Take-clause-inverse
returns-in-Take-clause-inverse c =
    IfOk-weaker c.take.result _ _ (λ back inverse t d e z m fits.
    let k = takes t e c.in-Take.node (subst (λ (x : Change). Means t x e) c.in-Take.is m) in
    subst (λ (x : law.Change). Means t back (inverse_of d x)) (sym k) (inverse t d z (subst (Fits d) k fits))) c.take.ensures.inverse

pub returns-in-Take-clause-nodes : goal.returns-in-Take-clause-nodes
returns-in-Take-clause-nodes c =
    on_ok_weaker c.take.result (λ nodes t d e z m fits.
    subst (λ (x : Change). IsMade t c.args.links.now c.take.new.links x e) (sym c.in-Take.is) (nodes t)) c.take.ensures.nodes

-- an element has another name

pub rename-requires : goal.rename-requires
rename-requires c =
    let q = c.requires.can in let k = names q.0 q.2 c.in-Name.node c.in-Name.name (subst (λ (x : Change). Means q.0 x q.2) c.in-Name.is q.4) in (q.0, q.1, q.3, k.0, subst (Fits q.1) k.1 q.5)

pub returns-in-Name-clause-tree : goal.returns-in-Name-clause-tree
returns-in-Name-clause-tree c = λ t d e z m fits.
    let k = names t e c.in-Name.node c.in-Name.name (subst (λ (x : Change). Means t x e) c.in-Name.is m) in
    subst (λ (x : law.Change). StandsFor t c.rename.new.links (changed d x)) (sym k.1) (c.rename.ensures.tree t d z k.0)

pub returns-in-Name-clause-inverse : goal.returns-in-Name-clause-inverse
returns-in-Name-clause-inverse c = λ t d e z m fits.
    let k = names t e c.in-Name.node c.in-Name.name (subst (λ (x : Change). Means t x e) c.in-Name.is m) in
    subst (λ (x : law.Change). Means t c.rename.result (inverse_of d x)) (sym k.1) (c.rename.ensures.inverse t d z (subst (Fits d) k.1 fits))

pub returns-in-Name-clause-nodes : goal.returns-in-Name-clause-nodes
returns-in-Name-clause-nodes c = λ t d e z m fits. subst (λ (x : Change). IsMade t c.args.links.now c.rename.new.links x e) (sym c.in-Name.is) c.rename.ensures.nodes

-- an element has an attribute written

pub write-requires : goal.write-requires
write-requires c =
    let q = c.requires.can in let k = writes q.0 q.2 c.in-Attr.node c.in-Attr.name c.in-Attr.place c.in-Attr.value (subst (λ (x : Change). Means q.0 x q.2) c.in-Attr.is q.4) in
    (q.0, q.1, q.3, k.0, subst (Fits q.1) k.1 q.5)

pub returns-in-Attr-clause-tree : goal.returns-in-Attr-clause-tree
returns-in-Attr-clause-tree c =
    on_ok_weaker c.write.result (λ tree t d e z m fits.
    let k = writes t e c.in-Attr.node c.in-Attr.name c.in-Attr.place c.in-Attr.value (subst (λ (x : Change). Means t x e) c.in-Attr.is m) in
    subst (λ (x : law.Change). StandsFor t c.write.new.links (changed d x)) (sym k.1) (tree t d z k.0 (subst (Fits d) k.1 fits))) c.write.ensures.tree

pub returns-in-Attr-clause-inverse : goal.returns-in-Attr-clause-inverse
returns-in-Attr-clause-inverse c =
    IfOk-weaker c.write.result _ _ (λ back inverse t d e z m fits.
    let k = writes t e c.in-Attr.node c.in-Attr.name c.in-Attr.place c.in-Attr.value (subst (λ (x : Change). Means t x e) c.in-Attr.is m) in
    subst (λ (x : law.Change). Means t back (inverse_of d x)) (sym k.1) (inverse t d z k.0 (subst (Fits d) k.1 fits))) c.write.ensures.inverse

pub returns-in-Attr-clause-nodes : goal.returns-in-Attr-clause-nodes
returns-in-Attr-clause-nodes c =
    on_ok_weaker c.write.result (λ nodes t d e z m fits. subst (λ (x : Change). IsMade t c.args.links.now c.write.new.links x e) (sym c.in-Attr.is) nodes) c.write.ensures.nodes

-- a text has other characters

pub reword-requires : goal.reword-requires
reword-requires c =
    let q = c.requires.can in let k = rewords q.0 q.2 c.in-Chars.node c.in-Chars.text (subst (λ (x : Change). Means q.0 x q.2) c.in-Chars.is q.4) in (q.0, q.1, q.3, subst (Fits q.1) k q.5)

pub returns-in-Chars-clause-tree : goal.returns-in-Chars-clause-tree
returns-in-Chars-clause-tree c =
    on_ok_weaker c.reword.result (λ tree t d e z m fits.
    let k = rewords t e c.in-Chars.node c.in-Chars.text (subst (λ (x : Change). Means t x e) c.in-Chars.is m) in
    subst (λ (x : law.Change). StandsFor t c.reword.new.links (changed d x)) (sym k) (tree t d z)) c.reword.ensures.tree

pub returns-in-Chars-clause-inverse : goal.returns-in-Chars-clause-inverse
returns-in-Chars-clause-inverse c =
    IfOk-weaker c.reword.result _ _ (λ back inverse t d e z m fits.
    let k = rewords t e c.in-Chars.node c.in-Chars.text (subst (λ (x : Change). Means t x e) c.in-Chars.is m) in
    subst (λ (x : law.Change). Means t back (inverse_of d x)) (sym k) (inverse t d z (subst (Fits d) k fits))) c.reword.ensures.inverse

pub returns-in-Chars-clause-nodes : goal.returns-in-Chars-clause-nodes
returns-in-Chars-clause-nodes c =
    on_ok_weaker c.reword.result (λ nodes t d e z m fits. subst (λ (x : Change). IsMade t c.args.links.now c.reword.new.links x e) (sym c.in-Chars.is) nodes) c.reword.ensures.nodes
