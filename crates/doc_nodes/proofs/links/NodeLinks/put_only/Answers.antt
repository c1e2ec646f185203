use Rattle.std.proofs.Common.{rules, ◌≡◌, [], ◌∷◌, ◌++◌, length, ap, arith}
use Rattle.std.proofs.lemmas.Result.{on_ok_weaker}
use Rattle.doc_nodes.specs.declared.content.NewNode.{NewNode}
use Rattle.doc_nodes.proofs.Single.{free_alone, all_alone}
use Rattle.doc_nodes.proofs.links.NodeLinks.put_only.Goals as goal

pub put-requires-clause-given : goal.put-requires-clause-given
put-requires-clause-given c =
    let only : NewNode = c.in-Some.field-0 in
    let popped : c.args.children.items ≡ c.pop.new.self.items ++ only ∷ [] = search rules in
    (free_alone c.args.children.items c.pop.new.self.items only c.requires.one popped c.args.self.now c.requires.free).1

pub put-requires-clause-free : goal.put-requires-clause-free
put-requires-clause-free c =
    let only : NewNode = c.in-Some.field-0 in
    let popped : c.args.children.items ≡ c.pop.new.self.items ++ only ∷ [] = search rules in
    (free_alone c.args.children.items c.pop.new.self.items only c.requires.one popped c.args.self.now c.requires.free).0

pub put-requires-clause-parent : goal.put-requires-clause-parent
put-requires-clause-parent c = (c.requires.parent.0, c.requires.parent.1, omega arith, c.requires.parent.3)

pub returns-clause-ok : goal.returns-clause-ok
returns-clause-ok c =
    let only : NewNode = c.in-Some.field-0 in
    let popped : c.args.children.items ≡ c.pop.new.self.items ++ only ∷ [] = search rules in
    on_ok_weaker c.put.result
    (all_alone c.args.children.items c.pop.new.self.items only c.requires.one popped c.args.self.now c.put.new.self c.args.parent c.requires.parent.0 c.requires.parent.1 c.requires.parent.2) c.put.ensures.ok

-- there is one
pub unreachable-requires : goal.unreachable-requires
unreachable-requires c =
    let none : c.args.children.items ≡ [] = search rules in
    omega (arith, c.requires.one, ap length none)
