use Rattle.std.proofs.Common.{◌<◌, length, All, sym, subst}
use Rattle.doc_nodes.specs.declared.content.NameAttribute.{NameAttribute}
use Rattle.doc_edits.specs.inside.Tested.{IsAmong}
use Rattle.doc_edits.proofs.Naming.{known_here, there_is}
use Rattle.doc_edits.proofs.names.find_name.Goals as goal

pub number_among-requires : goal.number_among-requires
number_among-requires c =
    let s = c.requires.stands in
    subst (All (λ (a : NameAttribute). a.name < length c.args.names.now.names)) (sym c.attributes_of.ensures)
    (known_here c.args.names.now c.args.doc.now s.0 s.1 c.args.node c.requires.element)

pub returns : goal.returns
returns c = λ d z.
    there_is c.args.names.now c.args.doc.now d z c.args.node c.requires.element c.args.own.now c.number_among.result
    (subst (λ xs. IsAmong c.args.names.now xs c.args.own.now c.number_among.result) c.attributes_of.ensures c.number_among.ensures)
