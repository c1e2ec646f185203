use Rattle.std.proofs.Common.{◌≡◌, drop}
use Rattle.redefine_originals.specs.inside.Orders.{first_of}
use Rattle.redefine_originals.proofs.index.Originals.first_of.Given as goal

abbrev pub invariant-loop-document : goal.invariant-loop-document
invariant-loop-document l = first_of l.self.sources.available.now l.kind l.name (drop l.document-index l.order) ≡ first_of l.self.sources.available.now l.kind l.name l.order
