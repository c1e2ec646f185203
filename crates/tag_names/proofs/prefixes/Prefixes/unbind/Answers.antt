use Rattle.tag_names.proofs.TableLaws.{latest-known, IsTable-unbound}
use Rattle.tag_names.proofs.prefixes.Prefixes.unbind.Goals as goal

pub restore-requires : goal.restore-requires
restore-requires c =
    latest-known c.self.inside.entries.items c.pop.new.self.items c.in-Some.field-0 c.self.inside.latest c.as_str.result.now c.self.invariant c.in-Some.ensures.items
    c.as_str.ensures

pub invariant_of-self : goal.invariant_of-self
invariant_of-self c =
    IsTable-unbound c.self.inside.entries.items c.pop.new.self.items c.in-Some.field-0 c.self.inside.latest c.restore.new.latest c.as_str.result.now c.self.invariant c.in-Some.ensures.items
    c.as_str.ensures
    c.restore.ensures
