use Rattle.std.proofs.Common.{arith}
use Rattle.tag_names.proofs.TableLaws.{within-place, of_prefix-place, of_prefix-unbound}
use Rattle.tag_names.proofs.prefixes.Prefixes.of_prefix.Goals as goal

pub index-requires : goal.index-requires
index-requires c =
    let within = within-place c.self.inside.entries.items c.self.inside.latest c.args.prefix.now c.in-Some.place.now c.self.invariant c.in-Some.ensures.value in
    omega (arith, within, c.self.inside.entries.ok.0)

pub returns-in-None : goal.returns-in-None
returns-in-None c = rw (← c.self.view_is) (of_prefix-unbound c.self.inside.entries.items c.self.inside.latest c.args.prefix.now c.self.invariant c.in-None.ensures.value)

pub returns-in-Some : goal.returns-in-Some
returns-in-Some c =
    rw (← c.self.view_is)
    (of_prefix-place c.self.inside.entries.items c.self.inside.latest c.args.prefix.now c.in-Some.place.now c.index.result.now c.self.invariant c.in-Some.ensures.value c.index.ensures)
