use Rattle.std.proofs.Common.{sym, ◌∙◌, Some, None}
use Rattle.std.specs.Str.{bytes_eq}
use Rattle.std.specs.String.{string_bytes}
use Rattle.std.proofs.lemmas.Map.Text.{hash_map_updates_text}
use Rattle.identity_tables.proofs.Census.{census_without, unused_parts, same_uses}
use Rattle.identity_tables.proofs.id_table.IdTable.forget_unused.Goals as goal
use Rattle.identity_tables.proofs.id_table.IdTable.forget_unused.Goals.{in-Some-1, in-None-1}

pub invariant_of-self : goal.invariant_of-self
invariant_of-self c =
    let f = c.self.inside in
    let u = c.in-Some.uses.now in
    let none = unused_parts u (sym c.is_unused.ensures ∙ c.if-is_unused.true) in
    census_without f.ids c.remove.new.self (λ k. bytes_eq c.args.id.now (string_bytes k)) u f.references f.missing f.shared (sym c.in-Some.ensures.value) none.0 none.1 none.2 c.remove.ensures.entries c.remove.ensures.unique c.self.invariant

pub returns-then-is_unused : goal.returns-then-is_unused
returns-then-is_unused c =
    let f = c.self.inside in
    let u = c.in-Some.uses.now in
    let none = unused_parts u (sym c.is_unused.ensures ∙ c.if-is_unused.true) in
    let same = same_uses f.ids.entries c.remove.new.self.entries c.args.id.now (Some u) None (sym c.in-Some.ensures.value) (hash_map_updates_text c.args.id.now f.ids c.remove.new.self None c.remove.ensures.updates) (sym none.3) (sym none.0) in
    rw (← c.self.view_is) (elim c.match-remove.branch [ in-Some-1 w ↦ rw w.self-is same | in-None-1 w ↦ rw w.self-is same ])
