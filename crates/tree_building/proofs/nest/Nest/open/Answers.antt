use Rattle.std.proofs.Common.{ℕ, List, [], ◌∷◌, ◌++◌, reverse, ap, ◌∙◌}
use Rattle.std.proofs.lemmas.List.{reverse-append}
use Rattle.tree_rows.specs.declared.row.Binding.{Binding}
use Rattle.tree_building.specs.Nest.{opened}
use Rattle.tree_building.specs.Marks.{nest_of}
use Rattle.tree_building.specs.declared.nest.Mark.{Mark}
use Rattle.tree_building.proofs.NestLaws.{nest-more}
use Rattle.tree_building.proofs.nest.Nest.open.Goals as goal

pub returns-clause-ok : goal.returns-clause-ok
returns-clause-ok c =
    let all : List Binding = c.args.bindings.now ++ c.self.inside.prefixes in
    let marks : List Mark = c.self.inside.marks.items in
    let mark : ℕ → Mark = λ before. record { name = c.args.name; before = before } in
    ap (λ p. nest_of p (reverse c.push.new.self.items)) c.in_ok-bind_all.ensures.ok
    ∙ ap (λ l. nest_of all (reverse l)) (c.in-Ok.ensures.items ∙ ap (λ l. l ++ mark c.len-before.result ∷ []) c.in_ok-reserve.ensures.items)
    ∙ ap (nest_of all) (reverse-append marks (mark c.len-before.result ∷ []))
    ∙ ap (λ k. nest_of all (mark k ∷ reverse marks)) c.len-before.ensures
    ∙ nest-more c.args.bindings.now c.self.inside.prefixes c.args.name (reverse marks)
    ∙ ap (λ n. opened n c.args.name c.args.bindings.now) c.self.view_is
