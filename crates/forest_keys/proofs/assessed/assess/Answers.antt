use Rattle.std.specs.Prelude.{All}
use Rattle.std.proofs.Common.{sym, ap, subst, ◌∙◌}
use Rattle.assessment.specs.Plain.{plain_beside}
use Rattle.compiled_schema.specs.Usable.{IsUsable, set_of}
use Rattle.compiled_schema.specs.declared.compiled.Compiled.{Compiled}
use Rattle.forest_keys.specs.inside.Coded.{IsEntryNamed, coded}
use Rattle.forest_keys.specs.inside.Marking.{codes_in, with_marks}
use Rattle.forest_keys.proofs.There.{found_named}
use Rattle.forest_keys.proofs.Together.{joined, plain_entries, sized_entries}
use Rattle.forest_keys.proofs.assessed.assess.Goals as goal

pub join_codes-requires-clause-usable : goal.join_codes-requires-clause-usable
join_codes-requires-clause-usable c = subst IsUsable (sym c.assess_plain.ensures.same) c.requires.usable

pub join_codes-requires-clause-named : goal.join_codes-requires-clause-named
join_codes-requires-clause-named c =
    let k = c.args.compiled.now in
    let entries = c.in_ok-entries.entries.items in
    let plain = c.in_ok-entries.ensures.assessed in
    subst (λ (d : Compiled). All (IsEntryNamed d.names) entries) (sym c.assess_plain.ensures.same)
    (found_named k c.requires.usable plain_beside c.args.tree.now.forest plain.found c.requires.names plain.assessed entries (plain_entries plain.found entries plain.placed_are))

pub join_codes-requires-clause-whole : goal.join_codes-requires-clause-whole
join_codes-requires-clause-whole c = let plain = c.in_ok-entries.ensures.assessed in (plain.found, sized_entries plain.found c.in_ok-entries.entries.items plain.placed_are)

pub returns-clause-assessed : goal.returns-clause-assessed
returns-clause-assessed c =
    let k = c.args.compiled.now in
    let entries = c.in_ok-entries.entries.items in
    joined (set_of k) k.identities.items c.args.tree.now c.in_ok-entries.ensures.tree entries c.in_ok-entries.ensures.assessed c.identity_codes_join_the_assessment.ensures.joined
    c.join_codes.new.entries.items
    (c.in_ok-join_codes.ensures ∙ ap (λ (d : Compiled). with_marks (codes_in entries) (coded d.names d.parts d.identities.items entries)) c.assess_plain.ensures.same)
