use Rattle.redefine_names.proofs.NamedLaws.{named-later}
use Rattle.redefine_names.proofs.RenamedLaws.{all-renamed, all-named}
use Rattle.redefine_names.proofs.renaming.name_versions.Goals as goal

pub returns-clause-renamed : goal.returns-clause-renamed
returns-clause-renamed c =
    let made = c.in_ok-renaming.renaming in
    all-renamed c.of.new.names c.as_slice.result.now c.args.reps c.as_slice.ensures c.args.originals.now made.names.items made.redirections.items c.in_ok-renaming.ensures.names c.in_ok-renaming.ensures.redirections
    c.rename_all.result c.rename_all.ensures

pub returns-clause-named : goal.returns-clause-named
returns-clause-named c =
    let made = c.in_ok-renaming.renaming in
    all-named c.of.new.names c.as_slice.result.now c.args.reps c.as_slice.ensures c.args.originals.now made.names.items made.redirections.items c.in_ok-renaming.ensures.names c.in_ok-renaming.ensures.redirections
    c.rename_all.result (named-later c.args.names.now c.of.new.names c.args.reps c.of.ensures.grown c.requires.named) c.rename_all.ensures
