-- The table is made of the symbols and the sets of the tree.
use Rattle.std.proofs.Common.{refl, ap}
use Rattle.xs_positions.specs.Walk.{tree_in}
use Rattle.xs_positions.specs.Parts.{sets_of}
use Rattle.xs_positions.specs.Sets.{AreSorted}
use Rattle.xs_positions.specs.declared.find.Positions.TheInside.{Inside}
use Rattle.xs_positions.proofs.Finding.{one_each, positions_are, sorted_is, rows_small}
use Rattle.xs_positions.proofs.find.list_positions.Goals as goal
use Rattle.xs_positions.proofs.find.list_positions.Goals.{In_ok-follow}

abbrev inside : In_ok-follow → Inside
inside c = record { symbols = c.in_ok-symbols.symbols; sets = record c.in_ok-sets.sets { follow = c.replace-rows.new.dest }; follow = c.in_ok-follow.follow }

sorted_rows : (c : In_ok-follow) → AreSorted (sets_of c.in_ok-sets.sets).follow c.in_ok-follow.follow
sorted_rows c =
    sorted_is c.in_ok-sets.sets c.replace-rows.result.items c.sorted.result.items c.in_ok-follow.follow (ap (λ v. v.items) c.replace-rows.ensures.value) c.sorted.ensures c.in_ok-follow.ensures

pub share_rows-requires : goal.share_rows-requires
share_rows-requires c =
    rows_small (tree_in c.args.nodes.now c.args.root) c.in_ok-sets.sets c.replace-rows.result.items c.sorted.result.items c.in_ok-sets.ensures.sets c.requires.fits
    (ap (λ v. v.items) c.replace-rows.ensures.value) c.sorted.ensures

pub invariant_of-result : goal.invariant_of-result
invariant_of-result c =
    one_each (tree_in c.args.nodes.now c.args.root) (inside c) c.in_ok-sets.sets c.in_ok-symbols.ensures c.in_ok-sets.ensures.sets (refl, refl, refl, refl) (sorted_rows c) c.requires.fits

pub returns : goal.returns
returns c =
    positions_are (tree_in c.args.nodes.now c.args.root) (inside c) c.in_ok-sets.sets c.in_ok-symbols.ensures c.in_ok-sets.ensures.sets (refl, refl, refl, refl) (sorted_rows c) c.in_ok-sets.ensures.nullable
