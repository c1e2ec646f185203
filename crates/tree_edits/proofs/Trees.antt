-- The element of a block is a tree of its own.
use Rattle.std.proofs.Common.{◌≡◌, ℕ, ◌+◌, ◌≤◌, List, [], Bool, true, false, Result, Ok, Err, refl, ◌∙◌, arith}
use Rattle.std.specs.List.{list_any}
use Rattle.std.specs.Result.{is_ok}
use Rattle.item_listing.specs.declared.item.Item.{Item}
use Rattle.tree_rows.specs.Forest.{Forest, none, text, element, count, numbered, deepest_of}
use Rattle.tree_rows.specs.Rows.{siblings}
use Rattle.tree_rows.specs.Whole.{AreNodes, HasRoot, IsTree}
use Rattle.tree_rows.specs.declared.row.Binding.{Binding}
use Rattle.tree_building.specs.Blocks.{one_element}
use Rattle.tree_building.specs.Building.{built, block, forest_of}
use Rattle.tree_building.specs.Rules.{block_rules}
use Rattle.tree_building.specs.declared.build.Built.{Built}
use Rattle.tree_building.specs.declared.fault.TreeFault.{TreeFault}
use Rattle.tree_building.proofs.Numbers.{numbers_differ}
use Rattle.tree_building.proofs.OneElement.{block-built}
use Rattle.tree_edits.specs.Blocks.{tags_in, has_too_many, has_double}
use Rattle.tree_edits.proofs.BlockNaming.{HaveNames, block_names}
use Rattle.tree_edits.proofs.Roots.{built_root}

nodes_of : (free number : ℕ) (f : Forest) → HaveNames f → numbered number f → 1 ≤ number → number + count f ≤ free → AreNodes free f
nodes_of free number none h n low high = tt
nodes_of free number (text m chars next) h n low high =
    let is = n.0 in ((omega (arith, is, low), omega (arith, is, high)), nodes_of free (number + 1) next h n.1 (omega arith) (omega (arith, high)))
nodes_of free number (element m name bindings attributes children next) h n low high =
    let is = n.0 in (
      (omega (arith, is, low), omega (arith, is, high)),
      h.0,
      nodes_of free (number + 1) children h.1 n.1 (omega arith) (omega (arith, high)),
      nodes_of free (number + 1 + count children) next h.2 n.2 (omega arith) (omega (arith, high)),
    )

rooted_by : (scope : List Binding) (its : List Item) (r : Result Built TreeFault) → built block_rules scope its ≡ r → is_ok r ≡ true → HasRoot (forest_of r) × numbered 1 (forest_of r)
rooted_by scope its (Ok end) e ok = built_root block_rules scope its end e
rooted_by scope its (Err fault) e ok = absurd (cc ok)

pub block_tree : (scope : List Binding) (its : List Item) → one_element its ≡ true → list_any has_too_many (tags_in scope [] its) ≡ false → list_any has_double (tags_in scope [] its) ≡ false
    → count (block scope its) ≤ 131072 → deepest_of 1 (block scope its) ≤ 128 → IsTree (record { forest = block scope its; next_free = 1 + count (block scope its) })
block_tree scope its one many double few shallow =
    let f : Forest = block scope its in
    let r = rooted_by scope its (built block_rules scope its) refl (block-built scope its ∙ one) in
    record {
      root = r.0;
      nodes = nodes_of (1 + count f) 1 f (block_names scope its many double) r.1 (omega arith) (omega arith);
      differ = λ key. numbers_differ key 1 f r.1;
      few = few;
      shallow = shallow;
    }
