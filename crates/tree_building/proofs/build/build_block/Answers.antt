use Rattle.std.proofs.Common.{◌≡◌, sym, ap, ◌∙◌, subst}
use Rattle.tree_building.specs.Blocks.{IsBlock}
use Rattle.tree_building.specs.Building.{built}
use Rattle.tree_building.specs.Rules.{block_rules}
use Rattle.tree_building.proofs.Blocks.{is_block, no_fault}
use Rattle.tree_building.proofs.build.build_block.Goals as goal

pub unreachable-requires : goal.unreachable-requires
unreachable-requires c =
    let is : built block_rules c.args.scope.now c.args.items.now ≡ c.in_ok-built.field-0 =
    sym (c.in_ok-built.ensures ∙ ap (λ r. built r c.in_ok-try_clone.field-0 c.args.items.now) c.block.ensures
    ∙ ap (λ s. built block_rules s c.args.items.now) c.in_ok-try_clone.ensures) in
    no_fault c.args.scope.now c.args.items.now c.in-Err.field-0 c.requires (is ∙ c.in-Err.is)

pub returns : goal.returns
returns c =
    let is : built block_rules c.args.scope.now c.args.items.now ≡ c.in_ok-built.field-0 =
    sym (c.in_ok-built.ensures ∙ ap (λ r. built r c.in_ok-try_clone.field-0 c.args.items.now) c.block.ensures
    ∙ ap (λ s. built block_rules s c.args.items.now) c.in_ok-try_clone.ensures) in
    subst (IsBlock c.args.scope.now c.args.items.now) (sym c.into_vec.ensures) (is_block c.args.scope.now c.args.items.now c.in-Ok.built (is ∙ c.in-Ok.is))
