use Rattle.std.proofs.Common.{refl, sym, ap, ◌∙◌}
use Rattle.std.proofs.lemmas.Result.{IfOk-weaker}
use Rattle.what_is_found.specs.Identity.{seen, seen_element}
use Rattle.path_walk.specs.Sight as sight
use Rattle.scope_targets.specs.Counted.{counted_all}
use Rattle.scope_targets.specs.Linked.{links_by}
use Rattle.tree_assess.specs.Entries.{entry_of}
use Rattle.kept_above.specs.from_kept_records.KeptElement.{KeptElement}
use Rattle.kept_above.specs.from_kept_records.Found.{found_in}
use Rattle.kept_above.proofs.from_kept_state.Beside.{kept-there}
use Rattle.kept_keys.proofs.Filled.{codes-are, linked, links, targets-of}
use Rattle.kept_keys.proofs.codes.codes_by.Goals as goal

pub element_codes-requires : goal.element_codes-requires
element_codes-requires c = record { references = c.requires.targets.1.references }

pub returns : goal.returns
returns c =
    let set = c.args.set.now in
    let k = c.args.kept.now in
    let keys = c.args.keys.now in
    let slots = k.records.slots in
    let n = c.args.node in
    let counted = keys.counted in
    let own = c.sight_of.ensures ∙ ap (λ (x : KeptElement). seen_element (entry_of x.found)) (sym (kept-there slots n c.at.result.now c.at.ensures)) in
    IfOk-weaker c.element_codes.result _ _ (λ codes given ns d whole are over.
    codes-are set ns k whole keys are d over
    (λ e below h key x. c.counted_targets_are_the_outcomes.ensures set.names set.parts set.identities.items counted.targets (seen (found_in ns slots d.forest)) (targets-of set ns k whole keys are d over) e below h key x)
    (λ differ records. c.counts_stay_as_links_change.ensures.stay (links_by counted.parents.items) (links set ns k whole keys are) counted.references (counted_all counted.targets) counted.records
    (c.parents_give_links.ensures counted.parents.items) (linked set ns k whole keys are) differ records)
    _ refl c.as_slice.result.now c.as_slice.ensures.value n c.requires.made (sight.seen c.sight_of.result) own codes given) c.element_codes.ensures
