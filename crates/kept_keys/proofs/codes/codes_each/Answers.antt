use Rattle.std.proofs.Common.{◌≡◌, ◌+◌, ◌<◌, ℕ, ◌++◌, ◌∷◌, [], List, get_or, length, map, take, sym, ◌∙◌}
use Rattle.std.proofs.lemmas.List.{map_more}
use Rattle.std.proofs.lemmas.List.Elements.{All-get_or}
use Rattle.xs_codes.specs.declared.fault.Found.{Found}
use Rattle.what_is_found.specs.Identity.{seen}
use Rattle.kept_above.specs.from_kept_records.Found.{found_in}
use Rattle.kept_above.specs.from_kept_records.Slots.{IsMade}
use Rattle.kept_keys.specs.Keys.{codes_at}
use Rattle.kept_keys.proofs.codes.codes_each.Goals as goal

-- the codes of one more element
codes-more : (f : ℕ → List Found) (numbers : List ℕ) (index : ℕ) (before after : List (List Found)) (own : List Found) → index < length numbers → after ≡ before ++ own ∷ []
    → before ≡ map f (take index numbers) → own ≡ f (get_or numbers index 0) → after ≡ map f (take (index + 1) numbers)
codes-more f numbers index before after own in-range pushed so-far here = pushed ∙ (λ i. so-far i ++ here i ∷ []) ∙ sym (map_more f numbers index 0 in-range)

pub codes_by-requires-clause-made : goal.codes_by-requires-clause-made
codes_by-requires-clause-made c = All-get_or (IsMade c.args.kept.now.records.slots) c.args.numbers.now c.loop-node.node-index 0 c.loop-node-test.true c.requires.made

pub loop-node-preserved : goal.loop-node-preserved
loop-node-preserved c = λ ns d whole are over.
    codes-more (codes_at c.args.set.now (seen (found_in ns c.args.kept.now.records.slots d.forest))) c.args.numbers.now c.loop-node.node-index c.loop-node.codes.items c.push.new.self.items c.in_ok-codes_by.field-0
    c.loop-node-test.true c.in_ok-push.ensures.items (c.loop-node.invariant ns d whole are over) (c.in_ok-codes_by.ensures ns d whole are over)
