use Rattle.std.proofs.Common.{Bool, get_or, slice_index, ap, ◌∙◌}
use Rattle.component_tables.specs.inside.Runs.{joined}
use Rattle.component_tables.proofs.RunLaws.{step-read, rule-none, rule-inside, rule-some}
use Rattle.component_tables.proofs.bases.RunRuleRuleBaseLine.value.Goals as goal

pub bounds-table-base : goal.bounds-table-base
bounds-table-base c =
    let step = get_or c.args.self.now.steps.now c.args.x c.index-self-x.result in
    let there = step-read c.args.self.now.steps.now c.args.self.now.nexts.now c.args.self.now.ranks.now c.requires.valid c.args.x c.index-self-x.result c.requires.there in
    rule-inside c.args.self.now.steps.now c.args.self.now.nexts.now c.args.self.now.ranks.now c.requires.valid c.args.x step there c.in-Some.base c.args.table.now c.in-Some.is c.requires.len

pub returns-in-None : goal.returns-in-None
returns-in-None c =
    let step = get_or c.args.self.now.steps.now c.args.x c.index-self-x.result in
    let there = step-read c.args.self.now.steps.now c.args.self.now.nexts.now c.args.self.now.ranks.now c.requires.valid c.args.x c.index-self-x.result c.requires.there in
    record { value = c.starting.ensures ∙ rule-none c.args.self.now.steps.now c.args.self.now.nexts.now c.args.self.now.ranks.now c.requires.valid c.args.x step there c.in-None.is }

pub returns-in-Some : goal.returns-in-Some
returns-in-Some c =
    let step = get_or c.args.self.now.steps.now c.args.x c.index-self-x.result in
    let there = step-read c.args.self.now.steps.now c.args.self.now.nexts.now c.args.self.now.ranks.now c.requires.valid c.args.x c.index-self-x.result c.requires.there in
    record {
      value = c.joined.ensures ∙
          (ap (λ (goes_on : Bool). joined goes_on step (slice_index c.args.self.now.ranks.now c.args.x) c.index-table-base.result) c.is_next.ensures ∙
          rule-some c.args.self.now.steps.now c.args.self.now.nexts.now c.args.self.now.ranks.now c.requires.valid c.args.x step there c.in-Some.base c.args.table.now c.index-table-base.result c.in-Some.is c.requires.filled c.index-table-base.is);
    }
