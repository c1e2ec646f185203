use Rattle.std.proofs.Common.{◌∙◌, ap}
use Rattle.particle_forms.specs.Ranges.{times}
use Rattle.particle_forms.proofs.ModelLaws.{part-read}
use Rattle.particle_forms.proofs.RangeLaws.{rule-parts, rule-range}
use Rattle.particle_forms.proofs.ranges.RangeRuleRuleTotalRange.value.Goals as goal

pub range_of-requires : goal.range_of-requires
range_of-requires c =
    let is = part-read _ _ c.args.x _ c.particles.ensures.parts c.index-particles-x.is c.requires.there in
    record { parts = rule-parts c.args.self.now.parts.now c.requires.valid c.args.x c.index-particles-x.result is c.args.table.now c.requires.len }

pub returns : goal.returns
returns c =
    let is = part-read _ _ c.args.x _ c.particles.ensures.parts c.index-particles-x.is c.requires.there in
    let part = c.index-particles-x.result in
    record {
      value = c.times.ensures ∙ (ap (times part.min part.max) c.range_of.ensures ∙
          rule-range c.args.self.now.parts.now c.requires.valid c.args.x part is c.args.table.now c.requires.filled);
    }
