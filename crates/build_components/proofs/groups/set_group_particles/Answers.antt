use Rattle.std.proofs.Common.{ℕ, ◌+◌, Option, List, length, drop, ap, ◌∙◌, arith}
use Rattle.xs_components.specs.Changes.{with_particle}
use Rattle.xs_components.specs.Tables.{Tables}
use Rattle.xs_components.specs.declared.group.GroupDef.{GroupDef}
use Rattle.set_representations.specs.Numbers.{number_at, first_number}
use Rattle.set_representations.specs.inside.Changes.{changed_at, changes}
use Rattle.set_representations.proofs.ChangeLaws.{changed_at_length, changes_step}
use Rattle.build_components.specs.Groups as spec
use Rattle.build_components.proofs.groups.set_group_particles.Goals as goal

pub loop-place-preserved : goal.loop-place-preserved
loop-place-preserved c =
    let numbers = c.args.groups.now in
    let reps = c.args.reps.now in
    let particles = spec.particle_of c.args.particles.now in
    let place = c.loop-place.place in
    let old = c.loop-place.parts.groups.parts in
    let long = ap (λ (p : Tables). length p.groups.parts) c.set_group_particle.ensures ∙ changed_at_length with_particle old c.number_at.result c.first_number.result in
    let given = ap (λ (id : Option ℕ). changed_at with_particle old id c.first_number.result) c.number_at.ensures.number
    ∙ ap (λ (particle : Option ℕ). changed_at with_particle old (number_at numbers place) particle)
    (c.first_number.ensures.number ∙ ap (λ (members : List ℕ). first_number c.args.particles.now members) c.as_slice-members.ensures) in
    record {
      there = λ at n is. omega (arith, long, c.loop-place.invariant.there at n is);
      parts = ap (λ (p : Tables). record p { groups = record p.groups { parts = changes with_particle particles p.groups.parts (drop (place + 1) numbers) (drop (place + 1) reps) } }) c.set_group_particle.ensures
          ∙ ap (λ (parts : List GroupDef). record c.loop-place.parts { groups = record c.loop-place.parts.groups { parts = parts } })
          (ap (λ (parts : List GroupDef). changes with_particle particles parts (drop (place + 1) numbers) (drop (place + 1) reps)) given
          ∙ changes_step with_particle particles old numbers place reps c.index-reps-place.result c.loop-place-test.true c.index-reps-place.is)
          ∙ c.loop-place.invariant.parts;
    }
