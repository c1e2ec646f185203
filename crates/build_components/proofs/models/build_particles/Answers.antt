use Rattle.std.proofs.Common.{ℕ, Option, List, length, sym, ap, ◌∙◌, arith}
use Rattle.std.specs.List.{flat_map}
use Rattle.std.proofs.lemmas.List.{length-append}
use Rattle.xs_components.specs.Changes.{with_particle}
use Rattle.xs_components.specs.Table.{TableOf}
use Rattle.xs_components.specs.Tables.{Tables}
use Rattle.xs_components.specs.declared.group.GroupDef.{GroupDef}
use Rattle.set_representations.specs.Numbers.{number_at, with_parts}
use Rattle.set_representations.specs.inside.Changes.{changes}
use Rattle.set_representations.proofs.NumberLaws.{numbers_below}
use Rattle.set_representations.proofs.ChangeLaws.{changes_table}
use Rattle.build_components.specs.Groups.{bare_groups, groups_of, group_numbers, particle_of}
use Rattle.build_components.specs.Models.{particles_for}
use Rattle.build_components.specs.Particles.{particles}
use Rattle.build_components.proofs.GroupLaws.{groups_one}
use Rattle.build_components.proofs.models.build_particles.Goals as goal

pub set_group_particles-requires : goal.set_group_particles-requires
set_group_particles-requires c =
    let old = c.args.parts.now.groups.parts in
    let reps = c.args.source.now.reps.now in
    let numbers = c.as_slice-2.ensures ∙ c.in_ok-groups.ensures.numbers in
    let long = ap (λ (p : Tables). length p.groups.parts) c.in_ok-particles.ensures.parts ∙ ap (λ (p : Tables). length p.groups.parts) c.in_ok-groups.ensures.parts in
    record {
      there = λ at n is. omega (arith, long, length-append old (flat_map bare_groups reps), numbers_below bare_groups (length old) reps at n (ap (λ (all : List (Option ℕ)). number_at all at) (sym numbers) ∙ is));
    }

pub returns-clause-numbers : goal.returns-clause-numbers
returns-clause-numbers c =
    let source = c.args.source.now in
    let elements = c.args.elements.now in
    let before = c.add_groups.new.parts.particles.parts in
    c.in_ok-particles.ensures.numbers
    ∙ ap (λ (groups : List (Option ℕ)). (particles source elements groups (length before)).numbers) (c.as_slice.ensures ∙ c.in_ok-groups.ensures.numbers)
    ∙ ap (λ (p : Tables). (particles source elements (group_numbers (length c.args.parts.now.groups.parts) source.reps.now) (length p.particles.parts)).numbers) c.in_ok-groups.ensures.parts

pub returns-clause-parts : goal.returns-clause-parts
returns-clause-parts c =
    let source = c.args.source.now in
    let elements = c.args.elements.now in
    let reps = source.reps.now in
    let old = c.args.parts.now in
    let before = c.add_groups.new.parts.particles.parts in
    let given = c.as_slice.result.now in
    let known = group_numbers (length old.groups.parts) reps in
    let made = (particles_for source elements old).numbers in
    let bare = with_parts old.groups (flat_map bare_groups reps) in
    let first = c.as_slice.ensures ∙ c.in_ok-groups.ensures.numbers in
    let second = c.as_slice-2.ensures ∙ c.in_ok-groups.ensures.numbers in
    let third = c.as_slice-3.ensures
    ∙ c.in_ok-particles.ensures.numbers
    ∙ ap (λ (groups : List (Option ℕ)). (particles source elements groups (length before)).numbers) first
    ∙ ap (λ (p : Tables). (particles source elements known (length p.particles.parts)).numbers) c.in_ok-groups.ensures.parts in
    c.set_group_particles.ensures
    ∙ ap (λ (p : Tables). record p { groups = record p.groups { parts = changes with_particle (particle_of c.as_slice-3.result.now) p.groups.parts c.as_slice-2.result.now reps } }) c.in_ok-particles.ensures.parts
    ∙ ap (λ (p : Tables). record p {
      groups = record p.groups { parts = changes with_particle (particle_of c.as_slice-3.result.now) p.groups.parts c.as_slice-2.result.now reps };
      particles = with_parts p.particles (particles source elements given (length p.particles.parts)).parts;
    }) c.in_ok-groups.ensures.parts
    ∙ ap (λ (groups : List (Option ℕ)). record old {
      groups = record bare { parts = changes with_particle (particle_of c.as_slice-3.result.now) bare.parts c.as_slice-2.result.now reps };
      particles = with_parts old.particles (particles source elements groups (length old.particles.parts)).parts;
    }) first
    ∙ ap (λ (groups : List (Option ℕ)). record old {
      groups = record bare { parts = changes with_particle (particle_of c.as_slice-3.result.now) bare.parts groups reps };
      particles = with_parts old.particles (particles_for source elements old).parts;
    }) second
    ∙ ap (λ (numbers : List (Option ℕ)). record old {
      groups = record bare { parts = changes with_particle (particle_of numbers) bare.parts known reps };
      particles = with_parts old.particles (particles_for source elements old).parts;
    }) third
    ∙ ap (λ (table : TableOf GroupDef). record old { groups = table; particles = with_parts old.particles (particles_for source elements old).parts })
    (changes_table with_particle (particle_of made) bare_groups (groups_of made) (groups_one made) old.groups reps)
