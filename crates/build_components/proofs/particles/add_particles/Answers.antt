use Rattle.std.proofs.Common.{◌≡◌, ℕ, suc, ◌+◌, ◌-◌, ◌<◌, List, [], Option, length, drop, get_or, sym, ap, ◌∙◌, arith}
use Rattle.std.proofs.lemmas.List.{length-append, drop_all}
use Rattle.xs_components.specs.Table.{TableOf}
use Rattle.xs_components.specs.Tables.{Tables}
use Rattle.xs_components.specs.declared.particle.Particle.{Particle}
use Rattle.representations.specs.declared.parts.Representation.{Representation}
use Rattle.set_representations.specs.Numbers.{number_of, with_parts}
use Rattle.set_representations.proofs.NumberLaws.{with_parts_none}
use Rattle.build_components.specs.Particles.{Particles, padded, particles_from}
use Rattle.build_components.specs.Terms.{particles_of}
use Rattle.build_components.proofs.PaddedLaws.{padded_none, padded_long, next_is, next_numbers, next_parts}
use Rattle.build_components.proofs.particles.add_particles.Goals as goal

pub back-init : goal.back-init
back-init c =
    let old = c.args.parts.now in
    let reps = c.args.source.now.reps.now in
    let count = length reps in
    let from = particles_from c.args.source.now c.args.elements.now c.args.groups.now (length old.particles.parts) count in
    let all : drop count reps ≡ [] = drop_all count reps (omega arith) in
    record {
      within = omega arith;
      ids = c.in_ok-ids.ensures ∙ padded_none count ∙ ap (λ (left : List Representation). padded count (from left).numbers) (sym all);
      parts = ap (λ (table : TableOf Particle). record old { particles = table }) (sym (with_parts_none old.particles)) ∙ ap (λ (left : List Representation). record old { particles = with_parts old.particles (from left).parts }) (sym all);
    }

pub index_mut-requires : goal.index_mut-requires
index_mut-requires c =
    let reps = c.args.source.now.reps.now in
    let numbers = (particles_from c.args.source.now c.args.elements.now c.args.groups.now (length c.args.parts.now.particles.parts) c.back.place (drop c.back.place reps)).numbers in
    omega (arith, c.back-test.true, c.as_slice.ensures.len, ap length c.as_slice.ensures.value, ap length c.back.invariant.ids, padded_long c.back.place numbers)

pub back-preserved : goal.back-preserved
back-preserved c =
    let source = c.args.source.now in
    let elements = c.args.elements.now in
    let groups = c.args.groups.now in
    let old = c.args.parts.now in
    let reps = source.reps.now in
    let before = length old.particles.parts in
    let place = c.back.place - 1 in
    let rep = get_or reps place c.index-source-place.result in
    let is = ap (λ (d : Representation). get_or reps place d) c.index-source-place.is in
    let ids = c.back.ids.items in
    let next : c.back.place ≡ suc place = omega (arith, c.back-test.true) in
    let within : place < length reps = omega (arith, c.back.invariant.within, next) in
    let behind = particles_from source elements groups before (suc place) (drop (suc place) reps) in
    let same : ids ≡ padded (suc place) behind.numbers = c.back.invariant.ids ∙ ap (λ (n : ℕ). padded n (particles_from source elements groups before n (drop n reps)).numbers) next in
    let parts : c.back.parts ≡ record old { particles = with_parts old.particles behind.parts } =
    c.back.invariant.parts ∙ ap (λ (n : ℕ). record old { particles = with_parts old.particles (particles_from source elements groups before n (drop n reps)).parts }) next in
    let total = length c.back.parts.particles.parts in
    let count : total ≡ before + length behind.parts = ap (λ (p : Tables). length p.particles.parts) parts ∙ length-append old.particles.parts behind.parts in
    let after = next_is source elements groups before reps place rep within is in
    let given = c.in_ok-id.ensures.number ∙ ap (λ (all : List (Option ℕ)). number_of (particles_of source elements groups all place rep) total) c.as_slice.ensures.value in
    record {
      within = omega (arith, within);
      ids = next_numbers source elements groups before ids c.in_ok-id.id total place rep behind same given count ∙ ap (λ (p : Particles). padded place p.numbers) (sym after);
      parts = c.in_ok-id.ensures.parts
          ∙ ap (λ (p : Tables). record p { particles = with_parts p.particles (particles_of source elements groups c.as_slice.result.now place rep) }) parts
          ∙ ap (λ (all : List (Option ℕ)). record old { particles = with_parts (with_parts old.particles behind.parts) (particles_of source elements groups all place rep) }) c.as_slice.ensures.value
          ∙ ap (λ (table : TableOf Particle). record old { particles = table })
          (next_parts source elements groups before old.particles ids place rep behind same ∙ ap (λ (p : Particles). with_parts old.particles p.parts) (sym after));
    }
