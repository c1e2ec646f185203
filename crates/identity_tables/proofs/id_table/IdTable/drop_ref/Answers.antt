use Rattle.std.proofs.Common.{◌-◌, sym, ap, refl, arith, Some}
use Rattle.std.specs.Str.{bytes_eq}
use Rattle.std.specs.String.{string_bytes}
use Rattle.std.proofs.lemmas.Map.Text.{hash_map_updates_text}
use Rattle.identity_tables.specs.declared.id_table.Uses.{Uses}
use Rattle.identity_tables.specs.IdTable.{references_of}
use Rattle.identity_tables.proofs.Census.{census_references, missing-le-all, weight-le, references_weight, less_reference, less_reference_then}
use Rattle.identity_tables.proofs.id_table.IdTable.drop_ref.Goals as goal

pub overflow_sub-uses : goal.overflow_sub-uses
overflow_sub-uses c =
    let some = rw (← c.self.view_is) at c.requires in
    let found = ap references_of c.in-Some.ensures.value in
    omega arith

pub overflow_sub-self : goal.overflow_sub-self
overflow_sub-self c =
    let some = rw (← c.self.view_is) at c.requires in
    let found = ap references_of c.in-Some.ensures.value in
    let all = c.self.invariant.references_are in
    let le = weight-le references_weight (λ k. bytes_eq c.args.id.now (string_bytes k)) c.self.inside.ids.entries c.in-Some.uses.now (sym c.in-Some.ensures.value) in
    omega arith

pub overflow_add-self : goal.overflow_add-self
overflow_add-self c =
    let u = c.in-Some.uses.now in
    let f = c.self.inside in
    let w : Uses = record { bearers = u.bearers; references = u.references - 1 } in
    let some = rw (← c.self.view_is) at c.requires in
    let found = ap references_of c.in-Some.ensures.value in
    let all = c.self.invariant.references_are in
    let few = weight-le references_weight (λ k. bytes_eq c.args.id.now (string_bytes k)) f.ids.entries u (sym c.in-Some.ensures.value) in
    let t = census_references f.ids _ (λ k. bytes_eq c.args.id.now (string_bytes k)) u (u.references - 1) f.references f.missing f.shared (f.references - 1) c.missing.result c.missing-2.result (sym c.in-Some.ensures.value) (c.get_mut.follows.holds w) (omega arith) c.missing.ensures c.missing-2.ensures c.self.invariant in
    let le = missing-le-all _ _ _ _ t in
    omega arith

pub invariant_of-self : goal.invariant_of-self
invariant_of-self c = rw c.get_mut.follows.holds-at-none c.self.invariant

pub invariant_of-self-2 : goal.invariant_of-self-2
invariant_of-self-2 c =
    let u = c.in-Some.uses.now in
    let f = c.self.inside in
    let w : Uses = record { bearers = u.bearers; references = u.references - 1 } in
    let some = rw (← c.self.view_is) at c.requires in
    let found = ap references_of c.in-Some.ensures.value in
    let all = c.self.invariant.references_are in
    let few = weight-le references_weight (λ k. bytes_eq c.args.id.now (string_bytes k)) f.ids.entries u (sym c.in-Some.ensures.value) in
    census_references f.ids _ (λ k. bytes_eq c.args.id.now (string_bytes k)) u (u.references - 1) f.references f.missing f.shared (f.references - 1) c.missing.result c.missing-2.result (sym c.in-Some.ensures.value) (c.get_mut.follows.holds w) (omega arith) c.missing.ensures c.missing-2.ensures c.self.invariant

pub returns : goal.returns
returns c =
    let u = c.in-Some.uses.now in
    let f = c.self.inside in
    let w : Uses = record { bearers = u.bearers; references = u.references - 1 } in
    let mid = c.get_mut.follows.lender w in
    let found = sym c.in-Some.ensures.value in
    let updates = (c.get_mut.follows.holds w).3 (rw found refl) in
    let some = rw (← c.self.view_is) at c.requires in
    let one = ap references_of c.in-Some.ensures.value in
    let less = less_reference f.ids.entries mid.entries c.args.id.now (Some u) (Some w) found (hash_map_updates_text c.args.id.now f.ids mid (Some w) updates) refl (omega arith) in
    rw (← c.self.view_is) (less_reference_then f.ids.entries mid.entries c.forget_unused.new.self c.args.id.now less c.forget_unused.ensures)

pub returns-in_default : goal.returns-in_default
returns-in_default c =
    let some = rw (← c.self.view_is) at c.requires in
    let none = ap references_of c.in_default.ensures.value in
    absurd (omega arith)
