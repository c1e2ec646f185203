use Rattle.std.proofs.Common.{◌+◌, sym, ◌∙◌, ap, refl, arith, Some, None}
use Rattle.std.specs.Str.{bytes_eq}
use Rattle.std.specs.String.{string_bytes}
use Rattle.std.proofs.lemmas.Map.Text.{hash_map_updates_text}
use Rattle.identity_tables.specs.declared.id_table.Uses.{Uses}
use Rattle.identity_tables.proofs.Census.{census_references, census_added, missing-le-all, weight-le, references_weight, more_reference, absent_key, no_counts, lone_reference}
use Rattle.identity_tables.proofs.id_table.IdTable.add_ref.Goals as goal

pub overflow_add-uses : goal.overflow_add-uses
overflow_add-uses c =
    let f = c.self.inside in
    let all = c.self.invariant.references_are in
    let few = weight-le references_weight (λ k. bytes_eq c.args.id.now (string_bytes k)) f.ids.entries c.in-Some.uses.now (sym c.in-Some.ensures.value) in
    let limit = c.if-self.false in
    omega arith

pub overflow_add-self-in-Some : goal.overflow_add-self-in-Some
overflow_add-self-in-Some c =
    let u = c.in-Some.uses.now in
    let f = c.self.inside in
    let w : Uses = record { bearers = u.bearers; references = u.references + 1 } in
    let t = census_references f.ids _ (λ k. bytes_eq c.args.id.now (string_bytes k)) u (u.references + 1) f.references f.missing f.shared (f.references + 1) c.missing.result c.missing-in-Some.result (sym c.in-Some.ensures.value) (c.get_mut.follows.holds w) (omega arith) c.missing.ensures c.missing-in-Some.ensures c.self.invariant in
    let le = missing-le-all _ _ _ _ t in
    let limit = c.if-self.false in
    omega arith

pub invariant_of-self : goal.invariant_of-self
invariant_of-self c =
    let u = c.in-Some.uses.now in
    let f = c.self.inside in
    let w : Uses = record { bearers = u.bearers; references = u.references + 1 } in
    census_references f.ids _ (λ k. bytes_eq c.args.id.now (string_bytes k)) u (u.references + 1) f.references f.missing f.shared (f.references + 1) c.missing.result c.missing-in-Some.result (sym c.in-Some.ensures.value) (c.get_mut.follows.holds w) (omega arith) c.missing.ensures c.missing-in-Some.ensures c.self.invariant

pub returns-in-Some-clause-ok : goal.returns-in-Some-clause-ok
returns-in-Some-clause-ok c =
    let u = c.in-Some.uses.now in
    let f = c.self.inside in
    let w : Uses = record { bearers = u.bearers; references = u.references + 1 } in
    let found = sym c.in-Some.ensures.value in
    let updates = (c.get_mut.follows.holds w).3 (rw found refl) in
    rw (← c.self.view_is) (more_reference f.ids.entries (c.get_mut.follows.lender w).entries c.args.id.now (Some u) (Some w) found (hash_map_updates_text c.args.id.now f.ids (c.get_mut.follows.lender w) (Some w) updates) refl refl)

pub overflow_add-self-3 : goal.overflow_add-self-3
overflow_add-self-3 c =
    let f = c.self.inside in
    let le = missing-le-all f.ids.entries f.references f.missing f.shared c.self.invariant in
    let limit = c.if-self.false in
    omega arith

pub invariant_of-self-2 : goal.invariant_of-self-2
invariant_of-self-2 c =
    let f = c.self.inside in
    let same = c.get_mut.follows.holds-at-none in
    let none = absent_key f.ids c.get_mut.follows.lender-at-none c.in_ok-from_str.field-0 c.args.id.now c.in_ok-from_str.ensures.ok same c.in_default.ensures.value in
    let bearers = ap (λ (u : Uses). u.bearers) c.new-uses.ensures in
    let w : Uses = record { bearers = c.new-uses.result.bearers; references = 1 } in
    let weights = lone_reference c.new-uses.result.bearers bearers in
    let is_missing = weights.0 in
    let is_shared = weights.1 in
    census_added c.get_mut.follows.lender-at-none c.insert.new.self c.in_ok-from_str.field-0 w f.references f.missing f.shared (f.references + 1) (f.missing + 1) f.shared c.in_ok-insert.field-0 c.in_ok-insert.ensures.old (c.in_ok-insert.ensures.old ∙ none) c.in_ok-insert.ensures.entries c.in_ok-insert.ensures.unique (rw bearers no_counts) refl (omega arith) (omega arith) (rw same c.self.invariant)

pub returns-clause-ok : goal.returns-clause-ok
returns-clause-ok c =
    let f = c.self.inside in
    let w : Uses = record { bearers = c.new-uses.result.bearers; references = 1 } in
    let bearers = ap (λ (u : Uses). u.bearers) c.new-uses.ensures in
    let updates = rw c.get_mut.follows.holds-at-none at c.in_ok-insert.ensures.updates in
    let key = c.in_ok-from_str.ensures.ok in
    let changes = rw key at (hash_map_updates_text (string_bytes c.in_ok-from_str.field-0) f.ids c.insert.new.self (Some w) updates) in
    rw (← c.self.view_is) (more_reference f.ids.entries c.insert.new.self.entries c.args.id.now None (Some w) (sym c.in_default.ensures.value) changes bearers refl)
