use Rattle.std.proofs.Common.{sym, ◌∙◌, ap, refl, rules, arith, Some, None}
use Rattle.std.specs.Map.{set_value}
use Rattle.std.proofs.lemmas.Map.Steps.{set_value_same}
use Rattle.std.proofs.lemmas.Map.Text.{hash_map_updates_text}
use Rattle.std.specs.Str.{bytes_eq}
use Rattle.std.specs.String.{string_bytes}
use Rattle.std.specs.declared.string.String.{String}
use Rattle.std.specs.declared.alloc.Global.{Global}
use Rattle.identity_tables.specs.declared.id_table.Uses.{Uses}
use Rattle.identity_tables.proofs.Census.{census_bearers, census_added, missing-le-all, more_id, no_reference, one_bearer, absent_key}
use Rattle.identity_tables.proofs.id_table.IdTable.add_id.Goals as goal

pub invariant_of-self : goal.invariant_of-self
invariant_of-self c =
    let u = c.in-Some.uses.now in
    let w : Uses = record { bearers = c.add.new.self; references = u.references } in
    let test = λ (k : String Global). bytes_eq c.args.id.now (string_bytes k) in
    let same = (c.get_mut.follows.holds w).0 ∙ ap (λ b. set_value test c.self.inside.ids.entries (record { bearers = b; references = u.references })) c.in_err-add.ensures.err ∙ set_value_same test c.self.inside.ids.entries u (sym c.in-Some.ensures.value) in
    rw same c.self.invariant

pub returns-in_err-add-clause-err : goal.returns-in_err-add-clause-err
returns-in_err-add-clause-err c =
    let u = c.in-Some.uses.now in
    let w : Uses = record { bearers = c.add.new.self; references = u.references } in
    let test = λ (k : String Global). bytes_eq c.args.id.now (string_bytes k) in
    let same = (c.get_mut.follows.holds w).0 ∙ ap (λ b. set_value test c.self.inside.ids.entries (record { bearers = b; references = u.references })) c.in_err-add.ensures.err ∙ set_value_same test c.self.inside.ids.entries u (sym c.in-Some.ensures.value) in
    rw (same, c.self.view_is) (search rules)

pub overflow_add-self : goal.overflow_add-self
overflow_add-self c =
    let u = c.in-Some.uses.now in
    let f = c.self.inside in
    let w : Uses = record { bearers = c.add.new.self; references = u.references } in
    let t = census_bearers f.ids _ (λ k. bytes_eq c.args.id.now (string_bytes k)) u c.add.new.self f.references f.missing f.shared c.missing.result c.missing-in-Some.result c.shared.result _ (sym c.in-Some.ensures.value) (c.get_mut.follows.holds w) c.in_ok-add.ensures.sound c.missing.ensures c.missing-in-Some.ensures c.shared.ensures refl c.self.invariant in
    let le = missing-le-all _ _ _ _ t in
    omega arith

pub invariant_of-self-in-Some : goal.invariant_of-self-in-Some
invariant_of-self-in-Some c =
    let u = c.in-Some.uses.now in
    let f = c.self.inside in
    let w : Uses = record { bearers = c.add.new.self; references = u.references } in
    census_bearers f.ids _ (λ k. bytes_eq c.args.id.now (string_bytes k)) u c.add.new.self f.references f.missing f.shared c.missing.result c.missing-in-Some.result c.shared.result c.shared-in-Some.result (sym c.in-Some.ensures.value) (c.get_mut.follows.holds w) c.in_ok-add.ensures.sound c.missing.ensures c.missing-in-Some.ensures c.shared.ensures c.shared-in-Some.ensures c.self.invariant

pub returns-in-Some-clause-ok : goal.returns-in-Some-clause-ok
returns-in-Some-clause-ok c =
    let u = c.in-Some.uses.now in
    let f = c.self.inside in
    let w : Uses = record { bearers = c.add.new.self; references = u.references } in
    let found = sym c.in-Some.ensures.value in
    let updates = (c.get_mut.follows.holds w).3 (rw found refl) in
    rw (← c.self.view_is) (more_id f.ids.entries (c.get_mut.follows.lender w).entries c.args.id.now (Some u) (Some w) found (hash_map_updates_text c.args.id.now f.ids (c.get_mut.follows.lender w) (Some w) updates) c.args.bearer c.in_ok-add.ensures.ok refl)

pub invariant_of-self-2 : goal.invariant_of-self-2
invariant_of-self-2 c =
    let f = c.self.inside in
    let same = c.get_mut.follows.holds-at-none in
    let none = absent_key f.ids c.get_mut.follows.lender-at-none c.in_ok-from_str.field-0 c.args.id.now c.in_ok-from_str.ensures.ok same c.in_default.ensures.value in
    let w : Uses = record { bearers = c.add-2.new.self; references = c.new-uses.result.references } in
    let made = c.new-uses.ensures in
    let no_references = ap (λ (u : Uses). u.references) made in
    let more = rw (ap (λ (u : Uses). u.bearers) made) at c.in_ok-add-2.ensures.ok in
    let no_missing = no_reference c.add-2.new.self c.new-uses.result.references no_references in
    let no_shared = one_bearer c.add-2.new.self c.args.bearer c.new-uses.result.references c.in_ok-add-2.ensures.sound more in
    census_added c.get_mut.follows.lender-at-none c.insert.new.self c.in_ok-from_str.field-0 w f.references f.missing f.shared f.references f.missing f.shared c.in_ok-insert.field-0 c.in_ok-insert.ensures.old (c.in_ok-insert.ensures.old ∙ none) c.in_ok-insert.ensures.entries c.in_ok-insert.ensures.unique c.in_ok-add-2.ensures.sound (omega arith) (omega arith) (omega arith) (rw same c.self.invariant)

pub returns-clause-ok : goal.returns-clause-ok
returns-clause-ok c =
    let f = c.self.inside in
    let w : Uses = record { bearers = c.add-2.new.self; references = c.new-uses.result.references } in
    let made = c.new-uses.ensures in
    let more = rw (ap (λ (u : Uses). u.bearers) made) at c.in_ok-add-2.ensures.ok in
    let updates = rw c.get_mut.follows.holds-at-none at c.in_ok-insert.ensures.updates in
    let key = c.in_ok-from_str.ensures.ok in
    let changes = rw key at (hash_map_updates_text (string_bytes c.in_ok-from_str.field-0) f.ids c.insert.new.self (Some w) updates) in
    rw (← c.self.view_is) (more_id f.ids.entries c.insert.new.self.entries c.args.id.now None (Some w) (sym c.in_default.ensures.value) changes c.args.bearer more (ap (λ (u : Uses). u.references) made))
