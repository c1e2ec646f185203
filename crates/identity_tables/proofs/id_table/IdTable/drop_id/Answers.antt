use Rattle.std.proofs.Common.{sym, ap, refl, arith, Some, nat_eq}
use Rattle.std.specs.Str.{bytes_eq}
use Rattle.std.specs.String.{string_bytes}
use Rattle.std.proofs.lemmas.Map.Text.{hash_map_updates_text}
use Rattle.identity_tables.specs.declared.id_table.Uses.{Uses}
use Rattle.identity_tables.specs.Counts.{count_of}
use Rattle.identity_tables.specs.IdTable.{bearers_of}
use Rattle.identity_tables.proofs.Census.{census_bearers, missing-le-all, shared-le, less_id, less_id_then}
use Rattle.identity_tables.proofs.id_table.IdTable.drop_id.Goals as goal

pub drop_one-requires : goal.drop_one-requires
drop_one-requires c =
    let some = rw (← c.self.view_is) at c.requires in
    let found = ap (λ o. count_of nat_eq (bearers_of o) c.args.bearer) c.in-Some.ensures.value in
    omega arith

pub overflow_add-self : goal.overflow_add-self
overflow_add-self c =
    let u = c.in-Some.uses.now in
    let f = c.self.inside in
    let w : Uses = record { bearers = c.drop_one.new.self; references = u.references } in
    let t = census_bearers f.ids _ (λ k. bytes_eq c.args.id.now (string_bytes k)) u c.drop_one.new.self f.references f.missing f.shared c.missing.result c.missing-2.result c.shared.result _ (sym c.in-Some.ensures.value) (c.get_mut.follows.holds w) c.drop_one.ensures.sound c.missing.ensures c.missing-2.ensures c.shared.ensures refl c.self.invariant in
    let le = missing-le-all _ _ _ _ t in
    omega arith

pub overflow_add-self-2 : goal.overflow_add-self-2
overflow_add-self-2 c =
    let le = shared-le c.drop_one.new.self c.in-Some.uses.now.bearers c.args.bearer c.in-Some.uses.now.references c.drop_one.ensures.sound c.drop_one.ensures.one_less in
    let was = c.shared.ensures in
    let is = c.shared-2.ensures in
    omega arith

pub invariant_of-self : goal.invariant_of-self
invariant_of-self c = rw c.get_mut.follows.holds-at-none c.self.invariant

pub invariant_of-self-2 : goal.invariant_of-self-2
invariant_of-self-2 c =
    let u = c.in-Some.uses.now in
    let f = c.self.inside in
    let w : Uses = record { bearers = c.drop_one.new.self; references = u.references } in
    census_bearers f.ids _ (λ k. bytes_eq c.args.id.now (string_bytes k)) u c.drop_one.new.self f.references f.missing f.shared c.missing.result c.missing-2.result c.shared.result c.shared-2.result (sym c.in-Some.ensures.value) (c.get_mut.follows.holds w) c.drop_one.ensures.sound c.missing.ensures c.missing-2.ensures c.shared.ensures c.shared-2.ensures c.self.invariant

pub returns : goal.returns
returns c =
    let u = c.in-Some.uses.now in
    let f = c.self.inside in
    let w : Uses = record { bearers = c.drop_one.new.self; references = u.references } in
    let mid = c.get_mut.follows.lender w in
    let found = sym c.in-Some.ensures.value in
    let updates = (c.get_mut.follows.holds w).3 (rw found refl) in
    let less = less_id f.ids.entries mid.entries c.args.id.now (Some u) (Some w) found (hash_map_updates_text c.args.id.now f.ids mid (Some w) updates) c.args.bearer c.drop_one.ensures.one_less refl in
    rw (← c.self.view_is) (less_id_then f.ids.entries mid.entries c.forget_unused.new.self c.args.id.now c.args.bearer less c.forget_unused.ensures)

pub returns-in_default : goal.returns-in_default
returns-in_default c =
    let some = rw (← c.self.view_is) at c.requires in
    let none = ap (λ o. count_of nat_eq (bearers_of o) c.args.bearer) c.in_default.ensures.value in
    absurd (omega arith)
