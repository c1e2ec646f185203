use Rattle.std.proofs.Common.{◌≡◌, ◌<◌, ◌-◌, suc, length, refl, ◌∙◌, arith}
use Rattle.forest_keys.proofs.Naming.{all_named}
use Rattle.forest_keys.proofs.Spreading.{codes-at, codes-long}
use Rattle.forest_keys.proofs.Stepping.{as_many, begun, more_coded, all_coded}
use Rattle.forest_keys.proofs.joining.join_identity.Goals as goal

pub forest_codes-requires-clause-named : goal.forest_codes-requires-clause-named
forest_codes-requires-clause-named c = all_named c.args.set.now.names.now c.args.entries.now c.requires.named

pub loop-place-init : goal.loop-place-init
loop-place-init c =
    let set = c.args.set.now in record {
      within = omega arith;
      so_far = begun set.names.now set.parts.now set.identities.now (length c.args.entries.now) c.args.entries.now refl;
    }

pub index-requires : goal.index-requires
index-requires c =
    let set = c.args.set.now in
    let long = codes-long set.names.now set.parts.now set.identities.now c.requires.whole.0 c.args.entries.now c.in_ok-codes.codes.items c.requires.whole.1 c.in_ok-codes.ensures in
    omega arith

pub join_at-requires-clause-place : goal.join_at-requires-clause-place
join_at-requires-clause-place c =
    let set = c.args.set.now in
    let l = c.loop-place in
    let size = as_many set.names.now set.parts.now set.identities.now l.place c.args.entries.now l.entries l.invariant.so_far in
    omega arith

pub join_at-requires-clause-codes : goal.join_at-requires-clause-codes
join_at-requires-clause-codes c =
    let set = c.args.set.now in
    let l = c.loop-place in
    let within : l.place - 1 < length c.args.entries.now = omega arith in
    c.as_slice.ensures
    ∙ codes-at set.names.now set.parts.now set.identities.now c.requires.whole.0 c.args.entries.now l.entries c.in_ok-codes.codes.items (l.place - 1) l.place c.index.result.now c.requires.whole.1 c.in_ok-codes.ensures within c.index.ensures
    l.invariant.so_far

pub loop-place-preserved : goal.loop-place-preserved
loop-place-preserved c =
    let set = c.args.set.now in
    let l = c.loop-place in
    let before : l.place ≡ suc (l.place - 1) = omega arith in record {
      within = omega arith;
      so_far = more_coded set.names.now set.parts.now set.identities.now l.place (l.place - 1) c.args.entries.now l.entries c.join_at.new.entries before l.invariant.so_far c.in_ok-join_at.ensures;
    }

pub returns : goal.returns
returns c =
    let set = c.args.set.now in
    let l = c.loop-place in
    all_coded set.names.now set.parts.now set.identities.now l.place c.args.entries.now l.entries (omega arith) l.invariant.so_far
