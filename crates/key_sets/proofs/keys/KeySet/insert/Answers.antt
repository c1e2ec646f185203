use Rattle.std.proofs.Common.{◌≡◌, ◌∷◌, [], Some, None, cond, not, position, length, arith, ap, sym, ◌∙◌}
use Rattle.std.specs.Map.{lookup}
use Rattle.std.proofs.lemmas.List.{length-append}
use Rattle.key_sets.proofs.Placing.{any-absent, any-present, with_key-old, with_key-new, places-more}
use Rattle.key_sets.proofs.keys.KeySet.insert.Goals as goal

pub returns-in-Some-clause-added : goal.returns-in-Some-clause-added
returns-in-Some-clause-added g c = ap not (sym (any-present (g.T.PartialEq.eq c.args.key) _ c.args.self.now (sym c.in-Some.ensures.index)))

pub returns-in-Some-clause-keys : goal.returns-in-Some-clause-keys
returns-in-Some-clause-keys g c = sym (with_key-old g.T.PartialEq.eq c.args.self.now c.args.key _ (sym c.in-Some.ensures.index))

pub returns-in-Ok-clause-added : goal.returns-in-Ok-clause-added
returns-in-Ok-clause-added g c = ap not (sym (any-absent (g.T.PartialEq.eq c.args.key) c.args.self.now (sym c.in_default.ensures.index)))

pub returns-in-Ok-clause-keys : goal.returns-in-Ok-clause-keys
returns-in-Ok-clause-keys g c =
    let keys = c.self.inside.keys.items in
    let absent : position (g.T.PartialEq.eq c.args.key) keys ≡ None = rw c.self.view_is (sym c.in_default.ensures.index) in
    rw (← c.self.view_is) (c.in_ok-push.ensures.items ∙ sym (with_key-new g.T.PartialEq.eq keys c.args.key absent))

pub invariant_of-self-in-Ok : goal.invariant_of-self-in-Ok
invariant_of-self-in-Ok g c =
    let eq = g.T.PartialEq.eq in
    let keys = c.self.inside.keys.items in
    let absent : position (eq c.args.key) keys ≡ None = rw c.self.view_is (sym c.in_default.ensures.index) in
    let place : c.len-place.result ≡ length keys = omega (arith, c.len-place.ensures, c.self.inside.keys.ok.0) in
    rw c.in_ok-push.ensures.items
    (places-more eq g.met.T.Eq.laws keys c.args.key c.self.inside.places.entries c.insert.new.self.entries absent
    (λ other. c.in-Ok.ensures.updates.0 other ∙ ap (λ n. cond (eq c.args.key other) (Some n) (lookup (eq other) c.self.inside.places.entries)) place) c.self.invariant)

pub returns-in-Ok-clause-len : goal.returns-in-Ok-clause-len
returns-in-Ok-clause-len g c = rw (← c.self.view_is) (ap length c.in_ok-push.ensures.items ∙ length-append c.self.inside.keys.items (c.args.key ∷ []))
