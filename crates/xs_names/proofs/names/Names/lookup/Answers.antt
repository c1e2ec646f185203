use Rattle.std.proofs.Common.{◌≡◌, sym, subst, Some, None}
use Rattle.xs_names.specs.Numbering.{number_of, same_pair}
use Rattle.std.proofs.lemmas.Option.{slice_get_within}
use Rattle.xs_names.proofs.KeptLaws.{IsSound-IsKept, unknown_local, unknown_pair, name_at, number-known, number-unknown_local, number-unknown_pair}
use Rattle.xs_names.proofs.names.Names.lookup.Goals as goal

pub returns-in_err-local-clause-sound : goal.returns-in_err-local-clause-sound
returns-in_err-local-clause-sound c = rw (← c.self.view_is) (IsSound-IsKept _ _ _ c.self.invariant)

pub returns-in_err-number-clause-sound : goal.returns-in_err-number-clause-sound
returns-in_err-number-clause-sound c = rw (← c.self.view_is) (IsSound-IsKept _ _ _ c.self.invariant)

pub returns-clause-sound : goal.returns-clause-sound
returns-clause-sound c = rw (← c.self.view_is) (IsSound-IsKept _ _ _ c.self.invariant)

pub returns-in_err-local-clause-value : goal.returns-in_err-local-clause-value
returns-in_err-local-clause-value c =
    rw (c.from_residual.ensures, ← c.self.view_is) (sym (number-unknown_local _ _ _ c.self.invariant c.args.ns c.args.local.now (sym c.in_err-local.ensures)))

pub returns-in_err-number-clause-value : goal.returns-in_err-number-clause-value
returns-in_err-number-clause-value c =
    rw (c.from_residual-in_err-number.ensures, ← c.self.view_is)
    (sym (number-unknown_pair _ _ _ c.self.invariant c.args.ns c.args.local.now c.in_ok-local.local (sym c.in_ok-local.ensures) (subst (λ n. number_of same_pair c.self.inside.pairs (n, c.in_ok-local.local) ≡ None) c.ns.view_is (sym c.in_err-number.ensures))))

pub returns-clause-value : goal.returns-clause-value
returns-clause-value c =
    rw (← c.self.view_is)
    (sym (number-known _ _ _ c.self.invariant c.args.ns c.args.local.now c.in_ok-local.local c.in_ok-number.number (sym c.in_ok-local.ensures) (subst (λ n. number_of same_pair c.self.inside.pairs (n, c.in_ok-local.local) ≡ Some c.in_ok-number.number) c.ns.view_is (sym c.in_ok-number.ensures))))

pub returns-in_err-local-clause-absent : goal.returns-in_err-local-clause-absent
returns-in_err-local-clause-absent c =
    rw (c.from_residual.ensures, ← c.self.view_is) (unknown_local _ _ _ c.self.invariant c.args.ns c.args.local.now (sym c.in_err-local.ensures))

pub returns-in_err-number-clause-absent : goal.returns-in_err-number-clause-absent
returns-in_err-number-clause-absent c =
    rw (c.from_residual-in_err-number.ensures, ← c.self.view_is)
    (unknown_pair _ _ _ c.self.invariant c.args.ns c.args.local.now c.in_ok-local.local (sym c.in_ok-local.ensures) (subst (λ n. number_of same_pair c.self.inside.pairs (n, c.in_ok-local.local) ≡ None) c.ns.view_is (sym c.in_err-number.ensures)))

pub returns-clause-found : goal.returns-clause-found
returns-clause-found c =
    rw (← c.self.view_is)
    (name_at c.self.inside.spaces _ _ c.args.ns c.args.local.now c.in_ok-local.local c.in_ok-number.number (sym c.in_ok-local.ensures) (subst (λ n. number_of same_pair c.self.inside.pairs (n, c.in_ok-local.local) ≡ Some c.in_ok-number.number) c.ns.view_is (sym c.in_ok-number.ensures)))

pub returns-clause-within : goal.returns-clause-within
returns-clause-within c =
    rw (← c.self.view_is)
    (slice_get_within _ c.in_ok-number.number (c.args.ns, c.args.local.now) (name_at c.self.inside.spaces _ _ c.args.ns c.args.local.now c.in_ok-local.local c.in_ok-number.number (sym c.in_ok-local.ensures) (subst (λ n. number_of same_pair c.self.inside.pairs (n, c.in_ok-local.local) ≡ Some c.in_ok-number.number) c.ns.view_is (sym c.in_ok-number.ensures))))
