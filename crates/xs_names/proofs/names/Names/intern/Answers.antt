use Rattle.std.proofs.Common.{◌≡◌, Some, ◌<◌, length, map, sym, subst, Result, Ok, Err}
use Rattle.std.specs.Result.{OnErr}
use Rattle.xs_names.specs.Names.{Grown, name_in, same_name}
use Rattle.xs_names.specs.Numbering.{number_of, with_item, same_pair}
use Rattle.xs_names.proofs.KeptLaws.{IsSound-IsKept, IsKept-more, shown-more, IsKept-after, shown-after, number-after}
use Rattle.xs_names.proofs.GrownLaws.{Grown-refl, Grown-with_name}
use Rattle.xs_names.proofs.NumberingLaws.{same_name-Decides, within-number_of}
use Rattle.xs_names.proofs.names.Names.intern.Goals as goal

on_err : {T E P : Type 0} (r : Result T E) → P → OnErr r P
on_err (Ok x) p = tt
on_err (Err e) p = p

pub returns-in_err-local-clause-sound : goal.returns-in_err-local-clause-sound
returns-in_err-local-clause-sound c = IsSound-IsKept _ _ _ (rw c.in_err-local.ensures.err c.self.invariant)

pub invariant_of-self-in_err-number : goal.invariant_of-self-in_err-number
invariant_of-self-in_err-number c =
    rw c.in_err-number.ensures.err (IsKept-more _ _ _ _ c.self.invariant c.args.local.now c.in_ok-local.ensures.list)

pub returns-in_err-number-clause-sound : goal.returns-in_err-number-clause-sound
returns-in_err-number-clause-sound c =
    IsSound-IsKept _ _ _ (rw c.in_err-number.ensures.err (IsKept-more _ _ _ _ c.self.invariant c.args.local.now c.in_ok-local.ensures.list))

pub returns-in_err-number-clause-err : goal.returns-in_err-number-clause-err
returns-in_err-number-clause-err c =
    let names = shown-more _ _ _ _ c.self.invariant c.args.local.now c.in_ok-local.ensures.list in
    on_err c.from_residual-in_err-number.result (rw (c.in_err-number.ensures.err, ← c.self.view_is) (λ i. record { spaces = c.self.inside.spaces; names = names i }))

pub returns-in_err-number-clause-grown : goal.returns-in_err-number-clause-grown
returns-in_err-number-clause-grown c =
    let names = shown-more _ _ _ _ c.self.invariant c.args.local.now c.in_ok-local.ensures.list in
    rw (c.in_err-number.ensures.err, ← c.self.view_is)
    (subst (λ ns. Grown (record { spaces = c.self.inside.spaces; names = map (name_in c.self.inside.locals) c.self.inside.pairs }) (record { spaces = c.self.inside.spaces; names = ns })) (sym names) (Grown-refl _))

pub invariant_of-self-2 : goal.invariant_of-self-2
invariant_of-self-2 c =
    let inside : c.args.ns < length c.self.inside.spaces = subst (λ t. c.args.ns < length t.spaces) (sym c.self.view_is) c.requires in
    IsKept-after _ _ _ _ c.self.invariant c.args.local.now c.in_ok-local.ensures.list c.args.ns c.in_ok-local.local c.in_ok-local.ensures.number _ (subst (λ n. c.insert-2.new.self ≡ with_item same_pair c.self.inside.pairs (n, c.in_ok-local.local)) c.ns.view_is c.in_ok-number.ensures.list) inside

pub returns-clause-sound : goal.returns-clause-sound
returns-clause-sound c =
    let inside : c.args.ns < length c.self.inside.spaces = subst (λ t. c.args.ns < length t.spaces) (sym c.self.view_is) c.requires in
    IsSound-IsKept _ _ _
    (IsKept-after _ _ _ _ c.self.invariant c.args.local.now c.in_ok-local.ensures.list c.args.ns c.in_ok-local.local c.in_ok-local.ensures.number _ (subst (λ n. c.insert-2.new.self ≡ with_item same_pair c.self.inside.pairs (n, c.in_ok-local.local)) c.ns.view_is c.in_ok-number.ensures.list) inside)

pub returns-clause-number : goal.returns-clause-number
returns-clause-number c =
    let inside : c.args.ns < length c.self.inside.spaces = subst (λ t. c.args.ns < length t.spaces) (sym c.self.view_is) c.requires in
    number-after _ _ _ _ c.self.invariant c.args.local.now c.in_ok-local.ensures.list c.args.ns c.in_ok-local.local c.in_ok-local.ensures.number _ (subst (λ n. c.insert-2.new.self ≡ with_item same_pair c.self.inside.pairs (n, c.in_ok-local.local)) c.ns.view_is c.in_ok-number.ensures.list) inside
    c.in_ok-number.number (subst (λ n. number_of same_pair c.insert-2.new.self (n, c.in_ok-local.local) ≡ Some c.in_ok-number.number) c.ns.view_is c.in_ok-number.ensures.number)

pub returns-clause-table : goal.returns-clause-table
returns-clause-table c =
    let inside : c.args.ns < length c.self.inside.spaces = subst (λ t. c.args.ns < length t.spaces) (sym c.self.view_is) c.requires in
    let names = shown-after _ _ _ _ c.self.invariant c.args.local.now c.in_ok-local.ensures.list c.args.ns c.in_ok-local.local c.in_ok-local.ensures.number _ (subst (λ n. c.insert-2.new.self ≡ with_item same_pair c.self.inside.pairs (n, c.in_ok-local.local)) c.ns.view_is c.in_ok-number.ensures.list) inside in
    rw (← c.self.view_is) (λ i. record { spaces = c.self.inside.spaces; names = names i })

pub returns-clause-grown : goal.returns-clause-grown
returns-clause-grown c =
    let inside : c.args.ns < length c.self.inside.spaces = subst (λ t. c.args.ns < length t.spaces) (sym c.self.view_is) c.requires in
    let names = shown-after _ _ _ _ c.self.invariant c.args.local.now c.in_ok-local.ensures.list c.args.ns c.in_ok-local.local c.in_ok-local.ensures.number _ (subst (λ n. c.insert-2.new.self ≡ with_item same_pair c.self.inside.pairs (n, c.in_ok-local.local)) c.ns.view_is c.in_ok-number.ensures.list) inside in
    rw (← c.self.view_is)
    (subst (λ ns. Grown (record { spaces = c.self.inside.spaces; names = map (name_in c.self.inside.locals) c.self.inside.pairs }) (record { spaces = c.self.inside.spaces; names = ns })) (sym names) (Grown-with_name _ c.args.ns c.args.local.now))

pub returns-clause-within : goal.returns-clause-within
returns-clause-within c =
    let inside : c.args.ns < length c.self.inside.spaces = subst (λ t. c.args.ns < length t.spaces) (sym c.self.view_is) c.requires in
    within-number_of same_name same_name-Decides _ (c.args.ns, c.args.local.now) c.in_ok-number.number
    (number-after _ _ _ _ c.self.invariant c.args.local.now c.in_ok-local.ensures.list c.args.ns c.in_ok-local.local c.in_ok-local.ensures.number _ (subst (λ n. c.insert-2.new.self ≡ with_item same_pair c.self.inside.pairs (n, c.in_ok-local.local)) c.ns.view_is c.in_ok-number.ensures.list) inside
    c.in_ok-number.number (subst (λ n. number_of same_pair c.insert-2.new.self (n, c.in_ok-local.local) ≡ Some c.in_ok-number.number) c.ns.view_is c.in_ok-number.ensures.number))
