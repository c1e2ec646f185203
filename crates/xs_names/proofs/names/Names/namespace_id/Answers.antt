use Rattle.std.proofs.Common.{◌≡◌, refl, bytes_eq, length, Some, [], sym, ap, ◌∙◌, arith}
use Rattle.std.proofs.lemmas.Bool.{eqb-true}
use Rattle.std.proofs.lemmas.List.{nil_from_length}
use Rattle.xs_names.specs.Numbering.{number_of, with_item}
use Rattle.xs_names.specs.Names.{xml_name}
use Rattle.xs_names.proofs.AbsentLaws.{empty-number, empty-there}
use Rattle.xs_names.proofs.KeptLaws.{IsSound-IsKept, IsKept-space, first_number}
use Rattle.xs_names.proofs.GrownLaws.{Grown-refl, Grown-with_space, two_spaces}
use Rattle.std.proofs.lemmas.Slice.Eq.{bytes_eq-Decides}
use Rattle.xs_names.proofs.NumberingLaws.{within-number_of}
use Rattle.xs_names.proofs.names.Names.namespace_id.Goals as goal

pub returns-in_err-insert-clause-sound : goal.returns-in_err-insert-clause-sound
returns-in_err-insert-clause-sound c = IsSound-IsKept _ _ _ (rw c.in_err-insert.ensures.err c.self.invariant)

pub invariant_of-self-2 : goal.invariant_of-self-2
invariant_of-self-2 c = rw c.in_ok-insert.ensures.list (IsKept-space _ _ _ c.self.invariant c.args.name.now)

pub returns-clause-sound : goal.returns-clause-sound
returns-clause-sound c = IsSound-IsKept _ _ _ (rw c.in_ok-insert.ensures.list (IsKept-space _ _ _ c.self.invariant c.args.name.now))

pub returns-clause-grown : goal.returns-clause-grown
returns-clause-grown c = rw (← c.self.view_is, c.in_ok-insert.ensures.list) (Grown-with_space _ c.args.name.now)

pub returns-clause-absent : goal.returns-clause-absent
returns-clause-absent c =
    let kept = IsKept-space _ _ _ c.self.invariant c.args.name.now in
    let number : number_of bytes_eq (with_item bytes_eq c.self.inside.spaces c.args.name.now) c.args.name.now ≡ Some c.in_ok-insert.field-0 = rw (← c.in_ok-insert.ensures.list) c.in_ok-insert.ensures.number in
    first_number _ kept.begins kept.spaces_once c.args.name.now [] 0 c.in_ok-insert.field-0 refl number

pub returns-clause-xml : goal.returns-clause-xml
returns-clause-xml c =
    let kept = IsKept-space _ _ _ c.self.invariant c.args.name.now in
    let number : number_of bytes_eq (with_item bytes_eq c.self.inside.spaces c.args.name.now) c.args.name.now ≡ Some c.in_ok-insert.field-0 = rw (← c.in_ok-insert.ensures.list) c.in_ok-insert.ensures.number in
    first_number _ kept.begins kept.spaces_once c.args.name.now xml_name 1 c.in_ok-insert.field-0 refl number

pub returns-clause-within : goal.returns-clause-within
returns-clause-within c = within-number_of bytes_eq bytes_eq-Decides _ c.args.name.now c.in_ok-insert.field-0 c.in_ok-insert.ensures.number

pub returns-then-is_empty-clause-sound : goal.returns-then-is_empty-clause-sound
returns-then-is_empty-clause-sound c = IsSound-IsKept _ _ _ c.self.invariant

pub returns-then-is_empty-clause-number : goal.returns-then-is_empty-clause-number
returns-then-is_empty-clause-number c =
    let empty = nil_from_length c.args.name.now (eqb-true _ _ (sym c.is_empty.ensures ∙ c.if-is_empty.true)) in
    empty-number _ _ empty (returns-then-is_empty-clause-sound c)

pub returns-then-is_empty-clause-table : goal.returns-then-is_empty-clause-table
returns-then-is_empty-clause-table c =
    let empty = nil_from_length c.args.name.now (eqb-true _ _ (sym c.is_empty.ensures ∙ c.if-is_empty.true)) in
    rw (← c.self.view_is) (empty-there _ _ empty (returns-then-is_empty-clause-sound c))

pub returns-then-is_empty-clause-within : goal.returns-then-is_empty-clause-within
returns-then-is_empty-clause-within c = omega (arith, two_spaces _ (returns-then-is_empty-clause-sound c))

pub returns-then-is_empty-clause-absent : goal.returns-then-is_empty-clause-absent
returns-then-is_empty-clause-absent c =
    let empty = nil_from_length c.args.name.now (eqb-true _ _ (sym c.is_empty.ensures ∙ c.if-is_empty.true)) in
    ((λ e. empty), (λ e. refl))

pub returns-then-is_empty-clause-xml : goal.returns-then-is_empty-clause-xml
returns-then-is_empty-clause-xml c =
    let empty = nil_from_length c.args.name.now (eqb-true _ _ (sym c.is_empty.ensures ∙ c.if-is_empty.true)) in
    ((λ e. absurd (omega (arith, e))), (λ e. absurd (omega (arith, ap length (sym empty ∙ e)))))

pub returns-then-is_empty-clause-grown : goal.returns-then-is_empty-clause-grown
returns-then-is_empty-clause-grown c = rw (← c.self.view_is) (Grown-refl _)
