use Rattle.std.proofs.Common.{sym, ◌∙◌, ◌≡◌, ap, true, false, true≢false, ◌&&◌, arith}
use Rattle.std.specs.Str.{chars}
use Rattle.xs_names.specs.Characters.{is_ncname}
use Rattle.xs_names.proofs.QNameLaws.{Cut, Cut-parts, qname-cut, IsNoQName-uncut, IsNoQName-cut, list_any-NoCharPasses}
use Rattle.xs_names.proofs.qname.split_qname.Goals as goal
use Rattle.xs_names.proofs.qname.split_qname.Goals.{else-is_ncname-2-via-then-is_ncname-2+else-is_ncname-3, else-is_ncname-2-via-else-is_ncname-2}

pub returns-else-is_ncname-clause-parts : goal.returns-else-is_ncname-clause-parts
returns-else-is_ncname-clause-parts c =
    IsNoQName-uncut (chars c.args.text.now) (list_any-NoCharPasses c.args.text.now c.utf8.text c.in-None.ensures.cases) (sym c.is_ncname.ensures ∙ c.if-is_ncname.false)

pub returns-then-is_ncname-3-clause-parts : goal.returns-then-is_ncname-3-clause-parts
returns-then-is_ncname-3-clause-parts c =
    let h = c.in-Some.ensures.cases in
    let cut : Cut c.args.text.now c.in-Some.prefix.now c.in-Some.local.now = Cut-parts _ _ _ h.0 h.1 c.utf8.text h.2.0 h.2.1 h.3 h.4 h.7 in
    (cut.characters, sym c.is_ncname-in-Some.ensures ∙ c.if-is_ncname-2.true, sym c.is_ncname-then-is_ncname-2.ensures ∙ c.if-is_ncname-3.true)

pub returns-else-is_ncname-2-clause-parts : goal.returns-else-is_ncname-2-clause-parts
returns-else-is_ncname-2-clause-parts c =
    let h = c.in-Some.ensures.cases in
    let cut : Cut c.args.text.now c.in-Some.prefix.now c.in-Some.local.now = Cut-parts _ _ _ h.0 h.1 c.utf8.text h.2.0 h.2.1 h.3 h.4 h.7 in
    let bad : is_ncname (chars c.in-Some.prefix.now) ≡ true → is_ncname (chars c.in-Some.local.now) ≡ false =
    elim c.else-is_ncname-2.branch [
      | else-is_ncname-2-via-then-is_ncname-2+else-is_ncname-3 w ↦ λ _. sym w.is_ncname-then-is_ncname-2.ensures ∙ w.if-is_ncname-3.false
      | else-is_ncname-2-via-else-is_ncname-2 w ↦ λ good. absurd (true≢false (sym good ∙ sym c.is_ncname-in-Some.ensures ∙ w.if-is_ncname-2.false))
    ] in
    IsNoQName-cut _ _ _ cut.characters cut.no_colon bad

pub returns-then-is_ncname-3-clause-value : goal.returns-then-is_ncname-3-clause-value
returns-then-is_ncname-3-clause-value c =
    let h = c.in-Some.ensures.cases in
    let parts = c.in-Some.ensures.byte (omega arith) (λ w o k. k) in
    let cut : Cut c.args.text.now c.in-Some.prefix.now c.in-Some.local.now = Cut-parts _ _ _ h.0 h.1 c.utf8.text h.2.0 h.2.1 h.3 h.4 h.7 in
    let good : is_ncname (chars c.in-Some.prefix.now) ≡ true = sym c.is_ncname-in-Some.ensures ∙ c.if-is_ncname-2.true in
    let both : is_ncname (chars c.in-Some.prefix.now) && is_ncname (chars c.in-Some.local.now) ≡ true =
    ap (λ b. b && is_ncname (chars c.in-Some.local.now)) good ∙ sym c.is_ncname-then-is_ncname-2.ensures ∙ c.if-is_ncname-3.true in
    sym (qname-cut _ _ _ cut parts.0 parts.1 true both)

pub returns-else-is_ncname-2-clause-value : goal.returns-else-is_ncname-2-clause-value
returns-else-is_ncname-2-clause-value c =
    let h = c.in-Some.ensures.cases in
    let parts = c.in-Some.ensures.byte (omega arith) (λ w o k. k) in
    let cut : Cut c.args.text.now c.in-Some.prefix.now c.in-Some.local.now = Cut-parts _ _ _ h.0 h.1 c.utf8.text h.2.0 h.2.1 h.3 h.4 h.7 in
    let some_bad : is_ncname (chars c.in-Some.prefix.now) && is_ncname (chars c.in-Some.local.now) ≡ false =
    elim c.else-is_ncname-2.branch [
      | else-is_ncname-2-via-then-is_ncname-2+else-is_ncname-3 w ↦
          ap (λ b. b && is_ncname (chars c.in-Some.local.now)) (sym c.is_ncname-in-Some.ensures ∙ w.if-is_ncname-2.true) ∙ sym w.is_ncname-then-is_ncname-2.ensures ∙ w.if-is_ncname-3.false
      | else-is_ncname-2-via-else-is_ncname-2 w ↦ ap (λ b. b && is_ncname (chars c.in-Some.local.now)) (sym c.is_ncname-in-Some.ensures ∙ w.if-is_ncname-2.false)
    ] in
    sym (qname-cut _ _ _ cut parts.0 parts.1 false some_bad)
