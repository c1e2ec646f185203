use Rattle.std.proofs.Common.{ℕ, Result, Ok, Err, sym, subst}
use Rattle.std.specs.Prelude.{IfOk, OnOk}
use Rattle.std.specs.HashMap.{get}
use Rattle.std.proofs.lemmas.Result.{IfOk-weaker}
use Rattle.element_declarations.specs.Classes.{IsClassOf}
use Rattle.element_declarations.specs.contracts.properties.PropertiesPartialEq.TheImpl as properties
use Rattle.element_declarations.specs.inside.Firsts.{Notes}
use Rattle.element_declarations.specs.inside.Keys.{IsKeyOf}
use Rattle.element_declarations.proofs.ClassLaws.{class-alone, noted-alone, class-is, noted-more}
use Rattle.element_declarations.proofs.firsts.class_of.Goals as goal

on-ok : {E : Type 0} (P : ℕ → Type 0) (Q : Type 0) (r : Result ℕ E) → ((n : ℕ) → P n → Q) → IfOk r P → OnOk r Q
on-ok P Q (Ok n) so p = so n p
on-ok P Q (Err e) so p = tt

pub returns-in-None-clause-class : goal.returns-in-None-clause-class
returns-in-None-clause-class c =
    let t = c.args.set.now.parts.now in
    let id = c.args.id in
    let none = subst (IsKeyOf t id) c.in-None.is c.in_ok-properties_of.ensures.properties in
    subst (IsClassOf t id) (sym c.number.ensures) (class-alone t id (get properties.eq-value.it c.args.firsts.now) c.requires.noted none)

pub returns-in-None-clause-noted : goal.returns-in-None-clause-noted
returns-in-None-clause-noted c =
    let t = c.args.set.now.parts.now in
    let id = c.args.id in
    noted-alone t id (get properties.eq-value.it c.args.firsts.now) c.requires.noted (subst (IsKeyOf t id) c.in-None.is c.in_ok-properties_of.ensures.properties)

pub returns-in-Some-clause-class : goal.returns-in-Some-clause-class
returns-in-Some-clause-class c =
    let t = c.args.set.now.parts.now in
    let id = c.args.id in
    let old = get properties.eq-value.it c.args.firsts.now in
    let new = get properties.eq-value.it c.first_with.new.firsts in
    let own = c.in-Some.own in
    let has = subst (IsKeyOf t id) c.in-Some.is c.in_ok-properties_of.ensures.properties in
    IfOk-weaker c.first_with.result (Notes old new own c.number-in-Some.result) (IsClassOf t id)
    (λ first notes. class-is t id old c.requires.noted own has new first (subst (λ (n : ℕ). Notes old new own n first) c.number-in-Some.ensures notes)) c.first_with.ensures

pub returns-in-Some-clause-noted : goal.returns-in-Some-clause-noted
returns-in-Some-clause-noted c =
    let t = c.args.set.now.parts.now in
    let id = c.args.id in
    let old = get properties.eq-value.it c.args.firsts.now in
    let new = get properties.eq-value.it c.first_with.new.firsts in
    let own = c.in-Some.own in
    let has = subst (IsKeyOf t id) c.in-Some.is c.in_ok-properties_of.ensures.properties in
    on-ok (Notes old new own c.number-in-Some.result) _ c.first_with.result
    (λ first notes. noted-more t id old c.requires.noted own has new first (subst (λ (n : ℕ). Notes old new own n first) c.number-in-Some.ensures notes)) c.first_with.ensures
