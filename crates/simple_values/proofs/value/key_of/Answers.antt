use Rattle.std.proofs.Common.{◌≡◌, sym, ◌∙◌, rules}
use Rattle.simple_values.specs.declared.key.Key.TheVariants as keys
use Rattle.simple_values.specs.Same.{key_value}
use Rattle.simple_values.proofs.Keys.{key_eq_at, key_is, key_back, key_decides}
use Rattle.simple_values.proofs.value.key_of.Goals as goal

pub returns-in_ok-clone-in-Atom-clause-equal : goal.returns-in_ok-clone-in-Atom-clause-equal
returns-in_ok-clone-in-Atom-clause-equal c = λ other.
    let e : keys.Atom c.in_ok-clone-in-Atom.field-0 ≡ key_value c.args.value.now = search rules in
    key_eq_at _ c.args.value.now other e

pub returns-in_ok-clone-in-Atom-clause-decides : goal.returns-in_ok-clone-in-Atom-clause-decides
returns-in_ok-clone-in-Atom-clause-decides c = λ a b. key_decides a b

pub returns-in_ok-clone-in-Atom-clause-identical : goal.returns-in_ok-clone-in-Atom-clause-identical
returns-in_ok-clone-in-Atom-clause-identical c = λ other.
    let e : keys.Atom c.in_ok-clone-in-Atom.field-0 ≡ key_value c.args.value.now = search rules in
    (λ s. e ∙ key_is c.args.value.now other s, λ h. key_back c.args.value.now other (sym e ∙ h))

pub returns-in_ok-copied_items-in-List-clause-equal : goal.returns-in_ok-copied_items-in-List-clause-equal
returns-in_ok-copied_items-in-List-clause-equal c = λ other.
    let e : keys.List c.in_ok-copied_items-in-List.field-0 ≡ key_value c.args.value.now = search rules in
    key_eq_at _ c.args.value.now other e

pub returns-in_ok-copied_items-in-List-clause-decides : goal.returns-in_ok-copied_items-in-List-clause-decides
returns-in_ok-copied_items-in-List-clause-decides c = λ a b. key_decides a b

pub returns-in_ok-copied_items-in-List-clause-identical : goal.returns-in_ok-copied_items-in-List-clause-identical
returns-in_ok-copied_items-in-List-clause-identical c = λ other.
    let e : keys.List c.in_ok-copied_items-in-List.field-0 ≡ key_value c.args.value.now = search rules in
    (λ s. e ∙ key_is c.args.value.now other s, λ h. key_back c.args.value.now other (sym e ∙ h))

pub returns-in_err-clone-in-Atom-clause-decides : goal.returns-in_err-clone-in-Atom-clause-decides
returns-in_err-clone-in-Atom-clause-decides c = λ a b. key_decides a b

pub returns-in_err-copied_items-in-List-clause-decides : goal.returns-in_err-copied_items-in-List-clause-decides
returns-in_err-copied_items-in-List-clause-decides c = λ a b. key_decides a b
