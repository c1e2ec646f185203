use Rattle.std.proofs.Common.{◌≡◌, ◌++◌, List, ℕ, sym, ap, ◌∙◌}
use Rattle.std.proofs.lemmas.List.{append-nil}
use Rattle.set_representations.proofs.ReadLaws.{no-import}
use Rattle.set_representations.proofs.reader.Reader.form.Goals as goal

pub returns-in_ok-represented-in_default-clause-imports : goal.returns-in_ok-represented-in_default-clause-imports
returns-in_ok-represented-in_default-clause-imports c = λ later g.
    let old = c.args.self.now.imports in
    sym (ap (λ (xs : List ℕ). old ++ xs) (no-import later c.args.form.now c.in_default.not-Import) ∙ append-nil old)
