-- The lines of an entry, by its records.
use Rattle.std.proofs.Common.{◌≡◌, ◌==◌, ℕ, List, [], ◌∷◌, Bool, true, false, Option, Some, None, refl, sym, ap, ◌∙◌, arith}
use Rattle.std.specs.Option.{option_map}
use Rattle.std.specs.Prelude.{if◌then◌else◌}
use Rattle.std.proofs.lemmas.Bool.Decides.{nat_tests}
use Rattle.std.proofs.lemmas.Option.{same_Some}
use Rattle.assess_records.specs.declared.record.AttrRecord.{AttrRecord}
use Rattle.assess_records.specs.declared.record.ElementRecord.{ElementRecord}
use Rattle.assessment.specs.Assessment.{Entry}
use Rattle.assessment.specs.Attribution.{SchemaSet}
use Rattle.session_model.specs.Asking.{entry_at}
use Rattle.session_model.specs.Reports.{entry_lines}
use Rattle.session_model.specs.inside.Telling.{lines_of}

-- the entry that is found has the number
number-or : (key : ℕ) (x e : Entry) (rest : Option Entry) (same : Bool) → (x.number == key) ≡ same → (rest ≡ Some e → e.number ≡ key) → (if same then Some x else rest) ≡ Some e → e.number ≡ key
number-or key x e rest true is later at =
    let own : x.number ≡ key = grind (arith, nat_tests) in
    ap (λ (y : Entry). y.number) (sym (same_Some x e at)) ∙ own
number-or key x e rest false is later at = later at

number-at : (key : ℕ) (es : List Entry) (e : Entry) → entry_at key es ≡ Some e → e.number ≡ key
number-at key [] e at = cc
number-at key (x ∷ es) e at = number-or key x e (entry_at key es) (x.number == key) refl (number-at key es e) at

-- the lines by the records that a session answers are the entry's
pub entry-lines : (a b : SchemaSet) (key : ℕ) (element : ElementRecord) (attrs : List AttrRecord) (es : List Entry) (e : Entry) → a ≡ b → entry_at key es ≡ Some e
    → Some element ≡ option_map (λ (x : Entry). x.element) (entry_at key es) → Some attrs ≡ option_map (λ (x : Entry). x.attrs) (entry_at key es) → lines_of a key element attrs ≡ entry_lines b e
entry-lines a b key element attrs es e same at own others =
    let one : element ≡ e.element = same_Some element e.element (own ∙ ap (λ (x : Option Entry). option_map (λ (y : Entry). y.element) x) at) in
    let rest : attrs ≡ e.attrs = same_Some attrs e.attrs (others ∙ ap (λ (x : Option Entry). option_map (λ (y : Entry). y.attrs) x) at) in
    λ i. lines_of (same i) (sym (number-at key es e at) i) (one i) (rest i)

pub no-entry : (key : ℕ) (es : List Entry) (e : Entry) → entry_at key es ≡ Some e → None ≡ option_map (λ (x : Entry). x.element) (entry_at key es) → ⊥
no-entry key es e at none =
    let no : None ≡ Some e.element = none ∙ ap (λ (x : Option Entry). option_map (λ (y : Entry). y.element) x) at in
    cc
