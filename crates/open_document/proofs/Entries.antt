-- The entry of an element, by its records.
use Rattle.std.proofs.Common.{◌≡◌, ℕ, List, [], ◌∷◌, Bool, true, false, ◌==◌, Option, Some, None, refl, sym, ap, ◌∙◌, arith}
use Rattle.std.specs.Option.{option_map}
use Rattle.std.proofs.lemmas.Bool.Decides.{nat_tests}
use Rattle.tree_rows.specs.declared.row.NodeKind.{NodeKind}
use Rattle.session_model.specs.Asking.{entry_at}
use Rattle.assessment.specs.Assessment.{Entry}
use Rattle.assessment.specs.Attribution.{SchemaSet}
use Rattle.report_text.specs.Lines.{records_text}
use Rattle.assess_records.specs.declared.record.AttrRecord.{AttrRecord}
use Rattle.assess_records.specs.declared.record.ElementRecord.{ElementRecord}
use Rattle.open_document.specs.Replies.{records_reply, no_element}

number_step : (key : ℕ) (e : Entry) (more : List Entry) (found : Entry) → (entry_at key more ≡ Some found → found.number ≡ key) → (t : Bool) → (e.number == key) ≡ t
    → entry_at key (e ∷ more) ≡ Some found → found.number ≡ key
number_step key e more found later true t h =
    let same : Some e ≡ Some found = (rw t at h) in
    let is : e ≡ found = cc in
    let number : e.number ≡ key = grind (arith, nat_tests) in
    ap (λ (x : Entry). x.number) (sym is) ∙ number
number_step key e more found later false t h = later (rw t at h)

entry_at-number : (key : ℕ) (es : List Entry) (found : Entry) → entry_at key es ≡ Some found → found.number ≡ key
entry_at-number key [] found h = cc
entry_at-number key (e ∷ more) found h = number_step key e more found (entry_at-number key more found) (e.number == key) refl h

module _ (set : SchemaSet) (kind : Option NodeKind) where
  text_of : (key : ℕ) (found : Option Entry) (element : ElementRecord) (attrs : List AttrRecord) → ((e : Entry) → found ≡ Some e → e.number ≡ key)
      → Some element ≡ option_map (λ (e : Entry). e.element) found → Some attrs ≡ option_map (λ (e : Entry). e.attrs) found
      → records_reply set kind found ≡ records_text set.names set.parts key element attrs
  text_of key None element attrs numbered at also = cc
  text_of key (Some e) element attrs numbered at also =
      let same_element : e.element ≡ element = cc in
      let same_attrs : e.attrs ≡ attrs = cc in
      ap (λ n. records_text set.names set.parts n e.element e.attrs) (numbered e refl) ∙ ap (λ r. records_text set.names set.parts key r e.attrs) same_element
      ∙ ap (records_text set.names set.parts key element) same_attrs

  pub found_text : (key : ℕ) (es : List Entry) (element : ElementRecord) (attrs : List AttrRecord)
      → Some element ≡ option_map (λ (e : Entry). e.element) (entry_at key es) → Some attrs ≡ option_map (λ (e : Entry). e.attrs) (entry_at key es)
      → records_reply set kind (entry_at key es) ≡ records_text set.names set.parts key element attrs
  found_text key es element attrs at also = text_of key (entry_at key es) element attrs (entry_at-number key es) at also

  none_of : (found : Option Entry) → None ≡ option_map (λ (e : Entry). e.element) found → records_reply set kind found ≡ no_element kind
  none_of None n = refl
  none_of (Some e) n = cc

  pub no_text : (key : ℕ) (es : List Entry) → None ≡ option_map (λ (e : Entry). e.element) (entry_at key es) → records_reply set kind (entry_at key es) ≡ no_element kind
  no_text key es n = none_of (entry_at key es) n
