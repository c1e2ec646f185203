-- Codes behind a record, one by one.
use Rattle.std.proofs.Common.{◌≡◌, ℕ, ◌+◌, ◌<◌, List, [], ◌∷◌, ◌++◌, take, length, refl, sym, ap, ◌∙◌, append_assoc, append-nil}
use Rattle.std.specs.Prelude.{get_or}
use Rattle.std.proofs.lemmas.List.{take_more}
use Rattle.xs_codes.specs.declared.fault.Found.{Found}
use Rattle.assess_records.specs.declared.outcome.Validity.{Validity}
use Rattle.assess_records.specs.declared.outcome.Validity.TheVariants.{Invalid}
use Rattle.assess_records.specs.declared.record.ElementRecord.{ElementRecord}
use Rattle.elem_assess.specs.Marked.{validity_with, marked_record}

invalid-with : (codes : List Found) (code : Found) (validity : Validity) → validity_with (codes ++ code ∷ []) validity ≡ Invalid
invalid-with [] code validity = refl
invalid-with (first ∷ codes) code validity = refl

-- no codes
pub marked-none : (r : ElementRecord) → r ≡ marked_record [] r
marked-none r = ap (λ (codes : List Found). record r { codes = codes }) (sym (append-nil r.codes))

-- one code more
pub marked-more : (r : ElementRecord) (codes : List Found) (i : ℕ) (d : Found) → i < length codes →
    record r { validity = Invalid; codes = (marked_record (take i codes) r).codes ++ get_or codes i d ∷ [] } ≡ marked_record (take (i + 1) codes) r
marked-more r codes i d within =
    let more = take_more codes i d within in
    ap (λ (all : List Found). record r { validity = Invalid; codes = all }) (append_assoc r.codes (take i codes) (get_or codes i d ∷ []))
    ∙ (ap (λ (v : Validity). record r { validity = v; codes = r.codes ++ (take i codes ++ get_or codes i d ∷ []) }) (sym (invalid-with (take i codes) (get_or codes i d) r.validity))
    ∙ ap (λ (all : List Found). marked_record all r) (sym more))
