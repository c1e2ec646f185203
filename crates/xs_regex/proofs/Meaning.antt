-- What a pattern that was read matches, by its text.
use Rattle.std.proofs.Common.{◌≡◌, ℕ, ◌↔◌, Bool, true, false, if◌then◌else◌, List, Option, Some, None, refl, ap, ◌∙◌}
use Rattle.std.specs.Prelude.{Result, Ok, Err, IfOk, nat_lt}
use Rattle.xs_positions.specs.Expressions.{size}
use Rattle.pattern_syntax.specs.Regex.{Regex, Matches}
use Rattle.pattern_syntax.specs.declared.fault.PatternFault.{PatternFault}
use Rattle.pattern_syntax.specs.declared.fault.PatternFault.TheVariants.{TooLarge}
use Rattle.pattern_syntax.specs.Grammar.{RegExp, meaning, regexp_names, regexp_numbers}
use Rattle.pattern_syntax.specs.Notes.{is_large}
use Rattle.pattern_syntax.specs.Reading.{IsWritten, Reads, answer_of, refused_or, first_fault}
use Rattle.std.specs.List.{list_any}
use Rattle.xs_regex.specs.Expression.{regex}
use Rattle.xs_regex.specs.Outcome.{limited, outcome_of}
use Rattle.xs_regex.specs.Meaning.{MatchesPattern}
use Rattle.xs_regex.specs.declared.pattern.Pattern.{Pattern}

ok_else : (large : Bool) (r x : Regex) (answer : Result Regex PatternFault) → answer ≡ Ok x → answer ≡ (if large then Err TooLarge else Ok r) → r ≡ x
ok_else true r x answer e f = cc
ok_else false r x answer e f = cc

ok_limited : (answer : Result Regex PatternFault) (x : Regex) → Ok x ≡ limited answer → answer ≡ Ok x
ok_limited (Ok r) x e = ap Ok (ok_else (nat_lt 4096 (size r)) r x (Ok x) refl e)
ok_limited (Err fault) x e = cc

ok_answer : (fault : Option PatternFault) (large : Bool) (r x : Regex) → refused_or fault large r ≡ Ok x → r ≡ x
ok_answer (Some fault) large r x e = cc
ok_answer None true r x e = cc
ok_answer None false r x e = cc

meaning_is : (r : RegExp) (x : Regex) → answer_of r ≡ Ok x → meaning r ≡ x
meaning_is r x e = ok_answer (first_fault (regexp_names r)) (list_any is_large (regexp_numbers r)) (meaning r) x e

read_ok : (text : List ℕ) (answer : Result Regex PatternFault) (x : Regex) → Reads text answer → answer ≡ Ok x → (r : RegExp) × IsWritten text r × (meaning r ≡ x)
read_ok text (Ok y) x (r, written, e) same = (r, written, meaning_is r y e ∙ (let k : y ≡ x = cc in k))
read_ok text (Err fault) x h same = cc

pub means : (text : List ℕ) (outcome : Result Pattern PatternFault) →
    ((answer : Result Regex PatternFault) × Reads text answer × (outcome_of outcome ≡ limited answer)) →
    ((r : RegExp) → IsWritten text r → outcome_of outcome ≡ limited (answer_of r)) →
    IfOk outcome (λ pattern. (other : List ℕ) → Matches (regex pattern) other ↔ MatchesPattern text other)
means text (Ok pattern) reads only = λ other.
    let read = read_ok text reads.0 (regex pattern) reads.1 (ok_limited reads.0 (regex pattern) reads.2) in (
      (λ m. (read.0, read.1, (rw read.2 m))),
      (λ h. let e : meaning h.0 ≡ regex pattern = meaning_is h.0 (regex pattern) (ok_limited (answer_of h.0) (regex pattern) (only h.0 h.1)) in rw e at h.2),
    )
means text (Err fault) reads only = tt

pub means_ok : {E : Type 0} (text : List ℕ) (result : Result (Result Pattern PatternFault) E) →
    IfOk result (λ outcome. (answer : Result Regex PatternFault) × Reads text answer × (outcome_of outcome ≡ limited answer)) →
    IfOk result (λ outcome. (r : RegExp) → IsWritten text r → outcome_of outcome ≡ limited (answer_of r)) →
    IfOk result (λ outcome. IfOk outcome (λ pattern. (other : List ℕ) → Matches (regex pattern) other ↔ MatchesPattern text other))
means_ok text (Ok outcome) reads only = means text outcome reads only
means_ok text (Err e) reads only = tt
