-- A text is read as a pattern in one way (Datatypes, appendix F).
use Rattle.std.proofs.Common.{◌≡◌, inl, inr, ◌⊎◌, ℕ, List, Result, Ok, Err, refl, sym, ap, ◌∙◌, arith}
use Rattle.std.proofs.lemmas.Option.{none-some, same_Some}
use Rattle.std.specs.Str.{chars}
use Rattle.pattern_syntax.specs.Grammar.{RegExp}
use Rattle.pattern_syntax.specs.Regex.{Regex}
use Rattle.pattern_syntax.specs.Reading.{IsWritten, IsPattern, IsLongestFront, answer_of, Reads}
use Rattle.pattern_syntax.specs.declared.fault.PatternFault.{PatternFault}
use Rattle.pattern_syntax.specs.declared.fault.PatternFault.TheVariants.{Syntax, UnsupportedBlock, UnknownClass, TooLarge}
use Rattle.pattern_syntax.proofs.Reading.{end_of, run_of, reads_same}
use Rattle.xs_regex.specs.Outcome.{limited}
use Rattle.xs_codes.specs.declared.code.Code.{Code}
use Rattle.facet_checks.specs.Patterns.{refusal_of, refused, IsRefusedPattern}
use Rattle.facet_rules.specs.declared.read.FacetRead.{FacetRead}
use Rattle.facet_rules.specs.Texts.{pattern_read, IsPatternRead}

module _ (text : List ℕ) where
  -- all expressions that a text is have one answer
  answers-one : (r s : RegExp) → IsWritten text r → IsWritten text s → answer_of r ≡ answer_of s
  answers-one r s p q = sym (reads_same text (end_of r) (run_of text r p) r p) ∙ reads_same text (end_of r) (run_of text r p) s q

  -- the text is an expression with this answer, or none, and then the fault has its place
  abbrev Kind : Result Regex PatternFault → Type 0
  Kind answer = ((r : RegExp) × IsWritten text r × (answer_of r ≡ answer)) ⊎ ((place : ℕ) × (answer ≡ Err (Syntax place)) × (IsPattern text → ⊥) × IsLongestFront text place)

  kind-of : (answer : Result Regex PatternFault) → Reads text answer → Kind answer
  kind-of (Ok regex) is = inl is
  kind-of (Err (Syntax place)) is = inr (place, refl, is.0, is.1)
  kind-of (Err UnsupportedBlock) is = inl is
  kind-of (Err UnknownClass) is = inl is
  kind-of (Err TooLarge) is = inl is

  fronts-one : (m n : ℕ) → IsLongestFront text m → IsLongestFront text n → m ≡ n
  fronts-one m n p q = let a = p.longest n q.within q.begins in let b = q.longest m p.within p.begins in omega (arith, a, b)

  kinds-one : (a b : Result Regex PatternFault) → Kind a → Kind b → a ≡ b
  kinds-one a b (inl p) (inl q) = sym p.2 ∙ (answers-one p.0 q.0 p.1 q.1 ∙ q.2)
  kinds-one a b (inl p) (inr q) = absurd (q.2 (p.0, p.1))
  kinds-one a b (inr p) (inl q) = absurd (p.2 (q.0, q.1))
  kinds-one a b (inr p) (inr q) = p.1 ∙ (ap (λ n. Err (Syntax n)) (fronts-one p.0 q.0 p.3 q.3) ∙ sym q.1)

  pub reads-one : (a b : Result Regex PatternFault) → Reads text a → Reads text b → a ≡ b
  reads-one a b p q = kinds-one a b (kind-of a p) (kind-of b q)

-- so it is refused with one code, or not
refused-one : (text : List ℕ) (a b : Result (List ℕ) Code) → IsRefusedPattern text a → IsRefusedPattern text b → refused a ≡ refused b
refused-one text a b p q = p.2 ∙ (ap (λ (answer : Result Regex PatternFault). refusal_of (limited answer)) (reads-one (chars text) p.0 q.0 p.1 q.1) ∙ sym q.2)

read-by : (text : List ℕ) (a b : Result (List ℕ) Code) → refused a ≡ refused b → pattern_read text a ≡ pattern_read text b
read-by text (Ok x) (Ok y) e = refl
read-by text (Ok x) (Err d) e = absurd (none-some d e)
read-by text (Err c) (Ok y) e = absurd (none-some c (sym e))
read-by text (Err c) (Err d) e = ap (λ (k : Code). pattern_read text (Err k)) (same_Some c d e)

pub pattern-reads-one : (text : List ℕ) (a b : FacetRead) → IsPatternRead text a → IsPatternRead text b → a ≡ b
pattern-reads-one text a b p q = p.2 ∙ (read-by text p.0 q.0 (refused-one text p.0 q.0 p.1 q.1) ∙ sym q.2)
