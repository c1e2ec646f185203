-- Counts of faults, of one constraint of an element changed.
use Rattle.std.proofs.Common.{◌≡◌, ◌+◌, ◌==◌, ℕ, Bool, true, false, cond, Option, Some, refl, sym, ap, ◌∙◌, arith, true≢false, unwrap_or}
use Rattle.std.specs.Map.{lookup}
use Rattle.std.proofs.lemmas.Bool.{and_from, and_parts, eqb-true, eq-eqb}
use Rattle.key_records.specs.declared.faults.ScopeId.{ScopeId}
use Rattle.key_records.specs.declared.faults.Faults.{Faults}
use Rattle.key_records.specs.declared.faults.TargetFaults.{TargetFaults}
use Rattle.key_records.specs.declared.faults.FaultCounts.{FaultCounts}
use Rattle.key_records.specs.Faults.{AreMoreFaults, Sets, same_scope, faults_at, more_faults, no_faults, has_none}

abbrev id : ℕ → ℕ → ScopeId
id scope constraint = record { scope = scope; constraint = constraint }

pub sets : (old new : FaultCounts) (scope constraint : ℕ) (faults : Faults)
    → ((q : ScopeId) → lookup (same_scope q) new.counts.entries ≡ cond (same_scope (id scope constraint) q) (Some faults) (lookup (same_scope q) old.counts.entries))
    → Sets old new scope constraint faults
sets old new scope constraint faults updates = record {
  here =
      ap (λ (o : Option Faults). unwrap_or o no_faults) (updates (id scope constraint)
      ∙ ap (λ (b : Bool). cond b (Some faults) (lookup (same_scope (id scope constraint)) old.counts.entries)) (and_from (scope == scope) (constraint == constraint) (eq-eqb scope scope refl) (eq-eqb constraint constraint refl)));
  others = λ n k apart.
      ap (λ (o : Option Faults). unwrap_or o no_faults) (updates (id n k) ∙ ap (λ (b : Bool). cond b (Some faults) (lookup (same_scope (id n k)) old.counts.entries)) (off n k apart (same_scope (id scope constraint) (id n k)) refl));
}
  where
    off : (n k : ℕ) → (scope ≡ n → constraint ≡ k → ⊥) → (b : Bool) → same_scope (id scope constraint) (id n k) ≡ b → same_scope (id scope constraint) (id n k) ≡ false
    off n k apart true e = let both = and_parts (scope == n) (constraint == k) e in absurd (apart (eqb-true scope n both.0) (eqb-true constraint k both.1))
    off n k apart false e = e

-- without faults nothing more is there
none-more : (a b c : Bool) (faults : Faults) → has_none (record { misused = a; lacking = b; nillable = c }) ≡ true → faults ≡ more_faults faults (record { misused = a; lacking = b; nillable = c })
none-more true b c faults e = absurd (true≢false (sym e))
none-more false true c faults e = absurd (true≢false (sym e))
none-more false false true faults e = absurd (true≢false (sym e))
none-more false false false faults e =
    let one : faults.misused ≡ faults.misused + 0 = omega arith in
    let two : faults.lacking ≡ faults.lacking + 0 = omega arith in
    let three : faults.nillable ≡ faults.nillable + 0 = omega arith in
    λ i. record { misused = one i; lacking = two i; nillable = three i }

pub no-more-faults : (counts : FaultCounts) (scope constraint : ℕ) (found : TargetFaults) (b : Bool) → b ≡ has_none found → b ≡ true → AreMoreFaults counts counts scope constraint found
no-more-faults counts scope constraint found b told e = record {
  here = none-more found.misused found.lacking found.nillable (faults_at counts scope constraint) (sym told ∙ e);
  others = λ n k apart. refl;
}

pub more-faults : (old new : FaultCounts) (scope constraint : ℕ) (found : TargetFaults) (now more : Faults) → now ≡ faults_at old scope constraint → more ≡ more_faults now found → Sets old new scope constraint more
    → AreMoreFaults old new scope constraint found
more-faults old new scope constraint found now more at is put = record { here = put.here ∙ is ∙ ap (λ (f : Faults). more_faults f found) at; others = put.others }

pub fewer-faults : (old new : FaultCounts) (scope constraint : ℕ) (found : TargetFaults) (now fewer : Faults) → now ≡ faults_at old scope constraint → now ≡ more_faults fewer found → Sets old new scope constraint fewer
    → AreMoreFaults new old scope constraint found
fewer-faults old new scope constraint found now fewer at is put = record {
  here = sym at ∙ is ∙ ap (λ (f : Faults). more_faults f found) (sym put.here);
  others = λ n k apart. sym (put.others n k apart);
}
