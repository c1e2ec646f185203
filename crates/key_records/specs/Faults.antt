-- How many targets have which faults: cvc-identity-constraint.3, .4.2.1 and .4.2.3 (Structures 3.11.4).
use Rattle.std.specs.Prelude.{◌≡◌, ◌+◌, ◌==◌, ◌&&◌, ℕ, Bool, not, is_none, unwrap_or, if◌then◌else◌}
use Rattle.std.specs.Map.{lookup}
use Rattle.key_records.specs.declared.faults.ScopeId.{ScopeId}
use Rattle.key_records.specs.declared.faults.Faults.{Faults}
use Rattle.key_records.specs.declared.faults.TargetFaults.{TargetFaults}
use Rattle.key_records.specs.declared.faults.FaultCounts.{FaultCounts}
use Rattle.key_records.specs.declared.targets.Target.{Target}

abbrev pub same_scope : ScopeId → ScopeId → Bool
same_scope a b = (a.scope == b.scope) && (a.constraint == b.constraint)

abbrev pub no_faults : Faults
no_faults = record { misused = 0; lacking = 0; nillable = 0 }

-- the faults of the targets of a constraint of an element
abbrev pub faults_at : FaultCounts → ℕ → ℕ → Faults
faults_at counts scope constraint = unwrap_or (lookup (same_scope (record { scope = scope; constraint = constraint })) counts.counts.entries) no_faults

abbrev pub weight : Bool → ℕ
weight b = if b then 1 else 0

-- with those of one target more
abbrev pub more_faults : Faults → TargetFaults → Faults
more_faults faults found = record {
  misused = faults.misused + weight found.misused;
  lacking = faults.lacking + weight found.lacking;
  nillable = faults.nillable + weight found.nillable;
}

abbrev pub has_none : TargetFaults → Bool
has_none found = not found.misused && not found.lacking && not found.nillable

-- those of one constraint of an element are these, and all others are as they were
pub record Sets (old new : FaultCounts) (scope constraint : ℕ) (faults : Faults) : Type 0 where
  pub here : faults_at new scope constraint ≡ faults
  pub others : (n k : ℕ) → (scope ≡ n → constraint ≡ k → ⊥) → faults_at new n k ≡ faults_at old n k

-- those of one constraint of an element are these and those of a target
pub record AreMoreFaults (fewer more : FaultCounts) (scope constraint : ℕ) (found : TargetFaults) : Type 0 where
  pub here : faults_at more scope constraint ≡ more_faults (faults_at fewer scope constraint) found
  pub others : (n k : ℕ) → (scope ≡ n → constraint ≡ k → ⊥) → faults_at more n k ≡ faults_at fewer n k

-- those of a target
abbrev pub faults_of : Target → TargetFaults
faults_of target = record { misused = target.misused; lacking = is_none target.tuple.now; nillable = target.nillable }
