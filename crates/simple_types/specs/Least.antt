-- The faults of rules and of judged types.
use Rattle.std.specs.Prelude.{◌≡◌, if◌then◌else◌, List, [], ◌∷◌, ◌++◌, ◌⊎◌, Option, None, Some}
use Rattle.xs_codes.specs.declared.fault.Fault.{Fault}
use Rattle.facet_rules.specs.First.{Rule, fault_at}
use Rattle.simple_types.specs.declared.judged.JudgedType.{JudgedType}
use Rattle.simple_types.specs.declared.types.SimpleTypes.{SimpleTypes}

-- the faults of those rules that are broken
abbrev pub faults_of_rules : List Rule → List Fault
faults_of_rules [] = []
faults_of_rules (rule ∷ rules) = if rule.broken then fault_at rule.at rule.code ∷ faults_of_rules rules else faults_of_rules rules

abbrev pub with_fault : Option Fault → List Fault → List Fault
with_fault None faults = faults
with_fault (Some fault) faults = fault ∷ faults

abbrev pub faults_in : List JudgedType → List Fault
faults_in [] = []
faults_in (judged ∷ types) = with_fault judged.fault (faults_in types)

-- the first faults of each simple type and of each simple content
abbrev pub faults_of_types : SimpleTypes → List Fault
faults_of_types types = faults_in types.simples ++ faults_in types.complexes

abbrev pub IsAmong : Fault → List Fault → Type 0
IsAmong fault [] = ⊥
IsAmong fault (other ∷ others) = (fault ≡ other) ⊎ IsAmong fault others
