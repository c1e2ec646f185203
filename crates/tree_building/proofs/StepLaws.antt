-- What a refused start tag answers.
use Rattle.std.proofs.Common.{◌≡◌, ℕ, true, List, Result, Ok, Err, Option, Some, None, refl, sym, ap, ◌∙◌, subst}
use Rattle.std.specs.Result.{IsErrAnd}
use Rattle.tag_names.specs.Faults.{name_fault}
use Rattle.tag_names.specs.Resolving.{resolved, resolved_by}
use Rattle.tag_names.specs.Tags.{named}
use Rattle.tag_names.specs.declared.named.Named.{Named}
use Rattle.tree_rows.specs.declared.row.Binding.{Binding}
use Rattle.tree_building.specs.declared.fault.TreeReason.TheVariants as reasons
use Rattle.tree_building.specs.declared.rules.Rules.{Rules}
use Rattle.tag_names.specs.declared.fault.NameReason.{NameReason}
use Rattle.tag_names.specs.declared.lines.Tag.{Tag}
use Rattle.tree_building.specs.Building.{fault_of, tag_by, tag_closed_by, tag_closed}
use Rattle.tree_building.specs.Nest.{scope_in}
use Rattle.tree_building.specs.Steps.{JudgedStop, Steps, Stops}
use Rattle.tree_building.specs.declared.building.Building.{Building}
use Rattle.tree_building.specs.declared.fault.Stop.{Stop}
use Rattle.tree_building.specs.declared.fault.Stop.TheVariants.{Memory, Refused}
use Rattle.tree_building.specs.declared.fault.TreeFault.{TreeFault}
use Rattle.tree_building.specs.declared.pending.Pending.TheVariants as pending

judged_fault : (b : Building) (tag : Tag) (item : ℕ) (fault : TreeFault) (found : Option NameReason) → JudgedStop item (Refused fault) found → tag_by b tag item found ≡ Err fault
judged_fault b tag item fault None j = absurd j
judged_fault b tag item fault (Some reason) j = ap Err (sym j)

stop_steps : (x : Stop) (b : Building) (tag : Tag) (item : ℕ) → b.pending ≡ pending.Start tag item → JudgedStop item x (fault_of b.rules (scope_in b.nest) tag)
    → Stops b b x (tag_closed b)
stop_steps Memory b tag item e j = refl
stop_steps (Refused fault) b tag item e j =
    ap (tag_closed_by b) e ∙ judged_fault b tag item fault (fault_of b.rules (scope_in b.nest) tag) j

pub tag_stops : {X : Type 0} (r : Result X Stop) (x : Stop) (b new : Building) (tag : Tag) (item : ℕ) → new ≡ b → b.pending ≡ pending.Start tag item → IsErrAnd r (λ e. e ≡ x)
    → JudgedStop item x (fault_of b.rules (scope_in b.nest) tag) → Steps b new r (tag_closed b)
tag_stops (Ok y) x b new tag item same e q j = absurd q
tag_stops (Err y) x b new tag item same e q j =
    subst (λ n. Stops b n y (tag_closed b)) (sym same) (subst (λ z. Stops b b z (tag_closed b)) (sym q) (stop_steps x b tag item e j))

-- a tag that was resolved, where names are judged
resolved_ok : (found : Option NameReason) (says given : Named) → Ok given ≡ resolved_by found says → (found ≡ None) × (given ≡ says)
resolved_ok None says given e = (refl, cc)
resolved_ok (Some reason) says given e = absurd (cc e)

resolved_err : (found : Option NameReason) (says : Named) (reason : NameReason) → Err reason ≡ resolved_by found says → found ≡ Some reason
resolved_err None says reason e = absurd (cc e)
resolved_err (Some found) says reason e = cc

judges : (rules : Rules) (scope : List Binding) (tag : Tag) → rules.names ≡ true → fault_of rules scope tag ≡ name_fault scope tag
judges rules scope tag e = rw e refl

pub named_well : (rules : Rules) (scope : List Binding) (tag : Tag) (says : Named) → rules.names ≡ true → Ok says ≡ resolved scope tag
    → (fault_of rules scope tag ≡ None) × (says ≡ named scope tag)
named_well rules scope tag says e is =
    let both = resolved_ok (name_fault scope tag) (named scope tag) says is in
    (judges rules scope tag e ∙ both.0, both.1)

pub named_ill : (rules : Rules) (scope : List Binding) (tag : Tag) (item : ℕ) (reason : NameReason) → rules.names ≡ true → Err reason ≡ resolved scope tag
    → JudgedStop item (Refused (record { item = item; reason = reasons.Name reason })) (fault_of rules scope tag)
named_ill rules scope tag item reason e is =
    subst (JudgedStop item (Refused (record { item = item; reason = reasons.Name reason })))
    (sym (judges rules scope tag e ∙ resolved_err (name_fault scope tag) (named scope tag) reason is)) refl
