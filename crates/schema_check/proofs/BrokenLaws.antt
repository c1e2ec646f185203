-- Judging the simple types of components finds the first of what they and their facets break (Structures 3.14.6).
use Rattle.std.proofs.Common.{◌≡◌, ℕ, zero, suc, inl, inr, Bool, true, false, not, if◌then◌else◌, List, [], ◌∷◌, ◌++◌, Option, None, Some, Result, Ok, Err, slice_get, refl, sym, ap, ◌∙◌, subst, arith}
use Rattle.std.specs.Prelude.{◌<◌, ◌⊎◌, Contains, is_some, length}
use Rattle.std.specs.Option.{unwrap_or}
use Rattle.std.proofs.lemmas.Option.{slice_get_within, same_Some}
use Rattle.xs_codes.specs.declared.code.Code.{Code}
use Rattle.xs_codes.specs.declared.code.Code.TheVariants.{XSimpleBase, StPropsCorrect3, XSimpleFinal, CosListOfAtomic}
use Rattle.xs_codes.specs.declared.fault.Fault.{Fault}
use Rattle.xs_codes.specs.Least.{is_before, IsLeast}
use Rattle.xs_codes.proofs.LeastLaws.{fault_not_itself, fault_not_trans, least-same}
use Rattle.xs_components.specs.Tables.{Tables}
use Rattle.xs_components.specs.declared.common.Place.{Place}
use Rattle.xs_components.specs.declared.common.TypeId.{TypeId}
use Rattle.xs_components.specs.declared.simple.FacetItem.{FacetItem}
use Rattle.xs_components.specs.declared.simple.SimpleForm.{SimpleForm}
use Rattle.xs_components.specs.declared.simple.SimpleForm.TheVariants.{Restrict, ListOf, UnionOf}
use Rattle.xs_components.specs.declared.simple.SimpleType.{SimpleType}
use Rattle.xs_components.specs.declared.complex.ComplexType.{ComplexType}
use Rattle.xs_components.specs.declared.complex.ContentForm.{ContentForm}
use Rattle.xs_components.specs.declared.complex.ContentForm.TheVariants as contents
use Rattle.component_references.specs.Ranked.{IsRanked}
use Rattle.facet_rules.specs.First.{Rule, rule, fault_at, first_from, first_fault}
use Rattle.facet_rules.specs.Rules.{step_rules}
use Rattle.facet_rules.specs.Read.{no_step}
use Rattle.facet_rules.specs.declared.step.ReadStep.{ReadStep}
use Rattle.facets.specs.declared.facets.Facets.{Facets}
use Rattle.facets.specs.declared.known.Judged.{Judged}
use Rattle.facets.specs.declared.known.Known.{Known}
use Rattle.facets.specs.declared.known.Known.TheVariants as knowns
use Rattle.facets.specs.UnionMembers.{Members}
use Rattle.facets.specs.Facets.{judged_by, IsStepJudged}
use Rattle.facets.specs.Making.{no_members, with_member}
use Rattle.facets.specs.Reading.{IsStepReadBy}
use Rattle.facets.specs.Source.{list_of, union_of}
use Rattle.simple_types.specs.Broken.{Breaks, judging, BreaksStep, BreaksOwnStep, BreaksContent, BreaksType, IsBroken, of_type, of_content, ending}
use Rattle.simple_types.specs.Forms.{IsStepMade, IsFormMade, IsContentMade}
use Rattle.simple_types.specs.Holding.{holds_list}
use Rattle.simple_types.specs.Judging.{Holds, IsSimpleAt, IsContentAt}
use Rattle.simple_types.specs.Least.{faults_of_rules, with_fault, faults_in, faults_of_types, IsAmong}
use Rattle.simple_types.specs.Lookup.{looked_up, content_of}
use Rattle.simple_types.specs.SimpleTypes.{AreTypesOf, IsBuilt, first_fault_of}
use Rattle.simple_types.specs.SimpleValidity.{AreInForce, AreMembers, IsListKnown, made_from_both, known_behind}
use Rattle.simple_types.specs.Trees.{simple_tree, type_tree}
use Rattle.simple_types.specs.TypeRules.{no_fault, is_any_simple_type, is_final_for_restriction, is_final_for_lists, is_final_for_unions, base_rules, item_rules, members_rules}
use Rattle.simple_types.specs.TypeTree.{TypeTree, not_simple, built_in, restriction, list_type, union_type, MemberTrees, no_member, member}
use Rattle.simple_types.specs.declared.judged.JudgedType.{JudgedType}
use Rattle.simple_types.specs.declared.judged.TypeFacets.{TypeFacets}
use Rattle.simple_types.specs.declared.types.SimpleTypes.{SimpleTypes}
use Rattle.simple_types.proofs.HoldingLaws.{lists-of-atoms}
use Rattle.simple_types.proofs.InForce.{simple_in_force, content-of-in-force}
use Rattle.simple_types.proofs.LeastLaws.{rules_are_least, rules_from_least, types_are_least}
use Rattle.schema_check.proofs.StepLaws.{behind-one, step-one}

-- ---- what is in force for a type is one

same-listed : (o : Option Facets) (item : Known) (f g : Facets) (k l : Known) → IsListKnown o item f k → IsListKnown o item g l → (f ≡ g) × (k ≡ l)
same-listed None item f g k l x y = (x.0 ∙ sym y.0, x.1 ∙ sym y.1)
same-listed (Some made) item f g k l x y = (x.0 ∙ sym y.0, x.1 ∙ sym y.1)

mutual
  in-force-one : (tree : TypeTree) (f g : Facets) (k l : Known) → AreInForce tree f k → AreInForce tree g l → (f ≡ g) × (k ≡ l)
  in-force-one not_simple f g k l x y = (x.0 ∙ sym y.0, x.1 ∙ sym y.1)
  in-force-one (built_in kind) f g k l x y = (x.0 ∙ sym y.0, x.1 ∙ sym y.1)
  in-force-one (restriction base step) f g k l (behind, known, judged, below, is, made, left) (behind', known', judged', below', is', made', left') =
      let one = in-force-one base behind behind' known known' below below' in
      let is_one : IsStepJudged behind' known' step judged = subst (λ (b : Facets). IsStepJudged b known' step judged) one.0 (subst (λ (n : Known). IsStepJudged behind n step judged) one.1 is) in
      let same : judged ≡ judged' = step-one behind' known' step judged judged' is_one is' in
      (made ∙ ((λ i. unwrap_or (same i).facets (one.0 i)) ∙ sym made'), left ∙ ((λ i. known_behind (one.1 i) (same i).facets) ∙ sym left'))
  in-force-one (list_type item) f g k l (of, known, below, is) (of', known', below', is') =
      let one = in-force-one item of of' known known' below below' in
      same-listed (list_of of') known' f g k l (subst (λ (o : Facets). IsListKnown (list_of o) known' f k) one.0 (subst (λ (n : Known). IsListKnown (list_of of) n f k) one.1 is)) is'
  in-force-one (union_type members) f g k l (all, are, is) (all', are', is') =
      let one = members-one members no_members no_members knowns.Whole knowns.Whole refl refl all all' k l are are' in
      (is ∙ (ap union_of one.0 ∙ sym is'), one.1)

  members-one : (members : MemberTrees) (front other : Members) (known n : Known) → front ≡ other → known ≡ n → (a b : Members) (k l : Known) → AreMembers members front known a k → AreMembers members other n b l → (a ≡ b) × (k ≡ l)
  members-one no_member front other known n e d a b k l x y = (x.0 ∙ (e ∙ sym y.0), x.1 ∙ (d ∙ sym y.1))
  members-one (member first rest) front other known n e d a b k l (of, of_known, below, others) (of', of_known', below', others') =
      let one = in-force-one first of of' of_known of_known' below below' in
      members-one rest (with_member front of) (with_member other of') (made_from_both known of_known) (made_from_both n of_known')
      (λ i. with_member (e i) (one.0 i)) (λ i. made_from_both (d i) (one.1 i)) a b k l others others'

-- ---- the first of a list

-- one of these is not behind it
abbrev IsReached : Fault → List Fault → Type 0
IsReached fault faults = (f : Fault) × IsAmong f faults × (is_before fault f ≡ false)

first-by-list : (P : Fault → Type 0) (fs : List Fault) (r : Option Fault) → IsLeast (λ f. IsAmong f fs) r → ((f : Fault) → IsAmong f fs → P f) → ((g : Fault) → P g → IsReached g fs) → IsLeast P r
first-by-list P fs None least there reached = λ g p. let k = reached g p in least k.0 k.1
first-by-list P fs (Some f) least there reached =
    (there f least.0, λ g p. let k = reached g p in fault_not_trans g k.0 f k.2 (least.1 k.0 k.1))

-- ---- rules

record Told (rules : List Rule) (fault : Fault) : Type 0 where
  of : Rule
  among : Contains rules of
  broken : of.broken ≡ true
  is : fault ≡ fault_at of.at of.code

more-told : (r : Rule) (rules : List Rule) (fault : Fault) → Told rules fault → Told (r ∷ rules) fault
more-told r rules fault k = record { of = k.of; among = (suc k.among.0, (let l = k.among.1 in omega arith), k.among.2); broken = k.broken; is = k.is }

told : (rules : List Rule) (fault : Fault) → IsAmong fault (faults_of_rules rules) → Told rules fault
told [] fault among = absurd among
told (r ∷ rules) fault among = by r.broken refl (λ more. told rules fault more) among
  where
    by : (b : Bool) → r.broken ≡ b → (IsAmong fault (faults_of_rules rules) → Told rules fault) → IsAmong fault (if b then fault_at r.at r.code ∷ faults_of_rules rules else faults_of_rules rules) → Told (r ∷ rules) fault
    by true e rec (inl same) = record { of = r; among = (zero, omega arith, refl); broken = e; is = same }
    by true e rec (inr more) = more-told r rules fault (rec more)
    by false e rec more = more-told r rules fault (rec more)

among-if : (b : Bool) (fault other : Fault) (faults : List Fault) → IsAmong fault faults → IsAmong fault (if b then other ∷ faults else faults)
among-if true fault other faults among = inr among
among-if false fault other faults among = among

told-among : (rules : List Rule) (of : Rule) → Contains rules of → of.broken ≡ true → IsAmong (fault_at of.at of.code) (faults_of_rules rules)
told-among [] of among broken = absurd (let l = among.1 in omega arith)
told-among (r ∷ rules) of (zero, l, is) broken =
    subst (λ (x : Rule). IsAmong (fault_at x.at x.code) (if r.broken then fault_at r.at r.code ∷ faults_of_rules rules else faults_of_rules rules)) is
    (subst (λ (b : Bool). IsAmong (fault_at r.at r.code) (if b then fault_at r.at r.code ∷ faults_of_rules rules else faults_of_rules rules)) (sym (ap (λ (x : Rule). x.broken) is ∙ broken)) (inl refl))
told-among (r ∷ rules) of (suc k, l, is) broken = among-if r.broken (fault_at of.at of.code) (fault_at r.at r.code) (faults_of_rules rules) (told-among rules of (k, omega (arith, l), is) broken)

reached-itself : (fault : Fault) (faults : List Fault) → IsAmong fault faults → IsReached fault faults
reached-itself fault faults among = (fault, among, fault_not_itself fault)

-- ---- a step

judged-first : (base : Facets) (known : Known) (read : ReadStep) → (judged_by base known read).fault ≡ first_fault (step_rules (judging base known) read.facets)
judged-first base knowns.Neither read = refl
judged-first base knowns.Facets read = refl
judged-first base knowns.Whole read = refl

module _ (tree : TypeTree) (look : TypeFacets) (in_force : AreInForce tree look.facets look.known) (step : List FacetItem) where
  module _ (read : ReadStep) (reads : IsStepReadBy look.facets look.known step read) where
    abbrev rules : List Rule
    rules = step_rules (judging look.facets look.known) read.facets

    there : (f : Fault) → IsAmong f (faults_of_rules rules) → BreaksStep tree step f
    there f among =
        let k = told rules f among in
        record { facets = look.facets; known = look.known; in_force = in_force; read = read; reads = reads; rule = k.of; among = k.among; broken = k.broken; is = k.is }

    reached : (g : Fault) → BreaksStep tree step g → IsReached g (faults_of_rules rules)
    reached g b =
        let one = in-force-one tree b.facets look.facets b.known look.known b.in_force in_force in
        let reads_one = subst (λ (f : Facets). IsStepReadBy f look.known step b.read) one.0 (subst (λ (n : Known). IsStepReadBy b.facets n step b.read) one.1 b.reads) in
        let same : b.read ≡ read = behind-one look.facets look.known step no_step b.read read reads_one reads in
        let among : Contains rules b.rule = subst (λ (xs : List Rule). Contains xs b.rule) (λ i. step_rules (judging (one.0 i) (one.1 i)) (same i).facets) b.among in
        subst (λ (x : Fault). IsReached x (faults_of_rules rules)) (sym b.is) (reached-itself (fault_at b.rule.at b.rule.code) (faults_of_rules rules) (told-among rules b.rule among b.broken))

    first : IsLeast (BreaksStep tree step) (first_fault rules)
    first = first-by-list (BreaksStep tree step) (faults_of_rules rules) (first_fault rules) (rules_are_least rules) there reached

  step-first : (made : JudgedType) → IsStepMade look step made → IsLeast (BreaksStep tree step) made.fault
  step-first made (judged, (read, reads, is), e) =
      subst (IsLeast (BreaksStep tree step)) (sym (ap (λ (m : JudgedType). m.fault) e ∙ (ap (λ (j : Judged). j.fault) is ∙ judged-first look.facets look.known read))) (first read reads)

-- ---- one type

among-known : (best : Option Fault) (f : Fault) (faults : List Fault) → IsAmong f faults → IsAmong f (with_fault best faults)
among-known None f faults among = among
among-known (Some b) f faults among = inr among

-- what is known, and then rules
first-with : (Earlier Own : Fault → Type 0) (best : Option Fault) (rules : List Rule) → IsLeast Earlier best → ((f : Fault) → IsAmong f (faults_of_rules rules) → Own f) → ((f : Fault) → Own f → IsAmong f (faults_of_rules rules)) →
    IsLeast (λ f. Own f ⊎ Earlier f) (first_from best rules)
first-with Earlier Own best rules known there back =
    least-same (λ f. Earlier f ⊎ IsAmong f (faults_of_rules rules)) (λ f. Own f ⊎ Earlier f) from to (first_from best rules) (rules_from_least Earlier rules best known)
  where
    from : (f : Fault) → Earlier f ⊎ IsAmong f (faults_of_rules rules) → Own f ⊎ Earlier f
    from f (inl earlier) = inr earlier
    from f (inr among) = inl (there f among)

    to : (f : Fault) → Own f ⊎ Earlier f → Earlier f ⊎ IsAmong f (faults_of_rules rules)
    to f (inl own) = inr (back f own)
    to f (inr earlier) = inl earlier

none-first : IsLeast (λ f. ⊥) no_fault
none-first = λ f b. b

not-not : (a b : Bool) → a ≡ not b → not a ≡ b
not-not a true e = ap not e
not-not a false e = ap not e

module _ (t : Tables) (at : Place) where
  -- what breaks the rule of a code
  abbrev Own : SimpleForm → Fault → Type 0
  Own form f = (code : Code) × Breaks t form code × (f ≡ fault_at at code)

  base-there : (base : TypeId) (step : List FacetItem) (f : Fault) → Told (base_rules t at base) f → Own (Restrict base step) f
  base-there base step f k = of k.of k.among k.broken k.is
    where
      of : (r : Rule) → Contains (base_rules t at base) r → r.broken ≡ true → f ≡ fault_at r.at r.code → Own (Restrict base step) f
      of r (zero, l, e) broken is =
          (XSimpleBase, inl (refl, subst (λ (x : Rule). x.broken ≡ true) (sym e) broken), is ∙ ap (λ (x : Rule). fault_at x.at x.code) (sym e))
      of r (suc zero, l, e) broken is =
          (StPropsCorrect3, inr (refl, subst (λ (x : Rule). x.broken ≡ true) (sym e) broken), is ∙ ap (λ (x : Rule). fault_at x.at x.code) (sym e))
      of r (suc (suc k), l, e) broken is = absurd (omega (arith, l))

  base-back : (base : TypeId) (step : List FacetItem) (f : Fault) → Own (Restrict base step) f → IsAmong f (faults_of_rules (base_rules t at base))
  base-back base step f (code, inl (e, broken), is) =
      subst (λ (x : Fault). IsAmong x (faults_of_rules (base_rules t at base))) (sym (is ∙ ap (fault_at at) e))
      (told-among (base_rules t at base) (rule (is_any_simple_type base) at XSimpleBase) (zero, omega arith, refl) broken)
  base-back base step f (code, inr (e, broken), is) =
      subst (λ (x : Fault). IsAmong x (faults_of_rules (base_rules t at base))) (sym (is ∙ ap (fault_at at) e))
      (told-among (base_rules t at base) (rule (is_final_for_restriction t base) at StPropsCorrect3) (suc zero, omega arith, refl) broken)

  module _ (item : TypeId) (atomic : Bool) (holds : not atomic ≡ holds_list (simple_tree t item)) where
    item-there : (f : Fault) → Told (item_rules t at item atomic) f → Own (ListOf item) f
    item-there f k = of k.of k.among k.broken k.is
      where
        of : (r : Rule) → Contains (item_rules t at item atomic) r → r.broken ≡ true → f ≡ fault_at r.at r.code → Own (ListOf item) f
        of r (zero, l, e) broken is =
            (XSimpleFinal, inl (refl, subst (λ (x : Rule). x.broken ≡ true) (sym e) broken), is ∙ ap (λ (x : Rule). fault_at x.at x.code) (sym e))
        of r (suc zero, l, e) broken is =
            (CosListOfAtomic, inr (refl, sym holds ∙ subst (λ (x : Rule). x.broken ≡ true) (sym e) broken), is ∙ ap (λ (x : Rule). fault_at x.at x.code) (sym e))
        of r (suc (suc k), l, e) broken is = absurd (omega (arith, l))

    item-back : (f : Fault) → Own (ListOf item) f → IsAmong f (faults_of_rules (item_rules t at item atomic))
    item-back f (code, inl (e, broken), is) =
        subst (λ (x : Fault). IsAmong x (faults_of_rules (item_rules t at item atomic))) (sym (is ∙ ap (fault_at at) e))
        (told-among (item_rules t at item atomic) (rule (is_final_for_lists t item) at XSimpleFinal) (zero, omega arith, refl) broken)
    item-back f (code, inr (e, broken), is) =
        subst (λ (x : Fault). IsAmong x (faults_of_rules (item_rules t at item atomic))) (sym (is ∙ ap (fault_at at) e))
        (told-among (item_rules t at item atomic) (rule (not atomic) at CosListOfAtomic) (suc zero, omega arith, refl) (holds ∙ broken))

  one-more : (m : TypeId) (ms : List TypeId) (f : Fault) → Own (UnionOf ms) f → Own (UnionOf (m ∷ ms)) f
  one-more m ms f (code, (e, of, among, broken), is) = (code, (e, of, (suc among.0, (let l = among.1 in omega arith), among.2), broken), is)

  members-there : (members : List TypeId) (f : Fault) → IsAmong f (faults_of_rules (members_rules t at members)) → Own (UnionOf members) f
  members-there [] f among = absurd among
  members-there (m ∷ ms) f among = by (is_final_for_unions t m) refl (λ more. members-there ms f more) among
    where
      by : (b : Bool) → is_final_for_unions t m ≡ b → (IsAmong f (faults_of_rules (members_rules t at ms)) → Own (UnionOf ms) f) → IsAmong f (if b then fault_at at XSimpleFinal ∷ faults_of_rules (members_rules t at ms) else faults_of_rules (members_rules t at ms)) → Own (UnionOf (m ∷ ms)) f
      by true e rec (inl same) = (XSimpleFinal, (refl, m, (zero, omega arith, refl), e), same)
      by true e rec (inr more) = one-more m ms f (rec more)
      by false e rec more = one-more m ms f (rec more)

  member-back : (members : List TypeId) (of : TypeId) → Contains members of → is_final_for_unions t of ≡ true → IsAmong (fault_at at XSimpleFinal) (faults_of_rules (members_rules t at members))
  member-back [] of among broken = absurd (let l = among.1 in omega arith)
  member-back (m ∷ ms) of (zero, l, is) broken =
      subst (λ (b : Bool). IsAmong (fault_at at XSimpleFinal) (if b then fault_at at XSimpleFinal ∷ faults_of_rules (members_rules t at ms) else faults_of_rules (members_rules t at ms)))
      (sym (ap (is_final_for_unions t) is ∙ broken)) (inl refl)
  member-back (m ∷ ms) of (suc k, l, is) broken =
      among-if (is_final_for_unions t m) (fault_at at XSimpleFinal) (fault_at at XSimpleFinal) (faults_of_rules (members_rules t at ms)) (member-back ms of (k, omega (arith, l), is) broken)

  members-back : (members : List TypeId) (f : Fault) → Own (UnionOf members) f → IsAmong f (faults_of_rules (members_rules t at members))
  members-back members f (code, (e, of, among, broken), is) =
      subst (λ (x : Fault). IsAmong x (faults_of_rules (members_rules t at members))) (sym (is ∙ ap (fault_at at) e)) (member-back members of among broken)

  -- a form, where what is in force for the types that it names is looked up
  form-first : (look : TypeId → TypeFacets) → ((of : TypeId) → AreInForce (simple_tree t of) (look of).facets (look of).known) → (form : SimpleForm) (made : JudgedType) → IsFormMade t look at form made →
      IsLeast (λ f. Own form f ⊎ BreaksOwnStep t form f) made.fault
  form-first look in_force (Restrict base step) made (judged, is, e) =
      subst (IsLeast (λ f. Own (Restrict base step) f ⊎ BreaksStep (simple_tree t base) step f)) (sym (ap (λ (m : JudgedType). m.fault) e))
      (first-with (BreaksStep (simple_tree t base) step) (Own (Restrict base step)) judged.fault (base_rules t at base) (step-first (simple_tree t base) (look base) (in_force base) step judged is)
      (λ f among. base-there base step f (told (base_rules t at base) f among)) (base-back base step))
  form-first look in_force (ListOf item) made is =
      let atomic : Bool = is_some (list_of (look item).facets) in
      let holds = not-not atomic (holds_list (simple_tree t item)) (lists-of-atoms (simple_tree t item) (look item).facets (look item).known (in_force item)) in
      subst (IsLeast (λ f. Own (ListOf item) f ⊎ ⊥)) (sym (ap (λ (m : JudgedType). m.fault) is))
      (first-with (λ f. ⊥) (Own (ListOf item)) no_fault (item_rules t at item atomic) none-first
      (λ f among. item-there item atomic holds f (told (item_rules t at item atomic) f among)) (item-back item atomic holds))
  form-first look in_force (UnionOf members) made is =
      subst (IsLeast (λ f. Own (UnionOf members) f ⊎ ⊥)) (sym (ap (λ (m : JudgedType). m.fault) is))
      (first-with (λ f. ⊥) (Own (UnionOf members)) no_fault (members_rules t at members) none-first (members-there members) (members-back members))

module _ (t : Tables) (simple content : TypeId → TypeFacets) (simple_is : (of : TypeId) → AreInForce (simple_tree t of) (simple of).facets (simple of).known)
    (content_is : (of : TypeId) → AreInForce (type_tree t of) (content of).facets (content of).known) where
  content-first : (by_extension : Bool) (base : TypeId) (form : ContentForm) (made : JudgedType) → IsContentMade simple content by_extension base form made → IsLeast (BreaksContent t by_extension base form) made.fault
  content-first true base (contents.Simple own step) made is = subst (IsLeast (λ f. ⊥)) (sym (ap (λ (m : JudgedType). m.fault) is)) none-first
  content-first true base (contents.Complex None mixed) made is = subst (IsLeast (λ f. ⊥)) (sym (ap (λ (m : JudgedType). m.fault) is)) none-first
  content-first true base (contents.Complex (Some p) mixed) made is = subst (IsLeast (λ f. ⊥)) (sym (ap (λ (m : JudgedType). m.fault) is)) none-first
  content-first false base (contents.Simple None step) made is = step-first (type_tree t base) (content base) (content_is base) step made is
  content-first false base (contents.Simple (Some own) step) made is = step-first (simple_tree t own) (simple own) (simple_is own) step made is
  content-first false base (contents.Complex None mixed) made is = subst (IsLeast (λ f. ⊥)) (sym (ap (λ (m : JudgedType). m.fault) is)) none-first
  content-first false base (contents.Complex (Some p) mixed) made is = subst (IsLeast (λ f. ⊥)) (sym (ap (λ (m : JudgedType). m.fault) is)) none-first

-- ---- all types

record Judging (table : List JudgedType) (fault : Fault) : Type 0 where
  place : ℕ
  judged : JudgedType
  at : slice_get table place ≡ Some judged
  is : judged.fault ≡ Some fault

judging-in : (table : List JudgedType) (fault : Fault) → IsAmong fault (faults_in table) → Judging table fault
judging-in [] fault among = absurd among
judging-in (j ∷ js) fault among = by j.fault refl (λ more. judging-in js fault more) among
  where
    later : Judging js fault → Judging (j ∷ js) fault
    later k = record { place = suc k.place; judged = k.judged; at = k.at; is = k.is }

    by : (o : Option Fault) → j.fault ≡ o → (IsAmong fault (faults_in js) → Judging js fault) → IsAmong fault (with_fault o (faults_in js)) → Judging (j ∷ js) fault
    by None e rec more = later (rec more)
    by (Some f) e rec (inl same) = record { place = zero; judged = j; at = refl; is = e ∙ ap Some (sym same) }
    by (Some f) e rec (inr more) = later (rec more)

judged-among : (table : List JudgedType) (n : ℕ) (judged : JudgedType) (fault : Fault) → slice_get table n ≡ Some judged → judged.fault ≡ Some fault → IsAmong fault (faults_in table)
judged-among [] n judged fault at is = absurd (none-is judged at)
  where
    none-is : (j : JudgedType) → None ≡ Some j → ⊥
    none-is j e = cc
judged-among (j ∷ js) zero judged fault at is =
    subst (λ (o : Option Fault). IsAmong fault (with_fault o (faults_in js))) (sym (ap (λ (x : JudgedType). x.fault) (same_Some j judged at) ∙ is)) (inl refl)
judged-among (j ∷ js) (suc n) judged fault at is = among-known j.fault fault (faults_in js) (judged-among js n judged fault at is)

among-front : (f : Fault) (xs ys : List Fault) → IsAmong f xs → IsAmong f (xs ++ ys)
among-front f [] ys among = absurd among
among-front f (x ∷ xs) ys (inl same) = inl same
among-front f (x ∷ xs) ys (inr more) = inr (among-front f xs ys more)

among-back : (f : Fault) (xs ys : List Fault) → IsAmong f ys → IsAmong f (xs ++ ys)
among-back f [] ys among = among
among-back f (x ∷ xs) ys among = inr (among-back f xs ys among)

among-either : (f : Fault) (xs ys : List Fault) → IsAmong f (xs ++ ys) → IsAmong f xs ⊎ IsAmong f ys
among-either f [] ys among = inr among
among-either f (x ∷ xs) ys (inl same) = inl (inl same)
among-either f (x ∷ xs) ys (inr more) = elim (among-either f xs ys more) [ inl here ↦ inl (inr here) | inr there ↦ inr there ]

-- what one of the judged breaks is reached by the fault that is known of it
reached-at : (P : Fault → Type 0) (table : List JudgedType) (n : ℕ) (judged : JudgedType) (g : Fault) → slice_get table n ≡ Some judged → (o : Option Fault) → judged.fault ≡ o → IsLeast P o → P g → IsReached g (faults_in table)
reached-at P table n judged g at None e first p = absurd (first g p)
reached-at P table n judged g at (Some f) e first p = (f, judged-among table n judged f at e, first.1 g p)

module _ (t : Tables) (ranked : IsRanked t) (types : SimpleTypes) (are : AreTypesOf t types) where
  simple_is : (of : TypeId) → AreInForce (simple_tree t of) (looked_up types.simples of).facets (looked_up types.simples of).known
  simple_is = simple_in_force t ranked types.simples are.simples

  content_is : (of : TypeId) → AreInForce (type_tree t of) (content_of types.simples types.complexes of).facets (content_of types.simples types.complexes of).known
  content_is = content-of-in-force t ranked types.simples types.complexes are.simples are.complexes

  -- the entry of a simple type has the first of what it breaks
  entry-first : (n : ℕ) (part : SimpleType) (judged : JudgedType) → slice_get t.simples.parts n ≡ Some part → slice_get types.simples n ≡ Some judged → IsLeast (BreaksType t part) judged.fault
  entry-first n part judged at is =
      let h = subst (Holds (IsSimpleAt t types.simples n)) is (are.simples.each n (slice_get_within t.simples.parts n part at)) in
      form-first t part.at (looked_up types.simples) simple_is part.form judged
      (subst (Holds (λ (p : SimpleType). IsFormMade t (looked_up types.simples) p.at p.form judged)) at h)

  content-entry-first : (n : ℕ) (part : ComplexType) (judged : JudgedType) → slice_get t.complexes.parts n ≡ Some part → slice_get types.complexes n ≡ Some judged →
      IsLeast (BreaksContent t part.by_extension part.base part.content) judged.fault
  content-entry-first n part judged at is =
      let h = subst (Holds (IsContentAt t types.simples types.complexes n)) is (are.complexes.each n (slice_get_within t.complexes.parts n part at)) in
      content-first t (looked_up types.simples) (content_of types.simples types.complexes) simple_is content_is part.by_extension part.base part.content judged
      (subst (Holds (λ (p : ComplexType). IsContentMade (looked_up types.simples) (content_of types.simples types.complexes) p.by_extension p.base p.content judged)) at h)

  abbrev all : List Fault
  all = faults_of_types types

  some-first : (P : Fault → Type 0) (o : Option Fault) (f : Fault) → IsLeast P o → o ≡ Some f → P f
  some-first P o f first e = (subst (IsLeast P) e first).0

  there-simple : (f : Fault) → Judging types.simples f → IsBroken t f
  there-simple f k = by (slice_get t.simples.parts k.place) refl (subst (Holds (IsSimpleAt t types.simples k.place)) k.at (are.simples.each k.place within))
    where
      within : k.place < length t.simples.parts
      within = let l = slice_get_within types.simples k.place k.judged k.at in let a = are.simples.alike in omega (arith, l, a)

      by : (o : Option SimpleType) → slice_get t.simples.parts k.place ≡ o → IsSimpleAt t types.simples k.place k.judged → IsBroken t f
      by None e h = absurd (subst (Holds (λ (p : SimpleType). IsFormMade t (looked_up types.simples) p.at p.form k.judged)) e h)
      by (Some part) e h = of_type k.place part e (some-first (BreaksType t part) k.judged.fault f (entry-first k.place part k.judged e k.at) k.is)

  there-content : (f : Fault) → Judging types.complexes f → IsBroken t f
  there-content f k = by (slice_get t.complexes.parts k.place) refl (subst (Holds (IsContentAt t types.simples types.complexes k.place)) k.at (are.complexes.each k.place within))
    where
      within : k.place < length t.complexes.parts
      within = let l = slice_get_within types.complexes k.place k.judged k.at in let a = are.complexes.alike in omega (arith, l, a)

      by : (o : Option ComplexType) → slice_get t.complexes.parts k.place ≡ o → IsContentAt t types.simples types.complexes k.place k.judged → IsBroken t f
      by None e h = absurd (subst (Holds (λ (p : ComplexType). IsContentMade (looked_up types.simples) (content_of types.simples types.complexes) p.by_extension p.base p.content k.judged)) e h)
      by (Some part) e h =
          of_content k.place part e (some-first (BreaksContent t part.by_extension part.base part.content) k.judged.fault f (content-entry-first k.place part k.judged e k.at) k.is)

  all-there : (f : Fault) → IsAmong f all → IsBroken t f
  all-there f among = elim (among-either f (faults_in types.simples) (faults_in types.complexes) among) [
    | inl here ↦ there-simple f (judging-in types.simples f here)
    | inr there ↦ there-content f (judging-in types.complexes f there)
  ]

  front : (g : Fault) → IsReached g (faults_in types.simples) → IsReached g all
  front g (f, among, before) = (f, among-front f (faults_in types.simples) (faults_in types.complexes) among, before)

  back : (g : Fault) → IsReached g (faults_in types.complexes) → IsReached g all
  back g (f, among, before) = (f, among-back f (faults_in types.simples) (faults_in types.complexes) among, before)

  all-reached : (g : Fault) → IsBroken t g → IsReached g all
  all-reached g (of_type n part at breaks) = front g (by (slice_get types.simples n) refl (are.simples.each n (slice_get_within t.simples.parts n part at)))
    where
      by : (o : Option JudgedType) → slice_get types.simples n ≡ o → Holds (IsSimpleAt t types.simples n) o → IsReached g (faults_in types.simples)
      by None e h = absurd h
      by (Some judged) e h = reached-at (BreaksType t part) types.simples n judged g e judged.fault refl (entry-first n part judged at e) breaks
  all-reached g (of_content n part at breaks) = back g (by (slice_get types.complexes n) refl (are.complexes.each n (slice_get_within t.complexes.parts n part at)))
    where
      by : (o : Option JudgedType) → slice_get types.complexes n ≡ o → Holds (IsContentAt t types.simples types.complexes n) o → IsReached g (faults_in types.complexes)
      by None e h = absurd h
      by (Some judged) e h = reached-at (BreaksContent t part.by_extension part.base part.content) types.complexes n judged g e judged.fault refl (content-entry-first n part judged at e) breaks

  pub first-broken : IsLeast (IsBroken t) (first_fault_of types)
  first-broken = first-by-list (IsBroken t) all (first_fault_of types) (types_are_least types) all-there all-reached

pub built-first : (t : Tables) (outcome : Result SimpleTypes Fault) → IsRanked t → IsBuilt t outcome → IsLeast (IsBroken t) (ending outcome)
built-first t (Ok types) ranked is = subst (IsLeast (IsBroken t)) is.1 (first-broken t ranked types is.0)
built-first t (Err fault) ranked is = subst (IsLeast (IsBroken t)) is.2 (first-broken t ranked is.0 is.1)
