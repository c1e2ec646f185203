-- What a type reads, its members laid out flat, is what it comes to by recursion on what it is made of.
use Rattle.std.proofs.Common.{◌≡◌, ℕ, suc, ◌+◌, Bool, true, false, List, [], ◌∷◌, ◌++◌, length, drop, Option, None, Some, Result, Ok, Err, refl, sym, ap, subst, ◌∙◌, arith, append_assoc, length-append}
use Rattle.std.specs.Prelude.{nat_lt, if◌then◌else◌}
use Rattle.std.proofs.lemmas.List.{append-nil}
use Rattle.std.proofs.lemmas.Option.{same_Some, none-some}
use Rattle.std.proofs.Math.Seq.{drop-append_seam}
use Rattle.xs_names.specs.WhiteSpace.{normalized, items}
use Rattle.xs_codes.specs.declared.builtin.Builtin.{Builtin}
use Rattle.xs_codes.specs.declared.code.Code.{Code}
use Rattle.xs_codes.specs.declared.code.Code.TheVariants.{CvcDatatypeValid1}
use Rattle.simple_values.specs.Grammar.{item_type}
use Rattle.simple_values.specs.declared.atoms.TypedAtom.{TypedAtom}
use Rattle.facet_checks.specs.declared.list.FacetList.{FacetList}
use Rattle.facets.specs.declared.atomic.Accepted.{Accepted}
use Rattle.facets.specs.declared.facets.Facets.{Facets}
use Rattle.facets.specs.declared.known.Known.{Known}
use Rattle.facets.specs.declared.known.Known.TheVariants.{Whole, Facets as FacetsAlone, Neither}
use Rattle.facets.specs.declared.members.Gate.{Gate}
use Rattle.facets.specs.declared.members.Plain.{Plain}
use Rattle.facets.specs.declared.members.Choices.{Choices}
use Rattle.facets.specs.declared.members.Literals.{Literals}
use Rattle.facets.specs.declared.members.Literals.TheVariants.{OfBuiltin, OfList}
use Rattle.facets.specs.declared.members.Member.{Member}
use Rattle.facets.specs.UnionMembers.{Members}
use Rattle.facets.specs.declared.members.Source.{Source}
use Rattle.facets.specs.declared.members.Source.TheVariants.{Literals as OfLiterals, Union as OfUnion}
use Rattle.facets.specs.declared.trying.Turn.{Turn}
use Rattle.facets.specs.declared.trying.Turn.TheVariants.{Ends, From}
use Rattle.facets.specs.Members.{moved_on}
use Rattle.facets.specs.Atomic.{way_of}
use Rattle.facets.specs.Making.{no_members, with_member, with_source, with_union, choices_of, choices_by, choice_if, union_choice, plains_behind, plains_if, atomic_kind, atomic_if, gate}
use Rattle.facets.specs.Source.{list_by, IsSourceRead, IsRead}
use Rattle.facets.specs.Trying.{Scope, is_limit, atoms_in, IsListRead, IsListReadIf, AreItemsRead, IsItemRead, IsItemThen, IsMemberRead, IsPlainRead, AreMembersTried, ArePlainsTried, IsTriedIf, IsTurned}
use Rattle.simple_types.specs.TypeTree.{TypeTree, not_simple, built_in, restriction, list_type, union_type, MemberTrees, no_member, member}
use Rattle.simple_types.specs.SimpleValidity.{AreInForce, AreMembers, IsMade, IsListKnown, made_from, made_from_both, known_behind, item_code, AreItems, IsListIf, IsList, IsTrialIf, IsTrialThen, IsLiteral, AreTried, IsValid}
use Rattle.simple_types.proofs.Trials.{StartFrom, union_in_turn, one_in_turn}
use Rattle.simple_types.proofs.Framing.{IsFramed, IsFramedSource, own_members, members_with, framed_with, same_source, framed, Grown, grown}

abbrev Outcome : Type 0
Outcome = Result Accepted Code

-- the literals are known
abbrev IsWhole : Known → Type 0
IsWhole Whole = Unit {0}
IsWhole FacetsAlone = ⊥
IsWhole Neither = ⊥

whole_is : (known : Known) → IsWhole known → known ≡ Whole
whole_is Whole h = refl
whole_is FacetsAlone h = absurd h
whole_is Neither h = absurd h

whole_from : (known : Known) → IsWhole (made_from known) → IsWhole known
whole_from Whole h = tt
whole_from FacetsAlone h = absurd h
whole_from Neither h = absurd h

whole_from_both : (a b : Known) → IsWhole (made_from_both a b) → IsWhole a × IsWhole b
whole_from_both Whole b h = (tt, whole_from b h)
whole_from_both FacetsAlone b h = absurd h
whole_from_both Neither b h = absurd h

whole_behind : (known : Known) (made : Option Facets) → IsWhole (known_behind known made) → IsWhole known
whole_behind known None h = absurd h
whole_behind known (Some facets) h = h

whole_front : (members : MemberTrees) (front : Members) (front_known : Known) (all : Members) (known : Known) → AreMembers members front front_known all known → IsWhole known → IsWhole front_known
whole_front no_member front front_known all known is h = subst IsWhole is.1 h
whole_front (member first rest) front front_known all known is h =
    (whole_from_both front_known is.1 (whole_front rest (with_member front is.0) (made_from_both front_known is.1) all known is.3 h)).0

made_whole : (tree : TypeTree) (facets : Facets) (known : Known) → IsWhole known → AreInForce tree facets known → IsMade tree facets
made_whole tree facets known h is = subst (AreInForce tree facets) (whole_is known h) is

trial_map : (answer : Outcome) (A B : Type 0) (outcome : Outcome) → (A → B) → IsTrialThen answer A outcome → IsTrialThen answer B outcome
trial_map (Ok accepted) A B outcome f t = t
trial_map (Err code) A B outcome f t = by (is_limit code) t
  where
    by : (l : Bool) → IsTrialIf l code A outcome → IsTrialIf l code B outcome
    by true t = t
    by false t = f t

module _ (scope : Scope) (text : List ℕ) where
  -- a type tried where it stands among the members of a union
  abbrev InTurn : Members → Source → FacetList → List Member → List Gate → Outcome → Type 0
  InTurn front source own more later outcome =
      (answer : Outcome) × IsSourceRead source own scope text answer
      × IsTrialThen answer (AreMembersTried ((with_source front source own).gates ++ later) scope text (length (with_source front source own).members) (length (with_source front source own).members) more outcome) outcome

  in_turn : (front : Members) (source : Source) (own : FacetList) (more : List Member) (later : List Gate) (outcome : Outcome) → IsFramed front → IsFramedSource source
      → StartFrom (length (with_source front source own).members) later
      → AreMembersTried ((with_source front source own).gates ++ later) scope text (length front.members) (length front.members) (own_members source own ++ more) outcome
      → InTurn front source own more later outcome
  in_turn front (OfLiterals literals) own more later outcome h s behind t =
      let one : Member = record { literals = literals; list = own } in
      let next : length (front.members ++ one ∷ []) ≡ length front.members + 1 = length-append front.members (one ∷ []) in
      let r = one_in_turn (IsMemberRead scope text) (length front.members) front.gates later one more outcome h (subst (λ n. StartFrom n later) next behind) t in
      (r.0, r.1, subst (λ n. IsTrialThen r.0 (AreMembersTried (front.gates ++ later) scope text n n more outcome) outcome) (sym next) r.2)
  in_turn front (OfUnion others) own more later outcome h s behind t =
      let n = length front.members in
      let next : length (front.members ++ others.members) ≡ n + length others.members = length-append front.members others.members in
      let same : (with_union front others own).gates ++ later ≡ front.gates ++ (moved_on n others.gates ++ gate n (n + length others.members) own ∷ later) =
      ap (λ e. ((front.gates ++ moved_on n others.gates) ++ gate n e own ∷ []) ++ later) next
      ∙ append_assoc (front.gates ++ moved_on n others.gates) (gate n (n + length others.members) own ∷ []) later
      ∙ append_assoc front.gates (moved_on n others.gates) (gate n (n + length others.members) own ∷ later) in
      let r = union_in_turn (IsMemberRead scope text) n front.gates others.gates later own others.members more outcome h s (subst (λ n. StartFrom n later) next behind)
      (subst (λ gates. AreMembersTried gates scope text n n (others.members ++ more) outcome) same t) in (
        r.0,
        r.1,
        subst (λ e. IsTrialThen r.0 (AreMembersTried ((with_union front others own).gates ++ later) scope text e e more outcome) outcome) (sym next)
            (subst (λ gates. IsTrialThen r.0 (AreMembersTried gates scope text (n + length others.members) (n + length others.members) more outcome) outcome) (sym same) r.2),
      )

-- the members of a union that are atomic
abbrev AreAlike : List Plain → List Member → Type 0
AreAlike [] [] = Unit {0}
AreAlike [] (m ∷ ms) = ⊥
AreAlike (p ∷ ps) [] = ⊥
AreAlike (p ∷ ps) (m ∷ ms) = (m ≡ record { literals = OfBuiltin p.kind; list = p.list }) × AreAlike ps ms

alike_length : (ps : List Plain) (ms : List Member) → AreAlike ps ms → length ps ≡ length ms
alike_length [] [] is = refl
alike_length [] (m ∷ ms) is = absurd is
alike_length (p ∷ ps) [] is = absurd is
alike_length (p ∷ ps) (m ∷ ms) is = ap (λ n. suc n) (alike_length ps ms is.1)

abbrev Plains : List Plain → List Member → List Plain → Type 0
Plains front members plains = (more : List Plain) × (plains ≡ front ++ more) × AreAlike more members

plains_alike : (members : List Member) (front plains : List Plain) → plains_behind front members ≡ Some plains → Plains front members plains
plains_alike [] front plains e = ([], sym (same_Some front plains e) ∙ sym (append-nil front), tt)
plains_alike (m ∷ ms) front plains e = by m.literals refl e (plains_alike ms)
  where
    by_item : (kind : Builtin) (item : Option Builtin) → m.literals ≡ OfBuiltin kind → plains_if (atomic_if item kind) m.list front (λ plains. plains_behind plains ms) ≡ Some plains
        → ((front plains : List Plain) → plains_behind front ms ≡ Some plains → Plains front ms plains) → Plains front (m ∷ ms) plains
    by_item kind (Some item) is e rec = absurd (none-some plains e)
    by_item kind None is e rec =
        let one : Plain = record { kind = kind; list = m.list } in
        let r = rec (front ++ one ∷ []) plains e in
        (one ∷ r.0, r.1 ∙ append_assoc front (one ∷ []) r.0, (ap (λ (l : Literals). record { literals = l; list = m.list }) is, r.2))

    by : (literals : Literals) → m.literals ≡ literals → plains_if (atomic_kind literals) m.list front (λ plains. plains_behind plains ms) ≡ Some plains
        → ((front plains : List Plain) → plains_behind front ms ≡ Some plains → Plains front ms plains) → Plains front (m ∷ ms) plains
    by (OfList choices) is e rec = absurd (none-some plains e)
    by (OfBuiltin kind) is e rec = by_item kind (item_type kind) is e rec

module _ (gates : List Gate) (scope : Scope) (text : List ℕ) where
  turned_map : (turn : Turn) (A B : ℕ → Type 0) (outcome : Outcome) → ((next : ℕ) → A next → B next) → IsTurned turn A outcome → IsTurned turn B outcome
  turned_map (Ends answer) A B outcome f t = t
  turned_map (From next) A B outcome f t = f next t

  alike_tried : (ps : List Plain) (ms : List Member) → AreAlike ps ms → (index start : ℕ) (outcome : Outcome) → ArePlainsTried gates scope text index start ps outcome → AreMembersTried gates scope text index start ms outcome
  alike_tried [] [] is index start outcome t = t
  alike_tried [] (m ∷ ms) is index start outcome t = absurd is
  alike_tried (p ∷ ps) [] is index start outcome t = absurd is
  alike_tried (p ∷ ps) (m ∷ ms) is index start outcome t = by (nat_lt index start) t (λ next. alike_tried ps ms is.1 (index + 1) next outcome)
    where
      by : (b : Bool) → IsTriedIf (IsPlainRead scope text) gates b p index start (λ next. ArePlainsTried gates scope text (index + 1) next ps outcome) outcome
          → ((next : ℕ) → ArePlainsTried gates scope text (index + 1) next ps outcome → AreMembersTried gates scope text (index + 1) next ms outcome)
          → IsTriedIf (IsMemberRead scope text) gates b m index start (λ next. AreMembersTried gates scope text (index + 1) next ms outcome) outcome
      by true t rec = rec start t
      by false t rec = (
        t.0,
        t.1,
        subst (λ (m : Member). IsMemberRead scope text m t.0) (sym is.0) t.2,
        t.3,
        turned_map t.1 (λ next. ArePlainsTried gates scope text (index + 1) next ps outcome) (λ next. AreMembersTried gates scope text (index + 1) next ms outcome) outcome rec t.4,
      )

-- what a list makes of what an item comes to
abbrev IsSame : Outcome → Outcome → Type 0
IsSame (Ok accepted) first = first ≡ Ok accepted
IsSame (Err code) first = first ≡ Err (item_code code)

same_of_trial : (answer first : Outcome) → IsTrialThen answer (first ≡ Err CvcDatatypeValid1) first → IsSame answer first
same_of_trial (Ok accepted) first t = t
same_of_trial (Err code) first t = by (is_limit code) refl t
  where
    by : (l : Bool) → is_limit code ≡ l → IsTrialIf l code (first ≡ Err CvcDatatypeValid1) first → first ≡ Err (item_code code)
    by true e t = subst (λ l. first ≡ Err (if l then code else CvcDatatypeValid1)) (sym e) t
    by false e t = subst (λ l. first ≡ Err (if l then code else CvcDatatypeValid1)) (sym e) t

module _ (own : FacetList) (choices : Choices) (scope : Scope) (text : List ℕ) (first : Outcome) (read : IsItemRead choices scope text first) where
  abbrev ItemIn : Source → Type 0
  ItemIn source = (answer : Outcome) × IsSourceRead source own scope text answer × IsSame answer first

  item_built : (kind : Builtin) (item : Option Builtin) → choice_if (atomic_if item kind) own ≡ Some choices → ItemIn (OfLiterals (OfBuiltin kind))
  item_built kind (Some item) e = absurd (none-some choices e)
  item_built kind None e =
      let one : Plain = record { kind = kind; list = own } in
      let only : Choices = record { members = one ∷ []; gates = [] } in
      let r = one_in_turn (IsPlainRead scope text) 0 [] [] one [] first tt tt (subst (λ (c : Choices). IsItemRead c scope text first) (sym (same_Some only choices e)) read) in
      (r.0, r.1, same_of_trial r.0 first r.2)

  item_union : (members : Members) → IsFramed members → (o : Option (List Plain)) → plains_behind [] members.members ≡ o → union_choice members own o ≡ Some choices → ItemIn (OfUnion members)
  item_union members s None is e = absurd (none-some choices e)
  item_union members s (Some plains) is e =
      let alike = plains_alike members.members [] plains is in
      let as' : AreAlike plains members.members = subst (λ ps. AreAlike ps members.members) (sym alike.1) alike.2 in
      let many : length plains ≡ 0 + length members.members = alike_length plains members.members as' ∙ omega arith in
      let made : Choices = record { members = plains; gates = ([] ++ moved_on 0 members.gates) ++ gate 0 (length plains) own ∷ [] } in
      let plain = subst (λ (c : Choices). IsItemRead c scope text first) (sym (same_Some made choices e)) read in
      let tried = alike_tried made.gates scope text plains members.members as' 0 0 first plain in
      let placed = subst (λ e. AreMembersTried (moved_on 0 members.gates ++ gate 0 e own ∷ []) scope text 0 0 members.members first) many tried in
      let r = union_in_turn (IsMemberRead scope text) 0 [] members.gates [] own members.members [] first tt s tt
      (subst (λ ms. AreMembersTried (moved_on 0 members.gates ++ gate 0 (0 + length members.members) own ∷ []) scope text 0 0 ms first) (sym (append-nil members.members)) placed) in
      (r.0, r.1, same_of_trial r.0 first r.2)

  item_in : (source : Source) → IsFramedSource source → choices_by source own ≡ Some choices → ItemIn source
  item_in (OfLiterals (OfBuiltin kind)) s e = item_built kind (item_type kind) e
  item_in (OfLiterals (OfList of)) s e = absurd (none-some choices e)
  item_in (OfUnion members) s e = item_union members s (plains_behind [] members.members) refl e

module _ (choices : Choices) (scope : Scope) (IsItem : List ℕ → Outcome → Type 0)
    (item : (text : List ℕ) (first : Outcome) → IsItemRead choices scope text first → (answer : Outcome) × IsItem text answer × IsSame answer first) where
  list_items : (texts : List (List ℕ)) (front : List TypedAtom) (outcome : Result (List TypedAtom) Code) → AreItemsRead choices scope front texts outcome → AreItems IsItem front texts outcome
  list_items [] front outcome t = t
  list_items (text ∷ texts) front outcome t =
      let i = item text t.0 t.1 in by i.0 i.1 i.2 (λ atoms. list_items texts (front ++ atoms) outcome)
    where
      by : (answer : Outcome) → IsItem text answer → IsSame answer t.0 → ((atoms : List TypedAtom) → AreItemsRead choices scope (front ++ atoms) texts outcome → AreItems IsItem (front ++ atoms) texts outcome) → AreItems IsItem front (text ∷ texts) outcome
      by (Ok accepted) is same rec =
          (Ok accepted, is, rec (atoms_in accepted.value) (subst (λ first. IsItemThen first (λ atoms. AreItemsRead choices scope (front ++ atoms) texts outcome) outcome) same t.2))
      by (Err code) is same rec =
          (Err code, is, subst (λ first. IsItemThen first (λ atoms. AreItemsRead choices scope (front ++ atoms) texts outcome) outcome) same t.2)

  list_if : (b : Bool) (list : FacetList) (text : List ℕ) (outcome : Outcome) → IsListReadIf b choices list scope text outcome → IsListIf IsItem b list text outcome
  list_if true list text outcome t = t
  list_if false list text outcome t = (t.0, list_items (items text) [] t.0 t.1, t.2)

  list_read : (list : FacetList) (text : List ℕ) (outcome : Outcome) → IsListRead choices list scope text outcome → IsList IsItem list text outcome
  list_read list text outcome t = list_if (nat_lt 65_536 (length (items (normalized (way_of list) text)))) list (normalized (way_of list) text) outcome t

abbrev Literals_are : TypeTree → Facets → Type 0
Literals_are tree of = (list : FacetList) (scope : Scope) (text : List ℕ) (outcome : Outcome) → IsSourceRead of.source list scope text outcome → IsLiteral tree list scope text outcome

list_literal : (item : TypeTree) (of : Facets) (item_known : Known) (made : AreInForce item of item_known) → (c : Option Choices) → choices_of of ≡ c → (facets : Facets) (known : Known) → IsListKnown (list_by c) item_known facets known → IsWhole known
    → (IsWhole item_known → Literals_are item of) → Literals_are (list_type item) facets
list_literal item of item_known made None e facets known is h rec list scope text outcome t = absurd (subst IsWhole is.1 h)
list_literal item of item_known made (Some choices) e facets known is h rec list scope text outcome t =
    let whole = whole_from item_known (subst IsWhole is.1 h) in
    list_read choices scope (λ part answer. (of : Facets) × IsMade item of × IsLiteral item of.list scope part answer)
    (λ part first read.
    let i = item_in of.list choices scope part first read of.source (framed item of item_known made) e in
    (i.0, (of, made_whole item of item_known whole made, rec whole of.list scope part i.0 i.1), i.2))
    list text outcome (subst (λ (f : Facets). IsSourceRead f.source list scope text outcome) is.0 t)

mutual
  literal : (tree : TypeTree) (facets : Facets) (known : Known) → AreInForce tree facets known → IsWhole known → Literals_are tree facets
  literal not_simple facets known is h list scope text outcome t = absurd (subst IsWhole is.1 h)
  literal (built_in kind) facets known is h list scope text outcome t = subst (λ (f : Facets). IsSourceRead f.source list scope text outcome) is.0 t
  literal (restriction base step) facets known is h list scope text outcome t =
      literal base is.0 is.1 is.3 (whole_behind is.1 is.2.facets (subst IsWhole is.6 h)) list scope text outcome
      (subst (λ source. IsSourceRead source list scope text outcome) (ap (λ (f : Facets). f.source) is.5 ∙ same_source is.0 is.1 step is.2 is.4) t)
  literal (list_type item) facets known is h list scope text outcome t =
      list_literal item is.0 is.1 is.2 (choices_of is.0) refl facets known is.3 h (λ whole. literal item is.0 is.1 is.2 whole) list scope text outcome t
  literal (union_type members) facets known is h list scope text outcome t =
      let t' = subst (λ (f : Facets). IsSourceRead f.source list scope text outcome) is.2 t in
      (t'.0, tried members no_members Whole is.0 known is.1 h tt scope text t'.0 t'.1, t'.2)

  tried : (members : MemberTrees) (front : Members) (front_known : Known) (all : Members) (known : Known) → AreMembers members front front_known all known → IsWhole known → IsFramed front
      → (scope : Scope) (text : List ℕ) (outcome : Outcome) → AreMembersTried all.gates scope text (length front.members) (length front.members) (drop (length front.members) all.members) outcome → AreTried members scope text outcome
  tried no_member front front_known all known is h framed' scope text outcome t =
      let none : drop (length front.members) all.members ≡ [] =
      ap (λ ms. drop (length front.members) ms) (ap (λ (m : Members). m.members) is.0 ∙ sym (append-nil front.members)) ∙ drop-append_seam front.members [] in
      subst (λ ms. AreMembersTried all.gates scope text (length front.members) (length front.members) ms outcome) none t
  tried (member first rest) front front_known all known is h framed' scope text outcome t =
      let of : Facets = is.0 in
      let front' : Members = with_member front of in
      let next_known : Known = made_from_both front_known is.1 in
      let g : Grown front' all = grown rest front' next_known all known is.3 in
      let own : List Member = own_members of.source of.list in
      let source_framed = framed first of is.1 is.2 in
      let whole = (whole_from_both front_known is.1 (whole_front rest front' next_known all known is.3 h)).1 in
      let behind : drop (length front.members) all.members ≡ own ++ g.members =
      ap (λ ms. drop (length front.members) ms) (g.are_members ∙ ap (λ ms. ms ++ g.members) (members_with front of.source of.list) ∙ append_assoc front.members own g.members)
      ∙ drop-append_seam front.members (own ++ g.members) in
      let behind' : drop (length front'.members) all.members ≡ g.members =
      ap (λ ms. drop (length front'.members) ms) g.are_members ∙ drop-append_seam front'.members g.members in
      let t' = subst (λ ms. AreMembersTried (front'.gates ++ g.gates) scope text (length front.members) (length front.members) ms outcome) behind
      (subst (λ gates. AreMembersTried gates scope text (length front.members) (length front.members) (drop (length front.members) all.members) outcome) g.are_gates t) in
      let r = in_turn scope text front of.source of.list g.members g.gates outcome framed' source_framed g.behind t' in (
        of,
        r.0,
        made_whole first of is.1 whole is.2,
        literal first of is.1 is.2 whole of.list scope text r.0 r.1,
        trial_map r.0 (AreMembersTried (front'.gates ++ g.gates) scope text (length front'.members) (length front'.members) g.members outcome) (AreTried rest scope text outcome) outcome
            (λ more. tried rest front' next_known all known is.3 h (framed_with front of.source of.list framed' source_framed) scope text outcome
            (subst (λ ms. AreMembersTried all.gates scope text (length front'.members) (length front'.members) ms outcome) (sym behind')
            (subst (λ gates. AreMembersTried gates scope text (length front'.members) (length front'.members) g.members outcome) (sym g.are_gates) more)))
            r.2,
      )

-- what a type reads is what it comes to
pub read_is_valid : (tree : TypeTree) (facets : Facets) → IsMade tree facets → (scope : Scope) (text : List ℕ) (outcome : Outcome) → IsRead facets scope text outcome → IsValid tree scope text outcome
read_is_valid tree facets made scope text outcome read = (facets, made, literal tree facets Whole made tt facets.list scope text outcome read)
