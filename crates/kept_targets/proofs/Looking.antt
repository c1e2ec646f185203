-- Each element of a document is looked at, where those are that have come, have other texts, attributes or names, or whose place among
-- others with an ambivalent name is another.
use Rattle.std.proofs.Common.{◌≡◌, ◌≢◌, ◌⊎◌, ◌≤◌, ℕ, zero, suc, Bool, true, false, List, [], ◌∷◌, map, Option, None, Some, inl, inr, refl, sym, ap, ◌∙◌, subst, arith}
use Rattle.std.specs.Prelude.{slice_get, unwrap_or}
use Rattle.std.specs.Option.{option_and_then, option_map}
use Rattle.std.proofs.lemmas.Bool.{cases_eq, false≢true}
use Rattle.std.proofs.lemmas.Option.{none-some, same_Some}
use Rattle.tree_rows.specs.Forest.{Document}
use Rattle.assess_records.specs.Instance.{instance_text}
use Rattle.assess_records.specs.declared.instance_names.InstanceAttribute.TheVariants.{TypeName}
use Rattle.assessment.specs.Attribution.{SchemaSet}
use Rattle.elem_governing.specs.Governing.{govern_child, govern_root}
use Rattle.elem_governing.specs.declared.pairs.Governing.{Governing}
use Rattle.compiled_schema.specs.Usable.{set_of}
use Rattle.compiled_schema.specs.declared.compiled.Compiled.{Compiled}
use Rattle.model_terms.specs.Symbols.{child_symbols}
use Rattle.model_terms.specs.Terms.{term_in}
use Rattle.doc_nodes.specs.Nodes.{Nodes, IsSound, Has, Lacks, node, depth_by, is_element_at, element_children}
use Rattle.doc_changes.specs.Held.{parent_at}
use Rattle.doc_changes.specs.Readers.{name_at}
use Rattle.doc_nodes.specs.declared.content.NameAttribute.{NameAttribute}
use Rattle.doc_readers.specs.Heads.{text_named, texts_named}
use Rattle.kept_slots.specs.Slots.{at}
use Rattle.child_lists.specs.Family.{marked_places}
use Rattle.child_lists.specs.from_kept_forgetting.Below.{upwards}
use Rattle.child_lists.proofs.Edits.{get-map}
use Rattle.child_lists.proofs.Terms.{terms-same}
use Rattle.child_lists.proofs.from_kept_forgetting.Walks.{below-within, child-below}
use Rattle.child_lists.proofs.from_kept_forgetting.Placed.{has-at, child-place, children-differ, one-place, parent-element, root-alone}
use Rattle.child_lists.proofs.from_kept_judging.Heads.{root-element}
use Rattle.child_lists.proofs.from_kept_records.Frames.{map-same}
use Rattle.child_lists.proofs.from_kept_records.Made.{made-elements}
use Rattle.child_lists.proofs.from_kept_records.Nodes.{has-element}
use Rattle.child_lists.specs.from_kept_records.KeptElement.{KeptElement}
use Rattle.child_lists.specs.from_kept_records.Slots.{IsMade, blank, kept_at, pair_at}
use Rattle.child_lists.specs.from_kept_records.Fit.{models_of, model_at, symbols_at, head_at, IsFit}
use Rattle.child_lists.specs.from_kept_state.KeptState.{KeptState}
use Rattle.kept_targets.specs.Kept.{sign_at, sign_of}
use Rattle.kept_targets.specs.Moved.{IsLookedAt, IsMarked, IsLookedAt as looked}
use Rattle.kept_targets.specs.Turned.{Stays, Turns, own_of, listed_of, list_of}
use Rattle.kept_targets.specs.Whole.{IsWhole}
use Rattle.kept_targets.proofs.Links.{child-up, parent-lower}
use Rattle.kept_targets.specs.declared.keys.ElementSign.{ElementSign}
use Rattle.kept_targets.specs.declared.turn.Turn.{Turn}
use Rattle.kept_targets.specs.declared.turn.Turn.TheVariants as turns

-- ---- one document

module _ (c : Compiled) (ns : Nodes) (k : KeptState) (whole : IsWhole c ns k) where
  abbrev pub doc : Document
  doc = whole.beside.over.0

  pub sound : IsSound ns
  sound = whole.beside.over.1.stands.links

  pub fit-of : (n : ℕ) → IsMade k.records.slots n → IsFit (set_of c) (models_of c) ns k.records.slots k.lists k.root_ids n
  fit-of n made = whole.fit n made tt

  -- the name in its record is its own
  pub record-name : (n : ℕ) → IsMade k.records.slots n → (kept_at k.records.slots n).found.element.name ≡ name_at ns n
  record-name n made = ap (λ r. r.name) (fit-of n made).known.known.record_is

  pub sign-is : (n : ℕ) → IsMade k.records.slots n → sign_at k.records.slots n ≡ Some (record { name = name_at ns n; pair = pair_at k.records.slots n })
  sign-is n made =
      let there : kept_at k.records.slots n ≡ made.0 = ap (λ (o : Option KeptElement). unwrap_or o blank) made.1 in
      ap (option_map sign_of) made.1 ∙ ap (λ (own : KeptElement). Some (sign_of own)) (sym there) ∙ ap (λ (name : ℕ). Some (record { name = name; pair = pair_at k.records.slots n })) (record-name n made)

  pub made-of : (n : ℕ) → is_element_at ns n ≡ true → IsMade k.records.slots n
  made-of n is =
      let over = whole.beside.over in
      made-elements c ns k.records.slots k.lists k.root_ids over.0 (record { over = over.1; top = whole.top; fit = whole.fit }) n (has-element c.names ns over.0 over.1.stands n is)

  pub element-of : (n : ℕ) → IsMade k.records.slots n → is_element_at ns n ≡ true
  element-of n made = whole.beside.over.1.only n made

  pub root-there : is_element_at ns 1 ≡ true
  root-there = root-element c.names ns doc whole.beside.over.1.stands

  pub above-there : (n p : ℕ) → parent_at ns n ≡ Some p → is_element_at ns p ≡ true
  above-there n p up = parent-element c.names ns doc whole.beside.over.1.stands n p up

-- ---- small choices

is-it : (o : Option ℕ) (n : ℕ) → (o ≡ Some n) ⊎ (o ≢ Some n)
is-it None n = inr (λ e. none-some n e)
is-it (Some m) n = elim (cases_eq m n) [ inl e ↦ inl (ap Some e) | inr off ↦ inr (λ e. off (same_Some m n e)) ]

has-or-lacks : (n : ℕ) (xs : List ℕ) → Has n xs ⊎ Lacks n xs
has-or-lacks n [] = inr tt
has-or-lacks n (x ∷ xs) =
    elim (cases_eq x n) [ inl e ↦ inl (inl e) | inr off ↦ elim (has-or-lacks n xs) [ inl later ↦ inl (inr later) | inr none ↦ inr (off, none) ] ]

pub listed-own : (turn : Turn) (n : ℕ) → listed_of turn ≡ Some n → own_of turn ≡ Some n
listed-own (turns.Own m) n e = absurd (none-some n e)
listed-own (turns.Listed m) n e = e
listed-own (turns.Gone p numbers) n e = absurd (none-some n e)

-- the parent of the one that is listed is the one whose child elements are others
listed-below : (ns : Nodes) (turn : Turn) (n p : ℕ) → listed_of turn ≡ Some n → parent_at ns n ≡ Some p → list_of ns turn ≡ Some p
listed-below ns (turns.Own m) n p e up = absurd (none-some n e)
listed-below ns (turns.Listed m) n p e up = ap (parent_at ns) (same_Some m n e) ∙ up
listed-below ns (turns.Gone q numbers) n p e up = absurd (none-some n e)

-- ---- two documents

module _ (c : Compiled) (ns ms : Nodes) (k l : KeptState) (turn : Turn) (old : IsWhole c ns k) (new : IsWhole c ms l) (turned : Turns ns ms turn) where
  abbrev s : SchemaSet
  s = set_of c

  pub texts-stay : (n : ℕ) → Stays ns ms n → own_of turn ≢ Some n → texts_named ms n ≡ texts_named ns n
  texts-stay n stays off = ap (λ (attributes : List NameAttribute). map text_named attributes) (turned.attributes n stays off)

  pub head-stays : (n : ℕ) → Stays ns ms n → own_of turn ≢ Some n → head_at s ms n ≡ head_at s ns n
  head-stays n stays off =
      let name = turned.names n stays (λ e. off (listed-own turn n e)) in
      let texts = texts-stay n stays off in
      let scope = turned.scopes n stays in
      λ i. record { name = name i; xsi = instance_text s.names (texts i) TypeName; scope = scope i }

  -- with the name and the pair that it had, it has the sign that it had
  sign-stays : (n : ℕ) → Stays ns ms n → listed_of turn ≢ Some n → pair_at l.records.slots n ≡ pair_at k.records.slots n → sign_at k.records.slots n ≡ sign_at l.records.slots n
  sign-stays n stays off pairs =
      let names = turned.names n stays off in
      sign-is c ns k old n (made-of c ns k old n stays.before) ∙ (λ i. Some (record { name = sym names i; pair = sym pairs i })) ∙ sym (sign-is c ms l new n (made-of c ms l new n stays.after))

  -- what an element with the sign that it had has
  pub record IsAsBefore (n : ℕ) : Type 0 where
    pub stays : Stays ns ms n
    pub name : name_at ms n ≡ name_at ns n
    pub pair : pair_at l.records.slots n ≡ pair_at k.records.slots n

  pub as-before : (n : ℕ) → is_element_at ms n ≡ true → sign_at k.records.slots n ≡ sign_at l.records.slots n → IsAsBefore n
  as-before n is e = by (at k.records.slots n) refl
    where
      by : (o : Option KeptElement) → at k.records.slots n ≡ o → IsAsBefore n
      by None none =
          absurd (none-some (record { name = name_at ms n; pair = pair_at l.records.slots n })
          (sym (ap (option_map sign_of) none) ∙ e ∙ sign-is c ms l new n (made-of c ms l new n is)))
      by (Some own) there =
          let made : IsMade k.records.slots n = (own, there) in
          let same = same_Some (record { name = name_at ms n; pair = pair_at l.records.slots n }) (record { name = name_at ns n; pair = pair_at k.records.slots n })
          (sym (sign-is c ms l new n (made-of c ms l new n is)) ∙ sym e ∙ sign-is c ns k old n made) in
          record { stays = record { before = element-of c ns k old n made; after = is }; name = ap (λ (x : ElementSign). x.name) same; pair = ap (λ (x : ElementSign). x.pair) same }

  -- what is above an element that stays has stayed as well
  pub stays-above : (n p : ℕ) → Stays ns ms n → parent_at ms n ≡ Some p → Stays ns ms p
  stays-above n p stays up = record { before = above-there c ns k old n p (sym (turned.parents n stays) ∙ up); after = above-there c ms l new n p up }

  pub within-stays : (levels n r : ℕ) → Stays ns ms n → upwards ms levels n ≡ Some r → Stays ns ms r
  within-stays zero n r stays e = subst (Stays ns ms) (same_Some n r e) stays
  within-stays (suc levels) n r stays e = by (parent_at ms n) refl e (λ p up w. within-stays levels p r (stays-above n p stays up) w)
    where
      by : (o : Option ℕ) → parent_at ms n ≡ o → option_and_then (upwards ms levels) o ≡ Some r → ((p : ℕ) → parent_at ms n ≡ Some p → upwards ms levels p ≡ Some r → Stays ns ms r) → Stays ns ms r
      by None none w on = absurd (none-some r w)
      by (Some p) up w on = on p up w

  -- below one that stays, what is not the own one of the turn stays
  pub child-stays : (q n : ℕ) → Stays ns ms q → parent_at ms n ≡ Some q → is_element_at ms n ≡ true → own_of turn ≢ Some n → Stays ns ms n
  child-stays q n stays up is off = by (is_element_at ns n) refl
    where
      came : is_element_at ns n ≡ false → ⊥
      came e =
          let come = turned.come n is e in
          climb come.0 come.1 come.2 come.3.0 come.3.1
        where
          climb : (own : ℕ) → listed_of turn ≡ Some own → is_element_at ns own ≡ false → (levels : ℕ) → upwards ms levels n ≡ Some own → ⊥
          climb own listed fresh zero w = off (listed-own turn n (listed ∙ ap Some (sym (same_Some n own w))))
          climb own listed fresh (suc levels) w =
              false≢true (sym fresh ∙ (within-stays levels q own stays (sym (ap (option_and_then (upwards ms levels)) up) ∙ w)).before)

      by : (b : Bool) → is_element_at ns n ≡ b → Stays ns ms n
      by true e = record { before = e; after = is }
      by false e = absurd (came e)

  -- ---- where the child elements are those that were there, each has its name

  module _ (q : ℕ) (there : Stays ns ms q) (other : list_of ms turn ≢ Some q) where
    pub children-stay : element_children ms q ≡ element_children ns q
    children-stay = turned.children q there other

    name-stays : (i x : ℕ) → slice_get (element_children ms q) i ≡ Some x → name_at ms x ≡ name_at ns x
    name-stays i x e =
        let below = child-up ms (sound c ms l new) q x (has-at (element_children ms q) i x e) in
        let before = child-up ns (sound c ns k old) q x (subst (Has x) children-stay (has-at (element_children ms q) i x e)) in
        turned.names x (record { before = before.1; after = below.1 }) (λ listed. other (listed-below ms turn x q listed below.0))

    pub names-stay : map (name_at ms) (element_children ms q) ≡ map (name_at ns) (element_children ns q)
    names-stay = map-same (name_at ms) (name_at ns) (element_children ms q) name-stays ∙ ap (map (name_at ns)) children-stay

  -- ---- governing

  module _ (q n : ℕ) (same : IsAsBefore q) (up : parent_at ms n ≡ Some q) (stays : Stays ns ms n) (off : own_of turn ≢ Some n) where
    abbrev place : (place : ℕ) × (slice_get (element_children ms q) place ≡ Some n)
    place = child-place ms (sound c ms l new) n q up stays.after

    abbrev was : (place : ℕ) × (slice_get (element_children ns q) place ≡ Some n)
    was = child-place ns (sound c ns k old) n q (sym (turned.parents n stays) ∙ up) stays.before

    -- by the same term
    by-term : term_in (model_at s (models_of c) ms l.records.slots q) (symbols_at s (models_of c) ms l.records.slots q) place.0 ≡ term_in (model_at s (models_of c) ns k.records.slots q) (symbols_at s (models_of c) ns k.records.slots q) was.0
        → pair_at l.records.slots n ≡ pair_at k.records.slots n
    by-term term =
        let now = ((fit-of c ms l new q (made-of c ms l new q same.stays.after)).gathered.given place.0 n place.1).pair_is in
        let then = ((fit-of c ns k old q (made-of c ns k old q same.stays.before)).gathered.given was.0 n was.1).pair_is in
        let head = head-stays n stays off in
        now ∙ (λ i. govern_child s.names s.parts (same.pair i).mode (term i) (head i).name (head i).xsi (head i).scope) ∙ sym then

    get-name : (xs : List ℕ) (i : ℕ) (f : ℕ → ℕ) → slice_get xs i ≡ Some n → slice_get (map f xs) i ≡ Some (f n)
    get-name xs i f e = get-map f xs i n e

    -- where its name is not ambivalent, the term goes by the name
    unmarked : Lacks place.0 (marked_places (model_at s (models_of c) ms l.records.slots q) (symbols_at s (models_of c) ms l.records.slots q)) → pair_at l.records.slots n ≡ pair_at k.records.slots n
    unmarked lacks =
        let name = turned.names n stays (λ e. off (listed-own turn n e)) in
        by-term
        (terms-same s.names (model_at s (models_of c) ms l.records.slots q) (map (name_at ms) (element_children ms q)) (map (name_at ns) (element_children ns q)) place.0 was.0 (name_at ms n)
        (get-name (element_children ms q) place.0 (name_at ms) place.1)
        (get-name (element_children ns q) was.0 (name_at ns) was.1 ∙ ap Some (sym name)) lacks
        ∙ ap (λ (g : Governing). term_in (models_of c g.of) (child_symbols s.names (models_of c g.of) (map (name_at ns) (element_children ns q))) was.0) same.pair)

    -- where the child elements are those that were there, it has its place
    module _ (other : list_of ms turn ≢ Some q) where
      in-place : pair_at l.records.slots n ≡ pair_at k.records.slots n
      in-place =
          let same-place : place.0 ≡ was.0 =
          one-place (element_children ns q) place.0 was.0 n (children-differ ns (sound c ns k old) q) (ap (λ xs. slice_get xs place.0) (sym (children-stay q same.stays other)) ∙ place.1) was.1 in
          let names = names-stay q same.stays other in
          by-term (λ i. term_in (models_of c (same.pair i).of) (child_symbols s.names (models_of c (same.pair i).of) (names i)) (same-place i))

  -- ---- all elements are looked at

  module _ (was : ℕ → Option ElementSign) (signs : (n : ℕ) → was n ≡ sign_at k.records.slots n) (moved : List ℕ)
      (own : (n : ℕ) → own_of turn ≡ Some n → is_element_at ms n ≡ true → IsLookedAt c.parts ms l.records.slots was moved n)
      (marked : (p n : ℕ) → list_of ms turn ≡ Some p → own_of turn ≢ Some n → IsMarked c ms l p n → IsLookedAt c.parts ms l.records.slots was moved n) where
    abbrev IsLooked : ℕ → Type 0
    IsLooked n = IsLookedAt c.parts ms l.records.slots was moved n

    governed : (n : ℕ) → Stays ns ms n → own_of turn ≢ Some n → pair_at l.records.slots n ≡ pair_at k.records.slots n → IsLooked n
    governed n stays off pairs = looked.same n (signs n ∙ sign-stays n stays (λ e. off (listed-own turn n e)) pairs)

    root-looked : IsLooked 1
    root-looked =
        let stays : Stays ns ms 1 = record { before = root-there c ns k old; after = root-there c ms l new } in
        elim (is-it (own_of turn) 1) [
          | inl e ↦ own 1 e (root-there c ms l new)
          | inr off ↦
              let head = head-stays 1 stays off in
              governed 1 stays off (new.top.pair_is ∙ (λ i. govern_root s.names s.parts (head i).name (head i).xsi (head i).scope) ∙ sym old.top.pair_is)
        ]

    module _ (q n : ℕ) (up : parent_at ms n ≡ Some q) (is : is_element_at ms n ≡ true) where
      there : Has n (element_children ms q)
      there = let at = child-place ms (sound c ms l new) n q up is in has-at (element_children ms q) at.0 n at.1

      below-same : IsAsBefore q → own_of turn ≢ Some n → IsLooked n
      below-same same off =
          let stays = child-stays q n same.stays up is off in
          elim (is-it (list_of ms turn) q) [
            | inl e ↦
                let at = place q n same up stays off in
                elim (has-or-lacks at.0 (marked_places (model_at s (models_of c) ms l.records.slots q) (symbols_at s (models_of c) ms l.records.slots q))) [
                  | inl has ↦ marked q n e off (record { place = at.0; there = at.1; marked = has })
                  | inr lacks ↦ governed n stays off (unmarked q n same up stays off lacks)
                ]
            | inr other ↦ governed n stays off (in-place q n same up stays off other)
          ]

      child-looked : IsLooked q → IsLooked n
      child-looked (looked.same p e) =
          elim (is-it (own_of turn) n) [ inl is_own ↦ own n is_own is | inr off ↦ below-same (as-before q (above-there c ms l new n q up) (sym (signs q) ∙ e)) off ]
      child-looked (looked.steady p was_sign now_sign has before after steady below) = below n there
      child-looked (looked.whole p all) = looked.whole n (λ m element within. all m element (below-within ms q m (child-below ms n q m up within)))

    looked-to : (levels n : ℕ) → is_element_at ms n ≡ true → depth_by (node ms n) ≤ levels → IsLooked n
    looked-to zero n is few = by (parent_at ms n) refl
      where
        by : (o : Option ℕ) → parent_at ms n ≡ o → IsLooked n
        by None none = subst IsLooked (sym (root-alone c.names ms (doc c ms l new) new.beside.over.1.stands n is none)) root-looked
        by (Some p) up = let deeper = parent-lower ms (sound c ms l new) n p up in absurd (omega (arith, deeper, few))
    looked-to (suc levels) n is few =
        by (parent_at ms n) refl (λ p up. looked-to levels p (above-there c ms l new n p up) (let deeper = parent-lower ms (sound c ms l new) n p up in omega (arith, deeper, few)))
      where
        by : (o : Option ℕ) → parent_at ms n ≡ o → ((p : ℕ) → parent_at ms n ≡ Some p → IsLooked p) → IsLooked n
        by None none on = subst IsLooked (sym (root-alone c.names ms (doc c ms l new) new.beside.over.1.stands n is none)) root-looked
        by (Some p) up on = child-looked p n up is (on p up)

    pub all-looked : (n : ℕ) → is_element_at ms n ≡ true → IsLooked n
    all-looked n is = looked-to (depth_by (node ms n)) n is (omega arith)
