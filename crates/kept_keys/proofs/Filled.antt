-- What is counted of the targets that are kept by number is right at each element of the document.
use Rattle.std.proofs.Common.{◌≡◌, ◌+◌, ◌≤◌, ◌==◌, ℕ, List, [], ◌∷◌, cond, Bool, true, false, Option, None, Some, refl, sym, ap, ◌∙◌, subst, inl, inr, arith, true≢false}
use Rattle.std.specs.Prelude.{filter}
use Rattle.std.specs.Option.{option_and_then}
use Rattle.std.proofs.lemmas.Bool.{eq-eqb}
use Rattle.std.proofs.lemmas.Option.{none-some}
use Rattle.tree_rows.specs.Forest.{Forest, none, text, element, Document, count}
use Rattle.tree_rows.specs.declared.limits.TheConstants.{MAX_DEPTH}
use Rattle.assessment.specs.Local.{HasElement}
use Rattle.identity_constraints.specs.Seen.{KeyElement, KeyForest}
use Rattle.identity_constraints.specs.Seen as keyed
use Rattle.identity_constraints.specs.Targets.{Outcome, outcomes}
use Rattle.identity_constraints.specs.Satisfied.{identity_codes}
use Rattle.xpath_subset.specs.declared.paths.IdentityPaths.{IdentityPaths}
use Rattle.xs_codes.specs.declared.fault.Found.{Found}
use Rattle.identity_constraints.specs.Counting.{Has as KeyHas, Lacks as KeyLacks, Distinct as KeyDistinct, IsLinked, Links, Numbers, StandFor, firsts}
use Rattle.identity_constraints.specs.Counting as numbers
use Rattle.what_is_found.specs.Identity.{seen, seen_element}
use Rattle.key_records.specs.Views.{AreCounted}
use Rattle.key_records.specs.Counted.{Feature, has, own_tuples, with_keys}
use Rattle.key_records.specs.Faults.{weight}
use Rattle.key_records.specs.Records.{AreRecords}
use Rattle.key_records.specs.declared.records.KeyTree.{KeyTree}
use Rattle.key_records.specs.declared.references.References.{References}
use Rattle.scope_targets.specs.Kin.{AreAbove, AreSeen, Kin}
use Rattle.scope_targets.specs.Targetings.{HasWithin, targetings_of, uses}
use Rattle.scope_targets.specs.Counted.{AreTargetsAlong, AreTargetsOf, counted_all, targets_at}
use Rattle.scope_targets.specs.Counted as counted
use Rattle.scope_targets.specs.Kept.{DifferUnseen, parent_of}
use Rattle.scope_targets.specs.Linked.{links_by}
use Rattle.forest_keys.specs.inside.Found.{count_in}
use Rattle.forest_keys.specs.inside.Records.{AreFilledAt}
use Rattle.forest_keys.proofs.Counts.{keys-counted}
use Rattle.compiled_schema.specs.declared.compiled.Compiled.{Compiled}
use Rattle.doc_nodes.specs.Nodes.{Node, Nodes, node, Has, Lacks, Distinct, children_by, is_element_at, element_children}
use Rattle.doc_changes.specs.Held.{parent_at}
use Rattle.kept_slots.specs.Slots.{at}
use Rattle.kept_above.specs.from_kept_records.KeptElement.{KeptElement}
use Rattle.kept_above.specs.from_kept_records.Found.{IsOver, found_in}
use Rattle.kept_above.specs.from_kept_records.Slots.{IsMade, KeptSlots, entry_at}
use Rattle.kept_above.proofs.from_kept_records.Made.{read}
use Rattle.kept_above.proofs.from_kept_records.Nodes.{root-numbers}
use Rattle.kept_above.specs.from_kept_state.KeptState.{KeptState}
use Rattle.kept_targets.specs.Kept.{AreTargets, kin_of}
use Rattle.kept_targets.specs.Seen.{seen_to}
use Rattle.kept_targets.specs.declared.keys.TargetKeys.{TargetKeys}
use Rattle.kept_targets.proofs.Down.{seen-down}
use Rattle.kept_targets.proofs.Links.{child-up}
use Rattle.kept_targets.proofs.Looking.{element-of, fit-of, made-of, root-there, sound}
use Rattle.kept_targets.proofs.Seeing.{seen-is}
use Rattle.kept_keys.specs.Keys.{IsWhole, codes_at}
use Rattle.kept_keys.proofs.Coding as coding
use Rattle.kept_keys.proofs.Numbered.{AreNumbered}
use Rattle.kept_keys.proofs.Whole.{made-there, numbered, seen-once, settled, there-made}

-- ---- child elements

kept-has : (f : ℕ → Bool) (x : ℕ) (xs : List ℕ) → Has x xs → f x ≡ true → Has x (filter f xs)
kept-has f x [] h is = absurd h
kept-has f x (y ∷ ys) h is = by (λ later. kept-has f x ys later is) (f y) refl h
  where
    by : (Has x ys → Has x (filter f ys)) → (b : Bool) → f y ≡ b → Has x (y ∷ ys) → Has x (cond b (y ∷ filter f ys) (filter f ys))
    by more true e (inl same) = inl same
    by more true e (inr later) = inr (more later)
    by more false e (inl same) = absurd (true≢false (sym is ∙ ap f (sym same) ∙ e))
    by more false e (inr later) = more later

kept-lacks : (f : ℕ → Bool) (x : ℕ) (xs : List ℕ) → Lacks x xs → Lacks x (filter f xs)
kept-lacks f x [] l = tt
kept-lacks f x (y ∷ ys) l = by (kept-lacks f x ys l.1) (f y)
  where
    by : Lacks x (filter f ys) → (b : Bool) → Lacks x (cond b (y ∷ filter f ys) (filter f ys))
    by more true = (l.0, more)
    by more false = more

kept-distinct : (f : ℕ → Bool) (xs : List ℕ) → Distinct xs → Distinct (filter f xs)
kept-distinct f [] d = tt
kept-distinct f (y ∷ ys) d = by (kept-distinct f ys d.1) (f y)
  where
    by : Distinct (filter f ys) → (b : Bool) → Distinct (cond b (y ∷ filter f ys) (filter f ys))
    by more true = (kept-lacks f y ys d.0, more)
    by more false = more

-- the same of the lists of links
key-has : (x : ℕ) (xs : List ℕ) → Has x xs → KeyHas x xs
key-has x [] h = h
key-has x (y ∷ ys) (inl same) = inl same
key-has x (y ∷ ys) (inr later) = inr (key-has x ys later)

has-key : (x : ℕ) (xs : List ℕ) → KeyHas x xs → Has x xs
has-key x [] h = h
has-key x (y ∷ ys) (inl same) = inl same
has-key x (y ∷ ys) (inr later) = inr (has-key x ys later)

key-lacks : (x : ℕ) (xs : List ℕ) → Lacks x xs → KeyLacks x xs
key-lacks x [] l = tt
key-lacks x (y ∷ ys) l = (l.0, key-lacks x ys l.1)

key-distinct : (xs : List ℕ) → Distinct xs → KeyDistinct xs
key-distinct [] d = tt
key-distinct (y ∷ ys) d = (key-lacks y ys d.0, key-distinct ys d.1)

-- ---- numbers of what is seen

abbrev pub numbers_of : KeyForest → Numbers
numbers_of keyed.none = numbers.none
numbers_of (keyed.element own below next) = numbers.node own.number (numbers_of below) (numbers_of next)

count-is : (os : List Outcome) (x : Feature) → counted.count_in os x ≡ count_in os x
count-is [] x = refl
count-is (o ∷ os) x = ap (λ m. weight (has x o.tuple o.misused o.nillable) + m) (count-is os x)

module _ (ns : Nodes) (ks : KeptSlots) where
  -- an element of the document is seen
  used : (f : Forest) → AreNumbered ns ks f → (n : ℕ) → HasElement n f → 1 ≤ uses n (seen (found_in ns ks f))
  used none are n h = absurd h
  used (text number chars next) are n h = used next are n h
  used (element number name bindings attributes children next) are n (inl e) =
      let one = ap (λ (m : ℕ). coding.weight (m == n)) (are number (inl refl) ∙ e) ∙ ap coding.weight (eq-eqb n n refl) in
      omega (arith, one)
  used (element number name bindings attributes children next) are n (inr (inl below)) = let some = used children (λ m h. are m (inr (inl h))) n below in omega (arith, some)
  used (element number name bindings attributes children next) are n (inr (inr later)) = let some = used next (λ m h. are m (inr (inr h))) n later in omega (arith, some)

  pub has-within : (f : Forest) (n : ℕ) → HasElement n f → (below : KeyForest) × HasWithin (seen_element (entry_at ks n)) below (seen (found_in ns ks f))
  has-within none n h = absurd h
  has-within (text number chars next) n h = has-within next n h
  has-within (element number name bindings attributes children next) n (inl e) = (seen (found_in ns ks children), inl (ap (λ m. seen_element (entry_at ks m)) e, refl))
  has-within (element number name bindings attributes children next) n (inr (inl below)) = let r = has-within children n below in (r.0, inr (inl r.1))
  has-within (element number name bindings attributes children next) n (inr (inr later)) = let r = has-within next n later in (r.0, inr (inr r.1))

-- ---- what is kept of the document

module _ (c : Compiled) (ns : Nodes) (k : KeptState) (whole : IsWhole c ns k) where
  abbrev kin : Kin
  kin = kin_of ns k.records.slots

  abbrev AreElements : List ℕ → Type 0
  AreElements xs = (x : ℕ) → Has x xs → is_element_at ns x ≡ true

  number-is : (n : ℕ) → IsMade k.records.slots n → (entry_at k.records.slots n).number ≡ n
  number-is n made = (fit-of c ns k whole n made).gathered.number_is

  number-seen : (x : ℕ) (own : KeyElement) → is_element_at ns x ≡ true → own ≡ kin.seen x → own.number ≡ x
  number-seen x own is e = ap (λ (o : KeyElement). o.number) e ∙ number-is x (made-of c ns k whole x is)

  below-elements : (x : ℕ) → AreElements (element_children ns x)
  below-elements x y h = (child-up ns (sound c ns k whole) x y h).1

  firsts-are : (xs : List ℕ) (f : KeyForest) → AreSeen kin xs f → AreElements xs → firsts (numbers_of f) ≡ xs
  firsts-are [] keyed.none s are = refl
  firsts-are [] (keyed.element own below next) s are = absurd s
  firsts-are (x ∷ xs) keyed.none s are = absurd s
  firsts-are (x ∷ xs) (keyed.element own below next) s are =
      let first = number-seen x own (are x (inl refl)) s.0 in
      let more = firsts-are xs next s.1.1 (λ y h. are y (inr h)) in
      λ i. first i ∷ more i

  -- from the root on
  root-seen : (d : Document) → IsOver c ns k.records.slots d → AreSeen kin (1 ∷ []) (seen (found_in ns k.records.slots d.forest))
  root-seen d over =
      let levels : ℕ = count d.forest + (MAX_DEPTH + 1) in
      let is =
      ap (seen_to k.records.slots ns levels) (sym (root-numbers d.forest over.stands.tree.root))
      ∙ seen-is c.names ns k.records.slots d.forest (read c ns k.records.slots k.lists k.root_ids d (settled c ns k whole d over)) (there-made c ns k whole d over) levels (omega arith) in
      subst (AreSeen kin (1 ∷ [])) is (seen-down c ns k whole levels (1 ∷ []) (λ x h. (root-is x h, omega arith)))
    where
      root-is : (x : ℕ) → Has x (1 ∷ []) → is_element_at ns x ≡ true
      root-is x (inl e) = subst (λ (m : ℕ). is_element_at ns m ≡ true) e (root-there c ns k whole)
      root-is x (inr bad) = absurd bad

  -- what is below an element of these
  seen-within : (xs : List ℕ) (f : KeyForest) → AreSeen kin xs f → AreElements xs → (own : KeyElement) (below : KeyForest) → HasWithin own below f
      → (x : ℕ) × (is_element_at ns x ≡ true) × (own ≡ kin.seen x) × AreSeen kin (element_children ns x) below
  seen-within [] keyed.none s are own below h = absurd h
  seen-within [] (keyed.element other under next) s are own below h = absurd s
  seen-within (x ∷ xs) keyed.none s are own below h = absurd s
  seen-within (x ∷ xs) (keyed.element other under next) s are own below (inl e) = (x, are x (inl refl), sym e.0 ∙ s.0, subst (AreSeen kin (element_children ns x)) e.1 s.1.0)
  seen-within (x ∷ xs) (keyed.element other under next) s are own below (inr (inl h)) = seen-within (element_children ns x) under s.1.0 (below-elements x) own below h
  seen-within (x ∷ xs) (keyed.element other under next) s are own below (inr (inr h)) = seen-within xs next s.1.1 (λ y g. are y (inr g)) own below h

-- ---- what is counted of it

module _ (c : Compiled) (ns : Nodes) (k : KeptState) (whole : IsWhole c ns k) (keys : TargetKeys) (are : AreTargets c ns k.records.slots keys) where
  abbrev pub links : Links
  links = record { parent = parent_of keys.counted; children = element_children ns }

  -- the links of the document are those by the parents that are kept
  links-up : (p m : ℕ) → parent_of keys.counted m ≡ Some p → Has m (element_children ns p)
  links-up p m e = by (at k.records.slots m) refl
    where
      there : IsMade k.records.slots m → (o : Option Node) → node ns m ≡ o → option_and_then (λ (it : Node). it.parent) o ≡ Some p → Has m (element_children ns p)
      there made None is up = absurd (none-some p up)
      there made (Some it) is up =
          let above = (sound c ns k whole).up m p it is up in
          kept-has (is_element_at ns) m (children_by (node ns p)) (subst (λ (o : Option Node). Has m (children_by o)) (sym above.is) above.has) (element-of c ns k whole m made)

      by : (o : Option KeptElement) → at k.records.slots m ≡ o → Has m (element_children ns p)
      by None gone = absurd (none-some p (sym (are.alone m (λ made. none-some made.0 (sym gone ∙ made.1))) ∙ e))
      by (Some own) is = there (own, is) (node ns m) refl (sym (are.parents m (own, is)) ∙ e)

  links-down : (p m : ℕ) → Has m (element_children ns p) → parent_of keys.counted m ≡ Some p
  links-down p m h = let up = child-up ns (sound c ns k whole) p m h in are.parents m (made-of c ns k whole m up.1) ∙ up.0

  links-apart : (p : ℕ) → Distinct (element_children ns p)
  links-apart p = by (node ns p) refl
    where
      by : (o : Option Node) → node ns p ≡ o → Distinct (filter (is_element_at ns) (children_by o))
      by None e = tt
      by (Some it) e = kept-distinct (is_element_at ns) it.children ((sound c ns k whole).once p it e)

  pub linked : IsLinked links
  linked = record {
    down = λ p m h. links-down p m (has-key m (element_children ns p) h);
    up = λ p m e. key-has m (element_children ns p) (links-up p m e);
    apart = λ p. key-distinct (element_children ns p) (links-apart p);
  }

  stand : (xs : List ℕ) (f : KeyForest) → AreSeen (kin_of ns k.records.slots) xs f → AreElements c ns k whole xs → StandFor links (numbers_of f)
  stand [] keyed.none s els = tt
  stand [] (keyed.element own below next) s els = absurd s
  stand (x ∷ xs) keyed.none s els = absurd s
  stand (x ∷ xs) (keyed.element own below next) s els = (
    ap (element_children ns) (number-seen c ns k whole x own (els x (inl refl)) s.0) ∙ sym (firsts-are c ns k whole (element_children ns x) below s.1.0 (below-elements c ns k whole x)),
    stand (element_children ns x) below s.1.0 (below-elements c ns k whole x),
    stand xs next s.1.1 (λ y h. els y (inr h)),
  )

  along : (o : Option ℕ) (above : List KeyElement) → AreAbove (kin_of ns k.records.slots) o above → (xs : List ℕ) (f : KeyForest) → AreSeen (kin_of ns k.records.slots) xs f
      → ((x : ℕ) → Has x xs → (is_element_at ns x ≡ true) × (parent_at ns x ≡ o)) → AreTargetsAlong c.names c.parts c.identities.items keys.counted.targets above f
  along o above a [] keyed.none s each = tt
  along o above a [] (keyed.element own below next) s each = absurd s
  along o above a (x ∷ xs) keyed.none s each = absurd s
  along o above a (x ∷ xs) (keyed.element own below next) s each =
      let here = each x (inl refl) in
      let up : AreAbove (kin_of ns k.records.slots) (parent_at ns x) above = subst (λ (p : Option ℕ). AreAbove (kin_of ns k.records.slots) p above) (sym here.1) a in (
        ap (targets_at keys.counted.targets) (number-seen c ns k whole x own here.0 s.0) ∙ are.targets x (made-of c ns k whole x here.0) above below up s.1.0
            ∙ ap (λ (e : KeyElement). targetings_of c.names c.parts c.identities.items above e below) (sym s.0),
        (
          along (Some x) (own ∷ above) (s.0, up) (element_children ns x) below s.1.0 (λ y h. let more = child-up ns (sound c ns k whole) x y h in (more.1, more.0)),
          along o above a xs next s.1.1 (λ y h. each y (inr h)),
        ),
      )

  module _ (d : Document) (over : IsOver c ns k.records.slots d) where
    abbrev forest : KeyForest
    forest = seen (found_in ns k.records.slots d.forest)

    alone-above : (x : ℕ) → Has x (1 ∷ []) → (is_element_at ns x ≡ true) × (parent_at ns x ≡ None)
    alone-above x (inl e) = subst (λ (m : ℕ). (is_element_at ns m ≡ true) × (parent_at ns m ≡ None)) e (root-there c ns k whole, by (node ns 1) refl)
      where
        by : (o : Option Node) → node ns 1 ≡ o → parent_at ns 1 ≡ None
        by None is = ap (option_and_then (λ (it : Node). it.parent)) is
        by (Some it) is = ap (option_and_then (λ (it : Node). it.parent)) is ∙ (over.stands.root it is).0
    alone-above x (inr bad) = absurd bad

    -- they are the targets that the elements are
    pub targets-of : AreTargetsOf c.names c.parts c.identities.items keys.counted.targets forest
    targets-of = record {
      all = along None [] tt (1 ∷ []) forest (root-seen c ns k whole d over) alone-above;
      only = λ n unused. only n unused (at k.records.slots n) refl;
      differ = seen-once c ns k whole d over;
    }
      where
        only : (n : ℕ) → uses n forest ≡ 0 → (o : Option KeptElement) → at k.records.slots n ≡ o → targets_at keys.counted.targets n ≡ []
        only n unused None e = are.none n (λ made. none-some made.0 (sym e ∙ made.1))
        only n unused (Some own) e =
            let some = used ns k.records.slots d.forest (numbered c ns k whole d over) n (made-there c ns k whole d over n (own, e)) in
            absurd (omega (arith, unused, some))

    -- by the laws of what is counted
    abbrev pub CountsAre : Type 0
    CountsAre = (own : KeyElement) (below : KeyForest) → HasWithin own below forest → (key : ℕ) (x : Feature)
        → counted_all keys.counted.targets own.number key x ≡ counted.count_in (outcomes c.names c.parts c.identities.items key own below) x

    abbrev pub LinksAreNoMatter : Type 0
    LinksAreNoMatter = DifferUnseen (links_by keys.counted.parents.items) links keys.counted.records.referred → AreRecords (links_by keys.counted.parents.items) keys.counted.references (counted_all keys.counted.targets) keys.counted.records
        → AreRecords links keys.counted.references (counted_all keys.counted.targets) keys.counted.records

    module _ (counts : CountsAre) (stay : LinksAreNoMatter) where
      below-counted : (f : KeyForest) → ((own : KeyElement) (below : KeyForest) → HasWithin own below f → HasWithin own below forest)
          → AreCounted c.names c.parts c.identities.items (own_tuples (counted_all keys.counted.targets)) (numbers_of f) f
      below-counted keyed.none up = tt
      below-counted (keyed.element own below next) up = (
        λ key tuple.
            counts own below (up own below (inl (refl, refl))) key (with_keys tuple) ∙ count-is (outcomes c.names c.parts c.identities.items key own below) (with_keys tuple)
            ∙ keys-counted (outcomes c.names c.parts c.identities.items key own below) tuple,
        below-counted below (λ other under h. up other under (inr (inl h))),
        below-counted next (λ other under h. up other under (inr (inr h))),
      )

      within-more : (f : KeyForest) (own : KeyElement) (below : KeyForest) → HasWithin own below f → (other : KeyElement) (under : KeyForest) → HasWithin other under below → HasWithin other under f
      within-more keyed.none own below h other under more = absurd h
      within-more (keyed.element first inner next) own below (inl e) other under more = inr (inl (subst (HasWithin other under) (sym e.1) more))
      within-more (keyed.element first inner next) own below (inr (inl h)) other under more = inr (inl (within-more inner own below h other under more))
      within-more (keyed.element first inner next) own below (inr (inr h)) other under more = inr (inr (within-more next own below h other under more))

      -- so they are right at each element
      pub filled-at : (tree : KeyTree) → keys.counted.references ≡ tree.references.now → (n : ℕ) → is_element_at ns n ≡ true → (below : KeyForest) → HasWithin (seen_element (entry_at k.records.slots n)) below forest
          → AreFilledAt c.names c.parts c.identities.items tree keys.counted.records n (seen_element (entry_at k.records.slots n)) below
      filled-at tree same n is below h =
          let own = seen_element (entry_at k.records.slots n) in
          let at_n : own.number ≡ n = number-is c ns k whole n (made-of c ns k whole n is) in
          let found = seen-within c ns k whole (1 ∷ []) forest (root-seen c ns k whole d over) (λ x g. (alone-above x g).0) own below h in
          let x_is : n ≡ found.0 = sym at_n ∙ number-seen c ns k whole found.0 own found.1 found.2 in
          let under : AreSeen (kin_of ns k.records.slots) (element_children ns n) below = subst (λ (m : ℕ). AreSeen (kin_of ns k.records.slots) (element_children ns m) below) (sym x_is) found.3 in
          record {
            links = links;
            c = counted_all keys.counted.targets;
            under = numbers_of below;
            records = subst (λ (r : References). AreRecords links r (counted_all keys.counted.targets) keys.counted.records) same (stay (λ m. inl refl) are.kept.records);
            children = sym (firsts-are c ns k whole (element_children ns n) below under (below-elements c ns k whole n));
            stand = stand (element_children ns n) below under (below-elements c ns k whole n);
            here = λ key f. ap (λ (m : ℕ). counted_all keys.counted.targets m key f) (sym at_n) ∙ counts own below h key f ∙ count-is (outcomes c.names c.parts c.identities.items key own below) f;
            there = below-counted below (λ other inner g. within-more forest own below h other inner g);
          }

      -- and the codes that are read off there are those of the element
      pub codes-are : (tree : KeyTree) → keys.counted.references ≡ tree.references.now → (identities : List IdentityPaths) → identities ≡ c.identities.items → (n : ℕ) → IsMade k.records.slots n → (own : KeyElement)
          → own ≡ seen_element (entry_at k.records.slots n) → (codes : List Found)
          → ((below : KeyForest) → AreFilledAt c.names c.parts identities tree keys.counted.records n own below → codes ≡ identity_codes c.names c.parts identities own below) → codes ≡ codes_at c forest n
      codes-are tree same identities paths n made own own_is codes given =
          let there = has-within ns k.records.slots d.forest n (made-there c ns k whole d over n made) in
          let filled = filled-at tree same n (element-of c ns k whole n made) there.0 there.1 in
          let by_paths =
          subst (λ (ps : List IdentityPaths). (below : KeyForest) → AreFilledAt c.names c.parts ps tree keys.counted.records n own below → codes ≡ identity_codes c.names c.parts ps own below) paths given in
          let here =
          subst (λ (e : KeyElement). (below : KeyForest) → AreFilledAt c.names c.parts c.identities.items tree keys.counted.records n e below → codes ≡ identity_codes c.names c.parts c.identities.items e below) own_is by_paths in
          here there.0 filled
          ∙ sym (coding.codes-within c.names c.parts c.identities.items (seen_element (entry_at k.records.slots n)) there.0 forest (seen-once c ns k whole d over) there.1)
          ∙ ap (λ (m : ℕ). codes_at c forest m) (number-is c ns k whole n made)
