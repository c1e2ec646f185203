-- The test tells which names are ambivalent.
use Rattle.std.proofs.Common.{◌≡◌, ◌≢◌, ◌⊎◌, inl, inr, ℕ, zero, suc, ◌<◌, Bool, true, false, not, ◌==◌, ◌||◌, List, [], ◌∷◌, ◌++◌, map, filter, cond, length, if◌then◌else◌, refl, sym, ap, ◌∙◌, subst, arith, true≢false, Contains, get_or}
use Rattle.std.specs.Prelude.{slice_index_or, IsTrue}
use Rattle.std.specs.List.{list_any, flat_map}
use Rattle.std.proofs.lemmas.Bool.{cases_eq, eqb-true}
use Rattle.xs_names.specs.Names.{NameTable, same_name}
use Rattle.xs_names.proofs.NumberingLaws.{same_name-Decides}
use Rattle.xs_components.specs.Sets.{admits}
use Rattle.content_automaton.specs.Attribution.{GivesAt, IsAmbivalent}
use Rattle.content_automaton.specs.Terms.{ExpandedName, name_at, Gives}
use Rattle.content_automaton.specs.declared.symbol_terms.Accepts.{Accepts}
use Rattle.content_automaton.specs.declared.symbol_terms.Accepts.TheVariants.{Element, Wildcard}
use Rattle.content_automaton.specs.declared.symbol_terms.Given.{Given}
use Rattle.content_models.specs.Terms.{model_terms}
use Rattle.assessment.specs.Attribution.{SchemaSet, IsNameAmbivalent}
use Rattle.assessment_laws.specs.Ambivalent.{given_classes, has_two, is_ambivalent}

-- ---- what a list of classes has

abbrev pub Has : ℕ → List ℕ → Type 0
Has c [] = ⊥
Has c (d ∷ ds) = (d ≡ c) ⊎ Has c ds

has-parts : (c : ℕ) (xs ys : List ℕ) → Has c (xs ++ ys) → Has c xs ⊎ Has c ys
has-parts c [] ys h = inr h
has-parts c (x ∷ xs) ys (inl e) = inl (inl e)
has-parts c (x ∷ xs) ys (inr h) = elim (has-parts c xs ys h) [ inl l ↦ inl (inr l) | inr r ↦ inr r ]

has-left : (c : ℕ) (xs ys : List ℕ) → Has c xs → Has c (xs ++ ys)
has-left c [] ys h = absurd h
has-left c (x ∷ xs) ys (inl e) = inl e
has-left c (x ∷ xs) ys (inr h) = inr (has-left c xs ys h)

has-right : (c : ℕ) (xs ys : List ℕ) → Has c ys → Has c (xs ++ ys)
has-right c [] ys h = h
has-right c (x ∷ xs) ys h = inr (has-right c xs ys h)

any-has : (p : ℕ → Bool) (ds : List ℕ) → list_any p ds ≡ true → (d : ℕ) × Has d ds × (p d ≡ true)
any-has p [] e = absurd (true≢false (sym e))
any-has p (d ∷ ds) e = by (p d) refl (any-has p ds) e
  where
    by : (b : Bool) → p d ≡ b → (list_any p ds ≡ true → (x : ℕ) × Has x ds × (p x ≡ true)) → (b || list_any p ds) ≡ true → (x : ℕ) × Has x (d ∷ ds) × (p x ≡ true)
    by true is rest f = (d, inl refl, is)
    by false is rest f = let r = rest f in (r.0, inr r.1, r.2)

has-any : (p : ℕ → Bool) (d : ℕ) (ds : List ℕ) → Has d ds → p d ≡ true → list_any p ds ≡ true
has-any p d [] h e = absurd h
has-any p d (x ∷ xs) (inl same) e = ap (λ b. b || list_any p xs) (ap p same ∙ e)
has-any p d (x ∷ xs) (inr h) e = by (p x) (has-any p d xs h e)
  where
    by : (b : Bool) → list_any p xs ≡ true → (b || list_any p xs) ≡ true
    by true r = refl
    by false r = r

other-is : (a b : ℕ) → a ≢ b → not (a == b) ≡ true
other-is a b ne = by (a == b) refl
  where
    by : (c : Bool) → (a == b) ≡ c → not c ≡ true
    by true e = absurd (ne (eqb-true a b e))
    by false e = refl

is-other : (a b : ℕ) → not (a == b) ≡ true → a ≢ b
is-other a b t e = true≢false (sym t ∙ (sym (ap (λ (c : ℕ). not (a == c)) e) ∙ itself a))
  where
    itself : (n : ℕ) → not (n == n) ≡ false
    itself n = grind arith

pub two-differ : (cs : List ℕ) → has_two cs ≡ true → (c d : ℕ) × Has c cs × Has d cs × (c ≢ d)
two-differ [] e = absurd (true≢false (sym e))
two-differ (c ∷ cs) e = let r = any-has (λ other. not (other == c)) cs e in (r.0, c, inr r.1, inl refl, is-other r.0 c r.2)

differ-two : (c d : ℕ) (cs : List ℕ) → Has c cs → Has d cs → c ≢ d → has_two cs ≡ true
differ-two c d [] h k ne = absurd h
differ-two c d (x ∷ xs) (inl e) (inl f) ne = absurd (ne (sym e ∙ f))
differ-two c d (x ∷ xs) (inl e) (inr k) ne = has-any (λ other. not (other == x)) d xs k (other-is d x (λ f. ne (sym e ∙ sym f)))
differ-two c d (x ∷ xs) (inr h) (inl f) ne = has-any (λ other. not (other == x)) c xs h (other-is c x (λ e. ne (e ∙ f)))
differ-two c d (x ∷ xs) (inr h) (inr k) ne = elim (cases_eq c x) [
  | inl e ↦ has-any (λ other. not (other == x)) d xs k (other-is d x (λ f. ne (e ∙ sym f)))
  | inr other ↦ has-any (λ other. not (other == x)) c xs h (other-is c x other)
]

-- ---- what a term gives

module _ (t : NameTable) (name : ExpandedName) where
  abbrev is_given : Given → Bool
  is_given g = same_name (name_at t g.name) name

  abbrev IsGiven : List Given → ℕ → Type 0
  IsGiven given c = (g : Given) × Contains given g × (name_at t g.name ≡ name) × (g.class ≡ c)

  first-in : (g : Given) (gs : List Given) → Contains (g ∷ gs) g
  first-in g gs = (0, omega arith, refl)

  later-in : (g x : Given) (gs : List Given) → Contains gs x → Contains (g ∷ gs) x
  later-in g x gs has = (suc has.0, omega (arith, has.1), has.2)

  given-has : (c : ℕ) (gs : List Given) → Has c (map (λ (g : Given). g.class) (filter is_given gs)) → IsGiven gs c
  given-has c [] h = absurd h
  given-has c (g ∷ gs) h = by (is_given g) refl (given-has c gs) h
    where
      by : (b : Bool) → is_given g ≡ b → (Has c (map (λ (x : Given). x.class) (filter is_given gs)) → IsGiven gs c) →
          Has c (map (λ (x : Given). x.class) (cond b (g ∷ filter is_given gs) (filter is_given gs))) → IsGiven (g ∷ gs) c
      by true is rest (inl e) = (g, first-in g gs, (same_name-Decides (name_at t g.name) name).0 is, e)
      by true is rest (inr k) = let r = rest k in (r.0, later-in g r.0 gs r.1, r.2, r.3)
      by false is rest k = let r = rest k in (r.0, later-in g r.0 gs r.1, r.2, r.3)

  has-given : (x : Given) (gs : List Given) (k : ℕ) → k < length gs → get_or gs k x ≡ x → name_at t x.name ≡ name → Has x.class (map (λ (g : Given). g.class) (filter is_given gs))
  has-given x [] k l e same = absurd (omega (arith, l))
  has-given x (g ∷ gs) zero l e same =
      subst (λ b. Has x.class (map (λ (y : Given). y.class) (cond b (g ∷ filter is_given gs) (filter is_given gs))))
      (sym ((same_name-Decides (name_at t g.name) name).1 (ap (λ (y : Given). name_at t y.name) e ∙ same))) (inl (ap (λ (y : Given). y.class) e))
  has-given x (g ∷ gs) (suc k) l e same = by (is_given g) (has-given x gs k (omega (arith, l)) e same)
    where
      by : (b : Bool) → Has x.class (map (λ (y : Given). y.class) (filter is_given gs)) → Has x.class (map (λ (y : Given). y.class) (cond b (g ∷ filter is_given gs) (filter is_given gs)))
      by true r = inr r
      by false r = r

  pub has-gives : (c : ℕ) (a : Accepts) → Has c (given_classes t name a) → Gives t a name c
  has-gives c (Element given) h = given-has c given h
  has-gives c (Wildcard namespaces class) h = by (admits namespaces name.0) refl h
    where
      by : (b : Bool) → admits namespaces name.0 ≡ b → Has c (if b then class ∷ [] else []) → IsTrue (admits namespaces name.0) × (class ≡ c)
      by true is (inl e) = (is, e)
      by true is (inr k) = absurd k
      by false is k = absurd k

  pub gives-has : (c : ℕ) (a : Accepts) → Gives t a name c → Has c (given_classes t name a)
  gives-has c (Element given) h = subst (λ (d : ℕ). Has d (given_classes t name (Element given))) h.3 (has-given h.0 given h.1.0 h.1.1 h.1.2 h.2)
  gives-has c (Wildcard namespaces class) h =
      subst (λ b. Has c (if b then class ∷ [] else [])) (sym h.0) (inl h.1)

  -- ---- what the terms give

  abbrev classes : List Accepts → List ℕ
  classes terms = flat_map (given_classes t name) terms

  has-at : (c : ℕ) (terms : List Accepts) → Has c (classes terms) → (k : ℕ) × GivesAt t terms name k c
  has-at c [] h = absurd h
  has-at c (a ∷ terms) h = elim (has-parts c (given_classes t name a) (classes terms) h) [
    | inl own ↦ (0, (omega arith, λ d. has-gives c a own))
    | inr more ↦ let r = has-at c terms more in (suc r.0, (omega (arith, r.1.0), λ d. r.1.1 d))
  ]

  at-has : (c k : ℕ) (terms : List Accepts) → k < length terms → ((a : Accepts) → Gives t (slice_index_or terms k a) name c) → Has c (classes terms)
  at-has c k [] l h = absurd (omega (arith, l))
  at-has c zero (a ∷ terms) l h = has-left c (given_classes t name a) (classes terms) (gives-has c a (h a))
  at-has c (suc k) (a ∷ terms) l h = has-right c (given_classes t name a) (classes terms) (at-has c k terms (omega (arith, l)) h)

  told : (terms : List Accepts) → has_two (classes terms) ≡ true → IsAmbivalent t terms name
  told terms e =
      let r = two-differ (classes terms) e in
      let i = has-at r.0 terms r.2 in
      let j = has-at r.1 terms r.3 in
      (i.0, j.0, r.0, r.1, i.1, j.1, r.4)

  back : (terms : List Accepts) → IsAmbivalent t terms name → has_two (classes terms) ≡ true
  back terms h = differ-two h.2 h.3 (classes terms) (at-has h.2 h.0 terms h.4.0 h.4.1) (at-has h.3 h.1 terms h.5.0 h.5.1) h.6

pub ambivalent-told : (s : SchemaSet) (p name : ℕ) → is_ambivalent s p name ≡ true → IsNameAmbivalent s p name
ambivalent-told s p name e = told s.names (name_at s.names name) (model_terms s.members s.parts s.classes p) e

pub told-ambivalent : (s : SchemaSet) (p name : ℕ) → IsNameAmbivalent s p name → is_ambivalent s p name ≡ true
told-ambivalent s p name h = back s.names (name_at s.names name) (model_terms s.members s.parts s.classes p) h
