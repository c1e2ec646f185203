-- Names with their types, one after another.
use Rattle.std.proofs.Common.{◌≡◌, ◌≢◌, ℕ, zero, suc, ◌+◌, ◌<◌, ◌≤◌, ◌↔◌, ◌⊎◌, inl, inr, List, [], ◌∷◌, ◌++◌, Option, None, Some, Bool, true, false, IsTrue, cond, if◌then◌else◌, length, take, get_or, slice_get, refl, sym, ap, subst, ◌∙◌, arith, eqb-true}
use Rattle.std.specs.Prelude.{All as Each, Contains, Result, Ok, Err, IfOk, nat_eq}
use Rattle.std.specs.List.{flat_map}
use Rattle.std.proofs.lemmas.Bool.{cases_eq, false≢true}
use Rattle.std.proofs.lemmas.List.{take_more, take_all}
use Rattle.std.proofs.lemmas.List.Concat.{flat_map-cons}
use Rattle.std.proofs.lemmas.Grind.{flat_map-append}
use Rattle.std.proofs.lemmas.List.Elements.{All-contains, All-take, All-contains_itself, Contains-push, Contains-push_cases, Contains-append_left, Contains-append_right, Contains-append_cases, Contains-get_or}
use Rattle.xs_components.specs.Tables.{Tables}
use Rattle.xs_components.specs.declared.common.TypeId.{TypeId}
use Rattle.xs_components.specs.declared.particle.Particle.{Particle as Part}
use Rattle.xs_components.specs.declared.particle.Term.{Term}
use Rattle.xs_components.specs.declared.particle.Term.TheVariants.{Element, Any, Group, Sequence, Choice, All}
use Rattle.particle_models.specs.Unrolled.{is_never}
use Rattle.component_references.specs.Ranked.{IsRanked}
use Rattle.particle_forms.specs.Models.{model_of, part_model, term_model}
use Rattle.particle_forms.proofs.ModelLaws.{model_of_is}
use Rattle.schema_models.specs.declared.agreement.TypedName.{TypedName}
use Rattle.schema_models.specs.Consistency.{IsTermOf, given_types, term_types, part_types, types_at, IsConsistent, Agree}
use Rattle.schema_models.specs.Found.{term_element, live_element, types_of, live_part_types, live_types, AreModelParts, Notes}
use Rattle.schema_models.proofs.FoundLaws.{none-in, here, behind}

-- each of these names has its type in the map, and the map has nothing else
pub record AreNoted (given : List TypedName) (type : ℕ → Option TypeId) : Type 0 where
  pub known : (x : TypedName) → Contains given x → type x.name ≡ Some x.of
  pub from : (name : ℕ) (of : TypeId) → type name ≡ Some of → Contains given (record { name = name; of = of })

pub noted_none : (type : ℕ → Option TypeId) → ((name : ℕ) → type name ≡ None) → AreNoted [] type
noted_none type none = record {
  known = λ x h. absurd (none-in x h);
  from = λ name of e. absurd (let z : None ≡ Some of = sym (none name) ∙ e in cc);
}

module _ (given : List TypedName) (i : ℕ) (one : TypedName) (l : i < length given) (is : one ≡ get_or given i one) (type : ℕ → Option TypeId) (noted : AreNoted (take i given) type) where
  abbrev more : List TypedName
  more = take (i + 1) given

  more-is : more ≡ take i given ++ one ∷ []
  more-is = take_more given i one l ∙ ap (λ x. take i given ++ x ∷ []) (sym is)

  earlier : (x : TypedName) → Contains (take i given) x → Contains more x
  earlier x h = rw more-is (Contains-append_left (take i given) (one ∷ []) x h)

  cases : (x : TypedName) → Contains more x → Contains (take i given) x ⊎ (one ≡ x)
  cases x h = Contains-push_cases (take i given) one x (rw more-is at h)

  module _ (new : ℕ → Option TypeId) (agrees : Bool) (notes : Notes type new one agrees) where
    pub noted_more : agrees ≡ true → AreNoted more new
    noted_more t = record {
      known = λ x h. elim (cases x h) [
        | inl was ↦ elim (cases_eq x.name one.name) [
          | inl e ↦ (
              let same : x.of ≡ one.of = notes.known t x.of (ap type (sym e) ∙ noted.known x was) in
              ap new e ∙ (notes.own t ∙ ap Some (sym same)))
          | inr d ↦ notes.others x.name d ∙ noted.known x was
        ]
        | inr same ↦ subst (λ (y : TypedName). new y.name ≡ Some y.of) same (notes.own t)
      ];
      from = λ name of f. elim (cases_eq name one.name) [
        | inl e ↦ (
            let z : Some one.of ≡ Some of = sym (notes.own t) ∙ (ap new (sym e) ∙ f) in
            let a : one.of ≡ of = cc in
            let s : one ≡ record { name = name; of = of } = (λ i. record { name = sym e i; of = a i }) in
            rw more-is (subst (Contains (take i given ++ one ∷ [])) s (Contains-push (take i given) one)))
        | inr d ↦ earlier (record { name = name; of = of }) (noted.from name of (sym (notes.others name d) ∙ f))
      ];
    }

    -- its name has another type
    noted_other : agrees ≡ false → Agree given → ⊥
    noted_other f agree =
        let o = notes.other f in
        let was : Contains given (record { name = one.name; of = o.0 }) = within (noted.from one.name o.0 o.1) in
        let own : Contains given one = subst (Contains given) (sym is) (Contains-get_or given i one l) in
        o.2 (agree (record { name = one.name; of = o.0 }) one was own refl)
      where
        within : {x : TypedName} → Contains (take i given) x → Contains given x
        within {x} h = All-contains (Contains given) (take i given) x (All-take (Contains given) i given (All-contains_itself given)) h

    pub disagree : agrees ≡ false → IsTrue false ↔ Agree given
    disagree f = ((λ h. absurd (false≢true h)), (λ agree. absurd (noted_other f agree)))

-- one type more, or another
pub notes_known : (old : ℕ → Option TypeId) (one : TypedName) (of : TypeId) → Some of ≡ old one.name → (b : Bool) → IsTrue b ↔ (of ≡ one.of) → Notes old old one b
notes_known old one of e b h = record {
  own = λ t. sym e ∙ ap Some (h.0 t);
  others = λ name d. refl;
  known = λ t x f. (let z : Some of ≡ Some x = e ∙ f in let y : of ≡ x = cc in sym y ∙ h.0 t);
  other = λ f. (of, sym e, λ same. false≢true (sym f ∙ h.1 same));
}

pub notes_new : (old new : ℕ → Option TypeId) (one : TypedName) → None ≡ old one.name → new one.name ≡ Some one.of → ((q : ℕ) → nat_eq one.name q ≡ false → new q ≡ old q) → Notes old new one true
notes_new old new one e own others = record {
  own = λ t. own;
  others = λ name d. by name d (nat_eq one.name name) refl;
  known = λ t x f. absurd (let z : None ≡ Some x = e ∙ f in cc);
  other = λ f. absurd (false≢true (sym f));
}
  where
    by : (name : ℕ) → name ≢ one.name → (b : Bool) → nat_eq one.name name ≡ b → new name ≡ old name
    by name d true f = absurd (d (sym (eqb-true one.name name f)))
    by name d false f = others name f

-- all are noted
noted_all : (given : List TypedName) (type : ℕ → Option TypeId) → AreNoted given type → Agree given
noted_all given type noted x y h k e =
    let z : Some x.of ≡ Some y.of = sym (noted.known x h) ∙ (ap type e ∙ noted.known y k) in
    cc

pub agree_all : (given : List TypedName) (i : ℕ) (type : ℕ → Option TypeId) → length given ≤ i → AreNoted (take i given) type → IsTrue true ↔ Agree given
agree_all given i type l noted = ((λ h. noted_all given type (subst (λ (xs : List TypedName). AreNoted xs type) (take_all i given l) noted)), (λ agree. refl))

-- ---- pieces of a list
module _ {X Y : Type 0} (f : X → List Y) where
  pub in-pieces : (xs : List X) (y : Y) → Contains (flat_map f xs) y → (x : X) × Contains xs x × Contains (f x) y
  in-pieces [] y h = absurd (none-in y h)
  in-pieces (x ∷ xs) y h = elim (Contains-append_cases (f x) (flat_map f xs) y (subst (λ (ys : List Y). Contains ys y) (flat_map-cons f x xs) h)) [
    | inl own ↦ (x, here x xs, own)
    | inr rest ↦ (let r = in-pieces xs y rest in (r.0, behind x xs r.0 r.1, r.2))
  ]

  pub pieces-in : (xs : List X) (x : X) (y : Y) → Contains xs x → Contains (f x) y → Contains (flat_map f xs) y
  pieces-in [] x y c h = absurd (none-in x c)
  pieces-in (z ∷ xs) x y (zero, l, e) h = subst (λ (ys : List Y). Contains ys y) (sym (flat_map-cons f z xs)) (Contains-append_left (f z) (flat_map f xs) y (subst (λ (k : X). Contains (f k) y) (sym e) h))
  pieces-in (z ∷ xs) x y (suc k, l, e) h = subst (λ (ys : List Y). Contains ys y) (sym (flat_map-cons f z xs)) (Contains-append_right (f z) (flat_map f xs) y (pieces-in xs x y (k, omega arith, e) h))

  pub pieces-more : (xs : List X) (i : ℕ) (x : X) → i < length xs → x ≡ get_or xs i x → (old new : List Y) → old ≡ flat_map f (take i xs) → new ≡ old ++ f x → new ≡ flat_map f (take (i + 1) xs)
  pieces-more xs i x l is old new e g =
      g ∙ (ap (λ ys. ys ++ f x) e ∙ sym (
      ap (flat_map f) (take_more xs i x l ∙ ap (λ z. take i xs ++ z ∷ []) (sym is)) ∙
      (flat_map-append f (take i xs) (x ∷ []) ∙ ap (λ ys. flat_map f (take i xs) ++ ys) (flat_map-cons f x [] ∙ no-more (f x)))))
    where
      no-more : (ys : List Y) → ys ++ [] ≡ ys
      no-more [] = refl
      no-more (y ∷ ys) = ap (λ zs. y ∷ zs) (no-more ys)

-- ---- what a particle gives
no-more : {X : Type 0} (xs : List X) → xs ≡ xs ++ []
no-more [] = refl
no-more (x ∷ xs) = ap (λ ys. x ∷ ys) (no-more xs)

module _ (members : List (List ℕ)) (t : Tables) (id : ℕ) (part : Part) (is : slice_get t.particles.parts id ≡ Some part) where
  pub gives-none : None ≡ live_element part → (given : List TypedName) → given ≡ given ++ live_types members t id
  gives-none e given = no-more given ∙ ap (λ xs. given ++ xs) (sym (ap (live_part_types members t) is ∙ ap (types_of members t) (sym e)))

  pub gives-element : (element : ℕ) → Some element ≡ live_element part → (given new : List TypedName) → new ≡ given ++ given_types members t element → new ≡ given ++ live_types members t id
  gives-element element e given new f = f ∙ ap (λ xs. given ++ xs) (sym (ap (live_part_types members t) is ∙ ap (types_of members t) (sym e)))

-- ---- the terms of a model
module _ (members : List (List ℕ)) (t : Tables) (ranked : IsRanked t) where
  types-by : (kind : Term) → term_types members t kind ≡ types_of members t (term_element kind)
  types-by (Element e) = refl
  types-by (Any w) = refl
  types-by (Group g) = refl
  types-by (Sequence ms) = refl
  types-by (Choice ms) = refl
  types-by (All ms) = refl

  live-at : (id : ℕ) (x : TypedName) → IsTermOf (model_of t id) id → Contains (types_at members t id) x → Contains (live_types members t id) x
  live-at id x h = of (slice_get t.particles.parts id) (subst (λ m. IsTermOf m id) (model_of_is t ranked id) h)
    where
      of : (o : Option Part) → IsTermOf (part_model t (model_of t) id o) id → Contains (part_types members t o) x → Contains (live_part_types members t o) x
      of None k c = c
      of (Some part) k c = subst (λ (never : Bool). Contains (types_of members t (if never then None else term_element part.term)) x) (sym k.0) (subst (λ (ys : List TypedName). Contains ys x) (types-by part.term) c)

  term-here : (id : ℕ) (of : Term) (x : TypedName) → Contains (term_types members t of) x → IsTermOf (term_model t (model_of t) id of) id
  term-here id (Element e) x c = refl
  term-here id (Any w) x c = absurd (none-in x c)
  term-here id (Group g) x c = absurd (none-in x c)
  term-here id (Sequence ms) x c = absurd (none-in x c)
  term-here id (Choice ms) x c = absurd (none-in x c)
  term-here id (All ms) x c = absurd (none-in x c)

  at-live : (id : ℕ) (x : TypedName) → Contains (live_types members t id) x → IsTermOf (model_of t id) id × Contains (types_at members t id) x
  at-live id x c =
      let r = of (slice_get t.particles.parts id) c in
      (subst (λ m. IsTermOf m id) (sym (model_of_is t ranked id)) r.0, r.1)
    where
      of : (o : Option Part) → Contains (live_part_types members t o) x → IsTermOf (part_model t (model_of t) id o) id × Contains (part_types members t o) x
      of None k = absurd (none-in x k)
      of (Some part) k = by (is_never part.max) refl k
        where
          by : (never : Bool) → is_never part.max ≡ never → Contains (types_of members t (if never then None else term_element part.term)) x → IsTermOf (part_model t (model_of t) id (Some part)) id × Contains (term_types members t part.term) x
          by true e j = absurd (none-in x j)
          by false e j =
              let c : Contains (term_types members t part.term) x = subst (λ (ys : List TypedName). Contains ys x) (sym (types-by part.term)) j in
              ((e, term-here id part.term x c), c)

  pub agree-consistent : (root : ℕ) (found : List ℕ) (given : List TypedName) → AreModelParts t root found → given ≡ flat_map (live_types members t) found → Agree given ↔ IsConsistent members t root
  agree-consistent root found given parts e = subst (λ (g : List TypedName). Agree g ↔ IsConsistent members t root) (sym e) (
    (λ agree i j x y hi hj cx cy.
        let a = parts.every i hi in let b = parts.every j hj in
        agree x y (pieces-in (live_types members t) found i x a.0 (live-at i x a.1 cx)) (pieces-in (live_types members t) found j y b.0 (live-at j y b.1 cy))),
    (λ consistent x y hx hy.
        let a = in-pieces (live_types members t) found x hx in let b = in-pieces (live_types members t) found y hy in
        let p = at-live a.0 x a.2 in let q = at-live b.0 y b.2 in
        consistent a.0 b.0 x y (parts.only a.0 a.0 a.1 p.0) (parts.only b.0 b.0 b.1 q.0) p.1 q.1),
  )

  pub consistent-if : (root : ℕ) (found : List ℕ) (given : List TypedName) → AreModelParts t root found → given ≡ flat_map (live_types members t) found → (b : Bool) → IsTrue b ↔ Agree given → IsTrue b ↔ IsConsistent members t root
  consistent-if root found given parts e b h =
      let k = agree-consistent root found given parts e in
      ((λ i. k.0 (h.0 i)), (λ j. h.1 (k.1 j)))

  pub consistent_result : {E : Type 0} (root : ℕ) (found : List ℕ) (given : List TypedName) → AreModelParts t root found → (ids : List ℕ) → ids ≡ found → given ≡ flat_map (live_types members t) ids →
      (all : List TypedName) → all ≡ given → (r : Result Bool E) → IfOk r (λ b. IsTrue b ↔ Agree all) → IfOk r (λ b. IsTrue b ↔ IsConsistent members t root)
  consistent_result root found given parts ids e f all g (Ok b) h =
      consistent-if root found given parts (f ∙ ap (flat_map (live_types members t)) e) b (subst (λ (xs : List TypedName). IsTrue b ↔ Agree xs) g h)
  consistent_result root found given parts ids e f all g (Err x) h = h
