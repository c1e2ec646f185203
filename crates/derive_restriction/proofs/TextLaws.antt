-- The simple type that the text of a type is of.
use Rattle.std.proofs.Common.{◌≡◌, ◌↔◌, ℕ, Bool, true, false, Option, None, Some, slice_get, refl, sym, ap, ◌∙◌, subst}
use Rattle.std.specs.Prelude.{IsTrue, IfOk, Result, Ok, Err, ◌||◌, if◌then◌else◌}
use Rattle.std.proofs.lemmas.Bool.{false≢true}
use Rattle.std.proofs.lemmas.Option.{same_Some, none-some}
use Rattle.xs_components.specs.Tables.{Tables}
use Rattle.xs_components.specs.declared.common.TypeId.{TypeId}
use Rattle.xs_components.specs.declared.common.TypeId.TheVariants.{AnyType, Builtin, Simple, Complex}
use Rattle.xs_components.specs.declared.complex.ComplexType.{ComplexType}
use Rattle.xs_components.specs.declared.complex.ContentForm.{ContentForm}
use Rattle.xs_components.specs.declared.complex.ContentForm.TheVariants as forms
use Rattle.type_derivation.specs.Derives.{is_simple}
use Rattle.component_references.specs.Heights.{IsType, IsLower, type_height}
use Rattle.component_references.specs.Ranked.{IsRanked}
use Rattle.derive_restriction.specs.Given.{AreOwnThere}
use Rattle.derive_restriction.specs.Contents.{HasTextType, itself, by_extension, by_own, by_restriction, DerivesFromText, IsTextDerived, IsTextType, text_step, complex_step_in, restricted_content, restricted_if}
use Rattle.derive_restriction.specs.declared.texts.TextType.{TextType}
use Rattle.derive_restriction.specs.declared.texts.TextStep.{TextStep}
use Rattle.derive_restriction.specs.declared.texts.TextStep.TheVariants as steps

abbrev text_of : TypeId → Bool → TextType
text_of of made = record { of = of; is_restricted = made }

or-assoc : (a b c : Bool) → ((a || b) || c) ≡ (a || (b || c))
or-assoc true b c = refl
or-assoc false b c = refl

up-base : (a b : TypeId) (r s : Bool) → steps.Up a r ≡ steps.Up b s → a ≡ b
up-base a b r s e = cc

found-up : (text : TextType) (a : TypeId) (r : Bool) → steps.Found text ≡ steps.Up a r → ⊥
found-up text a r e = cc

nothing-up : (a : TypeId) (r : Bool) → steps.Nothing ≡ steps.Up a r → ⊥
nothing-up a r e = cc

module _ (t : Tables) where
  -- what a step says of the text
  abbrev Holds : TextStep → TypeId → Bool → Type 0
  Holds steps.Nothing x made = ⊥
  Holds (steps.Found text) x made = (x ≡ text.of) × (made ≡ text.is_restricted)
  Holds (steps.Up base restricts) x made = (m : Bool) × HasTextType t base x m × (made ≡ (restricts || m))

  by-extension : (id : ℕ) (part : ComplexType) → slice_get t.complexes.parts id ≡ Some part → (b : Bool) → part.by_extension ≡ b → text_step t (Complex id) ≡ (if b then steps.Up part.base false else restricted_content part.base part.content)
  by-extension id part is b ext = ap complex_step_in is ∙ ap (λ (c : Bool). if c then steps.Up part.base false else restricted_content part.base part.content) ext

  by-content : (id : ℕ) (part : ComplexType) → slice_get t.complexes.parts id ≡ Some part → part.by_extension ≡ false → (form : ContentForm) → part.content ≡ form → text_step t (Complex id) ≡ restricted_content part.base form
  by-content id part is ext form c = by-extension id part is false ext ∙ ap (restricted_content part.base) c

  own-text : (of : TypeId) → is_simple of ≡ true → Holds (text_step t of) of false
  own-text AnyType s = absurd (false≢true s)
  own-text (Builtin kind) s = (refl, refl)
  own-text (Simple id) s = (refl, refl)
  own-text (Complex id) s = absurd (false≢true s)

  text-in : (a x : TypeId) (made : Bool) → HasTextType t a x made → Holds (text_step t a) x made
  text-in _ _ _ (itself of s) = own-text of s
  text-in _ _ _ (by_extension id part of made is ext h) = subst (λ (s : TextStep). Holds s of made) (sym (by-extension id part is true ext)) (made, h, refl)
  text-in _ _ _ (by_own id part step own is ext c) = subst (λ (s : TextStep). Holds s own true) (sym (by-content id part is ext (forms.Simple (Some own) step) c)) (refl, refl)
  text-in _ _ _ (by_restriction id part step of made is ext c h) = subst (λ (s : TextStep). Holds s of true) (sym (by-content id part is ext (forms.Simple None step) c)) (made, h, refl)

  same-text : (a y x : TypeId) (m made : Bool) → x ≡ y → made ≡ m → HasTextType t a y m → HasTextType t a x made
  same-text a y x m made e f h = subst (λ v. HasTextType t a v made) (sym e) (subst (λ b. HasTextType t a y b) (sym f) h)

  text-out : (a x : TypeId) (made : Bool) → Holds (text_step t a) x made → HasTextType t a x made
  text-out AnyType x made h = absurd h
  text-out (Builtin kind) x made h = same-text (Builtin kind) (Builtin kind) x false made h.0 h.1 (itself (Builtin kind) refl)
  text-out (Simple id) x made h = same-text (Simple id) (Simple id) x false made h.0 h.1 (itself (Simple id) refl)
  text-out (Complex id) x made h = of-part (slice_get t.complexes.parts id) refl h
    where
      of-content : (part : ComplexType) → slice_get t.complexes.parts id ≡ Some part → part.by_extension ≡ false → (form : ContentForm) → part.content ≡ form → Holds (restricted_content part.base form) x made → HasTextType t (Complex id) x made
      of-content part is ext (forms.Simple (Some own) step) c h = same-text (Complex id) own x true made h.0 h.1 (by_own id part step own is ext c)
      of-content part is ext (forms.Simple None step) c h = same-text (Complex id) x x true made refl h.2 (by_restriction id part step x h.0 is ext c h.1)
      of-content part is ext (forms.Complex effective mixed) c h = absurd h

      of-method : (part : ComplexType) → slice_get t.complexes.parts id ≡ Some part → (b : Bool) → part.by_extension ≡ b → Holds (if b then steps.Up part.base false else restricted_content part.base part.content) x made → HasTextType t (Complex id) x made
      of-method part is true ext h = same-text (Complex id) x x h.0 made refl h.2 (by_extension id part x h.0 is ext h.1)
      of-method part is false ext h = of-content part is ext part.content refl h

      of-part : (o : Option ComplexType) → slice_get t.complexes.parts id ≡ o → Holds (complex_step_in o) x made → HasTextType t (Complex id) x made
      of-part None is h = absurd h
      of-part (Some part) is h = of-method part is part.by_extension refl h

  -- the text of a type is that of another, restricted or not
  abbrev pub Goes : Bool → TypeId → TypeId → Type 0
  Goes r at of = (x : TypeId) (made : Bool) → ((m : Bool) × HasTextType t at x m × (made ≡ (r || m))) ↔ HasTextType t of x made

  pub goes-begin : (of : TypeId) → Goes false of of
  goes-begin of x made = ((λ h. subst (HasTextType t of x) (sym h.2) h.1), (λ h. (made, h, refl)))

  pub goes-up : (r : Bool) (at of base : TypeId) (restricts : Bool) → text_step t at ≡ steps.Up base restricts → Goes r at of → Goes (r || restricts) base of
  goes-up r at of base restricts e goes x made = (
    (λ h. (goes x made).0 (restricts || h.0, text-out at x (restricts || h.0) (subst (λ (s : TextStep). Holds s x (restricts || h.0)) (sym e) (h.0, h.1, refl)), h.2 ∙ or-assoc r restricts h.0)),
    (λ h.
        let g = (goes x made).1 h in
        let s = subst (λ (s : TextStep). Holds s x g.0) e (text-in at x g.0 g.1) in
        (s.0, s.1, g.2 ∙ (ap (λ (b : Bool). r || b) s.2 ∙ sym (or-assoc r restricts s.0)))),
  )

  pub ends-nothing : (r : Bool) (at of : TypeId) → text_step t at ≡ steps.Nothing → Goes r at of → IsTextType t of None
  ends-nothing r at of e goes x made = (
    (λ f. absurd (none-some (text_of x made) f)),
    (λ h. let g = (goes x made).1 h in absurd (subst (λ (s : TextStep). Holds s x g.0) e (text-in at x g.0 g.1))),
  )

  pub ends-found : (r : Bool) (at of : TypeId) (text found : TextType) → text_step t at ≡ steps.Found text → found ≡ restricted_if r text → Goes r at of → IsTextType t of (Some found)
  ends-found r at of text found e is goes x made = (
    (λ f.
        let same : restricted_if r text ≡ text_of x made = sym is ∙ same_Some found (text_of x made) f in
        let one : x ≡ text.of = sym (ap (λ (y : TextType). y.of) same) in
        let both : made ≡ (r || text.is_restricted) = sym (ap (λ (y : TextType). y.is_restricted) same) in
        (goes x made).0 (text.is_restricted, text-out at x text.is_restricted (subst (λ (s : TextStep). Holds s x text.is_restricted) (sym e) (one, refl)), both)),
    (λ h.
        let g = (goes x made).1 h in
        let s = subst (λ (s : TextStep). Holds s x g.0) e (text-in at x g.0 g.1) in
        let both : made ≡ (r || text.is_restricted) = g.2 ∙ ap (λ (b : Bool). r || b) s.1 in
        ap (λ (y : TextType). Some y) (is ∙ (ap (λ (y : TypeId). text_of y (r || text.is_restricted)) (sym s.0) ∙ ap (text_of x) (sym both)))),
  )

  -- the base of a step is lower
  pub step-lower : IsRanked t → (at base : TypeId) (restricts : Bool) → text_step t at ≡ steps.Up base restricts → IsLower t (type_height t at) base
  step-lower ranked AnyType base restricts e = absurd (nothing-up base restricts e)
  step-lower ranked (Builtin kind) base restricts e = absurd (found-up (text_of (Builtin kind) false) base restricts e)
  step-lower ranked (Simple id) base restricts e = absurd (found-up (text_of (Simple id) false) base restricts e)
  step-lower ranked (Complex id) base restricts e = of-part (slice_get t.complexes.parts id) refl e
    where
      of-content : (part : ComplexType) → slice_get t.complexes.parts id ≡ Some part → (form : ContentForm) → restricted_content part.base form ≡ steps.Up base restricts → part.base ≡ base
      of-content part is (forms.Simple (Some own) step) f = absurd (found-up (text_of own true) base restricts f)
      of-content part is (forms.Simple None step) f = up-base part.base base true restricts f
      of-content part is (forms.Complex effective mixed) f = absurd (nothing-up base restricts f)

      of-method : (part : ComplexType) → slice_get t.complexes.parts id ≡ Some part → (b : Bool) → (if b then steps.Up part.base false else restricted_content part.base part.content) ≡ steps.Up base restricts → part.base ≡ base
      of-method part is true f = up-base part.base base false restricts f
      of-method part is false f = of-content part is part.content f

      of-part : (o : Option ComplexType) → slice_get t.complexes.parts id ≡ o → complex_step_in o ≡ steps.Up base restricts → IsLower t (type_height t (Complex id)) base
      of-part None is f = absurd (nothing-up base restricts f)
      of-part (Some part) is f = subst (IsLower t (type_height t (Complex id))) (of-method part is part.by_extension f) (ranked.complexes id part is)

  -- the type of a text is there
  text-there : IsRanked t → AreOwnThere t → (a : TypeId) → IsType t a → (x : TypeId) (made : Bool) → HasTextType t a x made → IsType t x
  text-there ranked owns _ there _ _ (itself of s) = there
  text-there ranked owns _ there _ _ (by_extension id part of made is ext h) = text-there ranked owns part.base (ranked.complexes id part is).there of made h
  text-there ranked owns _ there _ _ (by_own id part step own is ext c) = owns id part own step is c
  text-there ranked owns _ there _ _ (by_restriction id part step of made is ext c h) = text-there ranked owns part.base (ranked.complexes id part is).there of made h

  pub found-there : IsRanked t → AreOwnThere t → (a : TypeId) → IsType t a → (text : TextType) → IsTextType t a (Some text) → IsType t text.of
  found-there ranked owns a there text told = text-there ranked owns a there text.of text.is_restricted ((told text.of text.is_restricted).0 refl)

  -- an own type against that of the text of a base
  pub derived-none : (own base : TypeId) → IsTextType t base None → IsTrue false ↔ IsTextDerived t (Some own) base
  derived-none own base told = ((λ e. absurd (false≢true e)), (λ x. absurd (none-some (text_of x.0 x.1) ((told x.0 x.1).1 x.2))))

  derived-some : (own base : TypeId) (text : TextType) → IsTextType t base (Some text) → (answer : Bool) → IsTrue answer ↔ DerivesFromText t own text.of text.is_restricted → IsTrue answer ↔ IsTextDerived t (Some own) base
  derived-some own base text told answer iff = (
    (λ e. (text.of, text.is_restricted, (told text.of text.is_restricted).0 refl, iff.0 e)),
    (λ x. iff.1 (subst (λ (y : TextType). DerivesFromText t own y.of y.is_restricted) (sym (same_Some text (text_of x.0 x.1) ((told x.0 x.1).1 x.2))) x.3)),
  )

  pub derived-in : {E : Type 0} (own base : TypeId) (text : TextType) → IsTextType t base (Some text) → (result : Result Bool E) → IfOk result (λ answer. IsTrue answer ↔ DerivesFromText t own text.of text.is_restricted) → IfOk result (λ answer. IsTrue answer ↔ IsTextDerived t (Some own) base)
  derived-in own base text told (Ok answer) iff = derived-some own base text told answer iff
  derived-in own base text told (Err e) iff = tt

  -- by whether the type is restricted
  pub from-text : {E : Type 0} (own of : TypeId) (made b : Bool) → made ≡ b → (result : Result Bool E) → IfOk result (λ answer. IsTrue answer ↔ DerivesFromText t own of b) → IfOk result (λ answer. IsTrue answer ↔ DerivesFromText t own of made)
  from-text own of made b e result iff = subst (λ (c : Bool). IfOk result (λ answer. IsTrue answer ↔ DerivesFromText t own of c)) (sym e) iff
