-- The members that the automaton of an all gives.
use Rattle.std.proofs.Common.{◌≡◌, ℕ, ◌<◌, ◌≤◌, ◌↔◌, Bool, true, false, IsTrue, List, Option, Some, None, length, map, get_or, slice_get, refl, ap, subst, sym, ◌∙◌, arith}
use Rattle.std.specs.Prelude.{MatchOption, unwrap_or, slice_index}
use Rattle.std.proofs.lemmas.List.{length-map, get_or-map}
use Rattle.std.proofs.lemmas.Option.{slice_get-get_or, get_or_from_slice_get, unwrap_or-slice_get}
use Rattle.std.proofs.lemmas.Bool.{false≢true}
use Rattle.xs_names.specs.Names.{NameTable}
use Rattle.particle_models.specs.Particles.{Particle}
use Rattle.content_automaton.specs.declared.symbol_terms.Accepts.{Accepts}
use Rattle.content_automaton.specs.declared.attribution.Attribution.{Attribution}
use Rattle.content_automaton.specs.declared.attribution.Attribution.TheVariants.{Nothing, OneClass, Ambivalent}
use Rattle.content_automaton.specs.Terms.{ExpandedName}
use Rattle.content_automaton.specs.Symbols.{symbol_of}
use Rattle.content_automaton.specs.Attribution.{IsStranger, IsFirstTerm, IsAmbivalent, IsAttributed}
use Rattle.content_models.specs.declared.member.AllMember.{AllMember}
use Rattle.content_models.specs.Shape.{no_member}
use Rattle.content_models.specs.Ambiguity.{IsUnambiguous, IsAmbiguousBy}
use Rattle.content_models.specs.Modelled.{AllModel, IsAllAutomatonOf, IsMemberFor, IsFirstMember, letter_of, pair_of, terms_at, first_of, is_ambivalent}

module _ (t : NameTable) (terms : List Accepts) (accepts : ℕ → ExpandedName → Bool) (members : List AllMember) (model : Particle) (a : AllModel) (is : IsAllAutomatonOf t terms accepts members model a) where
  many : length a.terms ≡ length members
  many = ap length is.terms_are ∙ length-map members (λ (m : AllMember). m.term)

  number_at : (k : ℕ) → k < length members → slice_get a.terms k ≡ Some (get_or members k no_member).term
  number_at k l =
      slice_get-get_or a.terms k 0 (let n = many in omega arith) ∙
      ap Some (ap (λ xs. get_or xs k 0) is.terms_are ∙ get_or-map (λ (m : AllMember). m.term) members k no_member 0 l)

  pub member_for : IsUnambiguous accepts model → (name : ExpandedName) (letter symbol : ℕ) → letter ≡ letter_of a symbol → symbol ≡ symbol_of t a.symbols name → (r : Option ℕ) → r ≡ slice_get a.terms letter → IsMemberFor accepts model name r
  member_for un name letter symbol e f r g =
      subst (IsMemberFor accepts model name) (sym (g ∙ ap (slice_get a.terms) (e ∙ ap (letter_of a) f))) (is.given un name)

  -- ---- what is attributed to a name
  module _ (name : ExpandedName) (symbol : ℕ) (at_symbol : symbol ≡ symbol_of t a.symbols name) where
    pub none_kept : slice_get a.attributions symbol ≡ None → IsAttributed t terms name Nothing
    none_kept e = subst (IsAttributed t terms name)
        (ap (λ n. get_or a.attributions n Nothing) (sym at_symbol) ∙ (sym (unwrap_or-slice_get a.attributions symbol Nothing) ∙ ap (λ o. unwrap_or o Nothing) e))
        (is.attributed name Nothing)

    kept : (x : Attribution) → slice_get a.attributions symbol ≡ Some x → IsAttributed t terms name x
    kept x e = subst (IsAttributed t terms name) (ap (λ n. get_or a.attributions n x) (sym at_symbol) ∙ get_or_from_slice_get a.attributions symbol x x e) (is.attributed name x)

    stranger : (x : Attribution) → IsAttributed t terms name x → first_of x ≡ None → IsStranger t terms name
    stranger Nothing h e = h
    stranger (OneClass first class) h e = absurd (let z : Some first ≡ None = e in cc)
    stranger (Ambivalent first) h e = absurd (let z : Some first ≡ None = e in cc)

    first : (x : Attribution) (f : ℕ) → IsAttributed t terms name x → first_of x ≡ Some f → IsFirstTerm t terms name f
    first Nothing f h e = absurd (let z : None ≡ Some f = e in cc)
    first (OneClass g class) f h e = subst (IsFirstTerm t terms name) (let z : Some g ≡ Some f = e in let q : g ≡ f = cc in q) h.0
    first (Ambivalent g) f h e = subst (IsFirstTerm t terms name) (let z : Some g ≡ Some f = e in let q : g ≡ f = cc in q) h.0

    pub first_none : (x : Attribution) → slice_get a.attributions symbol ≡ Some x → first_of x ≡ None → IsStranger t terms name
    first_none x e = stranger x (kept x e)

    first_number : (f : ℕ) → IsFirstTerm t terms name f → slice_get a.terms f ≡ Some (get_or members f no_member).term
    first_number f h = let l = h.0.1.0 in let c = is.count in number_at f (omega arith)

    pub found_first : (x : Attribution) (f : ℕ) → Some x ≡ slice_get a.attributions symbol → Some f ≡ first_of x → (r : Option ℕ) → r ≡ slice_get a.terms f → IsFirstMember t terms members name r
    found_first x f e g r k =
        let h = first x f (kept x (sym e)) (sym g) in
        subst (IsFirstMember t terms members name) (sym (k ∙ first_number f h)) (f, h, refl)

    ambivalent : (x : Attribution) → IsAttributed t terms name x → IsTrue (is_ambivalent x) ↔ IsAmbivalent t terms name
    ambivalent Nothing h = ((λ e. absurd (false≢true e)), (λ m. absurd (h m.0 m.2 m.4)))
    ambivalent (OneClass f class) h = ((λ e. absurd (false≢true e)), (λ m. absurd (m.6 (h.1 m.0 m.1 m.2 m.3 m.4 m.5))))
    ambivalent (Ambivalent f) h = ((λ e. h.1), (λ m. refl))

    pub ambivalent_some : (x : Attribution) → slice_get a.attributions symbol ≡ Some x → IsTrue (is_ambivalent x) ↔ IsAmbivalent t terms name
    ambivalent_some x e = ambivalent x (kept x e)

    pub ambivalent_none : slice_get a.attributions symbol ≡ None → IsTrue false ↔ IsAmbivalent t terms name
    ambivalent_none e = ambivalent Nothing (none_kept e)

  -- ---- two members
  Judged : Option (ℕ × ℕ) → Type 0
  Judged o = MatchOption o (IsUnambiguous accepts model) (λ p. (p.0 < length a.terms) × (p.1 < length a.terms) × IsAmbiguousBy accepts model (Some (terms_at a.terms p)))

  pub pair_none : None ≡ pair_of a → IsUnambiguous accepts model
  pair_none e = subst (λ (o : Option (ℕ × ℕ)). MatchOption o (IsUnambiguous accepts model) (λ p. (p.0 < length a.terms) × (p.1 < length a.terms) × IsAmbiguousBy accepts model (Some (terms_at a.terms p)))) (sym e) is.pair

  pair_some : (xy : ℕ × ℕ) → Some xy ≡ pair_of a → (xy.0 < length a.terms) × (xy.1 < length a.terms) × IsAmbiguousBy accepts model (Some (terms_at a.terms xy))
  pair_some xy e = subst (λ (o : Option (ℕ × ℕ)). MatchOption o (IsUnambiguous accepts model) (λ p. (p.0 < length a.terms) × (p.1 < length a.terms) × IsAmbiguousBy accepts model (Some (terms_at a.terms p)))) (sym e) is.pair

  pub pair_lost_first : (xy : ℕ × ℕ) → Some xy ≡ pair_of a → slice_get a.terms xy.0 ≡ None → ⊥
  pair_lost_first xy e f = let z : Some (get_or a.terms xy.0 0) ≡ None = sym (slice_get-get_or a.terms xy.0 0 (pair_some xy e).0) ∙ f in cc

  pub pair_lost_second : (xy : ℕ × ℕ) → Some xy ≡ pair_of a → slice_get a.terms xy.1 ≡ None → ⊥
  pair_lost_second xy e f = let z : Some (get_or a.terms xy.1 0) ≡ None = sym (slice_get-get_or a.terms xy.1 0 (pair_some xy e).1) ∙ f in cc

  pub pair_given : (xy : ℕ × ℕ) (p q : ℕ) → Some xy ≡ pair_of a → slice_get a.terms xy.0 ≡ Some p → slice_get a.terms xy.1 ≡ Some q → IsAmbiguousBy accepts model (Some (p, q))
  pair_given xy p q e f g =
      let h = pair_some xy e in
      let u : get_or a.terms xy.0 0 ≡ p = (let z : Some (get_or a.terms xy.0 0) ≡ Some p = sym (slice_get-get_or a.terms xy.0 0 h.0) ∙ f in cc) in
      let v : get_or a.terms xy.1 0 ≡ q = (let z : Some (get_or a.terms xy.1 0) ≡ Some q = sym (slice_get-get_or a.terms xy.1 0 h.1) ∙ g in cc) in
      (h.2.0, h.2.1, h.2.2, h.2.3 ∙ u, h.2.4 ∙ v)
