-- The terms of child elements, where the table of names has grown.
use Rattle.std.proofs.Common.{◌≡◌, inl, inr, ℕ, zero, suc, ◌<◌, Bool, List, [], ◌∷◌, Option, None, Some, take, length, refl, sym, ap, ◌∙◌, subst, slice_index}
use Rattle.std.specs.Prelude.{All, slice_index_or}
use Rattle.std.proofs.lemmas.List.{get_or_append_left}
use Rattle.std.proofs.lemmas.List.Elements.{All-head, All-tail, All-cons, All-nil}
use Rattle.xs_names.specs.Names.{NameTable, Grown}
use Rattle.particle_models.specs.Words.{IsWordOfNames, BeginsWord}
use Rattle.particle_forms.specs.Models.{model_of}
use Rattle.particle_forms.specs.Accepted.{accepts}
use Rattle.content_automaton.specs.Attribution.{IsAmbivalent}
use Rattle.content_automaton.specs.Modelled.{IsTermAt}
use Rattle.content_automaton.specs.Terms.{ExpandedName, name_at}
use Rattle.content_models.specs.Built.{IsFirstIn}
use Rattle.content_models.specs.Terms.{model_terms}
use Rattle.schema_models.specs.Named.{AreNamed}
use Rattle.schema_models.proofs.Accepting.{same-accepts}
use Rattle.schema_models.proofs.Growing.{words-same, beginnings-same, ambivalent-same, first-same}
use Rattle.assessment.specs.Attribution.{SchemaSet, expanded, IsWord, Begins, IsStuck, IsBefore, IsNameAmbivalent, IsTermOf, AreTermsBy, AreTerms}
use Rattle.assessment_laws.specs.Grown.{with_table}

module _ (s : SchemaSet) (new : NameTable) (g : Grown s.names new) (named : AreNamed s.names s.members) where
  abbrev IsIn : ℕ → Type 0
  IsIn n = n < length s.names.names

  name-kept : (n : ℕ) → IsIn n → name_at new n ≡ name_at s.names n
  name-kept n l = ap (λ (names : List ExpandedName). slice_index_or {A = ExpandedName} names n (0, [])) g.names.1 ∙ get_or_append_left s.names.names g.names.0 (0, []) n l

  expanded-kept : (children : List ℕ) → All IsIn children → expanded (with_table s new) children ≡ expanded s children
  expanded-kept [] all = refl
  expanded-kept (n ∷ children) all =
      let own = name-kept n (All-head IsIn n children all) in
      let rest = expanded-kept children (All-tail IsIn n children all) in
      λ i. own i ∷ rest i

  take-in : (k : ℕ) (children : List ℕ) → All IsIn children → All IsIn (take k children)
  take-in zero [] all = All-nil IsIn
  take-in zero (n ∷ children) all = All-nil IsIn
  take-in (suc k) [] all = All-nil IsIn
  take-in (suc k) (n ∷ children) all = All-cons IsIn n (take k children) (All-head IsIn n children all) (take-in k children (All-tail IsIn n children all))

  module _ (p : ℕ) where
    word-kept : (children : List ℕ) → All IsIn children → IsWord s p children → IsWord (with_table s new) p children
    word-kept children all w =
        subst (λ (names : List ExpandedName). IsWordOfNames (accepts new s.members s.parts) (model_of s.parts p) names) (sym (expanded-kept children all))
        ((words-same s.names new s.parts s.members g named p (expanded s children)).0 w)

    word-was : (children : List ℕ) → All IsIn children → IsWord (with_table s new) p children → IsWord s p children
    word-was children all w =
        (words-same s.names new s.parts s.members g named p (expanded s children)).1
        (subst (λ (names : List ExpandedName). IsWordOfNames (accepts new s.members s.parts) (model_of s.parts p) names) (expanded-kept children all) w)

    begins-kept : (children : List ℕ) → All IsIn children → Begins s p children → Begins (with_table s new) p children
    begins-kept children all w =
        subst (λ (names : List ExpandedName). BeginsWord (accepts new s.members s.parts) (model_of s.parts p) names) (sym (expanded-kept children all))
        ((beginnings-same s.names new s.parts s.members g named p (expanded s children)).0 w)

    begins-was : (children : List ℕ) → All IsIn children → Begins (with_table s new) p children → Begins s p children
    begins-was children all w =
        (beginnings-same s.names new s.parts s.members g named p (expanded s children)).1
        (subst (λ (names : List ExpandedName). BeginsWord (accepts new s.members s.parts) (model_of s.parts p) names) (expanded-kept children all) w)

    stuck-kept : (children : List ℕ) → All IsIn children → (stuck : Option ℕ) → IsStuck s p children stuck → IsStuck (with_table s new) p children stuck
    stuck-kept children all None w = word-kept children all w
    stuck-kept children all (Some i) w = (
      (λ k l. begins-kept (take (suc k) children) (take-in (suc k) children all) (w.0 k l)),
      elim w.1 [
        | inl short ↦ inl (short.0, λ b. short.1 (begins-was (take (suc i) children) (take-in (suc i) children all) b))
        | inr end ↦ inr (end.0, λ b. end.1 (word-was children all b))
      ],
    )

    ambivalent-kept : (name : ℕ) → IsIn name → IsNameAmbivalent s p name → IsNameAmbivalent (with_table s new) p name
    ambivalent-kept name l h =
        subst (λ (n : ExpandedName). IsAmbivalent new (model_terms s.members s.parts s.classes p) n) (sym (name-kept name l))
        ((ambivalent-same s.names new s.parts s.members g named s.classes p (name_at s.names name)).0 h)

    ambivalent-was : (name : ℕ) → IsIn name → IsNameAmbivalent (with_table s new) p name → IsNameAmbivalent s p name
    ambivalent-was name l h =
        (ambivalent-same s.names new s.parts s.members g named s.classes p (name_at s.names name)).1
        (subst (λ (n : ExpandedName). IsAmbivalent new (model_terms s.members s.parts s.classes p) n) (name-kept name l) h)

    before-kept : (stuck : Option ℕ) (i : ℕ) → IsBefore s p stuck i → IsBefore (with_table s new) p stuck i
    before-kept None i h = h
    before-kept (Some stuck) i h = h

    before-was : (stuck : Option ℕ) (i : ℕ) → IsBefore (with_table s new) p stuck i → IsBefore s p stuck i
    before-was None i h = h
    before-was (Some stuck) i h = h

    term-kept : (children : List ℕ) → All IsIn children → (stuck : Option ℕ) (i name : ℕ) → IsIn name → (term : Option ℕ) → IsTermOf s p children stuck i name term → IsTermOf (with_table s new) p children stuck i name term
    term-kept children all stuck i name l term (inl h) =
        let prefix = expanded-kept (take i children) (take-in i children all) in
        let own = name-kept name l in
        let same = same-accepts s.names new g s.members named s.parts in
        inl (
          ambivalent-kept name l h.0,
          before-kept stuck i h.1,
          subst (λ (n : ExpandedName). IsTermAt (accepts new s.members s.parts) (model_of s.parts p) (expanded (with_table s new) (take i children)) n term) (sym own)
              (subst (λ (names : List ExpandedName). IsTermAt (accepts new s.members s.parts) (model_of s.parts p) names (name_at s.names name) term) (sym prefix)
              (subst (λ (f : ℕ → ExpandedName → Bool). IsTermAt f (model_of s.parts p) (expanded s (take i children)) (name_at s.names name) term) same h.2)),
        )
    term-kept children all stuck i name l term (inr h) =
        inr (
          (λ a b. h.0 (ambivalent-was name l a) (before-was stuck i b)),
          subst (λ (n : ExpandedName). IsFirstIn new s.parts s.members s.classes p n term) (sym (name-kept name l))
              ((first-same s.names new s.parts s.members g named s.classes p (name_at s.names name) term).0 h.1),
        )

    terms-by-kept : (children : List ℕ) → All IsIn children → (stuck : Option ℕ) (terms : List (Option ℕ)) → AreTermsBy s p children stuck terms → AreTermsBy (with_table s new) p children stuck terms
    terms-by-kept children all stuck terms h = record {
      each = h.each;
      are = λ i l. term-kept children all stuck i (slice_index children i) (all i 0 l) (slice_index_or terms i None) (h.are i l);
      stuck_is = stuck-kept children all stuck h.stuck_is;
    }

  pub terms-kept : (particle : Option ℕ) (children : List ℕ) (stuck : Option ℕ) (terms : List (Option ℕ)) → All IsIn children → AreTerms s particle children stuck terms → AreTerms (with_table s new) particle children stuck terms
  terms-kept None children stuck terms all h = record { terms_are = h.terms_are; stuck_is = h.stuck_is }
  terms-kept (Some p) children stuck terms all h = terms-by-kept p children all stuck terms h
