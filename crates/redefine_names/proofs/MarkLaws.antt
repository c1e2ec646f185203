-- Marks of references to themselves, one after another.
use Rattle.std.proofs.Common.{◌≡◌, ◌⊎◌, inl, inr, ℕ, ◌+◌, ◌<◌, ◌==◌, Bool, true, false, List, Option, None, Some, length, get_or, replicate, refl, sym, ap, subst, ◌∙◌, arith}
use Rattle.std.specs.Prelude.{◌&&◌, slice_get, slice_index_or, if◌then◌else◌}
use Rattle.std.proofs.lemmas.Bool.{cases_eq, false≢true}
use Rattle.std.proofs.lemmas.Bool.Decides.{nat_tests}
use Rattle.std.proofs.lemmas.Option.{none-some, same_Some}
use Rattle.std.proofs.lemmas.List.{length-replicate, get_or-replicate}
use Rattle.representations.specs.declared.parts.Representation.{Representation}
use Rattle.redefine_names.specs.Redirections.{same_kind, version_around}
use Rattle.redefine_names.specs.declared.declared.Declared.{Declared}
use Rattle.redefine_names.specs.declared.declared.VersionKind.{VersionKind}
use Rattle.redefine_names.specs.declared.declared.VersionKind.TheVariants as kinds
use Rattle.redefine_names.specs.Redefined.{referred, redefined_by, IsSelfReference}
use Rattle.redefine_names.specs.inside.Steps.{if_same, self_referring, self_referring_at, HasSelfBelow, AreMarks, IsMarked}

-- ---- what is declared is the same
kind-same : (a b : VersionKind) → same_kind a b ≡ true → a ≡ b
kind-same kinds.Type kinds.Type e = refl
kind-same kinds.Type kinds.Group e = absurd (false≢true e)
kind-same kinds.Type kinds.AttributeGroup e = absurd (false≢true e)
kind-same kinds.Group kinds.Type e = absurd (false≢true e)
kind-same kinds.Group kinds.Group e = refl
kind-same kinds.Group kinds.AttributeGroup e = absurd (false≢true e)
kind-same kinds.AttributeGroup kinds.Type e = absurd (false≢true e)
kind-same kinds.AttributeGroup kinds.Group e = absurd (false≢true e)
kind-same kinds.AttributeGroup kinds.AttributeGroup e = refl

kind-itself : (a : VersionKind) → same_kind a a ≡ true
kind-itself kinds.Type = refl
kind-itself kinds.Group = refl
kind-itself kinds.AttributeGroup = refl

number-itself : (n : ℕ) → (n == n) ≡ true
number-itself n = grind (arith, nat_tests)

number-same : (n m : ℕ) → (n == m) ≡ true → n ≡ m
number-same n m e = grind (arith, nat_tests)

both_true : (a b : Bool) → (a && b) ≡ true → (a ≡ true) × (b ≡ true)
both_true true b e = (refl, e)
both_true false b e = absurd (false≢true e)

abbrev made : VersionKind → ℕ → Declared
made kind name = record { kind = kind; name = name }

abbrev is_same : Declared → Declared → Bool
is_same a b = same_kind a.kind b.kind && (a.name == b.name)

declared-same : (a b : Declared) → is_same a b ≡ true → a ≡ b
declared-same a b e =
    let x = both_true (same_kind a.kind b.kind) (a.name == b.name) e in
    ap (λ k. made k a.name) (kind-same a.kind b.kind x.0) ∙ ap (made b.kind) (number-same a.name b.name x.1)

declared-itself : (a : Declared) → is_same a a ≡ true
declared-itself a = rw (kind-itself a.kind) (number-itself a.name)

-- ---- what an element refers to
found-same : (version : ℕ) (original to : Option Declared) (v : ℕ) → if_same version original to ≡ Some v → (version ≡ v) × ((d : Declared) × (original ≡ Some d) × (to ≡ Some d))
found-same version None to v e = absurd (none-some v e)
found-same version (Some original) None v e = absurd (none-some v e)
found-same version (Some original) (Some to) v e = by (is_same original to) refl e
  where
    by : (b : Bool) → is_same original to ≡ b → (if b then Some version else None) ≡ Some v → (version ≡ v) × ((d : Declared) × (Some original ≡ Some d) × (Some to ≡ Some d))
    by true is e = (same_Some version v e, (to, ap Some (declared-same original to is), refl))
    by false is e = absurd (none-some v e)

same-found : (version : ℕ) (original to : Option Declared) (d : Declared) → original ≡ Some d → to ≡ Some d → if_same version original to ≡ Some version
same-found version original to d e f = rw (e, f) (ap (λ (b : Bool). if b then Some version else None) (declared-itself d))

module _ (reps : List Representation) (originals : List (Option ℕ)) (place : ℕ) (rep : Representation) (at : slice_get reps place ≡ Some rep) where
  referring-is : (v : ℕ) → self_referring_at reps originals place rep ≡ Some v → IsSelfReference reps originals v place
  referring-is v = by (version_around reps originals place) refl
    where
      by : (o : Option ℕ) → version_around reps originals place ≡ o → self_referring reps originals o rep.form ≡ Some v → IsSelfReference reps originals v place
      by None around e = absurd (none-some v e)
      by (Some version) around e =
          let x = found-same version (redefined_by reps originals version) (referred rep.form) v e in
          record {
            rep = rep;
            to = x.1.0;
            there = at;
            within = around ∙ ap Some x.0;
            refers = x.1.2;
            original = subst (λ n. redefined_by reps originals n ≡ Some x.1.0) x.0 x.1.1;
          }

  is-referring : (v : ℕ) → IsSelfReference reps originals v place → self_referring_at reps originals place rep ≡ Some v
  is-referring v is =
      let same : is.rep ≡ rep = same_Some is.rep rep (sym is.there ∙ at) in
      let refers : referred rep.form ≡ Some is.to = subst (λ (r : Representation). referred r.form ≡ Some is.to) same is.refers in
      ap (λ o. self_referring reps originals o rep.form) is.within ∙ same-found v (redefined_by reps originals v) (referred rep.form) is.to is.original refers

-- ---- marks
module _ (reps : List Representation) (originals : List (Option ℕ)) where
  pub marks-first : (marks : List Bool) → marks ≡ replicate (length reps) false → AreMarks reps originals 0 marks
  marks-first marks e = record {
    each = ap length e ∙ length-replicate (length reps) false;
    right = λ v l. (
      (λ h. absurd (false≢true (sym (ap (λ fs. get_or fs v false) e ∙ get_or-replicate (length reps) v false false l) ∙ h))),
      λ x. absurd (omega (arith, x.1)),
    );
  }

  is_some : (o : Option ℕ) (p : ℕ) → (o ≡ Some p) ⊎ (o ≡ Some p → ⊥)
  is_some None p = inr (λ e. none-some p e)
  is_some (Some q) p = elim (cases_eq q p) [ inl same ↦ inl (ap Some same) | inr differ ↦ inr (λ e. differ (same_Some q p e)) ]

  pub marks-more : (n : ℕ) (rep : Representation) (old new : List Bool) (o : Option ℕ) → slice_get reps n ≡ Some rep → o ≡ self_referring_at reps originals n rep → AreMarks reps originals n old → IsMarked old o new → AreMarks reps originals (n + 1) new
  marks-more n rep old new o at is was marked = record {
    each = marked.each ∙ was.each;
    right = λ v l. (to v l, from v l);
  }
    where
      to : (v : ℕ) → v < length reps → slice_index_or new v false ≡ true → HasSelfBelow reps originals (n + 1) v
      to v l h = elim (is_some o v) [
        | inl e ↦ (n, omega arith, referring-is reps originals n rep at v (sym is ∙ e))
        | inr differ ↦ (let x = (was.right v l).0 (sym (marked.others v differ) ∙ h) in (x.0, omega (arith, x.1), x.2))
      ]

      kept : (v : ℕ) → v < length reps → slice_index_or old v false ≡ true → slice_index_or new v false ≡ true
      kept v l h = elim (is_some o v) [
        | inl e ↦ (let long = was.each in marked.itself v (omega (arith, l, long)) e)
        | inr differ ↦ marked.others v differ ∙ h
      ]

      from : (v : ℕ) → v < length reps → HasSelfBelow reps originals (n + 1) v → slice_index_or new v false ≡ true
      from v l x = elim (cases_eq x.0 n) [
        | inl same ↦ (let long = was.each in
            marked.itself v (omega (arith, l, long)) (is ∙ is-referring reps originals n rep at v (subst (λ p. IsSelfReference reps originals v p) same x.2)))
        | inr differ ↦ kept v l ((was.right v l).1 (x.0, omega (arith, x.1, differ), x.2))
      ]
