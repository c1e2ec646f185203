-- Representations renamed by tables, and what stays of them.
use Rattle.std.proofs.Common.{◌≡◌, ℕ, suc, ◌+◌, ◌<◌, ◌++◌, Bool, true, false, ◌||◌, List, [], ◌∷◌, Option, None, Result, Ok, Err, length, take, get_or, refl, sym, ap, subst, ◌∙◌, arith}
use Rattle.std.specs.Prelude.{IfOk, slice_index_or, if◌then◌else◌}
use Rattle.std.proofs.lemmas.List.Folds.{list_any_more}
use Rattle.xs_names.specs.Names.{NameTable}
use Rattle.representations.specs.Named.{AreNamed}
use Rattle.representations.specs.declared.parts.Representation.{Representation}
use Rattle.redefine_names.specs.VersionNames.{version_at}
use Rattle.redefine_names.specs.declared.redirections.Redirection.{Redirection}
use Rattle.redefine_names.specs.Redirections.{redirection_at}
use Rattle.redefine_names.specs.Renamed.{is_place, is_original, original_name, renamed_as, renamed_from, renamed}
use Rattle.redefine_names.specs.inside.Tables.{renamed_by}
use Rattle.redefine_names.proofs.StayLaws.{renamed-in}

module _ (t : NameTable) (reps : List Representation) (originals : List (Option ℕ)) (names : List (Option ℕ)) (redirections : List (Option Redirection))
    (named : (place : ℕ) → place < length reps → slice_index_or names place None ≡ original_name t reps originals place)
    (redirected : (place : ℕ) → place < length reps → slice_index_or redirections place None ≡ redirection_at t reps originals place)
  where
    by-tables : (place : ℕ) (some : List Representation) → place + length some ≡ length reps → renamed_by names redirections place some ≡ renamed_from t reps originals place some
    by-tables place [] many = refl
    by-tables place (rep ∷ some) many =
        let l : place < length reps = omega (arith, many) in
        let on : suc place + length some ≡ length reps = omega (arith, many) in
        ap (λ (n : Option ℕ). renamed_as n (slice_index_or redirections place None) rep ∷ renamed_by names redirections (suc place) some) (named place l)
        ∙ (ap (λ (r : Option Redirection). renamed_as (original_name t reps originals place) r rep ∷ renamed_by names redirections (suc place) some) (redirected place l)
        ∙ ap (λ (others : List Representation). renamed_as (original_name t reps originals place) (redirection_at t reps originals place) rep ∷ others) (by-tables (suc place) some on))

    pub all-by-tables : renamed_by names redirections 0 reps ≡ renamed_from t reps originals 0 reps
    all-by-tables = let z : 0 + length reps ≡ length reps = omega arith in by-tables 0 reps z

-- one original more
module _ (t : NameTable) (reps : List Representation) (originals : List (Option ℕ)) (i : ℕ) (original : Option ℕ) (within : i < length originals) (at : original ≡ get_or originals i original)
    (was new : List (Option ℕ)) (many : length was ≡ length reps)
    (before : (place : ℕ) → place < length reps → slice_index_or was place None ≡ (if is_original (take i originals) place then version_at t reps place else None))
    (put : (place : ℕ) → place < length was → slice_index_or new place None ≡ (if is_place place original then version_at t reps place else slice_index_or was place None))
  where
    either : (one other : Bool) (name : Option ℕ) → (if other then name else (if one then name else None)) ≡ (if one || other then name else None)
    either true true name = refl
    either true false name = refl
    either false true name = refl
    either false false name = refl

    pub put-step : (place : ℕ) → place < length reps → slice_index_or new place None ≡ (if is_original (take (i + 1) originals) place then version_at t reps place else None)
    put-step place l =
        let name = version_at t reps place in
        let w : place < length was = omega (arith, l, many) in
        put place w
        ∙ (ap (λ (o : Option ℕ). if is_place place original then name else o) (before place l)
        ∙ (either (is_original (take i originals) place) (is_place place original) name
        ∙ (ap (λ (o : Option ℕ). if is_original (take i originals) place || is_place place o then name else None) at
        ∙ ap (λ (b : Bool). if b then name else None) (sym (list_any_more (is_place place) originals i original within)))))

-- one representation more
module _ (names : List (Option ℕ)) (redirections : List (Option Redirection)) where
  pub length-renamed : (place : ℕ) (some : List Representation) → length (renamed_by names redirections place some) ≡ length some
  length-renamed place [] = refl
  length-renamed place (rep ∷ some) = ap suc (length-renamed (suc place) some)

  renamed-more : (place : ℕ) (some : List Representation) (rep : Representation)
      → renamed_by names redirections place (some ++ rep ∷ []) ≡ renamed_by names redirections place some ++ renamed_as (slice_index_or names (place + length some) None) (slice_index_or redirections (place + length some) None) rep ∷ []
  renamed-more place [] rep =
      let z : place ≡ place + 0 = omega arith in
      ap (λ (n : ℕ). renamed_as (slice_index_or names n None) (slice_index_or redirections n None) rep ∷ []) z
  renamed-more place (first ∷ some) rep =
      let s : suc place + length some ≡ place + suc (length some) = omega arith in
      ap (λ (others : List Representation). renamed_as (slice_index_or names place None) (slice_index_or redirections place None) first ∷ others)
      (renamed-more (suc place) some rep ∙ ap (λ (n : ℕ). renamed_by names redirections (suc place) some ++ renamed_as (slice_index_or names n None) (slice_index_or redirections n None) rep ∷ []) s)

  pub renamed-push : (made some : List Representation) (rep : Representation) → made ≡ renamed_by names redirections 0 some
      → made ++ renamed_as (slice_index_or names (length made) None) (slice_index_or redirections (length made) None) rep ∷ [] ≡ renamed_by names redirections 0 (some ++ rep ∷ [])
  renamed-push made some rep is =
      let long : length made ≡ length some = ap length is ∙ length-renamed 0 some in
      let many : length made ≡ 0 + length some = omega (arith, long) in
      ap (λ (l : List Representation). l ++ renamed_as (slice_index_or names (length made) None) (slice_index_or redirections (length made) None) rep ∷ []) is
      ∙ (ap (λ (n : ℕ). renamed_by names redirections 0 some ++ renamed_as (slice_index_or names n None) (slice_index_or redirections n None) rep ∷ []) many
      ∙ sym (renamed-more 0 some rep))

-- all of them, where the tables have what is asked of a list that is this one
module _ (t : NameTable) (shown reps : List Representation) (same : shown ≡ reps) (originals : List (Option ℕ)) (names : List (Option ℕ)) (redirections : List (Option Redirection))
    (named : (place : ℕ) → place < length shown → slice_index_or names place None ≡ original_name t shown originals place)
    (redirected : (place : ℕ) → place < length shown → slice_index_or redirections place None ≡ redirection_at t shown originals place)
  where
    by-both : renamed_by names redirections 0 reps ≡ renamed t reps originals
    by-both = subst (λ (l : List Representation). renamed_by names redirections 0 l ≡ renamed t l originals) same (all-by-tables t shown originals names redirections named redirected)

    pub all-renamed : {E : Type 0} (result : Result (List Representation) E) → IfOk result (λ made. made ≡ renamed_by names redirections 0 reps) → IfOk result (λ made. made ≡ renamed t reps originals)
    all-renamed (Ok made) is = is ∙ by-both
    all-renamed (Err e) is = tt

    pub all-named : {E : Type 0} (result : Result (List Representation) E) → AreNamed t reps → IfOk result (λ made. made ≡ renamed_by names redirections 0 reps) → IfOk result (AreNamed t)
    all-named (Ok made) h is = subst (AreNamed t) (sym (is ∙ by-both)) (renamed-in t reps originals h)
    all-named (Err e) h is = tt

-- one more, from the answers of the calls that make it
module _ (names : List (Option ℕ)) (redirections : List (Option Redirection)) where
  pub pushed : (made some : List Representation) (rep one : Representation) (new : List Representation) (name : Option ℕ) (redirection : Option Redirection) (n m : ℕ) (shown : List (Option ℕ)) (gone : List (Option Redirection))
      → made ≡ renamed_by names redirections 0 some → new ≡ made ++ one ∷ [] → one ≡ renamed_as name redirection rep
      → name ≡ slice_index_or shown n None → redirection ≡ slice_index_or gone m None → n ≡ length made → m ≡ length made → shown ≡ names → gone ≡ redirections
      → new ≡ renamed_by names redirections 0 (some ++ rep ∷ [])
  pushed made some rep one new name redirection n m shown gone is put one-is name-is redirection-is n-is m-is shown-is gone-is =
      let name-at : name ≡ slice_index_or names (length made) None =
      name-is ∙ (ap (λ (l : List (Option ℕ)). slice_index_or l n None) shown-is ∙ ap (λ (k : ℕ). slice_index_or names k None) n-is) in
      let redirection-at : redirection ≡ slice_index_or redirections (length made) None =
      redirection-is ∙ (ap (λ (l : List (Option Redirection)). slice_index_or l m None) gone-is ∙ ap (λ (k : ℕ). slice_index_or redirections k None) m-is) in
      put
      ∙ (ap (λ (r : Representation). made ++ r ∷ []) (one-is ∙ (ap (λ (x : Option ℕ). renamed_as x redirection rep) name-at ∙ ap (λ (x : Option Redirection). renamed_as (slice_index_or names (length made) None) x rep) redirection-at))
      ∙ renamed-push names redirections made some rep is)
