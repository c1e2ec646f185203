-- What an element lacks, name by name.
use Rattle.std.proofs.Common.{◌≡◌, ℕ, ◌+◌, ◌^◌, ◌<◌, ◌≤◌, Bool, true, false, List, [], ◌∷◌, ◌++◌, map, length, refl, sym, ap, ◌∙◌, arith, subst, append-nil, true≢false}
use Rattle.std.specs.Prelude.{All}
use Rattle.std.specs.List.{IsDistinct}
use Rattle.std.specs.List.Sorted.{IsPermutation, IsSortedBy}
use Rattle.std.proofs.Math.Bool.{and-false}
use Rattle.std.proofs.lemmas.List.{map-append}
use Rattle.std.proofs.lemmas.List.Elements.{All-nil, All-push}
use Rattle.std.proofs.lemmas.List.Sorted.{All-permutation, IsPermutation-map}
use Rattle.xs_names.specs.Names.{NameTable}
use Rattle.xs_components.specs.Tables.{Tables}
use Rattle.attr_uses.specs.declared.entry.UseAt.{UseAt}
use Rattle.attr_uses.specs.declared.entry.NeededUse.{NeededUse}
use Rattle.attr_uses.specs.Tables.{NoneNeeded}
use Rattle.assess_records.specs.declared.shape.NamedText.{NamedText}
use Rattle.attr_assess.specs.Lacking.{is_lacking, is_missing, is_added, AreThose}
use Rattle.attr_assess.specs.Added.{IsAddedUse, AreAddedNames, AreLacking}
use Rattle.attr_assess.specs.inside.Uses.{is_use_before, name_of, picked, IsNotedIf, IsNoted, AreLackingBelow, AreLackingUpTo}
use Rattle.attr_assess.specs.declared.added.AddedUse.{AddedUse}
use Rattle.attr_assess.specs.declared.lacking.Lacking.{Lacking}
use Rattle.attr_assess.proofs.Names.{found-none, found-gap, found-step}
use Rattle.attr_assess.proofs.Needs.{none-missing, none-added}
use Rattle.attr_assess.proofs.Orders.{those-permutation, names-sorted}

module _ (names : NameTable) (t : Tables) (uses : List UseAt) (given : List NamedText) where
  -- at the start
  pub lacking-none : (lacking : Lacking) → lacking.missing ≡ [] → lacking.added ≡ [] → AreLackingBelow names t uses given 0 lacking
  lacking-none lacking m a = record {
    missing = subst (AreThose (is_missing t uses given) 0) (sym m) (found-none (is_missing t uses given));
    added = subst (λ xs. AreThose (is_added t uses given) 0 (map name_of xs)) (sym a) (found-none (is_added t uses given));
    uses_are = subst (All (IsAddedUse names t uses)) (sym a) (All-nil (IsAddedUse names t uses));
  }

  -- no name from one bound up to another is needed
  pub lacking-gap : (from to : ℕ) (lacking : Lacking) → from ≤ to → NoneNeeded t uses from to → AreLackingBelow names t uses given from lacking → AreLackingBelow names t uses given to lacking
  lacking-gap from to lacking up none below = record {
    missing = found-gap (is_missing t uses given) from to lacking.missing up (none-missing t uses given from to none) below.missing;
    added = found-gap (is_added t uses given) from to (map name_of lacking.added) up (none-added t uses given from to none) below.added;
    uses_are = below.uses_are;
  }

  noted-names : (b : Bool) (name : ℕ) (old new : List AddedUse) → IsNotedIf names t uses given b name old new → map name_of new ≡ map name_of old ++ picked b name
  noted-names false name old new e = ap (map name_of) e ∙ sym (append-nil (map name_of old))
  noted-names true name old new w =
      ap (map name_of) w.3 ∙ (map-append name_of old (w.0 ∷ []) ∙ ap (λ n. map name_of old ++ n ∷ []) w.2)

  noted-uses : (b : Bool) (name : ℕ) (old new : List AddedUse) → IsNotedIf names t uses given b name old new → All (IsAddedUse names t uses) old → All (IsAddedUse names t uses) new
  noted-uses false name old new e all = subst (All (IsAddedUse names t uses)) (sym e) all
  noted-uses true name old new w all = subst (All (IsAddedUse names t uses)) (sym w.3) (All-push (IsAddedUse names t uses) old w.0 all w.1)

  -- one name more
  pub lacking-step : (n : ℕ) (old new : Lacking) → AreLackingBelow names t uses given n old →
      new.missing ≡ old.missing ++ picked (is_missing t uses given n) n → IsNoted names t uses given n old.added new.added →
      AreLackingBelow names t uses given (n + 1) new
  lacking-step n old new below m a = record {
    missing = subst (AreThose (is_missing t uses given) (n + 1)) (sym m) (found-step (is_missing t uses given) n old.missing below.missing);
    added = subst (AreThose (is_added t uses given) (n + 1)) (sym (noted-names (is_added t uses given n) n old.added new.added a)) (found-step (is_added t uses given) n (map name_of old.added) below.added);
    uses_are = noted-uses (is_added t uses given n) n old.added new.added a below.uses_are;
  }

  -- a turn: the next name that is needed
  pub lacking-turn : (one : NeededUse) (more : List NeededUse) (old new : Lacking) → AreLackingUpTo names t uses given (one ∷ more) old →
      new.missing ≡ old.missing ++ picked (is_missing t uses given one.name) one.name → IsNoted names t uses given one.name old.added new.added → AreLackingUpTo names t uses given more new
  lacking-turn one more old new w m a =
      let next = w.2.0 in
      let within = next.within in
      (one.name + 1, omega (arith, within), w.2.2, lacking-step one.name old new (lacking-gap w.0 one.name old next.behind next.none w.3) m a)

  -- past the last
  pub lacking-end : (lacking : Lacking) → AreLackingUpTo names t uses given [] lacking → AreLackingBelow names t uses given (2 ^ 32) lacking
  lacking-end lacking w = lacking-gap w.0 (2 ^ 32) lacking w.1 w.2 w.3

  -- and sorted
  pub lacking-sorted : (lacking sorted : Lacking) → AreLackingBelow names t uses given (2 ^ 32) lacking → sorted.missing ≡ lacking.missing →
      IsPermutation lacking.added sorted.added → IsSortedBy is_use_before sorted.added → AreLacking names t uses given sorted
  lacking-sorted lacking sorted below same moved up =
      let all : All (IsAddedUse names t uses) sorted.added = All-permutation (IsAddedUse names t uses) lacking.added sorted.added moved below.uses_are in
      record {
        missing = subst (AreThose (is_missing t uses given) (2 ^ 32)) (sym same) below.missing;
        added = record {
          those = those-permutation (is_added t uses given) (2 ^ 32) (map name_of lacking.added) (map name_of sorted.added) (IsPermutation-map name_of lacking.added sorted.added moved) below.added;
          sorted = names-sorted names t uses sorted.added all up;
        };
        uses_are = all;
      }

-- the same, by the lists on the way
pub lacking-put : (names : NameTable) (t : Tables) (uses : List UseAt) (given : List NamedText) (missing : List ℕ) (added before after final : List AddedUse) →
    AreLackingBelow names t uses given (2 ^ 32) record { missing = missing; added = added } → before ≡ added → IsPermutation before after → IsSortedBy is_use_before after → final ≡ after →
    AreLacking names t uses given record { missing = missing; added = final }
lacking-put names t uses given missing added before after final below e moved up f =
    lacking-sorted names t uses given record { missing = missing; added = added } record { missing = missing; added = final } below refl
    (subst (λ xs. IsPermutation xs final) e (subst (λ ys. IsPermutation before ys) (sym f) moved))
    (subst (IsSortedBy is_use_before) (sym f) up)

pub no-length : {X : Type 0} (xs : List X) → length xs ≡ 0 → xs ≡ []
no-length [] e = refl
no-length (x ∷ xs) e = absurd (omega (arith, e))

-- without uses nothing is missing, and nothing is added
pub nothing-missing : (t : Tables) (given : List NamedText) → AreThose (is_missing t [] given) (2 ^ 32) []
unfolding IsDistinct
nothing-missing t given = record {
  once = tt;
  below = All-nil (λ name. name < 2 ^ 32);
  hold = All-nil (λ name. is_missing t [] given name ≡ true);
  each = λ name h e. absurd (true≢false (sym e ∙ and-false (is_lacking given name)));
}

pub nothing-added : (names : NameTable) (t : Tables) (given : List NamedText) → AreAddedNames names t [] given []
unfolding IsDistinct
nothing-added names t given = record {
  those = record {
    once = tt;
    below = All-nil (λ name. name < 2 ^ 32);
    hold = All-nil (λ name. is_added t [] given name ≡ true);
    each = λ name h e. absurd (true≢false (sym e ∙ and-false (is_lacking given name)));
  };
  sorted = λ k d low high. absurd (omega arith);
}

pub lacking-useless : (names : NameTable) (t : Tables) (uses : List UseAt) (given : List NamedText) (lacking : Lacking) → uses ≡ [] → lacking.missing ≡ [] → lacking.added ≡ [] → AreLacking names t uses given lacking
lacking-useless names t uses given lacking none m a =
    subst (λ us. AreLacking names t us given lacking) (sym none)
    record {
      missing = subst (AreThose (is_missing t [] given) (2 ^ 32)) (sym m) (nothing-missing t given);
      added = subst (λ xs. AreAddedNames names t [] given (map name_of xs)) (sym a) (nothing-added names t given);
      uses_are = subst (All (IsAddedUse names t [])) (sym a) (All-nil (IsAddedUse names t []));
    }
