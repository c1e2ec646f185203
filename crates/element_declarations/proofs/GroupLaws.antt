-- Groups, one element after another.
use Rattle.std.proofs.Common.{◌≡◌, inl, inr, ℕ, zero, suc, ◌+◌, ◌<◌, ◌≤◌, List, [], ◌∷◌, ◌++◌, length, map, take, get_or, slice_get, refl, sym, ◌∙◌, subst, ap, arith}
use Rattle.std.specs.Prelude.{All, Contains}
use Rattle.std.specs.List.Sorted.{IsStrictlySortedBy}
use Rattle.std.specs.declared.cmp.Ordering.TheVariants.{Less}
use Rattle.std.proofs.lemmas.Bool.{true≢false}
use Rattle.std.proofs.lemmas.List.{take_all, take_more, map-append, length-map}
use Rattle.std.proofs.lemmas.List.Elements.{All-weaker, All-contains, All-contains_itself, recursion_from_All, Contains-append_left, Contains-push, Contains-push_cases}
use Rattle.xs_components.specs.Tables.{Tables}
use Rattle.xs_components.specs.declared.element.ElementDecl.{ElementDecl}
use Rattle.xs_components.specs.Heads.{names_of}
use Rattle.element_declarations.specs.Groups.{IsEntry, AreGroups, by_place, name_of, part_name}
use Rattle.element_declarations.specs.inside.Steps.{IsListed, IsGroupSoFar, IsPutIf, IsInOrder, IsJoined}
use Rattle.element_declarations.proofs.OrderLaws.{sorted-push, before-place}
use Rattle.element_declarations.proofs.HeadLaws.{member-there}

module _ (t : Tables) (head : ℕ) where
  module _ (done : List ℕ) (e : ℕ) (old new : List ℕ) (before : All (λ x. by_place t x e ≡ Less) done) (g : IsGroupSoFar t head done old) where
    with-one : IsListed t head e → new ≡ old ++ name_of t e ∷ [] → IsGroupSoFar t head (done ++ e ∷ []) new
    with-one is put = record {
      members = g.members ++ e ∷ [];
      exact = λ x. (
        (λ c. elim (Contains-push_cases g.members e x c) [
          | inl own ↦ (Contains-append_left done (e ∷ []) x ((g.exact x).0 own).0, ((g.exact x).0 own).1)
          | inr same ↦ (subst (Contains (done ++ e ∷ [])) same (Contains-push done e), subst (IsListed t head) same is)
        ]),
        (λ p. elim (Contains-push_cases done e x p.0) [
          | inl own ↦ Contains-append_left g.members (e ∷ []) x ((g.exact x).1 (own, p.1))
          | inr same ↦ subst (Contains (g.members ++ e ∷ [])) same (Contains-push g.members e)
        ]),
      );
      ordered = sorted-push t g.members e g.ordered
          (recursion_from_All (λ x. by_place t x e ≡ Less) g.members
          (All-weaker (Contains g.members) (λ x. by_place t x e ≡ Less) (λ x c. All-contains (λ y. by_place t y e ≡ Less) done x before ((g.exact x).0 c).0) g.members (All-contains_itself g.members)));
      all_names = put ∙ (ap (λ xs. xs ++ name_of t e ∷ []) g.all_names ∙ ap (λ xs. name_of t head ∷ xs) (sym (map-append (name_of t) g.members (e ∷ []))));
    }

    without-one : (IsListed t head e → ⊥) → new ≡ old → IsGroupSoFar t head (done ++ e ∷ []) new
    without-one never same = record {
      members = g.members;
      exact = λ x. (
        (λ c. (Contains-append_left done (e ∷ []) x ((g.exact x).0 c).0, ((g.exact x).0 c).1)),
        (λ p. elim (Contains-push_cases done e x p.0) [
          | inl own ↦ (g.exact x).1 (own, p.1)
          | inr is ↦ absurd (never (subst (IsListed t head) (sym is) p.1))
        ]),
      );
      ordered = g.ordered;
      all_names = same ∙ g.all_names;
    }

    put-one : IsPutIf (IsListed t head e) (name_of t e) old new → IsGroupSoFar t head (done ++ e ∷ []) new
    put-one (inl p) = with-one p.0 p.1
    put-one (inr p) = without-one p.0 p.1

  -- with the next element
  pub group-more : (order : List ℕ) (i e : ℕ) (old new : List ℕ) → IsInOrder t order → i < length order → e ≡ get_or order i e → IsGroupSoFar t head (take i order) old → IsPutIf (IsListed t head e) (name_of t e) old new → IsGroupSoFar t head (take (i + 1) order) new
  group-more order i e old new all l is g put =
      subst (λ done. IsGroupSoFar t head done new) (ap (λ x. take i order ++ x ∷ []) is ∙ sym (take_more order i e l))
      (put-one (take i order) e old new (subst (λ y. All (λ x. by_place t x y ≡ Less) (take i order)) (sym is) (before-place t order i e all.ordered l)) g put)

  no-members : (xs : List ℕ) → ((x : ℕ) → Contains xs x → ⊥) → xs ≡ []
  no-members [] none = refl
  no-members (x ∷ xs) none = absurd (none x (0, omega arith, refl))

  pub group-whole : (order names : List ℕ) → IsInOrder t order → IsGroupSoFar t head order names → IsEntry t head names
  group-whole order names all g = record {
    named = λ named. record {
      members = g.members;
      exact = λ e. (
        (λ c. ((g.exact e).0 c).1.member),
        (λ m. (g.exact e).1 (all.each e (member-there t head e m), record { named = named; member = m })),
      );
      ordered = g.ordered;
      all_names = g.all_names;
    };
    other = λ other.
        let none = no-members g.members (λ x c. let listed = ((g.exact x).0 c).1 in true≢false (sym listed.named ∙ other)) in
        g.all_names ∙ ap (λ xs. name_of t head ∷ map (name_of t) xs) none;
  }

  none-sorted : IsStrictlySortedBy (by_place t) []
  unfolding IsStrictlySortedBy
  none-sorted = tt

  pub group-begins : (order : List ℕ) → IsGroupSoFar t head (take 0 order) (name_of t head ∷ [])
  group-begins order = record {
    members = [];
    exact = λ e. ((λ c. absurd (omega (arith, c.1))), (λ p. absurd (omega (arith, p.0.1))));
    ordered = none-sorted;
    all_names = refl;
  }

-- all groups, as far as these elements go
pub record AreGroupsSoFar (t : Tables) (done : List ℕ) (lists : List (List ℕ)) : Type 0 where
  pub count : length lists ≡ length t.elements.parts
  pub each : (head : ℕ) → head < length lists → IsGroupSoFar t head done (names_of lists head)

module _ (t : Tables) where
  own-name : (parts : List ElementDecl) (head : ℕ) → head < length parts → names_of (map (λ part. part.name ∷ []) parts) head ≡ part_name (slice_get parts head) ∷ []
  own-name [] head l = absurd (omega arith)
  own-name (part ∷ parts) zero l = refl
  own-name (part ∷ parts) (suc n) l = own-name parts n (omega arith)

  pub groups-begin : (order : List ℕ) (lists : List (List ℕ)) → lists ≡ map (λ part. part.name ∷ []) t.elements.parts → AreGroupsSoFar t (take 0 order) lists
  groups-begin order lists is =
      let long : length lists ≡ length t.elements.parts = ap length is ∙ length-map t.elements.parts (λ part. part.name ∷ []) in
      record {
        count = long;
        each = λ head l.
            let own : names_of lists head ≡ name_of t head ∷ [] = ap (λ ls. names_of ls head) is ∙ own-name t.elements.parts head (subst (λ n. head < n) long l) in
            subst (IsGroupSoFar t head (take 0 order)) (sym own) (group-begins t head order);
      }

  pub groups-more : (order : List ℕ) (i e : ℕ) (old new : List (List ℕ)) → IsInOrder t order → i < length order → e ≡ get_or order i e → AreGroupsSoFar t (take i order) old → IsJoined t e old new → AreGroupsSoFar t (take (i + 1) order) new
  groups-more order i e old new all l is g joined = record {
    count = joined.count ∙ g.count;
    each = λ head lower. let l2 : head < length old = subst (λ n. head < n) joined.count lower in group-more t head order i e (names_of old head) (names_of new head) all l is (g.each head l2) (joined.each head l2);
  }

  pub groups-whole : (order : List ℕ) (lists : List (List ℕ)) → IsInOrder t order → AreGroupsSoFar t order lists → AreGroups t lists
  groups-whole order lists all g = record { each = g.count; are = λ head l. group-whole t head order (names_of lists head) all (g.each head l) }

  pub groups-end : (order : List ℕ) (i : ℕ) (lists : List (List ℕ)) → IsInOrder t order → length order ≤ i → AreGroupsSoFar t (take i order) lists → AreGroups t lists
  groups-end order i lists all l g = groups-whole order lists all (subst (λ done. AreGroupsSoFar t done lists) (take_all i order l) g)
