-- What a table tells of the codes of the root.
use Rattle.std.proofs.Common.{◌≡◌, ◌≢◌, ◌↔◌, ℕ, ◌≤◌, ◌<◌, ◌==◌, Bool, true, false, not, List, ◌++◌, length, refl, sym, ◌∙◌, ap, subst, arith, ⊎_elim, bytes_eq}
use Rattle.std.specs.Prelude.{IsTrue}
use Rattle.std.specs.List.{list_any}
use Rattle.std.proofs.lemmas.Bool.{true≢false, and_parts, eqb-true, eq-eqb, ne_eqb, cases_lt}
use Rattle.std.proofs.lemmas.Slice.Eq.{bytes_eq-Decides}
use Rattle.xs_codes.specs.declared.code.Code.TheVariants.{CvcId1, CvcId2}
use Rattle.identity_tables.specs.IdTable.{id_count, reference_count, HasMissingId, HasSharedId}
use Rattle.identity_tables.specs.Entries.{IdEntries}
use Rattle.identity_tables.specs.Ids.{BorneAtom, BorneId, ids, references, binding, has_unbound, has_shared, code_if, id_codes}
use Rattle.identity_tables.specs.Table.{is_borne, is_reference, IsTableOf}
use Rattle.identity_tables.proofs.Among.{Among, counted, counted-one, any-of, any-one, filtered, filtered-from, mapped, mapped-from, some-length, first-among}

same-bytes : (a b : List ℕ) → bytes_eq a b ≡ true → a ≡ b
same-bytes a b e = (bytes_eq-Decides a b).0 e

bytes-same : (a b : List ℕ) → a ≡ b → bytes_eq a b ≡ true
bytes-same a b e = (bytes_eq-Decides a b).1 e

-- two tests that stand for one thing answer the same
pub one-test : (a b : Bool) → (a ≡ true → b ≡ true) → (b ≡ true → a ≡ true) → a ≡ b
one-test true true to from = refl
one-test true false to from = sym (to refl)
one-test false true to from = from refl
one-test false false to from = refl

-- an ID stands in its binding, and what stands in a binding is an ID
in-binding : (all : List BorneId) (b : BorneId) (id : List ℕ) → Among b all → b.id ≡ id → Among b.bearer (binding all id)
in-binding all b id there same = mapped (λ (x : BorneId). x.bearer) b _ (filtered (λ (x : BorneId). bytes_eq x.id id) b all there (bytes-same b.id id same))

from-binding : (all : List BorneId) (n : ℕ) (id : List ℕ) → Among n (binding all id) → (b : BorneId) × (b.bearer ≡ n) × (b.id ≡ id) × Among b all
from-binding all n id there =
    let m = mapped-from (λ (x : BorneId). x.bearer) n _ there in
    let f = filtered-from (λ (x : BorneId). bytes_eq x.id id) m.0 all m.2 in
    (m.0, m.1, same-bytes m.0.id id f.0, f.1)

module _ (table : IdEntries) (atoms : List BorneAtom) (t : IsTableOf table atoms) where
  counted-id : (b : BorneId) → Among b (ids atoms) → 1 ≤ id_count table b.id b.bearer
  counted-id b there =
      rw (t.ids_are b.id b.bearer) (counted (is_borne b.id b.bearer) b (ids atoms) there (rw (bytes-same b.id b.id refl, eq-eqb b.bearer b.bearer refl) refl))

  id-counted : (id : List ℕ) (bearer : ℕ) → 1 ≤ id_count table id bearer → (b : BorneId) × (b.id ≡ id) × (b.bearer ≡ bearer) × Among b (ids atoms)
  id-counted id bearer some =
      let one = counted-one (is_borne id bearer) (ids atoms) (rw (t.ids_are id bearer) at some) in
      let both = and_parts _ _ one.1 in
      (one.0, same-bytes one.0.id id both.0, eqb-true one.0.bearer bearer both.1, one.2)

  empty-binding : (id : List ℕ) → ((bearer : ℕ) → id_count table id bearer ≡ 0) → (length (binding (ids atoms) id) == 0) ≡ true
  empty-binding id none =
      ⊎_elim
      (λ (some : 0 < length (binding (ids atoms) id)).
      let first = first-among (binding (ids atoms) id) some in
      let b = from-binding (ids atoms) first.0 id first.1 in
      let count = counted-id b.0 b.3 in
      let zero : id_count table b.0.id b.0.bearer ≡ 0 = subst (λ (i : List ℕ). id_count table i b.0.bearer ≡ 0) (sym b.2) (none b.0.bearer) in
      absurd (omega arith))
      (λ (few : length (binding (ids atoms) id) ≤ 0). eq-eqb _ _ (omega arith))
      (cases_lt 0 (length (binding (ids atoms) id)))

  missing-unbound : HasMissingId table → has_unbound (ids atoms) (references atoms) ≡ true
  missing-unbound missing =
      let one = counted-one (is_reference missing.0) (references atoms) (rw (t.references_are missing.0) at missing.1) in
      let same = same-bytes one.0 missing.0 one.1 in
      any-of (λ id. length (binding (ids atoms) id) == 0) one.0 (references atoms) one.2 (empty-binding one.0 (λ bearer. subst (λ (i : List ℕ). id_count table i bearer ≡ 0) (sym same) (missing.2 bearer)))

  no-count : (id : List ℕ) → (length (binding (ids atoms) id) == 0) ≡ true → (bearer : ℕ) → id_count table id bearer ≡ 0
  no-count id none bearer =
      ⊎_elim
      (λ (some : 0 < id_count table id bearer).
      let b = id-counted id bearer some in
      let there = some-length _ _ (in-binding (ids atoms) b.0 id b.3 b.1) in
      let zero = eqb-true _ _ none in
      absurd (omega arith))
      (λ (few : id_count table id bearer ≤ 0). omega arith)
      (cases_lt 0 (id_count table id bearer))

  unbound-missing : has_unbound (ids atoms) (references atoms) ≡ true → HasMissingId table
  unbound-missing unbound =
      let one = any-one (λ id. length (binding (ids atoms) id) == 0) (references atoms) unbound in
      let count : 1 ≤ reference_count table one.0 = rw (t.references_are one.0) (counted (is_reference one.0) one.0 (references atoms) one.2 (bytes-same one.0 one.0 refl)) in
      (one.0, count, no-count one.0 one.1)

  shared-any : HasSharedId table → has_shared (ids atoms) ≡ true
  shared-any shared =
      let a = id-counted shared.0 shared.1 shared.4 in
      let b = id-counted shared.0 shared.2 shared.5 in
      let apart : (b.0.bearer == a.0.bearer) ≡ false = ne_eqb _ _ (λ same. shared.3 (sym a.2 ∙ (sym same ∙ b.2))) in
      let there = in-binding (ids atoms) b.0 a.0.id b.3 (b.1 ∙ sym a.1) in
      let other = any-of (λ o. not (o == a.0.bearer)) b.0.bearer (binding (ids atoms) a.0.id) there (rw apart refl) in
      any-of (λ (x : BorneId). list_any (λ o. not (o == x.bearer)) (binding (ids atoms) x.id)) a.0 (ids atoms) a.3 other

  any-shared : has_shared (ids atoms) ≡ true → HasSharedId table
  any-shared some =
      let a = any-one (λ (x : BorneId). list_any (λ o. not (o == x.bearer)) (binding (ids atoms) x.id)) (ids atoms) some in
      let o = any-one (λ o. not (o == a.0.bearer)) (binding (ids atoms) a.0.id) a.1 in
      let b = from-binding (ids atoms) o.0 a.0.id o.2 in
      let apart : b.0.bearer ≢ a.0.bearer = λ same. true≢false (sym o.1 ∙ ap not (eq-eqb o.0 a.0.bearer (sym b.1 ∙ same))) in
      let of_b : 1 ≤ id_count table a.0.id b.0.bearer = subst (λ (id : List ℕ). 1 ≤ id_count table id b.0.bearer) b.2 (counted-id b.0 b.3) in
      (a.0.id, b.0.bearer, a.0.bearer, apart, of_b, counted-id a.0 a.2)

  pub unbound-is : (missing : Bool) → IsTrue missing ↔ HasMissingId table → missing ≡ has_unbound (ids atoms) (references atoms)
  unbound-is missing is = one-test missing (has_unbound (ids atoms) (references atoms)) (λ yes. missing-unbound (is.0 yes)) (λ yes. is.1 (unbound-missing yes))

  pub shared-is : (shared : Bool) → IsTrue shared ↔ HasSharedId table → shared ≡ has_shared (ids atoms)
  shared-is shared is = one-test shared (has_shared (ids atoms)) (λ yes. shared-any (is.0 yes)) (λ yes. is.1 (any-shared yes))

  pub codes-are : (missing shared : Bool) → IsTrue missing ↔ HasMissingId table → IsTrue shared ↔ HasSharedId table → code_if missing CvcId1 ++ code_if shared CvcId2 ≡ id_codes atoms
  unfolding id_codes
  codes-are missing shared m s = ap (λ b. code_if b CvcId1 ++ code_if shared CvcId2) (unbound-is missing m) ∙ ap (λ b. code_if (has_unbound (ids atoms) (references atoms)) CvcId1 ++ code_if b CvcId2) (shared-is shared s)
