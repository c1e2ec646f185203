-- What a table has when atoms come in.
use Rattle.std.proofs.Common.{◌≡◌, ℕ, ◌+◌, Bool, cond, List, [], ◌∷◌, ◌++◌, sym, ◌∙◌, ap, arith, append-nil}
use Rattle.std.specs.List.{count_by}
use Rattle.std.proofs.lemmas.Grind.{flat_map-append}
use Rattle.std.proofs.lemmas.List.Sums.{sum_by-append}
use Rattle.identity_tables.specs.IdTable.{IsOneMoreId, IsOneMoreReference}
use Rattle.identity_tables.specs.Entries.{IdEntries}
use Rattle.identity_tables.specs.Ids.{BorneAtom, ids_in, references_in, ids, references}
use Rattle.identity_tables.specs.Table.{is_borne, is_reference, IsTableOf, IsGrown}

module _ {X : Type 0} (p : X → Bool) where
  count-append : (xs ys : List X) → count_by p (xs ++ ys) ≡ count_by p xs + count_by p ys
  count-append xs ys = sum_by-append (λ x. cond (p x) 1 0) xs ys

-- the table of more atoms
pub table-grown : (old new : IdEntries) (all : List BorneAtom) (a : BorneAtom) → IsGrown old new (ids_in a) (references_in a) → IsTableOf old all → IsTableOf new (all ++ a ∷ [])
table-grown old new all a grown was = record {
  ids_are = λ id bearer.
      let split : ids (all ++ a ∷ []) ≡ ids all ++ ids_in a = flat_map-append ids_in all (a ∷ []) ∙ ap (λ last. ids all ++ last) (append-nil (ids_in a)) in
      grown.ids_grown id bearer ∙ (ap (λ n. n + count_by (is_borne id bearer) (ids_in a)) (was.ids_are id bearer)
      ∙ (sym (count-append (is_borne id bearer) (ids all) (ids_in a)) ∙ ap (count_by (is_borne id bearer)) (sym split)));
  references_are = λ id.
      let split : references (all ++ a ∷ []) ≡ references all ++ references_in a = flat_map-append references_in all (a ∷ []) ∙ ap (λ last. references all ++ last) (append-nil (references_in a)) in
      grown.references_grown id ∙ (ap (λ n. n + count_by (is_reference id) (references_in a)) (was.references_are id)
      ∙ (sym (count-append (is_reference id) (references all) (references_in a)) ∙ ap (count_by (is_reference id)) (sym split)));
}

-- an ID comes in
pub grown-id : (old new : IdEntries) (id : List ℕ) (bearer : ℕ) → IsOneMoreId old new id bearer → IsGrown old new (record { id = id; bearer = bearer } ∷ []) []
grown-id old new id bearer more = record {
  ids_grown = λ other element. let one = more.ids other element in omega arith;
  references_grown = λ other. let same = more.references other in omega arith;
}

-- a reference comes in
pub grown-reference : (old new : IdEntries) (id : List ℕ) → IsOneMoreReference old new id → IsGrown old new [] (id ∷ [])
grown-reference old new id more = record {
  ids_grown = λ other element. let same = more.ids other element in omega arith;
  references_grown = λ other. let one = more.references other in omega arith;
}

-- nothing comes in
pub grown-same : (old : IdEntries) → IsGrown old old [] []
grown-same old = record {
  ids_grown = λ other element. omega arith;
  references_grown = λ other. omega arith;
}
