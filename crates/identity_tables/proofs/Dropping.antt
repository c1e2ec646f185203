-- A table from which the IDs and references of an atom are taken.
use Rattle.std.proofs.Common.{◌≡◌, ℕ, ◌+◌, ◌≤◌, ◌<◌, List, [], ◌∷◌, ◌++◌, Option, length, get_or, drop, cond, true, refl, sym, ap, ◌∙◌, subst, append_assoc, arith}
use Rattle.std.specs.Prelude.{sum_by, bytes_eq, ◌==◌, ◌&&◌}
use Rattle.std.proofs.lemmas.List.{drop_more}
use Rattle.std.proofs.lemmas.Bool.{eq-eqb}
use Rattle.std.proofs.lemmas.List.Sums.{sum_by-append, sum_by-cons}
use Rattle.std.proofs.lemmas.Slice.Eq.{bytes_eq-Decides}
use Rattle.xs_codes.specs.declared.builtin.Builtin.{Builtin}
use Rattle.simple_values.specs.declared.atom.Atom.{Atom}
use Rattle.simple_values.specs.declared.atom.Atom.TheVariants as atoms
use Rattle.simple_values.specs.declared.atoms.TypedAtom.{TypedAtom}
use Rattle.simple_values.specs.declared.value.Value.{Value}
use Rattle.identity_tables.specs.Entries.{IdEntries}
use Rattle.identity_tables.specs.IdTable.{id_count, reference_count}
use Rattle.identity_tables.specs.Ids.{BorneAtom, BorneId, ids, references, ids_in, references_in, ids_if, references_if, role_of, strings_of, borne, borne_by, borne_in, borne_in_all}
use Rattle.identity_tables.specs.declared.role.IdRole.{IdRole}
use Rattle.identity_tables.specs.declared.role.IdRole.TheVariants.{Id, Reference, Neither}
use Rattle.identity_tables.specs.Table.{is_borne, is_reference, IsTableOf, IsGrown}
use Rattle.identity_tables.specs.Counted.{HasCounted}

bytes-same : (a : List ℕ) → bytes_eq a a ≡ true
bytes-same a = (bytes_eq-Decides a a).1 refl

pub counted-first : (table : IdEntries) (a : BorneAtom) (atoms : List BorneAtom) → IsTableOf table (a ∷ atoms) → HasCounted table (ids_in a) (references_in a)
counted-first table a atoms t = record {
  ids_have = λ id bearer. let e = t.ids_are id bearer in let s = sum_by-append (λ x. cond (is_borne id bearer x) 1 0) (ids_in a) (ids atoms) in omega (arith, e, s);
  references_have = λ id. let e = t.references_are id in let s = sum_by-append (λ x. cond (is_reference id x) 1 0) (references_in a) (references atoms) in omega (arith, e, s);
}

pub table-without : (old new : IdEntries) (a : BorneAtom) (atoms : List BorneAtom) → IsTableOf old (a ∷ atoms) → IsGrown new old (ids_in a) (references_in a) → IsTableOf new atoms
table-without old new a atoms t grown = record {
  ids_are = λ id bearer.
      let e = t.ids_are id bearer in let s = sum_by-append (λ x. cond (is_borne id bearer x) 1 0) (ids_in a) (ids atoms) in let g = grown.ids_grown id bearer in omega (arith, e, s, g);
  references_are = λ id.
      let e = t.references_are id in let s = sum_by-append (λ x. cond (is_reference id x) 1 0) (references_in a) (references atoms) in let g = grown.references_grown id in omega (arith, e, s, g);
}

-- where an atom is no string, it is neither an ID nor a reference
pub no-ids : (role : IdRole) (bearer : ℕ) → ids_if role bearer [] ≡ []
no-ids Id bearer = refl
no-ids Reference bearer = refl
no-ids Neither bearer = refl

pub no-references : (role : IdRole) → references_if role [] ≡ []
no-references Id = refl
no-references Reference = refl
no-references Neither = refl

-- ---- an atom that is a string

module _ (bearer : ℕ) (builtin : Builtin) (atom : Atom) (chars : List ℕ) (role : IdRole) (is : atom ≡ atoms.Text chars) (acts : role ≡ role_of builtin) where
  abbrev own : BorneAtom
  own = borne bearer (record { builtin = builtin; atom = atom })

  own-ids : ids_if role bearer (chars ∷ []) ≡ ids_in own
  own-ids = ap (λ (q : IdRole). ids_if q bearer (chars ∷ [])) acts ∙ ap (λ (x : Atom). ids_if (role_of builtin) bearer (strings_of x)) (sym is)

  own-references : references_if role (chars ∷ []) ≡ references_in own
  own-references = ap (λ (q : IdRole). references_if q (chars ∷ [])) acts ∙ ap (λ (x : Atom). references_if (role_of builtin) (strings_of x)) (sym is)

  pub text-counted : (table : IdEntries) (all : List BorneAtom) → IsTableOf table (own ∷ all) → HasCounted table (ids_if role bearer (chars ∷ [])) (references_if role (chars ∷ []))
  text-counted table all t =
      subst (λ (refs : List (List ℕ)). HasCounted table (ids_if role bearer (chars ∷ [])) refs) (sym own-references)
      (subst (λ (found : List BorneId). HasCounted table found (references_in own)) (sym own-ids) (counted-first table own all t))

  pub text-without : (old new : IdEntries) (all : List BorneAtom) → IsGrown new old (ids_if role bearer (chars ∷ [])) (references_if role (chars ∷ [])) → IsTableOf old (own ∷ all) → IsTableOf new all
  text-without old new all grown t =
      table-without old new own all t
      (subst (λ (refs : List (List ℕ)). IsGrown new old (ids_in own) refs) own-references
      (subst (λ (found : List BorneId). IsGrown new old found (references_if role (chars ∷ []))) own-ids grown))

-- an atom that is no string
pub other-without : (bearer : ℕ) (builtin : Builtin) (atom : Atom) → ((chars : List ℕ) → atom ≡ atoms.Text chars → ⊥) → (table : IdEntries) (all : List BorneAtom) →
    IsTableOf table (borne bearer (record { builtin = builtin; atom = atom }) ∷ all) → IsTableOf table all
other-without bearer builtin atom other table all t =
    let none = no-strings atom other in
    let own_ids = ap (ids_if (role_of builtin) bearer) none ∙ no-ids (role_of builtin) bearer in
    let own_references = ap (references_if (role_of builtin)) none ∙ no-references (role_of builtin) in
    record {
      ids_are = λ id by. t.ids_are id by ∙ ap (λ own. sum_by (λ x. cond (is_borne id by x) 1 0) (own ++ ids all)) own_ids;
      references_are = λ id. t.references_are id ∙ ap (λ own. sum_by (λ x. cond (is_reference id x) 1 0) (own ++ references all)) own_references;
    }
  where
    no-strings : (x : Atom) → ((chars : List ℕ) → x ≡ atoms.Text chars → ⊥) → strings_of x ≡ []
    no-strings (atoms.Text chars) h = absurd (h chars refl)
    no-strings _ h = refl

-- ---- an ID or a reference that is there

pub one-id : (table : IdEntries) (id : List ℕ) (bearer : ℕ) (role : IdRole) → role ≡ Id → HasCounted table (ids_if role bearer (id ∷ [])) (references_if role (id ∷ [])) → 1 ≤ id_count table id bearer
one-id table id bearer role e counted =
    let h = (subst (λ (q : IdRole). HasCounted table (ids_if q bearer (id ∷ [])) (references_if q (id ∷ []))) e counted).ids_have id bearer in
    let own = sum_by-cons (λ x. cond (is_borne id bearer x) 1 0) (record { id = id; bearer = bearer }) [] in
    let one : ◌≡◌ {A = ℕ} (cond (bytes_eq id id && (bearer == bearer)) 1 0) 1 = rw (bytes-same id, eq-eqb bearer bearer refl) refl in
    omega (arith, h, own, one)

pub one-reference : (table : IdEntries) (id : List ℕ) (bearer : ℕ) (role : IdRole) → role ≡ Reference → HasCounted table (ids_if role bearer (id ∷ [])) (references_if role (id ∷ [])) → 1 ≤ reference_count table id
one-reference table id bearer role e counted =
    let h = (subst (λ (q : IdRole). HasCounted table (ids_if q bearer (id ∷ [])) (references_if q (id ∷ []))) e counted).references_have id in
    let own = sum_by-cons (λ x. cond (is_reference id x) 1 0) id [] in
    let one : ◌≡◌ {A = ℕ} (cond (bytes_eq id id) 1 0) 1 = rw (bytes-same id) refl in
    omega (arith, h, own, one)

-- ---- items one after another

pub first-item : (bearer : ℕ) (items : List TypedAtom) (i : ℕ) (x : TypedAtom) → i < length items → x ≡ get_or items i x → borne_by bearer (drop i items) ≡ borne bearer x ∷ borne_by bearer (drop (i + 1) items)
first-item bearer items i x lt is =
    ap (borne_by bearer) (drop_more items i x lt) ∙ ap (λ (y : TypedAtom). borne bearer y ∷ borne_by bearer (drop (i + 1) items)) (sym is)

pub first-value : (bearer : ℕ) (values : List (Option Value)) (i : ℕ) (x : Option Value) (all : List BorneAtom) → i < length values → x ≡ get_or values i x →
    borne_in_all bearer (drop i values) ++ all ≡ borne_in bearer x ++ (borne_in_all bearer (drop (i + 1) values) ++ all)
first-value bearer values i x all lt is =
    ap (λ (l : List (Option Value)). borne_in_all bearer l ++ all) (drop_more values i x lt)
    ∙ ap (λ (y : Option Value). (borne_in bearer y ++ borne_in_all bearer (drop (i + 1) values)) ++ all) (sym is)
    ∙ append_assoc (borne_in bearer x) (borne_in_all bearer (drop (i + 1) values)) all
