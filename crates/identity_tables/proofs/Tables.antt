-- Tables of tuples through one change of one of them.
use Rattle.std.proofs.Common.{◌≡◌, ℕ, Bool, true, false, cond, List, [], refl, sym, ◌∙◌, ap, subst, arith, ⊎_elim, Option}
use Rattle.std.specs.Map.{lookup}
use Rattle.std.specs.Option.{unwrap_or}
use Rattle.std.proofs.lemmas.Bool.{cases_Bool, and_parts, eqb-true}
use Rattle.simple_values.specs.declared.key.Key.{Key}
use Rattle.identity_tables.specs.declared.key_tables.TableId.{TableId}
use Rattle.identity_tables.specs.Counts.{IsOneMore}
use Rattle.identity_tables.specs.Tuple.{same_tuple}
use Rattle.identity_tables.specs.KeyTables.{Tables, same_table, tuples_of, IsOneMoreTuple}

-- the tuples of each table after the one of this number has changed
abbrev pub ChangesTable : Tables → Tables → ℕ → ℕ → List (List Key × ℕ) → Type 0
ChangesTable m n scope constraint after =
    (s c : ℕ) → tuples_of n s c ≡ cond (same_table (record { scope = scope; constraint = constraint }) (record { scope = s; constraint = c })) after (tuples_of m s c)

-- from what a map's call says
pub changes_table : (m n : Tables) (scope constraint : ℕ) (w : Option (List (List Key × ℕ))) → ((q : TableId) → lookup (same_table q) n ≡ cond (same_table (record { scope = scope; constraint = constraint }) q) w (lookup (same_table q) m)) → ChangesTable m n scope constraint (unwrap_or w [])
changes_table m n scope constraint w updates = λ s c.
    ap (λ o. unwrap_or o []) (updates (record { scope = s; constraint = c }))
    ∙ choice (same_table (record { scope = scope; constraint = constraint }) (record { scope = s; constraint = c })) w (lookup (same_table (record { scope = s; constraint = c })) m)
  where
    choice : (b : Bool) (w o : Option (List (List Key × ℕ))) → unwrap_or (cond b w o) [] ≡ cond b (unwrap_or w []) (unwrap_or o [])
    choice true w o = refl
    choice false w o = refl

module _ (m n : Tables) (scope constraint : ℕ) (before after : List (List Key × ℕ)) (was : tuples_of m scope constraint ≡ before) (changes : ChangesTable m n scope constraint after) where
  pub here_before : (s c : ℕ) → same_table (record { scope = scope; constraint = constraint }) (record { scope = s; constraint = c }) ≡ true → tuples_of m s c ≡ before
  here_before s c same_id =
      let both = and_parts _ _ same_id in
      subst (λ (i : ℕ). tuples_of m i c ≡ before) (eqb-true scope s both.0) (subst (λ (i : ℕ). tuples_of m scope i ≡ before) (eqb-true constraint c both.1) was)

  pub here_after : (s c : ℕ) → same_table (record { scope = scope; constraint = constraint }) (record { scope = s; constraint = c }) ≡ true → tuples_of n s c ≡ after
  here_after s c same_id = changes s c ∙ ap (λ b. cond b after (tuples_of m s c)) same_id

  pub elsewhere : (s c : ℕ) → same_table (record { scope = scope; constraint = constraint }) (record { scope = s; constraint = c }) ≡ false → tuples_of n s c ≡ tuples_of m s c
  elsewhere s c other_id = changes s c ∙ ap (λ b. cond b after (tuples_of m s c)) other_id

  pub one_more : (tuple : List Key) → IsOneMore same_tuple before after tuple → IsOneMoreTuple m n scope constraint tuple
  one_more tuple more = λ s c other.
      ⊎_elim
      (λ same_id. rw (here_after s c same_id, here_before s c same_id, same_id) (more other))
      (λ other_id. rw (elsewhere s c other_id, other_id) (omega arith))
      (cases_Bool (same_table (record { scope = scope; constraint = constraint }) (record { scope = s; constraint = c })))

  pub one_less : (tuple : List Key) → IsOneMore same_tuple after before tuple → IsOneMoreTuple n m scope constraint tuple
  one_less tuple more = λ s c other.
      ⊎_elim
      (λ same_id. rw (here_after s c same_id, here_before s c same_id, same_id) (more other))
      (λ other_id. rw (elsewhere s c other_id, other_id) (omega arith))
      (cases_Bool (same_table (record { scope = scope; constraint = constraint }) (record { scope = s; constraint = c })))

  pub same_tuples : after ≡ before → (s c : ℕ) → tuples_of n s c ≡ tuples_of m s c
  same_tuples same = λ s c.
      ⊎_elim
      (λ same_id. here_after s c same_id ∙ same ∙ sym (here_before s c same_id))
      (λ other_id. elsewhere s c other_id)
      (cases_Bool (same_table (record { scope = scope; constraint = constraint }) (record { scope = s; constraint = c })))
