-- What is kept stands for the same.
use Rattle.std.proofs.Common.{◌≡◌, ℕ, zero, suc, ◌^◌, ◌<◌, Bool, List, [], ◌∷◌, Option, None, Some, Result, Ok, Err, length, slice_get, refl, sym, subst, ◌∙◌, arith}
use Rattle.std.proofs.lemmas.Option.{slice_get_within}
use Rattle.xs_codes.specs.declared.fault.Fault.{Fault}
use Rattle.xs_components.specs.Tables.{Tables}
use Rattle.xs_components.specs.declared.common.Wildcard.{Wildcard}
use Rattle.attr_uses.specs.Maps.{MapNodes, IsMapOf, KeepsMaps}
use Rattle.attr_uses.specs.declared.entry.Entry.{Entry}
use Rattle.attr_uses.specs.Uses.{AttrUses, group_uses}
use Rattle.attr_uses.specs.Tables.{StandsFor, Answers, IsAnswer, IsSetOf, IsStore, IsWildcard, kept_wildcard, IsKeptWildcard}
use Rattle.attr_uses.specs.inside.Kept.{Keeps, IsAnswerAt, AreGroups}
use Rattle.attr_uses.specs.declared.store.KeptTable.{KeptTable}
use Rattle.attr_uses.specs.declared.store.Store.{Store}

pub maps-on : (a b c : MapNodes) → KeepsMaps a b → KeepsMaps b c → KeepsMaps a c
maps-on a b c h k = record { depth = k.depth ∙ h.depth; maps = λ top entries is. k.maps top entries (h.maps top entries is) }

pub maps-itself : (a : MapNodes) → KeepsMaps a a
maps-itself a = record { depth = refl; maps = λ top entries is. is }

pub keeps-itself : (a : Store) → Keeps a a
keeps-itself a = record { maps = maps-itself a.maps; wildcards = λ n w is. is }

pub keeps-on : (a b c : Store) → Keeps a b → Keeps b c → Keeps a c
keeps-on a b c h k = record { maps = maps-on a.maps b.maps c.maps h.maps k.maps; wildcards = λ n w is. k.wildcards n w (h.wildcards n w is) }

-- other maps, and the same wildcards
pub keeps-maps : (old : Store) (maps : MapNodes) → KeepsMaps old.maps maps → Keeps old record { maps = maps; wildcards = old.wildcards }
keeps-maps old maps k = record { maps = k; wildcards = λ n w is. is }

pub set-kept : (a b : MapNodes) → KeepsMaps a b → (top : ℕ) (names : List ℕ) → IsSetOf a top names → IsSetOf b top names
set-kept a b k top names is = record {
  entries = is.entries;
  map = k.maps top is.entries is.map;
  has = λ name h. is.has name (subst (λ d. name < 2 ^ d) k.depth h);
}

there-kept : (xs : List Wildcard) (n : ℕ) → n < length xs → (w : Wildcard) × (slice_get xs n ≡ Some w)
there-kept [] n l = absurd (omega (arith, l))
there-kept (x ∷ xs) zero l = (x, refl)
there-kept (x ∷ xs) (suc n) l = there-kept xs n (omega (arith, l))

pub wildcard-kept : (a b : Store) → Keeps a b → (n : Option ℕ) → IsKeptWildcard a.wildcards n → IsKeptWildcard b.wildcards n × (kept_wildcard b.wildcards n ≡ kept_wildcard a.wildcards n)
wildcard-kept a b k None is = (is, refl)
wildcard-kept a b k (Some n) is =
    let w = there-kept a.wildcards n is in
    let e = k.wildcards n w.0 w.1 in
    (slice_get_within b.wildcards n w.0 e, e ∙ sym w.1)

module _ (t : Tables) (ids : List Bool) (a b : Store) (k : Keeps a b) where
  pub stands-kept : (table : KeptTable) (value : AttrUses) → StandsFor t ids a table value → StandsFor t ids b table value
  stands-kept table value is = record {
    uses = k.maps.maps table.uses.top _ is.uses;
    prohibited = set-kept a.maps b.maps k.maps table.prohibited.top value.prohibited is.prohibited;
    kept = (wildcard-kept a b k table.wildcard is.kept).0;
    wildcard = subst (λ o. IsWildcard o value.wildcard) (sym (wildcard-kept a b k table.wildcard is.kept).1) is.wildcard;
  }

  pub answers-kept : (answer : Result KeptTable Fault) (value : Result AttrUses Fault) → Answers t ids a answer value → Answers t ids b answer value
  answers-kept (Ok table) (Ok value) is = stands-kept table value is
  answers-kept (Ok table) (Err fault) is = absurd is
  answers-kept (Err fault) (Ok value) is = absurd is
  answers-kept (Err fault) (Err other) is = is

  pub answer-kept : (o : Option (Result KeptTable Fault)) (value : Result AttrUses Fault) → IsAnswer t ids a o value → IsAnswer t ids b o value
  answer-kept None value is = absurd is
  answer-kept (Some answer) value is = answers-kept answer value is

  pub answer-at-kept : (o : Option (Result KeptTable Fault)) (value : Result AttrUses Fault) → IsAnswerAt t ids a o value → IsAnswerAt t ids b o value
  answer-at-kept None value is = is
  answer-at-kept (Some answer) value is = answers-kept answer value is

  pub groups-kept : (groups : List (Result KeptTable Fault)) → AreGroups t ids a groups → AreGroups t ids b groups
  groups-kept groups are = record { alike = are.alike; each = λ n h. answer-kept (slice_get groups n) (group_uses t n) (are.each n h) }

pub store-kept : (a b : Store) → Keeps a b → IsStore a → IsStore b
store-kept a b k is = record { deep = k.maps.depth ∙ is.deep; any = k.wildcards 0 _ is.any }

pub map-same : (maps : MapNodes) (top : ℕ) (f g : ℕ → Option Entry) → ((name : ℕ) → name < 2 ^ maps.depth → f name ≡ g name) → IsMapOf maps top f → IsMapOf maps top g
map-same maps top f g same is = record { there = is.there; shape = is.shape; finds = λ name h. is.finds name h ∙ same name h }
