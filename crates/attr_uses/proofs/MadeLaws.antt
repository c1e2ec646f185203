-- Tables that are made of others stand for the uses that are made of theirs.
use Rattle.std.proofs.Common.{◌≡◌, ℕ, ◌+◌, ◌^◌, ◌<◌, Bool, true, false, ◌||◌, nat_eq, ◌==◌, List, [], ◌∷◌, ◌++◌, Option, None, Some, Result, Ok, Err, map, drop, get_or, length, slice_get, refl, sym, ap, subst, ◌∙◌, arith}
use Rattle.std.specs.Prelude.{All, if◌then◌else◌}
use Rattle.std.specs.Option.{is_some, option_map, option_and_then, option_or}
use Rattle.std.proofs.lemmas.Bool.{true≢false}
use Rattle.std.proofs.lemmas.Bool.Decides.{nat_tests}
use Rattle.std.proofs.lemmas.List.{append-nil, drop_more}
use Rattle.std.proofs.lemmas.List.Elements.{All-get_or}
use Rattle.std.proofs.lemmas.Option.{same_Some, none-some, slice_get_within}
use Rattle.std.proofs.lemmas.List.Folds.{list_any-append}
use Rattle.xs_codes.specs.declared.fault.Fault.{Fault}
use Rattle.xs_components.specs.Tables.{Tables}
use Rattle.xs_components.specs.declared.common.Wildcard.{Wildcard}
use Rattle.xs_components.specs.declared.complex.ComplexType.{ComplexType}
use Rattle.xs_codes.specs.declared.code.Code.TheVariants.{SrcCt5}
use Rattle.attr_uses.specs.declared.entry.UseHolder.{UseHolder}
use Rattle.attr_uses.specs.Entries.{joined}
use Rattle.attr_uses.specs.Maps.{MapNodes, IsMapOf, KeepsMaps}
use Rattle.attr_uses.specs.declared.entry.Entry.{Entry}
use Rattle.attr_uses.specs.declared.join.Join.TheVariants.{Union, Override, Without}
use Rattle.attr_uses.specs.declared.maps.UseMap.{UseMap}
use Rattle.attr_uses.specs.Wildcards.{joined_wildcard, intersection, union}
use Rattle.attr_uses.specs.Written.{OwnParts, fault_at, places, united_uses}
use Rattle.attr_uses.specs.Uses.{AttrUses, no_uses, with_group, with_groups, accepted_groups, first_refusal, restricted_uses, extended_uses, is_listed, any_wildcard, any_type_uses, own_uses, or_fault, with_base, group_uses}
use Rattle.attr_uses.specs.Tables.{entry_for, StandsFor, Answers, IsAnswer, IsSetOf, IsStore, IsWildcard, kept_wildcard, IsKeptWildcard}
use Rattle.attr_uses.specs.inside.Kept.{Keeps, IsForm, IsMade, IsAnswerAt, table_of, fault_of, with_next, table_or}
use Rattle.attr_uses.specs.declared.store.KeptTable.{KeptTable}
use Rattle.attr_uses.specs.declared.store.Store.{Store}
use Rattle.attr_uses.proofs.EntryLaws.{entry-united, entry-restricted}
use Rattle.attr_uses.proofs.KeptLaws.{maps-on, keeps-maps, keeps-on, stands-kept, set-kept, map-same}

abbrev store-of : MapNodes → List Wildcard → Store
store-of maps wildcards = record { maps = maps; wildcards = wildcards }

union-some : (a b : Option Entry) → is_some (joined Union a b) ≡ (is_some a || is_some b)
union-some None b = refl
union-some (Some a) None = refl
union-some (Some a) (Some b) = refl

-- names of two lists
pub sets-united : (maps : MapNodes) (top : ℕ) (xs ys : List ℕ) (a b : ℕ → Option Entry) → ((name : ℕ) → name < 2 ^ maps.depth → is_some (a name) ≡ is_listed xs (Some name)) → ((name : ℕ) → name < 2 ^ maps.depth → is_some (b name) ≡ is_listed ys (Some name)) →
    IsMapOf maps top (λ name. joined Union (a name) (b name)) → IsSetOf maps top (xs ++ ys)
sets-united maps top xs ys a b ha hb is = record {
  entries = λ name. joined Union (a name) (b name);
  map = is;
  has = λ name h. union-some (a name) (b name) ∙ (ap (λ p. p || is_some (b name)) (ha name h) ∙ (ap (λ p. is_listed xs (Some name) || p) (hb name h) ∙ sym (list_any-append (λ other. other == name) xs ys)));
}

module _ (t : Tables) (ids : List Bool) where
  -- by restriction
  pub restricted-made : (store : Store) (m1 m2 : MapNodes) → KeepsMaps store.maps m1 → KeepsMaps m1 m2 → (own : KeptTable) (a b : AttrUses) (sa : StandsFor t ids store own a) (uses : UseMap) →
      IsMapOf m2 uses.top (λ name. joined Override (entry_for t ids a.uses name) (joined Without (sa.prohibited.entries name) (entry_for t ids b.uses name))) →
      Keeps store record { maps = m2; wildcards = store.wildcards } × StandsFor t ids record { maps = m2; wildcards = store.wildcards } record { uses = uses; prohibited = own.prohibited; wildcard = own.wildcard } (restricted_uses t a b)
  restricted-made store m1 m2 k1 k2 own a b sa uses is =
      let k = maps-on store.maps m1 m2 k1 k2 in
      let keeps = keeps-maps store m2 k in
      let sa' = stands-kept t ids store (store-of m2 store.wildcards) keeps own a sa in (
        keeps,
        record {
          uses = map-same m2 uses.top _ _ (λ name h. sym (entry-restricted t ids a b name (sa.prohibited.entries name) (sa.prohibited.has name (subst (λ d. name < 2 ^ d) k.depth h)))) is;
          prohibited = sa'.prohibited;
          kept = sa'.kept;
          wildcard = sa'.wildcard;
        },
      )

  -- by extension
  pub extended-made : (store s1 : Store) (m2 : MapNodes) → Keeps store s1 → KeepsMaps s1.maps m2 → (own : KeptTable) (a b : AttrUses) (sa : StandsFor t ids store own a) (w : Option ℕ) (uses : UseMap) →
      IsForm s1.wildcards (Some w) (joined_wildcard union a.wildcard b.wildcard) →
      IsMapOf m2 uses.top (λ name. joined Union (entry_for t ids a.uses name) (entry_for t ids b.uses name)) →
      Keeps store record { maps = m2; wildcards = s1.wildcards } × IsMade t ids record { maps = m2; wildcards = s1.wildcards } (Some record { uses = uses; prohibited = own.prohibited; wildcard = w }) (extended_uses a b)
  extended-made store s1 m2 k1 k2 own a b sa w uses form is =
      let keeps = keeps-on store s1 (store-of m2 s1.wildcards) k1 (keeps-maps s1 m2 k2) in
      let sa' = stands-kept t ids store (store-of m2 s1.wildcards) keeps own a sa in
      (keeps, of (joined_wildcard union a.wildcard b.wildcard) form sa')
    where
      of : (o : Option (Option Wildcard)) → IsForm s1.wildcards (Some w) o → StandsFor t ids record { maps = m2; wildcards = s1.wildcards } own a →
          IsMade t ids record { maps = m2; wildcards = s1.wildcards } (Some record { uses = uses; prohibited = own.prohibited; wildcard = w })
          (option_map (λ wildcard. record { uses = united_uses a.uses b.uses; prohibited = a.prohibited; wildcard = wildcard }) o)
      of None form sa' = absurd form
      of (Some v) form sa' = record {
        uses = map-same m2 uses.top _ _ (λ name h. sym (entry-united t ids a.uses b.uses name)) is;
        prohibited = sa'.prohibited;
        kept = form.0;
        wildcard = form.1;
      }

  pub extended-none : (store : Store) (a b : AttrUses) → IsForm store.wildcards None (joined_wildcard union a.wildcard b.wildcard) → IsMade t ids store None (extended_uses a b)
  extended-none store a b form = of (joined_wildcard union a.wildcard b.wildcard) form
    where
      of : (o : Option (Option Wildcard)) → IsForm store.wildcards None o →
          IsMade t ids store None (option_map (λ wildcard. record { uses = united_uses a.uses b.uses; prohibited = a.prohibited; wildcard = wildcard }) o)
      of None form = tt
      of (Some v) form = absurd form

  -- with a group
  pub group-made : (store s1 : Store) (m2 m3 : MapNodes) → Keeps store s1 → KeepsMaps s1.maps m2 → KeepsMaps m2 m3 → (own group : KeptTable) (a b : AttrUses) (sa : StandsFor t ids store own a) (sb : StandsFor t ids store group b) (w : Option ℕ) (uses pro : UseMap) →
      IsForm s1.wildcards (Some w) (joined_wildcard intersection a.wildcard b.wildcard) →
      IsMapOf m2 uses.top (λ name. joined Union (entry_for t ids a.uses name) (entry_for t ids b.uses name)) →
      IsMapOf m3 pro.top (λ name. joined Union (sa.prohibited.entries name) (sb.prohibited.entries name)) →
      Keeps store record { maps = m3; wildcards = s1.wildcards } × IsMade t ids record { maps = m3; wildcards = s1.wildcards } (Some record { uses = uses; prohibited = pro; wildcard = w }) (with_group a b)
  group-made store s1 m2 m3 k1 k2 k3 own group a b sa sb w uses pro form is not =
      let k = maps-on s1.maps m2 m3 k2 k3 in
      let keeps = keeps-on store s1 (store-of m3 s1.wildcards) k1 (keeps-maps s1 m3 k) in
      let sets = sets-united m3 pro.top a.prohibited b.prohibited sa.prohibited.entries sb.prohibited.entries
      (λ name h. sa.prohibited.has name (subst (λ d. name < 2 ^ d) keeps.maps.depth h)) (λ name h. sb.prohibited.has name (subst (λ d. name < 2 ^ d) keeps.maps.depth h)) not in
      (keeps, of (joined_wildcard intersection a.wildcard b.wildcard) form sets)
    where
      of : (o : Option (Option Wildcard)) → IsForm s1.wildcards (Some w) o → IsSetOf m3 pro.top (a.prohibited ++ b.prohibited) →
          IsMade t ids record { maps = m3; wildcards = s1.wildcards } (Some record { uses = uses; prohibited = pro; wildcard = w })
          (option_map (λ wildcard. record { uses = united_uses a.uses b.uses; prohibited = a.prohibited ++ b.prohibited; wildcard = wildcard }) o)
      of None form sets = absurd form
      of (Some v) form sets = record {
        uses = map-same m3 uses.top _ _ (λ name h. sym (entry-united t ids a.uses b.uses name)) (k3.maps uses.top _ is);
        prohibited = sets;
        kept = form.0;
        wildcard = form.1;
      }

  pub group-none : (store : Store) (a b : AttrUses) → IsForm store.wildcards None (joined_wildcard intersection a.wildcard b.wildcard) → IsMade t ids store None (with_group a b)
  group-none store a b form = of (joined_wildcard intersection a.wildcard b.wildcard) form
    where
      of : (o : Option (Option Wildcard)) → IsForm store.wildcards None o →
          IsMade t ids store None (option_map (λ wildcard. record { uses = united_uses a.uses b.uses; prohibited = a.prohibited ++ b.prohibited; wildcard = wildcard }) o)
      of None form = tt
      of (Some v) form = absurd form

  -- the table of a group that was found, and a group without one
  pub table-found : (store : Store) (o : Option (Result KeptTable Fault)) (table : KeptTable) (b : Result AttrUses Fault) → table_of o ≡ Some table → IsAnswerAt t ids store o b → (v : AttrUses) × (b ≡ Ok v) × StandsFor t ids store table v
  table-found store None table b e is = absurd (none-some table e)
  table-found store (Some (Ok other)) table (Ok v) e is = (v, refl, subst (λ x. StandsFor t ids store x v) (same_Some other table e) is)
  table-found store (Some (Ok other)) table (Err f) e is = absurd is
  table-found store (Some (Err f)) table b e is = absurd (none-some table e)

  joined-none : (w : Option Wildcard) → joined_wildcard intersection w None ≡ Some w
  joined-none None = refl
  joined-none (Some w) = refl

  with-nothing : (a : AttrUses) → with_group a no_uses ≡ Some a
  with-nothing a =
      ap (option_map (λ (w : Option Wildcard). record { uses = a.uses ++ []; prohibited = a.prohibited ++ []; wildcard = w })) (joined-none a.wildcard) ∙
      ap Some (ap (λ us. record { uses = us; prohibited = a.prohibited ++ []; wildcard = a.wildcard }) (append-nil a.uses) ∙ ap (λ ns. record { uses = a.uses; prohibited = ns; wildcard = a.wildcard }) (append-nil a.prohibited))

  pub table-missing : (store : Store) (o : Option (Result KeptTable Fault)) (a : AttrUses) (b : Result AttrUses Fault) → table_of o ≡ None → IsAnswerAt t ids store o b → with_next a b ≡ Some a
  table-missing store None a b e is = ap (with_next a) is ∙ with-nothing a
  table-missing store (Some (Ok table)) a b e is = absurd (none-some table (sym e))
  table-missing store (Some (Err f)) a (Ok v) e is = absurd is
  table-missing store (Some (Err f)) a (Err g) e is = refl

  pub with_groups-next : (a : AttrUses) (r : Result AttrUses Fault) (rs : List (Result AttrUses Fault)) → with_groups a (accepted_groups (r ∷ rs)) ≡ option_and_then (λ both. with_groups both (accepted_groups rs)) (with_next a r)
  with_groups-next a (Ok v) rs = refl
  with_groups-next a (Err f) rs = refl

  pub refusal-next : (store : Store) (o : Option (Result KeptTable Fault)) (r : Result AttrUses Fault) (rs : List (Result AttrUses Fault)) → IsAnswerAt t ids store o r → first_refusal (r ∷ rs) ≡ option_or (fault_of o) (first_refusal rs)
  refusal-next store None r rs is = ap (λ x. first_refusal (x ∷ rs)) is
  refusal-next store (Some (Ok table)) (Ok v) rs is = refl
  refusal-next store (Some (Ok table)) (Err f) rs is = absurd is
  refusal-next store (Some (Err f)) (Ok v) rs is = absurd is
  refusal-next store (Some (Err f)) (Err g) rs is = ap Some (sym is)

-- what was made, and what it is
pub made-some : (t : Tables) (ids : List Bool) (store : Store) (table : KeptTable) (o : Option AttrUses) → IsMade t ids store (Some table) o → (v : AttrUses) × (o ≡ Some v) × StandsFor t ids store table v
made-some t ids store table None is = absurd is
made-some t ids store table (Some v) is = (v, refl, is)

pub made-none : (t : Tables) (ids : List Bool) (store : Store) (o : Option AttrUses) → IsMade t ids store None o → o ≡ None
made-none t ids store None is = refl
made-none t ids store (Some v) is = absurd is

-- one name more
pub set-more : (old new : MapNodes) → KeepsMaps old new → (top made name : ℕ) (names : List ℕ) (mark : Entry) (is : IsSetOf old top names) →
    IsMapOf new made (λ key. if nat_eq key name then joined Union (is.entries key) (Some mark) else is.entries key) → IsSetOf new made (names ++ name ∷ [])
set-more old new k top made name names mark is map = record {
  entries = λ key. if nat_eq key name then joined Union (is.entries key) (Some mark) else is.entries key;
  map = map;
  has = λ key h. of key (nat_eq key name) (name == key) (turned key name) (is.has key (subst (λ d. key < 2 ^ d) k.depth h)) ∙ sym (list_any-append (λ other. other == key) names (name ∷ []));
}
  where
    turned : (a b : ℕ) → nat_eq a b ≡ nat_eq b a
    turned a b = grind (arith, nat_tests)

    marked : (o : Option Entry) → is_some (joined Union o (Some mark)) ≡ true
    marked None = refl
    marked (Some e) = refl

    or_true : (b : Bool) → (b || true) ≡ true
    or_true true = refl
    or_true false = refl

    or_false : (b : Bool) → (b || false) ≡ b
    or_false true = refl
    or_false false = refl

    of : (key : ℕ) (b c : Bool) → b ≡ c → is_some (is.entries key) ≡ is_listed names (Some key) →
        is_some (if b then joined Union (is.entries key) (Some mark) else is.entries key) ≡ (is_listed names (Some key) || (c || false))
    of key true true e h = marked (is.entries key) ∙ sym (or_true (is_listed names (Some key)))
    of key true false e h = absurd (true≢false e)
    of key false true e h = absurd (true≢false (sym e))
    of key false false e h = h ∙ sym (or_false (is_listed names (Some key)))

pub no-names : (maps : MapNodes) (top : ℕ) → IsMapOf maps top (λ name. None) → IsSetOf maps top []
no-names maps top is = record { entries = λ name. None; map = is; has = λ name h. refl }

-- the table of anyType
pub any-table : (t : Tables) (ids : List Bool) (store : Store) → IsStore store → (n : KeptTable) → StandsFor t ids store n no_uses → StandsFor t ids store record { uses = n.uses; prohibited = n.prohibited; wildcard = Some 0 } any_type_uses
any-table t ids store is n s = record {
  uses = s.uses;
  prohibited = s.prohibited;
  kept = slice_get_within store.wildcards 0 any_wildcard is.any;
  wildcard = subst (λ o. IsWildcard o (Some any_wildcard)) (sym is.any) record { process = refl; same = λ ns. refl };
}

pub known-answer : (t : Tables) (ids : List Bool) (store : Store) (o : Option (Result KeptTable Fault)) (answer : Result KeptTable Fault) (v : Result AttrUses Fault) → Some answer ≡ o → IsAnswer t ids store o v → Answers t ids store answer v
known-answer t ids store o answer v e is = subst (λ x. IsAnswer t ids store x v) (sym e) is

-- a component that is there
pub answer-there : (t : Tables) (ids : List Bool) (store : Store) (o : Option (Result KeptTable Fault)) (v : Result AttrUses Fault) → IsAnswer t ids store o v → IsAnswerAt t ids store o v
answer-there t ids store None v is = absurd is
answer-there t ids store (Some answer) v is = is

pub answers-or : (t : Tables) (ids : List Bool) (store : Store) (made : Option KeptTable) (o : Option AttrUses) (f g : Fault) (r : Result KeptTable Fault) → r ≡ table_or made f → f ≡ g → IsMade t ids store made o → Answers t ids store r (or_fault g o)
answers-or t ids store made o f g r answer e is = subst (λ x. Answers t ids store x (or_fault g o)) (sym answer) (of made o is)
  where
    of : (made : Option KeptTable) (o : Option AttrUses) → IsMade t ids store made o → Answers t ids store (table_or made f) (or_fault g o)
    of None None is = e
    of None (Some v) is = absurd is
    of (Some table) None is = absurd is
    of (Some table) (Some v) is = is

pub with-restricted : (t : Tables) (part : ComplexType) (a b : AttrUses) → part.by_extension ≡ false → with_base t part a b ≡ Ok (restricted_uses t a b)
with-restricted t part a b h = ap (λ e. if e then or_fault (fault_at part.at SrcCt5) (extended_uses a b) else Ok (restricted_uses t a b)) h

pub with-extended : (t : Tables) (part : ComplexType) (a b : AttrUses) → part.by_extension ≡ true → with_base t part a b ≡ or_fault (fault_at part.at SrcCt5) (extended_uses a b)
with-extended t part a b h = ap (λ e. if e then or_fault (fault_at part.at SrcCt5) (extended_uses a b) else Ok (restricted_uses t a b)) h

like-itself : (o : Option Wildcard) → IsWildcard o o
like-itself None = tt
like-itself (Some w) = record { process = refl; same = λ ns. refl }

-- what is written in a component
pub own-made : (t : Tables) (ids : List Bool) (holder : UseHolder) (own : OwnParts) (store : Store) (m1 m2 : MapNodes) (s3 : Store) → KeepsMaps store.maps m1 → KeepsMaps m1 m2 → Keeps record { maps = m2; wildcards = store.wildcards } s3 →
    (uses pro : UseMap) (w : Option ℕ) (names : List ℕ) (wildcard : Option Wildcard) → IsMapOf m1 uses.top (entry_for t ids (places holder 0 own.uses)) → IsSetOf m2 pro.top names → IsKeptWildcard s3.wildcards w → kept_wildcard s3.wildcards w ≡ wildcard →
    names ≡ own.prohibited → wildcard ≡ own.wildcard → Keeps store s3 × StandsFor t ids s3 record { uses = uses; prohibited = pro; wildcard = w } (own_uses holder own)
own-made t ids holder own store m1 m2 s3 k1 k2 k3 uses pro w names wildcard u p k e f g = (
  keeps-on store (store-of m2 store.wildcards) s3 (keeps-maps store m2 (maps-on store.maps m1 m2 k1 k2)) k3,
  record {
    uses = k3.maps.maps uses.top _ (k2.maps uses.top _ u);
    prohibited = set-kept m2 s3.maps k3.maps pro.top own.prohibited (subst (IsSetOf m2 pro.top) f p);
    kept = k;
    wildcard = subst (λ o. IsWildcard o own.wildcard) (sym (e ∙ g)) (like-itself own.wildcard);
  },
)

-- a turn along the groups
module _ (t : Tables) (ids : List Bool) (store : Store) (groups : List (Result KeptTable Fault)) (named : List ℕ) (i g : ℕ) (within : i < length named) (is : g ≡ get_or named i g) where
  first-left : drop i named ≡ g ∷ drop (i + 1) named
  first-left = drop_more named i g within ∙ ap (λ x. x ∷ drop (i + 1) named) (sym is)

  pub answer-here : All (λ x. IsAnswerAt t ids store (slice_get groups x) (group_uses t x)) named → IsAnswerAt t ids store (slice_get groups g) (group_uses t g)
  answer-here all = subst (λ x. IsAnswerAt t ids store (slice_get groups x) (group_uses t x)) (sym is) (All-get_or (λ x. IsAnswerAt t ids store (slice_get groups x) (group_uses t x)) named i g within all)

  pub refusal-step : All (λ x. IsAnswerAt t ids store (slice_get groups x) (group_uses t x)) named →
      first_refusal (map (group_uses t) (drop i named)) ≡ option_or (fault_of (slice_get groups g)) (first_refusal (map (group_uses t) (drop (i + 1) named)))
  refusal-step all = ap (λ xs. first_refusal (map (group_uses t) xs)) first-left ∙ refusal-next t ids store (slice_get groups g) (group_uses t g) (map (group_uses t) (drop (i + 1) named)) (answer-here all)

  pub groups-step : (v : AttrUses) → with_groups v (accepted_groups (map (group_uses t) (drop i named))) ≡ option_and_then (λ both. with_groups both (accepted_groups (map (group_uses t) (drop (i + 1) named)))) (with_next v (group_uses t g))
  groups-step v = ap (λ xs. with_groups v (accepted_groups (map (group_uses t) xs))) first-left ∙ with_groups-next t ids v (group_uses t g) (map (group_uses t) (drop (i + 1) named))
