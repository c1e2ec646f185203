-- The code and the fault of a pair of attribute groups.
use Rattle.std.proofs.Common.{◌≡◌, ◌⊎◌, ℕ, false, Option, None, Some, length, get_or, refl, sym, subst, ◌<◌, ◌≤◌, ◌∙◌, arith}
use Rattle.std.specs.Prelude.{◌↔◌, IsTrue, Result, Ok, Err, IfOk, slice_get}
use Rattle.std.specs.Option.{is_some, option_map}
use Rattle.std.proofs.lemmas.Bool.{false≢true}
use Rattle.std.proofs.lemmas.Option.{same_Some, slice_get_within, slice_get-get_or}
use Rattle.xs_codes.specs.declared.code.Code.{Code}
use Rattle.xs_codes.specs.declared.code.Code.TheVariants.{SrcRedefine7_2_2}
use Rattle.xs_codes.specs.declared.fault.Fault.{Fault}
use Rattle.xs_names.specs.Names.{NameTable}
use Rattle.xs_components.specs.Tables.{Tables}
use Rattle.xs_components.specs.declared.attr_group.AttrGroupDef.{AttrGroupDef}
use Rattle.xs_codes.specs.Least.{IsLeast}
use Rattle.xs_codes.proofs.LeastLaws.{least-same}
use Rattle.attr_uses.specs.Uses.{AttrUses, group_uses}
use Rattle.derive_restriction.specs.Uses.{BreaksUses}
use Rattle.derive_restriction.specs.Wildcards.{BreaksWildcard}
use Rattle.redefine_names.specs.declared.pairs.RedefinedPair.{RedefinedPair}
use Rattle.derive_faults.specs.TypeFaults.{IsFirstCode, type_fault, when}
use Rattle.derive_faults.proofs.FaultLaws.{when-first, place-least, first-same}
use Rattle.derive_restriction.specs.AttrGroupRestrictions.{BreaksTables, BreaksGroup, IsPairFault}

-- one of some codes is broken
some-broken : (A : Code → Type 0) (found : Option Code) → IsFirstCode A found → IsTrue (is_some found) ↔ ((c : Code) × A c)
some-broken A None first = ((λ e. absurd (false≢true e)), λ x. absurd (first x.0 x.1))
some-broken A (Some code) first = ((λ e. (code, first.0)), λ x. refl)

same_Ok : (a b : AttrUses) (x : Result AttrUses Fault) → x ≡ Ok a → x ≡ Ok b → a ≡ b
same_Ok a b x e f = cc

module _ (t : Tables) (names : NameTable) (group original : ℕ) where
  pub group-first : (found r : Option Code) → r ≡ when (is_some found) SrcRedefine7_2_2 → IsFirstCode (BreaksTables t names group original) found → IsFirstCode (BreaksGroup t names group original) r
  group-first found r is first =
      subst (IsFirstCode (BreaksGroup t names group original)) (sym is)
      (when-first ((c : Code) × BreaksTables t names group original c) (is_some found) SrcRedefine7_2_2 (some-broken (BreaksTables t names group original) found first))

  -- without the one table or the other nothing is broken
  pub none-own : ((value : AttrUses) → group_uses t group ≡ Ok value → ⊥) → IsFirstCode (BreaksTables t names group original) None
  none-own never = λ code x. never x.0 x.2

  pub none-base : ((value : AttrUses) → group_uses t original ≡ Ok value → ⊥) → IsFirstCode (BreaksTables t names group original) None
  none-base never = λ code x. never x.1 x.3

  tables-first : (own also : AttrUses) → group_uses t group ≡ Ok own → group_uses t original ≡ Ok also → (r : Option Code) →
      IsFirstCode (λ code. BreaksUses t names own also code ⊎ BreaksWildcard false own.wildcard also.wildcard code) r → IsFirstCode (BreaksTables t names group original) r
  tables-first own also e f r is =
      first-same (λ code. BreaksUses t names own also code ⊎ BreaksWildcard false own.wildcard also.wildcard code) (BreaksTables t names group original)
      (λ code x. (own, also, e, f, x))
      (λ code x.
      let one : x.0 ≡ own = same_Ok x.0 own (group_uses t group) x.2 e in
      let two : x.1 ≡ also = same_Ok x.1 also (group_uses t original) x.3 f in
      subst (λ (a : AttrUses). BreaksUses t names own a code ⊎ BreaksWildcard false own.wildcard a.wildcard code) two
      (subst (λ (o : AttrUses). BreaksUses t names o x.1 code ⊎ BreaksWildcard false o.wildcard x.1.wildcard code) one x.4))
      r is

  pub tables-in : {E : Type 0} (own also : AttrUses) → group_uses t group ≡ Ok own → group_uses t original ≡ Ok also → (r : Result (Option Code) E) →
      IfOk r (IsFirstCode (λ code. BreaksUses t names own also code ⊎ BreaksWildcard false own.wildcard also.wildcard code)) → IfOk r (IsFirstCode (BreaksTables t names group original))
  tables-in own also e f (Ok code) first = tables-first own also e f code first
  tables-in own also e f (Err error) first = tt

module _ (t : Tables) (names : NameTable) (pair : RedefinedPair) where
  pub pair-least : (part under : AttrGroupDef) → slice_get t.attr_groups.parts pair.own ≡ Some part → slice_get t.attr_groups.parts pair.original ≡ Some under → (code : Option Code) (found : Option Fault) →
      found ≡ option_map (type_fault 7 part.at) code → IsFirstCode (BreaksGroup t names pair.own pair.original) code → IsLeast (IsPairFault t names pair) found
  pair-least part under is other code found e first =
      least-same (λ f. (c : Code) × BreaksGroup t names pair.own pair.original c × (f ≡ type_fault 7 part.at c)) (IsPairFault t names pair)
      (λ f x. (part, under, x.0, is, other, x.1, x.2))
      (λ f x. subst (λ (p : AttrGroupDef). (c : Code) × BreaksGroup t names pair.own pair.original c × (f ≡ type_fault 7 p.at c)) (same_Some x.0 part (sym x.3 ∙ is)) (x.2, x.5, x.6))
      found (place-least 7 refl part.at (BreaksGroup t names pair.own pair.original) code found e first)

  -- the same by numbers that are those of the pair
  pub found-least : (own original : ℕ) (part : AttrGroupDef) → own ≡ pair.own → (original ≡ pair.original) × (pair.original < length t.attr_groups.parts) → slice_get t.attr_groups.parts own ≡ Some part → (code : Option Code) (found : Option Fault) →
      found ≡ option_map (type_fault 7 part.at) code → IsFirstCode (BreaksGroup t names own original) code → IsLeast (IsPairFault t names pair) found
  found-least own original part one other is code found e first =
      pair-least part (get_or t.attr_groups.parts pair.original part) (subst (λ n. slice_get t.attr_groups.parts n ≡ Some part) one is) (slice_get-get_or t.attr_groups.parts pair.original part other.1) code found e
      (subst (λ n. IsFirstCode (BreaksGroup t names pair.own n) code) other.0 (subst (λ n. IsFirstCode (BreaksGroup t names n original) code) one first))

  -- a number of no attribute group
  pub pair-none : length t.attr_groups.parts ≤ pair.own → IsLeast (IsPairFault t names pair) None
  pair-none past f x = let l = slice_get_within t.attr_groups.parts pair.own x.0 x.3 in omega (arith, l, past)

  pub pair-none-original : length t.attr_groups.parts ≤ pair.original → IsLeast (IsPairFault t names pair) None
  pair-none-original past f x = let l = slice_get_within t.attr_groups.parts pair.original x.1 x.4 in omega (arith, l, past)
