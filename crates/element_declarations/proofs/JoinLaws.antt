-- An element is put to the groups of its heads, one above another.
use Rattle.std.proofs.Common.{◌≡◌, ◌≢◌, inl, inr, ℕ, suc, ◌<◌, ◌++◌, ◌∷◌, [], List, Option, None, Some, length, slice_index, set, refl, sym, ◌∙◌, subst, ap, arith, get_or-set_same, get_or-set_other}
use Rattle.std.specs.Prelude.{IfSome, slice_set, true}
use Rattle.std.proofs.lemmas.Bool.{cases_eq}
use Rattle.std.proofs.lemmas.List.{length-set}
use Rattle.std.proofs.lemmas.Option.{unwrap_or-slice_get}
use Rattle.xs_components.specs.Tables.{Tables}
use Rattle.xs_components.specs.Heads.{names_of}
use Rattle.component_references.specs.Ranked.{IsRanked}
use Rattle.element_declarations.specs.Groups.{HasHead, MayStand, is_named, name_of}
use Rattle.element_declarations.specs.inside.Steps.{IsListed, IsPutIf, IsOffered, IsJoined}
use Rattle.element_declarations.specs.inside.Nearest.{nearest_of}
use Rattle.element_declarations.proofs.HeadLaws.{Remains, heads-fall, heads-there}
use Rattle.element_declarations.proofs.NearestLaws.{nearest-has, nearest-remains, has-nearest}

-- a head that content models name is this one, or above it
abbrev pub Awaits : Tables → Option ℕ → ℕ → Type 0
Awaits t above h = (is_named t h ≡ true) × Remains t above h

-- the element is put to the groups of the heads below this one
pub record IsJoinedBelow (t : Tables) (e : ℕ) (first : List (List ℕ)) (above : Option ℕ) (lists : List (List ℕ)) : Type 0 where
  pub count : length lists ≡ length first
  pub there : IfSome above (λ h. h < length t.elements.parts)
  pub named : IfSome above (λ h. is_named t h ≡ true)
  pub heads : (h : ℕ) → Remains t above h → HasHead t e h
  pub waiting : (h : ℕ) → Remains t above h → names_of lists h ≡ names_of first h
  pub done : (h : ℕ) → (Awaits t above h → ⊥) → IsPutIf (IsListed t h e) (name_of t e) (names_of first h) (names_of lists h)

-- content models name a head, and an element may stand for it
abbrev pub IsWelcome : Tables → ℕ → ℕ → Type 0
IsWelcome t head e = (is_named t head ≡ true) × MayStand t head e

-- how far up a head stands
abbrev pub left : Tables → Option ℕ → ℕ
left t None = 0
left t (Some h) = suc (slice_index t.elements.ranks h)

module _ (t : Tables) (ranked : IsRanked t) where
  pub goes-lower : (h : ℕ) (o : Option ℕ) → nearest_of t h ≡ o → left t o < left t (Some h)
  goes-lower h None is = omega arith
  goes-lower h (Some up) is = let b = heads-fall t ranked h up (nearest-has t ranked h up is).0 in omega (arith, b)

  above-there : (x : ℕ) (o : Option ℕ) → nearest_of t x ≡ o → IfSome o (λ h. h < length t.elements.parts)
  above-there x None is = tt
  above-there x (Some h) is = heads-there t ranked x h (nearest-has t ranked x h is).0

  above-named : (x : ℕ) (o : Option ℕ) → nearest_of t x ≡ o → IfSome o (λ h. is_named t h ≡ true)
  above-named x None is = tt
  above-named x (Some h) is = (nearest-has t ranked x h is).1

  module _ (e : ℕ) (first : List (List ℕ)) where
    pub join-begins : (above : Option ℕ) → nearest_of t e ≡ above → IsJoinedBelow t e first above first
    join-begins above is = record {
      count = refl;
      there = above-there e above is;
      named = above-named e above is;
      heads = λ h r. nearest-remains t ranked e h above is r;
      waiting = λ h r. refl;
      done = λ h never. inr ((λ m. never (m.named, subst (λ o. Remains t o h) is (has-nearest t ranked e h m.member.has_head m.named))), refl);
    }

    module _ (head : ℕ) (above : Option ℕ) (old new : List (List ℕ)) (is : nearest_of t head ≡ above) (so : IsJoinedBelow t e first (Some head) old) (offered : IsOffered t e head old new) where
      higher : (h : ℕ) → Remains t above h → HasHead t head h
      higher h r = nearest-remains t ranked head h above is r

      other : (h : ℕ) → HasHead t head h → h ≢ head
      other h has same = let l = heads-fall t ranked head h has in let e2 = ap (slice_index t.elements.ranks) same in omega (arith, l, e2)

      own : (h : ℕ) → h ≡ head → IsPutIf (IsWelcome t head e) (name_of t e) (names_of old head) (names_of new head) → IsPutIf (IsListed t h e) (name_of t e) (names_of first h) (names_of new h)
      own h same put =
          subst (λ x. IsPutIf (IsListed t x e) (name_of t e) (names_of first x) (names_of new x)) (sym same)
          (subst (λ xs. IsPutIf (IsListed t head e) (name_of t e) xs (names_of new head)) (so.waiting head (inl refl)) (as-member put))
        where
          as-member : IsPutIf (IsWelcome t head e) (name_of t e) (names_of old head) (names_of new head) → IsPutIf (IsListed t head e) (name_of t e) (names_of old head) (names_of new head)
          as-member (inl p) = inl (record { named = p.0.0; member = record { has_head = so.heads head (inl refl); stands = p.0.1 } }, p.1)
          as-member (inr p) = inr ((λ m. p.0 (m.named, m.member.stands)), p.1)

      elsewhere : (h : ℕ) → h ≢ head → (Awaits t above h → ⊥) → IsPutIf (IsListed t h e) (name_of t e) (names_of first h) (names_of new h)
      elsewhere h differ never =
          subst (λ xs. IsPutIf (IsListed t h e) (name_of t e) (names_of first h) xs) (sym (offered.others h differ))
          (so.done h (λ w. elim w.1 [
            | inl same ↦ differ (sym same)
            | inr has ↦ never (w.0, subst (λ o. Remains t o h) is (has-nearest t ranked head h has w.0))
          ]))

      pub join-more : IsJoinedBelow t e first above new
      join-more = record {
        count = offered.count ∙ so.count;
        there = above-there head above is;
        named = above-named head above is;
        heads = λ h r. so.heads h (inr (higher h r));
        waiting = λ h r. offered.others h (other h (higher h r)) ∙ so.waiting h (inr (higher h r));
        done = λ h never. elim (cases_eq h head) [ inl same ↦ own h same offered.own | inr differ ↦ elsewhere h differ never ];
      }

    pub join-ends : (lists : List (List ℕ)) → IsJoinedBelow t e first None lists → IsJoined t e first lists
    join-ends lists so = record { count = so.count; each = λ h l. so.done h (λ w. w.1) }

module _ (t : Tables) (e head : ℕ) (old : List (List ℕ)) where
  pub offered-put : (name : ℕ) (new : List (List ℕ)) → name ≡ name_of t e → head < length old → IsWelcome t head e → new ≡ slice_set old head (names_of old head ++ name ∷ []) → IsOffered t e head old new
  offered-put name new is l stands put = record {
    count = ap length put ∙ length-set old head (names_of old head ++ name ∷ []);
    own = inl (stands, ap (λ ls. names_of ls head) put ∙ (unwrap_or-slice_get (set old head (names_of old head ++ name ∷ [])) head [] ∙ (get_or-set_same old head (names_of old head ++ name ∷ []) [] l ∙ ap (λ n. names_of old head ++ n ∷ []) is)));
    others = λ h differ. ap (λ ls. names_of ls h) put ∙ (unwrap_or-slice_get (set old head (names_of old head ++ name ∷ [])) h [] ∙ (get_or-set_other old head h (names_of old head ++ name ∷ []) [] differ ∙ sym (unwrap_or-slice_get old h [])));
  }

  pub offered-not : (new : List (List ℕ)) → new ≡ old → (IsWelcome t head e → ⊥) → IsOffered t e head old new
  offered-not new same not = record {
    count = ap length same;
    own = inr (not, ap (λ ls. names_of ls head) same);
    others = λ h differ. ap (λ ls. names_of ls h) same;
  }
