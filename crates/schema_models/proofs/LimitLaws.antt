-- Where there is no fault, the content models are limited.
use Rattle.std.proofs.Common.{◌≡◌, ◌⊎◌, inl, inr, ℕ, zero, suc, ◌<◌, ◌≤◌, ◌==◌, ◌&&◌, Bool, true, false, true≢false, List, [], ◌∷◌, Option, None, Some, map, length, slice_get, slice_index, refl, sym, ◌∙◌, subst, ap, arith}
use Rattle.xs_codes.specs.Least.{IsLeast}
use Rattle.std.specs.Prelude.{IfNone, All as Each, Contains, nat_lt, option_and_then}
use Rattle.std.specs.Option.{is_some}
use Rattle.std.specs.List.{list_any}
use Rattle.std.proofs.lemmas.Bool.{cases_lt}
use Rattle.std.proofs.lemmas.Bool.Decides.{nat_tests}
use Rattle.std.proofs.lemmas.List.Elements.{All-nil, All-cons}
use Rattle.std.proofs.lemmas.Option.{none-some, same_Some}
use Rattle.xs_codes.specs.declared.code.Code.TheVariants.{XLimitAll, CosAllLimited1, CosAllLimited2}
use Rattle.xs_codes.specs.declared.fault.Fault.{Fault}
use Rattle.xs_components.specs.Tables.{Tables}
use Rattle.xs_components.specs.Terms.{term_of}
use Rattle.xs_components.specs.declared.particle.Particle.{Particle as Part}
use Rattle.xs_components.specs.declared.particle.Term.{Term}
use Rattle.xs_components.specs.declared.particle.Term.TheVariants.{Element, Any, Group, Sequence, Choice, All}
use Rattle.component_references.specs.Ranked.{held_particles, named_group, IsRanked}
use Rattle.particle_models.specs.Particles.{Particle, term, all_of, occurs, member}
use Rattle.particle_models.specs.Nodes.{members_of}
use Rattle.particle_models.specs.Unrolled.{HasNoAll, HaveNoAll}
use Rattle.particle_forms.specs.Models.{group_particle, group_model, term_model, part_model, model_of}
use Rattle.particle_forms.proofs.ModelLaws.{model_of_is}
use Rattle.content_models.specs.declared.member.AllMember.{AllMember}
use Rattle.content_models.specs.Shape.{particles_of, all_within, IsOnce}
use Rattle.content_models.specs.Ways.{group_below}
use Rattle.content_models.specs.Built.{IsLimitedAll, IsLimited}
use Rattle.content_models.proofs.WayLaws.{below-lower}
use Rattle.schema_models.specs.SetModels.{AreContentsLimited}
use Rattle.schema_models.specs.AllLimits.{all_in, all_at, members_in, members_at, is_one, part_once, part_single, comes_once, is_single, particle_fault, IsAllAt, itself, by_group, Stands, content, group, IsMisfit, IsUnlimitedAt, IsUnlimited, AreContentsThere}
use Rattle.schema_models.specs.AllLimits as spec
use Rattle.schema_models.proofs.FindLaws.{Rest, has-rest}
use Rattle.schema_models.proofs.MarkLaws.{member-below}

and-left : (a b : Bool) → (a && b) ≡ true → a ≡ true
and-left true b e = refl
and-left false b e = e

and-right : (a b : Bool) → (a && b) ≡ true → b ≡ true
and-right true b e = e
and-right false b e = absurd (true≢false (sym e))

once-least : (n : ℕ) → nat_lt n 2 ≡ true → n ≤ 1
once-least n e = grind (arith, nat_tests)

once-most : (most : Option ℕ) → is_one most ≡ true → most ≡ Some 1
once-most None e = absurd (true≢false (sym e))
once-most (Some m) e = let z : m ≡ 1 = one m e in ap (λ x. Some x) z
  where
    one : (m : ℕ) → (m == 1) ≡ true → m ≡ 1
    one m e = grind (arith, nat_tests)

or-not : (b : Bool) → (b ≡ false → ⊥) → b ≡ true
or-not true f = refl
or-not false f = absurd (f refl)

-- a fault of an all that stands in the set
abbrev IsStanding : Tables → Fault → Type 0
IsStanding t f = (p : ℕ) × (p < length t.particles.parts) × Stands t p × IsUnlimitedAt t p f

module _ (t : Tables) (ranked : IsRanked t) (there : AreContentsThere t) (sound : (f : Fault) → IsStanding t f → ⊥) where
  -- ---- the particles of an all
  once-part : (part : Part) → part_once (Some part) ≡ true → (part.min ≤ 1) × (part.max ≡ Some 1)
  once-part part e = (once-least part.min (and-left (nat_lt part.min 2) (is_one part.max) e), once-most part.max (and-right (nat_lt part.min 2) (is_one part.max) e))

  -- a member of an all, as a model
  abbrev IsMember : ℕ → AllMember → Type 0
  IsMember q m = (model_of t q ≡ occurs m.least m.most (term m.term)) × IsOnce m

  term-single : (q : ℕ) (of : Term) → is_some (term_of of q) ≡ true → term_model t (model_of t) q of ≡ term q
  term-single q (Element e) is = refl
  term-single q (Any w) is = refl
  term-single q (Group g) is = absurd (true≢false (sym is))
  term-single q (Sequence ms) is = absurd (true≢false (sym is))
  term-single q (Choice ms) is = absurd (true≢false (sym is))
  term-single q (All ms) is = absurd (true≢false (sym is))

  one-member : (q : ℕ) → is_single t q ≡ true → (m : AllMember) × IsMember q m
  one-member q e = of (slice_get t.particles.parts q) (model_of_is t ranked q) e
    where
      of : (o : Option Part) → model_of t q ≡ part_model t (model_of t) q o → part_single q o ≡ true → (m : AllMember) × IsMember q m
      of None s f = absurd (true≢false (sym f))
      of (Some part) s f =
          let once = once-part part (and-left (part_once (Some part)) (is_some (term_of part.term q)) f) in
          (record { term = q; least = part.min; most = part.max }, (s ∙ ap (occurs part.min part.max) (term-single q part.term (and-right (part_once (Some part)) (is_some (term_of part.term q)) f)), once))

  own-members : (ids : List ℕ) → ((q : ℕ) → Contains ids q → is_single t q ≡ true) → (own : List AllMember) × (members_of (map (model_of t) ids) ≡ particles_of own) × Each IsOnce own × (length own ≡ length ids)
  own-members [] single = ([], refl, All-nil IsOnce, refl)
  own-members (q ∷ ids) single =
      let m = one-member q (single q (contains-head q ids)) in
      let rest = own-members ids (λ x c. single x (contains-tail q ids x c)) in
      let a : model_of t q ≡ occurs m.0.least m.0.most (term m.0.term) = m.1.0 in
      let b : members_of (map (model_of t) ids) ≡ particles_of rest.0 = rest.1 in (
        m.0 ∷ rest.0,
        ap (λ x. member x (members_of (map (model_of t) ids))) a ∙ ap (member (occurs m.0.least m.0.most (term m.0.term))) b,
        All-cons IsOnce m.0 rest.0 m.1.1 rest.2,
        ap suc rest.3,
      )
    where
      contains-head : (q : ℕ) (ids : List ℕ) → Contains (q ∷ ids) q
      contains-head q ids = (0, omega arith, refl)

      contains-tail : (q : ℕ) (ids : List ℕ) (x : ℕ) → Contains ids x → Contains (q ∷ ids) x
      contains-tail q ids x (k, l, e) = (suc k, omega (arith, l), e)

  -- what stands comes once, where it is an all
  all-once : (p all : ℕ) → p < length t.particles.parts → Stands t p → IsAllAt t p all → comes_once t p ≡ true
  all-once p all l s h = or-not (comes_once t p) (λ not. sound (particle_fault t all CosAllLimited1) (p, l, s, inl (inr (all, h, not, refl))))

  part-all : (p : ℕ) (o : Option Part) (members : List ℕ) → model_of t p ≡ part_model t (model_of t) p o → part_once o ≡ true → option_and_then (λ part. all_in part.term) o ≡ Some members →
      (least : ℕ) × (least ≤ 1) × (model_of t p ≡ occurs least (Some 1) (all_of (members_of (map (model_of t) members))))
  part-all p None members e once is = absurd (none-some members is)
  part-all p (Some part) members e once is =
      let b = once-part part once in
      (part.min, b.0, e ∙ (ap (λ most. occurs part.min most (term_model t (model_of t) p part.term)) b.1 ∙ ap (occurs part.min (Some 1)) (of part.term is)))
    where
      of : (x : Term) → all_in x ≡ Some members → term_model t (model_of t) p x ≡ all_of (members_of (map (model_of t) members))
      of (Element k) f = absurd (none-some members f)
      of (Any w) f = absurd (none-some members f)
      of (Group g) f = absurd (none-some members f)
      of (Sequence ms) f = absurd (none-some members f)
      of (Choice ms) f = absurd (none-some members f)
      of (All ms) f = ap (λ xs. all_of (members_of (map (model_of t) xs))) (same_Some ms members f)

  part-group : (p q : ℕ) (o : Option Part) → model_of t p ≡ part_model t (model_of t) p o → part_once o ≡ true → option_and_then (group_particle t) (option_and_then (λ part. named_group part.term) o) ≡ Some q →
      (least : ℕ) × (least ≤ 1) × (model_of t p ≡ occurs least (Some 1) (model_of t q)) × ((g : ℕ) × (group_particle t g ≡ Some q))
  part-group p q None e once is = absurd (none-some q is)
  part-group p q (Some part) e once is =
      let b = once-part part once in
      let of-term = of part.term is in
      (part.min, b.0, e ∙ (ap (λ most. occurs part.min most (term_model t (model_of t) p part.term)) b.1 ∙ ap (occurs part.min (Some 1)) of-term.0), of-term.1)
    where
      of : (x : Term) → option_and_then (group_particle t) (named_group x) ≡ Some q → (term_model t (model_of t) p x ≡ model_of t q) × ((g : ℕ) × (group_particle t g ≡ Some q))
      of (Element k) f = absurd (none-some q f)
      of (Any w) f = absurd (none-some q f)
      of (Group g) f = (ap (group_model t (model_of t)) f, (g, f))
      of (Sequence ms) f = absurd (none-some q f)
      of (Choice ms) f = absurd (none-some q f)
      of (All ms) f = absurd (none-some q f)

  -- the model of an all
  pub record IsAllModel (model : Particle) : Type 0 where
    pub own : List AllMember
    pub outer : List ℕ
    pub least : Each (λ least. least ≤ 1) outer
    pub model_is : model ≡ all_within outer own
    pub once : Each IsOnce own
    pub few : length own ≤ 64

  wrap : (least : ℕ) (model inner : Particle) → least ≤ 1 → model ≡ occurs least (Some 1) inner → IsAllModel inner → IsAllModel model
  wrap least model inner l e is = record {
    own = is.own;
    outer = least ∷ is.outer;
    least = All-cons (λ n. n ≤ 1) least is.outer l is.least;
    model_is = e ∙ ap (occurs least (Some 1)) is.model_is;
    once = is.once;
    few = is.few;
  }

  all-model : (p all : ℕ) → p < length t.particles.parts → Stands t p → IsAllAt t p all → IsAllModel (model_of t p)
  all-model _ _ l s (itself p members e) =
      let own = own-members members (λ q c. or-not (is_single t q) (λ not. sound (particle_fault t q CosAllLimited2) (p, l, s, inr (inr (members, e, q, c, (not, refl)))))) in
      let a = part-all p (slice_get t.particles.parts p) members (model_of_is t ranked p) (all-once p p l s (itself p members e)) e in
      wrap a.0 (model_of t p) (all_of (members_of (map (model_of t) members))) a.1 a.2 (record {
        own = own.0;
        outer = [];
        least = All-nil (λ n. n ≤ 1);
        model_is = ap all_of own.1;
        once = own.2;
        few = few own.0 own.3;
      })
    where
      few : (own : List AllMember) → length own ≡ length members → length own ≤ 64
      few own same = elim (cases_lt 64 (length members)) [
        | inr le ↦ omega (arith, same, le)
        | inl many ↦ absurd (sound (particle_fault t p XLimitAll) (p, l, s, inl (inl (members, e, many, refl))))
      ]
  all-model _ _ l s (by_group p q all e h) =
      let a = part-group p q (slice_get t.particles.parts p) (model_of_is t ranked p) (all-once p all l s (by_group p q all e h)) e in
      wrap a.0 (model_of t p) (model_of t q) a.1 a.2 (all-model q all (below-lower t ranked p q e).there (group a.3.0 q a.3.1) h)

  -- ---- models without an all
  abbrev IsNone : ℕ → Type 0
  IsNone p = (all : ℕ) → IsAllAt t p all → ⊥

  members-none : (ids : List ℕ) → ((q : ℕ) → Contains ids q → HasNoAll (model_of t q)) → HaveNoAll (members_of (map (model_of t) ids))
  members-none [] each = tt
  members-none (q ∷ ids) each = (each q (0, omega arith, refl), members-none ids (λ x c. each x (suc c.0, omega (arith, c.1), c.2)))

  -- by what is lower
  no-all-above : (p : ℕ) → ((q : ℕ) → slice_index t.particles.ranks q < slice_index t.particles.ranks p → q < length t.particles.parts → Stands t q → IsNone q → HasNoAll (model_of t q)) → p < length t.particles.parts → Stands t p → IsNone p → HasNoAll (model_of t p)
  no-all-above p lower l s not = subst HasNoAll (sym (model_of_is t ranked p)) (of (slice_get t.particles.parts p) refl)
    where
      below-member : (q : ℕ) → Contains (members_at t p) q → HasNoAll (model_of t q)
      below-member q c =
          let b = (member-below t ranked p q c).1 in
          lower q b.lower b.there (spec.member p q s c) (λ all h. sound (particle_fault t all CosAllLimited1) (p, l, s, inr (inl (q, c, (all, h, refl)))))

      below-group : (o : Option ℕ) → group_below t p ≡ o → ((q : ℕ) → o ≡ Some q → (g : ℕ) × (group_particle t g ≡ Some q)) → HasNoAll (group_model t (model_of t) o)
      below-group None e from = tt
      below-group (Some q) e from =
          let b = below-lower t ranked p q e in
          lower q b.lower b.there (group (from q refl).0 q (from q refl).1) (λ all h. not all (by_group p q all e h))

      of-term : (part : Part) → slice_get t.particles.parts p ≡ Some part → (x : Term) → part.term ≡ x → HasNoAll (term_model t (model_of t) p x)
      of-term part s' (Element k) e = tt
      of-term part s' (Any w) e = tt
      of-term part s' (Group g) e =
          below-group (group_particle t g) (ap (λ o. option_and_then (group_particle t) (option_and_then (λ (q : Part). named_group q.term) o)) s' ∙ ap (λ x. option_and_then (group_particle t) (named_group x)) e) (λ q f. (g, f))
      of-term part s' (Sequence ms) e = members-none ms (λ q c. below-member q (subst (λ xs. Contains xs q) (sym (ap members_in s' ∙ ap held_particles e)) c))
      of-term part s' (Choice ms) e = members-none ms (λ q c. below-member q (subst (λ xs. Contains xs q) (sym (ap members_in s' ∙ ap held_particles e)) c))
      of-term part s' (All ms) e = absurd (not p (itself p ms (ap (option_and_then (λ (q : Part). all_in q.term)) s' ∙ ap all_in e)))

      of : (o : Option Part) → slice_get t.particles.parts p ≡ o → HasNoAll (part_model t (model_of t) p o)
      of None e = tt
      of (Some part) e = of-term part e part.term refl

  no-all : (height p : ℕ) → slice_index t.particles.ranks p < height → p < length t.particles.parts → Stands t p → IsNone p → HasNoAll (model_of t p)
  no-all zero p low l s not = absurd (omega (arith, low))
  no-all (suc height) p low l s not = no-all-above p (λ q r there stands none. no-all height q (omega (arith, r, low)) there stands none) l s not

  -- a particle is an all, or is none
  decide-above : (p : ℕ) → ((q : ℕ) → slice_index t.particles.ranks q < slice_index t.particles.ranks p → ((all : ℕ) × IsAllAt t q all) ⊎ IsNone q) → ((all : ℕ) × IsAllAt t p all) ⊎ IsNone p
  decide-above p lower = of (group_below t p) refl
    where
      ended : group_below t p ≡ None → all_at t p ≡ None → (all : ℕ) → Rest t (group_below t p) p all → ⊥
      ended none e all r = let r' : Rest t None p all = subst (λ o. Rest t o p all) none r in none-some r'.0 (sym e ∙ r'.1)

      own : group_below t p ≡ None → (o : Option (List ℕ)) → all_at t p ≡ o → ((all : ℕ) × IsAllAt t p all) ⊎ IsNone p
      own none (Some members) e = inl (p, itself p members e)
      own none None e = inr (λ all h. ended none e all (has-rest t p all h))

      of : (o : Option ℕ) → group_below t p ≡ o → ((all : ℕ) × IsAllAt t p all) ⊎ IsNone p
      of None e = own e (all_at t p) refl
      of (Some q) e = elim (lower q (below-lower t ranked p q e).lower) [
        | inl found ↦ inl (found.0, by_group p q found.0 e found.1)
        | inr none ↦ inr (λ all h. none all (subst (λ o. Rest t o p all) e (has-rest t p all h)))
      ]

  decide : (height p : ℕ) → slice_index t.particles.ranks p < height → ((all : ℕ) × IsAllAt t p all) ⊎ IsNone p
  decide zero p low = absurd (omega (arith, low))
  decide (suc height) p low = decide-above p (λ q r. decide height q (omega (arith, r, low)))

  limited : (p : ℕ) → p < length t.particles.parts → Stands t p → IsLimited (model_of t p)
  limited p l s = elim (decide (suc (slice_index t.particles.ranks p)) p (omega arith)) [
    | inl found ↦ inr (as-limited (all-model p found.0 l s found.1))
    | inr none ↦ inl (no-all (suc (slice_index t.particles.ranks p)) p (omega arith) l s none)
  ]
    where
      as-limited : IsAllModel (model_of t p) → (own : List AllMember) × (optional : Bool) × IsLimitedAll own optional (model_of t p)
      as-limited is = (
        is.own,
        list_any (λ n. n == 0) is.outer,
        record {
          is_all = record { outer = is.outer; once = is.least; model_is = is.model_is; optional_is = refl };
          once = is.once;
          few = is.few;
        },
      )

  pub all-limited : AreContentsLimited t
  all-limited type p e = (there type p e, limited p (there type p e) (content type p e))

pub limited-where : (t : Tables) → IsRanked t → AreContentsThere t → (found : Option Fault) → IsLeast (IsUnlimited t) found → IfNone found (AreContentsLimited t)
limited-where t ranked there None least = all-limited t ranked there (λ f h. least f (h.0, h.1, inl (h.2, h.3)))
limited-where t ranked there (Some f) least = tt
