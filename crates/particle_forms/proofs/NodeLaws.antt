-- Nodes added one after another.
use Rattle.std.proofs.Common.{◌≡◌, ℕ, ◌+◌, ◌<◌, ◌≤◌, inl, inr, List, [], ◌∷◌, ◌++◌, Option, None, Some, Bool, true, false, map, length, get_or, take, slice_get, slice_index, refl, sym, ap, subst, ◌∙◌, arith, eqb-true, length-take-le}
use Rattle.std.specs.Prelude.{All as Each, Contains, IsSome, Result, Ok, Err, IfOk, OnOk, nat_eq}
use Rattle.std.specs.List.Sorted.{IsNonDecreasingBy}
use Rattle.std.proofs.lemmas.Bool.{false≢true, cases_lt}
use Rattle.std.proofs.lemmas.Option.{same_Some}
use Rattle.std.proofs.lemmas.List.{get_or_push, get_or_append_left, get_or_default, get_or-take, length_push}
use Rattle.std.proofs.lemmas.List.Elements.{All-nil, All-head, All-tail, All-map, All-weaker, All-get_or}
use Rattle.xs_components.specs.Tables.{Tables}
use Rattle.xs_components.specs.declared.group.GroupDef.{GroupDef}
use Rattle.xs_components.specs.declared.particle.Particle.{Particle as Part}
use Rattle.xs_components.specs.declared.particle.Term.{Term}
use Rattle.xs_components.specs.declared.particle.Term.TheVariants.{Group, Sequence, Choice, All}
use Rattle.component_references.specs.Ranked.{IsBelow, IsRanked}
use Rattle.particle_models.specs.Particles.{term, sequence, choice, all_of, occurs, none}
use Rattle.particle_models.specs.Nodes.{members_of, model_at, model_of as node_model, models_from, model_in, PartsBelow, IsOrdered}
use Rattle.particle_models.specs.declared.node.Node.{Node}
use Rattle.particle_models.specs.declared.node.Node.TheVariants as node
use Rattle.particle_models.proofs.Growing.{models_of_all-push, length-models_of_all}
use Rattle.particle_forms.specs.Models.{group_particle, group_model, term_model, model_of}
use Rattle.particle_forms.specs.Made.{listed, term_parts, parts_of, number_at, AreNodesOf, Extends, IsTermNode}
use Rattle.particle_forms.proofs.ModelLaws.{particle_model}
use Rattle.particle_forms.proofs.MadeLaws.{parts-below}

-- ---- one node more
module _ (old : List Node) (more : Node) where
  abbrev longer_list : List Node
  longer_list = old ++ more ∷ []

  length-new : length longer_list ≡ length old + 1
  length-new = length_push old more

  pub pushed-model : model_in longer_list (length old) ≡ node_model (models_from [] old) more
  pushed-model =
      ap (λ ms. model_at ms (length old)) (models_of_all-push old more) ∙
      get_or_push (models_from [] old) (node_model (models_from [] old) more) (choice none) (length old) (length-models_of_all old)

  pub pushed : PartsBelow (length old) more → Extends old longer_list
  pushed below = record {
    ordered = ordered;
    more = (let e = length-new in omega arith);
    same = λ k l. ap (λ ms. model_at ms k) (models_of_all-push old more) ∙
        get_or_append_left (models_from [] old) (node_model (models_from [] old) more ∷ []) (choice none) k (let e = length-models_of_all old in omega arith);
  }
    where
      ordered : IsOrdered old → IsOrdered longer_list
      ordered was i d l = elim (cases_lt i (length old)) [
        | inl before ↦ rw (get_or_append_left old (more ∷ []) d i before) (was i d before)
        | inr behind ↦ (let e = length-new in
            let is : length old ≡ i = omega arith in
            rw (get_or_push old more d i is) (subst (λ b. PartsBelow b more) is below))
      ]

pub extends_then : (a b c : List Node) → Extends a b → Extends b c → Extends a c
extends_then a b c h k = record {
  ordered = λ o. k.ordered (h.ordered o);
  more = (let x = h.more in let y = k.more in omega arith);
  same = λ i l. k.same i (let x = h.more in omega arith) ∙ h.same i l;
}

-- ---- the node of a term
module _ (t : Tables) (number : ℕ → Option ℕ) (nodes : List Node) (right : AreNodesOf t number nodes) where
  abbrev IsKnown : ℕ → Type 0
  IsKnown y = IsSome (number y)

  pub known-at : (y : ℕ) → IsKnown y → (number_at number y < length nodes) × (model_in nodes (number_at number y) ≡ model_of t y)
  known-at y known = of (number y) refl known
    where
      of : (o : Option ℕ) → number y ≡ o → IsSome o → (number_at number y < length nodes) × (model_in nodes (number_at number y) ≡ model_of t y)
      of None e k = absurd (false≢true k)
      of (Some k) e is = rw e (right.within y k e, right.models y k e)

  members-below : (ms : List ℕ) → Each IsKnown ms → Each (λ k. k < length nodes) (map (number_at number) ms)
  members-below ms known = All-map (λ k. k < length nodes) (number_at number) ms (All-weaker IsKnown (λ y. number_at number y < length nodes) (λ y h. (known-at y h).0) ms known)

  members-models : (ms : List ℕ) → Each IsKnown ms → map (model_in nodes) (map (number_at number) ms) ≡ map (model_of t) ms
  members-models [] known = refl
  members-models (m ∷ ms) known =
      let a = (known-at m (All-head IsKnown m ms known)).1 in
      let b = members-models ms (All-tail IsKnown m ms known) in
      cc

  module _ (id : ℕ) (of : Term) (known : Each IsKnown (term_parts t of)) where
    -- it was added
    term-added : (new : List Node) (k : ℕ) (more : Node) → new ≡ nodes ++ more ∷ [] → k ≡ length nodes → PartsBelow (length nodes) more → node_model (models_from [] nodes) more ≡ term_model t (model_of t) id of →
        IsTermNode t id of nodes new k
    term-added new k more e f below is = rw (e, f) (record {
      extends = pushed nodes more below;
      within = (let l = length_push nodes more in omega arith);
      model = pushed-model nodes more ∙ is;
    })

    added : {E : Type 0} (r : Result ℕ E) (new : List Node) (more : Node) → IfOk r (λ k. k ≡ length nodes) → OnOk r (new ≡ nodes ++ more ∷ []) → PartsBelow (length nodes) more →
        node_model (models_from [] nodes) more ≡ term_model t (model_of t) id of → IfOk r (IsTermNode t id of nodes new)
    added (Ok k) new more i n below is = term-added new k more n i below is
    added (Err e) new more i n below is = tt

    pub added-leaf : {E : Type 0} (r : Result ℕ E) (new : List Node) → term_model t (model_of t) id of ≡ term id → IfOk r (λ k. k ≡ length nodes) → OnOk r (new ≡ nodes ++ node.Term id ∷ []) → IfOk r (IsTermNode t id of nodes new)
    added-leaf r new is i n = added r new (node.Term id) i n tt (sym is)

    pub added-sequence : {E : Type 0} (r : Result ℕ E) (new : List Node) (ms ks : List ℕ) → of ≡ Sequence ms → ks ≡ map (number_at number) ms → IfOk r (λ k. k ≡ length nodes) → OnOk r (new ≡ nodes ++ node.Sequence ks ∷ []) → IfOk r (IsTermNode t id of nodes new)
    added-sequence r new ms ks is e i n =
        let all : Each IsKnown ms = rw is at known in
        added r new (node.Sequence ks) i n (rw e (members-below ms all))
        (ap (λ ps. sequence (members_of ps)) (ap (map (model_in nodes)) e ∙ members-models ms all) ∙ sym (ap (term_model t (model_of t) id) is))

    pub added-choice : {E : Type 0} (r : Result ℕ E) (new : List Node) (ms ks : List ℕ) → of ≡ Choice ms → ks ≡ map (number_at number) ms → IfOk r (λ k. k ≡ length nodes) → OnOk r (new ≡ nodes ++ node.Choice ks ∷ []) → IfOk r (IsTermNode t id of nodes new)
    added-choice r new ms ks is e i n =
        let all : Each IsKnown ms = rw is at known in
        added r new (node.Choice ks) i n (rw e (members-below ms all))
        (ap (λ ps. choice (members_of ps)) (ap (map (model_in nodes)) e ∙ members-models ms all) ∙ sym (ap (term_model t (model_of t) id) is))

    pub added-all : {E : Type 0} (r : Result ℕ E) (new : List Node) (ms ks : List ℕ) → of ≡ All ms → ks ≡ map (number_at number) ms → IfOk r (λ k. k ≡ length nodes) → OnOk r (new ≡ nodes ++ node.Each ks ∷ []) → IfOk r (IsTermNode t id of nodes new)
    added-all r new ms ks is e i n =
        let all : Each IsKnown ms = rw is at known in
        added r new (node.Each ks) i n (rw e (members-below ms all))
        (ap (λ ps. all_of (members_of ps)) (ap (map (model_in nodes)) e ∙ members-models ms all) ∙ sym (ap (term_model t (model_of t) id) is))

    group-is : (g : ℕ) (d : GroupDef) (o : Option ℕ) → of ≡ Group g → slice_get t.groups.parts g ≡ Some d → d.particle ≡ o → group_particle t g ≡ o
    group-is g d o is at p = rw at p

    pub added-none : {E : Type 0} (r : Result ℕ E) (new : List Node) (g : ℕ) (d : GroupDef) (ks : List ℕ) → of ≡ Group g → slice_get t.groups.parts g ≡ Some d → d.particle ≡ None → ks ≡ [] →
        IfOk r (λ k. k ≡ length nodes) → OnOk r (new ≡ nodes ++ node.Choice ks ∷ []) → IfOk r (IsTermNode t id of nodes new)
    added-none r new g d ks is at p e i n =
        added r new (node.Choice ks) i n (rw e (All-nil (λ k. k < length nodes)))
        (ap (λ ks. node_model (models_from [] nodes) (node.Choice ks)) e ∙ sym (ap (term_model t (model_of t) id) is ∙ ap (group_model t (model_of t)) (group-is g d None is at p)))

    -- that of the group's own particle
    pub referred : (g : ℕ) (d : GroupDef) (p k : ℕ) → of ≡ Group g → slice_get t.groups.parts g ≡ Some d → d.particle ≡ Some p → k ≡ number_at number p → IsTermNode t id of nodes nodes k
    referred g d p k is at e f =
        let g_is = group-is g d (Some p) is at e in
        let below : Each IsKnown (listed (Some p)) = rw g_is at (rw is at known) in
        let both = known-at p (All-head IsKnown p [] below) in
        rw f (record {
          extends = record { ordered = λ o. o; more = omega arith; same = λ k l. refl };
          within = both.0;
          model = both.1 ∙ sym (ap (term_model t (model_of t) id) is ∙ ap (group_model t (model_of t)) g_is);
        })

-- ---- the nodes of a particle
module _ (t : Tables) (ranked : IsRanked t) (id : ℕ) (part : Part) (is : slice_get t.particles.parts id ≡ Some part)
    (number number' : ℕ → Option ℕ) (old mid new : List Node) (k : ℕ) (right : AreNodesOf t number old) (of : IsTermNode t id part.term old mid k)
    (push : new ≡ mid ++ node.Occurs k part.min part.max ∷ []) (hit : number' id ≡ Some (length mid)) (miss : (y : ℕ) → nat_eq id y ≡ false → number' y ≡ number y) where
  abbrev last : Node
  last = node.Occurs k part.min part.max

  grown : Extends old new
  grown = rw push (extends_then old mid (mid ++ last ∷ []) of.extends (pushed mid last of.within))

  longer : length new ≡ length mid + 1
  longer = ap length push ∙ length_push mid last

  model : model_in new (length mid) ≡ model_of t id
  model = ap (λ ns. model_in ns (length mid)) push ∙ (pushed-model mid last ∙ (ap (occurs part.min part.max) of.model ∙ sym (particle_model t ranked id part is)))

  one : (y j : ℕ) (b : Bool) → nat_eq id y ≡ b → number' y ≡ Some j → (j < length new) × (model_in new j ≡ model_of t y)
  one y j true e at =
      let same : id ≡ y = eqb-true id y e in
      let is_j : length mid ≡ j = same_Some (length mid) j (sym hit ∙ (ap number' same ∙ at)) in
      ((let l = longer in omega arith), subst (λ y. model_in new j ≡ model_of t y) same (subst (λ j. model_in new j ≡ model_of t id) is_j model))
  one y j false e at =
      let was : number y ≡ Some j = sym (miss y e) ∙ at in
      let l = right.within y j was in
      ((let m = grown.more in omega arith), grown.same j l ∙ right.models y j was)

  pub part-right : AreNodesOf t number' new
  part-right = record {
    ordered = grown.ordered right.ordered;
    within = λ y j at. (one y j (nat_eq id y) refl at).0;
    models = λ y j at. (one y j (nat_eq id y) refl at).1;
  }

pub itself-known : (number' : ℕ → Option ℕ) (id k : ℕ) → number' id ≡ Some k → IsSome (number' id)
itself-known number' id k hit = rw hit refl

pub others-known : (number number' : ℕ → Option ℕ) (id k : ℕ) → number' id ≡ Some k → ((y : ℕ) → nat_eq id y ≡ false → number' y ≡ number y) → (y : ℕ) → IsSome (number y) → IsSome (number' y)
others-known number number' id k hit miss y known = of (nat_eq id y) refl
  where
    of : (b : Bool) → nat_eq id y ≡ b → IsSome (number' y)
    of true e = subst (λ y. IsSome (number' y)) (eqb-true id y e) (itself-known number' id k hit)
    of false e = rw (miss y e) known

-- what is below a particle comes before it in the order of ranks
pub before : (t : Tables) (ranked : IsRanked t) (order : List ℕ) (i : ℕ) (Known : ℕ → Type 0) → i < length order → IsNonDecreasingBy (slice_index t.particles.ranks) order →
    Each (Contains order) (parts_of t (get_or order i 0)) → Each Known (take i order) → Each Known (parts_of t (get_or order i 0))
before t ranked order i Known within rises closed known = both (parts_of t x) closed (parts-below t ranked x)
  where
    x : ℕ
    x = get_or order i 0

    one : (y : ℕ) → Contains order y → IsBelow t.particles (slice_index t.particles.ranks (get_or order i 0)) y → Known y
    one y c low =
        let at : get_or order c.0 0 ≡ y = get_or_default order c.0 0 y c.1 ∙ c.2 in
        elim (cases_lt c.0 i) [
          | inl front ↦ (let short : c.0 < length (take i order) = rw (length-take-le i order (omega arith)) front in
              subst Known (get_or-take i order c.0 0 front ∙ at) (All-get_or Known (take i order) c.0 0 short known))
          | inr behind ↦ (let up : slice_index t.particles.ranks (get_or order i 0) ≤ slice_index t.particles.ranks (get_or order c.0 0) = rises i c.0 0 behind c.1 in
              let same : slice_index t.particles.ranks (get_or order c.0 0) ≡ slice_index t.particles.ranks y = ap (slice_index t.particles.ranks) at in
              let l = low.lower in absurd (omega arith))
        ]

    both : (ys : List ℕ) → Each (Contains order) ys → Each (IsBelow t.particles (slice_index t.particles.ranks (get_or order i 0))) ys → Each Known ys
    both ys c low = λ k d l. one (get_or ys k d) (c k d l) (low k d l)
